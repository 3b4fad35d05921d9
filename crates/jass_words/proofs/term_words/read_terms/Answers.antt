use Rattle.shared_lemmas.proofs.Common.{◌≡◌, arith, suc, ℕ, sym, subst, drop, take, length, ◌-◌, List, ◌<◌, ◌⊎◌}
use Rattle.jass_words.specs.Slots.{Terms}
use Rattle.jass_words.specs.Words.{texts}
use Rattle.jass_words.specs.Private.Faults.{IsBad, IsSomeTail}
use Rattle.jass_words.proofs.Terms.{behind, bad_terms, size_of_texts}
use Rattle.jass_words.proofs.term_words.read_terms.Goals as goal

pub returns-then-good-eq0-clause-fault : goal.returns-then-good-eq0-clause-fault
returns-then-good-eq0-clause-fault c =
    let slice = take (length c.args.words.now - c.args.place) (drop c.args.place c.args.words.now) in
    let size : length (texts slice) ≡ length slice = size_of_texts slice in (
      suc c.min-good.result,
      omega arith,
      subst (λ (ws : List (List ℕ)). IsBad (IsSomeTail Terms) ws (suc c.min-good.result)) (behind c.args.words.now c.args.place)
          (bad_terms (texts slice) c.terms_in.result c.min-good.result c.min-good.ensures (omega (arith, size, c.terms_in.ensures.within)) c.terms_in.ensures.terms c.terms_in.ensures.next
          (subst (λ (n : ℕ). (c.min-good.result ≡ 0) ⊎ ((c.min-good.result ≡ 0 → ⊥) × (c.min-good.result < n))) (sym size) c.then-good-eq0.either)),
    )

pub returns-clause-terms : goal.returns-clause-terms
returns-clause-terms c = behind c.args.words.now c.args.place
