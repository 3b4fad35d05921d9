-- The heads and the payloads are those of the segments.
use Rattle.shared_lemmas.proofs.Common.{ℕ, ◌≡◌, ◌++◌, List, append_assoc, ap, arith, length, length-map, map, subst, sym, ◌∙◌}
use Rattle.index_import.proofs.Below.{HeadData, chosen_head, head_data}
use Rattle.index_import.specs.Private.Spelling.{PutsTerm}
use Rattle.index_import.proofs.spelling.Speller.put.Goals as goal

pub push-requires-clause-heads : goal.push-requires-clause-heads
push-requires-clause-heads c =
    let many : length c.spell_segments.new.heads ≡ length c.args.self.now.segments
    = sym (length-map c.spell_segments.new.heads head_data) ∙ ap length c.in_ok-spell_segments.ensures.heads ∙ length-map c.args.self.now.segments (chosen_head _) in
    omega (arith, ap length c.as_slice.ensures, many, c.requires.few)

pub returns-clause-terms : goal.returns-clause-terms
returns-clause-terms c =
    subst (λ (heads : List HeadData). PutsTerm c.args.self.now.terms c.push.new.self (record { term = c.args.term.now; heads = heads }))
    (ap (map head_data) c.as_slice.ensures ∙ c.in_ok-spell_segments.ensures.heads) c.in_ok-push.ensures

pub returns-clause-payloads : goal.returns-clause-payloads
returns-clause-payloads c =
    c.in_ok-push_full.ensures ∙ ap (λ (bytes : List ℕ). c.args.self.now.payloads ++ bytes) c.in_ok-spell_segments.ensures.payloads
    ∙ sym (append_assoc c.args.self.now.payloads c.args.self.now.block _)
