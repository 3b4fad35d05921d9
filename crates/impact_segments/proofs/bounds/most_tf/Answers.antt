-- No frequency is above the greatest.
use Rattle.shared_lemmas.proofs.Common.{◌≡◌, ◌≤◌, ℕ, List, fold, max, subst, sym, All, drop_all, All-from_recursion}
use Rattle.jass_base.specs.declared.posting.Posting.{Posting}
use Rattle.impact_segments.specs.Bounds.{most_tf}
use Rattle.impact_segments.proofs.Unwidened.{to_most}
use Rattle.impact_segments.proofs.bounds.most_tf.Goals as goal

pub returns-clause-each : goal.returns-clause-each
returns-clause-each c =
    let ps = c.args.postings.now in
    let greatest : c.loop-posting.most ≡ most_tf ps
    = subst (λ (rest : List Posting). fold (λ (most : ℕ) (p : Posting). max most p.tf) c.loop-posting.most rest ≡ most_tf ps) (drop_all c.loop-posting.posting-index ps c.loop-posting-test.false) c.loop-posting.invariant.value in
    subst (λ (n : ℕ). All (λ (p : Posting). p.tf ≤ n) ps) (sym greatest) (All-from_recursion (λ (p : Posting). p.tf ≤ most_tf ps) ps (to_most 1 ps))
