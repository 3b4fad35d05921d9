-- Each list gives one term more.
use Rattle.std.proofs.Common.{◌≡◌, ℕ, ◌+◌, ◌<◌, ◌≤◌, List, length, get_or, drop, sym, subst, All, nat_cmp}
use Rattle.std.specs.Cmp.Lexicographic.{slice_cmp}
use denote.Ref.{Bor}
use Rattle.impact_segments.proofs.Below.{PostingsList, TermSegments, HasDocsBelow, IsInRange, sorted, entry_cmp, Entry}
use Rattle.impact_segments.specs.Private.Weighed.{list_weights, list_entries}
use Rattle.impact_segments.specs.Private.Listed.{lists_behind}
use Rattle.impact_segments.proofs.OneTerm.{Built, built_more, all_map_at}
use Rattle.impact_segments.proofs.terms.terms_of.Goals as goal

-- what holds of each list behind a reference holds of the one that was read
read : (P : PostingsList → Type 0) (lists : List (Bor PostingsList)) (i : ℕ) (r : Bor PostingsList) → i < length lists → r ≡ get_or lists i r → All P (lists_behind lists) → P r.now
read P lists i r low is h = let Q : Bor PostingsList → Type 0 = λ (x : Bor PostingsList). P x.now in subst Q (sym is) (all_map_at P (λ (x : Bor PostingsList). x.now) lists i r low h)

pub term_of-requires-clause-some : goal.term_of-requires-clause-some
term_of-requires-clause-some c = read (λ (l : PostingsList). 1 ≤ length l.postings) c.args.lists.now c.loop-list.list-index c.list-item.result c.loop-list-test.true c.list-item.is c.requires.some

pub term_of-requires-clause-below : goal.term_of-requires-clause-below
term_of-requires-clause-below c = read (HasDocsBelow (length c.args.weigher.now.docs.now)) c.args.lists.now c.loop-list.list-index c.list-item.result c.loop-list-test.true c.list-item.is c.requires.below

pub term_of-requires-clause-in_range : goal.term_of-requires-clause-in_range
term_of-requires-clause-in_range c = read (λ (l : PostingsList). All (IsInRange c.args.bits c.args.range) (list_weights c.args.weigher.now.rule c.args.weigher.now.docs.now l)) c.args.lists.now c.loop-list.list-index c.list-item.result c.loop-list-test.true c.list-item.is c.requires.in_range

pub loop-list-preserved : goal.loop-list-preserved
loop-list-preserved c =
    let entries : PostingsList → List (Entry (List ℕ)) = λ (p : PostingsList). sorted (entry_cmp (slice_cmp nat_cmp)) (list_entries c.args.weigher.now.rule c.args.weigher.now.docs.now c.args.bits c.args.range p) in
    let more = built_more entries (length c.args.weigher.now.docs.now) c.args.lists.now c.loop-list.terms c.in_ok-term.term c.loop-list.list-index c.list-item.result c.loop-list-test.true c.list-item.is
    c.in_ok-term.ensures.term c.in_ok-term.ensures.entries c.in_ok-term.ensures.docs c.loop-list.invariant in
    let P : List TermSegments → Type 0 = λ (l : List TermSegments). Built entries (length c.args.weigher.now.docs.now) c.args.lists.now l (drop (c.loop-list.list-index + 1) c.args.lists.now) in
    subst P (sym c.in_ok-push.ensures.ok) more
