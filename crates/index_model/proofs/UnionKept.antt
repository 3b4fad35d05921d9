-- The union of parts keeps what an index keeps.
use Rattle.shared_lemmas.proofs.Common.{◌≡◌, ◌≢◌, ℕ, ◌+◌, ◌<◌, ◌≤◌, ◌^◌, List, [], ◌∷◌, ◌++◌, length, sym, subst, arith, AllByRecursion, slice_cmp, nat_cmp, nat_list_cmp_total, recursion_from_All, All-from_recursion}
use Rattle.std.proofs.Common.{length-append}
use Rattle.shared_lemmas.proofs.Lists.{all_weaker, all_both, all_append, all_map, all_across, all_flat}
use Rattle.shared_lemmas.proofs.Pairs.{Pairs, pairs_append, pairs_by_places, pairs_by_recursion, pairs_map, pairs_weaker}
use Rattle.jass_base.specs.Limits.{IsName, IsText}
use Rattle.ranking_model.specs.declared.entry.Entry.{Entry}
use Rattle.ranking_model.specs.Flat.{entry_cmp, IsFlat}
use Rattle.ranking_model.specs.Order.{sorted}
use Rattle.ranking_model.proofs.Orders.{entry_total}
use Rattle.ranking_model.proofs.Sorting.{all_sorted, pairs_sorted, sorted_ascending, sorted_ascends}
use Rattle.index_model.specs.Index.{TermData, IndexData, IsTerm, IsWellFormed}
use Rattle.index_model.specs.Flat.{term_entries, flat_of_terms, flat_of}
use Rattle.index_model.specs.Unions.{raised_entries, union_names, union_entries, union_of}
use Rattle.index_model.proofs.FlatOrder.{bytes_flat}
use Rattle.index_model.proofs.Numbers.{own_entries}
use Rattle.index_model.proofs.Regrouped.{HasText, made_of_flat}

abbrev TextEntry : Type 0
TextEntry = Entry (List ℕ)

raised : ℕ → TextEntry → TextEntry
raised base e = record { term = e.term; doc = base + e.doc; impact = e.impact }

abbrev Once : TextEntry → TextEntry → Type 0
Once a b = a.term ≡ b.term → a.doc ≢ b.doc

-- what an entry of parts keeps: its document is from `low` on and below `high`
record IsOfParts (low high : ℕ) (e : TextEntry) : Type 0 where
  from : low ≤ e.doc
  below : e.doc < high
  impact : (1 ≤ e.impact) × (e.impact ≤ 65535)
  text : HasText e

pub texts_have : (d : ℕ) (terms : List TermData) → AllByRecursion (IsTerm d) terms → AllByRecursion HasText (flat_of_terms terms)
texts_have d terms are = all_flat HasText (λ (t : TermData). term_entries t.term t.segments) terms
    (all_weaker (IsTerm d) (λ (t : TermData). AllByRecursion HasText (term_entries t.term t.segments))
    (λ t is. all_weaker (λ (e : TextEntry). e.term ≡ t.term) HasText (λ e own. subst (λ (term : List ℕ). IsText term × (length term ≤ 65535)) (sym own) (is.text, is.fits)) (term_entries t.term t.segments) (own_entries t.term t.segments)) terms are)

-- an entry of a part
record IsOfPart (d : ℕ) (e : TextEntry) : Type 0 where
  doc : e.doc < d
  impact : (1 ≤ e.impact) × (e.impact ≤ 65535)
  text : HasText e

part_entries : (p : IndexData) → IsWellFormed p → AllByRecursion (IsOfPart (length p.names)) (flat_of p)
part_entries p is =
    let d = length p.names in
    let flat = bytes_flat p is in
    all_weaker (λ (e : TextEntry). (e.doc < d) × (((1 ≤ e.impact) × (e.impact ≤ 65535)) × HasText e)) (IsOfPart d) (λ e h. record { doc = h.0; impact = h.1.0; text = h.1.1 }) (flat_of p)
    (all_both (λ (e : TextEntry). e.doc < d) (λ (e : TextEntry). ((1 ≤ e.impact) × (e.impact ≤ 65535)) × HasText e) (flat_of p) (recursion_from_All (λ (e : TextEntry). e.doc < d) (flat_of p) flat.documents)
    (all_both (λ (e : TextEntry). (1 ≤ e.impact) × (e.impact ≤ 65535)) HasText (flat_of p) (recursion_from_All (λ (e : TextEntry). (1 ≤ e.impact) × (e.impact ≤ 65535)) (flat_of p) flat.impacts)
    (texts_have d p.terms (recursion_from_All (IsTerm d) p.terms is.terms))))

raised_are : (base : ℕ) (p : IndexData) → IsWellFormed p → AllByRecursion (IsOfParts base (base + length p.names)) (raised_entries base (flat_of p))
unfolding raised
raised_are base p is = all_map (IsOfParts base (base + length p.names)) (raised base) (flat_of p)
    (all_weaker (IsOfPart (length p.names)) (λ (e : TextEntry). IsOfParts base (base + length p.names) (raised base e)) (λ e k. record { from = omega arith; below = omega (arith, k.doc); impact = k.impact; text = k.text }) (flat_of p) (part_entries p is))

entries_are : (base : ℕ) (parts : List IndexData) → AllByRecursion IsWellFormed parts → AllByRecursion (IsOfParts base (base + length (union_names parts))) (union_entries base parts)
entries_are base [] are = tt
entries_are base (p ∷ parts) are =
    let later = base + length p.names in
    let end = base + length (p.names ++ union_names parts) in
    let same : later + length (union_names parts) ≡ end = omega (arith, length-append p.names (union_names parts)) in
    all_append (IsOfParts base end) (raised_entries base (flat_of p)) (union_entries later parts)
    (all_weaker (IsOfParts base later) (IsOfParts base end) (λ e k. record { from = k.from; below = omega (arith, k.below, same); impact = k.impact; text = k.text }) (raised_entries base (flat_of p)) (raised_are base p are.0))
    (all_weaker (IsOfParts later (later + length (union_names parts))) (IsOfParts base end) (λ e k. record { from = omega (arith, k.from); below = omega (arith, k.below, same); impact = k.impact; text = k.text }) (union_entries later parts) (entries_are later parts are.1))

entries_once : (base : ℕ) (parts : List IndexData) → AllByRecursion IsWellFormed parts → Pairs Once (union_entries base parts)
unfolding raised
entries_once base [] are = tt
entries_once base (p ∷ parts) are =
    let later = base + length p.names in
    pairs_append Once (raised_entries base (flat_of p)) (union_entries later parts)
    (pairs_map Once (raised base) (flat_of p) (pairs_weaker Once (λ (a b : TextEntry). a.term ≡ b.term → base + a.doc ≢ base + b.doc) (λ a b once same e. once same (omega (arith, e))) (flat_of p) (pairs_by_recursion Once (flat_of p) (bytes_flat p are.0).once)))
    (entries_once later parts are.1)
    (all_across (IsOfParts base later) (IsOfParts later (later + length (union_names parts))) Once (λ a b h k same e. absurd (omega (arith, h.below, k.from, e)))
    (raised_entries base (flat_of p)) (union_entries later parts) (raised_are base p are.0) (entries_are later parts are.1))

pub union_is_flat : (parts : List IndexData) → AllByRecursion IsWellFormed parts → IsFlat (slice_cmp nat_cmp) (length (union_names parts)) (sorted (entry_cmp (slice_cmp nat_cmp)) (union_entries 0 parts))
union_is_flat parts are =
    let d = length (union_names parts) in
    let cmp = entry_cmp (slice_cmp nat_cmp) in
    let flat = union_entries 0 parts in
    let total = entry_total (slice_cmp nat_cmp) nat_list_cmp_total in
    let all = all_sorted cmp (IsOfParts 0 (0 + d)) flat (entries_are 0 parts are) in
    record {
      order = sorted_ascending cmp total (sorted cmp flat) (sorted_ascends cmp total flat);
      once = pairs_by_places Once (sorted cmp flat) (pairs_sorted cmp Once (λ a b once same e. once (sym same) (sym e)) flat (entries_once 0 parts are));
      documents = All-from_recursion (λ (e : TextEntry). e.doc < d) (sorted cmp flat) (all_weaker (IsOfParts 0 (0 + d)) (λ (e : TextEntry). e.doc < d) (λ e k. omega (arith, k.below)) (sorted cmp flat) all);
      impacts = All-from_recursion (λ (e : TextEntry). (1 ≤ e.impact) × (e.impact ≤ 65535)) (sorted cmp flat) (all_weaker (IsOfParts 0 (0 + d)) (λ (e : TextEntry). (1 ≤ e.impact) × (e.impact ≤ 65535)) (λ e k. k.impact) (sorted cmp flat) all);
    }

pub union_well_formed : (parts : List IndexData) → AllByRecursion IsWellFormed parts → length (union_names parts) ≤ 2 ^ 26 → IsWellFormed (union_of parts)
unfolding union_of
union_well_formed parts are few =
    let d = length (union_names parts) in
    let cmp = entry_cmp (slice_cmp nat_cmp) in
    let flat = union_entries 0 parts in
    made_of_flat (union_names parts) (sorted cmp flat) few
    (All-from_recursion IsName (union_names parts) (all_flat IsName (λ (p : IndexData). p.names) parts (all_weaker IsWellFormed (λ (p : IndexData). AllByRecursion IsName p.names) (λ p is. recursion_from_All IsName p.names is.names) parts are)))
    (All-from_recursion IsText (union_names parts) (all_flat IsText (λ (p : IndexData). p.names) parts (all_weaker IsWellFormed (λ (p : IndexData). AllByRecursion IsText p.names) (λ p is. recursion_from_All IsText p.names is.names_are_text) parts are)))
    (union_is_flat parts are)
    (All-from_recursion HasText (sorted cmp flat) (all_weaker (IsOfParts 0 (0 + d)) HasText (λ e k. k.text) (sorted cmp flat) (all_sorted cmp (IsOfParts 0 (0 + d)) flat (entries_are 0 parts are))))
