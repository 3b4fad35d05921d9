-- The order computes, and of the two entries of document 1 the terms begin with other bytes.
use Rattle.shared_lemmas.proofs.Common.{◌≡◌, ◌≢◌, ◌<◌, ◌≤◌, ℕ, List, refl, ap, get_or, arith, nat_cmp, slice_cmp, nat_list_cmp_total, All-from_recursion}
use Rattle.shared_lemmas.proofs.Pairs.{pairs_by_places}
use Rattle.ranking_model.specs.declared.entry.Entry.{Entry}
use Rattle.ranking_model.specs.Flat.{entry_cmp}
use Rattle.ranking_model.proofs.Orders.{entry_total}
use Rattle.ranking_model.proofs.Sorting.{sorted_ascending}
use Rattle.ranking_model.specs.Examples.{pets, falling}
use Rattle.ranking_model.proofs.examples.the_small_indexes_are_flat.Goals as goal

abbrev Once : Entry (List ℕ) → Entry (List ℕ) → Type 0
Once a b = a.term ≡ b.term → a.doc ≢ b.doc

abbrev Fits : Entry (List ℕ) → Type 0
Fits e = (1 ≤ e.impact) × (e.impact ≤ 65535)

pub returns-clause-pets : goal.returns-clause-pets
returns-clause-pets c = record {
  order = sorted_ascending (entry_cmp (slice_cmp nat_cmp)) (entry_total (slice_cmp nat_cmp) nat_list_cmp_total) pets
      ((refl, (refl, (refl, (refl, tt)))), ((refl, (refl, (refl, tt))), ((refl, (refl, tt)), ((refl, tt), (tt, tt)))));
  once = pairs_by_places Once pets (
    (λ t d. absurd (omega arith), (λ t d. absurd (omega arith), (λ t d. absurd (omega arith), (λ t d. absurd (omega arith), tt)))),
    (
      (λ t d. absurd (omega arith), (λ t d. absurd (omega arith), (λ t d. absurd (let first : 99 ≡ 100 = ap (λ (l : List ℕ). get_or l 0 0) t in omega arith), tt))),
      ((λ t d. absurd (omega arith), (λ t d. absurd (omega arith), tt)), ((λ t d. absurd (omega arith), tt), (tt, tt))),
    ),
  );
  documents = All-from_recursion (λ (e : Entry (List ℕ)). e.doc < 4) pets (omega arith, (omega arith, (omega arith, (omega arith, (omega arith, tt)))));
  impacts = All-from_recursion Fits pets ((omega arith, omega arith), ((omega arith, omega arith), ((omega arith, omega arith), ((omega arith, omega arith), ((omega arith, omega arith), tt)))));
}

pub returns-clause-falling : goal.returns-clause-falling
returns-clause-falling c = record {
  order = sorted_ascending (entry_cmp (slice_cmp nat_cmp)) (entry_total (slice_cmp nat_cmp) nat_list_cmp_total) falling ((refl, (refl, tt)), ((refl, tt), (tt, tt)));
  once = pairs_by_places Once falling ((λ t d. absurd (omega arith), (λ t d. absurd (omega arith), tt)), ((λ t d. absurd (omega arith), tt), (tt, tt)));
  documents = All-from_recursion (λ (e : Entry (List ℕ)). e.doc < 3) falling (omega arith, (omega arith, (omega arith, tt)));
  impacts = All-from_recursion Fits falling ((omega arith, omega arith), ((omega arith, omega arith), ((omega arith, omega arith), tt)));
}
