use Rattle.std.proofs.Common.{◌≡◌, ◌-◌, ◌≤◌, ◌^◌, [], length, drop, All, map, AllPairs}
use Rattle.ciff_read.proofs.Below.{list_data, HasDocsBelow, DifferInTerm}
use Rattle.ciff_read.specs.Reading.{lists_at}
use Rattle.ciff_read.specs.Counts.{posting_count}
use Rattle.ciff_read.proofs.Sequences.{with_lists}
use Rattle.ciff_read.proofs.collection.fill_lists.Given as goal

abbrev pub invariant-lists : goal.invariant-lists
invariant-lists l = record {
  read : lists_at l.count l.docs 0 [] l.from (drop l.from l.bytes) ≡ with_lists (map list_data l.lists) (lists_at (l.count - l.counter) l.docs l.before (map (λ t. t.now) l.terms.keys) l.at (drop l.at l.bytes));
  within : l.at ≤ length l.bytes;
  few : l.before ≤ 2 ^ 29;
  counted : l.before ≡ posting_count l.lists;
  count : length l.lists ≡ l.counter;
  below : All (HasDocsBelow l.docs) l.lists;
  terms : map (λ t. t.now) l.terms.keys ≡ map (λ list. list.term) l.lists;
  differ : AllPairs DifferInTerm l.lists;
}
