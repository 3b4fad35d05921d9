use Rattle.std.proofs.Common.{◌≡◌, ◌≤◌, ◌++◌, drop, length, map, vec_capacity}
use Rattle.index_import.specs.Private.KeptPostings.{posting_in}
use Rattle.index_import.proofs.kept_postings.many_words.Given as goal

abbrev pub invariant-loop-posting : goal.invariant-loop-posting
invariant-loop-posting l = record {
  words : map posting_in l.words.items ++ drop l.posting-index l.postings ≡ l.postings;
  count : length l.words.items ≡ l.posting-index;
  room : length l.postings ≤ vec_capacity l.words;
}
