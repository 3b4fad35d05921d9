use Rattle.std.proofs.Common.{◌≡◌, ◌++◌, drop, length, map}
use Rattle.index_import.specs.Private.KeptPostings.{posting_in}
use Rattle.index_import.proofs.kept_postings.few_words.Given as goal

abbrev pub invariant-loop-posting : goal.invariant-loop-posting
invariant-loop-posting l = record {
  words : map posting_in l.words.items ++ drop l.posting-index l.postings ≡ l.postings;
  count : length l.words.items ≡ l.posting-index;
}
