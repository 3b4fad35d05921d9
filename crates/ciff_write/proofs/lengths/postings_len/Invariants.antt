use Rattle.std.proofs.Common.{◌≡◌, ◌+◌, ◌*◌, ◌<◌, ◌≤◌, length, drop, get_or}
use Rattle.ciff_write.proofs.Below.{docs_of, postings_spelling}
use Rattle.ciff_write.proofs.lengths.postings_len.Given as goal

abbrev pub invariant-loop-posting : goal.invariant-loop-posting
invariant-loop-posting l = record {
  next : l.posting-index < length l.postings → l.last ≤ get_or (docs_of l.postings) l.posting-index 0;
  len : l.len + length (postings_spelling l.last (drop l.posting-index l.postings)) ≡ length (postings_spelling 0 l.postings);
  few : l.len ≤ 24 * l.posting-index;
}
