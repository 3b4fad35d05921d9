use Rattle.std.proofs.Common.{◌<◌, ◌≤◌, length, drop, get_or}
use Rattle.ciff_write.proofs.Below.{docs_of, postings_spelling, GathersUpTo}
use Rattle.ciff_write.proofs.postings_list.put_postings.Given as goal

abbrev pub invariant-loop-posting : goal.invariant-loop-posting
invariant-loop-posting g l = record {
  next : l.posting-index < length l.postings → l.last ≤ get_or (docs_of l.postings) l.posting-index 0;
  text : GathersUpTo g.S.Sink.written g.S.Sink.faults g.S.Sink.rest l.fn.out l.out l.fn.buffer l.buffer (postings_spelling 0 l.postings) (postings_spelling l.last (drop l.posting-index l.postings));
}
