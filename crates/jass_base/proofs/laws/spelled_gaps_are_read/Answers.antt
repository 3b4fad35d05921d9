use Rattle.std.proofs.Common.{arith}
use Rattle.jass_base.proofs.Gaps.{rise_from_all, rising, from_least}
use Rattle.jass_base.proofs.GapLists.{docs_found, are_read, bytes_read}
use Rattle.jass_base.proofs.laws.spelled_gaps_are_read.Goals as goal

pub returns : goal.returns
returns c = record {
  found = λ d least docs rising all below limit. docs_found d least docs (rise_from_all least docs rising all) below limit;
  bytes = bytes_read;
  count = λ d least count docs bytes is. (are_read d least count docs bytes is).count_is;
  rising = λ d least count docs bytes is. rising least docs (are_read d least count docs bytes is).rise;
  from_least = λ d least count docs bytes is. from_least least least docs (are_read d least count docs bytes is).rise (omega arith);
  below = λ d least count docs bytes is. (are_read d least count docs bytes is).below;
}
