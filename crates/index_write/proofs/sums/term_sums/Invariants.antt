use Rattle.std.proofs.Common.{◌≡◌, ◌≤◌, ◌*◌, ◌^◌, drop, map, take, max, sum_by}
use Rattle.index_layout.specs.Heads.{HeadData, greatest_of}
use Rattle.index_write.specs.Chosen.{head_data}
use Rattle.index_write.proofs.sums.term_sums.Given as goal

abbrev pub invariant-loop-head : goal.invariant-loop-head
invariant-loop-head l = record {
  postings : l.postings ≡ sum_by (λ (h : HeadData). h.count) (map head_data (take l.head-index l.heads));
  greatest : max l.greatest (greatest_of (map head_data (drop l.head-index l.heads))) ≡ greatest_of (map head_data l.heads);
  payloads : l.payloads ≡ sum_by (λ (h : HeadData). h.size) (map head_data (take l.head-index l.heads));
  few_postings : l.postings ≤ 2 ^ 32 * l.head-index;
  few_bytes : l.payloads ≤ 2 ^ 32 * l.head-index;
}
