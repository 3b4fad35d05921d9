use Rattle.std.proofs.Common.{◌≡◌, ◌≤◌, ◌+◌, ◌*◌, ◌^◌, length, drop, map, max}
use Rattle.index_layout.specs.Heads.{all_heads, greatest_impact, head_postings, payloads_size}
use Rattle.index_write.specs.Streaming.{entry_data}
use Rattle.index_write.proofs.sums.heads_sums.Given as goal

abbrev pub invariant-loop-entry : goal.invariant-loop-entry
invariant-loop-entry l = record {
  postings : l.postings + head_postings (map entry_data (drop l.entry-index l.entries)) ≡ head_postings (map entry_data l.entries);
  greatest : max l.greatest (greatest_impact (map entry_data (drop l.entry-index l.entries))) ≡ greatest_impact (map entry_data l.entries);
  payloads : l.payloads + payloads_size (map entry_data (drop l.entry-index l.entries)) ≡ payloads_size (map entry_data l.entries);
  few_postings : l.postings + 2 ^ 32 * length (all_heads (map entry_data (drop l.entry-index l.entries))) ≤ 2 ^ 32 * length (all_heads (map entry_data l.entries));
  few_bytes : l.payloads + 2 ^ 32 * length (all_heads (map entry_data (drop l.entry-index l.entries))) ≤ 2 ^ 32 * length (all_heads (map entry_data l.entries));
  within : length (all_heads (map entry_data (drop l.entry-index l.entries))) ≤ length (all_heads (map entry_data l.entries));
}
