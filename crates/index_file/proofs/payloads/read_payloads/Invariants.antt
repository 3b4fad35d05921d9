use Rattle.std.proofs.Common.{◌≡◌, ◌≤◌, ◌<◌, ◌+◌, ℕ, List, All, length, take, drop}
use Rattle.index_file.proofs.Below.{read_payloads, with_index}
use Rattle.index_file.specs.Private.Payloads.{IsPlaced, row_terms}
use Rattle.index_file.specs.Private.Tables.{heads_between, row_at, row_heads}
use Rattle.index_file.proofs.payloads.read_payloads.Given as goal

abbrev pub invariant-terms : goal.invariant-terms
invariant-terms l = record {
  read : (text : List ℕ) → read_payloads l.bytes l.docs (row_heads l.heads text l.rows) 0
      ≡ with_index (row_terms l.bytes l.docs l.heads text l.groups (take (l.i + 1) l.rows)) (read_payloads l.bytes l.docs (row_heads l.heads text (drop l.i l.rows)) l.at);
  placed : (t : ℕ) → t < l.i → IsPlaced l.bytes l.docs l.groups (row_at l.rows t) (heads_between l.heads (row_at l.rows t) (row_at l.rows (t + 1)));
  groups : length l.groups ≡ (row_at l.rows l.i).group;
  marks : All (λ mark. mark ≤ l.now) l.marks;
  count : l.docs ≤ length l.marks;
  at : l.at ≤ length l.bytes;
}
