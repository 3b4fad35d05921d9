use Rattle.std.proofs.Common.{◌≡◌, ◌*◌, ◌<◌, ℕ, length, slice_index}
use Rattle.index_file.specs.Private.Samples.{first_eight, text_at}
use Rattle.index_file.proofs.samples.sample_terms.Given as goal

abbrev pub invariant-samples : goal.invariant-samples
invariant-samples l = record {
  count : length l.samples ≡ l.i;
  told : (i : ℕ) → i < l.i → slice_index l.samples i ≡ first_eight (text_at l.text l.rows (64 * i));
}
