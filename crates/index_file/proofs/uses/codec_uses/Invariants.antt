use Rattle.std.proofs.Common.{◌≡◌, ◌≤◌, ℕ, length, map, take, slice_index}
use Rattle.segment_codecs.specs.Codecs.{codec_number}
use Rattle.segment_codecs.specs.declared.codec.Codec.{Codec}
use Rattle.index_layout.specs.Heads.{HeadData}
use Rattle.index_file.specs.Places.{uses_of}
use Rattle.index_file.proofs.uses.codec_uses.Given as goal

abbrev pub invariant-heads : goal.invariant-heads
invariant-heads l = record {
  uses : (codec : Codec) → slice_index l.uses (codec_number codec) ≡ uses_of codec (map (λ (h : HeadData). h.codec) (take l.i l.heads));
  four : length l.uses ≡ 4;
  most : (i : ℕ) → slice_index l.uses i ≤ l.i;
}
