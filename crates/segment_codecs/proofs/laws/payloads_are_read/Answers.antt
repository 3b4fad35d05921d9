use Rattle.std.proofs.Common.{◌≡◌, ℕ, ◌≤◌, ◌<◌, ◌^◌, List, length, All, Ok}
use Rattle.jass_base.specs.Gaps.{AreDocs}
use Rattle.segment_codecs.specs.Codecs.{payload_of, read_payload}
use Rattle.segment_codecs.specs.declared.codec.Codec.{Codec}
use Rattle.segment_codecs.specs.declared.codec.Codec.TheVariants.{Varbyte, Packed, Bitmap, Simple8}
use Rattle.segment_codecs.proofs.laws.payloads_are_read.Goals as goal

-- only the payloads of a codec are read
abbrev OnlyPayloads : Codec → Type 0
OnlyPayloads codec = (d count : ℕ) (docs bytes : List ℕ) → 1 ≤ count → d ≤ 2 ^ 26 → All (λ byte. byte < 256) bytes → read_payload codec d count bytes ≡ Ok docs
    → AreDocs d docs × (length docs ≡ count) × (bytes ≡ payload_of codec d docs)

of_each : OnlyPayloads Varbyte → OnlyPayloads Packed → OnlyPayloads Bitmap → OnlyPayloads Simple8 → (codec : Codec) → OnlyPayloads codec
of_each varbyte packed bitmap simple8 Varbyte = varbyte
of_each varbyte packed bitmap simple8 Packed = packed
of_each varbyte packed bitmap simple8 Bitmap = bitmap
of_each varbyte packed bitmap simple8 Simple8 = simple8

pub returns-clause-only : goal.returns-clause-only
returns-clause-only c = of_each c.payloads_are_read.ensures.only c.payloads_are_read-2.ensures.only c.payloads_are_read-3.ensures.only c.payloads_are_read-4.ensures.only
