use Rattle.std.proofs.Common.{◌≡◌, ◌∙◌, ap, sym, map, slice_index, refl}
use Rattle.segment_codecs.specs.declared.codec.Codec.TheVariants.{Varbyte, Packed, Bitmap, Simple8}
use Rattle.index_file.proofs.Below.{FileView}
use Rattle.index_file.proofs.CodecUses.{all_head_codecs, head_codec}
use Rattle.index_file.specs.Places.{all_codecs, uses_of}
use Rattle.index_file.proofs.file.IndexFile.codecs.Goals as goal

pub returns : goal.returns
returns c =
    let f = c.self.inside in
    let codecs = c.args.self.now.codecs in
    let counted = c.codec_uses-uses.result in
    let told = c.codec_uses-uses.ensures in
    let all : map head_codec f.terms.heads ≡ all_codecs codecs =
    sym (ap (λ (v : FileView). all_codecs v.codecs) (sym c.self.view_is) ∙ ap all_codecs c.self.invariant.stands.codecs
    ∙ all_head_codecs f.terms.heads f.terms.text f.terms.rows c.self.invariant.stands.rows) in
    let one : slice_index counted 0 ≡ uses_of Varbyte (all_codecs codecs) = told Varbyte ∙ ap (uses_of Varbyte) all in
    let two : slice_index counted 1 ≡ uses_of Packed (all_codecs codecs) = told Packed ∙ ap (uses_of Packed) all in
    let three : slice_index counted 2 ≡ uses_of Bitmap (all_codecs codecs) = told Bitmap ∙ ap (uses_of Bitmap) all in
    let four : slice_index counted 3 ≡ uses_of Simple8 (all_codecs codecs) = told Simple8 ∙ ap (uses_of Simple8) all in
    rw (one, two, three, four) refl
