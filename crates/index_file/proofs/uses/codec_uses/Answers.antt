use Rattle.std.proofs.Common.{◌+◌, slice_index, ap, ◌∙◌, arith, length-set}
use Rattle.segment_codecs.specs.Codecs.{codec_number}
use Rattle.index_file.proofs.Below.{HeadData}
use Rattle.index_file.proofs.CodecUses.{set_by_one, uses_on}
use Rattle.index_file.proofs.uses.codec_uses.Goals as goal

pub heads-preserved : goal.heads-preserved
heads-preserved c =
    let uses = c.heads.uses in
    let k = c.at-codec.result.codec in
    let is = ap (λ (h : HeadData). h.codec) c.at-codec.ensures in
    let four = c.heads.invariant.four in
    let test = c.heads-test.true in
    let len = c.len-i-end.ensures in
    rw c.number.ensures (record {
      uses = λ codec. uses_on uses c.args.heads.now c.heads.i codec k (omega (arith, test, len)) is four (c.heads.invariant.uses codec);
      four = length-set uses (codec_number k) (slice_index uses (codec_number k) + 1) ∙ four;
      most = λ i. (let before = c.heads.invariant.most i in let more = set_by_one uses (codec_number k) i in omega (arith, before, more));
    })
