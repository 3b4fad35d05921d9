use Rattle.std.proofs.Common.{◌^◌, ◌/◌, ap, ◌∙◌}
use Rattle.jass_base.specs.Gaps.{gaps_from}
use Rattle.codec_packed.specs.Packing.{packed_gaps}
use Rattle.codec_packed.proofs.Docs.{from_docs, from_wider}
use Rattle.codec_packed.proofs.cursor.Cursor.new.Goals as goal

pub returns : goal.returns
returns c = λ bytes docs are many is. record {
  left = many;
  spelled = is ∙ ap (λ n. packed_gaps (n / 128) (gaps_from 0 docs)) many;
  rising = from_wider c.args.d (2 ^ 26) 0 docs are.limit (from_docs c.args.d docs are);
}
