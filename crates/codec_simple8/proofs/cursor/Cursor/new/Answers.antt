use Rattle.shared_lemmas.proofs.Common.{◌<◌, ◌^◌, ◌∙◌, sym, arith, All-weaker}
use Rattle.jass_base.proofs.Gaps.{length-gaps_from}
use Rattle.jass_base.specs.Gaps.{gaps_of}
use Rattle.codec_simple8.proofs.Docs.{docs_again}
use Rattle.codec_simple8.proofs.cursor.Cursor.new.Goals as goal

pub returns : goal.returns
returns c = λ bytes docs are count is. record {
  gaps = gaps_of docs;
  docs_are = sym (docs_again docs are.rising);
  words = is;
  left = sym (length-gaps_from 0 docs ∙ count);
  below = All-weaker (λ doc. doc < c.args.d) (λ doc. doc < 2 ^ 26) (λ doc low. omega (arith, low, are.limit)) docs are.below;
}
