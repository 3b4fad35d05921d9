use Rattle.std.proofs.Common.{ap, ◌∙◌, sym, arith}
use Rattle.jass_base.specs.Gaps.{gaps_from, spelled_gaps, read_gaps}
use Rattle.codec_packed.proofs.Docs.{from_rising, rising_from, below_from, least_from}
use Rattle.codec_packed.proofs.laws.tails_are_read.Goals as goal

pub returns : goal.returns
returns c =
    let law = c.spelled_gaps_are_read.ensures in
    record {
      found = λ d least n docs limit are count.
          ap (λ k. read_gaps d least k (spelled_gaps (gaps_from least docs))) (sym count)
          ∙ law.found d least docs (rising_from d least docs are) (least_from d least least docs (omega arith) are) (below_from d least docs are) (omega (arith, limit));
      only = λ d least n docs bytes small is. (
        from_rising d least docs (law.rising d least n docs bytes is) (law.below d least n docs bytes is) (λ some. law.from_least d least n docs bytes is 0 0 some),
        law.count d least n docs bytes is,
        law.bytes d least n docs bytes small is,
      );
    }
