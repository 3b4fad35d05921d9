use Rattle.std.proofs.Common.{◌∙◌, ◌-◌, arith}
use Rattle.ciff_read.specs.KeptEntries.{hashed_in}
use Rattle.ciff_read.proofs.KeptTerms.{place_first, place_later}
use Rattle.ciff_read.proofs.kept_lists.KeptLists.place.Goals as goal

pub returns-then-index-first : goal.returns-then-index-first
returns-then-index-first c = place_first c.args.self.now.rising (hashed_in c.args.self.now.hashed.entries) c.args.index (omega (arith, c.if-index-first.true, c.len-first.ensures.len)) ∙ c.place.ensures

pub returns : goal.returns
returns c =
    place_later c.args.self.now.rising c.args.self.now.hashed.entries c.args.index (c.args.index - c.len-first.result) (omega (arith, c.if-index-first.false, c.len-first.ensures.len)) ∙ c.index.ensures
