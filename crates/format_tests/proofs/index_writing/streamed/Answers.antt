use Rattle.std.proofs.Common.{sym, subst, AllPairs}
use Rattle.jass_base.specs.Segments.{SharesNoDocument}
use Rattle.format_tests.proofs.index_writing.streamed.Goals as goal

pub term-requires-clause-once : goal.term-requires-clause-once
term-requires-clause-once g c = subst (AllPairs SharesNoDocument) (sym c.as_slice.ensures) c.requires.once
