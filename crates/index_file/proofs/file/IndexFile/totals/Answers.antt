use Rattle.std.proofs.Common.{arith}
use Rattle.index_file.specs.Private.Opened.{view_of}
use Rattle.index_file.proofs.Standing.{greatest_small}
use Rattle.index_file.proofs.file.IndexFile.totals.Goals as goal

pub overflow_cast-result : goal.overflow_cast-result
overflow_cast-result c =
    let small = greatest_small (view_of c.self.inside.front c.self.inside.places c.self.inside.terms c.self.inside.groups c.self.inside.payloads) c.self.invariant.stands.view in
    rw (c.u32_at.ensures, c.as_slice-front.ensures) (omega (arith, c.self.invariant.stands.greatest, small))
