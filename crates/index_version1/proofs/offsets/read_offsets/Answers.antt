use Rattle.std.proofs.Common.{arith, sym, ◌∙◌}
use Rattle.index_version1.proofs.Sequences.{offsets_all}
use Rattle.index_version1.proofs.offsets.read_offsets.Goals as goal

pub returns-clause-exact : goal.returns-clause-exact
returns-clause-exact c =
    offsets_all c.args.bytes.now c.args.docs _ _ _ (omega arith) (sym c.offset_at.ensures ∙ omega arith) (omega arith) (omega arith) c.offsets.invariant.read
