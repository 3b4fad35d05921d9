use Rattle.lane_kernels.proofs.SetBits.{set_bits_rise, set_bits_from_base, set_bits_members, set_bits-append}
use Rattle.lane_kernels.proofs.laws.set_bits_rise.Goals as goal

pub returns-clause-rising : goal.returns-clause-rising
returns-clause-rising c = set_bits_rise

pub returns-clause-from_base : goal.returns-clause-from_base
returns-clause-from_base c = set_bits_from_base

pub returns-clause-members : goal.returns-clause-members
returns-clause-members c = set_bits_members

pub returns-clause-parts : goal.returns-clause-parts
returns-clause-parts c = set_bits-append
