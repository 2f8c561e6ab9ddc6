use Rattle.std.proofs.Common.{ap}
use Rattle.std.proofs.Common.{◌*◌, ◌/◌, ◌^◌}
use Rattle.place_index.specs.Chains.{start_of}
use Rattle.place_index.proofs.chains.start_of.Goals as goal

pub returns-clause-is : goal.returns-clause-is
unfolding start_of
returns-clause-is c = ap (λ h. h * c.args.starts / 2 ^ 32) c.from.ensures
