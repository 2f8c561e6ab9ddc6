use Rattle.std.proofs.Common.{◌*◌, ◌%◌, ap}
use Rattle.lock_records.specs.Locks.{key_of}
use Rattle.lock_records.proofs.locks.key_of.Goals as goal

pub returns : goal.returns
unfolding key_of
returns c = ap (λ n. n * 2654435761 % 4294967296) c.hash.ensures
