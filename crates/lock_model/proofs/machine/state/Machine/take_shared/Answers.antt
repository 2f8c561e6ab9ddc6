use Rattle.lock_model.proofs.machine.state.Machine.take_shared.Goals as goal

pub returns-in-Partition : goal.returns-in-Partition
returns-in-Partition c = rw c.in-Partition.is c.share_partition.ensures

pub returns-in-Fast : goal.returns-in-Fast
returns-in-Fast c = rw c.in-Fast.is c.share_fast.ensures
