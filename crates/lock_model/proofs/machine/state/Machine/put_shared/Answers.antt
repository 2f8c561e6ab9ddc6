use Rattle.lock_model.proofs.machine.state.Machine.put_shared.Goals as goal

pub returns-in-Partition : goal.returns-in-Partition
returns-in-Partition c = rw c.in-Partition.is c.unshare_partition.ensures

pub returns-in-Fast : goal.returns-in-Fast
returns-in-Fast c = rw c.in-Fast.is c.unshare_fast.ensures
