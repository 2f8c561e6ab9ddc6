use Rattle.lock_model.proofs.machine.state.Machine.set_release_ok.Goals as goal

pub returns-in-Partition : goal.returns-in-Partition
returns-in-Partition c = rw c.in-Partition.is c.set_partition_release_ok.ensures

pub returns-in-Fast : goal.returns-in-Fast
returns-in-Fast c = rw c.in-Fast.is c.set_fast_release_ok.ensures
