use Rattle.lock_model.proofs.machine.state.Machine.lock_list.Goals as goal

pub returns-in-Partition : goal.returns-in-Partition
returns-in-Partition c = rw c.in-Partition.is c.lock_partition_list.ensures

pub returns-in-Fast : goal.returns-in-Fast
returns-in-Fast c = rw c.in-Fast.is c.lock_fast_list.ensures
