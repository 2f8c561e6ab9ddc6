use Rattle.lock_model.proofs.machine.state.Machine.unlock_list.Goals as goal

pub returns-in-Partition : goal.returns-in-Partition
returns-in-Partition c = rw c.in-Partition.is c.unlock_partition_list.ensures

pub returns-in-Fast : goal.returns-in-Fast
returns-in-Fast c = rw c.in-Fast.is c.unlock_fast_list.ensures
