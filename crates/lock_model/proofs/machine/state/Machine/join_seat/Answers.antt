use Rattle.lock_model.proofs.machine.state.Machine.join_seat.Goals as goal

pub returns-in-Some : goal.returns-in-Some
returns-in-Some c = rw c.in-Some.is c.keep_apart.ensures

pub returns-in-None : goal.returns-in-None
returns-in-None c = rw c.in-None.is c.close.ensures
