use Rattle.std.proofs.Common.{arith}
use Rattle.lock_model.proofs.Lemmas.Follows.Beyond.{step-beyond}
use Rattle.lock_model.proofs.machine.state.Machine.step.Goals as goal

pub returns-in-PutExclusive : goal.returns-in-PutExclusive
returns-in-PutExclusive c = rw c.in-PutExclusive.is c.put_exclusive.ensures

pub returns-in-SetWaiting : goal.returns-in-SetWaiting
returns-in-SetWaiting c = rw c.in-SetWaiting.is c.set_waiting.ensures

pub returns-in-MarkGranted : goal.returns-in-MarkGranted
returns-in-MarkGranted c = rw c.in-MarkGranted.is c.mark_granted.ensures

pub returns-in-TakeExclusive : goal.returns-in-TakeExclusive
returns-in-TakeExclusive c = rw c.in-TakeExclusive.is c.take_exclusive.ensures

pub returns-in-JoinSeat : goal.returns-in-JoinSeat
returns-in-JoinSeat c = rw c.in-JoinSeat.is c.join_seat.ensures

pub returns-in-AskCancel : goal.returns-in-AskCancel
returns-in-AskCancel c = rw c.in-AskCancel.is c.ask_cancel.ensures

pub returns-in-LoadWait : goal.returns-in-LoadWait
returns-in-LoadWait c = rw c.in-LoadWait.is c.load_wait.ensures

pub returns-in-ClearWait : goal.returns-in-ClearWait
returns-in-ClearWait c = rw c.in-ClearWait.is c.clear_wait.ensures

pub returns-in-SplitSeat : goal.returns-in-SplitSeat
returns-in-SplitSeat c = rw c.in-SplitSeat.is c.split_seat.ensures

pub returns-in-TakeShared : goal.returns-in-TakeShared
returns-in-TakeShared c = rw c.in-TakeShared.is c.take_shared.ensures

pub returns-in-PutShared : goal.returns-in-PutShared
returns-in-PutShared c = rw c.in-PutShared.is c.put_shared.ensures

pub returns-in-PutPassing : goal.returns-in-PutPassing
returns-in-PutPassing c = rw c.in-PutPassing.is c.put_passing.ensures

pub returns-in-LoadStrong : goal.returns-in-LoadStrong
returns-in-LoadStrong c = rw c.in-LoadStrong.is c.load_strong.ensures

pub returns-in-LoadWord : goal.returns-in-LoadWord
returns-in-LoadWord c = rw c.in-LoadWord.is c.load_word.ensures

pub returns-in-SetSlot : goal.returns-in-SetSlot
returns-in-SetSlot c = rw c.in-SetSlot.is c.set_slot.ensures

pub returns-in-ClearSlot : goal.returns-in-ClearSlot
returns-in-ClearSlot c = rw c.in-ClearSlot.is c.clear_slot.ensures

pub returns-in-StoreDatabase : goal.returns-in-StoreDatabase
returns-in-StoreDatabase c = rw c.in-StoreDatabase.is c.store_database.ensures

pub returns-in-Count : goal.returns-in-Count
returns-in-Count c = rw c.in-Count.is c.count.ensures.followed

pub returns-in-Uncount : goal.returns-in-Uncount
returns-in-Uncount c = rw c.in-Uncount.is c.uncount.ensures

pub returns-in-TransferSlot : goal.returns-in-TransferSlot
returns-in-TransferSlot c = rw c.in-TransferSlot.is c.transfer_slot.ensures.followed

pub returns-in-LockList : goal.returns-in-LockList
returns-in-LockList c = rw c.in-LockList.is c.lock_list.ensures

pub returns-in-UnlockList : goal.returns-in-UnlockList
returns-in-UnlockList c = rw c.in-UnlockList.is c.unlock_list.ensures

pub returns-in-JoinList : goal.returns-in-JoinList
returns-in-JoinList c = rw c.in-JoinList.is c.join_list.ensures.followed

pub returns-in-LeaveList : goal.returns-in-LeaveList
returns-in-LeaveList c = rw c.in-LeaveList.is c.leave_list.ensures

pub returns-in-TakeOff : goal.returns-in-TakeOff
returns-in-TakeOff c = rw c.in-TakeOff.is c.take_off.ensures

pub returns-in-Tell : goal.returns-in-Tell
returns-in-Tell c = rw c.in-Tell.is c.tell.ensures

pub returns-in-LoadSleep : goal.returns-in-LoadSleep
returns-in-LoadSleep c = rw c.in-LoadSleep.is c.load_sleep.ensures

pub returns-in-SetReleaseOk : goal.returns-in-SetReleaseOk
returns-in-SetReleaseOk c = rw c.in-SetReleaseOk.is c.set_release_ok.ensures

pub returns-in-SetHasWaiters : goal.returns-in-SetHasWaiters
returns-in-SetHasWaiters c = rw c.in-SetHasWaiters.is c.set_has_waiters.ensures

pub returns-then-number-ge-USUAL_SESSIONS : goal.returns-then-number-ge-USUAL_SESSIONS
returns-then-number-ge-USUAL_SESSIONS c = λ w safe shows. step-beyond c.args.self.now w safe shows c.args.event.session c.args.event.step (omega arith)
