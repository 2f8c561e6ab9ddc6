use Rattle.shared_rule.specs.History.{sessions_told}
use Rattle.shared_rule.specs.Marks.{LeftQueue}
use Rattle.shared_rule.proofs.seat_board.SeatBoardBoard.leave_queue.Given as goal

abbrev pub ghosts-leave_queue : goal.ghosts-leave_queue
ghosts-leave_queue g a = record { mark = λ _. LeftQueue (sessions_told a.woken.now) a.content.now }
