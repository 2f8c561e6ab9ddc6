use Rattle.shared_rule.specs.Marks.{ClearedWait}
use Rattle.shared_rule.proofs.seat_board.SeatBoardBoard.clear_wait.Given as goal

abbrev pub ghosts-clear_wait : goal.ghosts-clear_wait
ghosts-clear_wait g a = record { mark = λ _. ClearedWait }
