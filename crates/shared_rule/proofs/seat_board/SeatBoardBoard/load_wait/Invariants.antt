use Rattle.shared_rule.specs.Marks.{LoadedWait}
use Rattle.shared_rule.proofs.seat_board.SeatBoardBoard.load_wait.Given as goal

abbrev pub ghosts-load_wait : goal.ghosts-load_wait
ghosts-load_wait g a = record { mark = LoadedWait }
