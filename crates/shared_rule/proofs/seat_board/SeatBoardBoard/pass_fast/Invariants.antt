use Rattle.shared_rule.specs.Marks.{Passed}
use Rattle.shared_rule.proofs.seat_board.SeatBoardBoard.pass_fast.Given as goal

abbrev pub ghosts-pass_fast : goal.ghosts-pass_fast
ghosts-pass_fast g a = record { mark = Passed a.owner a.tag.now a.mode }
