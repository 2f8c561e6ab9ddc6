use Rattle.shared_rule.specs.Marks.{UnsharedFast}
use Rattle.shared_rule.proofs.seat_board.SeatBoardBoard.unshare_fast.Given as goal

abbrev pub ghosts-unshare_fast : goal.ghosts-unshare_fast
ghosts-unshare_fast g a = record { mark = UnsharedFast a.owner }
