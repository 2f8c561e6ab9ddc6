use Rattle.shared_rule.specs.Marks.{ParksWaiting}
use Rattle.shared_rule.proofs.seat_board.SeatBoardBoard.sleep.Given as goal

abbrev pub ghosts-park_waiting : goal.ghosts-park_waiting
ghosts-park_waiting g a = record { mark = ParksWaiting }
