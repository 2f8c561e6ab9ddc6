use Rattle.shared_rule.specs.History.{sessions_told}
use Rattle.shared_rule.specs.Marks.{MarkedGranted}
use Rattle.shared_rule.proofs.seat_board.SeatBoardBoard.mark_granted.Given as goal

abbrev pub ghosts-mark_granted : goal.ghosts-mark_granted
ghosts-mark_granted g a =
    record { mark = λ _. MarkedGranted a.part a.other a.done.now (sessions_told a.woken.now) a.content.now }
