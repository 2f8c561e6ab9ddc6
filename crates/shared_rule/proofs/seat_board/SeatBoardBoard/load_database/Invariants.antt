use Rattle.shared_rule.specs.Marks.{LoadedDatabase}
use Rattle.shared_rule.proofs.seat_board.SeatBoardBoard.load_database.Given as goal

abbrev pub ghosts-load_database : goal.ghosts-load_database
ghosts-load_database g a = record { mark = LoadedDatabase a.owner }
