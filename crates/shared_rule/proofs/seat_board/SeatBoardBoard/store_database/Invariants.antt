use Rattle.shared_rule.specs.Marks.{StoredDatabase}
use Rattle.shared_rule.proofs.seat_board.SeatBoardBoard.store_database.Given as goal

abbrev pub ghosts-store_database : goal.ghosts-store_database
ghosts-store_database g a = record { mark = λ _. StoredDatabase a.database }
