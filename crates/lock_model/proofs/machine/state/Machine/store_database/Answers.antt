use Rattle.std.proofs.Common.{◌≡◌, sym, ◌∙◌, arith}
use Rattle.lock_model.proofs.Lemmas.Follows.SlotSteps.{database_was_stored, database_not_stored}
use Rattle.lock_model.proofs.machine.state.Machine.store_database.Goals as goal

pub returns-then-may_store_database : goal.returns-then-may_store_database
returns-then-may_store_database c = λ w safe shows.
    let now = c.args.self.now in
    let whose : c.from.result ≡ c.args.session = c.from.ensures ∙ c.number.ensures.value in
    rw whose (database_was_stored now w safe shows c.args.session c.args.database (omega arith) (sym c.if-may_store_database.ensures))

pub returns-else-may_store_database : goal.returns-else-may_store_database
returns-else-may_store_database c = λ w safe shows.
    database_not_stored c.args.self.now w safe shows c.args.session c.args.database (omega arith) (sym c.if-may_store_database.ensures)
