use Rattle.std.proofs.Common.{◌≡◌, sym, ◌∙◌, arith}
use Rattle.lock_world.specs.declared.events.Step.TheVariants.{UnlockList}
use Rattle.lock_world.specs.declared.events.Word.TheVariants.{Partition}
use Rattle.lock_world.specs.WaitLists.{partition_lock}
use Rattle.lock_model.proofs.Lemmas.Follows.Skipped.{skipped}
use Rattle.lock_model.proofs.Lemmas.Follows.ListWords.{unlocked_partition_list, has_not, no_such_list}
use Rattle.lock_model.proofs.Lemmas.Shows.Looks.{partition_word_from}
use Rattle.lock_model.proofs.machine.state.Machine.unlock_partition_list.Goals as goal
use Rattle.lock_model.proofs.machine.state.Machine.unlock_partition_list.Goals.{else-index-lt16-via-then-index-lt16+else-has_list, else-index-lt16-via-else-index-lt16}

pub returns-then-has_list : goal.returns-then-has_list
returns-then-has_list c = λ w safe shows.
    let now = c.args.self.now in
    let place : c.from-index.result ≡ c.args.partition = c.from-index.ensures in
    let whose : c.from.result ≡ c.args.session = c.from.ensures ∙ c.number.ensures.value in
    rw (place, whose)
    (unlocked_partition_list now w safe shows c.args.session c.args.partition c.args.has_waiters c.args.release_ok _ c.unlocked.result (omega arith) (omega arith)
    (partition_word_from now w safe shows c.from-index.result c.args.partition c.index-self-index.result place (omega arith)) (sym c.if-has_list.ensures) c.unlocked.ensures)

pub returns-else-index-lt16 : goal.returns-else-index-lt16
returns-else-index-lt16 c = λ w safe shows.
    let now = c.args.self.now in
    skipped now w safe shows c.args.session (UnlockList (Partition c.args.partition) c.args.has_waiters c.args.release_ok)
    (λ lawful. elim c.else-index-lt16.branch [
      | else-index-lt16-via-then-index-lt16+else-has_list b ↦ has_not now w safe shows c.args.session (partition_lock c.args.partition) (sym b.if-has_list.ensures) lawful.1.0
      | else-index-lt16-via-else-index-lt16 b ↦
          no_such_list now w safe shows c.args.session c.args.partition (omega arith) lawful.1.0
    ])
