use Rattle.std.proofs.Common.{◌≡◌, sym, ap, ◌∙◌, arith}
use Rattle.std.proofs.lemmas.List.{get_or_default}
use Rattle.lw_word.specs.LockState.{word_of}
use Rattle.lock_world.specs.declared.events.Step.TheVariants.{SetHasWaiters}
use Rattle.lock_world.specs.declared.events.Word.TheVariants.{Partition}
use Rattle.lock_world.specs.WaitLists.{partition_lock}
use Rattle.lock_model.proofs.Lemmas.Follows.Skipped.{skipped}
use Rattle.lock_model.proofs.Lemmas.Follows.ListWords.{has_waiters_in_partition, not_its_word, has_not, no_such_list}
use Rattle.lock_model.proofs.Lemmas.Shows.Looks.{partition_word_from}
use Rattle.lock_model.proofs.machine.state.Machine.set_partition_has_waiters.Goals as goal
use Rattle.lock_model.proofs.machine.state.Machine.set_partition_has_waiters.Goals.{else-index-lt16-via-then-index-lt16+then-has_list+else-shown-number, else-index-lt16-via-then-index-lt16+else-has_list, else-index-lt16-via-else-index-lt16}

pub returns-then-shown-number : goal.returns-then-shown-number
returns-then-shown-number c = λ w safe shows.
    let now = c.args.self.now in
    let place : c.from-index.result ≡ c.args.partition = c.from-index.ensures in
    rw place
    (has_waiters_in_partition now w safe shows c.args.session c.args.partition c.args.shown _ c.set_has_waiters.result (sym c.if-has_list.ensures) (omega arith)
    (partition_word_from now w safe shows c.from-index.result c.args.partition c.index-self-index-then-shown-number.result place (omega arith))
    (c.if-shown-number.true ∙ c.number.ensures.value ∙ ap word_of (get_or_default now.words.partitions c.from-index.result c.index-self-index.result c.index-self-index-then-shown-number.result (omega arith)))
    c.set_has_waiters.ensures.after)

pub returns-else-index-lt16 : goal.returns-else-index-lt16
returns-else-index-lt16 c = λ w safe shows.
    let now = c.args.self.now in
    let place : c.from-index.result ≡ c.args.partition = c.from-index.ensures in
    skipped now w safe shows c.args.session (SetHasWaiters (Partition c.args.partition) c.args.shown)
    (λ lawful. elim c.else-index-lt16.branch [
      | else-index-lt16-via-then-index-lt16+then-has_list+else-shown-number b ↦
          not_its_word now w safe shows c.args.shown _ _ (partition_word_from now w safe shows c.from-index.result c.args.partition b.index-self-index.result place (omega arith))
          (λ is. b.if-shown-number.false (is ∙ sym b.number.ensures.value)) lawful.1.0.is_word
      | else-index-lt16-via-then-index-lt16+else-has_list b ↦
          has_not now w safe shows c.args.session (partition_lock c.args.partition) (sym b.if-has_list.ensures) lawful.1.0.has
      | else-index-lt16-via-else-index-lt16 b ↦
          no_such_list now w safe shows c.args.session c.args.partition (omega arith) lawful.1.0.has
    ])
