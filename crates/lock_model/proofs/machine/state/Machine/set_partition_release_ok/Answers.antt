use Rattle.std.proofs.Common.{◌≡◌, sym, ap, ◌∙◌, arith}
use Rattle.std.proofs.lemmas.List.{get_or_default}
use Rattle.lw_word.specs.LockState.{word_of}
use Rattle.lock_world.specs.declared.events.Step.TheVariants.{SetReleaseOk}
use Rattle.lock_world.specs.declared.events.Word.TheVariants.{Partition}
use Rattle.lock_model.proofs.Lemmas.Follows.Skipped.{skipped}
use Rattle.lock_model.proofs.Lemmas.Follows.ListWords.{release_ok_in_partition, not_its_word}
use Rattle.lock_model.proofs.Lemmas.Shows.Looks.{steps_not, partition_word_from}
use Rattle.lock_model.proofs.machine.state.Machine.set_partition_release_ok.Goals as goal
use Rattle.lock_model.proofs.machine.state.Machine.set_partition_release_ok.Goals.{else-index-lt16-via-then-index-lt16+then-makes_steps+else-shown-number, else-index-lt16-via-then-index-lt16+else-makes_steps, else-index-lt16-via-else-index-lt16}

pub returns-then-shown-number : goal.returns-then-shown-number
returns-then-shown-number c = λ w safe shows.
    let now = c.args.self.now in
    let place : c.from-index.result ≡ c.args.partition = c.from-index.ensures in
    rw place
    (release_ok_in_partition now w safe shows c.args.session c.args.partition c.args.shown _ c.set_release_ok.result (sym c.if-makes_steps.ensures) (omega arith) (omega arith)
    (partition_word_from now w safe shows c.from-index.result c.args.partition c.index-self-index-then-shown-number.result place (omega arith))
    (c.if-shown-number.true ∙ c.number.ensures.value ∙ ap word_of (get_or_default now.words.partitions c.from-index.result c.index-self-index.result c.index-self-index-then-shown-number.result (omega arith)))
    c.set_release_ok.ensures.after)

pub returns-else-index-lt16 : goal.returns-else-index-lt16
returns-else-index-lt16 c = λ w safe shows.
    let now = c.args.self.now in
    let place : c.from-index.result ≡ c.args.partition = c.from-index.ensures in
    skipped now w safe shows c.args.session (SetReleaseOk (Partition c.args.partition) c.args.shown)
    (λ lawful. elim c.else-index-lt16.branch [
      | else-index-lt16-via-then-index-lt16+then-makes_steps+else-shown-number b ↦
          not_its_word now w safe shows c.args.shown _ _ (partition_word_from now w safe shows c.from-index.result c.args.partition b.index-self-index.result place (omega arith))
          (λ is. b.if-shown-number.false (is ∙ sym b.number.ensures.value)) lawful.1.1.is_word
      | else-index-lt16-via-then-index-lt16+else-makes_steps b ↦ steps_not now w safe shows c.args.session (sym b.if-makes_steps.ensures) lawful.1.1.steps
      | else-index-lt16-via-else-index-lt16 b ↦ let exists = lawful.1.0 in absurd (omega (arith, exists))
    ])
