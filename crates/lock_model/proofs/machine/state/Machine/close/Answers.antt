use Rattle.std.proofs.Common.{◌≡◌, ◌<◌, true, None, length, get_or, is_some, is_none, sym, ap, ◌∙◌, arith}
use Rattle.lock_world.specs.declared.events.Step.TheVariants.{JoinSeat}
use Rattle.lock_table.proofs.Lemmas.Lists.{there_not_none, not_there_none}
use Rattle.lock_model.proofs.Lemmas.Shows.Looks.{steps_not, some_wait_from}
use Rattle.lock_model.proofs.Lemmas.Shows.SlotLooks.{some_slot_hold}
use Rattle.std.proofs.lemmas.Bool.{both_ways}
use Rattle.lock_model.proofs.Lemmas.Follows.Counters.{nothing_needs}
use Rattle.lock_model.proofs.Lemmas.Follows.Skipped.{skipped}
use Rattle.lock_model.proofs.Lemmas.Follows.Seats.{was_closed, some_word, some_fast_word, some_shared_word, some_hold, keeps_somebody, no_list_needs, some_untold}
use Rattle.lock_model.proofs.machine.state.Machine.close.Goals as goal
use Rattle.lock_model.proofs.machine.state.Machine.close.Goals.{else-makes_steps-via-then-makes_steps+then-not-has_a_word+then-not-has_a_fast_word+then-not-shares_a_word+then-not-has_a_hold+then-not-has_a_slot+then-is_none+then-not-keeps_someone+then-counts_nothing+then-has_no_list+else-not-owes_a_telling, else-makes_steps-via-then-makes_steps+then-not-has_a_word+then-not-has_a_fast_word+then-not-shares_a_word+then-not-has_a_hold+else-not-has_a_slot, else-makes_steps-via-then-makes_steps+then-not-has_a_word+then-not-has_a_fast_word+then-not-shares_a_word+then-not-has_a_hold+then-not-has_a_slot+then-is_none+else-not-keeps_someone, else-makes_steps-via-then-makes_steps+then-not-has_a_word+then-not-has_a_fast_word+then-not-shares_a_word+then-not-has_a_hold+then-not-has_a_slot+then-is_none+then-not-keeps_someone+else-counts_nothing, else-makes_steps-via-then-makes_steps+then-not-has_a_word+then-not-has_a_fast_word+then-not-shares_a_word+then-not-has_a_hold+then-not-has_a_slot+then-is_none+then-not-keeps_someone+then-counts_nothing+else-has_no_list, else-makes_steps-via-then-makes_steps+then-not-has_a_word+then-not-has_a_fast_word+then-not-shares_a_word+then-not-has_a_hold+then-not-has_a_slot+else-is_none, else-makes_steps-via-then-makes_steps+then-not-has_a_word+then-not-has_a_fast_word+then-not-shares_a_word+else-not-has_a_hold, else-makes_steps-via-then-makes_steps+then-not-has_a_word+then-not-has_a_fast_word+else-not-shares_a_word, else-makes_steps-via-then-makes_steps+then-not-has_a_word+else-not-has_a_fast_word, else-makes_steps-via-then-makes_steps+else-not-has_a_word, else-makes_steps-via-else-makes_steps}

pub returns-then-not-owes_a_telling : goal.returns-then-not-owes_a_telling
returns-then-not-owes_a_telling c = λ w safe shows.
    let now = c.args.self.now in
    let place : c.from-index.result ≡ c.args.session = c.from-index.ensures ∙ c.number.ensures.value in
    let in_live : c.args.session < length now.numbers.live = omega arith in
    let no_wait : is_none (get_or now.waits.awaited c.args.session None) ≡ true = not_there_none _ (ap (λ i. is_some (get_or now.waits.awaited i None)) (sym place) ∙ c.if-is_none.ensures) in
    rw place (was_closed now w safe shows c.args.session
    (sym c.if-makes_steps.ensures) (sym c.if-not-has_a_word.ensures) (sym c.if-not-has_a_fast_word.ensures) (sym c.if-not-shares_a_word.ensures) (sym c.if-not-has_a_hold.ensures) (sym c.if-not-has_a_slot.ensures) no_wait (sym c.if-not-keeps_someone.ensures) (sym c.if-counts_nothing.ensures) (sym c.if-has_no_list.ensures) (sym c.if-not-owes_a_telling.ensures) in_live (omega arith))

pub returns-else-makes_steps : goal.returns-else-makes_steps
returns-else-makes_steps c = λ w safe shows.
    let now = c.args.self.now in
    skipped now w safe shows c.args.session (JoinSeat None)
    (λ lawful. elim c.else-makes_steps.branch [
      | else-makes_steps-via-then-makes_steps+then-not-has_a_word+then-not-has_a_fast_word+then-not-shares_a_word+then-not-has_a_hold+then-not-has_a_slot+then-is_none+then-not-keeps_someone+then-counts_nothing+then-has_no_list+else-not-owes_a_telling b ↦
          some_untold now w safe shows c.args.session (sym b.if-not-owes_a_telling.ensures) lawful.1.0.none_untold
      | else-makes_steps-via-then-makes_steps+then-not-has_a_word+then-not-has_a_fast_word+then-not-shares_a_word+then-not-has_a_hold+then-not-has_a_slot+then-is_none+then-not-keeps_someone+then-counts_nothing+else-has_no_list b ↦
          both_ways _ (sym b.if-has_no_list.ensures) (no_list_needs now w safe shows c.args.session lawful.1.0.no_list lawful.1.0.no_stand)
      | else-makes_steps-via-then-makes_steps+then-not-has_a_word+then-not-has_a_fast_word+then-not-shares_a_word+then-not-has_a_hold+then-not-has_a_slot+then-is_none+then-not-keeps_someone+else-counts_nothing b ↦
          both_ways _ (sym b.if-counts_nothing.ensures) (nothing_needs now w safe shows c.args.session lawful.1.0.no_count)
      | else-makes_steps-via-then-makes_steps+then-not-has_a_word+then-not-has_a_fast_word+then-not-shares_a_word+then-not-has_a_hold+then-not-has_a_slot+then-is_none+else-not-keeps_someone b ↦
          keeps_somebody now w safe shows c.args.session (sym b.if-not-keeps_someone.ensures) lawful.1.0.keeps_nobody
      | else-makes_steps-via-then-makes_steps+then-not-has_a_word+then-not-has_a_fast_word+then-not-shares_a_word+then-not-has_a_hold+then-not-has_a_slot+else-is_none b ↦
          let place : c.from-index.result ≡ c.args.session = c.from-index.ensures ∙ c.number.ensures.value in
          some_wait_from now w safe shows c.args.session (there_not_none _ (ap (λ i. is_some (get_or now.waits.awaited i None)) (sym place) ∙ b.if-is_none.ensures)) lawful.1.0.no_wait
      | else-makes_steps-via-then-makes_steps+then-not-has_a_word+then-not-has_a_fast_word+then-not-shares_a_word+then-not-has_a_hold+else-not-has_a_slot b ↦
          some_slot_hold now w safe shows c.args.session (omega arith) (sym b.if-not-has_a_slot.ensures) lawful.1.0.no_hold
      | else-makes_steps-via-then-makes_steps+then-not-has_a_word+then-not-has_a_fast_word+then-not-shares_a_word+else-not-has_a_hold b ↦
          some_hold now w safe shows c.args.session (sym b.if-not-has_a_hold.ensures) lawful.1.0.no_wait lawful.1.0.no_hold
      | else-makes_steps-via-then-makes_steps+then-not-has_a_word+then-not-has_a_fast_word+else-not-shares_a_word b ↦
          some_shared_word now w safe shows c.args.session (sym b.if-not-shares_a_word.ensures) lawful.1.0.no_shared_word lawful.1.0.no_shared_fast_word
      | else-makes_steps-via-then-makes_steps+then-not-has_a_word+else-not-has_a_fast_word b ↦
          some_fast_word now w safe shows c.args.session (sym b.if-not-has_a_fast_word.ensures) lawful.1.0.no_fast_word
      | else-makes_steps-via-then-makes_steps+else-not-has_a_word b ↦
          some_word now w safe shows c.args.session (sym b.if-not-has_a_word.ensures) lawful.1.0.no_word
      | else-makes_steps-via-else-makes_steps b ↦
          steps_not now w safe shows c.args.session (sym b.if-makes_steps.ensures) lawful.1.0.steps
    ])
