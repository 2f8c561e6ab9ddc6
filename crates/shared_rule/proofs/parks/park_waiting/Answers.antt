use Rattle.std.proofs.Common.{refl, sym, ap, ◌∙◌, ℕ, ◌≢◌}
use Rattle.lock_world.specs.declared.events.Word.TheVariants.{Wait}
use Rattle.lock_world.specs.WaitWord.{wait_state}
use Rattle.shared_rule.specs.Layout.{index_of_word}
use Rattle.shared_rule.specs.Looks.{is_call}
use Rattle.shared_rule.specs.Marks.{ParksWaiting}
use Rattle.shared_rule.specs.Parks.{at_wait_word}
use Rattle.shared_rule.specs.declared.history.Mark.{Mark}
use Rattle.shared_rule.proofs.Lemmas.Events.Words.{parks_at}
use Rattle.shared_rule.proofs.Lemmas.Frame.{parks_on_wait}
use Rattle.shared_rule.proofs.Lemmas.Led.{led-marked}
use Rattle.shared_rule.proofs.Lemmas.Orders.{none-shared}
use Rattle.shared_rule.proofs.Lemmas.Parks.{nothing-left_to_do, left-by, last-marked, shown-as}
use Rattle.shared_rule.proofs.parks.park_waiting.Goals as goal

pub load_as-found-requires-clause-allowed : goal.load_as-found-requires-clause-allowed
load_as-found-requires-clause-allowed g c =
    let content = g.T.PartTable.content in
    let x = c.requires.session.history in
    parks_at _ c.requires.session c.args.number c.requires.own c.requires.among
    Wait (λ k there. (tt, there)) c.wait_word-wait.result (c.wait_word-wait.ensures.index c.args.words.now.key.sessions) g.M.Marking.mark ParksWaiting c.requires.mark
    (λ w steps n shows. parks_on_wait n refl shows (λ b todo owes.
    nothing-left_to_do w x.number _ steps.account steps.safe (none-shared content x.number x.marks) b _ _ todo owes
    (left-by content c.args.seat.now c.requires.session c.requires.nothing_left)))

pub load_as-found-requires-clause-no_call : goal.load_as-found-requires-clause-no_call
load_as-found-requires-clause-no_call g c = λ n. ap (λ (m : ℕ → Mark g.row.T.Denot). is_call (m n)) c.requires.mark

pub returns-then-found-shown-clause-led : goal.returns-then-found-shown-clause-led
returns-then-found-shown-clause-led g c = led-marked _ c.requires.session c.load_as-found.ensures.same_seat c.load_as-found.ensures.side c.requires.mark (λ owed i. owed)

pub returns-else-found-shown-clause-led : goal.returns-else-found-shown-clause-led
returns-else-found-shown-clause-led g c = led-marked _ c.requires.session c.load_as-found.ensures.same_seat c.load_as-found.ensures.side c.requires.mark (λ owed i. owed)

pub park_on-requires-clause-looked : goal.park_on-requires-clause-looked
park_on-requires-clause-looked g c =
    let led = led-marked {content = g.T.PartTable.content} {its = ParksWaiting} _ c.requires.session c.load_as-found.ensures.same_seat c.load_as-found.ensures.side c.requires.mark (λ owed i. owed) in
    at_wait_word c.requires.session.history.marks (last-marked c.args.seat.now c.load_as-found.new.seat {its = ParksWaiting} _ c.requires.session c.load_as-found.ensures.side c.requires.mark)
    (c.wait_word-wait.ensures.index c.args.words.now.key.sessions ∙ ap (λ k. index_of_word c.args.words.now.key.sessions (Wait k)) (c.requires.own ∙ sym led.number))
    (shown-as (λ n. wait_state n ≢ 2) c.load_as-found.result c.args.shown c.if-found-shown.true c.requires.not_granted)
