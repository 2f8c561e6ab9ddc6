use Rattle.std.proofs.Common.{ap, refl, ℕ}
use Rattle.shared_rule.specs.Marks.{CalledSleeper}
use Rattle.shared_rule.specs.Parks.{calls_on_sleep}
use Rattle.shared_rule.specs.Plays.{Side}
use Rattle.shared_rule.specs.declared.history.Mark.{Mark}
use Rattle.shared_rule.proofs.Lemmas.Events.Words.{calls_at}
use Rattle.shared_rule.proofs.Lemmas.Frame.{calls_one_asleep}
use Rattle.shared_rule.proofs.Lemmas.Led.{led-marked}
use Rattle.shared_rule.proofs.lists.call_sleeper.Goals as goal

pub call-requires-clause-allowed : goal.call-requires-clause-allowed
call-requires-clause-allowed g c =
    calls_at _ _ c.requires.session g.M.Marking.mark (CalledSleeper c.args.other) c.requires.mark (λ w. calls_one_asleep c.args.other refl)

pub call-requires-clause-calls : goal.call-requires-clause-calls
call-requires-clause-calls g c = λ n.
    calls_on_sleep c.args.other (ap (λ (m : ℕ → Mark g.row.T.Denot). m n) c.requires.mark) (c.sleep_word.ensures.index c.args.words.now.key.sessions)

pub returns-clause-led : goal.returns-clause-led
returns-clause-led g c = led-marked c.call.ensures.side.0 c.requires.session c.call.ensures.same_seat c.call.ensures.side.1 c.requires.mark (λ owed i. owed)

pub returns-clause-shelves : goal.returns-clause-shelves
returns-clause-shelves g c = ap (λ (side : Side g.row.T.Denot). side.1) c.call.ensures.side.1
