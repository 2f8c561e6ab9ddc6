use Rattle.std.proofs.Common.{refl, ap, ◌∙◌, ℕ}
use Rattle.shared_rule.specs.Plays.{side_of}
use Rattle.shared_rule.specs.Marks.{CalledWaiter}
use Rattle.shared_rule.specs.Parks.{calls_on_wait}
use Rattle.shared_rule.specs.History.{noting}
use Rattle.shared_rule.specs.declared.history.Mark.{Mark}
use Rattle.shared_rule.proofs.Lemmas.Events.Words.{calls_at}
use Rattle.shared_rule.proofs.Lemmas.Frame.{calls_one_waiting}
use Rattle.shared_rule.proofs.waits.call_waiter.Goals as goal

pub call-requires-clause-allowed : goal.call-requires-clause-allowed
call-requires-clause-allowed g c =
    calls_at _ _ c.requires.session g.M.Marking.mark (CalledWaiter c.args.other) c.requires.mark (λ w. calls_one_waiting c.args.other refl)

pub call-requires-clause-calls : goal.call-requires-clause-calls
call-requires-clause-calls g c = λ n.
    calls_on_wait c.args.other (ap (λ (m : ℕ → Mark g.row.T.Denot). m n) c.requires.mark) (c.wait_word.ensures.index c.args.words.now.key.sessions)

pub returns-clause-side : goal.returns-clause-side
returns-clause-side g c =
    c.call.ensures.side.1 ∙ ap (λ (m : ℕ → Mark g.row.T.Denot). (noting (side_of c.args.seat.now).0 (m c.call.ensures.side.0), (side_of c.args.seat.now).1)) c.requires.mark
