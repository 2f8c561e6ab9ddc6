use Rattle.std.proofs.Common.{◌∙◌, sym, inl, inr, subst}
use Rattle.lock_table.proofs.Lemmas.MoveTests.{move_eq-refl}
use Rattle.lock_model.proofs.Lemmas.Shows.Hands.{made_is, another_made, some_made}
use Rattle.lock_model.proofs.Lemmas.Follows.Waits.Marks.{Marks, mark_without_hand, mark_of_another, mark_next}
use Rattle.lock_model.proofs.machine.state.Machine.mark_in.Goals as goal
use Rattle.lock_model.proofs.machine.state.Machine.mark_in.Goals.{else-has_made-via-then-has_made+else-is_unmarked, else-has_made-via-else-has_made}

pub returns-in_default : goal.returns-in_default
returns-in_default c = λ w safe shows.
    mark_without_hand c.args.self.now w safe shows c.args.session c.args.other c.args.partition c.args.done (sym c.hand_of.ensures ∙ c.in_default.is)

pub returns-then-is_unmarked : goal.returns-then-is_unmarked
returns-then-is_unmarked c = λ w safe shows.
    subst (Marks w c.args.session c.args.other c.args.partition c.args.done) (sym c.mark.ensures)
    (mark_next c.args.self.now w safe shows c.args.session c.args.other c.args.partition c.in-Some.hand c.args.done c.args.done (sym c.hand_of.ensures ∙ c.in-Some.is)
    (made_is c.in-Some.hand.recorded c.args.done (sym c.if-has_made.ensures)) (move_eq-refl c.args.done) (sym c.if-is_unmarked.ensures) c.requires.another c.requires.waiting)

pub returns-else-has_made : goal.returns-else-has_made
returns-else-has_made c = λ w safe shows.
    let its = some_made c.in-Some.hand.recorded c.if-is_none.ensures in
    mark_of_another c.args.self.now w safe shows c.args.session c.args.other c.args.partition c.in-Some.hand its.0 c.args.done (sym c.hand_of.ensures ∙ c.in-Some.is) its.1
    (elim c.else-has_made.branch [
      | else-has_made-via-then-has_made+else-is_unmarked b ↦ inr (sym b.if-is_unmarked.ensures)
      | else-has_made-via-else-has_made b ↦ inl (another_made c.in-Some.hand.recorded its.0 c.args.done its.1 (sym b.if-has_made.ensures))
    ])
