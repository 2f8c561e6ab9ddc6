use Rattle.std.proofs.Common.{IfSome, get_or, None, sym, ap, ◌∙◌, subst}
use Rattle.lock_model.specs.MovedPart.{IsMoved}
use Rattle.lock_table.specs.Parts.{part_at}
use Rattle.lock_model.specs.Shows.{IsOwnFor, names_in}
use Rattle.lock_model.proofs.Lemmas.Follows.Waits.Marks.{Marks, mark_first, mark_not_woken, mark_by_no_move}
use Rattle.lock_model.proofs.machine.state.Machine.mark_first.Goals as goal

pub returns-in_default : goal.returns-in_default
returns-in_default c = λ w safe shows.
    mark_by_no_move c.args.self.now w safe shows c.args.session c.args.other c.args.partition c.args.hand c.args.done c.requires.in_hand c.requires.unmoved c.requires.wakes (c.in_ok-moved.ensures.cannot c.in_default.is)

pub returns-then-is_among : goal.returns-then-is_among
returns-then-is_among c = λ w safe shows.
    let now = c.args.self.now in
    let moved = subst (λ found. IfSome found (IsMoved (part_at now.contents.parts.items c.args.partition) c.args.session c.args.done)) c.in-Some.is c.in_ok-moved.ensures.moved in
    let own = subst (λ found. IfSome found (λ _. IsOwnFor (get_or now.waits.awaited c.args.session None) c.args.done)) c.in-Some.is c.in_ok-moved.ensures.own in
    subst (Marks w c.args.session c.args.other c.args.partition c.args.done) (sym c.mark.ensures)
    (rw c.from.ensures
    (mark_first now w safe shows c.args.session c.args.other c.args.partition c.args.hand c.args.done c.in-Some.moved c.unmarked_of-unmarked.result c.requires.in_hand c.requires.unmoved c.requires.object c.requires.wakes moved own
    (ap (λ xs. names_in xs c.args.other) (sym c.woken.ensures) ∙ sym c.if-is_among.ensures) (λ k. c.unmarked_of-unmarked.ensures k ∙ ap (λ xs. names_in xs k) c.woken-then-is_among.ensures) c.requires.another c.requires.waiting))

pub returns-else-is_among : goal.returns-else-is_among
returns-else-is_among c = λ w safe shows.
    let now = c.args.self.now in
    let moved = subst (λ found. IfSome found (IsMoved (part_at now.contents.parts.items c.args.partition) c.args.session c.args.done)) c.in-Some.is c.in_ok-moved.ensures.moved in
    mark_not_woken now w safe shows c.args.session c.args.other c.args.partition c.args.hand c.args.done c.in-Some.moved c.requires.in_hand c.requires.unmoved moved (ap (λ xs. names_in xs c.args.other) (sym c.woken.ensures) ∙ sym c.if-is_among.ensures)
