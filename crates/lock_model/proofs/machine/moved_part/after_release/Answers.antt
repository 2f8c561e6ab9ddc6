use Rattle.std.proofs.Common.{[], sym, ap, ◌∙◌, subst}
use Rattle.lock_table.specs.declared.moves.Move.TheVariants.{Release}
use Rattle.lock_table.specs.Moves.{Moves}
use Rattle.lock_table.specs.PartView.{PartView, content_of}
use Rattle.lock_model.proofs.machine.moved_part.after_release.Goals as goal

pub returns-then-not-has-clause-no_hold : goal.returns-then-not-has-clause-no_hold
returns-then-not-has-clause-no_hold c = λ _.
    sym (ap (λ has. has c.args.mode) c.held.ensures) ∙ sym c.if-not-has.ensures

pub take_hold_out-requires : goal.take_hold_out-requires
take_hold_out-requires c =
    ap (λ part. (content_of part).holds c.args.session c.args.tag c.args.mode) c.in_ok-after.ensures.cases ∙ sym (ap (λ has. has c.args.mode) c.held.ensures) ∙ sym c.has.ensures ∙ c.if-not-has.false

pub returns-then-not-take_hold_out-clause-moved : goal.returns-then-not-take_hold_out-clause-moved
returns-then-not-take_hold_out-clause-moved c =
    let released = subst (λ (after : PartView). Moves (content_of c.in_ok-after.after) c.args.session (Release c.args.tag c.args.mode) [] (content_of after))
    (sym c.alone.ensures.part) (c.take_hold_out.ensures.over c.if-not-take_hold_out.true) in
    record {
      granted = [];
      moves = subst (λ (before : PartView). Moves (content_of before) c.args.session (Release c.args.tag c.args.mode) [] (content_of c.alone.result.part))
          c.in_ok-after.ensures.cases released;
      named = c.alone.ensures.nobody;
      begun = ap (λ (part : PartView). part.begun) c.alone.ensures.part ∙ c.take_hold_out.ensures.begun ∙ ap (λ (part : PartView). part.begun) c.in_ok-after.ensures.cases;
    }

pub returns-clause-moved : goal.returns-clause-moved
returns-clause-moved c =
    let woken = c.wake.ensures.woken in
    record {
      granted = woken.0;
      moves = subst (λ (before : PartView). Moves (content_of before) c.args.session (Release c.args.tag c.args.mode) woken.0 (content_of c.wake.new.self))
          c.in_ok-after.ensures.cases (c.take_hold_out.ensures.to_wake c.if-not-take_hold_out.false woken.0 (content_of c.wake.new.self) woken.1);
      named = woken.2;
      begun = c.wake.ensures.begun ∙ c.take_hold_out.ensures.begun ∙ ap (λ (part : PartView). part.begun) c.in_ok-after.ensures.cases;
    }
