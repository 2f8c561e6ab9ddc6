use Rattle.std.proofs.Common.{◌%◌, get_or, OnOk, sym, ap, ◌∙◌, subst}
use Rattle.std.proofs.lemmas.Bool.{eqb-true}
use Rattle.lock_table.specs.declared.moves.Move.TheVariants.{Release, Leave}
use Rattle.lock_world.specs.declared.events.Step.TheVariants.{MarkGranted}
use Rattle.lock_model.specs.Shows.{FollowsMarking}
use Rattle.lock_model.proofs.Lemmas.Follows.Skipped.{skipped}
use Rattle.lock_model.proofs.Lemmas.Follows.Waits.Marks.{may_mark_from}
use Rattle.lock_model.proofs.machine.state.Machine.mark_granted.Goals as goal
use Rattle.lock_model.proofs.machine.state.Machine.mark_granted.Goals.{then-eq-via-then-eq, then-eq-via-else-eq+then-self-from-ne1}

pub returns-in-Release : goal.returns-in-Release
returns-in-Release c =
    rw c.in-Release.is
    (subst (λ p. OnOk c.mark_in.result (FollowsMarking c.args.self.now c.args.session c.args.other p (Release c.in-Release.tag c.in-Release.mode) c.mark_in.new.self)) c.partition.ensures.value c.mark_in.ensures)

pub returns-in-Leave : goal.returns-in-Leave
returns-in-Leave c =
    rw c.in-Leave.is
    (subst (λ p. OnOk c.mark_in-in-Leave.result (FollowsMarking c.args.self.now c.args.session c.args.other p (Leave c.in-Leave.tag) c.mark_in-in-Leave.new.self)) c.partition-in-Leave.ensures.value c.mark_in-in-Leave.ensures)

pub returns-then-eq : goal.returns-then-eq
returns-then-eq c = λ w safe shows.
    let now = c.args.self.now in
    skipped now w safe shows c.args.session (MarkGranted c.args.other c.args.done)
    (λ lawful. let may = may_mark_from w c.args.session c.args.other c.args.done lawful.0 lawful.1 in
    elim c.then-eq.branch [
      | then-eq-via-then-eq b ↦ may.another (eqb-true c.args.other c.args.session (sym b.if-eq.ensures))
      | then-eq-via-else-eq+then-self-from-ne1 b ↦
          b.if-self-from-ne1.true (ap (λ i. get_or now.words.waits i 0 % 4) (b.from.ensures ∙ b.number.ensures.value) ∙ ap (λ n. n % 4) (shows.words.wait c.args.other) ∙ may.waiting)
    ])
