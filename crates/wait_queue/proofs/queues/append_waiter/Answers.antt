use Rattle.std.proofs.Common.{◌≡◌, ◌++◌, ◌∷◌, [], true, false, sym, ap, ◌∙◌, append-nil}
use Rattle.std.proofs.lemmas.Bool.{cond-true, cond-false}
use Rattle.modes_core.specs.Conflict.{conflict}
use Rattle.wait_queue.specs.declared.queues.Blocker.{Blocker}
use Rattle.modes_core.specs.declared.refusals.How.TheVariants.{Awaited}
use Rattle.wait_queue.proofs.queues.append_waiter.Goals as goal

pub returns-in_ok-push : goal.returns-in_ok-push
returns-in_ok-push c =
    let conflicting : conflict c.args.mode c.args.waiter.mode ≡ true =
    sym (ap (λ set. set c.args.waiter.mode) c.conflicts.ensures) ∙ sym c.has.ensures ∙ c.if-has.true in
    let one : Blocker = record { session = c.args.waiter.session; mode = c.args.waiter.mode; how = Awaited } in
    c.in_ok-push.ensures.items ∙ ap (λ rows. c.args.found.now.items ++ rows) (sym (cond-true (conflict c.args.mode c.args.waiter.mode) (one ∷ []) [] conflicting))

pub returns-else-has : goal.returns-else-has
returns-else-has c =
    let no_conflict : conflict c.args.mode c.args.waiter.mode ≡ false =
    sym (ap (λ set. set c.args.waiter.mode) c.conflicts.ensures) ∙ sym c.has.ensures ∙ c.if-has.false in
    let one : Blocker = record { session = c.args.waiter.session; mode = c.args.waiter.mode; how = Awaited } in
    sym (ap (λ rows. c.args.found.now.items ++ rows) (cond-false (conflict c.args.mode c.args.waiter.mode) (one ∷ []) [] no_conflict) ∙ append-nil c.args.found.now.items)
