use Rattle.std.proofs.Common.{◌≡◌, ◌<◌, arith, true, false, sym, ◌∙◌}
use Rattle.local_locks.specs.Owned.{has_entry, total_of}
use Rattle.local_locks.proofs.Lemmas.Entries.{has_entry-none, has_entry-some}
use Rattle.lock_manager.proofs.Lemmas.Sessions.Held.{none-held, all-held, IsHeldBelow-with, IsHeldBelow-without, IsHeldBelow-none}
use Rattle.lock_manager.proofs.held.modes_held.Goals as goal
use Rattle.lock_manager.proofs.held.modes_held.Goals.{in-Some+then-total-ne0, in-Some+else-total-ne0, in_default}

pub loop-number-init : goal.loop-number-init
loop-number-init c = none-held c.args.locals.now.entries c.args.tag c.empty-held.result c.empty-held.ensures

pub loop-number-preserved : goal.loop-number-preserved
loop-number-preserved c =
    let entries = c.args.locals.now.entries in
    let tag = c.args.tag in
    let number = c.loop-number.number in
    let before = c.loop-number.held in
    elim c.match-from_number.branch [
      | in-Some+then-total-ne0 w ↦
          let mode = w.in-Some.mode in
          let some : 0 < total_of entries tag mode = omega (arith, w.if-total-ne0.true, w.total.ensures.total) in
          let has : has_entry entries tag mode ≡ true = has_entry-some entries tag mode some in
          rw w.held-is (IsHeldBelow-with entries tag number before w.with-held.result mode w.in-Some.ensures.found has w.with-held.ensures c.loop-number.invariant)
      | in-Some+else-total-ne0 w ↦
          let mode = w.in-Some.mode in
          let none : total_of entries tag mode ≡ 0 = sym w.total.ensures.total ∙ w.if-total-ne0.false in
          let has : has_entry entries tag mode ≡ false = has_entry-none entries tag mode w.total.ensures.well_owned.counted none in
          rw w.held-is (IsHeldBelow-without entries tag number before mode w.in-Some.ensures.found has c.loop-number.invariant)
      | in_default w ↦ rw w.held-is (IsHeldBelow-none entries tag number before w.in_default.ensures.unknown c.loop-number.invariant)
    ]

pub returns : goal.returns
returns c = all-held c.args.locals.now.entries c.args.tag c.loop-number.number c.loop-number.held (omega (arith, c.loop-number-test.false)) c.loop-number.invariant
