use Rattle.std.proofs.Common.{◌≡◌, length, map, sym, ap, ◌∙◌, subst, arith}
use Rattle.std.specs.Vec.{with_items}
use Rattle.std.proofs.lemmas.List.{length-map, with_items_is}
use Rattle.lock_model.specs.declared.machine.state.Machine.{Machine}
use Rattle.lock_model.specs.CountedLists.{passed_by}
use Rattle.lock_world.specs.declared.events.Step.TheVariants.{PutPassing}
use Rattle.lock_world.specs.World.{World}
use Rattle.lock_world.specs.Happens.{Next}
use Rattle.lock_model.specs.Shows.{Shows}
use Rattle.lock_model.proofs.Lemmas.Follows.Beyond.{passing-beyond}
use Rattle.lock_model.proofs.Lemmas.Follows.Counters.{has_passed, not_passed}
use Rattle.lock_model.proofs.machine.state.Machine.put_passing.Goals as goal

pub returns-then-may_pass : goal.returns-then-may_pass
returns-then-may_pass c = λ w safe shows.
    let now = c.args.self.now in
    let after : Machine = record now { counted = with_items c.free_fast.new.self.counted c.pass.new.counted } in
    let as_long : length c.pass.new.counted ≡ c.free_fast.new.self.counted.len =
    ap length c.pass.ensures ∙ length-map c.as_mut_slice.result.now (passed_by c.args.session c.args.owner c.args.tag c.args.mode) ∙ c.as_mut_slice.ensures.len in
    let list = with_items_is c.free_fast.new.self.counted c.pass.new.counted as_long ∙ c.pass.ensures ∙ ap (map (passed_by c.args.session c.args.owner c.args.tag c.args.mode)) (c.as_mut_slice.ensures.value ∙ ap (λ m. m.counted.items) c.free_fast.ensures) in
    let P : Machine → Type 0 = λ m. (v : World) × Next w (record { session = c.args.session; step = PutPassing c.args.owner c.args.tag c.args.mode }) v × Shows (record m { counted = after.counted }) v in
    subst P (sym c.free_fast.ensures) (has_passed now w safe shows c.args.session c.args.owner c.args.tag c.args.mode after (sym c.if-may_pass.ensures) (omega arith) (omega arith) list)

pub returns-else-may_pass : goal.returns-else-may_pass
returns-else-may_pass c = λ w safe shows.
    not_passed c.args.self.now w safe shows c.args.session c.args.owner c.args.tag c.args.mode (sym c.if-may_pass.ensures)

pub returns-then-number-ge-USUAL_SESSIONS : goal.returns-then-number-ge-USUAL_SESSIONS
returns-then-number-ge-USUAL_SESSIONS c = λ w safe shows. passing-beyond c.args.self.now w safe shows c.args.session c.args.owner c.args.tag c.args.mode (omega arith)
