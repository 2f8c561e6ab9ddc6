use Rattle.std.proofs.Common.{◌≡◌, ℕ, [], ◌++◌, get_or, Option, arith, ap, ◌∙◌, subst}
use Rattle.std.specs.Prelude.{IfSome}
use Rattle.lock_model.specs.SlotRows.{lists_below, session_rows}
use Rattle.lock_model.proofs.Lemmas.SlotRows.{lists_below-start, lists_below-more}
use Rattle.lock_model.proofs.machine.slot_rows.append_slot_holds.Goals as goal

pub loop-number-init : goal.loop-number-init
loop-number-init c =
    let path = c.args.fast_path.now in
    lists_below-start c.args.list.now.items (λ session. session_rows session (get_or path.databases session 0) (get_or path.slots session []))

pub loop-number-preserved : goal.loop-number-preserved
loop-number-preserved c =
    let path = c.args.fast_path.now in
    lists_below-more c.loop-number.number (λ session. session_rows session (get_or path.databases session 0) (get_or path.slots session [])) c.args.list.now.items
    c.loop-number.list.items c.append_session.new.list.items c.loop-number.invariant
    (c.in_ok-append_session.ensures
    ∙ ap (λ session. c.loop-number.list.items ++ session_rows session (get_or path.databases session 0) (get_or path.slots session [])) (subst (λ (o : Option ℕ). IfSome o (λ id. id ≡ c.loop-number.number)) c.unwrap-session.ensures c.new.ensures.value))

pub returns : goal.returns
returns c =
    let path = c.args.fast_path.now in
    let last : c.loop-number.number ≡ 64 = omega (arith, c.loop-number-test.false, c.loop-number.auto.number-end) in
    c.loop-number.invariant
    ∙ ap (λ n. c.args.list.now.items ++ lists_below n (λ session. session_rows session (get_or path.databases session 0) (get_or path.slots session []))) last
