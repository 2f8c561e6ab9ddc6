use Rattle.std.proofs.Common.{◌≡◌, [], ◌++◌, get_or, arith, ap, ◌∙◌}
use Rattle.lock_model.specs.SlotRows.{lists_below, slot_rows}
use Rattle.lock_model.proofs.Lemmas.SlotRows.{lists_below-start, lists_below-more}
use Rattle.lock_model.proofs.machine.slot_rows.append_session.Goals as goal

pub loop-place-init : goal.loop-place-init
loop-place-init c =
    let mine = get_or c.args.fast_path.now.slots c.args.session [] in
    let database = get_or c.args.fast_path.now.databases c.from.result 0 in
    lists_below-start c.args.list.now.items (λ place. slot_rows c.args.session database place (get_or mine place 0))

pub loop-place-preserved : goal.loop-place-preserved
loop-place-preserved c =
    let mine = get_or c.args.fast_path.now.slots c.args.session [] in
    let database = get_or c.args.fast_path.now.databases c.from.result 0 in
    let added : c.append_slot.new.list.items ≡ c.loop-place.list.items ++ slot_rows c.args.session database c.loop-place.place c.word_at-word.result = c.in_ok-append_slot.ensures in
    lists_below-more c.loop-place.place (λ place. slot_rows c.args.session database place (get_or mine place 0)) c.args.list.now.items c.loop-place.list.items
    c.append_slot.new.list.items c.loop-place.invariant
    (added ∙ ap (λ word. c.loop-place.list.items ++ slot_rows c.args.session database c.loop-place.place word) c.word_at-word.ensures)

pub returns : goal.returns
returns c =
    let mine = get_or c.args.fast_path.now.slots c.args.session [] in
    let place : c.from.result ≡ c.args.session = c.from.ensures ∙ c.number.ensures.value in
    let last : c.loop-place.place ≡ 128 = omega (arith, c.loop-place-test.false, c.loop-place.auto.place-end) in
    c.loop-place.invariant
    ∙ ap (λ n. c.args.list.now.items ++ lists_below n (λ k. slot_rows c.args.session (get_or c.args.fast_path.now.databases c.from.result 0) k (get_or mine k 0))) last
    ∙ ap (λ s. c.args.list.now.items ++ lists_below 128 (λ k. slot_rows c.args.session (get_or c.args.fast_path.now.databases s 0) k (get_or mine k 0))) place
