use Rattle.std.proofs.Common.{◌≡◌, true, [], get_or, ap, ◌∙◌, arith}
use Rattle.std.specs.Prelude.{◌&&◌}
use Rattle.std.specs.List.{list_any}
use Rattle.lw_word.specs.SlotWord.{shows}
use Rattle.modes_core.specs.Tag.{is_eligible_for}
use Rattle.lock_world.specs.SlotHolds.{relation_of, any_below}
use Rattle.lock_model.proofs.Lemmas.Shows.SlotLists.{any_slot-listed}
use Rattle.lock_model.proofs.machine.state.Machine.slots_hold.Goals as goal

pub returns-then-is_eligible : goal.returns-then-is_eligible
returns-then-is_eligible c =
    let now = c.args.self.now in
    let mine = get_or now.fast_path.slots c.args.session [] in
    let place : c.from-index.result ≡ c.args.session = c.from-index.ensures ∙ c.number.ensures.value in
    let shown = c.requires.shown in
    let eligible : true ≡ is_eligible_for (get_or now.fast_path.databases c.args.session 0) c.args.tag c.args.mode =
    c.if-is_eligible.ensures ∙ ap (λ i. is_eligible_for (get_or now.fast_path.databases i 0) c.args.tag c.args.mode) place in
    c.some_slot_shows.ensures
    ∙ ap (λ r. list_any (λ word. shows word r c.args.mode) c.as_slice.result.now) c.relation_number.ensures
    ∙ ap (list_any (λ word. shows word (relation_of c.args.tag) c.args.mode)) (c.as_slice.ensures ∙ ap (λ i. get_or now.fast_path.slots i []) place)
    ∙ any_slot-listed (λ word. shows word (relation_of c.args.tag) c.args.mode) mine 0 128 (shown.2.fast_path.each_slots c.args.session (omega arith))
    ∙ ap (λ b. b && any_below 128 (λ place. shows (get_or mine place 0) (relation_of c.args.tag) c.args.mode)) eligible
