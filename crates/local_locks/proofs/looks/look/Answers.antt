use Rattle.std.proofs.Common.{◌≢◌, sym, ap, ◌∙◌}
use Rattle.std.proofs.lemmas.List.{get_or_default}
use Rattle.local_locks.specs.Owned.{is_of, count_in_all}
use Rattle.local_locks.specs.Slots.{entry_at}
use Rattle.local_locks.proofs.Lemmas.OpenSlots.{slot_at-opened, entry_in-held}
use Rattle.local_locks.proofs.Lemmas.Looks.{place_of}
use Rattle.local_locks.proofs.looks.look.Goals as goal

pub returns-then-is_held : goal.returns-then-is_held
returns-then-is_held c =
    let es = c.args.slots.now in
    let read = get_or_default es c.args.first _ _ c.if-first-slots.true in
    let held : count_in_all (entry_at es c.args.first) ≢ 0 = λ none. c.is_held.ensures.0 c.if-is_held.true (ap count_in_all read ∙ none) in
    place_of es c.args.index.now c.requires c.args.tag.now c.args.mode c.args.first
    (slot_at-opened es c.args.first ∙ entry_in-held (entry_at es c.args.first) held)
    (ap (is_of c.args.tag.now c.args.mode) (sym read) ∙ (sym c.is_of.ensures ∙ c.if-is_of.true))
