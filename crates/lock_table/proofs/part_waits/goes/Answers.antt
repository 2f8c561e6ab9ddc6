use Rattle.std.proofs.Common.{◌≡◌, ◌∙◌, List, Bool, true, false, not, ◌&&◌, sym, ap, refl}
use Rattle.std.specs.List.{list_any}
use Rattle.modes_core.specs.declared.modes.Mode.{Mode}
use Rattle.modes_core.specs.declared.tags.Tag.{Tag}
use Rattle.modes_core.specs.Tag.{tag_eq}
use Rattle.modes_core.specs.Conflict.{conflict}
use Rattle.lock_table.specs.declared.request.Request.{Request}
use Rattle.lock_table.specs.declared.part_waits.PartWait.{PartWait}
use Rattle.lock_table.specs.Request.{is_in_the_way_of}
use Rattle.lock_table.specs.PartWaits.{awaits_one_of, goes_now}
use Rattle.lock_table.proofs.part_waits.goes.Goals as goal

abbrev held : List Request → PartWait → Tag → (Mode → Bool) → Bool
held holds wait tag modes = list_any (λ hold. is_in_the_way_of hold wait.waiter.session tag modes) holds

abbrev awaited : List PartWait → Tag → (Mode → Bool) → Bool
awaited ahead tag modes = list_any (λ other. awaits_one_of other tag modes) ahead

held-stays : (holds : List Request) (ahead : List PartWait) (wait : PartWait) (tag : Tag) →
    held holds wait tag (conflict wait.waiter.mode) ≡ true → false ≡ goes_now holds ahead wait tag
held-stays holds ahead wait tag is = rw is (and_false (tag_eq tag wait.tag)) where
  and_false : (b : Bool) → false ≡ (b && false)
  and_false true = refl
  and_false false = refl

not_held-goes : (holds : List Request) (ahead : List PartWait) (wait : PartWait) (tag : Tag) →
    true ≡ tag_eq tag wait.tag → held holds wait tag (conflict wait.waiter.mode) ≡ false → not (awaited ahead tag (conflict wait.waiter.mode)) ≡ goes_now holds ahead wait tag
not_held-goes holds ahead wait tag on is = rw (← on, is) refl

pub returns-then-is_held_by_another : goal.returns-then-is_held_by_another
returns-then-is_held_by_another c =
    held-stays c.args.holds.now c.args.ahead.now c.args.wait c.args.tag.now
    (ap (held c.args.holds.now c.args.wait c.args.tag.now) (sym c.conflicts-conflicting.ensures) ∙ sym c.is_held_by_another.ensures ∙ c.if-is_held_by_another.true)

pub returns : goal.returns
returns c =
    ap not (c.is_awaited.ensures ∙ ap (awaited c.args.ahead.now c.args.tag.now) c.conflicts-conflicting.ensures)
    ∙ not_held-goes c.args.holds.now c.args.ahead.now c.args.wait c.args.tag.now c.if-not-is_same.ensures
    (ap (held c.args.holds.now c.args.wait c.args.tag.now) (sym c.conflicts-conflicting.ensures) ∙ sym c.is_held_by_another.ensures ∙ c.if-is_held_by_another.false)
