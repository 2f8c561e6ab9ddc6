use Rattle.std.proofs.Common.{◌≡◌, ℕ, ◌≤◌, ◌<◌, true, Option, Some, None, refl, sym, ap, ◌∙◌, subst, arith}
use Rattle.std.proofs.lemmas.Bool.{eq-eqb}
use mathlib.Core.Option.{some}
use mathlib.Core.Option as maybe
use lib.ListN.{get_elem?}
use Rattle.atomic_table.specs.Table.{State}
use Rattle.modes_core.specs.declared.modes.Mode.{Mode}
use Rattle.modes_core.specs.declared.tags.Tag.{Tag}
use Rattle.modes_core.specs.Tag.{partition_of, relation_of, is_eligible_for}
use Rattle.lw_word.specs.LightweightWord.{IsHeldByNobody}
use Rattle.lw_word.specs.SlotWord.{shows}
use Rattle.lock_table.specs.declared.request.Request.{Request}
use Rattle.lock_table.specs.Content.{Content}
use Rattle.lock_world.specs.declared.events.Word.TheVariants.{Partition, Database, Slot}
use Rattle.lock_world.specs.World.{World, Hand}
use Rattle.lock_world.specs.SlotHolds.{most_groups}
use Rattle.lock_world.specs.Headline.{Headline, stands_with, InSlot, InPartition}
use Rattle.lock_world.proofs.Lemmas.Headline.{headline}
use Rattle.shared_rule.specs.declared.rule.TableSizes.{TableSizes}
use Rattle.shared_rule.specs.declared.history.View.{View}
use Rattle.shared_rule.specs.declared.kept.Kept.{Kept}
use Rattle.shared_rule.specs.declared.kept.Kept.TheVariants as kept
use Rattle.shared_rule.specs.Layout.{content_shelf_of}
use Rattle.shared_rule.specs.Ruled.{Ruled, IsHomeUnlessInHand}
use Rattle.shared_rule.specs.TableHeadline.{IsShownInSlot, IsShownAtHome, TableShows, in_slot, at_home, NoTwoConflictAtTable}

module _ {T : Type 0} (content : T → Content) (begun : T → Option Request) (sizes : TableSizes) (st : State (Kept T) (View T)) (r : Ruled content begun sizes st) where
  abbrev w : World
  w = r.world

  abbrev head : Headline w
  head = headline w r.safe

  from_slot : (s : ℕ) (tag : Tag) (mode : Mode) → s < sizes.sessions → IsShownInSlot sizes st s tag mode → stands_with w s tag mode ≡ true
  from_slot s tag mode among it =
      let few : sizes.groups ≤ most_groups = r.shown.few_groups in
      let within = it.within in
      head.nowhere_else s tag mode (InSlot it.slot) (record {
        eligible = subst (λ n. is_eligible_for n tag mode ≡ true) (r.shown.of_words.word (Database s) (tt, among)) it.eligible;
        within = omega (arith, few, within);
        shown = subst (λ n. shows n (relation_of tag) mode ≡ true) (r.shown.of_words.word (Slot s it.slot) (it.within, among)) it.shown;
      })

  -- a partition whose word shows no holder is in no hand
  no_hand : (p : ℕ) (hand : Hand) → w.contents.hand p ≡ Some hand → IsHeldByNobody (w.words.partition p) → ⊥
  no_hand p hand has free =
      let held = (r.safe.but_slots.table.promise.words p).held_is_shown hand.holder
      (r.safe.but_slots.table.carriers.hands p hand.holder ∙ ap (λ h. Rattle.lock_world.specs.Safe.is_hand_of h hand.holder) has ∙ eq-eqb hand.holder hand.holder refl) in
      omega (arith, free, held)

  one_part : (part other : T) → ◌≡◌ {A = maybe.Option (maybe.Option (Kept T))} (some (some (kept.Part part))) (some (some (kept.Part other))) → part ≡ other
  one_part part other same = cc (same)

  at_partition : (p : ℕ) → p < 16 → IsHeldByNobody (w.words.partition p) → (part : T) → get_elem? st.homes (content_shelf_of p) ≡ some (some (kept.Part part))
      → content part ≡ w.contents.now p
  at_partition p exists free part there = go (w.contents.hand p) refl where
    go : (hand : Option Hand) → w.contents.hand p ≡ hand → content part ≡ w.contents.now p
    go (Some hand) has = absurd (no_hand p hand has free)
    go None none =
        let home = subst (λ h. IsHomeUnlessInHand content begun h (w.contents.now p) (get_elem? st.homes (content_shelf_of p))) none (r.shown.of_contents p exists) in
        ap content (one_part part home.part (sym there ∙ home.at_home)) ∙ home.is_content

  from_home : (s : ℕ) (tag : Tag) (mode : Mode) → IsShownAtHome content sizes st s tag mode → stands_with w s tag mode ≡ true
  from_home s tag mode it =
      let exists : partition_of tag < 16 = omega arith in
      let free : IsHeldByNobody (w.words.partition (partition_of tag)) = subst IsHeldByNobody (r.shown.of_words.word (Partition (partition_of tag)) (exists, tt)) it.free in
      head.nowhere_else s tag mode (InPartition (partition_of tag))
      (ap (λ (c : Content). c.holds s tag mode) (sym (at_partition (partition_of tag) exists free it.part it.there)) ∙ it.held)

  from_table : (s : ℕ) (tag : Tag) (mode : Mode) → s < sizes.sessions → TableShows content sizes st s tag mode → stands_with w s tag mode ≡ true
  from_table s tag mode among (in_slot it) = from_slot s tag mode among it
  from_table s tag mode among (at_home it) = from_home s tag mode it

  pub at-table : NoTwoConflictAtTable content sizes st
  at-table s other tag mode its apart among too shows_one shows_other =
      head.no_two_conflict s other tag mode its apart (from_table s tag mode among shows_one) (from_table other tag its too shows_other)
