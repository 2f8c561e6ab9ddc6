use Rattle.lock_world.proofs.Lemmas.Slots.Bits.{shown-held}
use Rattle.lock_world.proofs.Lemmas.Slots.Used.{none_past-groups}
use Rattle.modes_core.specs.declared.tags.Tag.TheVariants.{Relation}
use Rattle.lock_world.proofs.Lemmas.FromSafeWorld.{held-in_table, shown-in_no_content, shown-in_one_slot}
use Rattle.lock_world.proofs.laws.each_hold_in_one_place.Goals as goal

pub returns-clause-in_content : goal.returns-clause-in_content
returns-clause-in_content c =
    λ w safe p s t m.
    held-in_table w safe p s t m

pub returns-clause-in_slot : goal.returns-clause-in_slot
returns-clause-in_slot c =
    λ w safe p s t m shown.
    (safe.slots.are_own s t m shown, shown-in_no_content w safe p s t m shown)

pub returns-clause-one_slot : goal.returns-clause-one_slot
returns-clause-one_slot c =
    λ w safe s place other t m one two.
    shown-in_one_slot w safe s place other t m one two

pub returns-clause-one_slot_of_a_relation : goal.returns-clause-one_slot_of_a_relation
returns-clause-one_slot_of_a_relation c =
    λ w safe s. safe.slots.one_each s

pub returns-clause-in_use_has_database : goal.returns-clause-in_use_has_database
returns-clause-in_use_has_database c =
    λ w safe s. safe.slots.has_database s

pub returns-clause-in_its_group : goal.returns-clause-in_its_group
returns-clause-in_its_group c =
    λ w safe s. safe.slots.in_groups s

pub returns-clause-none_past_the_groups : goal.returns-clause-none_past_the_groups
returns-clause-none_past_the_groups c =
    λ w safe some s i past within.
    none_past-groups w.numbers.groups (w.words.slot s) (safe.slots.in_groups s) some i past within

pub returns-clause-each_bit_is_a_hold : goal.returns-clause-each_bit_is_a_hold
returns-clause-each_bit_is_a_hold c =
    λ w safe s i relation m within shown.
    safe.slots.are_own s (Relation (w.words.database s) relation) m
    (shown-held (w.words.database s) (w.words.slot s) i relation m (safe.slots.has_database s) within shown)

pub returns-clause-never_both : goal.returns-clause-never_both
returns-clause-never_both c =
    λ w safe s t m awaits.
    safe.order.awaited_is_not_own s t m awaits
