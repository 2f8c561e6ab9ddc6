use Rattle.std.proofs.Common.{◌≡◌, Some, None, sym, ◌∙◌}
use Rattle.std.proofs.lemmas.Bool.{false_from_ne_true}
use Rattle.lw_word.specs.WaitList.{stands_in}
use Rattle.lock_world.specs.SafeWorld.{tabled}
use Rattle.lock_world.proofs.Lemmas.FromSafe.{spent-not_held, spent-not_queued}
use Rattle.lock_world.proofs.Lemmas.SafeWorld.Tabled.{not_own-no_slot}
use Rattle.lock_world.proofs.Lemmas.Slots.Remembered.{no_hold-no_slot}
use Rattle.lock_world.proofs.laws.spent_sessions_have_nothing.Goals as goal

pub returns-clause-no_hold : goal.returns-clause-no_hold
returns-clause-no_hold c =
    λ w safe s p t m dead.
    (safe.order.no_hold s t m dead, spent-not_held (tabled w) safe.but_slots p s t m dead, not_own-no_slot w safe s t m (safe.order.no_hold s t m dead))

pub returns-clause-no_slot : goal.returns-clause-no_slot
returns-clause-no_slot c =
    λ w safe s dead.
    no_hold-no_slot (w.words.database s) (w.words.slot s) (safe.slots.has_database s)
    (λ t m. not_own-no_slot w safe s t m (safe.order.no_hold s t m dead))

pub returns-clause-no_count : goal.returns-clause-no_count
returns-clause-no_count c =
    λ w safe s dead. safe.order.no_count s dead

pub returns-clause-no_wait : goal.returns-clause-no_wait
returns-clause-no_wait c =
    λ w safe s p t dead.
    (safe.but_slots.table.promise.spent.no_wait s dead, spent-not_queued (tabled w) safe.but_slots p s t dead)

pub returns-clause-no_hand : goal.returns-clause-no_hand
returns-clause-no_hand c =
    λ w safe s p dead.
    safe.but_slots.table.promise.spent.no_word s p dead

pub returns-clause-no_lock : goal.returns-clause-no_lock
returns-clause-no_lock c =
    λ w safe s lock dead. (safe.but_slots.locks.no_shared_partition s lock dead, safe.but_slots.locks.no_fast s lock dead, safe.but_slots.locks.no_shared_fast s lock dead)

pub returns-clause-no_list : goal.returns-clause-no_list
returns-clause-no_list c =
    λ w safe s lock dead. (
      safe.lists.no_list s dead,
      false_from_ne_true (stands_in s (w.words.list lock)) (λ there. let e : Some lock ≡ None = sym (safe.lists.sleepers.named lock s there) ∙ safe.lists.no_stand s dead in absurd (cc)),
    )
