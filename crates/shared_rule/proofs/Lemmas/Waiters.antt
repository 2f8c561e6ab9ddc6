use Rattle.std.proofs.Common.{◌≡◌, ℕ, ◌<◌, true, List, length, Option, Some, None, refl, sym, ap, ◌∙◌, inl, inr, arith}
use Rattle.std.proofs.lemmas.Bool.{cases_Bool, eq-eqb}
use Rattle.std.proofs.lemmas.List.Folds.{list_any_at}
use Rattle.std.specs.Prelude.{get_or}
use Rattle.lw_word.specs.declared.wait_lists.LwWaiter.{LwWaiter}
use Rattle.lw_word.specs.WaitList.{is_of, stands_in, taken_off}
use Rattle.modes_core.specs.declared.tags.Tag.{Tag}
use Rattle.lock_table.specs.OwnWait.{OwnWait}
use Rattle.lock_table.specs.Queue.{waits_there}
use Rattle.lock_world.specs.World.{World}
use Rattle.lock_world.specs.SafeWorld.{SafeWorld, tabled}
use Rattle.lock_world.proofs.Lemmas.FromSafe.{session-stands}
use Rattle.shared_rule.specs.Waiters.{WaitersExist}
use Rattle.shared_rule.proofs.Lemmas.TakenOff.{taken-stood}

-- Whoever waits is a session that there can be.

module _ (w : World) (safe : SafeWorld w) where
  -- A live session is one of those that there can be.
  live-below : (k : ℕ) → w.numbers.live k ≡ true → k < w.numbers.limit
  live-below k live =
      let numbers = safe.but_slots.table.carriers.numbers in
      let issued = numbers.live_is_issued k live in
      let all = numbers.within in
      omega (arith, issued, all)

  -- Whoever waits in a content is one of them,
  pub waits-below : (p k : ℕ) (tag : Tag) → waits_there ((w.contents.now p).waits tag) k ≡ true → k < w.numbers.limit
  waits-below p k tag there = elim (cases_Bool (w.numbers.live k)) [
    | inl live ↦ live-below k live
    | inr spent ↦
        let stands = session-stands (tabled w) safe.but_slots p k tag there in
        let some : w.sessions.awaited k ≡ Some stands.1.1.wait = stands.1.1.is_wait in
        let none : w.sessions.awaited k ≡ None = safe.but_slots.table.promise.spent.no_wait k spent in
        let never : ◌≡◌ {A = Option OwnWait} None (Some stands.1.1.wait) = sym none ∙ some in
        absurd (cc (never))
  ]

  -- and so is whoever stands in a wait list.
  stands-below : (lock k : ℕ) → stands_in k (w.words.list lock) ≡ true → k < w.numbers.limit
  stands-below lock k there = elim (cases_Bool (w.numbers.live k)) [
    | inl live ↦ live-below k live
    | inr spent ↦
        let some : w.sessions.stands k ≡ Some lock = safe.lists.sleepers.named lock k there in
        let none : w.sessions.stands k ≡ None = safe.lists.no_stand k spent in
        let never : ◌≡◌ {A = Option ℕ} None (Some lock) = sym none ∙ some in
        absurd (cc (never))
  ]

-- So are all in such a list,
pub listed-below : (w : World) (safe : SafeWorld w) (lock : ℕ) (ws : List LwWaiter) → ws ≡ w.words.list lock → WaitersExist w.numbers.limit ws
listed-below w safe lock ws is k there = stands-below w safe lock k (ap (stands_in k) (sym is) ∙ there)

-- and those whom a wakeup takes off it.
pub taken-below : (limit : ℕ) (ws : List LwWaiter) → WaitersExist limit ws → WaitersExist limit (taken_off ws)
taken-below limit ws all k there = all k (taken-stood k ws there)

-- One of them is a session that there can be.
pub one-below : (limit : ℕ) (ws : List LwWaiter) (i : ℕ) (waiter : LwWaiter) → i < length ws → waiter ≡ get_or ws i waiter → WaitersExist limit ws → waiter.session < limit
one-below limit ws i waiter within is all =
    all waiter.session (list_any_at (is_of waiter.session) ws i waiter within (ap (is_of waiter.session) (sym is) ∙ eq-eqb waiter.session waiter.session refl))
