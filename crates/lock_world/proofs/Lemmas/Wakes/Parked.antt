use Rattle.std.proofs.Common.{◌≡◌, ◌≢◌, ℕ, Bool, true, false, Some, None, refl, sym, ap, ◌∙◌, subst, inl, inr}
use Rattle.std.proofs.lemmas.Bool.{cases_eq, both_ways}
use Rattle.lock_table.specs.Put.{set_at}
use Rattle.lock_table.proofs.Lemmas.Put.{set_at-here, set_at-else}
use Rattle.lock_world.specs.declared.events.Event.{Event}
use Rattle.lock_world.specs.World.{World}
use Rattle.lock_world.specs.Account.{list_in_hand}
use Rattle.lock_world.specs.SafeWorld.{SafeWorld}
use Rattle.lock_world.specs.Happens.{Happens}
use Rattle.lock_world.specs.Wakes.Owing.{HasIn, HasNothingToDo, MaySleep}
use Rattle.lock_world.specs.Wakes.{Beside, Turn, happened, saw_list_locked, saw_held, called_waiter, called_sleeper, parks_waiting, parks_asleep, Keeps, unparked, after_turn, session_of, beside_after}
use Rattle.lock_world.proofs.Lemmas.SafeWorld.Runs.{event-safe}
use Rattle.lock_world.proofs.Lemmas.Others.Events.{event-others}
use Rattle.lock_world.proofs.Lemmas.Wakes.Live.{Alone, step-alone, same-nothing, had-before, no-hand}

-- Whoever parks has nothing left to do, and keeps nothing to do while others make their turns.

-- By its last turn a session parks on its wait word, and so has nothing to do; or on its sleep word, and so
-- may sleep.
pub record Parks (w : World) (b : Beside) : Type 0 where
  pub waiting : (k : ℕ) → b.waiting k ≡ true → HasNothingToDo w b.duties b.waits b.sleeps k
  pub asleep : (k : ℕ) → b.asleep k ≡ true → MaySleep w b.duties b.waits b.sleeps k

-- What a session had to do it has to do still, where another makes a turn.
pub turn-alone : (w : World) (b : Beside) (k : ℕ) (turn : Turn) → k ≢ session_of turn → Alone b (beside_after w b turn) k
turn-alone w b k (happened event) other = step-alone w b event.session k other event.step
turn-alone w b k (saw_list_locked s lock) other = (set_at-else b.duties.due s None k other, refl, refl, refl, refl)
turn-alone w b k (saw_held s lock) other = (refl, set_at-else b.duties.tries s None k other, refl, refl, refl)
turn-alone w b k (called_waiter s o) other = (refl, refl, refl, set_at-else b.waits.owed s (set_at (b.waits.owed s) o false) k other, refl)
turn-alone w b k (called_sleeper s o) other = (refl, refl, refl, refl, set_at-else b.sleeps.owed s (set_at (b.sleeps.owed s) o false) k other)
turn-alone w b k (parks_waiting s n) other = (refl, refl, refl, refl, refl)
turn-alone w b k (parks_asleep s n) other = (refl, refl, refl, refl, refl)

-- What the session knows of lightweight locks and lists is as it was, where another makes a turn.
record SameLists (w v : World) (k : ℕ) : Type 0 where
  had : (l : ℕ) → HasIn v k l → HasIn w k l
  stands : v.sessions.stands k ≡ w.sessions.stands k
  list : w.sessions.has_list k ≡ None → v.sessions.has_list k ≡ None
  off : (o : ℕ) → v.sessions.off k o ≡ w.sessions.off k o

same-there : (w v : World) (k : ℕ) → v ≡ w → SameLists w v k
same-there w v k same = subst (λ a. SameLists w a k) (sym same) (record { had = λ l has. has; stands = refl; list = λ none. none; off = λ o. refl })

turn-lists : (w v : World) (b : Beside) (turn : Turn) (k : ℕ) → SafeWorld w → Keeps w b turn v → k ≢ session_of turn → SameLists w v k
turn-lists w v b (happened event) k safe h other =
    let alone = event-others w v event k safe h.0 other in
    record {
      had = had-before w v k safe (event-safe w event v safe h.0) alone.account;
      stands = ap (λ a. a.lists.stands) alone.account;
      list = λ none. no-hand (v.sessions.has_list k) v.words.list (ap (λ a. a.lists.in_hand) alone.account ∙ ap (λ has. list_in_hand has w.words.list) none);
      off = λ o. ap (λ a. a.lists.off o) alone.account;
    }
turn-lists w v b (saw_list_locked s lock) k safe h other = same-there w v k h.2
turn-lists w v b (saw_held s lock) k safe h other = same-there w v k h.2
turn-lists w v b (called_waiter s o) k safe h other = same-there w v k h
turn-lists w v b (called_sleeper s o) k safe h other = same-there w v k h
turn-lists w v b (parks_waiting s n) k safe h other = same-there w v k h.2
turn-lists w v b (parks_asleep s n) k safe h other = same-there w v k h.2

same-sleep : (w v : World) (b d : Beside) (k : ℕ) → MaySleep w b.duties b.waits b.sleeps k → Alone b d k → SameLists w v k → MaySleep v d.duties d.waits d.sleeps k
same-sleep w v b d k was alone same = record {
  lock = was.lock;
  stands = same.stands ∙ was.stands;
  not_won = λ has. alone.2 ∙ was.not_won (same.had was.lock has);
  no_look = alone.0 ∙ was.no_look;
  no_try = alone.1 ∙ was.no_try;
  no_list = same.list was.no_list;
  tells_nobody = λ o. same.off o ∙ was.tells_nobody o;
  calls_no_waiter = λ o. ap (λ row. row o) alone.3 ∙ was.calls_no_waiter o;
  calls_no_sleeper = λ o. ap (λ row. row o) alone.4 ∙ was.calls_no_sleeper o;
}

-- Nobody parks by the turn but its session, and that one only by a turn to park.
module _ (b : Beside) where
  still-waits : (s k : ℕ) → set_at b.waiting s false k ≡ true → (k ≢ s) × (b.waiting k ≡ true)
  still-waits s k parks = elim (cases_eq k s) [
    | inl same ↦ absurd (both_ways (set_at b.waiting s false k) (set_at-here b.waiting s false k same) parks)
    | inr other ↦ (other, sym (set_at-else b.waiting s false k other) ∙ parks)
  ]

  still-sleeps : (s k : ℕ) → set_at b.asleep s false k ≡ true → (k ≢ s) × (b.asleep k ≡ true)
  still-sleeps s k parks = elim (cases_eq k s) [
    | inl same ↦ absurd (both_ways (set_at b.asleep s false k) (set_at-here b.asleep s false k same) parks)
    | inr other ↦ (other, sym (set_at-else b.asleep s false k other) ∙ parks)
  ]

module _ (w v : World) (b : Beside) (turn : Turn) (safe : SafeWorld w) (parks : Parks w b) (h : Keeps w b turn v) where
  abbrev d : Beside
  d = beside_after w b turn

  others-wait : (k : ℕ) → (k ≢ session_of turn) × (b.waiting k ≡ true) → HasNothingToDo v d.duties d.waits d.sleeps k
  others-wait k it =
      let was = parks.waiting k it.1 in
      let same = turn-lists w v b turn k safe h it.0 in
      same-nothing w v b d k was (turn-alone w b k turn it.0) same.had (same.list was.no_list) (λ o. same.off o ∙ was.tells_nobody o)

  others-sleep : (k : ℕ) → (k ≢ session_of turn) × (b.asleep k ≡ true) → MaySleep v d.duties d.waits d.sleeps k
  others-sleep k it = same-sleep w v b d k (parks.asleep k it.1) (turn-alone w b k turn it.0) (turn-lists w v b turn k safe h it.0)

pub turn-parks : (w v : World) (b : Beside) (turn : Turn) → SafeWorld w → Parks w b → Keeps w b turn v → Parks v (beside_after w b turn)
turn-parks w v b (happened event) safe parks h = record {
  waiting = λ k it. others-wait w v b (happened event) safe parks h k (still-waits b event.session k it);
  asleep = λ k it. others-sleep w v b (happened event) safe parks h k (still-sleeps b event.session k it);
}
turn-parks w v b (saw_list_locked s lock) safe parks h = record {
  waiting = λ k it. others-wait w v b (saw_list_locked s lock) safe parks h k (still-waits b s k it);
  asleep = λ k it. others-sleep w v b (saw_list_locked s lock) safe parks h k (still-sleeps b s k it);
}
turn-parks w v b (saw_held s lock) safe parks h = record {
  waiting = λ k it. others-wait w v b (saw_held s lock) safe parks h k (still-waits b s k it);
  asleep = λ k it. others-sleep w v b (saw_held s lock) safe parks h k (still-sleeps b s k it);
}
turn-parks w v b (called_waiter s o) safe parks h = record {
  waiting = λ k it. others-wait w v b (called_waiter s o) safe parks h k (still-waits b s k it);
  asleep = λ k it. others-sleep w v b (called_waiter s o) safe parks h k (still-sleeps b s k it);
}
turn-parks w v b (called_sleeper s o) safe parks h = record {
  waiting = λ k it. others-wait w v b (called_sleeper s o) safe parks h k (still-waits b s k it);
  asleep = λ k it. others-sleep w v b (called_sleeper s o) safe parks h k (still-sleeps b s k it);
}
turn-parks w v b (parks_waiting s n) safe parks h = record {
  waiting = λ k it. elim (cases_eq k s) [
    | inl same ↦
        let was = subst (HasNothingToDo w b.duties b.waits b.sleeps) (sym same) h.1 in
        let there = same-there w v k h.2 in
        same-nothing w v b (beside_after w b (parks_waiting s n)) k was (refl, refl, refl, refl, refl) there.had (there.list was.no_list) (λ o. there.off o ∙ was.tells_nobody o)
    | inr other ↦ others-wait w v b (parks_waiting s n) safe parks h k (other, sym (set_at-else b.waiting s false k other) ∙ sym (set_at-else (set_at b.waiting s false) s true k other) ∙ it)
  ];
  asleep = λ k it. others-sleep w v b (parks_waiting s n) safe parks h k (still-sleeps b s k it);
}
turn-parks w v b (parks_asleep s n) safe parks h = record {
  waiting = λ k it. others-wait w v b (parks_asleep s n) safe parks h k (still-waits b s k it);
  asleep = λ k it. elim (cases_eq k s) [
    | inl same ↦
        same-sleep w v b (beside_after w b (parks_asleep s n)) k (subst (MaySleep w b.duties b.waits b.sleeps) (sym same) h.1) (refl, refl, refl, refl, refl)
        (same-there w v k h.2)
    | inr other ↦ others-sleep w v b (parks_asleep s n) safe parks h k (other, sym (set_at-else b.asleep s false k other) ∙ sym (set_at-else (set_at b.asleep s false) s true k other) ∙ it)
  ];
}
