use Rattle.std.proofs.Common.{arith, ◌≡◌, ◌⊎◌, ℕ, ◌<◌, ◌^◌, true, false, List, [], ◌∷◌, Option, Some, None, refl, sym, ap, ◌∙◌, subst, inl, inr}
use Rattle.std.specs.Prelude.{◌==◌}
use Rattle.std.proofs.lemmas.Bool.{cases_eq, both_ways, false_from_ne_true, cond-false}
use Rattle.lock_table.specs.Content.{Content}
use Rattle.lock_table.proofs.Lemmas.Put.{set_at-here}
use Rattle.lock_world.specs.declared.events.Event.{Event}
use Rattle.lock_world.specs.declared.events.Step.{Step}
use Rattle.lock_world.specs.WaitWord.{wait_state}
use Rattle.lock_world.specs.World.{World, Hand, opening}
use Rattle.lock_world.specs.Happens.{HappensStep, Happens, Next, RunsThrough, last_of, Runs}
use Rattle.lock_world.specs.Happens.Seats.{after_closing}
use Rattle.lock_world.specs.Safe.{is_hand_of}
use Rattle.lock_world.specs.SafeWorld.{SafeWorld}
use Rattle.lock_world.specs.Account.{Account, account, own_hand, known_slots, list_in_hand}
use Rattle.lock_world.specs.Closed.{empty_account}
use Rattle.lock_world.proofs.Lemmas.Others.Events.{event-others}
use Rattle.lock_world.proofs.Lemmas.SafeWorld.Opening.{opening-safe}
use Rattle.lock_world.proofs.Lemmas.SafeWorld.Runs.{Next-safe}
use Rattle.lock_world.proofs.Lemmas.LawfulSteps.{LawfulStep, world_after, being_issued, going_on, being_kept_apart, closing, after_each}
use Rattle.lock_world.proofs.Lemmas.Wakes.Steppers.{makes_steps}

-- A number that is not live is forgotten: it has an account with nothing in it.

-- Whoever makes a step is live after it, unless it closes.
abbrev LivesOrCloses : World → ℕ → World → Type 0
LivesOrCloses w s v = (v.numbers.live s ≡ true) ⊎ (v ≡ after_closing w s)

lives : (w : World) (s : ℕ) → SafeWorld w → (it : LawfulStep w s) → LivesOrCloses w s (world_after it)
lives w s safe (being_issued may) = inl (set_at-here w.numbers.live s true s refl)
lives w s safe (going_on may) = inl (safe.but_slots.table.carriers.numbers.kept_is_live s may.0 may.1)
lives w s safe (being_kept_apart joiner may) = inl may.steps.live
lives w s safe (closing may) = inr refl
lives w s safe step = inl (makes_steps step tt).live

stepping : (w : World) (s : ℕ) (step : Step) (v : World) → SafeWorld w → HappensStep w s step v → LivesOrCloses w s v
stepping w s step v safe h = after_each w s (λ _ u. LivesOrCloses w s u) (lives w s safe) step v h

-- What a session remembers of its slots, whom it has to tell and its trace are not there where its number is
-- not live.
record IsForgotten (a : Account) : Type 0 where
  remembered : a.fast.remembered ≡ (λ _. 0)
  off : a.lists.off ≡ (λ _. false)
  trace : a.trace ≡ []

abbrev AreForgotten : World → Type 0
AreForgotten w = (k : ℕ) → w.numbers.live k ≡ false → IsForgotten (account w k)

forgotten-closed : (w : World) (s : ℕ) → IsForgotten (account (after_closing w s) s)
forgotten-closed w s = record {
  remembered = set_at-here w.sessions.remembered s (λ _. 0) s refl;
  off = set_at-here w.sessions.off s (λ _. false) s refl;
  trace = set_at-here w.sessions.trace s [] s refl;
}

forgotten-step : (w v : World) (event : Event) → SafeWorld w → AreForgotten w → Happens w event v → AreForgotten v
forgotten-step w v event safe old h k dead =
    elim (cases_eq k event.session) [
      | inl own ↦ subst (λ j. IsForgotten (account v j)) (sym own)
          (at (stepping w event.session event.step v safe h) (ap v.numbers.live (sym own) ∙ dead))
      | inr other ↦
          let alone = event-others w v event k safe h other in
          subst IsForgotten (sym alone.account) (old k (sym alone.live ∙ dead))
    ] where
      at : LivesOrCloses w event.session v → v.numbers.live event.session ≡ false → IsForgotten (account v event.session)
      at (inl alive) gone = absurd (both_ways (v.numbers.live event.session) gone alive)
      at (inr closes) gone = subst (λ (z : World). IsForgotten (account z event.session)) (sym closes) (forgotten-closed w event.session)

forgotten-next : (w v : World) (event : Event) → SafeWorld w → AreForgotten w → Next w event v → AreForgotten v
forgotten-next w v event safe old (inl h) = forgotten-step w v event safe old h
forgotten-next w v event safe old (inr h) = subst AreForgotten (sym h.1) old

forgotten-through : (w : World) (events : List Event) (worlds : List World) → SafeWorld w → AreForgotten w → RunsThrough w events worlds
    → SafeWorld (last_of w worlds) × AreForgotten (last_of w worlds)
forgotten-through w [] [] safe old run = (safe, old)
forgotten-through w [] (v ∷ worlds) safe old run = absurd run
forgotten-through w (event ∷ events) [] safe old run = absurd run
forgotten-through w (event ∷ events) (v ∷ worlds) safe old run =
    forgotten-through v events worlds (Next-safe w event v safe run.0) (forgotten-next w v event safe old run.0) run.1

-- All else of its account is empty by what is safe.
no_hand : (hand : Option Hand) (now : Content) (s : ℕ) → is_hand_of hand s ≡ false → own_hand hand now s ≡ None
no_hand None now s none = refl
no_hand (Some h) now s none = cond-false (h.holder == s) _ None none

no_zero : (zero : Option ℕ) → ((index : ℕ) → zero ≡ Some index → ⊥) → zero ≡ None
no_zero None none = refl
no_zero (Some index) none = absurd (none index refl)

module _ (w : World) (safe : SafeWorld w) (k : ℕ) (dead : w.numbers.live k ≡ false) where
  no_wait : w.sessions.awaited k ≡ None
  no_wait = safe.but_slots.table.promise.spent.no_wait k dead

  not_seen : w.sessions.seen k ≡ false
  not_seen = false_from_ne_true (w.sessions.seen k) (λ has.
      let granted : wait_state (w.words.wait k) ≡ 2 = safe.but_slots.table.promise.wait_words.seen_is_shown k has in
      let idle : wait_state (w.words.wait k) ≡ 0 = safe.but_slots.table.promise.wait_words.idle k no_wait in
      omega (arith, granted, idle))

  hand-empty : (p : ℕ) → own_hand (w.contents.hand p) (w.contents.now p) k ≡ None
  hand-empty p = no_hand (w.contents.hand p) (w.contents.now p) k
      (sym (safe.but_slots.table.carriers.hands p k) ∙ safe.but_slots.table.promise.spent.no_word k p dead)

  zero-none : w.sessions.zero k ≡ None
  zero-none = no_zero (w.sessions.zero k) (λ index read.
      both_ways (w.sessions.holds_fast k k) (safe.but_slots.locks.no_fast k k dead) (safe.zero.holds k index read))

  account-empty : IsForgotten (account w k) → account w k ≡ empty_account (w.words.database k)
  account-empty forgotten = λ i. record {
    own = λ t m. safe.order.no_hold k t m dead i;
    awaited = no_wait i;
    seen = not_seen i;
    hand = λ p. hand-empty p i;
    shares = λ p. safe.but_slots.locks.no_shared_partition k p dead i;
    fast = record {
      slots = λ o. known_slots (safe.but_slots.locks.no_fast k o dead i) (w.words.database o) (w.words.slot o);
      shared_slots = λ o. known_slots (safe.but_slots.locks.no_shared_fast k o dead i) (w.words.database o) (w.words.slot o);
      database = w.words.database k;
      remembered = forgotten.remembered i;
      zero = zero-none i;
      counted = safe.order.no_count k dead i;
    };
    lists = record {
      in_hand = list_in_hand (safe.lists.no_list k dead i) w.words.list;
      stands = safe.lists.no_stand k dead i;
      off = forgotten.off i;
    };
    trace = forgotten.trace i;
  }

-- So in each World of a run from the opening one a number that is not live has an account with nothing in it.
pub closed-empty : (limit groups : ℕ) (events : List Event) (w : World) (k : ℕ) → limit < 2 ^ 24 → Runs (opening limit groups) events w → w.numbers.live k ≡ false
    → account w k ≡ empty_account (w.words.database k)
closed-empty limit groups events w k few run dead =
    let last = forgotten-through (opening limit groups) events run.0 (opening-safe limit groups few) (λ j _. record { remembered = refl; off = refl; trace = refl }) run.1 in
    account-empty w (subst SafeWorld (sym run.2) last.0) k dead (subst AreForgotten (sym run.2) last.1 k dead)
