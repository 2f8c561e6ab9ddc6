use Rattle.std.proofs.Common.{◌≡◌, ◌⊎◌, ℕ, ◌%◌, ◌/◌, ◌^◌, ◌<◌, Bool, true, false, List, [], ◌∷◌, ◌++◌, refl, sym, ap, ◌∙◌, subst, inl, inr, arith}
use Rattle.std.specs.Prelude.{◌==◌}
use Rattle.std.proofs.lemmas.Bool.{cases_eq, cases_Bool, both_ways, cond-true, cond-false, eq-eqb, ne_eqb, false≢true}
use Rattle.lw_word.specs.LightweightWord.{IsReleaseOk, free_word}
use Rattle.lock_world.specs.World.{World, MakesSteps, opening}
use Rattle.lock_world.specs.WaitLists.{lock_word}
use Rattle.lock_world.specs.SafeWorld.{SafeWorld}
use Rattle.lock_world.proofs.Lemmas.SafeWorld.Runs.{event-safe}
use Rattle.lock_world.proofs.Lemmas.SafeWorld.Opening.{opening-safe}
use Rattle.lock_world.specs.Wakes.Waking.{Owes, has_it, must_look, has_its_list, must_try, must_set_ok, IsAsleep, OrderIsKept, IsInvolved, owes_one, tells_one}
use Rattle.lock_world.specs.Wakes.Calling.{Calls, ShowsWaiting, ShowsUntold, EachIsCalled, IsParked, looking}
use Rattle.lock_world.specs.Wakes.Owing.{lock_bit, waking, no_duties, HasNothingToDo, MaySleep}
use Rattle.lock_world.specs.Wakes.{Beside, nothing_beside, Turn, happened, saw_list_locked, saw_held, called_waiter, called_sleeper, parks_waiting, parks_asleep, Keeps, IsInOrder, KeepsInOrder, beside_after, RunsBy, RunKeeps, RunKeepsInOrder, OnlyLiveOwe, IsLookedAfter, IsParkedWaiting, IsParkedAsleep, IsParkedOnAWord, NoCallIsLost, ParkedHaveNothingToDo, HasSomethingToDo, is_involved, calls_waiter, calls_sleeper, NotAllSleep}
use Rattle.lock_world.proofs.Lemmas.Wakes.Readings.{none-some, not-none}
use Rattle.lock_world.proofs.Lemmas.Wakes.Taking.{seeing_locked-nobody, seeing_held-nobody}
use Rattle.lock_world.proofs.Lemmas.Wakes.Sleepers.{sleeper-owed, none-sleeps}
use Rattle.lock_world.proofs.Lemmas.Wakes.Shown.{Nobody, held_of}
use Rattle.lock_world.proofs.Lemmas.Wakes.Steps.{step-keeps}
use Rattle.lock_world.proofs.Lemmas.Wakes.Order.{Kept, kept-order, step-order}
use Rattle.lock_world.proofs.Lemmas.Wakes.Steppers.{makes-or-not}
use Rattle.lock_world.proofs.Lemmas.Wakes.Live.{turn-live}
use Rattle.lock_world.proofs.Lemmas.Wakes.Parked.{Parks, turn-parks}
use Rattle.lock_world.proofs.Lemmas.Wakes.Calls.{Both, looking-called, calling-called, step-called}

-- Runs: what holds at first, and what each turn keeps.

turn-safe : (w v : World) (b : Beside) (turn : Turn) → SafeWorld w → Keeps w b turn v → SafeWorld v
turn-safe w v b (happened event) safe h = event-safe w event v safe h.0
turn-safe w v b (saw_list_locked s lock) safe h = subst SafeWorld (sym h.2) safe
turn-safe w v b (saw_held s lock) safe h = subst SafeWorld (sym h.2) safe
turn-safe w v b (called_waiter s o) safe h = subst SafeWorld (sym h) safe
turn-safe w v b (called_sleeper s o) safe h = subst SafeWorld (sym h) safe
turn-safe w v b (parks_waiting s n) safe h = subst SafeWorld (sym h.2) safe
turn-safe w v b (parks_asleep s n) safe h = subst SafeWorld (sym h.2) safe

pub turn-nobody : (w v : World) (b : Beside) (turn : Turn) → SafeWorld w → Nobody w b.duties → Keeps w b turn v → Nobody v (beside_after w b turn).duties
turn-nobody w v b (happened event) safe nobody h =
    step-keeps w b.duties event.session nobody v event.step b.waits b.sleeps safe (event-safe w event v safe h.0) h.0 h.1
turn-nobody w v b (saw_list_locked s lock) safe nobody h =
    subst (λ a. Nobody a (beside_after w b (saw_list_locked s lock)).duties) (sym h.2) (seeing_locked-nobody (waking w b.duties) s lock nobody h.1 (safe.lists.shown lock) h.0)
turn-nobody w v b (saw_held s lock) safe nobody h =
    subst (λ a. Nobody a (beside_after w b (saw_held s lock)).duties) (sym h.2) (seeing_held-nobody (waking w b.duties) s lock nobody h.1 (held_of w b.duties lock safe h.0))
turn-nobody w v b (called_waiter s o) safe nobody h = subst (λ a. Nobody a b.duties) (sym h) nobody
turn-nobody w v b (called_sleeper s o) safe nobody h = subst (λ a. Nobody a b.duties) (sym h) nobody
turn-nobody w v b (parks_waiting s n) safe nobody h = subst (λ a. Nobody a b.duties) (sym h.2) nobody
turn-nobody w v b (parks_asleep s n) safe nobody h = subst (λ a. Nobody a b.duties) (sym h.2) nobody

abbrev BothOf : World → Beside → Type 0
BothOf w b = Both w b.waits b.sleeps

turn-called : (w v : World) (b : Beside) (turn : Turn) → BothOf w b → Keeps w b turn v → BothOf v (beside_after w b turn)
turn-called w v b (happened event) both h = step-called w event.session b.waits b.sleeps both event.step v h.0
turn-called w v b (saw_list_locked s lock) both h = subst (λ a. BothOf a b) (sym h.2) both
turn-called w v b (saw_held s lock) both h = subst (λ a. BothOf a b) (sym h.2) both
turn-called w v b (called_waiter s o) both h = subst (λ a. BothOf a (beside_after w b (called_waiter s o))) (sym h) (calling-called ShowsWaiting w.words.wait b.waits both.0 s o, both.1)
turn-called w v b (called_sleeper s o) both h = subst (λ a. BothOf a (beside_after w b (called_sleeper s o))) (sym h) (both.0, calling-called ShowsUntold w.words.sleep b.sleeps both.1 s o)
turn-called w v b (parks_waiting s n) both h =
    subst (λ a. BothOf a (beside_after w b (parks_waiting s n))) (sym h.2)
    (subst (λ shown. EachIsCalled ShowsWaiting w.words.wait (looking b.waits s shown)) (sym h.0) (looking-called ShowsWaiting w.words.wait b.waits both.0 s), both.1)
turn-called w v b (parks_asleep s n) both h =
    subst (λ a. BothOf a (beside_after w b (parks_asleep s n))) (sym h.2)
    (both.0, subst (λ shown. EachIsCalled ShowsUntold w.words.sleep (looking b.sleeps s shown)) (sym h.0) (looking-called ShowsUntold w.words.sleep b.sleeps both.1 s))

turn-order : (w v : World) (b : Beside) (turn : Turn) → Kept w → Keeps w b turn v → IsInOrder w turn → Kept v
turn-order w v b (happened event) kept h asks = step-order w event.session kept event.step v h.0 asks
turn-order w v b (saw_list_locked s lock) kept h asks = subst Kept (sym h.2) kept
turn-order w v b (saw_held s lock) kept h asks = subst Kept (sym h.2) kept
turn-order w v b (called_waiter s o) kept h asks = subst Kept (sym h) kept
turn-order w v b (called_sleeper s o) kept h asks = subst Kept (sym h) kept
turn-order w v b (parks_waiting s n) kept h asks = subst Kept (sym h.2) kept
turn-order w v b (parks_asleep s n) kept h asks = subst Kept (sym h.2) kept

-- All that a run carries.
pub record IsWell (w : World) (b : Beside) : Type 0 where
  pub safe : SafeWorld w
  pub nobody : Nobody w b.duties
  pub called : BothOf w b
  pub only : OnlyLiveOwe w b
  pub parks : Parks w b

turn-well : (w v : World) (b : Beside) (turn : Turn) → IsWell w b → Keeps w b turn v → IsWell v (beside_after w b turn)
turn-well w v b turn well h = record {
  safe = turn-safe w v b turn well.safe h;
  nobody = turn-nobody w v b turn well.safe well.nobody h;
  called = turn-called w v b turn well.called h;
  only = turn-live w v b turn well.safe well.only h;
  parks = turn-parks w v b turn well.safe well.parks h;
}

run-well : (w v : World) (b d : Beside) (turns : List Turn) → IsWell w b → RunsBy Keeps w b turns v d → IsWell v d
run-well w v b d [] well run = subst (λ a. IsWell a d) (sym run.0) (subst (λ c. IsWell w c) (sym run.1) well)
run-well w v b d (turn ∷ turns) well run = run-well run.0 v (beside_after w b turn) d turns (turn-well w run.0 b turn well run.1) run.2

run-order : (w v : World) (b d : Beside) (turns : List Turn) → Kept w → RunsBy KeepsInOrder w b turns v d → Kept v
run-order w v b d [] kept run = subst Kept (sym run.0) kept
run-order w v b d (turn ∷ turns) kept run = run-order run.0 v (beside_after w b turn) d turns (turn-order w run.0 b turn kept (run.1).0 (run.1).1) run.2

-- A run in order is a run.
in-order : (w v : World) (b d : Beside) (turns : List Turn) → RunsBy KeepsInOrder w b turns v d → RunsBy Keeps w b turns v d
in-order w v b d [] run = run
in-order w v b d (turn ∷ turns) run = (run.0, (run.1).0, in-order run.0 v (beside_after w b turn) d turns run.2)

-- A run goes on by one more turn.
pub run-push : (each : World → Beside → Turn → World → Type 0) (w v u : World) (b d : Beside) (turns : List Turn) (turn : Turn)
    → RunsBy each w b turns v d → each v d turn u → RunsBy each w b (turns ++ turn ∷ []) u (beside_after v d turn)
run-push each w v u b d [] turn run h = (u, subst (λ a. each a b turn u) run.0 (subst (λ c. each v c turn u) run.1 h), (refl, λ i. beside_after (run.0 i) (run.1 i) turn))
run-push each w v u b d (first ∷ turns) turn run h = (run.0, run.1, run-push each run.0 v u (beside_after w b first) d turns turn run.2 h)

-- At first nobody waits, nobody has looked, and nobody has anything to do.
opening-nobody : (limit groups : ℕ) → Nobody (opening limit groups) no_duties
opening-nobody limit groups = record {
  shown = λ lock some. absurd (some refl);
  owed = λ lock some. absurd (some refl);
  release_ok = λ lock clear. absurd (clear (free lock));
  flag_stays = λ s lock has flagged. absurd (false≢true flagged);
  in_list = λ lock s there. absurd (false≢true there);
  of_hand = λ s o lock has off. absurd (false≢true off);
  waits = λ s one. absurd (omega (arith, one));
  told = λ s two. absurd (omega (arith, two));
  few = λ s. omega arith;
} where
  free : (lock : ℕ) → IsReleaseOk (lock_word (λ _. free_word) (λ _. free_word) lock)
  free lock = elim (cases_eq (lock % 2) 0) [
    | inl even ↦ ap (λ n. n / 2 ^ 29 % 2) (cond-true (lock % 2 == 0) free_word free_word (eq-eqb (lock % 2) 0 even))
    | inr odd ↦ ap (λ n. n / 2 ^ 29 % 2) (cond-false (lock % 2 == 0) free_word free_word (ne_eqb (lock % 2) 0 odd))
  ]

-- Nobody has a lock where no row is set.
pub none-held : (l : ℕ) → (lock_bit (λ _. false) (λ _. false) l ≡ true) ⊎ (lock_bit (λ _. false) (λ _. false) l ≡ true) → ⊥
none-held l has = both_ways (lock_bit (λ _. false) (λ _. false) l) none (elim has [
  | inl held ↦ held
  | inr shared ↦ shared
]) where
  none : lock_bit (λ _. false) (λ _. false) l ≡ false
  none = elim (cases_Bool (l % 2 == 0)) [
    | inl even ↦ cond-true (l % 2 == 0) false false even
    | inr odd ↦ cond-false (l % 2 == 0) false false odd
  ]

opening-well : (limit groups : ℕ) → limit < 2 ^ 24 → IsWell (opening limit groups) nothing_beside
opening-well limit groups few = record {
  safe = opening-safe limit groups few;
  nobody = opening-nobody limit groups;
  called = (λ k n looked parks. absurd (none-some n looked), λ k n looked parks. absurd (none-some n looked));
  only = λ k spent. record {
    no_lock = λ l has. none-held l has;
    no_look = refl;
    no_try = refl;
    no_ok = refl;
    no_list = refl;
    tells_nobody = λ o. refl;
    calls_no_waiter = λ o. refl;
    calls_no_sleeper = λ o. refl;
  };
  parks = record { waiting = λ k parks. absurd (false≢true parks); asleep = λ k parks. absurd (false≢true parks) };
}

module _ (limit groups : ℕ) (turns : List Turn) (v : World) (d : Beside) where
  pub keeps-well : RunKeeps limit groups turns v d → IsWell v d
  keeps-well run = run-well (opening limit groups) v nothing_beside d turns (opening-well limit groups run.0) run.1

  pub keeps-in_order : RunKeepsInOrder limit groups turns v d → RunKeeps limit groups turns v d
  keeps-in_order run = (run.0, in-order (opening limit groups) v nothing_beside d turns run.1)

  pub keeps-order : RunKeepsInOrder limit groups turns v d → OrderIsKept (waking v d.duties)
  keeps-order run = kept-order v d.duties (run-order (opening limit groups) v nothing_beside d turns at_first run.1) where
    at_first : Kept (opening limit groups)
    at_first = record { rising = λ s l held stands has. absurd (none-some l stands); bound = λ s l stands. absurd (none-some l stands) }

-- What follows for those who sleep, and for those who are parked.
nothing-owed : (w : World) (b : Beside) (lock k : ℕ) → HasNothingToDo w b.duties b.waits b.sleeps k → Owes (waking w b.duties) lock k → ⊥
nothing-owed w b lock k nothing (has_it is) = nothing.no_lock lock is
nothing-owed w b lock k nothing (must_look is) = not-none (b.duties.due k) lock nothing.no_look is
nothing-owed w b lock k nothing (has_its_list is) = not-none (w.sessions.has_list k) lock nothing.no_list is
nothing-owed w b lock k nothing (must_try is) = not-none (b.duties.tries k) lock nothing.no_try is
nothing-owed w b lock k nothing (must_set_ok is) = not-none (b.duties.owes_release_ok k) lock nothing.no_ok is.owes

pub owes-steps : (w : World) (b : Beside) → OnlyLiveOwe w b → (lock k : ℕ) → Owes (waking w b.duties) lock k → MakesSteps w.numbers k
owes-steps w b only lock k owes = elim (makes-or-not w.numbers k) [
  | inl makes ↦ makes
  | inr spent ↦ absurd (nothing-owed w b lock k (only k spent) owes)
]

pub tells-steps : (w : World) (b : Beside) → OnlyLiveOwe w b → (k o : ℕ) → w.sessions.off k o ≡ true → MakesSteps w.numbers k
tells-steps w b only k o off = elim (makes-or-not w.numbers k) [
  | inl makes ↦ makes
  | inr spent ↦ absurd (both_ways (w.sessions.off k o) ((only k spent).tells_nobody o) off)
]

pub well-owed : (w : World) (b : Beside) → IsWell w b → (s lock : ℕ) → IsAsleep (waking w b.duties) s lock → IsLookedAfter w b s lock
well-owed w b well s lock asleep = elim (sleeper-owed (waking w b.duties) s lock well.nobody well.safe.lists.sleepers asleep) [
  | inl listed ↦ inl (listed.0, ((listed.1).0, (listed.1).1, owes-steps w b well.only lock ((listed.1).0) ((listed.1).1)))
  | inr off ↦ inr (off.0, off.1, tells-steps w b well.only (off.0) s (off.1))
]

-- Whoever has something to do is not parked on its wait word, and owes no call where it is parked on its
-- sleep word.
nothing-involved : (w : World) (b : Beside) (k : ℕ) → HasNothingToDo w b.duties b.waits b.sleeps k → HasSomethingToDo w b k → ⊥
nothing-involved w b k nothing (is_involved (owes_one lock owes)) = nothing-owed w b lock k nothing owes
nothing-involved w b k nothing (is_involved (tells_one o off)) = both_ways (w.sessions.off k o) (nothing.tells_nobody o) off
nothing-involved w b k nothing (calls_waiter o owed) = both_ways (b.waits.owed k o) (nothing.calls_no_waiter o) owed
nothing-involved w b k nothing (calls_sleeper o owed) = both_ways (b.sleeps.owed k o) (nothing.calls_no_sleeper o) owed

pub well-parked : (w : World) (b : Beside) → IsWell w b → ParkedHaveNothingToDo w b
well-parked w b well = record { waiting = λ k n parked. well.parks.waiting k parked.by_last_turn; asleep = λ k n parked. well.parks.asleep k parked.by_last_turn }

-- Where all who have something to do are parked, each sleeps for a lock, and so do those who are parked for
-- one.
module _ (w : World) (b : Beside) (well : IsWell w b) (kept : OrderIsKept (waking w b.duties)) (all : (k : ℕ) → HasSomethingToDo w b k → IsParkedOnAWord b k) where
  none-owes : (k o : ℕ) → b.sleeps.owed k o ≡ true → IsParkedOnAWord b k → ⊥
  none-owes k o owed (inl it) = both_ways (b.sleeps.owed k o) ((well.parks.waiting k it.1.by_last_turn).calls_no_sleeper o) owed
  none-owes k o owed (inr it) = both_ways (b.sleeps.owed k o) ((well.parks.asleep k it.1.by_last_turn).calls_no_sleeper o) owed

  asleep-by : (k n : ℕ) → IsParkedAsleep b k n → (lock : ℕ) × IsAsleep (waking w b.duties) k lock
  asleep-by k n parked = (
    its.lock,
    record {
      stands = its.stands;
      not_told = λ none. parked.parks_on (sym shows ∙ none);
      no_list = its.no_list;
      no_look = its.no_look;
      no_try = its.no_try;
      tells_nobody = its.tells_nobody;
      not_won = its.not_won;
    },
  ) where
    its : MaySleep w b.duties b.waits b.sleeps k
    its = well.parks.asleep k parked.by_last_turn

    shows : w.words.sleep k ≡ n
    shows = elim ((well.called).1 k n parked.looked parked.parks_on) [
      | inl is ↦ is
      | inr (inl called) ↦ absurd (both_ways (b.sleeps.called k) parked.uncalled called)
      | inr (inr owed) ↦ absurd (none-owes (owed.0) k (owed.1) (all (owed.0) (calls_sleeper k (owed.1))))
    ]

  by-word : (k : ℕ) → HasSomethingToDo w b k → IsParkedOnAWord b k → (lock : ℕ) × IsAsleep (waking w b.duties) k lock
  by-word k has (inl it) = absurd (nothing-involved w b k (well.parks.waiting k it.1.by_last_turn) has)
  by-word k has (inr it) = asleep-by k it.0 it.1

  none-is : (k lock : ℕ) → IsAsleep (waking w b.duties) k lock → ⊥
  none-is = none-sleeps (waking w b.duties) well.nobody well.safe.lists.sleepers kept (λ j involved. by-word j (is_involved involved) (all j (is_involved involved)))

  none-left : (k : ℕ) → HasSomethingToDo w b k ⊎ ((n : ℕ) × IsParkedAsleep b k n) → ⊥
  none-left k (inl has) = let it = by-word k has (all k has) in none-is k it.0 it.1
  none-left k (inr parked) = let it = asleep-by k parked.0 parked.1 in none-is k it.0 it.1

pub well-not_all : (w : World) (b : Beside) → IsWell w b → OrderIsKept (waking w b.duties) → NotAllSleep w b
well-not_all w b well kept all k is = none-left w b well kept all k is

rest-none : (w : World) (b : Beside) → IsWell w b → (k : ℕ) → HasSomethingToDo w b k → ((o : ℕ) × (b.waits.owed k o ≡ true)) ⊎ ((o : ℕ) × (b.sleeps.owed k o ≡ true)) → IsParkedOnAWord b k → ⊥
rest-none w b well k has owes (inl it) = nothing-involved w b k (well.parks.waiting k it.1.by_last_turn) has
rest-none w b well k has (inl owes) (inr it) = both_ways (b.waits.owed k owes.0) ((well.parks.asleep k it.1.by_last_turn).calls_no_waiter owes.0) owes.1
rest-none w b well k has (inr owes) (inr it) = both_ways (b.sleeps.owed k owes.0) ((well.parks.asleep k it.1.by_last_turn).calls_no_sleeper owes.0) owes.1

no-call-lost :
    (w : World) (b : Beside) (ParksOn : ℕ → Type 0) (word : ℕ → ℕ) (c : Calls) (parks : ℕ → Bool) → EachIsCalled ParksOn word c
    → ((k : ℕ) → (o : ℕ) → c.owed k o ≡ true → MakesSteps w.numbers k × (IsParkedOnAWord b k → ⊥)) → NoCallIsLost w b (IsParked ParksOn c parks) word c
no-call-lost w b ParksOn word c parks each live k n parked changed = elim (each k n parked.looked parked.parks_on) [
  | inl is ↦ absurd (changed is)
  | inr (inl called) ↦ absurd (both_ways (c.called k) parked.uncalled called)
  | inr (inr owed) ↦ (owed.0, owed.1, (live (owed.0) k (owed.1)).0, (live (owed.0) k (owed.1)).1)
]

pub well-waits : (w : World) (b : Beside) → IsWell w b → NoCallIsLost w b (IsParkedWaiting b) w.words.wait b.waits
well-waits w b well = no-call-lost w b ShowsWaiting w.words.wait b.waits b.waiting (well.called).0 (λ k o owed. (
  elim (makes-or-not w.numbers k) [
    | inl makes ↦ makes
    | inr none ↦ absurd (both_ways (b.waits.owed k o) ((well.only k none).calls_no_waiter o) owed)
  ],
  rest-none w b well k (calls_waiter o owed) (inl (o, owed)),
))

pub well-sleeps : (w : World) (b : Beside) → IsWell w b → NoCallIsLost w b (IsParkedAsleep b) w.words.sleep b.sleeps
well-sleeps w b well = no-call-lost w b ShowsUntold w.words.sleep b.sleeps b.asleep (well.called).1 (λ k o owed. (
  elim (makes-or-not w.numbers k) [
    | inl makes ↦ makes
    | inr none ↦ absurd (both_ways (b.sleeps.owed k o) ((well.only k none).calls_no_sleeper o) owed)
  ],
  rest-none w b well k (calls_sleeper o owed) (inr (o, owed)),
))
