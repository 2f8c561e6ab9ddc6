use Rattle.std.proofs.Common.{◌≡◌, ◌≢◌, ℕ, Bool, true, false, List, [], ◌∷◌, ◌++◌, Some, None, refl, sym, ap, ◌∙◌, subst, inl, inr}
use Rattle.std.specs.Prelude.{◌==◌, ◌&&◌, not, if◌then◌else◌}
use Rattle.std.proofs.lemmas.Bool.{cases_eq, cases_Bool, cond-true, cond-false, eq-eqb, ne_eqb}
use mathlib.Core.Bool.{cond}
use Rattle.lock_table.proofs.Lemmas.Put.{set_at-here, set_at-else}
use Rattle.lock_world.specs.declared.events.Event.{Event}
use Rattle.lock_world.specs.declared.events.Step.{Step}
use Rattle.lock_world.specs.declared.events.Step.TheVariants as step
use Rattle.lock_world.specs.WaitWord.{wait_state}
use Rattle.lock_world.specs.World.{World}
use Rattle.lock_world.specs.Wakes.Calling.{Calls, changing, asking}
use Rattle.lock_world.specs.Wakes.{Beside, Turn, happened, saw_list_locked, saw_held, called_waiter, called_sleeper, parks_waiting, parks_asleep, beside_after, RunsBy}
use Rattle.shared_rule.specs.declared.history.Mark.{Mark}
use Rattle.shared_rule.specs.declared.history.Mark.TheVariants as mark
use Rattle.shared_rule.specs.declared.history.WordMark.{WordMark}
use Rattle.shared_rule.specs.declared.history.WordMark.TheVariants as word
use Rattle.shared_rule.specs.Looks.{OwnLooks, no_looks, looks_words, looks_noted, looks_told, looks_of}
use Rattle.shared_rule.specs.Tells.{WordsTell, Tells, TellsTurn, AreTurnsTold, is_of_seats, is_turn_of, turns_of}

-- What a session's words showed as it loaded them last is what its history tells: it is so by its own turns
-- of the run.

-- what a step of a session, and a turn, make of it
abbrev looks_step : OwnLooks → Step → OwnLooks
looks_step looks (step.LoadWait shown) = record looks { on_wait = Some shown }
looks_step looks (step.SetWaiting tag mode) = record looks { on_wait = None }
looks_step looks (step.ClearWait leaving) = record looks { on_wait = None }
looks_step looks (step.LoadSleep shown) = record looks { on_sleep = Some shown }
looks_step looks (step.JoinList mode) = record looks { on_sleep = None }
looks_step looks step.LeaveList = record looks { on_sleep = None }
looks_step looks its = looks

abbrev looks_turn : OwnLooks → Turn → OwnLooks
looks_turn looks (happened event) = looks_step looks event.step
looks_turn looks (saw_list_locked session lock) = looks
looks_turn looks (saw_held session lock) = looks
looks_turn looks (called_waiter session other) = looks
looks_turn looks (called_sleeper session other) = looks
looks_turn looks (parks_waiting session shown) = record looks { on_wait = Some shown }
looks_turn looks (parks_asleep session shown) = record looks { on_sleep = Some shown }

abbrev looks_after : OwnLooks → List Turn → OwnLooks
looks_after looks [] = looks
looks_after looks (turn ∷ turns) = looks_after (looks_turn looks turn) turns

asking-looked : (c : Calls) (s o shown : ℕ) → (asking c s o shown).looked ≡ c.looked
asking-looked c s o shown = elim (cases_Bool (wait_state shown == 1)) [
  | inl waits ↦ ap (λ (d : Calls). d.looked) (cond-true (wait_state shown == 1) (changing c s o) c waits)
  | inr free ↦ ap (λ (d : Calls). d.looked) (cond-false (wait_state shown == 1) (changing c s o) c free)
]

-- A step, of its own session and of all others.
module _ (w : World) (b : Beside) (s : ℕ) where
  abbrev after_step : Step → Beside
  after_step its = beside_after w b (happened (record { session = s; step = its }))

  step-own : (its : Step) → looks_of (after_step its) s ≡ looks_step (looks_of b s) its
  step-own (step.TakeExclusive word) = refl
  step-own (step.PutExclusive word done) = refl
  step-own (step.TakeShared word) = refl
  step-own (step.PutShared word) = refl
  step-own step.SplitSeat = refl
  step-own (step.JoinSeat joiner) = refl
  step-own (step.AskCancel o) = λ i. record { on_wait = asking-looked b.waits s o (w.words.wait o) i s; on_sleep = b.sleeps.looked s }
  step-own (step.LoadWait n) = λ i. record { on_wait = set_at-here b.waits.looked s (Some n) s refl i; on_sleep = b.sleeps.looked s }
  step-own (step.SetWaiting t m) = λ i. record { on_wait = set_at-here b.waits.looked s None s refl i; on_sleep = b.sleeps.looked s }
  step-own (step.MarkGranted o done) = refl
  step-own (step.ClearWait leaving) = λ i. record { on_wait = set_at-here b.waits.looked s None s refl i; on_sleep = b.sleeps.looked s }
  step-own (step.PutPassing o t m) = refl
  step-own (step.LoadStrong i n) = refl
  step-own (step.LoadWord word n) = refl
  step-own (step.SetSlot i t m) = refl
  step-own (step.ClearSlot i t m) = refl
  step-own (step.StoreDatabase d) = refl
  step-own (step.Count t m) = refl
  step-own (step.Uncount t m) = refl
  step-own (step.TransferSlot q i t m z) = refl
  step-own (step.LockList word) = refl
  step-own (step.UnlockList word waiters release) = refl
  step-own (step.JoinList mode) = λ i. record { on_wait = b.waits.looked s; on_sleep = set_at-here b.sleeps.looked s None s refl i }
  step-own step.LeaveList = λ i. record { on_wait = b.waits.looked s; on_sleep = set_at-here b.sleeps.looked s None s refl i }
  step-own (step.TakeOff o) = refl
  step-own (step.Tell o) = refl
  step-own (step.LoadSleep n) = λ i. record { on_wait = b.waits.looked s; on_sleep = set_at-here b.sleeps.looked s (Some n) s refl i }
  step-own (step.SetReleaseOk word n) = refl
  step-own (step.SetHasWaiters word n) = refl

  step-else : (k : ℕ) → k ≢ s → (its : Step) → looks_of (after_step its) k ≡ looks_of b k
  step-else k other (step.TakeExclusive word) = refl
  step-else k other (step.PutExclusive word done) = refl
  step-else k other (step.TakeShared word) = refl
  step-else k other (step.PutShared word) = refl
  step-else k other step.SplitSeat = refl
  step-else k other (step.JoinSeat joiner) = refl
  step-else k other (step.AskCancel o) = λ i. record { on_wait = asking-looked b.waits s o (w.words.wait o) i k; on_sleep = b.sleeps.looked k }
  step-else k other (step.LoadWait n) = λ i. record { on_wait = set_at-else b.waits.looked s (Some n) k other i; on_sleep = b.sleeps.looked k }
  step-else k other (step.SetWaiting t m) = λ i. record { on_wait = set_at-else b.waits.looked s None k other i; on_sleep = b.sleeps.looked k }
  step-else k other (step.MarkGranted o done) = refl
  step-else k other (step.ClearWait leaving) = λ i. record { on_wait = set_at-else b.waits.looked s None k other i; on_sleep = b.sleeps.looked k }
  step-else k other (step.PutPassing o t m) = refl
  step-else k other (step.LoadStrong i n) = refl
  step-else k other (step.LoadWord word n) = refl
  step-else k other (step.SetSlot i t m) = refl
  step-else k other (step.ClearSlot i t m) = refl
  step-else k other (step.StoreDatabase d) = refl
  step-else k other (step.Count t m) = refl
  step-else k other (step.Uncount t m) = refl
  step-else k other (step.TransferSlot q i t m z) = refl
  step-else k other (step.LockList word) = refl
  step-else k other (step.UnlockList word waiters release) = refl
  step-else k other (step.JoinList mode) = λ i. record { on_wait = b.waits.looked k; on_sleep = set_at-else b.sleeps.looked s None k other i }
  step-else k other step.LeaveList = λ i. record { on_wait = b.waits.looked k; on_sleep = set_at-else b.sleeps.looked s None k other i }
  step-else k other (step.TakeOff o) = refl
  step-else k other (step.Tell o) = refl
  step-else k other (step.LoadSleep n) = λ i. record { on_wait = b.waits.looked k; on_sleep = set_at-else b.sleeps.looked s (Some n) k other i }
  step-else k other (step.SetReleaseOk word n) = refl
  step-else k other (step.SetHasWaiters word n) = refl

-- A step of seats makes nothing of it.
seats-looks : (looks : OwnLooks) (its : Step) → is_of_seats its ≡ true → looks_step looks its ≡ looks
seats-looks looks step.SplitSeat seats = refl
seats-looks looks (step.JoinSeat joiner) seats = refl
seats-looks looks its seats = absurd (cc (seats))

-- A turn: of the session, or not.
event-looks : (w : World) (b : Beside) (k : ℕ) (event : Event) → looks_of (beside_after w b (happened event)) k ≡ (if is_turn_of k (happened event) then looks_step (looks_of b k) event.step else looks_of b k)
event-looks w b k event = elim (cases_eq k event.session) [
  | inl own ↦ elim (cases_Bool (is_of_seats event.step)) [
    | inr made ↦
        let mine : is_turn_of k (happened event) ≡ true = λ i. eq-eqb event.session k (sym own) i && not (made i) in
        subst (λ j. looks_of (beside_after w b (happened event)) j ≡ looks_step (looks_of b j) event.step) (sym own) (step-own w b event.session event.step)
        ∙ sym (cond-true (is_turn_of k (happened event)) (looks_step (looks_of b k) event.step) (looks_of b k) mine)
    | inl seats ↦
        let same = subst (λ j. looks_of (beside_after w b (happened event)) j ≡ looks_step (looks_of b j) event.step) (sym own) (step-own w b event.session event.step)
        ∙ seats-looks (looks_of b k) event.step seats in
        same ∙ either (is_turn_of k (happened event)) (looks_step (looks_of b k) event.step) (looks_of b k) (seats-looks (looks_of b k) event.step seats)
  ]
  | inr other ↦
      let away : is_turn_of k (happened event) ≡ false = ap (λ t. t && not (is_of_seats event.step)) (ne_eqb event.session k (λ e. other (sym e))) in
      step-else w b event.session k other event.step ∙ sym (cond-false (is_turn_of k (happened event)) (looks_step (looks_of b k) event.step) (looks_of b k) away)
] where
  either : (t : Bool) (x y : OwnLooks) → x ≡ y → y ≡ (if t then x else y)
  either true x y same = sym same
  either false x y same = refl

-- The turns of a session, the first one aside.
after-if : (t : Bool) (turn : Turn) (turns : List Turn) (looks : OwnLooks) → looks_after looks (cond t (turn ∷ turns) turns) ≡ looks_after (if t then looks_turn looks turn else looks) turns
after-if true turn turns looks = refl
after-if false turn turns looks = refl

if-same : (t : Bool) (x : OwnLooks) → x ≡ (if t then x else x)
if-same true x = refl
if-same false x = refl

turn-looks : (w : World) (b : Beside) (k : ℕ) (turn : Turn) → looks_of (beside_after w b turn) k ≡ (if is_turn_of k turn then looks_turn (looks_of b k) turn else looks_of b k)
turn-looks w b k (happened event) = event-looks w b k event
turn-looks w b k (saw_list_locked s lock) = if-same (s == k) (looks_of b k)
turn-looks w b k (saw_held s lock) = if-same (s == k) (looks_of b k)
turn-looks w b k (called_waiter s o) = if-same (s == k) (looks_of b k)
turn-looks w b k (called_sleeper s o) = if-same (s == k) (looks_of b k)
turn-looks w b k (parks_waiting s n) = elim (cases_eq k s) [
  | inl own ↦ (λ i. record { on_wait = set_at-here b.waits.looked s (Some n) k own i; on_sleep = b.sleeps.looked k })
      ∙ sym (cond-true (s == k) (looks_turn (looks_of b k) (parks_waiting s n)) (looks_of b k) (eq-eqb s k (sym own)))
  | inr other ↦ (λ i. record { on_wait = set_at-else b.waits.looked s (Some n) k other i; on_sleep = b.sleeps.looked k })
      ∙ sym (cond-false (s == k) (looks_turn (looks_of b k) (parks_waiting s n)) (looks_of b k) (ne_eqb s k (λ e. other (sym e))))
]
turn-looks w b k (parks_asleep s n) = elim (cases_eq k s) [
  | inl own ↦ (λ i. record { on_wait = b.waits.looked k; on_sleep = set_at-here b.sleeps.looked s (Some n) k own i })
      ∙ sym (cond-true (s == k) (looks_turn (looks_of b k) (parks_asleep s n)) (looks_of b k) (eq-eqb s k (sym own)))
  | inr other ↦ (λ i. record { on_wait = b.waits.looked k; on_sleep = set_at-else b.sleeps.looked s (Some n) k other i })
      ∙ sym (cond-false (s == k) (looks_turn (looks_of b k) (parks_asleep s n)) (looks_of b k) (ne_eqb s k (λ e. other (sym e))))
]

-- A run.
pub run-looks : (each : World → Beside → Turn → World → Type 0) (k : ℕ) (w : World) (b : Beside) (turns : List Turn) (v : World) (d : Beside) → RunsBy each w b turns v d
    → looks_of d k ≡ looks_after (looks_of b k) (turns_of k turns)
run-looks each k w b [] v d run = ap (λ c. looks_of c k) run.1
run-looks each k w b (turn ∷ turns) v d run =
    run-looks each k run.0 (beside_after w b turn) turns v d run.2
    ∙ ap (λ looks. looks_after looks (turns_of k turns)) (turn-looks w b k turn)
    ∙ sym (after-if (is_turn_of k turn) turn (turns_of k turns) (looks_of b k))

-- What marks tell is what the turns make that they tell.
words-looks : (number : ℕ) (m : WordMark) (its : Step) (before : OwnLooks) → WordsTell number m its → looks_words before m ≡ looks_step before its
words-looks number (word.TookFast owner database words) its before told = sym (ap (looks_step before) told)
words-looks number (word.PutFast owner found) its before told = sym (ap (looks_step before) told)
words-looks number (word.SharedFast owner database words) its before told = sym (ap (looks_step before) told)
words-looks number (word.UnsharedFast owner found) its before told = sym (ap (looks_step before) told)
words-looks number (word.Passed owner tag mode found) its before told = sym (ap (looks_step before) told)
words-looks number (word.Counted tag mode) its before told = sym (ap (looks_step before) told)
words-looks number (word.Uncounted tag mode) its before told = sym (ap (looks_step before) told)
words-looks number (word.LoadedWait shown) its before told = sym (ap (looks_step before) told)
words-looks number (word.Asked other was) its before told = sym (ap (looks_step before) told)
words-looks number word.ClearedWait its before told = sym (ap (looks_step before) told)
words-looks number (word.LoadedDatabase owner shown) its before told = sym (ap (looks_step before) told)
words-looks number (word.LoadedSlot owner slot shown) its before told = sym (ap (looks_step before) told)
words-looks number (word.LoadedFast shown) its before told = sym (ap (looks_step before) told)
words-looks number (word.LoadedStrong index shown) its before told = sym (ap (looks_step before) told)
words-looks number (word.SetSlot slot tag mode) its before told = sym (ap (looks_step before) told)
words-looks number (word.ClearedSlot slot tag mode) its before told = sym (ap (looks_step before) told)
words-looks number (word.StoredDatabase database) its before told = sym (ap (looks_step before) told)
words-looks number (word.JoinedList mode) its before told = sym (ap (looks_step before) told)
words-looks number word.LeftList its before told = sym (ap (looks_step before) told)
words-looks number (word.TookOff other) its before told = sym (ap (looks_step before) told)
words-looks number (word.Told other) its before told = sym (ap (looks_step before) told)
words-looks number (word.LoadedSleep shown) its before told = sym (ap (looks_step before) told)
words-looks number (word.TransferredSlot owner slot tag mode) its before told = sym (ap (looks_step before) told.1)
words-looks number (word.LockedList lock waiters) its before told = sym (ap (looks_step before) told.2)
words-looks number word.UnlockedList its before told = sym (ap (looks_step before) told.3)
words-looks number (word.SetReleaseOk lock) its before told = sym (ap (looks_step before) told.1.2)
words-looks number (word.SetHasWaiters lock) its before told = sym (ap (looks_step before) told.1.2)
words-looks number (word.SawListLocked lock) its before told = absurd told
words-looks number (word.SawHeld lock shown) its before told = absurd told
words-looks number (word.CalledWaiter other) its before told = absurd told
words-looks number (word.CalledSleeper other) its before told = absurd told
words-looks number (word.ParksWaiting shown) its before told = absurd told
words-looks number (word.ParksAsleep shown) its before told = absurd told

last-looks : (before : OwnLooks) (turns : List Turn) (last : Turn) → looks_after before (turns ++ last ∷ []) ≡ looks_turn (looks_after before turns) last
last-looks before [] last = refl
last-looks before (turn ∷ turns) last = last-looks (looks_turn before turn) turns last

module _ {T : Type 0} where
  step-looks : (number : ℕ) (m : Mark T) (its : Step) (before : OwnLooks) → Tells number m its → looks_noted before m ≡ looks_step before its
  step-looks number (mark.TookPart part taken) its before told = sym (ap (looks_step before) told)
  step-looks number (mark.PutPart part done put found) its before told = sym (ap (looks_step before) told.1)
  step-looks number (mark.SetWaiting tag mode now) its before told = sym (ap (looks_step before) told)
  step-looks number (mark.MarkedGranted part other done woken now) its before told = sym (ap (looks_step before) told)
  step-looks number (mark.LeftQueue woken now) its before told = sym (ap (looks_step before) told)
  step-looks number (mark.OfWords m) its before told = words-looks number m its before told

  mark-looks : (number : ℕ) (m : Mark T) (turn : Turn) (before : OwnLooks) → TellsTurn number m turn → looks_noted before m ≡ looks_turn before turn
  mark-looks number m (happened event) before told = step-looks number m event.step before told
  mark-looks number m (saw_list_locked s lock) before told = ap (looks_noted before) told
  mark-looks number m (saw_held s lock) before told = ap (looks_noted before) told.1
  mark-looks number m (called_waiter s o) before told = ap (looks_noted before) told
  mark-looks number m (called_sleeper s o) before told = ap (looks_noted before) told
  mark-looks number m (parks_waiting s n) before told = ap (looks_noted before) told
  mark-looks number m (parks_asleep s n) before told = ap (looks_noted before) told

  pub told-looks : (number : ℕ) (marks : List (Mark T)) (turns : List Turn) → AreTurnsTold number marks turns → looks_told marks ≡ looks_after no_looks turns
  told-looks number [] turns told = sym (ap (looks_after no_looks) told)
  told-looks number (m ∷ marks) turns told =
      ap (λ before. looks_noted before m) (told-looks number marks told.0 told.4)
      ∙ mark-looks number m told.1 (looks_after no_looks told.0) told.3
      ∙ sym (last-looks no_looks told.0 told.1)
      ∙ sym (ap (looks_after no_looks) told.2)
