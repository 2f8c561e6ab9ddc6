use Rattle.std.proofs.Common.{◌≡◌, ◌≢◌, ℕ, Bool, true, false, List, Option, Some, None, refl, sym, ap, ◌∙◌, subst, inl, inr}
use Rattle.std.specs.Prelude.{◌==◌, ◌&&◌, not, is_some, if◌then◌else◌}
use Rattle.std.proofs.lemmas.Bool.{cases_eq, cases_Bool, both_ways, cond-true, cond-false}
use Rattle.lw_word.specs.declared.wait_lists.LwWaiter.{LwWaiter}
use Rattle.lw_word.specs.WaitList.{stands_in}
use Rattle.lock_table.specs.Put.{set_at}
use Rattle.lock_table.proofs.Lemmas.Put.{set_at-here, set_at-else, row-else}
use Rattle.lock_world.specs.declared.events.Event.{Event}
use Rattle.lock_world.specs.declared.events.Step.{Step}
use Rattle.lock_world.specs.declared.events.Step.TheVariants.{TakeExclusive, PutExclusive, TakeShared, PutShared, SplitSeat, JoinSeat, AskCancel, LoadWait, SetWaiting, MarkGranted, ClearWait, PutPassing, LoadStrong, LoadWord, SetSlot, ClearSlot, StoreDatabase, Count, Uncount, TransferSlot, LockList, UnlockList, JoinList, LeaveList, TakeOff, Tell, LoadSleep, SetReleaseOk, SetHasWaiters}
use Rattle.lock_table.specs.Content.{Content}
use Rattle.lock_world.specs.SlotHolds.{slot_holds}
use Rattle.lock_world.specs.World.{World, Hand}
use Rattle.lock_world.specs.Account.{account, own_hand, known_slots, list_in_hand}
use Rattle.lock_world.specs.Safe.{is_hand_of}
use Rattle.lock_world.specs.SafeWorld.{SafeWorld}
use Rattle.lock_world.proofs.Lemmas.SafeWorld.Runs.{event-safe}
use Rattle.lock_world.specs.Happens.{Happens, HappensStep}
use Rattle.lock_world.specs.Happens.Seats.{HappensJoining}
use Rattle.lock_world.specs.Wakes.Owing.{Duties, lock_bit, HasIn, is_lock, ok_set_by_told, ok_set_by_winner, ok_set_before_told, ok_set_as_owed, after_setting_ok, lock_of, HasNothingToDo, Asks}
use Rattle.lock_world.specs.WaitWord.{wait_state}
use Rattle.lock_world.specs.Wakes.Calling.{Calls, changing}
use Rattle.lock_world.specs.Wakes.{Beside, Turn, happened, saw_list_locked, saw_held, called_waiter, called_sleeper, parks_waiting, parks_asleep, Keeps, beside_after, MakesNoStep, OnlyLiveOwe}
use Rattle.lock_world.proofs.Lemmas.Others.Events.{event-others}
use Rattle.lock_world.proofs.Lemmas.Wakes.Readings.{none-some, none-kept}
use Rattle.lock_world.proofs.Lemmas.Wakes.Steppers.{IsNoSeat, step-makes, makes-some}

-- Only a session that makes steps has a lightweight lock, something to do for those who wait, or somebody to
-- call.

-- What one session has to do stays where another makes a step.
abbrev pub Alone : Beside → Beside → ℕ → Type 0
Alone b d k =
    (d.duties.due k ≡ b.duties.due k) × (d.duties.tries k ≡ b.duties.tries k) × (d.duties.owes_release_ok k ≡ b.duties.owes_release_ok k)
    × (d.waits.owed k ≡ b.waits.owed k) × (d.sleeps.owed k ≡ b.sleeps.owed k)

nothing : (b : Beside) (k : ℕ) → Alone b b k
nothing b k = (refl, refl, refl, refl, refl)

either : (P : Duties → Type 0) (b : Bool) (x y : Duties) → P x → P y → P (if b then x else y)
either P b x y is else_is = elim (cases_Bool b) [
  | inl its ↦ subst P (sym (cond-true b x y its)) is
  | inr other ↦ subst P (sym (cond-false b x y other)) else_is
]

either-calls : (P : Calls → Type 0) (b : Bool) (x y : Calls) → P x → P y → P (if b then x else y)
either-calls P b x y is else_is = elim (cases_Bool b) [
  | inl its ↦ subst P (sym (cond-true b x y its)) is
  | inr other ↦ subst P (sym (cond-false b x y other)) else_is
]

module _ (w : World) (b : Beside) (s k : ℕ) (other : k ≢ s) where
  abbrev after : Step → Beside
  after step = beside_after w b (happened (record { session = s; step = step }))

  setting_ok-alone : (lock : ℕ) → Alone b (record b { duties = after_setting_ok w b.duties s lock }) k
  setting_ok-alone lock =
      either Same (is_lock (b.duties.owes_release_ok s) lock) (ok_set_as_owed w b.duties s lock) b.duties
      (either Same (not (is_some (w.sessions.stands s))) (ok_set_by_told b.duties s lock) (ok_set_before_told w b.duties s lock)
      (refl, set_at-else b.duties.tries s (Some lock) k other, set_at-else b.duties.owes_release_ok s None k other, refl, refl)
      (either Same (is_lock (w.sessions.has_list s) lock && not (stands_in s (w.words.list lock))) (ok_set_by_winner b.duties s) b.duties
      (refl, refl, set_at-else b.duties.owes_release_ok s None k other, refl, refl) (nothing b k)))
      (nothing b k) where
        Same : Duties → Type 0
        Same x = Alone b (record b { duties = x }) k

  pub step-alone : (step : Step) → Alone b (beside_after w b (happened (record { session = s; step = step }))) k
  step-alone (TakeExclusive word) = (refl, set_at-else b.duties.tries s None k other, refl, refl, refl)
  step-alone (PutExclusive word done) = (set_at-else b.duties.due s _ k other, refl, refl, refl, refl)
  step-alone (TakeShared word) = (refl, set_at-else b.duties.tries s None k other, refl, refl, refl)
  step-alone (PutShared word) = (set_at-else b.duties.due s _ k other, refl, refl, refl, refl)
  step-alone SplitSeat = nothing b k
  step-alone (JoinSeat joiner) = nothing b k
  step-alone (AskCancel o) =
      either-calls (λ c. Alone b (record b { waits = c }) k) (wait_state (w.words.wait o) == 1) (changing b.waits s o) b.waits
      (refl, refl, refl, set_at-else b.waits.owed s _ k other, refl) (nothing b k)
  step-alone (LoadWait n) = nothing b k
  step-alone (SetWaiting t m) = nothing b k
  step-alone (MarkGranted o done) = (refl, refl, refl, set_at-else b.waits.owed s _ k other, refl)
  step-alone (ClearWait leaving) = nothing b k
  step-alone (PutPassing o t m) = (set_at-else b.duties.due s _ k other, refl, refl, refl, refl)
  step-alone (LoadStrong i n) = nothing b k
  step-alone (LoadWord word n) = nothing b k
  step-alone (SetSlot i t m) = nothing b k
  step-alone (ClearSlot i t m) = nothing b k
  step-alone (StoreDatabase d) = nothing b k
  step-alone (Count t m) = nothing b k
  step-alone (Uncount t m) = nothing b k
  step-alone (TransferSlot q i t m z) = nothing b k
  step-alone (LockList word) = (set_at-else b.duties.due s None k other, refl, refl, refl, refl)
  step-alone (UnlockList word waiters release) = nothing b k
  step-alone (JoinList mode) = (refl, set_at-else b.duties.tries s _ k other, set_at-else b.duties.owes_release_ok s _ k other, refl, refl)
  step-alone LeaveList = (refl, refl, set_at-else b.duties.owes_release_ok s None k other, refl, refl)
  step-alone (TakeOff o) = (refl, refl, refl, refl, set_at-else b.sleeps.owed s _ k other)
  step-alone (Tell o) = (refl, refl, refl, refl, set_at-else b.sleeps.owed s _ k other)
  step-alone (LoadSleep n) = nothing b k
  step-alone (SetReleaseOk word n) = setting_ok-alone (lock_of word)
  step-alone (SetHasWaiters word n) = nothing b k

abbrev HasNothing : World → Beside → ℕ → Type 0
HasNothing w b k = HasNothingToDo w b.duties b.waits b.sleeps k

pub same-nothing :
    (w v : World) (b d : Beside) (k : ℕ) → HasNothing w b k → Alone b d k → ((l : ℕ) → HasIn v k l → HasIn w k l) → v.sessions.has_list k ≡ None → ((o : ℕ) → v.sessions.off k o ≡ false)
    → HasNothing v d k
same-nothing w v b d k was alone had no_list none = record {
  no_lock = λ l has. was.no_lock l (had l has);
  no_look = alone.0 ∙ was.no_look;
  no_try = alone.1 ∙ was.no_try;
  no_ok = alone.2 ∙ was.no_ok;
  no_list = no_list;
  tells_nobody = none;
  calls_no_waiter = λ o. ap (λ row. row o) alone.3 ∙ was.calls_no_waiter o;
  calls_no_sleeper = λ o. ap (λ row. row o) alone.4 ∙ was.calls_no_sleeper o;
}

-- What a session has of lightweight locks stands in its account.
if-some : {A : Type 0} (b : Bool) (x : A) → is_some (if b then Some x else None) ≡ b
if-some true x = refl
if-some false x = refl

own-hand : (hand : Option Hand) (now : Content) (k : ℕ) → is_some (own_hand hand now k) ≡ is_hand_of hand k
own-hand None now k = refl
own-hand (Some h) now k = if-some (h.holder == k) (record { taken = h.taken; now = now; recorded = h.recorded; unmarked = h.unmarked })

known : (has : Bool) (database : ℕ) (slot : ℕ → ℕ) → is_some (known_slots has database slot) ≡ has
known has database slot = if-some has (record { word = slot; holds = slot_holds database slot })

module _ (w v : World) (k : ℕ) (safe : SafeWorld w) (after : SafeWorld v) (same : account v k ≡ account w k) where
  holds_partition-same : (p : ℕ) → v.sessions.holds_partition k p ≡ w.sessions.holds_partition k p
  holds_partition-same p =
      after.but_slots.table.carriers.hands p k ∙ sym (own-hand (v.contents.hand p) (v.contents.now p) k) ∙ ap (λ a. is_some (a.hand p)) same
      ∙ own-hand (w.contents.hand p) (w.contents.now p) k ∙ sym (safe.but_slots.table.carriers.hands p k)

  holds_fast-same : (o : ℕ) → v.sessions.holds_fast k o ≡ w.sessions.holds_fast k o
  holds_fast-same o =
      sym (known (v.sessions.holds_fast k o) (v.words.database o) (v.words.slot o)) ∙ ap (λ a. is_some (a.fast.slots o)) same
      ∙ known (w.sessions.holds_fast k o) (w.words.database o) (w.words.slot o)

  shares_fast-same : (o : ℕ) → v.sessions.shares_fast k o ≡ w.sessions.shares_fast k o
  shares_fast-same o =
      sym (known (v.sessions.shares_fast k o) (v.words.database o) (v.words.slot o)) ∙ ap (λ a. is_some (a.fast.shared_slots o)) same
      ∙ known (w.sessions.shares_fast k o) (w.words.database o) (w.words.slot o)

  pub had-before : (l : ℕ) → HasIn v k l → HasIn w k l
  had-before l (inl has) = inl (sym (λ i. lock_bit (λ p. holds_partition-same p i) (λ o. holds_fast-same o i) l) ∙ has)
  had-before l (inr has) = inr (sym (λ i. lock_bit (λ p. ap (λ a. a.shares p) same i) (λ o. shares_fast-same o i) l) ∙ has)

pub no-hand : (has : Option ℕ) (list : ℕ → List LwWaiter) → list_in_hand has list ≡ None → has ≡ None
no-hand None list none = refl
no-hand (Some l) list none = absurd (cc)

-- The session that makes the step itself.
module _ (w v : World) (b : Beside) (s : ℕ) (only : OnlyLiveOwe w b) where
  abbrev next : Step → Beside
  next its = beside_after w b (happened (record { session = s; step = its }))

  splitting-mine : HappensStep w s SplitSeat v → MakesNoStep v.numbers s → HasNothing v b s
  splitting-mine (inl h) (inl dead) = absurd (both_ways (v.numbers.live s) dead (ap (λ a. a.numbers.live s) h.1 ∙ set_at-here w.numbers.live s true s refl))
  splitting-mine (inl h) (inr kept) =
      let was = only s (inr (kept.0, sym (ap (λ a. a.numbers.kept_by s) h.1) ∙ kept.1)) in
      same-nothing w v b b s was (nothing b s) (λ l has. subst (λ a. HasIn a s l) h.1 has) (ap (λ a. a.sessions.has_list s) h.1 ∙ was.no_list) (λ o. ap (λ a. a.sessions.off s o) h.1 ∙ was.tells_nobody o)
  splitting-mine (inr h) (inl dead) =
      let was = only s (inl (sym (ap (λ a. a.numbers.live s) h.1) ∙ dead)) in
      same-nothing w v b b s was (nothing b s) (λ l has. subst (λ a. HasIn a s l) h.1 has) (ap (λ a. a.sessions.has_list s) h.1 ∙ was.no_list) (λ o. ap (λ a. a.sessions.off s o) h.1 ∙ was.tells_nobody o)
  splitting-mine (inr h) (inr kept) =
      absurd (none-some (kept.0) (sym (set_at-here w.numbers.kept_by s None s refl) ∙ sym (ap (λ a. a.numbers.kept_by s) h.1) ∙ kept.1))

  joining-mine : (joiner : Option ℕ) → HappensJoining w s joiner v → HasNothing w b s → HasNothing v b s
  joining-mine (Some j) h was =
      same-nothing w v b b s was (nothing b s) (λ l has. subst (λ a. HasIn a s l) h.1 has) (ap (λ a. a.sessions.has_list s) h.1 ∙ was.no_list) (λ o. ap (λ a. a.sessions.off s o) h.1 ∙ was.tells_nobody o)
  joining-mine None h was =
      same-nothing w v b b s was (nothing b s) (λ l has. subst (λ a. HasIn a s l) h.1 has) (ap (λ a. a.sessions.has_list s) h.1 ∙ was.no_list)
      (λ o. ap (λ a. a.sessions.off s o) h.1 ∙ ap (λ row. row o) (set_at-here w.sessions.off s (λ _. false) s refl))

  no-seat : (step : Step) → IsNoSeat step → HappensStep w s step v → MakesNoStep v.numbers s → (d : Beside) → HasNothing v d s
  no-seat step it h spent d =
      let makes = step-makes w v s step it h in
      absurd (makes-some w.numbers s (makes.0) (subst (λ n. MakesNoStep n s) (makes.1) spent))

  step-mine : (step : Step) → HappensStep w s step v → Asks w b.duties b.waits b.sleeps s step → MakesNoStep v.numbers s
      → HasNothing v (next step) s
  step-mine SplitSeat h asks spent = same-nothing v v b (next SplitSeat) s (splitting-mine h spent) (nothing b s) (λ l has. has) ((splitting-mine h spent).no_list) ((splitting-mine h spent).tells_nobody)
  step-mine (JoinSeat joiner) h asks spent =
      let mine = joining-mine joiner h asks in same-nothing v v b (next (JoinSeat joiner)) s mine (nothing b s) (λ l has. has) (mine.no_list) (mine.tells_nobody)
  step-mine (TakeExclusive word) h asks spent = no-seat (TakeExclusive word) tt h spent (next (TakeExclusive word))
  step-mine (PutExclusive word done) h asks spent = no-seat (PutExclusive word done) tt h spent (next (PutExclusive word done))
  step-mine (TakeShared word) h asks spent = no-seat (TakeShared word) tt h spent (next (TakeShared word))
  step-mine (PutShared word) h asks spent = no-seat (PutShared word) tt h spent (next (PutShared word))
  step-mine (AskCancel o) h asks spent = no-seat (AskCancel o) tt h spent (next (AskCancel o))
  step-mine (LoadWait n) h asks spent = no-seat (LoadWait n) tt h spent (next (LoadWait n))
  step-mine (SetWaiting t m) h asks spent = no-seat (SetWaiting t m) tt h spent (next (SetWaiting t m))
  step-mine (MarkGranted o done) h asks spent = no-seat (MarkGranted o done) tt h spent (next (MarkGranted o done))
  step-mine (ClearWait leaving) h asks spent = no-seat (ClearWait leaving) tt h spent (next (ClearWait leaving))
  step-mine (PutPassing o t m) h asks spent = no-seat (PutPassing o t m) tt h spent (next (PutPassing o t m))
  step-mine (LoadStrong i n) h asks spent = no-seat (LoadStrong i n) tt h spent (next (LoadStrong i n))
  step-mine (LoadWord word n) h asks spent = no-seat (LoadWord word n) tt h spent (next (LoadWord word n))
  step-mine (SetSlot i t m) h asks spent = no-seat (SetSlot i t m) tt h spent (next (SetSlot i t m))
  step-mine (ClearSlot i t m) h asks spent = no-seat (ClearSlot i t m) tt h spent (next (ClearSlot i t m))
  step-mine (StoreDatabase d) h asks spent = no-seat (StoreDatabase d) tt h spent (next (StoreDatabase d))
  step-mine (Count t m) h asks spent = no-seat (Count t m) tt h spent (next (Count t m))
  step-mine (Uncount t m) h asks spent = no-seat (Uncount t m) tt h spent (next (Uncount t m))
  step-mine (TransferSlot q i t m z) h asks spent = no-seat (TransferSlot q i t m z) tt h spent (next (TransferSlot q i t m z))
  step-mine (LockList word) h asks spent = no-seat (LockList word) tt h spent (next (LockList word))
  step-mine (UnlockList word waiters release) h asks spent = no-seat (UnlockList word waiters release) tt h spent (next (UnlockList word waiters release))
  step-mine (JoinList mode) h asks spent = no-seat (JoinList mode) tt h spent (next (JoinList mode))
  step-mine LeaveList h asks spent = no-seat LeaveList tt h spent (next LeaveList)
  step-mine (TakeOff o) h asks spent = no-seat (TakeOff o) tt h spent (next (TakeOff o))
  step-mine (Tell o) h asks spent = no-seat (Tell o) tt h spent (next (Tell o))
  step-mine (LoadSleep n) h asks spent = no-seat (LoadSleep n) tt h spent (next (LoadSleep n))
  step-mine (SetReleaseOk word n) h asks spent = no-seat (SetReleaseOk word n) tt h spent (next (SetReleaseOk word n))
  step-mine (SetHasWaiters word n) h asks spent = no-seat (SetHasWaiters word n) tt h spent (next (SetHasWaiters word n))

event-live :
    (w v : World) (b : Beside) (event : Event) → SafeWorld w → OnlyLiveOwe w b → Happens w event v → Asks w b.duties b.waits b.sleeps event.session event.step
    → OnlyLiveOwe v (beside_after w b (happened event))
event-live w v b event safe only h asks k spent = elim (cases_eq k event.session) [
  | inl same ↦ subst (HasNothing v (beside_after w b (happened event))) (sym same) (step-mine w v b event.session only event.step h asks (subst (MakesNoStep v.numbers) same spent))
  | inr other ↦
      let alone = event-others w v event k safe h other in
      let was = only k (before alone.live alone.kept_by spent) in
      same-nothing w v b (beside_after w b (happened event)) k was (step-alone w b event.session k other event.step)
      (had-before w v k safe (event-safe w event v safe h) alone.account)
      (no-hand (v.sessions.has_list k) v.words.list (ap (λ a. a.lists.in_hand) alone.account ∙ ap (λ has. list_in_hand has w.words.list) was.no_list))
      (λ o. ap (λ a. a.lists.off o) alone.account ∙ was.tells_nobody o)
] where
  before : v.numbers.live k ≡ w.numbers.live k → v.numbers.kept_by k ≡ w.numbers.kept_by k → MakesNoStep v.numbers k → MakesNoStep w.numbers k
  before live kept_by (inl dead) = inl (sym live ∙ dead)
  before live kept_by (inr kept) = inr (kept.0, sym kept_by ∙ kept.1)

-- A call, and a look that changes only what its session has to do, to nothing.
call-none : (f : ℕ → ℕ → Bool) (s o k j : ℕ) → f k j ≡ false → set_at f s (set_at (f s) o false) k j ≡ false
call-none f s o k j none = elim (cases_eq k s) [
  | inr other ↦ row-else f s o false k j other ∙ none
  | inl same ↦ ap (λ row. row j) (set_at-here f s (set_at (f s) o false) k same) ∙ elim (cases_eq j o) [
    | inl it ↦ set_at-here (f s) o false j it
    | inr away ↦ set_at-else (f s) o false j away ∙ ap (λ i. f i j) (sym same) ∙ none
  ]
]

has-nothing :
    (w : World) (b d : Beside) (k : ℕ) → HasNothing w b k → d.duties.due k ≡ None → d.duties.tries k ≡ None → d.duties.owes_release_ok k ≡ b.duties.owes_release_ok k
    → ((o : ℕ) → d.waits.owed k o ≡ false) → ((o : ℕ) → d.sleeps.owed k o ≡ false) → HasNothing w d k
has-nothing w b d k was no_look no_try owes waits sleeps = record {
  no_lock = was.no_lock;
  no_look = no_look;
  no_try = no_try;
  no_ok = owes ∙ was.no_ok;
  no_list = was.no_list;
  tells_nobody = was.tells_nobody;
  calls_no_waiter = waits;
  calls_no_sleeper = sleeps;
}

pub turn-live : (w v : World) (b : Beside) (turn : Turn) → SafeWorld w → OnlyLiveOwe w b → Keeps w b turn v → OnlyLiveOwe v (beside_after w b turn)
turn-live w v b (happened event) safe only h = event-live w v b event safe only h.0 h.1
turn-live w v b (saw_list_locked s lock) safe only h =
    subst (λ a. OnlyLiveOwe a (beside_after w b (saw_list_locked s lock))) (sym h.2)
    (λ k spent. let was = only k spent in has-nothing w b (beside_after w b (saw_list_locked s lock)) k was (none-kept b.duties.due s k was.no_look) was.no_try refl was.calls_no_waiter was.calls_no_sleeper)
turn-live w v b (saw_held s lock) safe only h =
    subst (λ a. OnlyLiveOwe a (beside_after w b (saw_held s lock))) (sym h.2)
    (λ k spent. let was = only k spent in has-nothing w b (beside_after w b (saw_held s lock)) k was was.no_look (none-kept b.duties.tries s k was.no_try) refl was.calls_no_waiter was.calls_no_sleeper)
turn-live w v b (called_waiter s o) safe only h =
    subst (λ a. OnlyLiveOwe a (beside_after w b (called_waiter s o))) (sym h)
    (λ k spent. let was = only k spent in
    has-nothing w b (beside_after w b (called_waiter s o)) k was was.no_look was.no_try refl (λ j. call-none b.waits.owed s o k j (was.calls_no_waiter j)) was.calls_no_sleeper)
turn-live w v b (called_sleeper s o) safe only h =
    subst (λ a. OnlyLiveOwe a (beside_after w b (called_sleeper s o))) (sym h)
    (λ k spent. let was = only k spent in
    has-nothing w b (beside_after w b (called_sleeper s o)) k was was.no_look was.no_try refl was.calls_no_waiter (λ j. call-none b.sleeps.owed s o k j (was.calls_no_sleeper j)))
turn-live w v b (parks_waiting s n) safe only h =
    subst (λ a. OnlyLiveOwe a (beside_after w b (parks_waiting s n))) (sym h.2)
    (λ k spent. let was = only k spent in has-nothing w b (beside_after w b (parks_waiting s n)) k was was.no_look was.no_try refl was.calls_no_waiter was.calls_no_sleeper)
turn-live w v b (parks_asleep s n) safe only h =
    subst (λ a. OnlyLiveOwe a (beside_after w b (parks_asleep s n))) (sym h.2)
    (λ k spent. let was = only k spent in has-nothing w b (beside_after w b (parks_asleep s n)) k was was.no_look was.no_try refl was.calls_no_waiter was.calls_no_sleeper)
