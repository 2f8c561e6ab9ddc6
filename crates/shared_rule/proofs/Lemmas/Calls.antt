use Rattle.std.proofs.Common.{◌≡◌, ◌≢◌, ℕ, true, false, List, [], ◌∷◌, ◌++◌, refl, sym, ap, ◌∙◌, subst, inl, inr}
use Rattle.std.specs.Prelude.{◌==◌, ◌||◌}
use Rattle.std.proofs.lemmas.Bool.{cases_eq, cases_Bool, both_ways, cond-true, cond-false, eq-eqb, ne_eqb, eqb-true, false≢true}
use Rattle.lock_table.specs.Put.{set_at}
use Rattle.lock_table.proofs.Lemmas.Put.{set_at-here}
use Rattle.lock_world.specs.declared.events.Step.{Step}
use Rattle.lock_world.specs.declared.events.Step.TheVariants as step
use Rattle.lock_world.specs.WaitWord.{wait_state}
use Rattle.lock_world.specs.World.{World, TraceEntry, AskedToCancel}
use Rattle.lock_world.specs.Account.{Account, account}
use Rattle.lock_world.specs.AccountSteps.{account_tracing}
use Rattle.lock_world.specs.Happens.{HappensStep}
use Rattle.lock_world.specs.Wakes.Calling.{Calls, changing}
use Rattle.lock_world.specs.Wakes.{Beside, happened, called_waiter, beside_after}
use Rattle.lock_world.proofs.Lemmas.Wakes.Readings.{row-here, row-away}
use Rattle.shared_rule.specs.declared.history.Mark.{Mark}
use Rattle.shared_rule.specs.declared.history.Mark.TheVariants as mark
use Rattle.shared_rule.specs.declared.history.WordMark.{WordMark}
use Rattle.shared_rule.specs.declared.history.WordMark.TheVariants as word
use Rattle.shared_rule.specs.History.{is_among}
use Rattle.shared_rule.specs.Owed.{owing, asking, waking, owed_words, owed_noted}
use Rattle.shared_rule.specs.Ruled.{OwesAsTold}
use Rattle.shared_rule.specs.Tells.{WordsTell, Tells}

-- Whom a session owes a call, of those who wait for a lock of the table, is among those whom its history has
-- to wake.

-- Who is among those to wake once one more is, and once one was woken.
among-first : (x k : ℕ) (xs : List ℕ) → x ≡ k → is_among (x ∷ xs) k ≡ true
among-first x k xs same = ap (λ b. b || is_among xs k) (eq-eqb x k same)

among-later : (x k : ℕ) (xs : List ℕ) → is_among xs k ≡ true → is_among (x ∷ xs) k ≡ true
among-later x k xs there = elim (cases_Bool (x == k)) [
  | inl it ↦ ap (λ b. b || is_among xs k) it
  | inr other ↦ ap (λ b. b || is_among xs k) other ∙ there
]

among-rest : (x k : ℕ) (xs : List ℕ) → x ≢ k → is_among (x ∷ xs) k ≡ true → is_among xs k ≡ true
among-rest x k xs other there = ap (λ b. b || is_among xs k) (sym (ne_eqb x k other)) ∙ there

owing-more : (owed : List ℕ) (other k : ℕ) → is_among owed k ≡ true → is_among (owing owed other) k ≡ true
owing-more [] other k there = absurd (false≢true there)
owing-more (x ∷ owed) other k there = elim (cases_eq x k) [
  | inl it ↦ among-first x k (owing owed other) it
  | inr away ↦ among-later x k (owing owed other) (owing-more owed other k (among-rest x k owed away there))
]

owing-here : (owed : List ℕ) (other k : ℕ) → k ≡ other → is_among (owing owed other) k ≡ true
owing-here [] other k it = among-first other k [] (sym it)
owing-here (x ∷ owed) other k it = among-later x k (owing owed other) (owing-here owed other k it)

waking-away : (owed : List ℕ) (other k : ℕ) → k ≢ other → is_among owed k ≡ true → is_among (waking owed other) k ≡ true
waking-away [] other k away there = there
waking-away (x ∷ owed) other k away there = elim (cases_Bool (x == other)) [
  | inl it ↦
      subst (λ (l : List ℕ). is_among l k ≡ true) (sym (cond-true (x == other) owed (x ∷ waking owed other) it))
      (among-rest x k owed (λ same. away (sym same ∙ eqb-true x other it)) there)
  | inr not_it ↦
      subst (λ (l : List ℕ). is_among l k ≡ true) (sym (cond-false (x == other) owed (x ∷ waking owed other) not_it))
      (elim (cases_eq x k) [
        | inl same ↦ among-first x k (waking owed other) same
        | inr apart ↦ among-later x k (waking owed other) (waking-away owed other k away (among-rest x k owed apart there))
      ])
]

-- A step of the session, with its mark.
module _ (w : World) (b : Beside) (n : ℕ) (owed : List ℕ) (was : OwesAsTold b n owed) where
  abbrev Then : Step → List ℕ → Type 0
  Then its more = OwesAsTold (beside_after w b (happened (record { session = n; step = its }))) n more

  same : (its it : Step) → its ≡ it → Then it owed → Then its owed
  same its it is told = subst (λ s. Then s owed) (sym is) told

  -- Such a step changes the word of another session, which is owed a call then.
  changes : (other : ℕ) → (k : ℕ) → (changing b.waits n other).owed n k ≡ true → is_among (owing owed other) k ≡ true
  changes other k owes = elim (cases_eq k other) [
    | inl it ↦ owing-here owed other k it
    | inr away ↦ owing-more owed other k (was k (sym (row-away b.waits.owed n other true n k away) ∙ owes))
  ]

  asks : (other before : ℕ) → before ≡ w.words.wait other → Then (step.AskCancel other) (asking owed other before)
  asks other before shown = subst (λ z. Then (step.AskCancel other) (asking owed other z)) (sym shown) (elim (cases_Bool (wait_state word_now == 1)) [
    | inl waits ↦ λ k owes.
        subst (λ (l : List ℕ). is_among l k ≡ true) (sym (cond-true (wait_state word_now == 1) (owing owed other) owed waits))
        (changes other k (subst (λ (c : Calls). c.owed n k ≡ true) (cond-true (wait_state word_now == 1) (changing b.waits n other) b.waits waits) owes))
    | inr free ↦ λ k owes.
        subst (λ (l : List ℕ). is_among l k ≡ true) (sym (cond-false (wait_state word_now == 1) (owing owed other) owed free))
        (was k (subst (λ (c : Calls). c.owed n k ≡ true) (cond-false (wait_state word_now == 1) (changing b.waits n other) b.waits free) owes))
  ]) where
    word_now : ℕ
    word_now = w.words.wait other

  words-owed : (m : WordMark) (its : Step) → WordsTell n m its → ((other before : ℕ) → m ≡ word.Asked other before → before ≡ w.words.wait other) → Then its (owed_words owed m)
  words-owed (word.TookFast owner database words) its told asked = same its _ told was
  words-owed (word.PutFast owner found) its told asked = same its _ told was
  words-owed (word.SharedFast owner database words) its told asked = same its _ told was
  words-owed (word.UnsharedFast owner found) its told asked = same its _ told was
  words-owed (word.Passed owner tag mode found) its told asked = same its _ told was
  words-owed (word.Counted tag mode) its told asked = same its _ told was
  words-owed (word.Uncounted tag mode) its told asked = same its _ told was
  words-owed (word.LoadedWait shown) its told asked = same its _ told was
  words-owed (word.Asked other before) its told asked = subst (λ s. Then s (asking owed other before)) (sym told) (asks other before (asked other before refl))
  words-owed word.ClearedWait its told asked = same its _ told was
  words-owed (word.LoadedDatabase owner shown) its told asked = same its _ told was
  words-owed (word.LoadedSlot owner slot shown) its told asked = same its _ told was
  words-owed (word.LoadedFast shown) its told asked = same its _ told was
  words-owed (word.LoadedStrong index shown) its told asked = same its _ told was
  words-owed (word.SetSlot slot tag mode) its told asked = same its _ told was
  words-owed (word.ClearedSlot slot tag mode) its told asked = same its _ told was
  words-owed (word.StoredDatabase database) its told asked = same its _ told was
  words-owed (word.JoinedList mode) its told asked = same its _ told was
  words-owed word.LeftList its told asked = same its _ told was
  words-owed (word.TookOff other) its told asked = same its _ told was
  words-owed (word.Told other) its told asked = same its _ told was
  words-owed (word.LoadedSleep shown) its told asked = same its _ told was
  words-owed (word.TransferredSlot owner slot tag mode) its told asked = same its _ told.1 was
  words-owed (word.LockedList lock waiters) its told asked = same its _ told.2 was
  words-owed word.UnlockedList its told asked = same its _ told.3 was
  words-owed (word.SetReleaseOk lock) its told asked = same its _ told.1.2 was
  words-owed (word.SetHasWaiters lock) its told asked = same its _ told.1.2 was
  words-owed (word.SawListLocked lock) its told asked = absurd told
  words-owed (word.SawHeld lock shown) its told asked = absurd told
  words-owed (word.CalledWaiter other) its told asked = absurd told
  words-owed (word.CalledSleeper other) its told asked = absurd told
  words-owed (word.ParksWaiting shown) its told asked = absurd told
  words-owed (word.ParksAsleep shown) its told asked = absurd told

  pub step-owed : {T : Type 0} (m : Mark T) (its : Step) → Tells n m its → ((other before : ℕ) → m ≡ mark.OfWords (word.Asked other before) → before ≡ w.words.wait other)
      → Then its (owed_noted owed m)
  step-owed (mark.TookPart part taken) its told asked = same its _ told was
  step-owed (mark.PutPart part done put found) its told asked = same its _ told.1 was
  step-owed (mark.SetWaiting tag mode now) its told asked = same its _ told was
  step-owed (mark.MarkedGranted part other done woken now) its told asked = subst (λ s. Then s (owing owed other)) (sym told) (changes other)
  step-owed (mark.LeftQueue woken now) its told asked = same its _ told was
  step-owed (mark.OfWords m) its told asked = words-owed m its told (λ other before is. asked other before (ap mark.OfWords is))

  -- A call.
  pub call-owed : (other : ℕ) → OwesAsTold (beside_after w b (called_waiter n other)) n (waking owed other)
  call-owed other k owes = elim (cases_eq k other) [
    | inl it ↦ absurd (both_ways (set_at b.waits.owed n (set_at (b.waits.owed n) other false) n k) (ap (set_at b.waits.owed n (set_at (b.waits.owed n) other false) n) it ∙ row-here b.waits.owed n other false) owes)
    | inr away ↦ waking-away owed other k away (was k (sym (row-away b.waits.owed n other false n k away) ∙ owes))
  ]

-- What one asked to cancel showed before is what its word showed.
last-same : (xs : List TraceEntry) (x y : TraceEntry) → xs ++ x ∷ [] ≡ xs ++ y ∷ [] → x ≡ y
last-same [] x y same = cc (same)
last-same (z ∷ xs) x y same = last-same xs x y (cc (same))

before-same : (other a b : ℕ) → AskedToCancel other a ≡ AskedToCancel other b → a ≡ b
before-same other a b same = cc (same)

pub asked-word : (w v : World) (n other before : ℕ) (a : Account) → a ≡ account w n → HappensStep w n (step.AskCancel other) v
    → account_tracing a (AskedToCancel other before) ≡ account v n → before ≡ w.words.wait other
asked-word w v n other before a shows happens same =
    before-same other before (w.words.wait other) (last-same (w.sessions.trace n) (AskedToCancel other before) (AskedToCancel other (w.words.wait other))
    (ap (λ (b : Account). b.trace ++ AskedToCancel other before ∷ []) (sym shows) ∙ ap (λ (b : Account). b.trace) same
    ∙ ap (λ (z : World). z.sessions.trace n) happens.1
    ∙ set_at-here w.sessions.trace n (w.sessions.trace n ++ AskedToCancel other (w.words.wait other) ∷ []) n refl))

-- Where nobody is to be woken, nobody is owed a call.
pub none-owed_call : (b : Beside) (n : ℕ) (owed : List ℕ) → owed ≡ [] → OwesAsTold b n owed → OwesAsTold b n []
none-owed_call b n owed none was = subst (OwesAsTold b n) none was
