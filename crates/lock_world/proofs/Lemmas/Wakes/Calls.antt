use Rattle.std.proofs.Common.{◌≡◌, ℕ, Bool, true, false, Some, None, refl, sym, ap, ◌∙◌, subst, inl, inr}
use Rattle.std.specs.Prelude.{◌==◌, ◌||◌, not, if◌then◌else◌}
use Rattle.std.proofs.lemmas.Bool.{cases_eq, cases_Bool, both_ways, cond-true, cond-false, eq-eqb, ne_eqb, or_right}
use Rattle.lock_table.specs.Put.{set_at}
use Rattle.lock_table.proofs.Lemmas.Put.{set_at-here, set_at-else}
use Rattle.lock_world.specs.declared.events.Step.{Step}
use Rattle.lock_world.specs.World.{World}
use Rattle.lock_world.specs.WaitWord.{wait_state}
use Rattle.lock_world.specs.WaitLists.{after_seeing_none}
use Rattle.lock_world.specs.Happens.{HappensStep}
use Rattle.lock_world.specs.Happens.Lists.{sleepers}
use Rattle.lock_world.specs.Wakes.Calling.{Calls, ShowsWaiting, ShowsUntold, EachIsCalled, looking, storing, changing, asking, calling, shows_looked, wait_calls_after, sleep_calls_after}
use Rattle.lock_world.proofs.Lemmas.Wakes.Readings.{none-some, some-same, row-here, row-away}
use Rattle.lock_world.proofs.Lemmas.LawfulSteps.{LawfulStep, step_of, world_after, asking_to_cancel, loading_wait, setting_waiting, marking_first, marking_next, clearing_seen, clearing_in_hand, leaving_queue, joining_list, leaving_list, taking_off, telling, loading_sleep, after_each}

-- No call is lost: of words of one kind, and then of each step.

-- A session loads its word, stores in it, changes another's, and calls another.
module _ (ParksOn : ℕ → Type 0) (word : ℕ → ℕ) (c : Calls) (each : EachIsCalled ParksOn word c) where
  pub looking-called : (k : ℕ) → EachIsCalled ParksOn word (looking c k (word k))
  looking-called k j n looked parks = elim (cases_eq j k) [
    | inl same ↦ inl (ap word same ∙ some-same (word k) n (sym (set_at-here c.looked k (Some (word k)) j same) ∙ looked))
    | inr other ↦ elim (each j n (sym (set_at-else c.looked k (Some (word k)) j other) ∙ looked) parks) [
      | inl is ↦ inl is
      | inr (inl called) ↦ inr (inl (set_at-else c.called k false j other ∙ called))
      | inr (inr owed) ↦ inr (inr owed)
    ]
  ]

  pub storing-called : (k n : ℕ) → EachIsCalled ParksOn (set_at word k n) (storing c k)
  storing-called k n j m looked parks = elim (cases_eq j k) [
    | inl same ↦ absurd (none-some m (sym (set_at-here c.looked k None j same) ∙ looked))
    | inr other ↦ elim (each j m (sym (set_at-else c.looked k None j other) ∙ looked) parks) [
      | inl is ↦ inl (set_at-else word k n j other ∙ is)
      | inr later ↦ inr later
    ]
  ]

  pub changing-called : (s k n : ℕ) → EachIsCalled ParksOn (set_at word k n) (changing c s k)
  changing-called s k n j m looked parks = elim (cases_eq j k) [
    | inl it ↦ inr (inr (s, ap (λ i. set_at c.owed s (set_at (c.owed s) k true) s i) it ∙ row-here c.owed s k true))
    | inr other ↦ elim (each j m looked parks) [
      | inl is ↦ inl (set_at-else word k n j other ∙ is)
      | inr (inl called) ↦ inr (inl called)
      | inr (inr owed) ↦ inr (inr (owed.0, row-away c.owed s k true (owed.0) j other ∙ owed.1))
    ]
  ]

  -- Where nobody parks on what the word shows, it changes and no call is owed.
  pub beside-called : (k n : ℕ) → (ParksOn (word k) → ⊥) → EachIsCalled ParksOn (set_at word k n) c
  beside-called k n free j m looked parks = elim (each j m looked parks) [
    | inl is ↦ elim (cases_eq j k) [
      | inl it ↦ absurd (free (subst ParksOn (sym is ∙ ap word it) parks))
      | inr other ↦ inl (set_at-else word k n j other ∙ is)
    ]
    | inr later ↦ inr later
  ]

  pub calling-called : (s k : ℕ) → EachIsCalled ParksOn word (calling word c s k)
  calling-called s k j m looked parks = elim (cases_eq j k) [
    | inl same ↦ elim (cases_eq (word k) m) [
      | inl shows ↦ inl (ap word same ∙ shows)
      | inr changed ↦ inr (inl (set_at-here c.called k (c.called k || not (shows_looked (c.looked k) (word k))) j same
          ∙ or_right (c.called k) (not (shows_looked (c.looked k) (word k)))
          (ap not (ap (λ l. shows_looked l (word k)) (ap c.looked (sym same) ∙ looked) ∙ ne_eqb (word k) m changed))))
    ]
    | inr other ↦ elim (each j m looked parks) [
      | inl is ↦ inl is
      | inr (inl called) ↦ inr (inl (set_at-else c.called k (c.called k || not (shows_looked (c.looked k) (word k))) j other ∙ called))
      | inr (inr owed) ↦ inr (inr (owed.0, row-away c.owed s k false (owed.0) j other ∙ owed.1))
    ]
  ]

-- Asking a session to cancel.
asking-called : (word : ℕ → ℕ) (c : Calls) → EachIsCalled ShowsWaiting word c → (s k n : ℕ) → EachIsCalled ShowsWaiting (set_at word k n) (asking c s k (word k))
asking-called word c each s k n = elim (cases_Bool (wait_state (word k) == 1)) [
  | inl waits ↦ subst (EachIsCalled ShowsWaiting (set_at word k n)) (sym (cond-true (wait_state (word k) == 1) (changing c s k) c waits)) (changing-called ShowsWaiting word c each s k n)
  | inr free ↦ subst (EachIsCalled ShowsWaiting (set_at word k n)) (sym (cond-false (wait_state (word k) == 1) (changing c s k) c free))
      (beside-called ShowsWaiting word c each k n (λ waits. both_ways (wait_state (word k) == 1) free (eq-eqb (wait_state (word k)) 1 waits)))
]

-- Both kinds of words, and the calls on them.
abbrev pub Both : World → Calls → Calls → Type 0
Both w waits sleeps = EachIsCalled ShowsWaiting w.words.wait waits × EachIsCalled ShowsUntold w.words.sleep sleeps

-- Each step, where the calls on both kinds of words are in order before it.
module _ (w : World) (s : ℕ) (waits sleeps : Calls) (both : Both w waits sleeps) where
  words : (b : Bool) → (if b then after_seeing_none (sleepers w) s else sleepers w).sleep ≡ w.words.sleep
  words true = refl
  words false = refl

  called : (it : LawfulStep w s) → Both (world_after it) (wait_calls_after w waits s (step_of it)) (sleep_calls_after sleeps s (step_of it))
  called (asking_to_cancel o steps) = (asking-called w.words.wait waits both.0 s o _, both.1)
  called (loading_wait n may) =
      (subst (λ shown. EachIsCalled ShowsWaiting w.words.wait (looking waits s shown)) (sym may.is_word) (looking-called ShowsWaiting w.words.wait waits both.0 s), both.1)
  called (setting_waiting t m content may) = (storing-called ShowsWaiting w.words.wait waits both.0 s 1, both.1)
  called (marking_first o p done granted content may) = (changing-called ShowsWaiting w.words.wait waits both.0 s o _, both.1)
  called (marking_next o p done may) = (changing-called ShowsWaiting w.words.wait waits both.0 s o _, both.1)
  called (clearing_seen wait may) = (storing-called ShowsWaiting w.words.wait waits both.0 s 0, both.1)
  called (clearing_in_hand wait leaving may) = (storing-called ShowsWaiting w.words.wait waits both.0 s 0, both.1)
  called (leaving_queue wait granted content may) = (storing-called ShowsWaiting w.words.wait waits both.0 s 0, both.1)
  called (joining_list mode lock may) = (both.0, storing-called ShowsUntold w.words.sleep sleeps both.1 s 1)
  called (leaving_list lock may) = (both.0, storing-called ShowsUntold w.words.sleep sleeps both.1 s 0)
  called (taking_off o lock may) = (both.0, changing-called ShowsUntold w.words.sleep sleeps both.1 s o 2)
  called (telling o may) = (both.0, changing-called ShowsUntold w.words.sleep sleeps both.1 s o 0)
  called (loading_sleep n may) = (
    both.0,
    subst (λ word. EachIsCalled ShowsUntold word (looking sleeps s n)) (sym (words (n == 0)))
        (subst (λ shown. EachIsCalled ShowsUntold w.words.sleep (looking sleeps s shown)) (sym may.is_word) (looking-called ShowsUntold w.words.sleep sleeps both.1 s)),
  )
  called step = both

  pub step-called : (step : Step) (v : World) → HappensStep w s step v → Both v (wait_calls_after w waits s step) (sleep_calls_after sleeps s step)
  step-called = after_each w s (λ step v. Both v (wait_calls_after w waits s step) (sleep_calls_after sleeps s step)) called
