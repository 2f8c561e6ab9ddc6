use Rattle.std.proofs.Common.{◌≡◌, ℕ, List, [], ◌∷◌, ◌++◌, refl, sym, ap, ◌∙◌, inl, inr}
use Rattle.lock_world.specs.declared.events.Step.{Step}
use Rattle.shared_rule.specs.declared.history.Mark.{Mark}
use Rattle.shared_rule.specs.declared.history.Mark.TheVariants as mark
use Rattle.shared_rule.specs.declared.history.WordMark.{WordMark}
use Rattle.shared_rule.specs.declared.history.WordMark.TheVariants as word
use Rattle.shared_rule.specs.Tells.{WordsTell, Tells, LooksOnly, at_list, at_lock, calls_waiter, calls_sleeper, at_wait, at_sleep, AreTold}
use Rattle.shared_rule.specs.Quiet.{Quiet, quiet_words, quiet_noted, quiet_told, quiet_after, quiet_of}

-- A session's quiet steps are those of the steps that it made.

-- A mark adds what the step adds that it tells.
words-quiet : (number : ℕ) (m : WordMark) (its : Step) (before : List Quiet) → WordsTell number m its → quiet_words before m ≡ quiet_after before its
words-quiet number (word.TookFast owner database words) its before told = sym (ap (quiet_after before) told)
words-quiet number (word.PutFast owner found) its before told = sym (ap (quiet_after before) told)
words-quiet number (word.SharedFast owner database words) its before told = sym (ap (quiet_after before) told)
words-quiet number (word.UnsharedFast owner found) its before told = sym (ap (quiet_after before) told)
words-quiet number (word.Passed owner tag mode found) its before told = sym (ap (quiet_after before) told)
words-quiet number (word.Counted tag mode) its before told = sym (ap (quiet_after before) told)
words-quiet number (word.Uncounted tag mode) its before told = sym (ap (quiet_after before) told)
words-quiet number (word.LoadedWait shown) its before told = sym (ap (quiet_after before) told)
words-quiet number (word.Asked other was) its before told = sym (ap (quiet_after before) told)
words-quiet number word.ClearedWait its before told = sym (ap (quiet_after before) told)
words-quiet number (word.LoadedDatabase owner shown) its before told = sym (ap (quiet_after before) told)
words-quiet number (word.LoadedSlot owner slot shown) its before told = sym (ap (quiet_after before) told)
words-quiet number (word.LoadedFast shown) its before told = sym (ap (quiet_after before) told)
words-quiet number (word.LoadedStrong index shown) its before told = sym (ap (quiet_after before) told)
words-quiet number (word.SetSlot slot tag mode) its before told = sym (ap (quiet_after before) told)
words-quiet number (word.ClearedSlot slot tag mode) its before told = sym (ap (quiet_after before) told)
words-quiet number (word.StoredDatabase database) its before told = sym (ap (quiet_after before) told)
words-quiet number (word.JoinedList mode) its before told = sym (ap (quiet_after before) told)
words-quiet number word.LeftList its before told = sym (ap (quiet_after before) told)
words-quiet number (word.TookOff other) its before told = sym (ap (quiet_after before) told)
words-quiet number (word.Told other) its before told = sym (ap (quiet_after before) told)
words-quiet number (word.LoadedSleep shown) its before told = sym (ap (quiet_after before) told)
words-quiet number (word.TransferredSlot owner slot tag mode) its before told = sym (ap (quiet_after before) told.1)
words-quiet number (word.LockedList lock waiters) its before told = sym (ap (quiet_after before) told.2)
words-quiet number word.UnlockedList its before told = sym (ap (quiet_after before) told.3)
words-quiet number (word.SetReleaseOk lock) its before told = sym (ap (quiet_after before) told.1.2)
words-quiet number (word.SetHasWaiters lock) its before told = sym (ap (quiet_after before) told.1.2)
words-quiet number (word.SawListLocked lock) its before told = absurd told
words-quiet number (word.SawHeld lock shown) its before told = absurd told
words-quiet number (word.CalledWaiter other) its before told = absurd told
words-quiet number (word.CalledSleeper other) its before told = absurd told
words-quiet number (word.ParksWaiting shown) its before told = absurd told
words-quiet number (word.ParksAsleep shown) its before told = absurd told

-- The last step comes last.
last-quiet : (before : List Quiet) (steps : List Step) (last : Step) → quiet_of before (steps ++ last ∷ []) ≡ quiet_after (quiet_of before steps) last
last-quiet before [] last = refl
last-quiet before (its ∷ steps) last = last-quiet (quiet_after before its) steps last

module _ {T : Type 0} where
  mark-quiet : (number : ℕ) (m : Mark T) (its : Step) (before : List Quiet) → Tells number m its → quiet_noted before m ≡ quiet_after before its
  mark-quiet number (mark.TookPart part taken) its before told = sym (ap (quiet_after before) told)
  mark-quiet number (mark.PutPart part done put found) its before told = sym (ap (quiet_after before) told.1)
  mark-quiet number (mark.SetWaiting tag mode now) its before told = sym (ap (quiet_after before) told)
  mark-quiet number (mark.MarkedGranted part other done woken now) its before told = sym (ap (quiet_after before) told)
  mark-quiet number (mark.LeftQueue woken now) its before told = sym (ap (quiet_after before) told)
  mark-quiet number (mark.OfWords m) its before told = words-quiet number m its before told

  -- A look, or a call, adds nothing.
  look-quiet : (m : Mark T) (before : List Quiet) → LooksOnly m → quiet_noted before m ≡ before
  look-quiet m before (at_list lock is) = ap (quiet_noted before) is
  look-quiet m before (at_lock lock shown is) = ap (quiet_noted before) is
  look-quiet m before (calls_waiter other is) = ap (quiet_noted before) is
  look-quiet m before (calls_sleeper other is) = ap (quiet_noted before) is
  look-quiet m before (at_wait shown is) = ap (quiet_noted before) is
  look-quiet m before (at_sleep shown is) = ap (quiet_noted before) is

  pub told-quiet : (number : ℕ) (marks : List (Mark T)) (steps : List Step) → AreTold number marks steps → quiet_told marks ≡ quiet_of [] steps
  told-quiet number [] steps told = sym (ap (quiet_of []) told)
  told-quiet number (m ∷ marks) steps (inl told) =
      ap (λ before. quiet_noted before m) (told-quiet number marks told.0 told.4)
      ∙ mark-quiet number m told.1 (quiet_of [] told.0) told.3
      ∙ sym (last-quiet [] told.0 told.1)
      ∙ sym (ap (quiet_of []) told.2)
  told-quiet number (m ∷ marks) steps (inr looked) = look-quiet m (quiet_told marks) looked.0 ∙ told-quiet number marks steps looked.1
