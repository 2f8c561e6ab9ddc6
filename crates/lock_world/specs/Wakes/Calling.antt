use Rattle.std.specs.Prelude.{◌≡◌, ◌≢◌, ℕ, ◌==◌, ◌||◌, not, Bool, true, false, Option, Some, None, ◌⊎◌, if◌then◌else◌}
use Rattle.lock_table.specs.Put.{set_at}
use Rattle.lock_world.specs.declared.events.Step.{Step}
use Rattle.lock_world.specs.declared.events.Step.TheVariants.{AskCancel, LoadWait, SetWaiting, MarkGranted, ClearWait, JoinList, LeaveList, TakeOff, Tell, LoadSleep}
use Rattle.lock_world.specs.World.{World}
use Rattle.lock_world.specs.WaitWord.{wait_state}

-- Calls: a session parks on a word of its own, wait word or sleep word, and a session that changes that word
-- calls it.

-- What a session parks on: its wait word shows that it waits.
abbrev pub ShowsWaiting : ℕ → Type 0
ShowsWaiting shown = wait_state shown ≡ 1

-- What a session parks on: its sleep word does not show that it was told.
abbrev pub ShowsUntold : ℕ → Type 0
ShowsUntold shown = shown ≢ 0

-- What is known of calls on words of one kind, where each session has one word.
pub record Calls : Type 0 where
  -- what each session's word showed when the session loaded it last, and has stored nothing there since
  pub looked : ℕ → Option ℕ
  -- whether it was called since it loaded that
  pub called : ℕ → Bool
  -- whom each session has still to call
  pub owed : ℕ → ℕ → Bool

-- Where a session's word is not what the session loaded any more, to park on, it was called since, or
-- somebody has it to call.
abbrev pub EachIsCalled : (ℕ → Type 0) → (ℕ → ℕ) → Calls → Type 0
EachIsCalled ParksOn word c =
    (session shown : ℕ) → c.looked session ≡ Some shown → ParksOn shown
    → (word session ≡ shown) ⊎ ((c.called session ≡ true) ⊎ ((other : ℕ) × (c.owed other session ≡ true)))

-- The session is parked, where `parks` says who parks on its word by its last turn: the kernel found the word
-- as the session had loaded it, and nobody has called it since.
pub record IsParked (ParksOn : ℕ → Type 0) (c : Calls) (parks : ℕ → Bool) (session shown : ℕ) : Type 0 where
  pub by_last_turn : parks session ≡ true
  pub looked : c.looked session ≡ Some shown
  pub parks_on : ParksOn shown
  pub uncalled : c.called session ≡ false

-- The session loads its word, which shows `shown`: a call before that counts no more.
abbrev pub looking : Calls → ℕ → ℕ → Calls
looking c session shown = record c { looked = set_at c.looked session (Some shown); called = set_at c.called session false }

-- The session stores in its word: what it loaded before counts no more.
abbrev pub storing : Calls → ℕ → Calls
storing c session = record c { looked = set_at c.looked session None }

-- The session changes the word of `other`, and owes it a call.
abbrev pub changing : Calls → ℕ → ℕ → Calls
changing c session other = record c { owed = set_at c.owed session (set_at (c.owed session) other true) }

-- The session asks `other` to cancel, whose wait word shows this: it owes that one a call where that waits.
abbrev pub asking : Calls → ℕ → ℕ → ℕ → Calls
asking c session other shown = if wait_state shown == 1 then changing c session other else c

-- whether a word shows what its session loaded
abbrev pub shows_looked : Option ℕ → ℕ → Bool
shows_looked None word = false
shows_looked (Some shown) word = word == shown

-- The session calls `other`, and owes it no call any more. A call before the word changed counts for nothing:
-- the other may park after it.
abbrev pub calling : (ℕ → ℕ) → Calls → ℕ → ℕ → Calls
calling word c session other = record c {
  called = set_at c.called other (c.called other || not (shows_looked (c.looked other) (word other)));
  owed = set_at c.owed session (set_at (c.owed session) other false);
}

-- what a step that is made in the World w makes of the calls on wait words
abbrev pub wait_calls_after : World → Calls → ℕ → Step → Calls
wait_calls_after w c session (LoadWait shown) = looking c session shown
wait_calls_after w c session (SetWaiting tag mode) = storing c session
wait_calls_after w c session (ClearWait leaving) = storing c session
wait_calls_after w c session (AskCancel other) = asking c session other (w.words.wait other)
wait_calls_after w c session (MarkGranted other done) = changing c session other
wait_calls_after w c session step = c

-- what a step makes of the calls on sleep words
abbrev pub sleep_calls_after : Calls → ℕ → Step → Calls
sleep_calls_after c session (LoadSleep shown) = looking c session shown
sleep_calls_after c session (JoinList mode) = storing c session
sleep_calls_after c session LeaveList = storing c session
sleep_calls_after c session (TakeOff other) = changing c session other
sleep_calls_after c session (Tell other) = changing c session other
sleep_calls_after c session step = c

-- nobody has looked, was called or is owed a call
abbrev pub no_calls : Calls
no_calls = record { looked = λ _. None; called = λ _. false; owed = λ _ _. false }
