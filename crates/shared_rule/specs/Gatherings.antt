use Rattle.std.specs.Prelude.{◌≡◌, ◌≢◌, ℕ, ◌+◌, ◌*◌, ◌<◌, ◌≤◌, ◌==◌, List, [], ◌∷◌, map, length, sum_by, Some, None, if◌then◌else◌}
use Rattle.atomic_table.specs.Table.{Step}
use Rattle.lock_table.specs.Content.{Content}
use Rattle.lock_world.specs.declared.events.Word.{Word}
use Rattle.lock_world.specs.declared.events.Word.TheVariants.{Partition, Fast, Database, Slot, Wait, Strong, Sleep}
use Rattle.lock_world.specs.Account.{Account, InHand}
use Rattle.lock_world.specs.Counted.{count_at}
use Rattle.lock_world.specs.Happens.Counters.{most_counted}
use Rattle.lock_world.specs.Tallies.{OwnStand, ShowsLeft}
use Rattle.modes_core.specs.Sessions.{most_sessions}
use Rattle.shared_rule.specs.declared.history.History.{History}
use Rattle.shared_rule.specs.declared.history.Mark.{Mark}
use Rattle.shared_rule.specs.declared.history.View.{View}
use Rattle.shared_rule.specs.declared.kept.Kept.{Kept}
use Rattle.shared_rule.specs.History.{blank_account, told, first_account}
use Rattle.shared_rule.specs.Looks.{word_looked_at}
use Rattle.shared_rule.specs.Plays.{Side, Marked}

-- Sessions gathered at the opener's seat: the first makes steps with it, and keeps the others apart.

-- the most that a strong lock counter shows: what all sessions can count together
abbrev pub most_shown : ℕ
most_shown = most_sessions * most_counted

-- a gathered session: its number and its account
pub record Gathered : Type 0 where
  pub number : ℕ
  pub account : Account

-- the account of the session of this number, one with nothing in it where it is not among them
abbrev pub account_among : List Gathered → ℕ → Account
account_among [] number = blank_account
account_among (one ∷ others) number = if one.number == number then one.account else account_among others number

-- The number is that of none of the gathered sessions.
abbrev pub IsNone : ℕ → List Gathered → Type 0
IsNone number [] = Unit {0}
IsNone number (one ∷ others) = (one.number ≢ number) × IsNone number others

-- The numbers of the gathered sessions are below a limit, and no two are the same.
abbrev pub AreDistinct : ℕ → List Gathered → Type 0
AreDistinct limit [] = Unit {0}
AreDistinct limit (one ∷ others) = (one.number < limit) × IsNone one.number others × AreDistinct limit others

-- None of the gathered sessions waits.
abbrev pub NoneWaits : List Gathered → Type 0
NoneWaits [] = Unit {0}
NoneWaits (one ∷ others) = (one.account.awaited ≡ None) × NoneWaits others

-- how many strong locks the gathered sessions have counted at an index of the strong lock counters
abbrev pub counted_at : ℕ → List Gathered → ℕ
counted_at index gathered = sum_by (λ one. count_at index one.account.fast.counted) gathered

-- The session has each partition in hand, with this content.
abbrev pub HasAllInHand : Account → (ℕ → Content) → Type 0
HasAllInHand a contents =
    (partition : ℕ) → partition < 16 → (mine : InHand) × (a.hand partition ≡ Some mine) × (mine.now ≡ contents partition)

module _ {T : Type 0} where
  -- The gathered sessions are all that there are: of the numbers given out, `issued` of them, each is at the
  -- seat, or has closed.
  pub record AreAll (issued : ℕ) (view : View T) : Type 0 where
    pub next : view.next ≡ Some issued
    pub all : length view.sessions + length view.closed ≡ issued

module _ {T : Type 0} (content : T → Content) where
  -- a session at a seat, with its account, by its history
  abbrev pub gathered_as : History T → Gathered
  gathered_as history = record { number = history.number; account = told content history.number history.marks }

  -- the sessions at a seat, with their accounts, by their histories
  abbrev pub gathered_in : List (History T) → List Gathered
  gathered_in sessions = map gathered_as sessions

  -- What the seat knows of a number that is found in a word, where they are all that there are. A slot shows,
  -- with all partitions in hand, its session's own holds that no content has; a strong lock counter shows
  -- what they have counted.
  abbrev pub KnowsOfAll : View T → Word → ℕ → Type 0
  KnowsOfAll view (Partition partition) found = Unit {0}
  KnowsOfAll view (Fast owner) found = Unit {0}
  KnowsOfAll view (Database owner) found = Unit {0}
  KnowsOfAll view (Slot owner slot) found =
      (contents : ℕ → Content) → HasAllInHand (first_account content view.sessions) contents
      → ShowsLeft owner (account_among (gathered_in view.sessions) owner) contents slot found
  KnowsOfAll view (Wait owner) found = Unit {0}
  KnowsOfAll view (Strong index) found = (found ≡ counted_at index (gathered_in view.sessions)) × (found ≤ most_shown)
  KnowsOfAll view (Sleep owner) found = Unit {0}

  -- A load was noted, and the seat learns that of the number found, of the word that the mark names.
  abbrev pub LookedOver : (ℕ → Mark T) → Step (Kept T) → Side T → ℕ → Side T → Type 0
  LookedOver mark step before found after =
      Marked mark step before found after
      × ((word : Word) (issued : ℕ) → word_looked_at (mark found) ≡ Some word → AreAll issued before.0
      → KnowsOfAll before.0 word found)

  -- What the seat knows where the gathered sessions are all that there are, each with `groups` groups of
  -- slots: who they are, and, with all partitions in hand and nobody waiting, where each one's own holds
  -- stand.
  pub record KnowsAll (groups issued : ℕ) (view : View T) : Type 0 where
    pub distinct : AreDistinct issued (gathered_in view.sessions)
    pub stand :
        (contents : ℕ → Content) → NoneWaits (gathered_in view.sessions)
        → HasAllInHand (first_account content view.sessions) contents → (number : ℕ)
        → OwnStand groups number (account_among (gathered_in view.sessions) number) contents

  -- Nothing changed, and the seat learns what `KnowsAll` says.
  abbrev pub ToldAll : ℕ → Step (Kept T) → Side T → ℕ → Side T → Type 0
  ToldAll groups step before found after =
      (after ≡ before) × ((issued : ℕ) → AreAll issued before.0 → KnowsAll groups issued before.0)
