use Rattle.std.specs.Prelude.{ℕ, Bool, true, false, List, [], ◌∷◌, Option, Some, None}
use Rattle.lock_world.specs.declared.events.Word.{Word}
use Rattle.lock_world.specs.declared.events.Word.TheVariants.{Database, Slot, Wait, Strong}
use Rattle.lock_world.specs.Wakes.{Beside}
use Rattle.shared_rule.specs.declared.history.Mark.{Mark}
use Rattle.shared_rule.specs.declared.history.Mark.TheVariants.{SetWaiting, LeftQueue, OfWords}
use Rattle.shared_rule.specs.declared.history.WordMark.{WordMark}
use Rattle.shared_rule.specs.declared.history.WordMark.TheVariants.{LoadedWait, ClearedWait, LoadedSleep, JoinedList, LeftList, ParksWaiting, ParksAsleep, CalledWaiter, CalledSleeper}
use Rattle.shared_rule.specs.declared.history.WordMark.TheVariants.{Asked, LoadedDatabase, LoadedSlot, LoadedStrong}

-- What a session's own words showed as the session loaded them last, where it has stored nothing there since:
-- on that it parks. Its history tells.
pub record OwnLooks : Type 0 where
  pub on_wait : Option ℕ
  pub on_sleep : Option ℕ

-- the looks of a session that has loaded neither of its own words
abbrev pub no_looks : OwnLooks
no_looks = record { on_wait = None; on_sleep = None }

-- what a step that tells of no content makes of a session's looks
abbrev pub looks_words : OwnLooks → WordMark → OwnLooks
looks_words looks (LoadedWait shown) = record looks { on_wait = Some shown }
looks_words looks ClearedWait = record looks { on_wait = None }
looks_words looks (LoadedSleep shown) = record looks { on_sleep = Some shown }
looks_words looks (JoinedList mode) = record looks { on_sleep = None }
looks_words looks LeftList = record looks { on_sleep = None }
looks_words looks (ParksWaiting shown) = record looks { on_wait = Some shown }
looks_words looks (ParksAsleep shown) = record looks { on_sleep = Some shown }
looks_words looks mark = looks

module _ {T : Type 0} where
  -- what a step makes of a session's looks
  abbrev pub looks_noted : OwnLooks → Mark T → OwnLooks
  looks_noted looks (SetWaiting tag mode now) = record looks { on_wait = None }
  looks_noted looks (LeftQueue woken now) = record looks { on_wait = None }
  looks_noted looks (OfWords mark) = looks_words looks mark
  looks_noted looks mark = looks

  -- what these steps tell, the last one first
  abbrev pub looks_told : List (Mark T) → OwnLooks
  looks_told [] = no_looks
  looks_told (mark ∷ marks) = looks_noted (looks_told marks) mark

-- the looks of one session, by what stands beside the World
abbrev pub looks_of : Beside → ℕ → OwnLooks
looks_of beside number = record { on_wait = beside.waits.looked number; on_sleep = beside.sleeps.looked number }

-- the word of which a step tells what it showed, where that may be another session's or all sessions': by a
-- step that tells of no content
abbrev pub word_looked_at_by : WordMark → Option Word
word_looked_at_by (Asked other before) = Some (Wait other)
word_looked_at_by (LoadedDatabase owner shown) = Some (Database owner)
word_looked_at_by (LoadedSlot owner slot shown) = Some (Slot owner slot)
word_looked_at_by (LoadedStrong index shown) = Some (Strong index)
word_looked_at_by mark = None

-- the word of which a step tells what it showed, where that may be another session's or all sessions'
abbrev pub word_looked_at : {T : Type 0} → Mark T → Option Word
word_looked_at (OfWords mark) = word_looked_at_by mark
word_looked_at mark = None

-- whether a mark is that of a call
abbrev pub is_call_by : WordMark → Bool
is_call_by (CalledWaiter other) = true
is_call_by (CalledSleeper other) = true
is_call_by mark = false

abbrev pub is_call : {T : Type 0} → Mark T → Bool
is_call (OfWords mark) = is_call_by mark
is_call mark = false
