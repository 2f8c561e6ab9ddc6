use Rattle.std.specs.Prelude.{◌≡◌, ◌⊎◌, ℕ, ◌+◌, ◌-◌, ◌^◌, min, List, [], ◌∷◌, ◌++◌, map, vec_len, ⊤}
use Rattle.arrayvec.specs.declared.array_string.ArrayString.{ArrayString}
use Rattle.lock_manager.specs.declared.blocked.Blocked.{Blocked}
use Rattle.lock_script.specs.declared.faults.Fault.{Fault}
use Rattle.lock_script.specs.declared.faults.Fault.TheVariants.{BadLine, ReadFailed, WriteFailed, NoMemory, GateHeld}
use Rattle.lock_script.specs.declared.names.Names.{Names}
use Rattle.scenario.specs.declared.answers.Row.{Row}
use Rattle.scenario.specs.declared.answers.Row.TheVariants as row
use Rattle.scenario.specs.declared.answers.Said.{Said}
use Rattle.scenario.specs.declared.answers.Answer.{Answer}
use Rattle.scenario.specs.declared.answers.Answer.TheVariants as answer

-- What a listener hears of a script.

pub data Heard : Type 0 where
  -- a line of the script, with its number and its text
  Line : ℕ → List ℕ → Heard
  -- what the session of this name is told, where the sessions were opened under these names
  Told : Names → ArrayString 16 → Said → Heard
  -- a row of an answer
  Listed : Names → Row → Heard
  -- who is in the way of a session that has begun to wait, as it says itself
  Behind : Names → Blocked → Heard
  -- a picture of who waits for whom
  Drawn : Heard
  -- a text for somebody at a shell
  Helped : List ℕ → Heard
  -- the end of what answers a line
  Done : Heard
  -- a line of the script that is kept, with its number and its text
  Kept : ℕ → List ℕ → Heard
  -- the end of a script that has no bad line
  Ended : Heard
  -- the sessions of these names are left waiting at the end, and so many lines were not reached
  Left : List (ArrayString 16) → ℕ → Heard

-- A last picture is heard, where one is wanted.
abbrev pub IsLastPicture : List Heard → Type 0
IsLastPicture heard = (heard ≡ []) ⊎ (heard ≡ Drawn ∷ [])

-- What is heard at the end of a script that has no bad line: a picture, where one is wanted, and that it has
-- ended.
abbrev pub IsEnd : List Heard → Type 0
IsEnd heard = (picture : List Heard) × IsLastPicture picture × (heard ≡ picture ++ Ended ∷ [])

-- Why a listener doesn't hear something: it can't be written, or there is no memory for it.
abbrev pub IsUnheard : Fault → Type 0
IsUnheard WriteFailed = ⊤
IsUnheard NoMemory = ⊤
IsUnheard (BadLine line what) = ⊥
IsUnheard ReadFailed = ⊥
IsUnheard GateHeld = ⊥

-- A listener hears all of a list, one after another.
abbrev pub HearsAll : {L : Type 0} → (L → Heard → L → Type 0) → L → List Heard → L → Type 0
HearsAll hears old [] new = new ≡ old
HearsAll {L} hears old (first ∷ others) new = (next : L) × hears old first next × HearsAll hears next others new

-- What a listener heard is as the predicate says.
abbrev pub Hears : {L : Type 0} → (L → Heard → L → Type 0) → L → L → (List Heard → Type 0) → Type 0
Hears hears old new IsSo = (heard : List Heard) × IsSo heard × HearsAll hears old heard new

-- what is heard of an answer: what a session is told, or its rows, one by one
abbrev pub told_of : Names → Answer → List Heard
told_of names (answer.Said name said) = Told names name said ∷ []
told_of names (answer.Row row) = Listed names row ∷ []
told_of names (answer.Listing listing) =
    map (λ slot. Listed names (row.Slot slot)) listing.fast.items ++ map (λ entry. Listed names (row.Table entry)) listing.table.items
    ++ Listed names (row.Rows (min (vec_len listing.fast + vec_len listing.table) (2 ^ 64 - 1))) ∷ []
told_of names (answer.Queue rows) = map (λ wait. Listed names (row.Wait wait)) rows.items ++ Listed names (row.Waits (vec_len rows)) ∷ []
told_of names (answer.Blockers name found) = map (λ blocker. Listed names (row.InTheWay name blocker)) found.items
told_of names answer.NoMemory = []
