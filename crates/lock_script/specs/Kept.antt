use Rattle.std.specs.Prelude.{◌≡◌, ◌≢◌, ◌⊎◌, ℕ, ◌≤◌, if◌then◌else◌, List, [], ◌∷◌, ◌++◌, sum_by, take, All, AllPairs, Option, Some, None, IfSome}
use Rattle.std.specs.List.{HoldsAt}
use Rattle.std.specs.Str.{bytes_eq}
use Rattle.std.specs.VecDeque.{deque_len}
use Rattle.lock_script.specs.Defects.{commands, words_behind}
use Rattle.lock_script.specs.Names.{IsFree}
use Rattle.lock_script.specs.Words.{is_name, words_of}
use Rattle.lock_script.specs.declared.commands.WordKind.{WordKind}
use Rattle.lock_script.specs.declared.commands.WordKind.TheVariants.{CallerName, FreeName}
use Rattle.lock_script.specs.declared.sessions.Named.{Named}
use Rattle.lock_script.specs.declared.kept.KeptLine.{KeptLine}
use Rattle.lock_script.specs.declared.kept.KeptQueue.{KeptQueue}

-- Lines that wait with their sessions, by the sessions' names.

-- the lines that each session has
abbrev pub lines_of : List KeptQueue → List ℕ → List KeptLine
lines_of [] session = []
lines_of (first ∷ others) session = if bytes_eq first.session.bytes session then first.lines.items else lines_of others session

-- one line of the session of this name
abbrev pub line_of : List ℕ → KeptLine → List ℕ → List KeptLine
line_of name line session = if bytes_eq name session then line ∷ [] else []

-- Of each session, the lines that are run, and behind them those that are left, are the ones that were kept,
-- in their order.
abbrev pub IsKeptOrder : (List ℕ → List KeptLine) → (List ℕ → List KeptLine) → (List ℕ → List KeptLine) → Type 0
IsKeptOrder kept run left = (session : List ℕ) → run session ++ left session ≡ kept session

-- Each session has one queue.
abbrev pub HaveOneQueue : List KeptQueue → Type 0
HaveOneQueue queues = AllPairs (λ one other. one.session.bytes ≢ other.session.bytes) queues

-- how many lines are kept of all sessions together
abbrev pub kept_count : List KeptQueue → ℕ
kept_count queues = sum_by (λ queue. deque_len queue.lines) queues

-- the number of the first one of these lines, if there is one
abbrev pub first_number : List KeptLine → Option ℕ
first_number [] = None
first_number (line ∷ lines) = Some line.number

-- No line is kept of a session that doesn't wait.
abbrev pub NoneReady : {W : Type 0} → List KeptQueue → List (Named W) → Type 0
NoneReady kept waiting = (session : List ℕ) → IsFree waiting session → lines_of kept session ≡ []

-- Of the first lines of the sessions that don't wait none has a lower number than this one.
abbrev pub IsLowest : {W : Type 0} → List KeptQueue → List (Named W) → ℕ → Type 0
IsLowest kept waiting number = (session : List ℕ) → IsFree waiting session → IfSome (first_number (lines_of kept session)) (λ other. number ≤ other)

-- The queue's session doesn't wait, and no queue of one that doesn't has a first line of a lower number than
-- its own.
abbrev pub IsFirstReady : {W : Type 0} → List (Named W) → List KeptQueue → ℕ → KeptQueue → Type 0
IsFirstReady waiting queues number queue =
    IsFree waiting queue.session.bytes × (first_number queue.lines.items ≡ Some number)
    × All (λ one. IsFree waiting one.session.bytes → IfSome (first_number one.lines.items) (λ other. number ≤ other)) queues

-- The queue at this place is the first one that is ready, if one is.
abbrev pub AreFirstReady : {W : Type 0} → List (Named W) → List KeptQueue → Option ℕ → Type 0
AreFirstReady waiting queues (Some place) = (number : ℕ) × HoldsAt (IsFirstReady waiting queues number) queues place
AreFirstReady waiting queues None = All (λ one. IsFree waiting one.session.bytes → first_number one.lines.items ≡ None) queues

-- Of what was found, by a place and a number, and of these two the one with the lower number.
abbrev pub IsEarlier : Option (ℕ × ℕ) → ℕ → ℕ → ℕ × ℕ → Type 0
IsEarlier None place number it = it ≡ (place, number)
IsEarlier (Some (before, lowest)) place number it =
    ((it ≡ (before, lowest)) × (lowest ≤ number)) ⊎ ((it ≡ (place, number)) × (number ≤ lowest))

-- a word, if it is the name of a session
abbrev pub name_in : List ℕ → Option (List ℕ)
name_in word = if is_name word then Some word else None

-- the name of a session behind a command that begins with one, where these words have to stand behind the
-- command
abbrev pub name_behind : Option (List WordKind) → List (List ℕ) → Option (List ℕ)
name_behind (Some (CallerName ∷ kinds)) (word ∷ words) = name_in word
name_behind (Some (FreeName ∷ kinds)) (word ∷ words) = name_in word
name_behind _ _ = None

-- the name of the session that these words of a line address, if they address one: of the one that is to act,
-- or to be opened
abbrev pub addressed_by : List (List ℕ) → Option (List ℕ)
addressed_by [] = None
addressed_by (verb ∷ words) = name_behind (words_behind verb commands) words

-- The line addresses the session of this name, which waits or has lines that are kept.
abbrev pub HasToWait : {W : Type 0} → List KeptQueue → List (Named W) → List ℕ → List ℕ → Type 0
HasToWait kept waiting line name = (addressed_by (take 6 (words_of line)) ≡ Some name) × ((¬ IsFree waiting name) ⊎ (lines_of kept name ≢ []))
