use Rattle.std.specs.Prelude.{◌≡◌, ℕ, Bool, true, false, List, [], ◌∷◌, ◌++◌, All, filter, map, take, drop, Option, None, Some, IfSome, if◌then◌else◌}
use Rattle.std.specs.List.{flat_map}
use Rattle.modes_core.specs.declared.modes.Mode.TheVariants.{Exclusive}
use Rattle.modes_core.specs.declared.sessions.Owner.TheVariants.{Transaction}
use Rattle.modes_core.specs.declared.tags.Tag.{Tag}
use Rattle.modes_core.specs.declared.tags.Tag.TheVariants.{Advisory}
use Rattle.sql_locks.specs.declared.catalog.Link.{Link}
use Rattle.sql_locks.specs.declared.locks.Act.{Act}
use Rattle.sql_locks.specs.declared.locks.Lock.{Lock}
use Rattle.sql_report.specs.Outcome.{AreLocksOfActs}
use Rattle.sql_report.specs.Report.{line_of_statement}
use Rattle.sql_script.specs.Asked.{asked_behind, step_of}
use Rattle.sql_script.specs.Awaited.{await_step, pass_steps}
use Rattle.sql_script.specs.Kept.{is_kept, keeping_steps}
use Rattle.sql_script.specs.declared.asked.Asking.TheVariants as asking
use Rattle.sql_script.specs.declared.awaited.Course.{Course}
use Rattle.sql_script.specs.declared.awaited.Course.TheVariants.{Within, Kept, Owned, Parted}
use Rattle.sql_script.specs.declared.steps.Step.{Step}
use Rattle.sql_script.specs.declared.steps.Step.TheVariants as step
use Rattle.sql_script.specs.declared.turns.Manner.{Manner}
use Rattle.sql_script.specs.declared.turns.Turn.{Turn}
use Rattle.sql_statements.specs.Statements.{AreStatementsOf, IsPlaced}
use Rattle.sql_statements.specs.declared.statements.SqlStatement.{SqlStatement}
use Rattle.sql_statements.specs.declared.reader.Control.{Control}
use Rattle.sql_statements.specs.declared.reader.Control.TheVariants.{Stay, Begin, Commit, Rollback, Savepoint}

-- what is played for the begin of a transaction: it takes its own lock, if it has one
abbrev pub begun_by : Option Tag → List Step
begun_by None = []
begun_by (Some tag) = step.Lock tag Exclusive Transaction ∷ []

-- what is played for a statement that takes locks: its own transaction begins, if it has a lock; then a step
-- for each of its locks that no earlier one covers, and what it takes beside them
abbrev pub taken_for : ℕ → Manner → List Lock → List Step → List Step
taken_for database manner locks others =
    (begun_by manner.begins ++ map (step_of database manner.asking) (asked_behind [] locks)) ++ others

-- what is played for a statement whose locks the session owns itself: a step for each that no earlier one
-- covers, and the waits for the ends of these transactions
abbrev pub owned_for : ℕ → List Lock → List Tag → List Step
owned_for database locks awaited = map (step_of database asking.Own) (asked_behind [] locks) ++ map await_step awaited

-- a transaction that takes locks and ends
abbrev pub transaction_for : ℕ → List Lock → List Step
transaction_for database locks = map (step_of database asking.Wait) (asked_behind [] locks) ++ step.Commit ∷ []

-- what is played for a statement of two transactions, of which the first takes two of its locks and the
-- second the others: between them the ends of these transactions are waited for, and nothing of that is kept
abbrev pub parted_for : ℕ → List Lock → List Tag → List Step
parted_for database locks awaited =
    (transaction_for database (take 2 locks) ++ flat_map pass_steps awaited) ++ map (step_of database asking.Wait) (asked_behind [] (drop 2 locks))

-- what is played for a statement that goes through transactions in this way, but for its end
abbrev pub gone_for : Course → ℕ → Manner → List Lock → List Step → List Tag → List Step
gone_for Within database manner locks others awaited = taken_for database manner locks others
gone_for Kept database manner locks others awaited = flat_map (keeping_steps database) (asked_behind [] locks)
gone_for Owned database manner locks others awaited = owned_for database locks awaited
gone_for Parted database manner locks others awaited = parted_for database locks awaited

-- what is played for a statement that does this to its transaction, but for its end
abbrev pub work_under : Control → ℕ → Manner → List Lock → List Step → List Tag → List Step
work_under Begin database manner locks others awaited = begun_by manner.begins
work_under Commit database manner locks others awaited = step.Commit ∷ begun_by manner.begins
work_under Rollback database manner locks others awaited = step.Abort ∷ begun_by manner.begins
work_under Savepoint database manner locks others awaited = others
work_under Stay database manner locks others awaited = gone_for manner.course database manner locks others awaited

-- what a session of a database plays for a statement, but for what ends the statement
abbrev pub work_for : ℕ → Manner → List Lock → List Step → List Tag → List Step
work_for database manner locks others awaited = work_under manner.control database manner locks others awaited

-- the end of a transaction, after which the session gives back its own locks
abbrev pub given_back : ℕ → List Lock → List Step
given_back database locks = step.Commit ∷ map (step_of database asking.GiveBack) locks

-- what ends a statement that goes through transactions in this way
abbrev pub gone_end : Course → ℕ → Manner → List Lock → List Step
gone_end Within database manner locks = if manner.is_alone then (step.Commit ∷ []) else []
gone_end Kept database manner locks = given_back database (filter is_kept (asked_behind [] locks))
gone_end Owned database manner locks = given_back database (asked_behind [] locks)
gone_end Parted database manner locks = step.Commit ∷ []

-- what ends a statement that does this to its transaction
abbrev pub end_under : Control → ℕ → Manner → List Lock → List Step
end_under Begin database manner locks = []
end_under Commit database manner locks = []
end_under Rollback database manner locks = []
end_under Savepoint database manner locks = []
end_under Stay database manner locks = gone_end manner.course database manner locks

-- what ends a statement of a session of a database
abbrev pub end_for : ℕ → Manner → List Lock → List Step
end_for database manner locks = end_under manner.control database manner locks

-- what a session of a database plays for a statement, which waits for the ends of these transactions
abbrev pub played_for : ℕ → Manner → List Lock → List Step → List Tag → List Step
played_for database manner locks others awaited = work_for database manner locks others awaited ++ end_for database manner locks

-- what is played where a statement's work is done, of which this is left: where the ends of some transactions
-- are waited for then, its transaction ends and the next one waits, and what is left stays
abbrev pub resumed_for : List Step → List Tag → List Step
resumed_for left [] = left
resumed_for left (tag ∷ awaited) = step.Commit ∷ map await_step (tag ∷ awaited)

-- Locks are those of some forms over some links, one form after another.
abbrev pub HasForms : List Lock → Type 0
HasForms locks = (links : List Link) × ((acts : List Act) × AreLocksOfActs links acts locks)

-- The lock of a transaction is an advisory one of its database, whose last number no function of SQL gives.
abbrev pub IsOwnLock : ℕ → Tag → Type 0
IsOwnLock database tag = (number : ℕ) × (tag ≡ Advisory 3 database 0 number)

-- what is left of a statement where it works until a later line: its end, and else nothing
abbrev pub left_for : Bool → ℕ → Manner → List Lock → List Step
left_for true database manner locks = end_for database manner locks
left_for false database manner locks = []

-- A turn has the locks of some forms, and takes no lock for a transaction but its own. Where its statement
-- works until a later line its end is left, and else nothing. What it plays and what is left, one after the
-- other, are just what its statement comes to.
abbrev pub IsTurn : ℕ → Bool → Turn → Type 0
IsTurn database works turn =
    HasForms turn.locks.items × IfSome turn.manner.begins (IsOwnLock database)
    × (turn.left.items ≡ left_for works database turn.manner turn.locks.items)
    × (turn.steps.items ++ turn.left.items ≡ played_for database turn.manner turn.locks.items turn.others.items turn.awaited.items)

-- the line on which the statement of a turn begins
abbrev pub line_of_turn : Turn → ℕ
line_of_turn turn = turn.line

-- Turns are those of the statements of a text, which work until a later line or not: of each one, in their
-- order, with its line.
abbrev pub AreTurnsOf : ℕ → Bool → List ℕ → List Turn → Type 0
AreTurnsOf database works text turns =
    (statements : List SqlStatement) × AreStatementsOf text statements × All IsPlaced statements
    × (map line_of_turn turns ≡ map line_of_statement statements) × All (IsTurn database works) turns
