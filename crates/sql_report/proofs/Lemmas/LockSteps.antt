-- What stays true while the locks of a statement's forms are gathered, form by form, and looked at, lock by
-- lock.
use Rattle.std.proofs.Common.{◌≡◌, ◌<◌, ◌+◌, ℕ, Bool, true, false, ◌||◌, List, [], ◌∷◌, ◌++◌, take, get_or, length, refl, sym, ◌∙◌, ap, append_assoc}
use Rattle.std.specs.List.{list_any}
use Rattle.std.proofs.lemmas.List.{append-nil}
use Rattle.std.proofs.lemmas.List.Folds.{list_any_more}
use Rattle.sql_locks.specs.Reach.{AreLocks}
use Rattle.sql_locks.specs.declared.catalog.Link.{Link}
use Rattle.sql_locks.specs.declared.forms.FormRow.{FormRow}
use Rattle.sql_locks.specs.declared.locks.Act.{Act}
use Rattle.sql_locks.specs.declared.locks.Lock.{Lock}
use Rattle.sql_report.specs.Outcome.{AreLocksOfActs}

-- the locks of one more form come behind the others
pub locks_of_more : (links : List Link) (acts : List Act) (locks : List Lock) (act : Act) (row : FormRow) (more : List Lock) →
    AreLocksOfActs links acts locks → row.form ≡ act.form → AreLocks links act row.parts.now more →
    AreLocksOfActs links (acts ++ act ∷ []) (locks ++ more)
locks_of_more links [] locks act row more known is new =
    (row, more, [], ap (λ xs. xs ++ more) known ∙ sym (append-nil more), is, new, refl)
locks_of_more links (first ∷ acts) locks act row more known is new = (
  known.0,
  known.1,
  known.2 ++ more,
  ap (λ xs. xs ++ more) known.3 ∙ append_assoc known.1 known.2 more,
  known.4,
  known.5,
  locks_of_more links acts known.2 act row more known.6 is new,
)

-- a choice is the same the other way round
or_turned : (x y : Bool) → (x || y) ≡ (y || x)
or_turned true true = refl
or_turned true false = refl
or_turned false true = refl
or_turned false false = refl

-- whether one of some locks has a property, with one more
pub any_more : (p : Lock → Bool) (locks : List Lock) (i : ℕ) (none : Lock) (before : Bool) → i < length locks →
    before ≡ list_any p (take i locks) → (p (get_or locks i none) || before) ≡ list_any p (take (i + 1) locks)
any_more p locks i none before lt known =
    or_turned (p (get_or locks i none)) before ∙ ap (λ b. b || p (get_or locks i none)) known ∙ sym (list_any_more p locks i none lt)
