use Rattle.std.proofs.Common.{◌≡◌, ℕ, ◌+◌, List, [], ◌∷◌, map, length, refl, sym, ap, ◌∙◌, arith}
use Rattle.std.specs.Prelude.{filter, Result, Ok, Err, IfOk}
use Rattle.std.specs.List.{AllZip}
use Rattle.std.proofs.lemmas.List.Sums.{sum_by-cons}
use Rattle.modes_core.specs.Tag.{is_strong_on}
use Rattle.lock_world.specs.Account.{Account}
use Rattle.shared_rule.specs.declared.audits.Audit.{Audit}
use Rattle.shared_rule.specs.Boards.{Seated, Stack}
use Rattle.shared_rule.specs.Quiet.{Quiet}
use Rattle.lock_manager.specs.Audits.{HasTraced, Audits, entries_owned, strong_owned}
use Rattle.lock_manager.specs.Desks.{shown}
use Rattle.lock_manager.specs.Sessions.{SessionView, IsUnchanged}

-- What an audit says, as a desk shows the sessions.

counts-as : {E : Type 0} (result : Result Audit E) (counted : Audit → ℕ) (a b : ℕ) → b ≡ a → IfOk result (λ audit. counted audit ≡ a) → IfOk result (λ audit. counted audit ≡ b)
counts-as (Ok audit) counted a b same is = is ∙ sym same
counts-as (Err e) counted a b same is = tt

entries-shown : {B : Type 0} (sessions : List (SessionView B))
    → entries_owned (λ (s : SessionView (SessionView B)). s.owned.entries) (map shown sessions) ≡ entries_owned (λ (s : SessionView B). s.owned.entries) sessions
entries-shown [] = refl
entries-shown {B} (s ∷ sessions) =
    let rest = entries-shown sessions in
    let its = sum_by-cons (λ (t : SessionView (SessionView B)). length t.owned.entries) (shown s) (map shown sessions) in
    let one = sum_by-cons (λ (t : SessionView B). length t.owned.entries) s sessions in
    omega (arith, rest, its, one)

strong-shown : {B : Type 0} (sessions : List (SessionView B))
    → strong_owned (λ (s : SessionView (SessionView B)). s.owned.entries) (map shown sessions) ≡ strong_owned (λ (s : SessionView B). s.owned.entries) sessions
strong-shown [] = refl
strong-shown {B} (s ∷ sessions) =
    let rest = strong-shown sessions in
    let its = sum_by-cons (λ (t : SessionView (SessionView B)). length (filter (λ entry. is_strong_on entry.tag entry.mode) t.owned.entries)) (shown s) (map shown sessions) in
    let one = sum_by-cons (λ (t : SessionView B). length (filter (λ entry. is_strong_on entry.tag entry.mode) t.owned.entries)) s sessions in
    omega (arith, rest, its, one)

-- what a board shows, of the session whose it is
abbrev of_board : {B X : Type 0} → (B → X) → SessionView B → X
of_board shows session = shows session.board

module _ {B : Type 0} (seat : B → Seated) (view : B → Account) (stack : B → Stack) (quiet : B → List Quiet) where
  unchanged-shown : (old new : SessionView B) → IsUnchanged seat view stack quiet old new → IsUnchanged (of_board seat) (of_board view) (of_board stack) (of_board quiet) (shown old) (shown new)
  unchanged-shown old new same = record {
    seat_ = same.seat_;
    view_ = same.view_;
    stack_ = same.stack_;
    quiet_ = same.quiet_;
    database = same.database;
    uses = same.uses;
    owned = same.owned;
  }

  traced-shown : (old new : SessionView B) → HasTraced seat view stack quiet old new → HasTraced (of_board seat) (of_board view) (of_board stack) (of_board quiet) (shown old) (shown new)
  traced-shown old new traced = record {
    seat_ = traced.seat_;
    view_ = traced.view_;
    stack_ = traced.stack_;
    quiet_ = traced.quiet_;
    database = traced.database;
    uses = traced.uses;
    owned = traced.owned;
  }

  zip-shown : (old new : List (SessionView B)) → AllZip (IsUnchanged seat view stack quiet) old new → AllZip (IsUnchanged (of_board seat) (of_board view) (of_board stack) (of_board quiet)) (map shown old) (map shown new)
  zip-shown [] [] same = tt
  zip-shown [] (t ∷ new) same = absurd same
  zip-shown (s ∷ old) [] same = absurd same
  zip-shown (s ∷ old) (t ∷ new) same = (unchanged-shown s t same.0, zip-shown old new same.1)

  pub audits-shown : {E : Type 0} (limit groups : ℕ) (old new : List (SessionView B)) (result : Result Audit E) → Audits seat view stack quiet limit groups old new result
      → Audits (of_board seat) (of_board view) (of_board stack) (of_board quiet) limit groups (map shown old) (map shown new) result
  audits-shown limit groups [] new result audits = (ap (map shown) audits.0, audits.1)
  audits-shown limit groups (s ∷ others) new result audits = record {
    first_after = shown audits.first_after;
    others_after = map shown audits.others_after;
    sessions = ap (map shown) audits.sessions;
    traced = traced-shown s audits.first_after audits.traced;
    unchanged = zip-shown others audits.others_after audits.unchanged;
    counts = audits.counts;
    holds = counts-as result (λ audit. audit.fast + audit.table) _ _ (entries-shown (s ∷ others)) audits.holds;
    strong = counts-as result (λ audit. audit.strong) _ _ (strong-shown (s ∷ others)) audits.strong;
  }
