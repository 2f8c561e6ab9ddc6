use Rattle.std.proofs.Common.{◌≡◌, ℕ, Bool, true, false, ◌||◌, ◌&&◌, List, [], ◌∷◌, ◌++◌, take, Option, Some, None, sym, ap, subst, ◌∙◌}
use Rattle.std.specs.Prelude.{slice_get, is_some, option_map, IfSome}
use Rattle.std.specs.List.{list_any}
use Rattle.std.proofs.lemmas.List.{take_all}
use Rattle.std.proofs.lemmas.List.Folds.{list_any-append}
use Rattle.modes_core.specs.declared.modes.Mode.{Mode}
use Rattle.modes_core.specs.declared.modes.Mode.TheVariants.{AccessShare, RowShare, RowExclusive, ShareUpdateExclusive, Share, ShareRowExclusive, Exclusive, AccessExclusive}
use Rattle.modes_core.specs.Mode.{mode_eq}
use Rattle.modes_core.specs.ModeSet.{all_modes}
use Rattle.modes_core.specs.Conflict.{conflict}
use Rattle.modes_core.proofs.Lemmas.Conflicts.{conflict_comm}
use Rattle.modes_core.specs.declared.tags.Tag.{Tag}
use Rattle.lock_table.specs.Content.{Wait, Content}
use Rattle.lock_table.proofs.Lemmas.Find.{or-false, or-comm, same_any, either_of, find-at, find-none, all-before, is_some-find, is_some-option_map}
use Rattle.lock_table.specs.declared.waits.Waiter.{Waiter}
use Rattle.lock_table.specs.Waiter.{shown_wait}
use Rattle.lock_table.specs.Clash.{NoConflictingHolder, first_waiter, ClashAfterWaiters, ClashIs}
use Rattle.lock_table.specs.Queue.{conflicts_with_some, some_awaits_conflict}
use Rattle.lock_table.specs.Walk.{StandFor, NoneAgainst, WalksUntil}
use Rattle.lock_table.specs.declared.answering.walk.Walk.{Walk}

-- A test of one mode and another test, over all modes.
one_of : (test : Mode → Bool) (mode : Mode) → list_any (λ other. mode_eq other mode && test other) all_modes ≡ test mode
one_of test AccessShare = or-false (test AccessShare)
one_of test RowShare = or-false (test RowShare)
one_of test RowExclusive = or-false (test RowExclusive)
one_of test ShareUpdateExclusive = or-false (test ShareUpdateExclusive)
one_of test Share = or-false (test Share)
one_of test ShareRowExclusive = or-false (test ShareRowExclusive)
one_of test Exclusive = or-false (test Exclusive)
one_of test AccessExclusive = or-false (test AccessExclusive)

-- The set of no mode stands for no wait; and with one mode more for one wait more.
pub StandFor-none : (set : Mode → Bool) → set ≡ (λ _. false) → StandFor set []
StandFor-none set none mode = ap (conflicts_with_some mode) none

pub StandFor-more : (set more : Mode → Bool) (waits : List Wait) (wait : Wait) →
    StandFor set waits → more ≡ (λ other. mode_eq other wait.mode || set other) → StandFor more (waits ++ wait ∷ [])
StandFor-more set more waits wait stands is mode =
    ap (conflicts_with_some mode) is ∙
    either_of (λ other. mode_eq other wait.mode) set (conflict mode) all_modes ∙
    ap (λ b. b || conflicts_with_some mode set) (one_of (conflict mode) wait.mode) ∙
    ap (λ b. conflict mode wait.mode || b) (stands mode) ∙
    or-comm (conflict mode wait.mode) (some_awaits_conflict waits mode) ∙
    sym (list_any-append (λ w. conflict mode w.mode) waits (wait ∷ []) ∙ ap (λ b. some_awaits_conflict waits mode || b) (or-false (conflict mode wait.mode)))

-- To conflict with one mode is to conflict with some of the set of that mode.
pub conflicts-one : (mode other : Mode) (set : Mode → Bool) → set ≡ (λ o. mode_eq o mode || false) → conflicts_with_some other set ≡ conflict mode other
conflicts-one mode other set is =
    ap (conflicts_with_some other) is ∙
    either_of (λ o. mode_eq o mode) (λ o. false) (conflict other) all_modes ∙
    ap (λ b. b || false) (one_of (conflict other) mode) ∙ or-false (conflict other mode) ∙ conflict_comm other mode

-- Waiters who are not against a mode alone await no mode in conflict with it.
pub NoneAgainst-one : (mode : Mode) (set : Mode → Bool) (waits : List Wait) → set ≡ (λ o. mode_eq o mode || false) → NoneAgainst set waits → some_awaits_conflict waits mode ≡ false
NoneAgainst-one mode set waits is none = same_any (λ w. conflict mode w.mode) (λ w. conflicts_with_some w.mode set) waits (λ w. sym (conflicts-one mode w.mode set is)) ∙ none

-- The waiter that a walk met is the first in conflict with the mode that it was against.
pub first-met : (mode : Mode) (set : Mode → Bool) (queue : List Wait) (walk : Walk) → set ≡ (λ o. mode_eq o mode || false) → WalksUntil set queue walk → option_map shown_wait walk.met ≡ first_waiter queue mode
first-met mode set queue walk is walks = at walk.met walks.met walks.against where
  at : (met : Option Waiter) → option_map shown_wait met ≡ slice_get queue walk.place → IfSome met (λ waiter. conflicts_with_some waiter.mode set ≡ true)
      → option_map shown_wait met ≡ first_waiter queue mode
  at None met against =
      let all : take walk.place queue ≡ queue = take_all walk.place queue (all-before queue walk.place (sym met)) in
      sym (find-none (λ w. conflict mode w.mode) queue (NoneAgainst-one mode set queue is (subst (λ (waits : List Wait). NoneAgainst set waits) all walks.passed)))
  at (Some waiter) met against =
      sym (find-at (λ w. conflict mode w.mode) queue walk.place (shown_wait waiter) (NoneAgainst-one mode set (take walk.place queue) is walks.passed)
      (sym met) (sym (conflicts-one mode waiter.mode set is) ∙ against))

-- Somebody awaits a mode in conflict exactly where there is a first one who does.
pub awaited-first : (mode : Mode) (queue : List Wait) (found : Option Waiter) → option_map shown_wait found ≡ first_waiter queue mode → is_some found ≡ some_awaits_conflict queue mode
awaited-first mode queue found is = sym (is_some-option_map shown_wait found) ∙ ap is_some is ∙ is_some-find (λ w. conflict mode w.mode) queue

-- Where nobody awaits a mode in conflict and nobody else holds one, a request clashes with nothing.
pub clashes-nothing : (content : Content) (session : ℕ) (tag : Tag) (mode : Mode) → some_awaits_conflict (content.waits tag) mode ≡ false → NoConflictingHolder content.holds session tag mode → ClashIs content session tag mode None
clashes-nothing content session tag mode none nobody =
    subst (λ first. ClashAfterWaiters first content session tag mode None) (sym (find-none (λ (wait : Wait). conflict mode wait.mode) (content.waits tag) none)) nobody
