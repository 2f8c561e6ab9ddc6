use Rattle.std.proofs.Common.{◌≡◌, ◌⊎◌, ℕ, Bool, true, false, ◌||◌, ◌&&◌, List, [], ◌∷◌, ◌++◌, Option, Some, None, refl, sym, ap, ◌∙◌, subst, inl, inr}
use Rattle.std.specs.Prelude.{length}
use Rattle.std.specs.List.{list_any}
use Rattle.std.proofs.lemmas.Bool.{cases_Bool, or_cases, or_right, or_from, and_right}
use Rattle.modes_core.specs.declared.modes.Mode.{Mode}
use Rattle.modes_core.specs.declared.tags.Tag.{Tag}
use Rattle.modes_core.specs.ModeSet.{all_modes}
use Rattle.modes_core.specs.Conflict.{conflict}
use Rattle.lock_table.specs.declared.answering.Clash.{Clash}
use Rattle.lock_table.specs.declared.answering.Answer.{Answer}
use Rattle.lock_table.specs.declared.answering.Answer.TheVariants.{Granted, Queued, SimpleDeadlock}
use Rattle.lock_table.specs.Content.{Holds, Wait, Content, set_hold}
use Rattle.lock_table.specs.Clash.{NoConflictingHolder, IsConflictingHolder, ClashIs, ClashAfterWaiters, first_waiter}
use Rattle.lock_table.specs.Queue.{conflicts_with_some, IsFree, IsFirstAgainst, AnswerAtWaiter, AnswerByPlace, WaitingAnswer, WaitingAnswerAt, SplitsBehind, hold_all}
use Rattle.lock_table.proofs.Lemmas.Holds.{SetHoldAt, here, elsewhere, set_hold-at}
use Rattle.lock_table.proofs.Lemmas.Find.{same_any}

-- One object in two lists of holds: the second has on it what the first has, and some more, which is in
-- nobody's way.

-- what the second has more on the object
abbrev pub More : Type 0
More = ℕ → Mode → Bool

abbrev pub Over : More → Tag → Holds → Holds → Type 0
Over e t h g = (k : ℕ) (n : Mode) → g k t n ≡ (e k n || h k t n)

-- Nothing that the second has more conflicts with the mode.
abbrev pub Beside : More → Mode → Type 0
Beside e m = (k : ℕ) (n : Mode) → e k n ≡ true → conflict m n ≡ false

-- Nor with a mode that is awaited in the queue.
abbrev pub BesideAll : More → List Wait → Type 0
BesideAll e [] = Unit {0}
BesideAll e (wait ∷ queue) = Beside e wait.mode × BesideAll e queue

pub BesideAll-ahead : (e : More) (ahead : List Wait) (w : Wait) (behind : List Wait) → BesideAll e (ahead ++ w ∷ behind) → BesideAll e ahead × Beside e w.mode
BesideAll-ahead e [] w behind all = (tt, all.0)
BesideAll-ahead e (v ∷ ahead) w behind all = let rest = BesideAll-ahead e ahead w behind all.1 in ((all.0, rest.0), rest.1)

-- One hold set or cleared in both.
pub Over-set : (e : More) (t : Tag) (h g : Holds) (s : ℕ) (m : Mode) → Over e t h g → Over e t (set_hold h s t m true) (set_hold g s t m true)
Over-set e t h g s m over k n = at (set_hold-at h s t m true k t n) (set_hold-at g s t m true k t n) where
  at : SetHoldAt h s t m true k t n → SetHoldAt g s t m true k t n → set_hold g s t m true k t n ≡ (e k n || set_hold h s t m true k t n)
  at (here it x) (here _ y) = y ∙ sym (or_right (e k n) (set_hold h s t m true k t n) x)
  at (here it x) (elsewhere not_it y) = absurd (not_it it)
  at (elsewhere not_it x) (here it y) = absurd (not_it it)
  at (elsewhere _ x) (elsewhere _ y) = y ∙ over k n ∙ ap (λ b. e k n || b) (sym x)

pub Over-clear : (e : More) (t : Tag) (h g : Holds) (s : ℕ) (m : Mode) → e s m ≡ false → Over e t h g → Over e t (set_hold h s t m false) (set_hold g s t m false)
Over-clear e t h g s m none over k n = at (set_hold-at h s t m false k t n) (set_hold-at g s t m false k t n) where
  at : SetHoldAt h s t m false k t n → SetHoldAt g s t m false k t n → set_hold g s t m false k t n ≡ (e k n || set_hold h s t m false k t n)
  at (here it x) (here _ y) = y ∙ sym (or_from (e k n) (set_hold h s t m false k t n) ((λ i. e (it.session i) (it.mode i)) ∙ none) x)
  at (here it x) (elsewhere not_it y) = absurd (not_it it)
  at (elsewhere not_it x) (here it y) = absurd (not_it it)
  at (elsewhere _ x) (elsewhere _ y) = y ∙ over k n ∙ ap (λ b. e k n || b) (sym x)

pub Over-all : (e : More) (t : Tag) (granted : List Wait) (h g : Holds) → Over e t h g → Over e t (hold_all h t granted) (hold_all g t granted)
Over-all e t [] h g over = over
Over-all e t (w ∷ granted) h g over = Over-all e t granted (set_hold h w.session t w.mode true) (set_hold g w.session t w.mode true) (Over-set e t h g w.session w.mode over)

-- A holder in the way is in the way in both.
pub NoConflictingHolder-over : (e : More) (t : Tag) (h g : Holds) (s : ℕ) (m : Mode) → Over e t h g → Beside e m → NoConflictingHolder h s t m → NoConflictingHolder g s t m
NoConflictingHolder-over e t h g s m over beside free k n other has =
    elim (or_cases (e k n) (h k t n) (sym (over k n) ∙ has)) [
      | inl more ↦ beside k n more
      | inr old ↦ free k n other old
    ]

pub NoConflictingHolder-under : (e : More) (t : Tag) (h g : Holds) (s : ℕ) (m : Mode) → Over e t h g → NoConflictingHolder g s t m → NoConflictingHolder h s t m
NoConflictingHolder-under e t h g s m over free k n other has = free k n other (over k n ∙ or_right (e k n) (h k t n) has)

pub IsConflictingHolder-over :
    (e : More) (t : Tag) (h g : Holds) (s : ℕ) (m : Mode) (other : ℕ) (its : Mode) → Over e t h g → Beside e m
    → IsConflictingHolder h s t m other its → IsConflictingHolder g s t m other its
IsConflictingHolder-over e t h g s m other its over beside is = record {
  another = is.another;
  holding = over other its ∙ or_right (e other its) (h other t its) is.holding;
  conflicting = is.conflicting;
  lowest_session = λ k n lower another has. elim (or_cases (e k n) (h k t n) (sym (over k n) ∙ has)) [
    | inl more ↦ beside k n more
    | inr old ↦ is.lowest_session k n lower another old
  ];
  lowest_mode = λ n lower has. elim (or_cases (e other n) (h other t n) (sym (over other n) ∙ has)) [
    | inl more ↦ beside other n more
    | inr old ↦ is.lowest_mode n lower old
  ];
}

pub IsFree-over : (e : More) (t : Tag) (h g : Holds) (s : ℕ) (m : Mode) (ahead : List Wait) → Over e t h g → Beside e m → IsFree h s t m ahead → IsFree g s t m ahead
IsFree-over e t h g s m ahead over beside free = record {
  beside_holders = NoConflictingHolder-over e t h g s m over beside free.beside_holders;
  behind_waiters = free.behind_waiters;
}

pub IsFree-under : (e : More) (t : Tag) (h g : Holds) (s : ℕ) (m : Mode) (ahead : List Wait) → Over e t h g → IsFree g s t m ahead → IsFree h s t m ahead
IsFree-under e t h g s m ahead over free = record {
  beside_holders = NoConflictingHolder-under e t h g s m over free.beside_holders;
  behind_waiters = free.behind_waiters;
}

-- So a wakeup grants the same waits in both.
pub SplitsBehind-over :
    (e : More) (t : Tag) (ahead : List Wait) (h g : Holds) (queue granted left : List Wait) → Over e t h g → BesideAll e queue
    → SplitsBehind ahead h t queue granted left → SplitsBehind ahead g t queue granted left
SplitsBehind-over e t ahead h g [] granted left over all split = split
SplitsBehind-over e t ahead h g (w ∷ queue) granted left over all (inl split) = inl (
  IsFree-over e t h g w.session w.mode ahead over all.0 split.0,
  (
    split.1.0,
    split.1.1,
    SplitsBehind-over e t ahead (set_hold h w.session t w.mode true) (set_hold g w.session t w.mode true) queue split.1.0 left
        (Over-set e t h g w.session w.mode over) all.1 split.1.2,
  ),
)
SplitsBehind-over e t ahead h g (w ∷ queue) granted left over all (inr split) = inr (
  λ free. split.0 (IsFree-under e t h g w.session w.mode ahead over free),
  (split.1.0, split.1.1, SplitsBehind-over e t (ahead ++ w ∷ []) h g queue granted split.1.0 over all.1 split.1.2),
)

-- A mode conflicts with a mode that the session has in the one exactly where it does in the other.
pub conflicts-over : (e : More) (t : Tag) (h g : Holds) (s : ℕ) (m : Mode) → Over e t h g → Beside e m → conflicts_with_some m (g s t) ≡ conflicts_with_some m (h s t)
conflicts-over e t h g s m over beside = same_any (λ n. g s t n && conflict m n) (λ n. h s t n && conflict m n) all_modes at where
  at : (n : Mode) → (g s t n && conflict m n) ≡ (h s t n && conflict m n)
  at n =
      elim (cases_Bool (e s n)) [
        | inl more ↦ and_right (g s t n) (conflict m n) (beside s n more) ∙ sym (and_right (h s t n) (conflict m n) (beside s n more))
        | inr none ↦ ap (λ b. b && conflict m n) (over s n ∙ ap (λ b. b || h s t n) none)
      ]

any-over : (e : More) (t : Tag) (h g : Holds) (s : ℕ) (queue : List Wait) → Over e t h g → BesideAll e queue
    → list_any (λ wait. conflicts_with_some wait.mode (g s t)) queue ≡ list_any (λ wait. conflicts_with_some wait.mode (h s t)) queue
any-over e t h g s [] over all = refl
any-over e t h g s (w ∷ queue) over all =
    ap (λ b. b || list_any (λ wait. conflicts_with_some wait.mode (g s t)) queue) (conflicts-over e t h g s w.mode over all.0)
    ∙ ap (λ b. conflicts_with_some w.mode (h s t) || b) (any-over e t h g s queue over all.1)

first-over : (e : More) (t : Tag) (h g : Holds) (s : ℕ) (queue ahead : List Wait) (w : Wait) (behind : List Wait) → Over e t h g → BesideAll e queue
    → IsFirstAgainst (h s t) queue ahead w behind → IsFirstAgainst (g s t) queue ahead w behind
first-over e t h g s queue ahead w behind over all is =
    let parts = BesideAll-ahead e ahead w behind (subst (BesideAll e) is.parts all) in
    record {
      parts = is.parts;
      passed = any-over e t h g s ahead over parts.0 ∙ is.passed;
      met = conflicts-over e t h g s w.mode over parts.1 ∙ is.met;
    }

at_waiter-over : (e : More) (t : Tag) (h g : Holds) (s : ℕ) (m : Mode) (ahead : List Wait) (w : Wait) (answer : Answer) → Over e t h g → Beside e m
    → AnswerAtWaiter h s t m ahead w answer → AnswerAtWaiter g s t m ahead w answer
at_waiter-over e t h g s m ahead w (SimpleDeadlock k) over beside is = is
at_waiter-over e t h g s m ahead w Granted over beside is = (is.0, IsFree-over e t h g s m ahead over beside is.1)
at_waiter-over e t h g s m ahead w (Queued place) over beside is = (is.0, λ free. is.1 (IsFree-under e t h g s m ahead over free), is.2)

-- What is asked of two contents, with one queue of the object in both.
module _ (e : More) (t : Tag) (c d : Content) (over : Over e t c.holds d.holds) (same : d.waits t ≡ c.waits t) where
  after_waiters-over : (first : Option Wait) (s : ℕ) (m : Mode) (clash : Option Clash) → Beside e m → ClashAfterWaiters first c s t m clash → ClashAfterWaiters first d s t m clash
  after_waiters-over (Some w) s m clash beside is = is
  after_waiters-over None s m None beside is = NoConflictingHolder-over e t c.holds d.holds s m over beside is
  after_waiters-over None s m (Some clash) beside is = (IsConflictingHolder-over e t c.holds d.holds s m clash.session clash.mode over beside is.0, is.1)

  -- A request clashes with the same in both,
  pub ClashIs-over : (s : ℕ) (m : Mode) (clash : Option Clash) → Beside e m → ClashIs c s t m clash → ClashIs d s t m clash
  ClashIs-over s m clash beside is =
      after_waiters-over (first_waiter (d.waits t) m) s m clash beside (subst (λ q. ClashAfterWaiters (first_waiter q m) c s t m clash) (sym same) is)

  by_place-over : (s : ℕ) (m : Mode) (answer : Answer) → Beside e m → BesideAll e (c.waits t) → AnswerByPlace c s t m answer → AnswerByPlace d s t m answer
  by_place-over s m answer beside all (inl none) =
      subst (λ q. ((list_any (λ wait. conflicts_with_some wait.mode (d.holds s t)) q ≡ false) × (answer ≡ Queued (length q))) ⊎ ((ahead : List Wait) × (waiter : Wait) × (behind : List Wait) × IsFirstAgainst (d.holds s t) q ahead waiter behind × AnswerAtWaiter d.holds s t m ahead waiter answer))
      (sym same) (inl (any-over e t c.holds d.holds s (c.waits t) over all ∙ none.0, none.1))
  by_place-over s m answer beside all (inr first) = inr (
    first.0,
    first.1,
    first.2,
    subst (λ q. IsFirstAgainst (d.holds s t) q first.0 first.1 first.2) (sym same) (first-over e t c.holds d.holds s (c.waits t) first.0 first.1 first.2 over all first.3),
    at_waiter-over e t c.holds d.holds s m first.0 first.1 answer over beside first.4,
  )

  at-over : (clash : Option Clash) (s : ℕ) (m : Mode) (answer : Answer) → Beside e m → BesideAll e (c.waits t) → WaitingAnswerAt clash c s t m answer → WaitingAnswerAt clash d s t m answer
  at-over None s m answer beside all is = is
  at-over (Some clash) s m answer beside all is = by_place-over s m answer beside all is

  -- and is answered the same.
  pub WaitingAnswer-over : (s : ℕ) (m : Mode) (answer : Answer) → Beside e m → BesideAll e (c.waits t) → WaitingAnswer c s t m answer → WaitingAnswer d s t m answer
  WaitingAnswer-over s m answer beside all is = (is.0, ClashIs-over s m is.0 beside is.1, at-over is.0 s m answer beside all is.2)
