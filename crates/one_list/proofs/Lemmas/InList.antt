use Rattle.std.proofs.Common.{◌≡◌, ℕ, Bool, true, false, not, ◌||◌, List, [], ◌∷◌, refl, sym, ap, ◌∙◌, subst, inl, inr}
use Rattle.std.specs.Prelude.{filter, ◌==◌}
use Rattle.std.specs.Bool.{MatchBool}
use Rattle.std.proofs.lemmas.Bool.{cases_Bool, cases_eq, or_right, cond-true, cond-false, MatchBool-at_true, MatchBool-at_false}
use Rattle.modes_core.specs.declared.modes.Mode.{Mode}
use Rattle.modes_core.specs.declared.tags.Tag.{Tag}
use Rattle.modes_core.specs.Tag.{tag_eq, partition_of}
use Rattle.modes_core.proofs.Lemmas.Conflicts.{tag_eq-refl, tag_eq-same}
use Rattle.lock_table.specs.declared.moves.Move.TheVariants.{Grant, Join, Release, Leave}
use Rattle.lock_table.specs.declared.answering.Answer.TheVariants.{Granted, Queued}
use Rattle.lock_table.specs.Put.{put, set_at}
use Rattle.lock_table.specs.Content.{Holds, Wait, Content, set_hold, add_hold, remove_hold}
use Rattle.lock_table.specs.Queue.{some_awaits_conflict, SplitsBehind, hold_all, Wakes, with_queue, joined, joining_wait, remove_wait, queue_without}
use Rattle.lock_table.specs.Moves.{Moves, WakesFor}
use Rattle.lock_table.proofs.Lemmas.Put.{put_here, put_else, set_at-here, set_at-else}
use Rattle.lock_world.proofs.Lemmas.Moves.Agreeing.{ChangesOnly, ChangesOnly-set, ChangesOnly-both, ChangesOnly-wakes}
use Rattle.one_list.specs.OneList.{Remembers, JoinsQueue}
use Rattle.one_list.proofs.Lemmas.Over.{More, Over, Beside, BesideAll, Over-set, Over-clear, Over-all, SplitsBehind-over, WaitingAnswer-over}

-- A move on a partition's content is the same move on the list of all slots and contents.

-- A queue that another one is put in place of changes the content on its object alone.
pub only-queue : (c : Content) (t : Tag) (queue : List Wait) → ChangesOnly c (with_queue c t queue) t
only-queue c t queue = record { holds = λ k o n other. refl; waits = λ o other. put_else tag_eq c.waits t queue o other }

pub only-hold : (c : Content) (s : ℕ) (t : Tag) (m : Mode) (there : Bool) → ChangesOnly c (record { holds = set_hold c.holds s t m there; waits = c.waits }) t
only-hold c s t m there = ChangesOnly-set c (record { holds = set_hold c.holds s t m there; waits = c.waits }) s t m there refl refl

pub put-on : (waits : Tag → List Wait) (t : Tag) (queue : List Wait) → put tag_eq waits t queue t ≡ queue
put-on waits t queue = put_here tag_eq waits t queue t (tag_eq-refl t)

BesideAll-filter : (e : More) (p : Wait → Bool) (queue : List Wait) → BesideAll e queue → BesideAll e (filter p queue)
BesideAll-filter e p [] all = tt
BesideAll-filter e p (w ∷ queue) all =
    elim (cases_Bool (p w)) [
      | inl passes ↦ subst (BesideAll e) (sym (cond-true (p w) (w ∷ filter p queue) (filter p queue) passes)) (all.0, BesideAll-filter e p queue all.1)
      | inr fails ↦ subst (BesideAll e) (sym (cond-false (p w) (w ∷ filter p queue) (filter p queue) fails)) (BesideAll-filter e p queue all.1)
    ]

-- the list of these slots and contents
abbrev pub list : Holds → (ℕ → Content) → Content
list slots now = record {
  holds = λ s o m. slots s o m || (now (partition_of o)).holds s o m;
  waits = λ o. (now (partition_of o)).waits o;
}

module _ (slots : Holds) (now : ℕ → Content) (t : Tag) where
  abbrev e : More
  e = λ k n. slots k t n

  abbrev c : Content
  c = now (partition_of t)

  abbrev before : Content
  before = list slots now

  abbrev after : Content → Content
  after c' = list slots (set_at now (partition_of t) c')

  -- A content changed on the object changes the list on it, and nowhere else.
  pub same-list : (c' x : Content) → ChangesOnly c c' t → ChangesOnly before x t → Over e t c'.holds x.holds → x.waits t ≡ c'.waits t → after c' ≡ x
  same-list c' x mine its over queue = λ i. record { holds = λ k o n. holds k o n i; waits = λ o. waits o i } where
    at_home : (o : Tag) → o ≡ t → set_at now (partition_of t) c' (partition_of o) ≡ c'
    at_home o same = set_at-here now (partition_of t) c' (partition_of o) (ap partition_of same)

    -- on another object all is as it was, in whichever partition that is
    off : {A : Type 0} (read : Content → A) (o : Tag) → read c' ≡ read c → read (set_at now (partition_of t) c' (partition_of o)) ≡ read (now (partition_of o))
    off read o alike =
        elim (cases_eq (partition_of o) (partition_of t)) [
          | inl same ↦ ap read (set_at-here now (partition_of t) c' (partition_of o) same) ∙ alike ∙ ap (λ p. read (now p)) (sym same)
          | inr other ↦ ap read (set_at-else now (partition_of t) c' (partition_of o) other)
        ]

    holds : (k : ℕ) (o : Tag) (n : Mode) → (after c').holds k o n ≡ x.holds k o n
    holds k o n =
        elim (cases_Bool (tag_eq o t)) [
          | inl is ↦ let same : o ≡ t = tag_eq-same o t is in
              ap (λ (d : Content). slots k o n || d.holds k o n) (at_home o same)
              ∙ ap (λ y. slots k y n || c'.holds k y n) same ∙ sym (over k n) ∙ ap (λ y. x.holds k y n) (sym same)
          | inr differs ↦ ap (λ b. slots k o n || b) (off (λ (d : Content). d.holds k o n) o (mine.holds k o n differs)) ∙ sym (its.holds k o n differs)
        ]

    waits : (o : Tag) → (after c').waits o ≡ x.waits o
    waits o =
        elim (cases_Bool (tag_eq o t)) [
          | inl is ↦ let same : o ≡ t = tag_eq-same o t is in
              ap (λ (d : Content). d.waits o) (at_home o same) ∙ ap (λ y. c'.waits y) same ∙ sym queue ∙ ap (λ y. x.waits y) (sym same)
          | inr differs ↦ off (λ (d : Content). d.waits o) o (mine.waits o differs) ∙ sym (its.waits o differs)
        ]

  over : Over e t c.holds before.holds
  over k n = refl

  -- A grant.
  pub granting : (s : ℕ) (m : Mode) (granted : List Wait) (c' : Content) → Beside e m → BesideAll e (c.waits t) → Moves c s (Grant t m) granted c'
      → Moves before s (Grant t m) granted (after c')
  granting s m granted c' beside all is = (
    WaitingAnswer-over e t c before over refl s m Granted beside all is.0,
    is.1,
    ap after is.2 ∙ same-list (add_hold c s t m) (add_hold before s t m) (only-hold c s t m true) (only-hold before s t m true) (Over-set e t c.holds before.holds s m over) refl,
  )

  -- A join.
  pub joining : (s : ℕ) (m : Mode) (granted : List Wait) (c' : Content) → Beside e m → BesideAll e (c.waits t) → Remembers before s t m (c.holds s t) → Moves c s (Join t m) granted c'
      → (granted ≡ []) × JoinsQueue before s t m (after c')
  joining s m granted c' beside all remembers is = (
    is.2,
    record {
      place = is.0;
      held = c.holds s t;
      answered = WaitingAnswer-over e t c before over refl s m (Queued is.0) beside all is.1;
      remembers = remembers;
      stands = ap after is.3 ∙ same-list (with_queue c t queue) (with_queue before t queue) (only-queue c t queue) (only-queue before t queue) over
          (put-on before.waits t queue ∙ sym (put-on c.waits t queue));
    },
  ) where
    queue : List Wait
    queue = joined is.0 (joining_wait c s t m) (c.waits t)

  -- A wakeup, after a change of the object in the content and in the list.
  waking : (c0 l0 : Content) (granted : List Wait) (c' : Content) → ChangesOnly c c0 t → ChangesOnly before l0 t → Over e t c0.holds l0.holds → l0.waits t ≡ c0.waits t → BesideAll e (c0.waits t)
      → Wakes c0 t granted c' → Wakes l0 t granted (after c')
  waking c0 l0 granted c' mine its over0 queue all is = subst (Wakes l0 t granted) (sym same) wakes where
    woken : Content
    woken = record { holds = hold_all l0.holds t granted; waits = put tag_eq l0.waits t is.left }

    wakes : Wakes l0 t granted woken
    wakes = record {
      left = is.left;
      split = subst (λ q. SplitsBehind [] l0.holds t q granted is.left) (sym queue) (SplitsBehind-over e t [] c0.holds l0.holds (c0.waits t) granted is.left over0 all is.split);
      holds = refl;
      waits = refl;
    }

    same : after c' ≡ woken
    same = same-list c' woken (ChangesOnly-both c c0 c' t mine (ChangesOnly-wakes c0 c' t granted is)) (ChangesOnly-both before l0 woken t its (ChangesOnly-wakes l0 woken t granted wakes))
        (subst (λ holds. Over e t holds woken.holds) (sym is.holds) (Over-all e t granted c0.holds l0.holds over0))
        (put-on l0.waits t is.left ∙ sym (ap (λ (waits : Tag → List Wait). waits t) is.waits ∙ put-on c0.waits t is.left))

  -- A release.
  pub releasing : (s : ℕ) (m : Mode) (granted : List Wait) (c' : Content) → e s m ≡ false → BesideAll e (c.waits t) → Moves c s (Release t m) granted c'
      → Moves before s (Release t m) granted (after c')
  releasing s m granted c' none all is = (or_right (e s m) (c.holds s t m) is.0, wakes) where
    over0 : Over e t (set_hold c.holds s t m false) (set_hold before.holds s t m false)
    over0 = Over-clear e t c.holds before.holds s m none over

    mine : ChangesOnly c (remove_hold c s t m) t
    mine = only-hold c s t m false

    its : ChangesOnly before (remove_hold before s t m) t
    its = only-hold before s t m false

    wakes : WakesFor m (remove_hold before s t m) t granted (after c')
    wakes =
        elim (cases_Bool (some_awaits_conflict (c.waits t) m)) [
          | inl some ↦ subst (λ b. MatchBool b (Wakes (remove_hold before s t m) t granted (after c')) ((granted ≡ []) × (after c' ≡ remove_hold before s t m))) (sym some)
              (waking (remove_hold c s t m) (remove_hold before s t m) granted c' mine its over0 refl all
              (MatchBool-at_true (Wakes (remove_hold c s t m) t granted c') ((granted ≡ []) × (c' ≡ remove_hold c s t m)) some is.1))
          | inr nobody ↦ subst (λ b. MatchBool b (Wakes (remove_hold before s t m) t granted (after c')) ((granted ≡ []) × (after c' ≡ remove_hold before s t m))) (sym nobody)
              (let alone = MatchBool-at_false (Wakes (remove_hold c s t m) t granted c') ((granted ≡ []) × (c' ≡ remove_hold c s t m)) nobody is.1 in
              (alone.0, ap after alone.1 ∙ same-list (remove_hold c s t m) (remove_hold before s t m) mine its over0 refl))
        ]

  -- A leave.
  pub leaving : (s : ℕ) (granted : List Wait) (c' : Content) → BesideAll e (c.waits t) → Moves c s (Leave t) granted c' → Moves before s (Leave t) granted (after c')
  leaving s granted c' all is = (
    is.0,
    waking (remove_wait c s t) (remove_wait before s t) granted c' (only-queue c t (queue_without (c.waits t) s)) (only-queue before t (queue_without (c.waits t) s)) over refl
        (subst (BesideAll e) (sym (put-on c.waits t (queue_without (c.waits t) s))) (BesideAll-filter e (λ wait. not (wait.session == s)) (c.waits t) all)) is.1,
  )
