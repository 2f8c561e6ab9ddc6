use Rattle.std.proofs.Common.{◌≡◌, ◌≢◌, ℕ, Bool, true, false, ◌||◌, List, [], ◌∷◌, ◌++◌, length, Option, Some, None, refl, sym, ap, ◌∙◌, subst, inl, inr, append_assoc, arith}
use Rattle.std.specs.Prelude.{◌==◌, find}
use Rattle.std.specs.List.{list_any}
use Rattle.std.proofs.lemmas.Bool.{cases_Bool, both_ways, false_from_ne_true, or_parts, or_from, ne_eqb, cond-false, cond-true}
use Rattle.std.proofs.lemmas.List.{append-nil, take_all, drop_all}
use Rattle.std.proofs.Math.Seq.{take-append_seam, drop-append_seam}
use Rattle.std.proofs.lemmas.List.Folds.{list_any-append}
use Rattle.modes_core.specs.declared.modes.Mode.{Mode}
use Rattle.modes_core.specs.declared.tags.Tag.{Tag}
use Rattle.modes_core.specs.Conflict.{conflict}
use Rattle.modes_core.proofs.Lemmas.Conflicts.{conflict_comm, tag_eq-refl, tag_eq-same}
use Rattle.lock_table.specs.Content.{Holds, Wait, Content, set_hold, remove_hold}
use Rattle.lock_table.specs.declared.answering.Clash.{Clash}
use Rattle.lock_table.specs.declared.answering.Answer.TheVariants.{Queued}
use Rattle.lock_table.specs.Clash.{NoConflictingHolder, ClashIs, ClashAfterWaiters, first_waiter}
use Rattle.lock_table.specs.Queue.{IsFree, some_awaits_conflict, AnswerByPlace, joined, WaitingAnswer, WaitingAnswerAt, SplitsBehind, hold_all, Wakes, NoneFreeBehind, NoneFree, NoConflictAmong, IsSplitOf}
use Rattle.lock_table.specs.Put.{put}
use Rattle.modes_core.specs.Tag.{tag_eq}
use Rattle.lock_table.proofs.Lemmas.Put.{put_here, put_else}
use Rattle.lock_table.proofs.Lemmas.Holds.{SetHoldAt, here, elsewhere, set_hold-at, set_hold-here, set_hold-other_session}

-- More holds: each hold of the object is still there.
abbrev pub HasMore : Holds → Holds → Tag → Type 0
HasMore holds more tag = (k : ℕ) (m : Mode) → holds k tag m ≡ true → more k tag m ≡ true

pub HasMore-set : (holds : Holds) (s : ℕ) (o t : Tag) (m : Mode) → HasMore holds (set_hold holds s o m true) t
HasMore-set holds s o t m k n has = at (set_hold-at holds s o m true k t n) where
  at : SetHoldAt holds s o m true k t n → set_hold holds s o m true k t n ≡ true
  at (here it is) = is
  at (elsewhere not_it is) = is ∙ has

pub HasMore-all : (granted : List Wait) (holds : Holds) (t : Tag) → HasMore holds (hold_all holds t granted) t
HasMore-all [] holds t k m has = has
HasMore-all (w ∷ granted) holds t k m has = HasMore-all granted (set_hold holds w.session t w.mode true) t k m (HasMore-set holds w.session t t w.mode k m has)

-- What is free beside more holds is free beside fewer.
pub IsFree-fewer : (holds more : Holds) (s : ℕ) (t : Tag) (m : Mode) (ahead : List Wait) → HasMore holds more t → IsFree more s t m ahead → IsFree holds s t m ahead
IsFree-fewer holds more s t m ahead has free = record {
  beside_holders = λ k n other held. free.beside_holders k n other (has k n held);
  behind_waiters = free.behind_waiters;
}

-- More holds make nobody free.
pub NoneFreeBehind-more : (ahead : List Wait) (holds more : Holds) (t : Tag) (queue : List Wait) → HasMore holds more t → NoneFreeBehind ahead holds t queue → NoneFreeBehind ahead more t queue
NoneFreeBehind-more ahead holds more t [] has none = tt
NoneFreeBehind-more ahead holds more t (w ∷ queue) has none =
    (λ free. none.0 (IsFree-fewer holds more w.session t w.mode ahead has free), NoneFreeBehind-more (ahead ++ w ∷ []) holds more t queue has none.1)

-- After a wakeup none that is left is free.
pub left-not_free : (ahead : List Wait) (holds : Holds) (t : Tag) (queue granted left : List Wait) → SplitsBehind ahead holds t queue granted left → NoneFreeBehind ahead (hold_all holds t granted) t left
left-not_free ahead holds t [] granted left split = subst (λ l. NoneFreeBehind ahead (hold_all holds t granted) t l) (sym split.1) tt
left-not_free ahead holds t (w ∷ queue) granted left (inl goes) =
    subst (λ g. NoneFreeBehind ahead (hold_all holds t g) t left) (sym goes.1.1)
    (left-not_free ahead (set_hold holds w.session t w.mode true) t queue goes.1.0 left goes.1.2)
left-not_free ahead holds t (w ∷ queue) granted left (inr stays) =
    subst (λ l. NoneFreeBehind ahead (hold_all holds t granted) t l) (sym stays.1.1) (
      λ free. stays.0 (IsFree-fewer holds (hold_all holds t granted) w.session t w.mode ahead (HasMore-all granted holds t) free),
      left-not_free (ahead ++ w ∷ []) holds t queue granted stays.1.0 stays.1.2,
    )

-- Where none is free, a wakeup grants nobody and leaves all.
pub wakes_none : (ahead : List Wait) (holds : Holds) (t : Tag) (queue granted left : List Wait) → NoneFreeBehind ahead holds t queue → SplitsBehind ahead holds t queue granted left → (granted ≡ []) × (left ≡ queue)
wakes_none ahead holds t [] granted left none split = split
wakes_none ahead holds t (w ∷ queue) granted left none (inl goes) = absurd (none.0 goes.0)
wakes_none ahead holds t (w ∷ queue) granted left none (inr stays) =
    let rest = wakes_none (ahead ++ w ∷ []) holds t queue granted stays.1.0 none.1 stays.1.2 in
    (rest.0, stays.1.1 ∙ ap (λ others. w ∷ others) rest.1)

-- There is one way to split a queue.
pub one_split : (ahead : List Wait) (holds : Holds) (t : Tag) (queue granted left granted' left' : List Wait) → SplitsBehind ahead holds t queue granted left → SplitsBehind ahead holds t queue granted' left' → (granted ≡ granted') × (left ≡ left')
one_split ahead holds t [] granted left granted' left' one two = (one.0 ∙ sym two.0, one.1 ∙ sym two.1)
one_split ahead holds t (w ∷ queue) granted left granted' left' (inl one) (inl two) =
    let rest = one_split ahead (set_hold holds w.session t w.mode true) t queue one.1.0 left two.1.0 left' one.1.2 two.1.2 in
    (one.1.1 ∙ ap (λ others. w ∷ others) rest.0 ∙ sym two.1.1, rest.1)
one_split ahead holds t (w ∷ queue) granted left granted' left' (inr one) (inr two) =
    let rest = one_split (ahead ++ w ∷ []) holds t queue granted one.1.0 granted' two.1.0 one.1.2 two.1.2 in
    (rest.0, one.1.1 ∙ ap (λ others. w ∷ others) rest.1 ∙ sym two.1.1)
one_split ahead holds t (w ∷ queue) granted left granted' left' (inl one) (inr two) = absurd (two.0 one.0)
one_split ahead holds t (w ∷ queue) granted left granted' left' (inr one) (inl two) = absurd (one.0 two.0)

-- A hold that conflicts with no other holder makes no conflict.
pub NoConflictAmong-set : (holds : Holds) (s : ℕ) (t : Tag) (m : Mode) → NoConflictingHolder holds s t m → NoConflictAmong holds → NoConflictAmong (set_hold holds s t m true)
NoConflictAmong-set holds s t m free old k l o x y apart has its = at (set_hold-at holds s t m true k o x) (set_hold-at holds s t m true l o y) where
  at : SetHoldAt holds s t m true k o x → SetHoldAt holds s t m true l o y → conflict x y ≡ false
  at (here one is) (here other its_is) = absurd (apart (one.session ∙ sym other.session))
  at (here one is) (elsewhere not_it its_is) =
      ap (λ n. conflict n y) one.mode ∙ free l y (λ e. apart (one.session ∙ sym e)) (ap (λ t. holds l t y) (sym one.tag) ∙ sym its_is ∙ its)
  at (elsewhere not_it is) (here other its_is) =
      conflict_comm x y ∙ ap (λ n. conflict n x) other.mode ∙ free k x (λ e. apart (e ∙ sym other.session)) (ap (λ t. holds k t x) (sym other.tag) ∙ sym is ∙ has)
  at (elsewhere not_it is) (elsewhere other its_is) = old k l o x y apart (sym is ∙ has) (sym its_is ∙ its)

-- A wakeup makes no conflict.
pub wakes-no_conflict : (ahead : List Wait) (holds : Holds) (t : Tag) (queue granted left : List Wait) → SplitsBehind ahead holds t queue granted left → NoConflictAmong holds → NoConflictAmong (hold_all holds t granted)
wakes-no_conflict ahead holds t [] granted left split apart = subst (λ g. NoConflictAmong (hold_all holds t g)) (sym split.0) apart
wakes-no_conflict ahead holds t (w ∷ queue) granted left (inl goes) apart =
    subst (λ g. NoConflictAmong (hold_all holds t g)) (sym goes.1.1)
    (wakes-no_conflict ahead (set_hold holds w.session t w.mode true) t queue goes.1.0 left goes.1.2
    (NoConflictAmong-set holds w.session t w.mode goes.0.beside_holders apart))
wakes-no_conflict ahead holds t (w ∷ queue) granted left (inr stays) apart = wakes-no_conflict (ahead ++ w ∷ []) holds t queue granted stays.1.0 stays.1.2 apart

-- What these waits await, those await too.
abbrev pub AwaitsMore : List Wait → List Wait → Type 0
AwaitsMore fewer more = (m : Mode) → some_awaits_conflict fewer m ≡ true → some_awaits_conflict more m ≡ true

awaits : (waits : List Wait) (w : Wait) (m : Mode) → some_awaits_conflict (waits ++ w ∷ []) m ≡ (some_awaits_conflict waits m || (conflict m w.mode || false))
awaits waits w m = list_any-append (λ wait. conflict m wait.mode) waits (w ∷ [])

AwaitsMore-push : (fewer more : List Wait) (w : Wait) → AwaitsMore fewer more → AwaitsMore (fewer ++ w ∷ []) (more ++ w ∷ [])
AwaitsMore-push fewer more w has m some = awaits more w m ∙ either _ _ _ (has m) (sym (awaits fewer w m) ∙ some) where
  either : (a b d : Bool) → (a ≡ true → b ≡ true) → (a || d) ≡ true → (b || d) ≡ true
  either true b d up e = ap (λ x. x || d) (up refl)
  either false true d up e = refl
  either false false d up e = e

AwaitsMore-one : (waits : List Wait) (w : Wait) → AwaitsMore waits (waits ++ w ∷ [])
AwaitsMore-one waits w m some = awaits waits w m ∙ ap (λ x. x || (conflict m w.mode || false)) some

-- More waits ahead make nobody free.
pub NoneFreeBehind-ahead : (fewer more : List Wait) (holds : Holds) (t : Tag) (queue : List Wait) → AwaitsMore fewer more → NoneFreeBehind fewer holds t queue → NoneFreeBehind more holds t queue
NoneFreeBehind-ahead fewer more holds t [] has none = tt
NoneFreeBehind-ahead fewer more holds t (w ∷ queue) has none = (
  λ free. none.0 (record {
    beside_holders = free.beside_holders;
    behind_waiters = false_from_ne_true (some_awaits_conflict fewer w.mode) (λ some. both_ways (some_awaits_conflict more w.mode) free.behind_waiters (has w.mode some));
  }),
  NoneFreeBehind-ahead (fewer ++ w ∷ []) (more ++ w ∷ []) holds t queue (AwaitsMore-push fewer more w has) none.1,
)

-- A new waiter that is not free where it joins leaves none free.
pub NoneFreeBehind-join : (ahead : List Wait) (holds : Holds) (t : Tag) (front back : List Wait) (w : Wait) → NoneFreeBehind ahead holds t (front ++ back) → (IsFree holds w.session t w.mode (ahead ++ front) → ⊥) → NoneFreeBehind ahead holds t (front ++ w ∷ back)
NoneFreeBehind-join ahead holds t [] back w none not_free =
    (λ free. not_free (subst (λ waits. IsFree holds w.session t w.mode waits) (sym append_nil_is) free), NoneFreeBehind-ahead ahead (ahead ++ w ∷ []) holds t back (AwaitsMore-one ahead w) none) where
      append_nil_is : ahead ++ [] ≡ ahead
      append_nil_is = append-nil ahead
NoneFreeBehind-join ahead holds t (first ∷ front) back w none not_free = (
  none.0,
  NoneFreeBehind-join (ahead ++ first ∷ []) holds t front back w none.1
      (λ free. not_free (subst (λ waits. IsFree holds w.session t w.mode waits) (append_assoc ahead (first ∷ []) front) free)),
)

-- A hold that is gone frees nobody where no awaited mode conflicts with it.
pub NoneFreeBehind-removed : (ahead : List Wait) (holds : Holds) (s : ℕ) (t : Tag) (m : Mode) (queue : List Wait) → some_awaits_conflict queue m ≡ false → NoneFreeBehind ahead holds t queue → NoneFreeBehind ahead (set_hold holds s t m false) t queue
NoneFreeBehind-removed ahead holds s t m [] quiet none = tt
NoneFreeBehind-removed ahead holds s t m (w ∷ queue) quiet none =
    let parts = or_parts (conflict m w.mode) (some_awaits_conflict queue m) quiet in (
      λ free. none.0 (record {
        beside_holders = λ k n other held. at parts.0 free k n other held (set_hold-at holds s t m false k t n);
        behind_waiters = free.behind_waiters;
      }),
      NoneFreeBehind-removed (ahead ++ w ∷ []) holds s t m queue parts.1 none.1,
    ) where
      at : conflict m w.mode ≡ false → IsFree (set_hold holds s t m false) w.session t w.mode ahead → (k : ℕ) (n : Mode) → k ≢ w.session → holds k t n ≡ true → SetHoldAt holds s t m false k t n → conflict w.mode n ≡ false
      at calm free k n other held (here it is) = ap (conflict w.mode) it.mode ∙ conflict_comm w.mode m ∙ calm
      at calm free k n other held (elsewhere not_it is) = free.beside_holders k n other (is ∙ held)

-- A wakeup after a change of the session's own holds grants none of its own waits: what was in its way is
-- still there.
pub none_of_its_own : (before ahead : List Wait) (old holds : Holds) (s : ℕ) (t : Tag) (queue granted left : List Wait)
    → ((k : ℕ) (n : Mode) → k ≢ s → old k t n ≡ true → holds k t n ≡ true)
    → ((m : Mode) → NoConflictingHolder holds s t m → some_awaits_conflict ahead m ≡ false → some_awaits_conflict before m ≡ false)
    → NoneFreeBehind before old t queue → SplitsBehind ahead holds t queue granted left → list_any (λ w. w.session == s) granted ≡ false
none_of_its_own before ahead old holds s t [] granted left others covered none split = ap (list_any (λ w. w.session == s)) split.0
none_of_its_own before ahead old holds s t (w ∷ queue) granted left others covered none (inr stays) =
    none_of_its_own (before ++ w ∷ []) (ahead ++ w ∷ []) old holds s t queue granted stays.1.0 others
    (λ m free quiet. awaits before w m ∙ still m free (sym (awaits ahead w m) ∙ quiet)) none.1 stays.1.2 where
      still : (m : Mode) → NoConflictingHolder holds s t m → (some_awaits_conflict ahead m || (conflict m w.mode || false)) ≡ false → (some_awaits_conflict before m || (conflict m w.mode || false)) ≡ false
      still m free quiet = let parts = or_parts _ _ quiet in or_from _ _ (covered m free parts.0) parts.1
none_of_its_own before ahead old holds s t (w ∷ queue) granted left others covered none (inl goes) =
    ap (list_any (λ v. v.session == s)) goes.1.1
    ∙ or_from _ _ (ne_eqb w.session s not_its_own)
    (none_of_its_own (before ++ w ∷ []) ahead old (set_hold holds w.session t w.mode true) s t queue goes.1.0 left
    (λ k n other held. HasMore-set holds w.session t t w.mode k n (others k n other held)) more none.1 goes.1.2) where
      not_its_own : w.session ≢ s
      not_its_own same = none.0 (record {
        beside_holders = λ k n other held. goes.0.beside_holders k n other (others k n (λ e. other (e ∙ sym same)) held);
        behind_waiters = covered w.mode (subst (λ j. NoConflictingHolder holds j t w.mode) same goes.0.beside_holders) goes.0.behind_waiters;
      })

      more : (m : Mode) → NoConflictingHolder (set_hold holds w.session t w.mode true) s t m → some_awaits_conflict ahead m ≡ false → some_awaits_conflict (before ++ w ∷ []) m ≡ false
      more m free quiet =
          awaits before w m
          ∙ or_from _ _ (covered m (λ k n other held. free k n other (HasMore-set holds w.session t t w.mode k n held)) quiet)
          (or_from _ _ (free w.session w.mode not_its_own (set_hold-here holds w.session t w.mode true)) refl)

-- A wakeup splits the queue.
pub wakes-split : (ahead : List Wait) (holds : Holds) (t : Tag) (queue granted left : List Wait) → SplitsBehind ahead holds t queue granted left → IsSplitOf queue granted left
wakes-split ahead holds t [] granted left split = split
wakes-split ahead holds t (w ∷ queue) granted left (inl goes) = inl (goes.1.0, goes.1.1, wakes-split ahead (set_hold holds w.session t w.mode true) t queue goes.1.0 left goes.1.2)
wakes-split ahead holds t (w ∷ queue) granted left (inr stays) = inr (stays.1.0, stays.1.1, wakes-split (ahead ++ w ∷ []) holds t queue granted stays.1.0 stays.1.2)

-- What the object's queue is after a wakeup.
waits_after : (before : Content) (t : Tag) (granted : List Wait) (after : Content) → (wakes : Wakes before t granted after) → after.waits t ≡ wakes.left
waits_after before t granted after wakes = ap (λ f. f t) wakes.waits ∙ put_here tag_eq before.waits t wakes.left t (tag_eq-refl t)

pub woken-none_free : (before : Content) (t : Tag) (granted : List Wait) (after : Content) → Wakes before t granted after → NoneFree after t
woken-none_free before t granted after wakes =
    subst (λ h. NoneFreeBehind [] h t (after.waits t)) (sym wakes.holds)
    (subst (λ q. NoneFreeBehind [] (hold_all before.holds t granted) t q) (sym (waits_after before t granted after wakes))
    (left-not_free [] before.holds t (before.waits t) granted wakes.left wakes.split))

pub woken-no_conflict : (before : Content) (t : Tag) (granted : List Wait) (after : Content) → Wakes before t granted after → NoConflictAmong before.holds → NoConflictAmong after.holds
woken-no_conflict before t granted after wakes apart =
    subst NoConflictAmong (sym wakes.holds) (wakes-no_conflict [] before.holds t (before.waits t) granted wakes.left wakes.split apart)

-- A table put back to what it is at a tag is unchanged.
pub put_tag-same : {A : Type 0} (f : Tag → A) (t : Tag) (a : A) → a ≡ f t → put tag_eq f t a ≡ f
put_tag-same f t a e = λ i o. at o i where
  at : (o : Tag) → put tag_eq f t a o ≡ f o
  at o =
      elim (cases_Bool (tag_eq o t)) [
        | inl same ↦ put_here tag_eq f t a o same ∙ e ∙ ap f (sym (tag_eq-same o t same))
        | inr other ↦ put_else tag_eq f t a o other
      ]

-- Where none is free, a wakeup changes nothing.
pub none_free-wakes : (before : Content) (t : Tag) (granted : List Wait) (after : Content) → NoneFree before t → Wakes before t granted after → (granted ≡ []) × (after ≡ before)
none_free-wakes before t granted after none wakes =
    let same = wakes_none [] before.holds t (before.waits t) granted wakes.left none wakes.split in
    let holds : after.holds ≡ before.holds = wakes.holds ∙ ap (hold_all before.holds t) same.0 in
    let waits : after.waits ≡ before.waits = wakes.waits ∙ put_tag-same before.waits t wakes.left same.1 in
    (same.0, λ i. record { holds = holds i; waits = waits i })

-- There is one wakeup.
pub one_wakes : (before : Content) (t : Tag) (granted other : List Wait) (after its : Content) → Wakes before t granted after → Wakes before t other its → (granted ≡ other) × (after ≡ its)
one_wakes before t granted other after its one two =
    let same = one_split [] before.holds t (before.waits t) granted one.left other two.left one.split two.split in
    let holds : after.holds ≡ its.holds = one.holds ∙ ap (hold_all before.holds t) same.0 ∙ sym two.holds in
    let waits : after.waits ≡ its.waits = one.waits ∙ ap (put tag_eq before.waits t) same.1 ∙ sym two.waits in
    (same.0, λ i. record { holds = holds i; waits = waits i })

-- What a request clashes with keeps it from being free behind the whole queue.
pub clash-not_free : (found : Option Wait) (c : Content) (s : ℕ) (t : Tag) (m : Mode) (clash : Clash) → found ≡ first_waiter (c.waits t) m → ClashAfterWaiters found c s t m (Some clash) → IsFree c.holds s t m (c.waits t) → ⊥
clash-not_free None c s t m clash is in_the_way free =
    both_ways (conflict m clash.mode) (free.beside_holders clash.session clash.mode in_the_way.0.another in_the_way.0.holding) in_the_way.0.conflicting
clash-not_free (Some w) c s t m clash is e free = both_ways (some_awaits_conflict (c.waits t) m) free.behind_waiters (found_passes (c.waits t) (sym is)) where
  found_passes : (queue : List Wait) → find (λ w. conflict m w.mode) queue ≡ Some w → some_awaits_conflict queue m ≡ true
  found_passes [] none = absurd (cc)
  found_passes (v ∷ queue) some =
      elim (cases_Bool (conflict m v.mode)) [
        | inl pass ↦ ap (λ b. b || some_awaits_conflict queue m) pass
        | inr fail ↦ ap (λ b. b || some_awaits_conflict queue m) fail ∙ found_passes queue (sym (cond-false (conflict m v.mode) (Some v) (find (λ w. conflict m w.mode) queue) fail) ∙ some)
      ]

-- A request that is to wait is not free where it joins, so that it leaves none free.
pub joined-none_free : (c : Content) (s : ℕ) (t : Tag) (m : Mode) (place : ℕ) (held : Mode → Bool) → WaitingAnswer c s t m (Queued place) → NoneFree c t → NoneFreeBehind [] c.holds t (joined place (record { session = s; mode = m; held = held }) (c.waits t))
joined-none_free c s t m place held answer none = at answer.0 answer.1 answer.2 where
  w : Wait
  w = record { session = s; mode = m; held = held }

  last : (clash : Clash) → ClashIs c s t m (Some clash) → NoneFreeBehind [] c.holds t (joined (length (c.waits t)) w (c.waits t))
  last clash is =
      rw (take_all (length (c.waits t)) (c.waits t) (omega arith), drop_all (length (c.waits t)) (c.waits t) (omega arith))
      (NoneFreeBehind-join [] c.holds t (c.waits t) [] w (subst (λ q. NoneFreeBehind [] c.holds t q) (sym (append-nil (c.waits t))) none)
      (clash-not_free (first_waiter (c.waits t) m) c s t m clash refl is))

  before : (ahead behind : List Wait) (first : Wait) → c.waits t ≡ ahead ++ first ∷ behind → (IsFree c.holds s t m ahead → ⊥) → NoneFreeBehind [] c.holds t (joined (length ahead) w (c.waits t))
  before ahead behind first parts not_free =
      rw (parts, take-append_seam ahead (first ∷ behind), drop-append_seam ahead (first ∷ behind))
      (NoneFreeBehind-join [] c.holds t ahead (first ∷ behind) w (subst (λ q. NoneFreeBehind [] c.holds t q) parts none) not_free)

  by_place : (clash : Clash) → ClashIs c s t m (Some clash) → AnswerByPlace c s t m (Queued place) → NoneFreeBehind [] c.holds t (joined place w (c.waits t))
  by_place clash is (inl end) =
      let e = end.1 in
      let at_end : length (c.waits t) ≡ place = cc in
      subst (λ k. NoneFreeBehind [] c.holds t (joined k w (c.waits t))) at_end (last clash is)
  by_place clash is (inr found) =
      subst (λ k. NoneFreeBehind [] c.holds t (joined k w (c.waits t))) (sym found.4.2) (before found.0 found.2 found.1 found.3.parts found.4.1)

  at : (clash : Option Clash) → ClashIs c s t m clash → WaitingAnswerAt clash c s t m (Queued place) → NoneFreeBehind [] c.holds t (joined place w (c.waits t))
  at None is e = absurd (cc)
  at (Some clash) is found = by_place clash is found

pub woken-split : (before : Content) (t : Tag) (granted : List Wait) (after : Content) → Wakes before t granted after → IsSplitOf (before.waits t) granted (after.waits t)
woken-split before t granted after wakes =
    subst (IsSplitOf (before.waits t) granted) (sym (waits_after before t granted after wakes)) (wakes-split [] before.holds t (before.waits t) granted wakes.left wakes.split)

-- A release wakes none of the session's own waits.
pub release-not_own : (before after : Content) (s : ℕ) (t : Tag) (m : Mode) (granted : List Wait) → NoneFree before t → Wakes (remove_hold before s t m) t granted after → list_any (λ w. w.session == s) granted ≡ false
release-not_own before after s t m granted none wakes =
    none_of_its_own [] [] before.holds (set_hold before.holds s t m false) s t (before.waits t) granted wakes.left
    (λ k n other held. set_hold-other_session before.holds s t m false k t n other ∙ held) (λ n free quiet. quiet) none wakes.split

-- What is granted at once conflicts with nothing.
pub no_clash-free : (found : Option Wait) (c : Content) (s : ℕ) (t : Tag) (m : Mode) → found ≡ first_waiter (c.waits t) m → ClashAfterWaiters found c s t m None → NoConflictingHolder c.holds s t m × (some_awaits_conflict (c.waits t) m ≡ false)
no_clash-free None c s t m is free = (free, none_found (c.waits t) (sym is)) where
  none_found : (queue : List Wait) → find (λ w. conflict m w.mode) queue ≡ None → some_awaits_conflict queue m ≡ false
  none_found [] none = refl
  none_found (v ∷ queue) none =
      elim (cases_Bool (conflict m v.mode)) [
        | inl pass ↦ let some : find (λ w. conflict m w.mode) (v ∷ queue) ≡ Some v = cond-true (conflict m v.mode) (Some v) (find (λ w. conflict m w.mode) queue) pass in absurd (cc)
        | inr fail ↦ ap (λ b. b || some_awaits_conflict queue m) fail
            ∙ none_found queue (sym (cond-false (conflict m v.mode) (Some v) (find (λ w. conflict m w.mode) queue) fail) ∙ none)
      ]
no_clash-free (Some w) c s t m is e = absurd (cc)
