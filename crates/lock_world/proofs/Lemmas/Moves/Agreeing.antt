use Rattle.std.proofs.Common.{◌≡◌, ◌≢◌, ◌⊎◌, ℕ, Bool, true, false, ◌||◌, ◌&&◌, List, [], ◌∷◌, Option, Some, None, if◌then◌else◌, refl, sym, ap, subst, ◌∙◌, inl, inr}
use Rattle.std.specs.Prelude.{◌==◌}
use Rattle.std.specs.List.{list_any}
use Rattle.std.proofs.lemmas.Bool.{cases_Bool, cases_eq, both_ways, false≢true, false_from_ne_true, and_from, or_right, eq-eqb, eqb-true, cond-true, cond-false}
use Rattle.modes_core.specs.declared.modes.Mode.{Mode}
use Rattle.modes_core.specs.declared.tags.Tag.{Tag}
use Rattle.modes_core.specs.Mode.{mode_eq}
use Rattle.modes_core.specs.Tag.{tag_eq, partition_of}
use Rattle.modes_core.proofs.Lemmas.Conflicts.{both_true, mode_eq-refl, mode_eq-same, tag_eq-refl, tag_eq-same}
use Rattle.lock_table.specs.Content.{Holds, Wait, Content, set_hold}
use Rattle.lock_table.specs.Put.{set_at}
use Rattle.lock_table.specs.OwnWait.{OwnWait, Stage, InQueue, WasGranted, HasLeft, entry_of, is_for, is_pending, queued_by}
use Rattle.lock_table.specs.Queue.{IsSplitOf, Wakes, NoneFree, NoneFreeBehind, hold_all, waits_there, awaits_mode}
use Rattle.lock_world.specs.Safe.{AgreesOn, AreInOnePlace, NobodyIsFree}
use Rattle.lock_table.proofs.Lemmas.Put.{put_else, set_at-here, set_at-else, set_at-each}
use Rattle.lock_table.proofs.Lemmas.Holds.{SetHoldAt, here, elsewhere, set_hold-at}
use Rattle.lock_table.proofs.Lemmas.QueueLaws.{NoneFreeBehind-more, woken-split}
use Rattle.lock_table.proofs.Lemmas.QueuesOf.{of_session, awaits-of, none-there, one-there, split-none, split-one}

-- ---- a session and an object

pub or-false : (b : Bool) → (b || false) ≡ b
or-false true = refl
or-false false = refl

pub tag_eq-turned : (o t : Tag) → tag_eq o t ≡ false → tag_eq t o ≡ false
tag_eq-turned o t other = false_from_ne_true (tag_eq t o) (λ e. both_ways (tag_eq o t) other (ap (tag_eq o) (tag_eq-same t o e) ∙ tag_eq-refl o))

-- What no wait is for is pending for none.
pub not_pending : (own : Option OwnWait) (st : Stage) (t : Tag) (m : Mode) → is_for own t m ≡ false → is_pending own st t m ≡ false
not_pending own InQueue t m e = refl
not_pending own WasGranted t m e = e
not_pending own HasLeft t m e = refl

-- Where a session stands with an object: it has nothing in the queue by its own account, or its wait.
pub data Standing (k : ℕ) (own : Option OwnWait) (st : Stage) (t : Tag) : Type 0 where
  nothing : queued_by k own st t ≡ [] → Standing k own st t
  waiting : (wait : OwnWait) → own ≡ Some wait → st ≡ InQueue → wait.tag ≡ t → Standing k own st t

pub standing : (k : ℕ) (own : Option OwnWait) (st : Stage) (t : Tag) → Standing k own st t
standing k None st t = nothing refl
standing k (Some wait) WasGranted t = nothing refl
standing k (Some wait) HasLeft t = nothing refl
standing k (Some wait) InQueue t =
    elim (cases_Bool (tag_eq wait.tag t)) [
      | inl same ↦ waiting wait refl refl (tag_eq-same wait.tag t same)
      | inr other ↦ nothing (cond-false (tag_eq wait.tag t) (entry_of k wait ∷ []) [] other)
    ]

-- ---- what is held after a wakeup

hold_all-at : (granted : List Wait) (holds : Holds) (t : Tag) (s : ℕ) (m : Mode) → hold_all holds t granted s t m ≡ (holds s t m || awaits_mode granted s m)
hold_all-at [] holds t s m = sym (or-false (holds s t m))
hold_all-at (w ∷ granted) holds t s m = hold_all-at granted (set_hold holds w.session t w.mode true) t s m ∙ at (set_hold-at holds w.session t w.mode true s t m) where
  rest : Bool
  rest = awaits_mode granted s m

  at : SetHoldAt holds w.session t w.mode true s t m → (set_hold holds w.session t w.mode true s t m || rest) ≡ (holds s t m || (((w.session == s) && mode_eq w.mode m) || rest))
  at (here it is) =
      let its : ((w.session == s) && mode_eq w.mode m) ≡ true = and_from (w.session == s) (mode_eq w.mode m) (eq-eqb w.session s (sym it.session)) (ap (mode_eq w.mode) it.mode ∙ mode_eq-refl w.mode) in
      ap (λ b. b || rest) is ∙ sym (ap (λ b. holds s t m || (b || rest)) its ∙ or_right (holds s t m) true refl)
  at (elsewhere not_it is) =
      let its : ((w.session == s) && mode_eq w.mode m) ≡ false = false_from_ne_true ((w.session == s) && mode_eq w.mode m) (λ e. not_it (record {
        session = sym (eqb-true w.session s (both_true (w.session == s) (mode_eq w.mode m) e).0);
        tag = refl;
        mode = sym (mode_eq-same w.mode m (both_true (w.session == s) (mode_eq w.mode m) e).1);
      })) in
      ap (λ b. b || rest) is ∙ sym (ap (λ b. holds s t m || (b || rest)) its)

set_hold-other_object : (holds : Holds) (s : ℕ) (t : Tag) (m : Mode) (b : Bool) (k : ℕ) (o : Tag) (n : Mode) → tag_eq o t ≡ false → set_hold holds s t m b k o n ≡ holds k o n
set_hold-other_object holds s t m b k o n other = at (set_hold-at holds s t m b k o n) where
  at : SetHoldAt holds s t m b k o n → set_hold holds s t m b k o n ≡ holds k o n
  at (here it is) = absurd (both_ways (tag_eq o t) other (ap (λ x. tag_eq x t) it.tag ∙ tag_eq-refl t))
  at (elsewhere not_it is) = is

hold_all-other_object : (granted : List Wait) (holds : Holds) (t : Tag) (k : ℕ) (o : Tag) (n : Mode) → tag_eq o t ≡ false → hold_all holds t granted k o n ≡ holds k o n
hold_all-other_object [] holds t k o n other = refl
hold_all-other_object (w ∷ granted) holds t k o n other =
    hold_all-other_object granted (set_hold holds w.session t w.mode true) t k o n other ∙ set_hold-other_object holds w.session t w.mode true k o n other

-- ---- a session after a wakeup of the object's queue

-- the stage of a wait, with those granted
abbrev pub granted_as : Bool → Stage → Stage
granted_as b st = if b then WasGranted else st

abbrev pub with_granted : (ℕ → Stage) → List Wait → ℕ → Stage
with_granted stage granted k = if waits_there granted k then WasGranted else stage k

-- What is so of a session after the wakeup: what it still has in the queue, what it was granted, and that
-- nothing changed for it on other objects.
record IsWoken (k : ℕ) (own : Option OwnWait) (st after : Stage) (t : Tag) (granted left : List Wait) : Type 0 where
  pub in_queue : of_session k left ≡ queued_by k own after t
  pub pending : (m : Mode) → is_pending own after t m ≡ (is_pending own st t m || awaits_mode granted k m)
  pub queued_elsewhere : (o : Tag) → tag_eq o t ≡ false → queued_by k own after o ≡ queued_by k own st o
  pub pending_elsewhere : (o : Tag) (m : Mode) → tag_eq o t ≡ false → is_pending own after o m ≡ is_pending own st o m

IsWoken-not : (k : ℕ) (own : Option OwnWait) (st : Stage) (t : Tag) (granted left : List Wait) → of_session k granted ≡ [] → of_session k left ≡ queued_by k own st t → IsWoken k own st (granted_as (waits_there granted k) st) t granted left
IsWoken-not k own st t granted left none stays =
    subst (λ b. IsWoken k own st (granted_as b st) t granted left) (sym (none-there k granted none)) (record {
      in_queue = stays;
      pending = λ m. sym (ap (λ b. is_pending own st t m || b) (awaits-of k m granted ∙ ap (list_any (λ w. mode_eq w.mode m)) none) ∙ or-false (is_pending own st t m));
      queued_elsewhere = λ o other. refl;
      pending_elsewhere = λ o m other. refl;
    })

IsWoken-granted : (k : ℕ) (wait : OwnWait) (t : Tag) (granted left : List Wait) → wait.tag ≡ t → of_session k granted ≡ entry_of k wait ∷ [] → of_session k left ≡ [] →
    IsWoken k (Some wait) InQueue (granted_as (waits_there granted k) InQueue) t granted left
IsWoken-granted k wait t granted left tag one none =
    subst (λ b. IsWoken k (Some wait) InQueue (granted_as b InQueue) t granted left) (sym (one-there k granted [] (entry_of k wait) one)) (record {
      in_queue = none;
      pending = λ m.
          ap (λ b. b && mode_eq wait.mode m) (ap (λ x. tag_eq x t) tag ∙ tag_eq-refl t) ∙
          sym (awaits-of k m granted ∙ ap (list_any (λ w. mode_eq w.mode m)) one ∙ or-false (mode_eq wait.mode m));
      queued_elsewhere = λ o other. sym (cond-false (tag_eq wait.tag o) (entry_of k wait ∷ []) [] (off o other));
      pending_elsewhere = λ o m other. ap (λ b. b && mode_eq wait.mode m) (off o other);
    }) where
      off : (o : Tag) → tag_eq o t ≡ false → tag_eq wait.tag o ≡ false
      off o other = ap (λ x. tag_eq x o) tag ∙ tag_eq-turned o t other

IsWoken-nothing : (k : ℕ) (own : Option OwnWait) (st : Stage) (t : Tag) (queue granted left : List Wait) → IsSplitOf queue granted left → of_session k queue ≡ queued_by k own st t → queued_by k own st t ≡ [] →
    IsWoken k own st (granted_as (waits_there granted k) st) t granted left
IsWoken-nothing k own st t queue granted left split is nothing_there =
    let parts = split-none k queue granted left split (is ∙ nothing_there) in
    IsWoken-not k own st t granted left parts.0 (parts.1 ∙ sym nothing_there)

IsWoken-waiting : (k : ℕ) (wait : OwnWait) (t : Tag) (queue granted left : List Wait) → IsSplitOf queue granted left → of_session k queue ≡ queued_by k (Some wait) InQueue t → wait.tag ≡ t →
    IsWoken k (Some wait) InQueue (granted_as (waits_there granted k) InQueue) t granted left
IsWoken-waiting k wait t queue granted left split is tag = at (split-one k queue granted left (entry_of k wait) split (is ∙ one)) where
  one : queued_by k (Some wait) InQueue t ≡ entry_of k wait ∷ []
  one = cond-true (tag_eq wait.tag t) (entry_of k wait ∷ []) [] (ap (λ x. tag_eq x t) tag ∙ tag_eq-refl t)

  at : ((of_session k granted ≡ entry_of k wait ∷ []) × (of_session k left ≡ [])) ⊎ ((of_session k granted ≡ []) × (of_session k left ≡ entry_of k wait ∷ [])) → IsWoken k (Some wait) InQueue (granted_as (waits_there granted k) InQueue) t granted left
  at (inl goes) = IsWoken-granted k wait t granted left tag goes.0 goes.1
  at (inr stays) = IsWoken-not k (Some wait) InQueue t granted left stays.0 (stays.1 ∙ sym one)

is_woken : (k : ℕ) (own : Option OwnWait) (st : Stage) (t : Tag) (queue granted left : List Wait) → IsSplitOf queue granted left → of_session k queue ≡ queued_by k own st t → IsWoken k own st (granted_as (waits_there granted k) st) t granted left
is_woken k None st t queue granted left split is = IsWoken-nothing k None st t queue granted left split is refl
is_woken k (Some wait) WasGranted t queue granted left split is = IsWoken-nothing k (Some wait) WasGranted t queue granted left split is refl
is_woken k (Some wait) HasLeft t queue granted left split is = IsWoken-nothing k (Some wait) HasLeft t queue granted left split is refl
is_woken k (Some wait) InQueue t queue granted left split is =
    elim (cases_Bool (tag_eq wait.tag t)) [
      | inl same ↦ IsWoken-waiting k wait t queue granted left split is (tag_eq-same wait.tag t same)
      | inr other ↦ IsWoken-nothing k (Some wait) InQueue t queue granted left split is (cond-false (tag_eq wait.tag t) (entry_of k wait ∷ []) [] other)
    ]

-- ---- the object of a change

-- After a wakeup the object's content and the sessions with_granted of it agree.
pub AgreesOn-wakes : (before after : Content) (t : Tag) (granted : List Wait) (own : Holds) (awaited : ℕ → Option OwnWait) (stage : ℕ → Stage) →
    AgreesOn before t own awaited stage → Wakes before t granted after → AgreesOn after t own awaited (with_granted stage granted)
AgreesOn-wakes before after t granted own awaited stage agrees wakes =
    record {
      held = λ s m.
          ap (λ (holds : Holds). holds s t m) wakes.holds ∙ hold_all-at granted before.holds t s m ∙ ap (λ b. b || awaits_mode granted s m) (agrees.held s m) ∙
          regroup (own s t m) (is_pending (awaited s) (stage s) t m) (awaits_mode granted s m) ∙ ap (λ b. own s t m || b) (sym ((it s).pending m));
      in_queue = λ s. (it s).in_queue;
    } where
      it : (s : ℕ) → IsWoken s (awaited s) (stage s) (with_granted stage granted s) t granted (after.waits t)
      it s = is_woken s (awaited s) (stage s) t (before.waits t) granted (after.waits t) (woken-split before t granted after wakes) (agrees.in_queue s)

      regroup : (a b c : Bool) → ((a || b) || c) ≡ (a || (b || c))
      regroup true b c = refl
      regroup false b c = refl

-- One hold set or gone, in the content and by the session's own account.
pub AgreesOn-set : (before after : Content) (t : Tag) (own : Holds) (awaited : ℕ → Option OwnWait) (stage : ℕ → Stage) (s : ℕ) (m : Mode) (there : Bool) →
    AgreesOn before t own awaited stage → after.holds ≡ set_hold before.holds s t m there → after.waits ≡ before.waits → is_pending (awaited s) (stage s) t m ≡ false →
    AgreesOn after t (set_hold own s t m there) awaited stage
AgreesOn-set before after t own awaited stage s m there agrees holds queues none_pending =
    record {
      held = λ k n. ap (λ (all : Holds). all k t n) holds ∙ at k n (set_hold-at before.holds s t m there k t n) (set_hold-at own s t m there k t n);
      in_queue = λ k. ap (λ (all : Tag → List Wait). of_session k (all t)) queues ∙ agrees.in_queue k;
    } where
      at : (k : ℕ) (n : Mode) → SetHoldAt before.holds s t m there k t n → SetHoldAt own s t m there k t n →
          set_hold before.holds s t m there k t n ≡ (set_hold own s t m there k t n || is_pending (awaited k) (stage k) t n)
      at k n (here it is) (here _ its) =
          is ∙ sym (
          ap (λ b. b || is_pending (awaited k) (stage k) t n) its ∙
          ap (λ b. there || b) (ap (λ j. is_pending (awaited j) (stage j) t n) it.session ∙ ap (λ x. is_pending (awaited s) (stage s) t x) it.mode ∙ none_pending) ∙ or-false there
          )
      at k n (here it is) (elsewhere not_it its) = absurd (not_it it)
      at k n (elsewhere not_it is) (here it its) = absurd (not_it it)
      at k n (elsewhere not_it is) (elsewhere _ its) = is ∙ agrees.held k n ∙ ap (λ b. b || is_pending (awaited k) (stage k) t n) (sym its)

-- ---- one object changed among all

-- The content changed on this object alone.
pub record ChangesOnly (before after : Content) (t : Tag) : Type 0 where
  pub holds : (s : ℕ) (o : Tag) (m : Mode) → tag_eq o t ≡ false → after.holds s o m ≡ before.holds s o m
  pub waits : (o : Tag) → tag_eq o t ≡ false → after.waits o ≡ before.waits o

pub ChangesOnly-set : (before after : Content) (s : ℕ) (t : Tag) (m : Mode) (there : Bool) → after.holds ≡ set_hold before.holds s t m there → after.waits ≡ before.waits → ChangesOnly before after t
ChangesOnly-set before after s t m there holds waits = record {
  holds = λ k o n other. ap (λ (all : Holds). all k o n) holds ∙ set_hold-other_object before.holds s t m there k o n other;
  waits = λ o other. ap (λ (all : Tag → List Wait). all o) waits;
}

pub ChangesOnly-wakes : (before after : Content) (t : Tag) (granted : List Wait) → Wakes before t granted after → ChangesOnly before after t
ChangesOnly-wakes before after t granted wakes = record {
  holds = λ k o n other. ap (λ (all : Holds). all k o n) wakes.holds ∙ hold_all-other_object granted before.holds t k o n other;
  waits = λ o other. ap (λ (all : Tag → List Wait). all o) wakes.waits ∙ put_else tag_eq before.waits t wakes.left o other;
}

pub ChangesOnly-both : (before between after : Content) (t : Tag) → ChangesOnly before between t → ChangesOnly between after t → ChangesOnly before after t
ChangesOnly-both before between after t one two = record {
  holds = λ s o m other. two.holds s o m other ∙ one.holds s o m other;
  waits = λ o other. two.waits o other ∙ one.waits o other;
}

-- The sessions have the same of other objects.
pub record SameElsewhere (own own_after : Holds) (awaited awaited_after : ℕ → Option OwnWait) (stage stage_after : ℕ → Stage) (t : Tag) : Type 0 where
  pub held : (s : ℕ) (o : Tag) (m : Mode) → tag_eq o t ≡ false → (own_after s o m || is_pending (awaited_after s) (stage_after s) o m) ≡ (own s o m || is_pending (awaited s) (stage s) o m)
  pub queued : (s : ℕ) (o : Tag) → tag_eq o t ≡ false → queued_by s (awaited_after s) (stage_after s) o ≡ queued_by s (awaited s) (stage s) o

pub SameElsewhere-set : (own : Holds) (awaited : ℕ → Option OwnWait) (stage : ℕ → Stage) (s : ℕ) (t : Tag) (m : Mode) (there : Bool) → SameElsewhere own (set_hold own s t m there) awaited awaited stage stage t
SameElsewhere-set own awaited stage s t m there = record {
  held = λ k o n other. ap (λ b. b || is_pending (awaited k) (stage k) o n) (set_hold-other_object own s t m there k o n other);
  queued = λ k o other. refl;
}

abbrev pub NotOwn : Holds → (ℕ → Option OwnWait) → Type 0
NotOwn own awaited = (s : ℕ) (t : Tag) (m : Mode) → is_for (awaited s) t m ≡ true → own s t m ≡ false

-- What is so at the changed partition, and was so of each object of another, is so of each object.
at_partition : (P : Content → Tag → Type 0) (now : ℕ → Content) (p : ℕ) (after : Content) (o : Tag) → (partition_of o ≡ p → P after o) → (partition_of o ≢ p → P (now (partition_of o)) o) → P (set_at now p after (partition_of o)) o
at_partition P now p after o changed unchanged =
    elim (cases_eq (partition_of o) p) [
      | inl same ↦ subst (λ c. P c o) (sym (set_at-here now p after (partition_of o) same)) (changed same)
      | inr other ↦ subst (λ c. P c o) (sym (set_at-else now p after (partition_of o) other)) (unchanged other)
    ]

-- Where they agree after a change of one object on that object, each is in one place.
pub AreInOnePlace-change : (now : ℕ → Content) (own own_after : Holds) (awaited awaited_after : ℕ → Option OwnWait) (stage stage_after : ℕ → Stage) (p : ℕ) (t : Tag) (after : Content) →
    AreInOnePlace now own awaited stage → partition_of t ≡ p → ChangesOnly (now p) after t → SameElsewhere own own_after awaited awaited_after stage stage_after t →
    AgreesOn after t own_after awaited_after stage_after → NotOwn own_after awaited_after → AreInOnePlace (set_at now p after) own_after awaited_after stage_after
AreInOnePlace-change now own own_after awaited awaited_after stage stage_after p t after one object only same on_it not_own =
    record {
      on_object = on_object;
      no_hold_elsewhere = set_at-each (λ q c. (s : ℕ) (o : Tag) (m : Mode) → c.holds s o m ≡ true → partition_of o ≡ q) now p after its_hold (λ q _. one.no_hold_elsewhere q);
      no_wait_elsewhere = set_at-each (λ q c. (o : Tag) → partition_of o ≢ q → c.waits o ≡ []) now p after
          (λ o apart. only.waits o (another o apart) ∙ one.no_wait_elsewhere p o apart) (λ q _. one.no_wait_elsewhere q);
      awaited_is_not_own = not_own;
    } where
      another : (o : Tag) → partition_of o ≢ p → tag_eq o t ≡ false
      another o apart = false_from_ne_true (tag_eq o t) (λ e. apart (ap partition_of (tag_eq-same o t e) ∙ object))

      its_hold : (s : ℕ) (o : Tag) (m : Mode) → after.holds s o m ≡ true → partition_of o ≡ p
      its_hold s o m has =
          elim (cases_Bool (tag_eq o t)) [
            | inl alike ↦ ap partition_of (tag_eq-same o t alike) ∙ object
            | inr other ↦ one.no_hold_elsewhere p s o m (sym (only.holds s o m other) ∙ has)
          ]

      on_another : (o : Tag) → tag_eq o t ≡ false → (c : Content) → AgreesOn c o own awaited stage → (d : Content) → ((s : ℕ) (m : Mode) → d.holds s o m ≡ c.holds s o m) → d.waits o ≡ c.waits o → AgreesOn d o own_after awaited_after stage_after
      on_another o other c agrees d holds queue = record {
        held = λ s m. holds s m ∙ agrees.held s m ∙ sym (same.held s o m other);
        in_queue = λ s. ap (of_session s) queue ∙ agrees.in_queue s ∙ sym (same.queued s o other);
      }

      on_object : (o : Tag) → AgreesOn (set_at now p after (partition_of o)) o own_after awaited_after stage_after
      on_object o =
          elim (cases_Bool (tag_eq o t)) [
            | inl alike ↦
                let is : o ≡ t = tag_eq-same o t alike in
                subst (λ (x : Tag). AgreesOn (set_at now p after (partition_of x)) x own_after awaited_after stage_after) (sym is)
                (subst (λ (c : Content). AgreesOn c t own_after awaited_after stage_after) (sym (set_at-here now p after (partition_of t) object)) on_it)
            | inr other ↦ at_partition (λ c x. AgreesOn c x own_after awaited_after stage_after) now p after o
                (λ same_part. on_another o other (now p) (subst (λ q. AgreesOn (now q) o own awaited stage) same_part (one.on_object o)) after (λ s m. only.holds s o m other) (only.waits o other))
                (λ _. on_another o other (now (partition_of o)) (one.on_object o) (now (partition_of o)) (λ s m. refl) refl)
          ]

-- Holds are in one place after a change that keeps content and accounts in agreement on the object, and a
-- wakeup of its queue.
pub AreInOnePlace-wakes : (now : ℕ → Content) (own own_after : Holds) (awaited : ℕ → Option OwnWait) (stage stage_between : ℕ → Stage) (p : ℕ) (t : Tag) (between after : Content) (granted : List Wait) →
    AreInOnePlace now own awaited stage → partition_of t ≡ p → ChangesOnly (now p) between t → SameElsewhere own own_after awaited awaited stage stage_between t →
    AgreesOn between t own_after awaited stage_between → NotOwn own_after awaited → Wakes between t granted after →
    AreInOnePlace (set_at now p after) own_after awaited (with_granted stage_between granted)
AreInOnePlace-wakes now own own_after awaited stage stage_between p t between after granted one object only same on_it not_own wakes =
    AreInOnePlace-change now own own_after awaited awaited stage (with_granted stage_between granted) p t after one object
    (ChangesOnly-both (now p) between after t only (ChangesOnly-wakes between after t granted wakes))
    (record {
      held = λ s o m other. ap (λ b. own_after s o m || b) ((it s).pending_elsewhere o m other) ∙ same.held s o m other;
      queued = λ s o other. (it s).queued_elsewhere o other ∙ same.queued s o other;
    })
    (AgreesOn-wakes between after t granted own_after awaited stage_between on_it wakes) not_own where
      it : (s : ℕ) → IsWoken s (awaited s) (stage_between s) (with_granted stage_between granted s) t granted (after.waits t)
      it s = is_woken s (awaited s) (stage_between s) t (between.waits t) granted (after.waits t) (woken-split between t granted after wakes) (on_it.in_queue s)

-- A hold set or gone, where no wait is for it or it is gone, leaves no own hold awaited.
pub NotOwn-set : (own : Holds) (awaited : ℕ → Option OwnWait) (s : ℕ) (t : Tag) (m : Mode) (there : Bool) → (is_for (awaited s) t m ≡ true → there ≡ false) → NotOwn own awaited → NotOwn (set_hold own s t m there) awaited
NotOwn-set own awaited s t m there gone not_own k o n e = at (set_hold-at own s t m there k o n) where
  at : SetHoldAt own s t m there k o n → set_hold own s t m there k o n ≡ false
  at (here it is) = is ∙ gone (sym (ap (λ j. is_for (awaited j) o n) it.session ∙ ap (λ x. is_for (awaited s) x n) it.tag ∙ ap (is_for (awaited s) t) it.mode) ∙ e)
  at (elsewhere not_it is) = is ∙ not_own k o n e

-- ---- nobody is free

-- Where nobody of the changed object is free, nobody of any is.
pub NoneFree-change : (before after : Content) (t : Tag) → ChangesOnly before after t → NoneFree after t → ((o : Tag) → NoneFree before o) → (o : Tag) → NoneFree after o
NoneFree-change before after t only on_it free o =
    elim (cases_Bool (tag_eq o t)) [
      | inl alike ↦ subst (λ x. NoneFree after x) (sym (tag_eq-same o t alike)) on_it
      | inr other ↦ subst (λ queue. NoneFreeBehind [] after.holds o queue) (sym (only.waits o other))
          (NoneFreeBehind-more [] before.holds after.holds o (before.waits o) (λ k m has. only.holds k o m other ∙ has) (free o))
    ]

pub NobodyIsFree-set : (now : ℕ → Content) (p : ℕ) (content : Content) → ((o : Tag) → NoneFree content o) → NobodyIsFree now → NobodyIsFree (set_at now p content)
NobodyIsFree-set now p content at_it there = set_at-each (λ _ c. (o : Tag) → NoneFree c o) now p content at_it (λ q _. there q)

-- ---- the sessions' accounts in other words

-- They agree where the sessions have the same of each object in other words.
pub AreInOnePlace-same : (now : ℕ → Content) (own own_after : Holds) (awaited awaited_after : ℕ → Option OwnWait) (stage stage_after : ℕ → Stage) → AreInOnePlace now own awaited stage →
    ((k : ℕ) (o : Tag) (n : Mode) → (own k o n || is_pending (awaited k) (stage k) o n) ≡ (own_after k o n || is_pending (awaited_after k) (stage_after k) o n)) →
    ((k : ℕ) (o : Tag) → queued_by k (awaited k) (stage k) o ≡ queued_by k (awaited_after k) (stage_after k) o) → NotOwn own_after awaited_after → AreInOnePlace now own_after awaited_after stage_after
AreInOnePlace-same now own own_after awaited awaited_after stage stage_after one held queued not_own = record {
  on_object = λ o. record { held = λ k n. (one.on_object o).held k n ∙ held k o n; in_queue = λ k. (one.on_object o).in_queue k ∙ queued k o };
  no_hold_elsewhere = one.no_hold_elsewhere;
  no_wait_elsewhere = one.no_wait_elsewhere;
  awaited_is_not_own = not_own;
}

-- The stage of a session that has no wait says nothing.
pub pending-stage : (own : Option OwnWait) (st other : Stage) (o : Tag) (n : Mode) → ((wait : OwnWait) → own ≡ Some wait → st ≡ other) → is_pending own st o n ≡ is_pending own other o n
pending-stage None st other o n same = not_pending None st o n refl ∙ sym (not_pending None other o n refl)
pending-stage (Some wait) st other o n same = ap (λ x. is_pending (Some wait) x o n) (same wait refl)

pub queued-stage : (k : ℕ) (own : Option OwnWait) (st other : Stage) (o : Tag) → ((wait : OwnWait) → own ≡ Some wait → st ≡ other) → queued_by k own st o ≡ queued_by k own other o
queued-stage k None st other o same = refl
queued-stage k (Some wait) st other o same = ap (λ x. queued_by k (Some wait) x o) (same wait refl)

-- A session's wait ends: what was pending is its own from then on, and it has nothing in a queue.
module _ (now : ℕ → Content) (own own_after : Holds) (awaited : ℕ → Option OwnWait) (stage stage_after : ℕ → Stage) (s : ℕ) (one : AreInOnePlace now own awaited stage)
    (others : (k : ℕ) → k ≢ s → stage k ≡ stage_after k) (not_its : (k : ℕ) (o : Tag) (n : Mode) → k ≢ s → own_after k o n ≡ own k o n)
    (its : (o : Tag) (n : Mode) → (own s o n || is_pending (awaited s) (stage s) o n) ≡ own_after s o n) (not_queued : (o : Tag) → queued_by s (awaited s) (stage s) o ≡ []) where
  pub AreInOnePlace-ended : AreInOnePlace now own_after (set_at awaited s None) stage_after
  AreInOnePlace-ended = AreInOnePlace-same now own own_after awaited (set_at awaited s None) stage stage_after one held queued not_own where
    held : (k : ℕ) (o : Tag) (n : Mode) → (own k o n || is_pending (awaited k) (stage k) o n) ≡ (own_after k o n || is_pending (set_at awaited s None k) (stage_after k) o n)
    held k o n =
        elim (cases_eq k s) [
          | inl same ↦
              let gone : is_pending (set_at awaited s None k) (stage_after k) o n ≡ false =
              ap (λ w. is_pending w (stage_after k) o n) (set_at-here awaited s None k same) ∙ not_pending None (stage_after k) o n refl in
              ap (λ j. own j o n || is_pending (awaited j) (stage j) o n) same ∙ its o n ∙ ap (λ j. own_after j o n) (sym same)
              ∙ sym (ap (λ b. own_after k o n || b) gone ∙ or-false (own_after k o n))
          | inr apart ↦
              ap (λ b. b || is_pending (awaited k) (stage k) o n) (sym (not_its k o n apart)) ∙ ap (λ st. own_after k o n || is_pending (awaited k) st o n) (others k apart)
              ∙ ap (λ w. own_after k o n || is_pending w (stage_after k) o n) (sym (set_at-else awaited s None k apart))
        ]

    queued : (k : ℕ) (o : Tag) → queued_by k (awaited k) (stage k) o ≡ queued_by k (set_at awaited s None k) (stage_after k) o
    queued k o =
        elim (cases_eq k s) [
          | inl same ↦ ap (λ j. queued_by j (awaited j) (stage j) o) same ∙ not_queued o ∙ sym (ap (λ w. queued_by k w (stage_after k) o) (set_at-here awaited s None k same))
          | inr apart ↦ ap (λ st. queued_by k (awaited k) st o) (others k apart) ∙ ap (λ w. queued_by k w (stage_after k) o) (sym (set_at-else awaited s None k apart))
        ]

    not_own : NotOwn own_after (set_at awaited s None)
    not_own k o n e =
        elim (cases_eq k s) [
          | inl same ↦ absurd (false≢true (sym (ap (λ w. is_for w o n) (set_at-here awaited s None k same)) ∙ e))
          | inr apart ↦ not_its k o n apart ∙ one.awaited_is_not_own k o n (sym (ap (λ w. is_for w o n) (set_at-else awaited s None k apart)) ∙ e)
        ]
