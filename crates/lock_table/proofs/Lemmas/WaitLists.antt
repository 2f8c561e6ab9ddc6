use Rattle.std.proofs.Common.{◌≡◌, ℕ, ◌+◌, ◌<◌, ◌≤◌, Bool, true, false, cond, not, ◌&&◌, ◌||◌, ◌==◌, List, [], ◌∷◌, ◌++◌, take, drop, length, get_or, Option, Some, None, arith, refl, sym, ap, ◌∙◌, subst, inl, inr}
use Rattle.std.specs.Prelude.{map, filter, find, count_by, option_map, slice_get, if◌then◌else◌}
use Rattle.std.specs.List.{list_any, insert, swap_remove}
use Rattle.std.proofs.lemmas.Bool.{cases_Bool, false≢true, false_from_ne_true, eqb-true, eq-eqb}
use Rattle.std.proofs.lemmas.List.{map-append, take_at, drop_at, take-append-drop, drop_more, get_or_at, length-append}
use Rattle.std.proofs.lemmas.Option.{slice_get-get_or}
use Rattle.std.proofs.lemmas.List.Elements.{filter-append}
use Rattle.modes_core.specs.declared.modes.Mode.{Mode}
use Rattle.modes_core.specs.declared.tags.Tag.{Tag}
use Rattle.modes_core.specs.Mode.{number_of, mode_eq}
use Rattle.modes_core.specs.Tag.{tag_eq}
use Rattle.modes_core.proofs.Lemmas.Conflicts.{both_true, tag_eq-same, tag_eq-refl}
use Rattle.lock_table.specs.declared.request.Request.{Request}
use Rattle.lock_table.specs.declared.part_waits.PartWait.{PartWait}
use Rattle.lock_table.specs.Request.{is_request_of, is_request_on}
use Rattle.lock_table.specs.Content.{Wait}
use Rattle.lock_table.specs.Waiter.{shown_wait}
use Rattle.lock_table.specs.PartView.{holds_in}
use Rattle.modes_core.specs.Conflict.{conflict}
use Rattle.lock_table.specs.PartWaits.{request_of, queues_in, times_in, EachOnce, OneWaitEach, awaits_one_of}
use Rattle.lock_table.specs.Queue.{waits_there, awaits_mode, wait_in, queue_without, some_awaits_conflict}
use Rattle.lock_table.specs.Put.{put}
use Rattle.lock_table.proofs.Lemmas.Put.{put_here, put_else}
use Rattle.lock_table.proofs.Lemmas.Same.{SameTriple-from}
use Rattle.lock_table.proofs.Lemmas.HoldLists.{count_by-cons, count_by-none, count_by-append, count_by-filter, count_by-taken_out}

-- Equality of numbers goes both ways.
pub eqb_comm : (a b : ℕ) → (a == b) ≡ (b == a)
eqb_comm a b =
    elim (cases_Bool (a == b)) [
      | inl same ↦ same ∙ sym (eq-eqb b a (sym (eqb-true a b same)))
      | inr apart ↦ elim (cases_Bool (b == a)) [
        | inl same ↦ absurd (false≢true (sym apart ∙ eq-eqb a b (sym (eqb-true b a same))))
        | inr still ↦ apart ∙ sym still
      ]
    ]

-- What some kept element passes, mapped.
pub any-kept : {X Y : Type 0} (p : Y → Bool) (f : X → Y) (q : X → Bool) (xs : List X) → list_any p (map f (filter q xs)) ≡ list_any (λ x. q x && p (f x)) xs
any-kept p f q [] = refl
any-kept p f q (x ∷ xs) =
    elim (cases_Bool (q x)) [
      | inl kept ↦ rw kept (ap (λ b. p (f x) || b) (any-kept p f q xs))
      | inr dropped ↦ rw dropped (any-kept p f q xs)
    ]

pub any-same : {X : Type 0} (p q : X → Bool) (xs : List X) → ((x : X) → p x ≡ q x) → list_any p xs ≡ list_any q xs
any-same p q xs same = λ i. list_any (λ x. same x i) xs

-- A wait of the object's queue that is the session's.
is_its : (s : ℕ) (o : Tag) (wait : PartWait) → (tag_eq o wait.tag && (wait.waiter.session == s)) ≡ is_request_on (request_of wait) s o
is_its s o wait = swap (tag_eq o wait.tag) (wait.waiter.session == s) ∙ ap (λ b. b && tag_eq o wait.tag) (eqb_comm wait.waiter.session s) where
  swap : (a b : Bool) → (a && b) ≡ (b && a)
  swap true true = refl
  swap true false = refl
  swap false true = refl
  swap false false = refl

-- A session waits in an object's queue exactly where the list has its wait.
pub there-in : (ws : List PartWait) (s : ℕ) (o : Tag) → waits_there (queues_in ws o) s ≡ list_any (λ wait. is_request_on (request_of wait) s o) ws
there-in ws s o =
    any-kept (λ wait. wait.session == s) (λ (wait : PartWait). shown_wait wait.waiter) (λ wait. tag_eq o wait.tag) ws
    ∙ any-same (λ (wait : PartWait). tag_eq o wait.tag && (wait.waiter.session == s)) (λ wait. is_request_on (request_of wait) s o) ws (is_its s o)

-- An object's queue has the awaited modes that the list has.
pub awaits-in : (ws : List PartWait) (s : ℕ) (o : Tag) (m : Mode) → awaits_mode (queues_in ws o) s m ≡ list_any (λ wait. is_request_of (request_of wait) s o m) ws
awaits-in ws s o m =
    any-kept (λ wait. (wait.session == s) && mode_eq wait.mode m) (λ (wait : PartWait). shown_wait wait.waiter) (λ wait. tag_eq o wait.tag) ws
    ∙ any-same (λ (wait : PartWait). tag_eq o wait.tag && ((wait.waiter.session == s) && mode_eq wait.waiter.mode m)) (λ wait. is_request_of (request_of wait) s o m) ws
    (λ wait. turn (tag_eq o wait.tag) (wait.waiter.session == s) (mode_eq wait.waiter.mode m)
    ∙ rw (eqb_comm wait.waiter.session s, eqb_comm (number_of wait.waiter.mode) (number_of m)) refl) where
      turn : (a b c : Bool) → (a && (b && c)) ≡ (b && (a && c))
      turn true b c = refl
      turn false true c = refl
      turn false false c = refl

-- An element more that is not counted, or is.
pub count_by-insert : {X : Type 0} (test : X → Bool) (x : X) (xs ys : List X) → count_by test (xs ++ x ∷ ys) ≡ count_by test (xs ++ ys) + (if test x then 1 else 0)
count_by-insert test x xs ys =
    let whole : count_by test (xs ++ x ∷ ys) ≡ count_by test xs + count_by test (x ∷ ys) = count_by-append test xs (x ∷ ys) in
    let rest : count_by test (xs ++ ys) ≡ count_by test xs + count_by test ys = count_by-append test xs ys in
    let one : count_by test (x ∷ ys) ≡ (if test x then 1 else 0) + count_by test ys = count_by-cons test x ys in
    omega arith

-- A request that is neither held nor awaited may be held or awaited.
pub one_more_once :
    (before after : ℕ → Tag → Mode → ℕ) (r : Request) → before r.session r.tag r.mode ≡ 0 →
    ((s : ℕ) (o : Tag) (m : Mode) → after s o m ≡ before s o m + (if is_request_of r s o m then 1 else 0)) →
    ((s : ℕ) (o : Tag) (m : Mode) → before s o m ≤ 1) → (s : ℕ) (o : Tag) (m : Mode) → after s o m ≤ 1
one_more_once before after r new more once s o m =
    let now : after s o m ≡ before s o m + (if is_request_of r s o m then 1 else 0) = more s o m in
    elim (cases_Bool (is_request_of r s o m)) [
      | inl is ↦
          let same = SameTriple-from s o m r.session r.tag r.mode is in
          let none : before s o m ≡ 0 = rw (same.session, same.tag, same.mode) new in
          let one : after s o m ≡ before s o m + 1 = now ∙ rw is refl in
          omega arith
      | inr other ↦
          let same : after s o m ≡ before s o m + 0 = now ∙ rw other refl in
          let old : before s o m ≤ 1 = once s o m in
          omega arith
    ]

pub times_in-hold :
    (hs : List Request) (ws : List PartWait) (r : Request) (s : ℕ) (o : Tag) (m : Mode) →
    times_in (hs ++ r ∷ []) ws s o m ≡ times_in hs ws s o m + (if is_request_of r s o m then 1 else 0)
times_in-hold hs ws r s o m =
    let all : count_by (λ hold. is_request_of hold s o m) (hs ++ r ∷ []) ≡ count_by (λ hold. is_request_of hold s o m) hs + count_by (λ hold. is_request_of hold s o m) (r ∷ []) =
    count_by-append (λ hold. is_request_of hold s o m) hs (r ∷ []) in
    let one : count_by (λ hold. is_request_of hold s o m) (r ∷ []) ≡ (if is_request_of r s o m then 1 else 0) + 0 = count_by-cons (λ hold. is_request_of hold s o m) r [] in
    omega arith

pub times_in-wait :
    (hs : List Request) (xs ys : List PartWait) (w : PartWait) (s : ℕ) (o : Tag) (m : Mode) →
    times_in hs (xs ++ w ∷ ys) s o m ≡ times_in hs (xs ++ ys) s o m + (if is_request_of (request_of w) s o m then 1 else 0)
times_in-wait hs xs ys w s o m =
    let more : count_by (λ wait. is_request_of (request_of wait) s o m) (xs ++ w ∷ ys) ≡ count_by (λ wait. is_request_of (request_of wait) s o m) (xs ++ ys) + (if is_request_of (request_of w) s o m then 1 else 0) =
    count_by-insert (λ wait. is_request_of (request_of wait) s o m) w xs ys in
    omega arith

-- What a filter leaves is there no more often.
pub times_in-taken_out :
    (hs : List Request) (ws : List PartWait) (i : ℕ) (x : Request) → i < length hs → x ≡ get_or hs i x → (s : ℕ) (o : Tag) (m : Mode) →
    times_in (swap_remove hs i x) ws s o m ≤ times_in hs ws s o m
times_in-taken_out hs ws i x within is s o m =
    let less : count_by (λ hold. is_request_of hold s o m) (swap_remove hs i x) + cond (is_request_of x s o m) 1 0 ≡ count_by (λ hold. is_request_of hold s o m) hs =
    count_by-taken_out (λ hold. is_request_of hold s o m) hs i x within is in
    omega arith

pub times_in-fewer_waits :
    (p : PartWait → Bool) (hs : List Request) (ws : List PartWait) (s : ℕ) (o : Tag) (m : Mode) → times_in hs (filter p ws) s o m ≤ times_in hs ws s o m
times_in-fewer_waits p hs ws s o m =
    let less : count_by (λ wait. is_request_of (request_of wait) s o m) (filter p ws) ≤ count_by (λ wait. is_request_of (request_of wait) s o m) ws =
    count_by-filter (λ wait. is_request_of (request_of wait) s o m) p ws in
    omega arith

-- A request that is neither held nor awaited is there no time.
pub times_in-none :
    (hs : List Request) (ws : List PartWait) (s : ℕ) (o : Tag) (m : Mode) →
    holds_in hs s o m ≡ false → awaits_mode (queues_in ws o) s m ≡ false → times_in hs ws s o m ≡ 0
times_in-none hs ws s o m not_held not_awaited =
    let held : count_by (λ hold. is_request_of hold s o m) hs ≡ 0 = count_by-none (λ hold. is_request_of hold s o m) hs not_held in
    let awaited : count_by (λ wait. is_request_of (request_of wait) s o m) ws ≡ 0 =
    count_by-none (λ wait. is_request_of (request_of wait) s o m) ws (sym (awaits-in ws s o m) ∙ not_awaited) in
    omega arith

-- The queue of an object, as the list grows.
pub waits_in-append : (xs ys : List PartWait) (o : Tag) → queues_in (xs ++ ys) o ≡ queues_in xs o ++ queues_in ys o
waits_in-append xs ys o =
    ap (map (λ (wait : PartWait). shown_wait wait.waiter)) (filter-append (λ (wait : PartWait). tag_eq o wait.tag) xs ys)
    ∙ map-append (λ (wait : PartWait). shown_wait wait.waiter) (filter (λ (wait : PartWait). tag_eq o wait.tag) xs) (filter (λ (wait : PartWait). tag_eq o wait.tag) ys)

pub waits_in-on : (w : PartWait) (ys : List PartWait) (o : Tag) → tag_eq o w.tag ≡ true → queues_in (w ∷ ys) o ≡ shown_wait w.waiter ∷ queues_in ys o
waits_in-on w ys o is = rw is refl

pub waits_in-off : (w : PartWait) (ys : List PartWait) (o : Tag) → tag_eq o w.tag ≡ false → queues_in (w ∷ ys) o ≡ queues_in ys o
waits_in-off w ys o is_not = rw is_not refl

pub waits_in-push_on : (xs : List PartWait) (w : PartWait) (o : Tag) → tag_eq o w.tag ≡ true → queues_in (xs ++ w ∷ []) o ≡ queues_in xs o ++ shown_wait w.waiter ∷ []
waits_in-push_on xs w o is = waits_in-append xs (w ∷ []) o ∙ ap (λ ys. queues_in xs o ++ ys) (waits_in-on w [] o is)

-- A wait on another object makes no difference.
pub waits_in-without : (xs : List PartWait) (w : PartWait) (ys : List PartWait) (o : Tag) → tag_eq o w.tag ≡ false → queues_in (xs ++ w ∷ ys) o ≡ queues_in (xs ++ ys) o
waits_in-without xs w ys o is_not =
    waits_in-append xs (w ∷ ys) o ∙ ap (λ zs. queues_in xs o ++ zs) (waits_in-off w ys o is_not) ∙ sym (waits_in-append xs ys o)

-- A list with one of its elements apart.
pub parts_at : {X : Type 0} (xs : List X) (i : ℕ) (x : X) → i < length xs → x ≡ get_or xs i x → xs ≡ take i xs ++ x ∷ drop (i + 1) xs
parts_at xs i x within is = sym (take-append-drop i xs) ∙ ap (λ ys. take i xs ++ ys) (drop_more xs i x within ∙ ap (λ y. y ∷ drop (i + 1) xs) (sym is))

-- The element of a list behind a number of others.
slice_get_at : {X : Type 0} (xs : List X) (y : X) (ys : List X) (n : ℕ) → length xs ≡ n → slice_get (xs ++ y ∷ ys) n ≡ Some y
slice_get_at xs y ys n e =
    let total : length (xs ++ y ∷ ys) ≡ length xs + length (y ∷ ys) = length-append xs (y ∷ ys) in
    slice_get-get_or (xs ++ y ∷ ys) n y (omega arith) ∙ ap Some (get_or_at xs y ys y n e)

-- The wait of an object's queue behind a number of others.
pub waiter-there :
    (ws : List PartWait) (i : ℕ) (w : PartWait) (o : Tag) (place : ℕ) → i < length ws → w ≡ get_or ws i w → tag_eq o w.tag ≡ true →
    length (queues_in (take i ws) o) ≡ place → slice_get (queues_in ws o) place ≡ Some (shown_wait w.waiter)
waiter-there ws i w o place within is on behind =
    ap (λ xs. slice_get (queues_in xs o) place) (parts_at ws i w within is)
    ∙ ap (λ q. slice_get q place) (waits_in-append (take i ws) (w ∷ drop (i + 1) ws) o ∙ ap (λ q. queues_in (take i ws) o ++ q) (waits_in-on w (drop (i + 1) ws) o on))
    ∙ slice_get_at (queues_in (take i ws) o) (shown_wait w.waiter) (queues_in (drop (i + 1) ws) o) place behind

-- Which of an object's waits is the session's, first in the list.
find-kept : {X Y : Type 0} (p : Y → Bool) (f : X → Y) (q : X → Bool) (xs : List X) → find p (map f (filter q xs)) ≡ option_map f (find (λ x. q x && p (f x)) xs)
find-kept p f q [] = refl
find-kept p f q (x ∷ xs) =
    elim (cases_Bool (q x)) [
      | inl kept ↦ elim (cases_Bool (p (f x))) [
        | inl pass ↦ rw (kept, pass) refl
        | inr fail ↦ rw (kept, fail) (find-kept p f q xs)
      ]
      | inr dropped ↦ rw dropped (find-kept p f q xs)
    ]

find-same : {X : Type 0} (p q : X → Bool) (xs : List X) → ((x : X) → p x ≡ q x) → find p xs ≡ find q xs
find-same p q xs same = λ i. find (λ x. same x i) xs

pub wait_in-list : (ws : List PartWait) (s : ℕ) (o : Tag) → wait_in (queues_in ws o) s ≡ option_map (λ wait. shown_wait wait.waiter) (find (λ wait. is_request_on (request_of wait) s o) ws)
wait_in-list ws s o =
    find-kept (λ wait. wait.session == s) (λ (wait : PartWait). shown_wait wait.waiter) (λ wait. tag_eq o wait.tag) ws
    ∙ ap (option_map (λ (wait : PartWait). shown_wait wait.waiter))
    (find-same (λ (wait : PartWait). tag_eq o wait.tag && (wait.waiter.session == s)) (λ wait. is_request_on (request_of wait) s o) ws (is_its s o))

pub awaited-mode : (ws : List PartWait) (s : ℕ) (o : Tag) →
    option_map (λ (wait : PartWait). wait.waiter.mode) (find (λ wait. is_request_on (request_of wait) s o) ws) ≡ option_map (λ wait. wait.mode) (wait_in (queues_in ws o) s)
awaited-mode ws s o = at (find (λ wait. is_request_on (request_of wait) s o) ws) ∙ ap (option_map (λ (wait : Wait). wait.mode)) (sym (wait_in-list ws s o)) where
  at : (found : Option PartWait) → option_map (λ (wait : PartWait). wait.waiter.mode) found ≡ option_map (λ (wait : Wait). wait.mode) (option_map (λ (wait : PartWait). shown_wait wait.waiter) found)
  at None = refl
  at (Some w) = refl

-- What is kept of the kept.
kept_of_kept : {X Y : Type 0} (p : Y → Bool) (f : X → Y) (q r : X → Bool) → ((x : X) → q x ≡ true → r x ≡ p (f x)) → (xs : List X) → map f (filter q (filter r xs)) ≡ filter p (map f (filter q xs))
kept_of_kept p f q r same [] = refl
kept_of_kept p f q r same (x ∷ xs) =
    elim (cases_Bool (q x)) [
      | inl kept ↦ elim (cases_Bool (r x)) [
        | inl stays ↦ let too : p (f x) ≡ true = sym (same x kept) ∙ stays in rw (stays, kept, too) (ap (λ ys. f x ∷ ys) (kept_of_kept p f q r same xs))
        | inr goes ↦ let too : p (f x) ≡ false = sym (same x kept) ∙ goes in rw (goes, kept, too) (kept_of_kept p f q r same xs)
      ]
      | inr dropped ↦ elim (cases_Bool (r x)) [
        | inl stays ↦ rw (stays, dropped) (kept_of_kept p f q r same xs)
        | inr goes ↦ rw (goes, dropped) (kept_of_kept p f q r same xs)
      ]
    ]

filter_all : {X : Type 0} (xs : List X) → filter (λ (x : X). true) xs ≡ xs
filter_all [] = refl
filter_all (x ∷ xs) = ap (λ ys. x ∷ ys) (filter_all xs)

-- The queues after a session's wait on an object is gone.
pub waits-left : (ws : List PartWait) (s : ℕ) (t : Tag) →
    queues_in (filter (λ wait. not (is_request_on (request_of wait) s t)) ws) ≡ put tag_eq (queues_in ws) t (queue_without (queues_in ws t) s)
waits-left ws s t = λ i o. at o i where
  stays : PartWait → Bool
  stays wait = not (is_request_on (request_of wait) s t)

  here : (wait : PartWait) → tag_eq t wait.tag ≡ true → stays wait ≡ not (wait.waiter.session == s)
  here wait on = ap not (sym (is_its s t wait) ∙ ap (λ b. b && (wait.waiter.session == s)) on)

  there : (o : Tag) → tag_eq o t ≡ false → (wait : PartWait) → tag_eq o wait.tag ≡ true → stays wait ≡ true
  there o other wait on =
      let same : o ≡ wait.tag = tag_eq-same o wait.tag on in
      let off : tag_eq t wait.tag ≡ false = false_from_ne_true (tag_eq t wait.tag) (λ it.
      false≢true (sym other ∙ ap (λ x. tag_eq x t) same ∙ ap (λ x. tag_eq x t) (sym (tag_eq-same t wait.tag it)) ∙ tag_eq-refl t)) in
      ap not (sym (is_its s t wait) ∙ ap (λ b. b && (wait.waiter.session == s)) off)

  at : (o : Tag) → queues_in (filter stays ws) o ≡ put tag_eq (queues_in ws) t (queue_without (queues_in ws t) s) o
  at o =
      elim (cases_Bool (tag_eq o t)) [
        | inl same ↦
            ap (queues_in (filter stays ws)) (tag_eq-same o t same)
            ∙ kept_of_kept (λ wait. not (wait.session == s)) (λ (wait : PartWait). shown_wait wait.waiter) (λ wait. tag_eq t wait.tag) stays here ws
            ∙ sym (put_here tag_eq (queues_in ws) t (queue_without (queues_in ws t) s) o same)
        | inr other ↦
            kept_of_kept (λ (wait : Wait). true) (λ (wait : PartWait). shown_wait wait.waiter) (λ wait. tag_eq o wait.tag) stays (there o other) ws
            ∙ filter_all (queues_in ws o) ∙ sym (put_else tag_eq (queues_in ws) t (queue_without (queues_in ws t) s) o other)
      ]

-- The queues after a wait joined at its place: that many waits of its object are before it in the list.
pub waits-joined : (xs : List PartWait) (w : PartWait) (ys : List PartWait) (place : ℕ) → length (queues_in xs w.tag) ≡ place →
    queues_in (xs ++ w ∷ ys)
    ≡ put tag_eq (queues_in (xs ++ ys)) w.tag (take place (queues_in (xs ++ ys) w.tag) ++ shown_wait w.waiter ∷ drop place (queues_in (xs ++ ys) w.tag))
waits-joined xs w ys place before = λ i o. at o i where
  queue : List Wait
  queue = take place (queues_in (xs ++ ys) w.tag) ++ shown_wait w.waiter ∷ drop place (queues_in (xs ++ ys) w.tag)

  here : queues_in (xs ++ w ∷ ys) w.tag ≡ queue
  here =
      waits_in-append xs (w ∷ ys) w.tag ∙ ap (λ q. queues_in xs w.tag ++ q) (waits_in-on w ys w.tag (tag_eq-refl w.tag))
      ∙ rw (waits_in-append xs ys w.tag, take_at (queues_in xs w.tag) (queues_in ys w.tag) place before, drop_at (queues_in xs w.tag) (queues_in ys w.tag) place before) refl

  at : (o : Tag) → queues_in (xs ++ w ∷ ys) o ≡ put tag_eq (queues_in (xs ++ ys)) w.tag queue o
  at o =
      elim (cases_Bool (tag_eq o w.tag)) [
        | inl same ↦ ap (queues_in (xs ++ w ∷ ys)) (tag_eq-same o w.tag same) ∙ here ∙ sym (put_here tag_eq (queues_in (xs ++ ys)) w.tag queue o same)
        | inr other ↦ waits_in-without xs w ys o other ∙ sym (put_else tag_eq (queues_in (xs ++ ys)) w.tag queue o other)
      ]

-- A session that doesn't wait on the object may join its queue.
pub OneWaitEach-join : (xs : List PartWait) (w : PartWait) (ys : List PartWait) → waits_there (queues_in (xs ++ ys) w.tag) w.waiter.session ≡ false → OneWaitEach (xs ++ ys) → OneWaitEach (xs ++ w ∷ ys)
OneWaitEach-join xs w ys absent each s o =
    let more : count_by (λ wait. is_request_on (request_of wait) s o) (xs ++ w ∷ ys) ≡ count_by (λ wait. is_request_on (request_of wait) s o) (xs ++ ys) + (if is_request_on (request_of w) s o then 1 else 0) =
    count_by-insert (λ wait. is_request_on (request_of wait) s o) w xs ys in
    elim (cases_Bool (is_request_on (request_of w) s o)) [
      | inl is ↦
          let both = both_true _ _ is in
          let session : s ≡ w.waiter.session = eqb-true s w.waiter.session both.0 in
          let tag : o ≡ w.tag = tag_eq-same o w.tag both.1 in
          let none : count_by (λ wait. is_request_on (request_of wait) s o) (xs ++ ys) ≡ 0 =
          rw (session, tag) (count_by-none (λ wait. is_request_on (request_of wait) w.waiter.session w.tag) (xs ++ ys) (sym (there-in (xs ++ ys) w.waiter.session w.tag) ∙ absent)) in
          let one : ◌≡◌ {A = ℕ} (if is_request_on (request_of w) s o then 1 else 0) 1 = rw is refl in
          omega arith
      | inr other ↦
          let none : ◌≡◌ {A = ℕ} (if is_request_on (request_of w) s o then 1 else 0) 0 = rw other refl in
          omega (arith, each s o)
    ]

-- A session may join the queue of the content at an index of a list.
pub times_in-join :
    (hs : List Request) (ws : List PartWait) (i : ℕ) (w : PartWait) → times_in hs ws w.waiter.session w.tag w.waiter.mode ≡ 0 → EachOnce hs ws → EachOnce hs (insert ws i w)
times_in-join hs ws i w new once =
    one_more_once (times_in hs ws) (times_in hs (insert ws i w)) (request_of w) new
    (λ s o m. times_in-wait hs (take i ws) (drop i ws) w s o m ∙ ap (λ xs. times_in hs xs s o m + (if is_request_of (request_of w) s o m then 1 else 0)) (take-append-drop i ws)) once

pub OneWaitEach-insert : (ws : List PartWait) (i : ℕ) (w : PartWait) → waits_there (queues_in ws w.tag) w.waiter.session ≡ false → OneWaitEach ws → OneWaitEach (insert ws i w)
OneWaitEach-insert ws i w absent each =
    OneWaitEach-join (take i ws) w (drop i ws)
    (ap (λ xs. waits_there (queues_in xs w.tag) w.waiter.session) (take-append-drop i ws) ∙ absent) (subst OneWaitEach (sym (take-append-drop i ws)) each)

pub waits-inserted : (ws : List PartWait) (i : ℕ) (w : PartWait) (place : ℕ) → length (queues_in (take i ws) w.tag) ≡ place →
    queues_in (insert ws i w) ≡ put tag_eq (queues_in ws) w.tag (take place (queues_in ws w.tag) ++ shown_wait w.waiter ∷ drop place (queues_in ws w.tag))
waits-inserted ws i w place before =
    waits-joined (take i ws) w (drop i ws) place before
    ∙ ap (λ xs. put tag_eq (queues_in xs) w.tag (take place (queues_in xs w.tag) ++ shown_wait w.waiter ∷ drop place (queues_in xs w.tag))) (take-append-drop i ws)

-- Whether a wait of the object's queue is for a mode in conflict with the mode.
pub awaited-against : (ws : List PartWait) (o : Tag) (mode : Mode) → some_awaits_conflict (queues_in ws o) mode ≡ list_any (λ wait. awaits_one_of wait o (conflict mode)) ws
awaited-against ws o mode = any-kept (λ (wait : Wait). conflict mode wait.mode) (λ (wait : PartWait). shown_wait wait.waiter) (λ (wait : PartWait). tag_eq o wait.tag) ws
