use Rattle.std.proofs.Common.{◌≡◌, ◌≢◌, ℕ, ◌+◌, ◌-◌, ◌<◌, ◌≤◌, true, false, not, cond, ◌==◌, List, [], ◌∷◌, length, suc, zero, refl, sym, ap, ◌∙◌, inl, inr, arith}
use Rattle.std.specs.Prelude.{Option, Some, None, IfSome, map, filter, find}
use Rattle.std.specs.Option.{option_map}
use Rattle.std.specs.List.{cons_option}
use Rattle.std.proofs.lemmas.Bool.{false≢true, cases_Bool, ne_eqb}
use Rattle.modes_core.specs.declared.sessions.Owner.{Owner}
use Rattle.modes_core.specs.declared.sessions.Owner.TheVariants.{Session, Transaction}
use Rattle.modes_core.specs.declared.modes.Mode.{Mode}
use Rattle.modes_core.specs.declared.tags.Tag.{Tag}
use Rattle.modes_core.specs.declared.tags.LockMethod.{LockMethod}
use Rattle.modes_core.specs.declared.tags.LockMethod.TheVariants.{Default, User}
use Rattle.modes_core.specs.Tag.{method_of}
use Rattle.local_locks.specs.declared.records.Entry.{Entry}
use Rattle.local_locks.specs.declared.ends.End.{End}
use Rattle.local_locks.specs.declared.ends.End.TheVariants.{Commit, Abort, Close, Inner}
use Rattle.local_locks.specs.Owned.{count_for, count_in_all, lowered, raised, kept_by_abort, is_ended, after_end, ended_by, left_by, with_next_ended}
use Rattle.local_locks.specs.Slots.{Slots, slot_at, present}
use Rattle.local_locks.proofs.Lemmas.OpenSlots.{raised-held, lowered-held}

-- ---- what an end does to one entry

kept_by_abort-twice : (method : LockMethod) (n : ℕ) → kept_by_abort method (kept_by_abort method n) ≡ kept_by_abort method n
kept_by_abort-twice Default n = refl
kept_by_abort-twice User n = refl

-- nothing is added
pub kept_by_abort-fewer : (method : LockMethod) (n : ℕ) → kept_by_abort method n ≤ n
kept_by_abort-fewer Default n = omega arith
kept_by_abort-fewer User n = omega arith

-- a method that keeps some count keeps any
kept_by_abort-any : (method : LockMethod) (some count : ℕ) → 0 < some → kept_by_abort method some ≡ some → kept_by_abort method count ≡ count
kept_by_abort-any Default some count above kept = absurd (omega arith)
kept_by_abort-any User some count above kept = refl

-- done once more, it changes nothing
pub after_end-after_end : (end : End) (e : Entry) → after_end end (after_end end e) ≡ after_end end e
after_end-after_end Commit e = refl
after_end-after_end Abort e = ap (λ n. record e { transaction = 0; session = n }) (kept_by_abort-twice (method_of e.tag) e.session)
after_end-after_end Close e = refl
after_end-after_end Inner e = refl

pub is_ended-after_end : (end : End) (e : Entry) → is_ended end (after_end end e) ≡ is_ended end e
is_ended-after_end Commit e = refl
is_ended-after_end Abort e = ap (λ n. 0 + n == 0) (kept_by_abort-twice (method_of e.tag) e.session)
is_ended-after_end Close e = refl
is_ended-after_end Inner e = refl

-- The end keeps the entry with its counts.
abbrev pub Keeps : End → Entry → Type 0
Keeps end e = (is_ended end e ≡ false) × (after_end end e ≡ e)

-- what an end keeps it keeps after a release that leaves a count
pub Keeps-lowered : (end : End) (owner : Owner) (e : Entry) → Keeps end e → 0 < count_for owner e → count_in_all e ≢ 1 → Keeps end (lowered owner e)
Keeps-lowered Commit Session e keeps some more =
    let none : 0 ≡ e.transaction = ap (λ x. x.transaction) keeps.1 in
    (ne_eqb (0 + (e.session - 1)) 0 (λ q. more (omega arith)), ap (lowered Session) keeps.1)
Keeps-lowered Commit Transaction e keeps some more =
    let none : 0 ≡ e.transaction = ap (λ x. x.transaction) keeps.1 in
    absurd (omega arith)
Keeps-lowered Abort Session e keeps some more =
    let none : 0 ≡ e.transaction = ap (λ x. x.transaction) keeps.1 in
    let all : kept_by_abort (method_of e.tag) e.session ≡ e.session = ap (λ x. x.session) keeps.1 in
    let here = kept_by_abort-any (method_of e.tag) e.session (e.session - 1) some all in
    (ne_eqb (0 + kept_by_abort (method_of e.tag) (e.session - 1)) 0 (λ q. more (omega (arith, here))), λ i. record e { transaction = none i; session = here i })
Keeps-lowered Abort Transaction e keeps some more =
    let none : 0 ≡ e.transaction = ap (λ x. x.transaction) keeps.1 in
    absurd (omega arith)
Keeps-lowered Close owner e keeps some more = absurd (false≢true (sym keeps.0))
Keeps-lowered Inner owner e keeps some more = (ne_eqb _ 0 (lowered-held owner e some more), refl)

-- and after one more acquire by an owner that has it
pub Keeps-raised : (end : End) (owner : Owner) (e : Entry) → Keeps end e → 0 < count_for owner e → Keeps end (raised owner e)
Keeps-raised Commit Session e keeps some = (ne_eqb (0 + (e.session + 1)) 0 (λ q. omega arith), ap (raised Session) keeps.1)
Keeps-raised Commit Transaction e keeps some =
    let none : 0 ≡ e.transaction = ap (λ x. x.transaction) keeps.1 in
    absurd (omega arith)
Keeps-raised Abort Session e keeps some =
    let none : 0 ≡ e.transaction = ap (λ x. x.transaction) keeps.1 in
    let all : kept_by_abort (method_of e.tag) e.session ≡ e.session = ap (λ x. x.session) keeps.1 in
    let here = kept_by_abort-any (method_of e.tag) e.session (e.session + 1) some all in
    (ne_eqb (0 + kept_by_abort (method_of e.tag) (e.session + 1)) 0 (λ q. omega (arith, here)), λ i. record e { transaction = none i; session = here i })
Keeps-raised Abort Transaction e keeps some =
    let none : 0 ≡ e.transaction = ap (λ x. x.transaction) keeps.1 in
    absurd (omega arith)
Keeps-raised Close owner e keeps some = absurd (false≢true (sym keeps.0))
Keeps-raised Inner owner e keeps some = (ne_eqb _ 0 (raised-held owner e), refl)

-- ---- what one step of an end does to a list of entries

pub ended_by-next : (end : End) (es : List Entry) (e : Entry) → find (is_ended end) es ≡ Some e → ended_by end es ≡ (e.tag, e.mode) ∷ ended_by end (with_next_ended end es)
ended_by-next end [] e found = absurd (let bad : None ≡ Some e = found in cc)
ended_by-next end (x ∷ es) e found =
    elim (cases_Bool (is_ended end x)) [
      | inl ends ↦
          let both : Some x ≡ Some e = sym (ap (λ b. cond b (Some x) (find (is_ended end) es)) ends) ∙ found in
          let same : x ≡ e = cc in
          ap (λ b. map (λ entry. (entry.tag, entry.mode)) (cond b (x ∷ filter (is_ended end) es) (filter (is_ended end) es))) ends
          ∙ (λ i. ((same i).tag, (same i).mode) ∷ ended_by end (sym (ap (λ b. cond b es (after_end end x ∷ with_next_ended end es)) ends) i))
      | inr no_end ↦
          let later : find (is_ended end) es ≡ Some e = sym (ap (λ b. cond b (Some x) (find (is_ended end) es)) no_end) ∙ found in
          let after : is_ended end (after_end end x) ≡ false = is_ended-after_end end x ∙ no_end in
          ap (λ b. map (λ entry. (entry.tag, entry.mode)) (cond b (x ∷ filter (is_ended end) es) (filter (is_ended end) es))) no_end
          ∙ (ended_by-next end es e later
          ∙ ap (λ l. (e.tag, e.mode) ∷ l)
          (sym (ap (λ b. ended_by end (cond b es (after_end end x ∷ with_next_ended end es))) no_end
          ∙ ap (λ b. map (λ entry. (entry.tag, entry.mode)) (cond b (after_end end x ∷ filter (is_ended end) (with_next_ended end es)) (filter (is_ended end) (with_next_ended end es)))) after)))
    ]

pub ended_by-none : (end : End) (es : List Entry) → find (is_ended end) es ≡ None → ended_by end es ≡ []
ended_by-none end [] none = refl
ended_by-none end (x ∷ es) none =
    elim (cases_Bool (is_ended end x)) [
      | inl ends ↦ absurd (let bad : Some x ≡ None = sym (ap (λ b. cond b (Some x) (find (is_ended end) es)) ends) ∙ none in cc)
      | inr no_end ↦
          ap (λ b. map (λ entry. (entry.tag, entry.mode)) (cond b (x ∷ filter (is_ended end) es) (filter (is_ended end) es))) no_end
          ∙ ended_by-none end es (sym (ap (λ b. cond b (Some x) (find (is_ended end) es)) no_end) ∙ none)
    ]

left_by-cons : (end : End) (x : Entry) (es : List Entry) → is_ended end x ≡ false → left_by end (x ∷ es) ≡ after_end end x ∷ left_by end es
left_by-cons end x es no_end =
    ap (λ b. map (after_end end) (cond (not b) (x ∷ filter (λ entry. not (is_ended end entry)) es) (filter (λ entry. not (is_ended end entry)) es))) no_end

left_by-skip : (end : End) (x : Entry) (es : List Entry) → is_ended end x ≡ true → left_by end (x ∷ es) ≡ left_by end es
left_by-skip end x es ends =
    ap (λ b. map (after_end end) (cond (not b) (x ∷ filter (λ entry. not (is_ended end entry)) es) (filter (λ entry. not (is_ended end entry)) es))) ends

pub left_by-next : (end : End) (es : List Entry) → left_by end (with_next_ended end es) ≡ left_by end es
left_by-next end [] = refl
left_by-next end (x ∷ es) =
    elim (cases_Bool (is_ended end x)) [
      | inl ends ↦ ap (λ b. left_by end (cond b es (after_end end x ∷ with_next_ended end es))) ends ∙ sym (left_by-skip end x es ends)
      | inr no_end ↦
          ap (λ b. left_by end (cond b es (after_end end x ∷ with_next_ended end es))) no_end
          ∙ (left_by-cons end (after_end end x) (with_next_ended end es) (is_ended-after_end end x ∙ no_end)
          ∙ ((λ i. after_end-after_end end x i ∷ left_by-next end es i) ∙ sym (left_by-cons end x es no_end)))
    ]

pub with_next_ended-none : (end : End) (es : List Entry) → find (is_ended end) es ≡ None → with_next_ended end es ≡ left_by end es
with_next_ended-none end [] none = refl
with_next_ended-none end (x ∷ es) none =
    elim (cases_Bool (is_ended end x)) [
      | inl ends ↦ absurd (let bad : Some x ≡ None = sym (ap (λ b. cond b (Some x) (find (is_ended end) es)) ends) ∙ none in cc)
      | inr no_end ↦
          ap (λ b. cond b es (after_end end x ∷ with_next_ended end es)) no_end
          ∙ (ap (λ l. after_end end x ∷ l) (with_next_ended-none end es (sym (ap (λ b. cond b (Some x) (find (is_ended end) es)) no_end) ∙ none))
          ∙ sym (left_by-cons end x es no_end))
    ]

-- where nothing is taken away, what is left is as after a step
pub with_next_ended-left : (end : End) (es : List Entry) → ended_by end es ≡ [] → with_next_ended end es ≡ left_by end es
with_next_ended-left end [] none = refl
with_next_ended-left end (x ∷ es) none =
    elim (cases_Bool (is_ended end x)) [
      | inl ends ↦
          let bad : (x.tag, x.mode) ∷ ended_by end es ≡ [] =
          sym (ap (λ b. map {B = Tag × Mode} (λ entry. (entry.tag, entry.mode)) (cond b (x ∷ filter (is_ended end) es) (filter (is_ended end) es))) ends) ∙ none in
          absurd (let no : (x.tag, x.mode) ∷ ended_by end es ≡ [] = bad in cc)
      | inr no_end ↦
          let later : ended_by end es ≡ [] =
          sym (ap (λ b. map {B = Tag × Mode} (λ entry. (entry.tag, entry.mode)) (cond b (x ∷ filter (is_ended end) es) (filter (is_ended end) es))) no_end) ∙ none in
          ap (λ b. cond b es (after_end end x ∷ with_next_ended end es)) no_end
          ∙ (ap (λ l. after_end end x ∷ l) (with_next_ended-left end es later) ∙ sym (left_by-cons end x es no_end))
    ]

-- ---- the same on slots

pub present-same : (a b : Slots) → ((k : ℕ) → slot_at a k ≡ slot_at b k) → present a ≡ present b
present-same [] [] same = refl
present-same [] (y ∷ b) same = present-same [] b (λ k. same (suc k)) ∙ ap (λ o. cons_option o (present b)) (same zero)
present-same (x ∷ a) [] same = ap (λ o. cons_option o (present a)) (same zero) ∙ present-same a [] (λ k. same (suc k))
present-same (x ∷ a) (y ∷ b) same = λ i. cons_option (same zero i) (present-same a b (λ k. same (suc k)) i)

-- The end kept each entry before a place, where the first one was that it took away, and has left those after
-- it.
pub record Stopped (end : End) (old new : Slots) (place : ℕ) (e : Entry) : Type 0 where
  pub kept : (k : ℕ) → k < place → IfSome (slot_at old k) (λ x. is_ended end x ≡ false)
  pub settled : (k : ℕ) → k < place → slot_at new k ≡ option_map (after_end end) (slot_at old k)
  pub there : slot_at old place ≡ Some e
  pub ended : is_ended end e ≡ true
  pub gone : slot_at new place ≡ None
  pub others : (k : ℕ) → place < k → slot_at new k ≡ slot_at old k

stopped-rest : (end : End) (x y : Option Entry) (old new : Slots) (place : ℕ) (e : Entry) → Stopped end (x ∷ old) (y ∷ new) (suc place) e → Stopped end old new place e
stopped-rest end x y old new place e s =
    record {
      kept = λ k before. s.kept (suc k) (omega arith);
      settled = λ k before. s.settled (suc k) (omega arith);
      there = s.there;
      ended = s.ended;
      gone = s.gone;
      others = λ k behind. s.others (suc k) (omega arith);
    }

pub find-stopped : (end : End) (old new : Slots) (place : ℕ) (e : Entry) → Stopped end old new place e → length new ≡ length old → find (is_ended end) (present old) ≡ Some e
find-stopped end [] new place e s len = absurd (let bad : None ≡ Some e = s.there in cc)
find-stopped end (x ∷ old) [] place e s len = absurd (omega arith)
find-stopped end (None ∷ old) (y ∷ new) zero e s len = absurd (let bad : None ≡ Some e = s.there in cc)
find-stopped end (Some x ∷ old) (y ∷ new) zero e s len =
    let both : Some x ≡ Some e = s.there in
    let same : x ≡ e = cc in
    ap (λ b. cond b (Some x) (find (is_ended end) (present old))) (ap (is_ended end) same ∙ s.ended) ∙ both
find-stopped end (None ∷ old) (y ∷ new) (suc place) e s len = find-stopped end old new place e (stopped-rest end None y old new place e s) (omega arith)
find-stopped end (Some x ∷ old) (y ∷ new) (suc place) e s len =
    ap (λ b. cond b (Some x) (find (is_ended end) (present old))) (s.kept zero (omega arith))
    ∙ find-stopped end old new place e (stopped-rest end (Some x) y old new place e s) (omega arith)

pub present-stopped : (end : End) (old new : Slots) (place : ℕ) (e : Entry) → Stopped end old new place e → length new ≡ length old → present new ≡ with_next_ended end (present old)
present-stopped end [] new place e s len = absurd (let bad : None ≡ Some e = s.there in cc)
present-stopped end (x ∷ old) [] place e s len = absurd (omega arith)
present-stopped end (None ∷ old) (y ∷ new) zero e s len = absurd (let bad : None ≡ Some e = s.there in cc)
present-stopped end (Some x ∷ old) (y ∷ new) zero e s len =
    let both : Some x ≡ Some e = s.there in
    let same : x ≡ e = cc in
    ap (λ o. cons_option o (present new)) s.gone
    ∙ (present-same new old (λ k. s.others (suc k) (omega arith))
    ∙ sym (ap (λ b. cond b (present old) (after_end end x ∷ with_next_ended end (present old))) (ap (is_ended end) same ∙ s.ended)))
present-stopped end (None ∷ old) (y ∷ new) (suc place) e s len =
    ap (λ o. cons_option o (present new)) (s.settled zero (omega arith))
    ∙ present-stopped end old new place e (stopped-rest end None y old new place e s) (omega arith)
present-stopped end (Some x ∷ old) (y ∷ new) (suc place) e s len =
    ap (λ o. cons_option o (present new)) (s.settled zero (omega arith))
    ∙ (ap (λ l. after_end end x ∷ l) (present-stopped end old new place e (stopped-rest end (Some x) y old new place e s) (omega arith))
    ∙ sym (ap (λ b. cond b (present old) (after_end end x ∷ with_next_ended end (present old))) (s.kept zero (omega arith))))

-- The end kept each entry, and is at the end of the slots.
pub record Passed (end : End) (old new : Slots) : Type 0 where
  pub kept : (k : ℕ) → k < length old → IfSome (slot_at old k) (λ x. is_ended end x ≡ false)
  pub settled : (k : ℕ) → k < length old → slot_at new k ≡ option_map (after_end end) (slot_at old k)
  pub number : length new ≡ length old

passed-rest : (end : End) (x y : Option Entry) (old new : Slots) → Passed end (x ∷ old) (y ∷ new) → Passed end old new
passed-rest end x y old new s =
    let number : suc (length new) ≡ suc (length old) = s.number in
    record {
      kept = λ k before. s.kept (suc k) (omega arith);
      settled = λ k before. s.settled (suc k) (omega arith);
      number = omega arith;
    }

pub find-passed : (end : End) (old new : Slots) → Passed end old new → find (is_ended end) (present old) ≡ None
find-passed end [] new s = refl
find-passed end (x ∷ old) [] s = absurd (let number : zero ≡ suc (length old) = s.number in omega arith)
find-passed end (None ∷ old) (y ∷ new) s = find-passed end old new (passed-rest end None y old new s)
find-passed end (Some x ∷ old) (y ∷ new) s =
    ap (λ b. cond b (Some x) (find (is_ended end) (present old))) (s.kept zero (omega arith))
    ∙ find-passed end old new (passed-rest end (Some x) y old new s)

pub present-passed : (end : End) (old new : Slots) → Passed end old new → present new ≡ with_next_ended end (present old)
present-passed end [] [] s = refl
present-passed end [] (y ∷ new) s = absurd (let number : suc (length new) ≡ zero = s.number in omega arith)
present-passed end (x ∷ old) [] s = absurd (let number : zero ≡ suc (length old) = s.number in omega arith)
present-passed end (None ∷ old) (y ∷ new) s =
    ap (λ o. cons_option o (present new)) (s.settled zero (omega arith)) ∙ present-passed end old new (passed-rest end None y old new s)
present-passed end (Some x ∷ old) (y ∷ new) s =
    ap (λ o. cons_option o (present new)) (s.settled zero (omega arith))
    ∙ (ap (λ l. after_end end x ∷ l) (present-passed end old new (passed-rest end (Some x) y old new s))
    ∙ sym (ap (λ b. cond b (present old) (after_end end x ∷ with_next_ended end (present old))) (s.kept zero (omega arith))))
