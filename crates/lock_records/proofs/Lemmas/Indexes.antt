use Rattle.std.proofs.Common.{◌≡◌, ◌≢◌, ◌⊎◌, ℕ, ◌+◌, ◌<◌, true, ◌==◌, List, Option, Some, None, arith, refl, sym, ap, ◌∙◌, subst, inl, inr}
use Rattle.std.specs.Prelude.{if◌then◌else◌}
use Rattle.std.proofs.lemmas.Bool.{cases_eq, cases_Bool, eq-eqb, ne_eqb}
use Rattle.modes_core.specs.declared.tags.Tag.{Tag}
use Rattle.modes_core.specs.Tag.{tag_eq}
use Rattle.modes_core.proofs.Lemmas.Conflicts.{tag_eq-refl}
use Rattle.lock_table.proofs.Lemmas.Options.{one_some}
use Rattle.place_index.specs.Notes.{Notes, times, once_at, IsOneMore}
use Rattle.lock_records.specs.declared.locks.LockRecord.{LockRecord}
use Rattle.lock_records.specs.Locks.{lock_at, is_on, key_of, note_times, IsLockAt, HasNoLock, AreNoted, HasSameLocks, IsRelocked}

pub same-lock : (slots : List (Option LockRecord)) (k : ℕ) (l m : LockRecord) → lock_at slots k ≡ Some l → lock_at slots k ≡ Some m → l ≡ m
same-lock slots k l m one two = one_some (lock_at slots k) l m one two

-- A place with a record of the object passes the test, and is noted under the object's key.
pub is_on-at : (slots : List (Option LockRecord)) (tag : Tag) (k : ℕ) → IsLockAt slots tag k → is_on tag (lock_at slots k) ≡ true
is_on-at slots tag k i = ap (is_on tag) i.there ∙ ap (tag_eq tag) i.on ∙ tag_eq-refl tag

pub noted-at : (slots : List (Option LockRecord)) (index : Notes) (tag : Tag) (k : ℕ) → AreNoted slots index → IsLockAt slots tag k → times index (key_of tag) k ≡ 1
noted-at slots index tag k are i =
    are.noted k (key_of tag) ∙ ap (λ slot. note_times slot (key_of tag)) i.there
    ∙ ap (λ t. if key_of tag == key_of t then 1 else 0) i.on ∙ ap (λ b. if b then 1 else 0) (eq-eqb (key_of tag) (key_of tag) refl)

once-here : (key place h : ℕ) → once_at key place h place ≡ (if h == key then 1 else 0)
once-here key place h =
    elim (cases_Bool (h == key)) [
      | inl same ↦ rw (same, eq-eqb place place refl) refl
      | inr other ↦ rw other refl
    ]

once-else : (key place h p : ℕ) → p ≢ place → once_at key place h p ≡ 0
once-else key place h p other =
    elim (cases_Bool (h == key)) [
      | inl same ↦ rw (same, ne_eqb p place other) refl
      | inr differs ↦ rw differs refl
    ]

-- A record is made at a vacant place, of an object that had none.
pub noted-made :
    (old new : List (Option LockRecord)) (index index' : Notes) (tag : Tag) (place : ℕ) (l : LockRecord) → AreNoted old index → lock_at old place ≡ None → HasNoLock old tag →
    lock_at new place ≡ Some l → l.tag ≡ tag → ((k : ℕ) → k ≢ place → lock_at new k ≡ lock_at old k) →
    IsOneMore index index' (key_of tag) place → place < index.places → index'.places ≡ index.places → AreNoted new index'
noted-made old new index index' tag place l are vacant absent here on rest more small places = record { noted = noted; once = once; within = within } where
  noted : (p key : ℕ) → times index' key p ≡ note_times (lock_at new p) key
  noted p key =
      elim (cases_eq p place) [
        | inl e ↦
            let was : times index key place ≡ 0 = are.noted place key ∙ ap (λ slot. note_times slot key) vacant in
            let now : times index' key place ≡ times index key place + once_at (key_of tag) place key place = more key place in
            ap (times index' key) e
            ∙ (let sum : times index' key place ≡ once_at (key_of tag) place key place = omega arith in sum)
            ∙ once-here (key_of tag) place key
            ∙ ap (λ t. if key == key_of t then 1 else 0) (sym on)
            ∙ ap (λ slot. note_times slot key) (sym here) ∙ ap (λ k. note_times (lock_at new k) key) (sym e)
        | inr other ↦
            let now : times index' key p ≡ times index key p + once_at (key_of tag) place key p = more key p in
            let none : once_at (key_of tag) place key p ≡ 0 = once-else (key_of tag) place key p other in
            (let sum : times index' key p ≡ times index key p = omega arith in sum) ∙ are.noted p key ∙ ap (λ slot. note_times slot key) (sym (rest p other))
      ]

  stood : (t : Tag) (k : ℕ) → IsLockAt new t k → ((k ≡ place) × (t ≡ tag)) ⊎ ((k ≢ place) × IsLockAt old t k)
  stood t k i =
      elim (cases_eq k place) [
        | inl e ↦ inl (e, sym i.on ∙ ap (λ (x : LockRecord). x.tag) (same-lock new place _ _ (ap (lock_at new) (sym e) ∙ i.there) here) ∙ on)
        | inr other ↦ inr (other, record { lock = i.lock; there = sym (rest k other) ∙ i.there; on = i.on })
      ]

  once : (t : Tag) (k j : ℕ) → IsLockAt new t k → IsLockAt new t j → k ≡ j
  once t k j one two =
      elim (stood t k one) [
        | inl a ↦ elim (stood t j two) [ inl b ↦ a.0 ∙ sym b.0 | inr b ↦ absurd (absent j (subst (λ x. IsLockAt old x j) a.1 b.1)) ]
        | inr a ↦ elim (stood t j two) [ inl b ↦ absurd (absent k (subst (λ x. IsLockAt old x k) b.1 a.1)) | inr b ↦ are.once t k j a.1 b.1 ]
      ]

  within : (t : Tag) (k : ℕ) → IsLockAt new t k → k < index'.places
  within t k i =
      elim (stood t k i) [
        | inl a ↦ let e = a.0 in omega arith
        | inr a ↦ let w = are.within t k a.1 in omega arith
      ]

-- A record is taken out.
pub noted-dropped :
    (old new : List (Option LockRecord)) (index index' : Notes) (tag : Tag) (place : ℕ) → AreNoted old index → IsLockAt old tag place →
    lock_at new place ≡ None → ((k : ℕ) → k ≢ place → lock_at new k ≡ lock_at old k) →
    IsOneMore index' index (key_of tag) place → index'.places ≡ index.places → AreNoted new index'
noted-dropped old new index index' tag place are i here rest more places = record { noted = noted; once = once; within = within } where
  noted : (p key : ℕ) → times index' key p ≡ note_times (lock_at new p) key
  noted p key =
      elim (cases_eq p place) [
        | inl e ↦
            let was : times index key place ≡ (if key == key_of tag then 1 else 0) =
            are.noted place key ∙ ap (λ slot. note_times slot key) i.there ∙ ap (λ t. if key == key_of t then 1 else 0) i.on in
            let now : times index key place ≡ times index' key place + once_at (key_of tag) place key place = more key place in
            let one : once_at (key_of tag) place key place ≡ (if key == key_of tag then 1 else 0) = once-here (key_of tag) place key in
            ap (times index' key) e
            ∙ (let left : times index' key place ≡ 0 = omega arith in left)
            ∙ ap (λ slot. note_times slot key) (sym here) ∙ ap (λ k. note_times (lock_at new k) key) (sym e)
        | inr other ↦
            let now : times index key p ≡ times index' key p + once_at (key_of tag) place key p = more key p in
            let none : once_at (key_of tag) place key p ≡ 0 = once-else (key_of tag) place key p other in
            (let same : times index' key p ≡ times index key p = omega arith in same) ∙ are.noted p key ∙ ap (λ slot. note_times slot key) (sym (rest p other))
      ]

  stood : (t : Tag) (k : ℕ) → IsLockAt new t k → IsLockAt old t k
  stood t k n =
      elim (cases_eq k place) [
        | inl e ↦ let none : lock_at new k ≡ None = ap (lock_at new) e ∙ here in let it = n.there in let no_way : ⊥ = cc in absurd no_way
        | inr other ↦ record { lock = n.lock; there = sym (rest k other) ∙ n.there; on = n.on }
      ]

  once : (t : Tag) (k j : ℕ) → IsLockAt new t k → IsLockAt new t j → k ≡ j
  once t k j one two = are.once t k j (stood t k one) (stood t j two)

  within : (t : Tag) (k : ℕ) → IsLockAt new t k → k < index'.places
  within t k n = let w = are.within t k (stood t k n) in omega arith

-- The object has no record any more, and others have theirs.
pub gone-dropped : (old new : List (Option LockRecord)) (index : Notes) (tag : Tag) (place : ℕ) → AreNoted old index → IsLockAt old tag place →
    lock_at new place ≡ None → ((k : ℕ) → k ≢ place → lock_at new k ≡ lock_at old k) → HasNoLock new tag
gone-dropped old new index tag place are i here rest k n =
    elim (cases_eq k place) [
      | inl e ↦ let none : lock_at new k ≡ None = ap (lock_at new) e ∙ here in let it = n.there in let no_way : ⊥ = cc in absurd no_way
      | inr other ↦ other (are.once tag k place (record { lock = n.lock; there = sym (rest k other) ∙ n.there; on = n.on }) i)
    ]

-- One place was written: what stood there and what stands there are of the object, if they are of any.
pub same-locks : (old new : List (Option LockRecord)) (tag : Tag) (place : ℕ) → ((l : LockRecord) → lock_at old place ≡ Some l → l.tag ≡ tag) → ((l : LockRecord) → lock_at new place ≡ Some l → l.tag ≡ tag) →
    ((k : ℕ) → k ≢ place → lock_at new k ≡ lock_at old k) → HasSameLocks old new tag
same-locks old new tag place was is rest = record {
  kept = λ k l there other. rest k (λ e. other (was l (ap (lock_at old) (sym e) ∙ there))) ∙ there;
  no_more = λ k l there other. sym (rest k (λ e. other (is l (ap (lock_at new) (sym e) ∙ there)))) ∙ there;
}

pub nothing-there : (slots : List (Option LockRecord)) (place : ℕ) (A : Type 0) (l : LockRecord) → lock_at slots place ≡ None → lock_at slots place ≡ Some l → A
nothing-there slots place A l none there = let no_way : ⊥ = cc in absurd no_way

-- Another record of the same object leaves the notes right, and other objects' records.
pub noted-relocked : (old new : List (Option LockRecord)) (index : Notes) (tag : Tag) (place : ℕ) → IsRelocked old new tag place → AreNoted old index → AreNoted new index
noted-relocked old new index tag place r are = record { noted = noted; once = λ t k j one two. are.once t k j (stood t k one) (stood t j two); within = λ t k n. are.within t k (stood t k n) } where
  tags : r.was.lock.tag ≡ r.is.lock.tag
  tags = r.was.on ∙ sym r.is.on

  noted : (p key : ℕ) → times index key p ≡ note_times (lock_at new p) key
  noted p key =
      are.noted p key ∙ elim (cases_eq p place) [
        | inl e ↦
            ap (λ k. note_times (lock_at old k) key) e ∙ ap (λ slot. note_times slot key) r.was.there ∙ ap (λ t. if key == key_of t then 1 else 0) tags
            ∙ ap (λ slot. note_times slot key) (sym r.is.there) ∙ ap (λ k. note_times (lock_at new k) key) (sym e)
        | inr other ↦ ap (λ slot. note_times slot key) (sym (r.others p other))
      ]

  stood : (t : Tag) (k : ℕ) → IsLockAt new t k → IsLockAt old t k
  stood t k n =
      elim (cases_eq k place) [
        | inl e ↦
            let same = same-lock new place n.lock r.is.lock (ap (lock_at new) (sym e) ∙ n.there) r.is.there in
            record { lock = r.was.lock; there = ap (lock_at old) e ∙ r.was.there; on = tags ∙ ap (λ (x : LockRecord). x.tag) (sym same) ∙ n.on }
        | inr other ↦ record { lock = n.lock; there = sym (r.others k other) ∙ n.there; on = n.on }
      ]

pub same-relocked : (old new : List (Option LockRecord)) (tag : Tag) (place : ℕ) → IsRelocked old new tag place → HasSameLocks old new tag
same-relocked old new tag place r =
    same-locks old new tag place (λ l there. ap (λ (x : LockRecord). x.tag) (same-lock old place _ _ there r.was.there) ∙ r.was.on)
    (λ l there. ap (λ (x : LockRecord). x.tag) (same-lock new place _ _ there r.is.there) ∙ r.is.on) r.others

pub same-then : (old mid new : List (Option LockRecord)) (tag : Tag) → HasSameLocks old mid tag → HasSameLocks mid new tag → HasSameLocks old new tag
same-then old mid new tag one two = record {
  kept = λ k l there other. two.kept k l (one.kept k l there other) other;
  no_more = λ k l there other. one.no_more k l (two.no_more k l there other) other;
}

pub same-itself : (slots : List (Option LockRecord)) (tag : Tag) → HasSameLocks slots slots tag
same-itself slots tag = record { kept = λ k l there other. there; no_more = λ k l there other. there }
