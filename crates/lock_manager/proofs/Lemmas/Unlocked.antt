use Rattle.std.proofs.Common.{◌≡◌, ℕ, ◌-◌, ◌<◌, Bool, true, false, not, ◌==◌, List, [], ◌∷◌, refl, sym, ap, subst, ◌∙◌, inl, inr, arith}
use Rattle.std.specs.Prelude.{Some, None, All, find, map, filter, if◌then◌else◌}
use Rattle.std.specs.List.{IsDistinct, AllByRecursion}
use Rattle.std.proofs.lemmas.Bool.{cases_Bool, cases_lt, false≢true, ne_eqb, eq-eqb, eqb-true}
use Rattle.std.proofs.lemmas.List.Elements.{All-tail}
use Rattle.modes_core.specs.declared.modes.Mode.{Mode}
use Rattle.modes_core.specs.declared.tags.Tag.{Tag}
use Rattle.modes_core.specs.declared.tags.LockMethod.{LockMethod}
use Rattle.modes_core.specs.declared.tags.LockMethod.TheVariants.{Default, User}
use Rattle.modes_core.specs.declared.sessions.Owner.TheVariants.{Session}
use Rattle.modes_core.specs.Tag.{method_of}
use Rattle.local_locks.specs.declared.records.Entry.{Entry}
use Rattle.local_locks.specs.Owned.{is_of, are_of_same, count_in_all, total_of, lowered, change, entries_but, IsCounted}
use Rattle.local_locks.proofs.Lemmas.Entries.{same_key-from, same_key-refl, same_key-comm}
use Rattle.lock_manager.specs.Advisory.{kept_by_unlock_all, after_unlock_all, is_unlocked, unlocked_by_all, left_by_unlock_all, is_owned_advisory}

-- One count of an advisory lock after another is given back.

-- ---- one entry

-- What is owned of it is of the user method, and some.
pub owned-user : (method : LockMethod) (count : ℕ) → not (kept_by_unlock_all method count == count) ≡ true → (method ≡ User) × (0 < count)
owned-user Default count owned = absurd (false≢true (sym (ap not (eq-eqb count count refl)) ∙ owned))
owned-user User count owned = (
  refl,
  elim (cases_lt 0 count) [
    | inl some ↦ some
    | inr none ↦ let same : 0 ≡ count = omega (arith, none) in absurd (false≢true (sym (ap not (eq-eqb 0 count same)) ∙ owned))
  ],
)

-- One of which nothing is owned is as it was,
pub after-same : (x : Entry) → is_owned_advisory x ≡ false → after_unlock_all x ≡ x
after-same x none = λ i. record x { session = same i } where
  same : kept_by_unlock_all (method_of x.tag) x.session ≡ x.session
  same =
      elim (cases_Bool (kept_by_unlock_all (method_of x.tag) x.session == x.session)) [
        | inl alike ↦ eqb-true _ _ alike
        | inr other ↦ absurd (false≢true (sym none ∙ ap not other))
      ]

-- and is left.
pub stays : (x : Entry) → IsCounted x → is_owned_advisory x ≡ false → is_unlocked x ≡ false
stays x counted none = ap (λ e. count_in_all e == 0) (after-same x none) ∙ ne_eqb (count_in_all x) 0 (λ zero. omega (arith, zero, counted.some))

-- ---- the first one that is owned

pub passes : (es : List Entry) (e : Entry) → find is_owned_advisory es ≡ Some e → is_owned_advisory e ≡ true
passes [] e found = absurd (let bad : None ≡ Some e = found in cc)
passes (x ∷ es) e found =
    elim (cases_Bool (is_owned_advisory x)) [
      | inl owned ↦ let both : Some x ≡ Some e = rw owned at found in let same : x ≡ e = cc in rw (← same) owned
      | inr none ↦ passes es e (rw none at found)
    ]

-- What holds of all holds of it.
pub of-found : (P : Entry → Type 0) (es : List Entry) (e : Entry) → AllByRecursion P es → find is_owned_advisory es ≡ Some e → P e
of-found P [] e all found = absurd (let bad : None ≡ Some e = found in cc)
of-found P (x ∷ es) e all found =
    elim (cases_Bool (is_owned_advisory x)) [
      | inl owned ↦ let both : Some x ≡ Some e = rw owned at found in let same : x ≡ e = cc in subst P same all.0
      | inr none ↦ of-found P es e all.1 (rw none at found)
    ]

-- Where all others are of other objects or modes, none is taken out.
pub but-apart : (x : Entry) (es : List Entry) → AllByRecursion (λ y. are_of_same x y ≡ false) es → entries_but es x.tag x.mode ≡ es
but-apart x [] apart = refl
but-apart x (y ∷ es) apart =
    let other : is_of x.tag x.mode y ≡ false = same_key-comm y.tag y.mode x.tag x.mode ∙ apart.0 in
    rw other (ap (λ ys. y ∷ ys) (but-apart x es apart.1))

-- What is so where the first one is at the head, and stays so with an entry before it that is not owned, is
-- so of all lists that it is the first one of.
pub at-first :
    (e : Entry) (P : List Entry → Type 0)
    → ((es : List Entry) → is_owned_advisory e ≡ true → AllByRecursion (λ y. are_of_same e y ≡ false) es → P (e ∷ es))
    → ((x : Entry) (es : List Entry) → is_owned_advisory x ≡ false → is_of e.tag e.mode x ≡ false → P es → P (x ∷ es))
    → (es : List Entry) → IsDistinct are_of_same es → find is_owned_advisory es ≡ Some e → P es
unfolding IsDistinct
at-first e P here past [] once found = absurd (let bad : None ≡ Some e = found in cc)
at-first e P here past (x ∷ es) once found =
    elim (cases_Bool (is_owned_advisory x)) [
      | inl owned ↦
          let both : Some x ≡ Some e = rw owned at found in
          let same : x ≡ e = cc in
          subst (λ y. P (y ∷ es)) (sym same)
          (here es (subst (λ y. is_owned_advisory y ≡ true) same owned) (subst (λ y. AllByRecursion (λ z. are_of_same y z ≡ false) es) same once.0))
      | inr none ↦
          let later : find is_owned_advisory es ≡ Some e = rw none at found in
          past x es none (of-found (λ y. are_of_same x y ≡ false) es e once.0 later) (at-first e P here past es once.1 later)
    ]

-- The count of the first one is what the session has of the object and mode.
pub total-found :
    (es : List Entry) (e : Entry) → IsDistinct are_of_same es → find is_owned_advisory es ≡ Some e → total_of es e.tag e.mode ≡ count_in_all e
total-found es e once found =
    at-first e (λ ys. total_of ys e.tag e.mode ≡ count_in_all e) (λ ys owned apart. rw (same_key-refl e.tag e.mode) refl) (λ x ys none other rest. rw other rest)
    es once found

-- ---- an entry that is taken out

pub left-cons : (x : Entry) (es : List Entry) → is_unlocked x ≡ false → left_by_unlock_all (x ∷ es) ≡ after_unlock_all x ∷ left_by_unlock_all es
left-cons x es still = rw still refl

left-skip : (x : Entry) (es : List Entry) → is_unlocked x ≡ true → left_by_unlock_all (x ∷ es) ≡ left_by_unlock_all es
left-skip x es gone = rw gone refl

unlocked-cons : (x : Entry) (es : List Entry) → is_unlocked x ≡ true → unlocked_by_all (x ∷ es) ≡ (x.tag, x.mode) ∷ unlocked_by_all es
unlocked-cons x es gone = rw gone refl

pub unlocked-skip : (x : Entry) (es : List Entry) → is_unlocked x ≡ false → unlocked_by_all (x ∷ es) ≡ unlocked_by_all es
unlocked-skip x es still = rw still refl

-- The first one that is owned, taken out, leaves what is left,
pub but-left :
    (es : List Entry) (e : Entry) → IsDistinct are_of_same es → All IsCounted es → find is_owned_advisory es ≡ Some e → is_unlocked e ≡ true
    → left_by_unlock_all (entries_but es e.tag e.mode) ≡ left_by_unlock_all es
but-left es e once counted found gone =
    at-first e (λ ys. All IsCounted ys → left_by_unlock_all (entries_but ys e.tag e.mode) ≡ left_by_unlock_all ys)
    (λ ys owned apart all.
    let out : entries_but (e ∷ ys) e.tag e.mode ≡ ys = rw (same_key-refl e.tag e.mode) (but-apart e ys apart) in
    ap left_by_unlock_all out ∙ sym (left-skip e ys gone))
    (λ x ys none other rest all.
    let still : is_unlocked x ≡ false = stays x (all 0 x (omega arith)) none in
    let past : entries_but (x ∷ ys) e.tag e.mode ≡ x ∷ entries_but ys e.tag e.mode = rw other refl in
    ap left_by_unlock_all past
    ∙ left-cons x (entries_but ys e.tag e.mode) still
    ∙ ap (λ zs. after_unlock_all x ∷ zs) (rest (All-tail IsCounted x ys all))
    ∙ sym (left-cons x ys still))
    es once found counted

-- and is the first one of those that go.
pub but-unlocked :
    (es : List Entry) (e : Entry) → IsDistinct are_of_same es → All IsCounted es → find is_owned_advisory es ≡ Some e → is_unlocked e ≡ true
    → unlocked_by_all es ≡ (e.tag, e.mode) ∷ unlocked_by_all (entries_but es e.tag e.mode)
but-unlocked es e once counted found gone =
    at-first e (λ ys. All IsCounted ys → unlocked_by_all ys ≡ (e.tag, e.mode) ∷ unlocked_by_all (entries_but ys e.tag e.mode))
    (λ ys owned apart all.
    let out : entries_but (e ∷ ys) e.tag e.mode ≡ ys = rw (same_key-refl e.tag e.mode) (but-apart e ys apart) in
    unlocked-cons e ys gone ∙ ap (λ zs. (e.tag, e.mode) ∷ unlocked_by_all zs) (sym out))
    (λ x ys none other rest all.
    let still : is_unlocked x ≡ false = stays x (all 0 x (omega arith)) none in
    let past : entries_but (x ∷ ys) e.tag e.mode ≡ x ∷ entries_but ys e.tag e.mode = rw other refl in
    unlocked-skip x ys still
    ∙ rest (All-tail IsCounted x ys all)
    ∙ ap (λ zs. (e.tag, e.mode) ∷ zs) (sym (ap unlocked_by_all past ∙ unlocked-skip x (entries_but ys e.tag e.mode) still)))
    es once found counted

-- ---- a count that is lowered

-- changes nothing of what is left of an advisory lock.
after-lowered : (y : Entry) (tag : Tag) (mode : Mode) → method_of tag ≡ User → is_of tag mode y ≡ true → after_unlock_all (lowered Session y) ≡ after_unlock_all y
after-lowered y tag mode user it =
    let its : method_of y.tag ≡ User = ap method_of (same_key-from y.tag y.mode tag mode it).0 ∙ user in
    λ i. record y { session = (ap (λ m. kept_by_unlock_all m (y.session - 1)) its ∙ sym (ap (λ m. kept_by_unlock_all m y.session) its)) i }

-- the entry, with the session's count lowered where it is of the object and mode
abbrev lowered_at : Tag → Mode → Entry → Entry
lowered_at tag mode entry = if is_of tag mode entry then lowered Session entry else entry

alike-lowered : (tag : Tag) (mode : Mode) → method_of tag ≡ User → (y : Entry) → after_unlock_all (lowered_at tag mode y) ≡ after_unlock_all y
alike-lowered tag mode user y =
    elim (cases_Bool (is_of tag mode y)) [
      | inl it ↦ rw it (after-lowered y tag mode user it)
      | inr other ↦ rw other refl
    ]

-- With entries that are alike in what is chosen by and in what is shown of those chosen, the same is shown.
shown-alike :
    {A : Type 0} (chosen : Entry → Bool) (shown : Entry → A) (its : Entry → Entry) → ((y : Entry) → chosen (its y) ≡ chosen y)
    → ((y : Entry) → shown (its y) ≡ shown y) → (es : List Entry) → map shown (filter chosen (map its es)) ≡ map shown (filter chosen es)
shown-alike chosen shown its also alike [] = refl
shown-alike chosen shown its also alike (y ∷ es) =
    let rest = shown-alike chosen shown its also alike es in
    elim (cases_Bool (chosen y)) [
      | inl is ↦ rw (also y ∙ is, is) (λ i. alike y i ∷ rest i)
      | inr other ↦ rw (also y ∙ other, other) rest
    ]

goes-alike : (tag : Tag) (mode : Mode) → method_of tag ≡ User → (y : Entry) → is_unlocked (lowered_at tag mode y) ≡ is_unlocked y
goes-alike tag mode user y = ap (λ e. count_in_all e == 0) (alike-lowered tag mode user y)

pub change-left :
    (es : List Entry) (tag : Tag) (mode : Mode) → method_of tag ≡ User
    → left_by_unlock_all (change (lowered Session) es tag mode) ≡ left_by_unlock_all es
change-left es tag mode user =
    shown-alike (λ entry. not (is_unlocked entry)) after_unlock_all (lowered_at tag mode) (λ y. ap not (goes-alike tag mode user y)) (alike-lowered tag mode user) es

-- and nothing of those that go.
pub change-unlocked :
    (es : List Entry) (tag : Tag) (mode : Mode) → method_of tag ≡ User
    → unlocked_by_all (change (lowered Session) es tag mode) ≡ unlocked_by_all es
change-unlocked es tag mode user =
    shown-alike is_unlocked (λ entry. (entry.tag, entry.mode)) (lowered_at tag mode) (goes-alike tag mode user)
    (λ y. ap (λ (entry : Entry). (entry.tag, entry.mode)) (alike-lowered tag mode user y)) es
