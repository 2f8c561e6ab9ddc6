use Rattle.std.proofs.Common.{◌≡◌, ℕ, ◌+◌, ◌≤◌, Bool, true, false, ◌&&◌, nat_eq, List, [], ◌∷◌, ◌++◌, length, refl, sym, ap, ◌∙◌, arith}
use Rattle.std.specs.Prelude.{count_by, if◌then◌else◌}
use Rattle.std.proofs.lemmas.Bool.{false_from_ne_true, and_parts, cond-false}
use Rattle.std.proofs.lemmas.List.{length-append}
use Rattle.modes_core.specs.declared.modes.Mode.{Mode}
use Rattle.modes_core.specs.declared.modes.Mode.TheVariants.{AccessShare, RowShare, RowExclusive, ShareUpdateExclusive, Share, ShareRowExclusive, Exclusive, AccessExclusive}
use Rattle.modes_core.specs.declared.tags.Tag.{Tag}
use Rattle.modes_core.specs.declared.tags.Tag.TheVariants.{Relation, Object, Advisory}
use Rattle.modes_core.specs.Mode.{mode_eq, number_of}
use Rattle.lw_word.specs.SlotWord.{relation_in, has_mode, shows}
use Rattle.lock_table.specs.Total.{total}
use Rattle.lock_world.specs.Tallies.{Held, joined, modes_shown, is_this}
use Rattle.lock_world.proofs.Lemmas.Slots.Bits.{shows-weak}
use Rattle.lock_world.proofs.Lemmas.Tallies.Lists.{count_by-append, count_by-one, length-joined, count_by-joined}

-- The modes that slots show, as a list of holds.

-- the hold of a mode, if the word has it
abbrev pub mode_held : ℕ → ℕ → Mode → List Held
mode_held database word mode = if has_mode word mode then (record { tag = Relation database (relation_in word); mode = mode }) ∷ [] else []

abbrev pub held_in : ℕ → ℕ → List Held
held_in database word = mode_held database word AccessShare ++ (mode_held database word RowShare ++ mode_held database word RowExclusive)

abbrev pub held_in_all : ℕ → ℕ → (ℕ → ℕ) → List Held
held_in_all count database slot = joined count (λ place. held_in database (slot place))

one-long : {X : Type 0} (has : Bool) (x : X) → length (if has then x ∷ [] else []) ≡ (if has then 1 else 0)
one-long true x = refl
one-long false x = refl

held_in-long : (database word : ℕ) → length (held_in database word) ≡ modes_shown word
held_in-long database word =
    let all = length-append (mode_held database word AccessShare) (mode_held database word RowShare ++ mode_held database word RowExclusive) in
    let two = length-append (mode_held database word RowShare) (mode_held database word RowExclusive) in
    let a = one-long {X = Held} (has_mode word AccessShare) (record { tag = Relation database (relation_in word); mode = AccessShare }) in
    let b = one-long {X = Held} (has_mode word RowShare) (record { tag = Relation database (relation_in word); mode = RowShare }) in
    let c = one-long {X = Held} (has_mode word RowExclusive) (record { tag = Relation database (relation_in word); mode = RowExclusive }) in
    omega (arith, all, two, a, b, c)

pub held_in_all-long : (count database : ℕ) (slot : ℕ → ℕ) → length (held_in_all count database slot) ≡ total count (λ place. modes_shown (slot place))
held_in_all-long count database slot =
    length-joined count (λ place. held_in database (slot place))
    ∙ (λ i. total count (λ place. held_in-long database (slot place) i))

-- whether the word shows the mode on the object, in the database
abbrev pub shows_tag : ℕ → ℕ → Tag → Mode → Bool
shows_tag database word (Relation other relation) mode = nat_eq database other && shows word relation mode
shows_tag database word (Object sub_object other class object) mode = false
shows_tag database word (Advisory sub other key1 key2) mode = false

one-counted : {X : Type 0} (test : X → Bool) (has : Bool) (x : X) → count_by test (if has then x ∷ [] else []) ≡ (if has && test x then 1 else 0)
one-counted test true x = count_by-one test x
one-counted test false x = refl

three-counted : (database word : ℕ) (test : Held → Bool) → count_by test (held_in database word)
    ≡ (if has_mode word AccessShare && test (record { tag = Relation database (relation_in word); mode = AccessShare }) then 1 else 0)
    + ((if has_mode word RowShare && test (record { tag = Relation database (relation_in word); mode = RowShare }) then 1 else 0)
    + (if has_mode word RowExclusive && test (record { tag = Relation database (relation_in word); mode = RowExclusive }) then 1 else 0))
three-counted database word test =
    let all = count_by-append test (mode_held database word AccessShare) (mode_held database word RowShare ++ mode_held database word RowExclusive) in
    let two = count_by-append test (mode_held database word RowShare) (mode_held database word RowExclusive) in
    let a = one-counted test (has_mode word AccessShare) (record { tag = Relation database (relation_in word); mode = AccessShare }) in
    let b = one-counted test (has_mode word RowShare) (record { tag = Relation database (relation_in word); mode = RowShare }) in
    let c = one-counted test (has_mode word RowExclusive) (record { tag = Relation database (relation_in word); mode = RowExclusive }) in
    omega (arith, all, two, a, b, c)

off : (has x : Bool) → ◌≡◌ {A = ℕ} (if has && (x && false) then 1 else 0) 0
off true true = refl
off true false = refl
off false x = refl

on : (has x y : Bool) → ◌≡◌ {A = ℕ} (if has && ((x && y) && true) then 1 else 0) (if x && (has && y) then 1 else 0)
on true true true = refl
on true true false = refl
on true false y = refl
on false true y = refl
on false false y = refl

not_weak : (database word other relation : ℕ) (mode : Mode) → 4 ≤ number_of mode → ◌≡◌ {A = ℕ} 0 (if nat_eq database other && shows word relation mode then 1 else 0)
not_weak database word other relation mode strong =
    sym (cond-false (nat_eq database other && shows word relation mode) 1 0 (false_from_ne_true (nat_eq database other && shows word relation mode) (λ both.
    let weak = shows-weak word relation mode (and_parts (nat_eq database other) (shows word relation mode) both).1 in
    omega (arith, weak, strong))))

none-counted : (database word other relation : ℕ) (mode : Mode) → 4 ≤ number_of mode → mode_eq AccessShare mode ≡ false → mode_eq RowShare mode ≡ false → mode_eq RowExclusive mode ≡ false
    → count_by (is_this (Relation other relation) mode) (held_in database word) ≡ (if nat_eq database other && shows word relation mode then 1 else 0)
none-counted database word other relation mode strong x y z =
    let same : Bool = nat_eq database other && nat_eq (relation_in word) relation in
    let all = three-counted database word (is_this (Relation other relation) mode) in
    let a : ◌≡◌ {A = ℕ} (if has_mode word AccessShare && (same && mode_eq AccessShare mode) then 1 else 0) 0 = rw x (off (has_mode word AccessShare) same) in
    let b : ◌≡◌ {A = ℕ} (if has_mode word RowShare && (same && mode_eq RowShare mode) then 1 else 0) 0 = rw y (off (has_mode word RowShare) same) in
    let c : ◌≡◌ {A = ℕ} (if has_mode word RowExclusive && (same && mode_eq RowExclusive mode) then 1 else 0) 0 = rw z (off (has_mode word RowExclusive) same) in
    let rest = not_weak database word other relation mode strong in
    omega (arith, all, a, b, c, rest)

relation-counted : (database word other relation : ℕ) (mode : Mode)
    → count_by (is_this (Relation other relation) mode) (held_in database word) ≡ (if nat_eq database other && shows word relation mode then 1 else 0)
relation-counted database word other relation AccessShare =
    let all = three-counted database word (is_this (Relation other relation) AccessShare) in
    let a = on (has_mode word AccessShare) (nat_eq database other) (nat_eq (relation_in word) relation) in
    let b = off (has_mode word RowShare) (nat_eq database other && nat_eq (relation_in word) relation) in
    let c = off (has_mode word RowExclusive) (nat_eq database other && nat_eq (relation_in word) relation) in
    omega (arith, all, a, b, c)
relation-counted database word other relation RowShare =
    let all = three-counted database word (is_this (Relation other relation) RowShare) in
    let a = off (has_mode word AccessShare) (nat_eq database other && nat_eq (relation_in word) relation) in
    let b = on (has_mode word RowShare) (nat_eq database other) (nat_eq (relation_in word) relation) in
    let c = off (has_mode word RowExclusive) (nat_eq database other && nat_eq (relation_in word) relation) in
    omega (arith, all, a, b, c)
relation-counted database word other relation RowExclusive =
    let all = three-counted database word (is_this (Relation other relation) RowExclusive) in
    let a = off (has_mode word AccessShare) (nat_eq database other && nat_eq (relation_in word) relation) in
    let b = off (has_mode word RowShare) (nat_eq database other && nat_eq (relation_in word) relation) in
    let c = on (has_mode word RowExclusive) (nat_eq database other) (nat_eq (relation_in word) relation) in
    omega (arith, all, a, b, c)
relation-counted database word other relation ShareUpdateExclusive = none-counted database word other relation ShareUpdateExclusive (omega arith) refl refl refl
relation-counted database word other relation Share = none-counted database word other relation Share (omega arith) refl refl refl
relation-counted database word other relation ShareRowExclusive = none-counted database word other relation ShareRowExclusive (omega arith) refl refl refl
relation-counted database word other relation Exclusive = none-counted database word other relation Exclusive (omega arith) refl refl refl
relation-counted database word other relation AccessExclusive = none-counted database word other relation AccessExclusive (omega arith) refl refl refl

-- what no relation passes isn't shown
never-counted : (database word : ℕ) (test : Held → Bool)
    → ((m : Mode) → test (record { tag = Relation database (relation_in word); mode = m }) ≡ false) → count_by test (held_in database word) ≡ 0
never-counted database word test fails =
    let all = three-counted database word test in
    let a = never (has_mode word AccessShare) _ (fails AccessShare) in
    let b = never (has_mode word RowShare) _ (fails RowShare) in
    let e = never (has_mode word RowExclusive) _ (fails RowExclusive) in
    omega (arith, all, a, b, e) where
      never : (has passes : Bool) → passes ≡ false → ◌≡◌ {A = ℕ} (if has && passes then 1 else 0) 0
      never true passes fails = ap (λ b. if b then 1 else 0) fails
      never false passes fails = refl

counted-in : (database word : ℕ) (tag : Tag) (mode : Mode) → count_by (is_this tag mode) (held_in database word) ≡ (if shows_tag database word tag mode then 1 else 0)
counted-in database word (Relation other relation) mode = relation-counted database word other relation mode
counted-in database word (Object s d c o) mode = never-counted database word (is_this (Object s d c o) mode) (λ m. refl)
counted-in database word (Advisory s d k l) mode = never-counted database word (is_this (Advisory s d k l) mode) (λ m. refl)

pub counted-in_all : (count database : ℕ) (slot : ℕ → ℕ) (tag : Tag) (mode : Mode)
    → count_by (is_this tag mode) (held_in_all count database slot) ≡ total count (λ place. if shows_tag database (slot place) tag mode then 1 else 0)
counted-in_all count database slot tag mode =
    count_by-joined (is_this tag mode) count (λ place. held_in database (slot place))
    ∙ (λ i. total count (λ place. counted-in database (slot place) tag mode i))
