-- Which defect a line has, and that it has none where it means something.
use Rattle.std.proofs.Common.{◌≡◌, ℕ, Bool, true, false, List, [], ◌∷◌, length, get_or, map, Option, Some, None, Result, Ok, Err, refl, subst, sym, ap, ◌∙◌, arith, inl, inr}
use Rattle.std.specs.Prelude.{codes, is_some, ok_or, slice_index_or, IfErr, IfSome, IfNone, IsErrAnd, ◌≢◌}
use Rattle.std.specs.Borrow.{Bor}
use Rattle.arrayvec.specs.declared.array_string.ArrayString.{ArrayString}
use Rattle.modes_core.specs.declared.modes.Mode.{Mode}
use Rattle.modes_core.specs.declared.sessions.Owner.{Owner}
use Rattle.modes_core.specs.declared.sessions.Owner.TheVariants.{Transaction}
use Rattle.modes_core.specs.declared.tags.Tag.{Tag}
use Rattle.modes_core.specs.Mode.{name_of}
use Rattle.lock_script.specs.Command.{NamesCaller, NamesOpen}
use Rattle.lock_script.specs.Defects.{lock_words, commands, words_behind, AreAsMany, IsTakenName, IsTakenTag, IsUnnamed, IsBarred, IsTaken, IsWrong, IsRight, IsFirstWrong, IsMisfit, IsRefused, MeansNothing}
use Rattle.lock_script.specs.declared.commands.WordKind.{WordKind}
use Rattle.lock_script.specs.declared.commands.WordKind.TheVariants.{FreeName, OpenName, CallerName, Number, CounterIndex, FreeObjectName, FreeTag, TagWord, ModeName, OwnerWord}
use Rattle.lock_script.specs.Meaning.{IsCommandOf, NamesNew, NamesTarget, NamesLone, NamesOwned, NamesActor, NamesBoth, NamesQueue, NamesBlocked, NamesCount, NamesTag, NamesObject}
use Rattle.lock_script.specs.Names.{IsCalled, IsFree}
use Rattle.lock_script.specs.Sessions.{IsAt, IsUnknown}
use Rattle.lock_script.specs.Objects.{is_object_name, tag_in, tag_called, name_given}
use Rattle.lock_script.specs.Words.{is_name, number_in, strong_index_in, owner_of}
use Rattle.lock_script.specs.declared.sessions.Named.{Named}
use Rattle.lock_script.specs.declared.objects.NamedObject.{NamedObject}
use Rattle.lock_script.specs.declared.sessions.OpenSessions.{OpenSessions}
use Rattle.lock_script.specs.declared.sessions.Caller.{Caller}
use Rattle.lock_script.specs.declared.sessions.Opened.{Opened}
use Rattle.lock_script.specs.declared.sessions.Place.{Place}
use Rattle.lock_script.specs.declared.sessions.Place.TheVariants.{Resting, Waiting}
use Rattle.lock_script.specs.declared.command.Target.{Target}
use Rattle.lock_script.specs.declared.command.Command.{Command}
use Rattle.lock_script.specs.declared.command.Command.TheVariants.{Session, Try, Fast, Lock, Unlock, UnlockAll, Commit, Abort, Begin, SubCommit, SubAbort, Owned, Waiters, Queue, Blockers, Cancel, Count, Hash, Close}
use Rattle.lock_script.specs.declared.command.Command.TheVariants as command
use Rattle.lock_script.specs.declared.faults.Defect.{Defect}
use Rattle.lock_script.specs.declared.faults.Defect.TheVariants.{BadName, SessionExists, NameExists, NoSuchSession, SessionWaits, BadObject, ObjectNamed}

-- What holds of the error that a result is.
pub of_err : {T E : Type 0} (P : E → Type 0) (r : Result T E) (e : E) → IsErrAnd r (λ (d : E). d ≡ e) → P e → IfErr r P
of_err P (Ok x) e is here = absurd is
of_err P (Err d) e is here = subst P (sym is) here

pub of_none : {T : Type 0} (P : Type 0) (o : Option T) → o ≡ None → IfNone o P → P
of_none P None e here = here
of_none P (Some x) e here = let never : ⊥ = cc in absurd never

pub clash : (b : Bool) → b ≡ true → b ≡ false → ⊥
clash b is lacks = let never : ⊥ = cc in never

pub not_both : {T : Type 0} (o : Option T) (x : T) → o ≡ Some x → o ≡ None → ⊥
not_both o x is lacks = let never : ⊥ = cc in never

-- an error instead of a value says that there is none
pub no_value : {T E : Type 0} (o : Option T) (its given : E) → Err its ≡ ok_or o given → (its ≡ given) × (o ≡ None)
no_value None its given e = (cc, refl)
no_value (Some x) its given e = let never : ⊥ = cc in absurd never

-- a value instead of an error is the one that there is
pub some_value : {T E : Type 0} (o : Option T) (x : T) (given : E) → Ok x ≡ ok_or o given → o ≡ Some x
some_value None x given e = let never : ⊥ = cc in absurd never
some_value (Some y) x given e = let same : y ≡ x = cc in ap (λ v. Some v) same

-- the name that a word is
pub name-is : (o : Option (ArrayString 16)) (name : ArrayString 16) (word : List ℕ) → o ≡ Some name → is_some o ≡ is_name word → IfSome o (λ (n : ArrayString 16). n.bytes ≡ word) → (is_name word ≡ true) × (name.bytes ≡ word)
name-is None name word e variant value = let never : ⊥ = cc in absurd never
name-is (Some n) name word e variant value =
    let same : n ≡ name = cc in
    (sym variant, subst (λ (m : ArrayString 16). m.bytes ≡ word) same value)

-- who is called by a name leaves it not free
pub called-not_free : {X : Type 0} (those : List (Named X)) (word : List ℕ) (place : ℕ) → IsCalled those word place → IsFree those word → ⊥
called-not_free [] word place called free = omega (arith, called.0)
called-not_free (one ∷ others) word place called free = free place one called.0 (called.1 one)

-- so does who is found by it
pub found-not_free : {X : Type 0} (those : List (Named X)) (word : List ℕ) (found : Option ℕ) → IfSome found (IsCalled those word) → is_some found ≡ true → IsFree those word → ⊥
found-not_free those word None called is free = let never : ⊥ = cc in never
found-not_free those word (Some place) called is free = called-not_free those word place called free

-- the words of texts that are lent
abbrev pub texts : List (Bor (List ℕ)) → List (List ℕ)
texts words = map (λ (word : Bor (List ℕ)). word.now) words

number-right : {S W : Type 0} (sessions : OpenSessions S W) (objects : List NamedObject) (word : List ℕ) (number : ℕ) → number_in word ≡ Some number → IsRight sessions objects Number word
number-right sessions objects word number h defect wrong = not_both (number_in word) number h wrong.1

counter-right : {S W : Type 0} (sessions : OpenSessions S W) (objects : List NamedObject) (word : List ℕ) (index : ℕ) → strong_index_in word ≡ Some index → IsRight sessions objects CounterIndex word
counter-right sessions objects word index h defect wrong = not_both (strong_index_in word) index h wrong.1

pub tag-right : {S W : Type 0} (sessions : OpenSessions S W) (objects : List NamedObject) (word : List ℕ) (tag : Tag) → tag_in objects word ≡ Some tag → IsRight sessions objects TagWord word
tag-right sessions objects word tag h defect wrong = not_both (tag_in objects word) tag h wrong.1

mode-right : {S W : Type 0} (sessions : OpenSessions S W) (objects : List NamedObject) (word : List ℕ) (mode : Mode) → name_of mode ≡ word → IsRight sessions objects ModeName word
mode-right sessions objects word mode h defect wrong = wrong.1 mode h

owner-right : {S W : Type 0} (sessions : OpenSessions S W) (objects : List NamedObject) (word : List ℕ) (owner : Owner) → owner_of word ≡ Some owner → IsRight sessions objects OwnerWord word
owner-right sessions objects word owner h defect wrong = not_both (owner_of word) owner h wrong.1

-- a name that is no object's
pub free_name-right : (objects : List NamedObject) (word : List ℕ) → is_object_name word ≡ true → tag_called objects word ≡ None → (defect : Defect) → IsTakenName objects word defect → ⊥
free_name-right objects word name free BadName wrong = clash (is_object_name word) name wrong
free_name-right objects word name free NameExists wrong = not_both (tag_called objects word) wrong.1.0 wrong.1.1 free
free_name-right objects word name free _ wrong = wrong

-- an object that has none
pub unnamed-right : (objects : List NamedObject) (word : List ℕ) (tag : Tag) → tag_in objects word ≡ Some tag → name_given objects tag ≡ None → (defect : Defect) → IsTakenTag objects word defect → ⊥
unnamed-right objects word tag is none BadObject wrong = not_both (tag_in objects word) tag is wrong
unnamed-right objects word tag is none ObjectNamed wrong =
    let same : ◌≡◌ {A = Option Tag} (Some tag) (Some wrong.0) = sym is ∙ wrong.2 in
    let it : tag ≡ wrong.0 = cc in
    not_both (name_given objects wrong.0) wrong.1 wrong.3 (subst (λ (t : Tag). name_given objects t ≡ None) it none)
unnamed-right objects word tag is none _ wrong = wrong

module _ {S W : Type 0} (sessions : OpenSessions S W) where
  at-known : (word : List ℕ) (place : Place) → IsAt sessions word place → IsUnknown sessions word → ⊥
  at-known word (Resting place) there unknown = called-not_free sessions.resting word place there unknown.0
  at-known word (Waiting place) there unknown = called-not_free sessions.waiting word place there.1 unknown.1

  -- the session that a `place_called` found
  taken-at : (word : List ℕ) (found : Option Place) → is_some found ≡ true → IfSome found (IsAt sessions word) → (place : Place) × IsAt sessions word place
  taken-at word None is here = let never : ⊥ = cc in absurd never
  taken-at word (Some place) is here = (place, here)

  pub free_in : (word : List ℕ) (found : Option Place) → is_some found ≡ false → IfNone found (IsUnknown sessions word) → IsUnknown sessions word
  free_in word None is here = here
  free_in word (Some place) is here = let never : ⊥ = cc in absurd never

  -- What is right of a word.
  pub free-right : (word : List ℕ) → is_name word ≡ true → IsUnknown sessions word → (defect : Defect) → IsTaken sessions word defect → ⊥
  free-right word name unknown BadName wrong = clash (is_name word) name wrong
  free-right word name unknown SessionExists wrong = at-known word wrong.1.0 wrong.1.1 unknown
  free-right word name unknown _ wrong = wrong

  pub open-right : (word : List ℕ) (opened : Opened) → NamesOpen sessions word opened → (defect : Defect) → IsUnnamed sessions word defect → ⊥
  open-right word opened h BadName wrong = clash (is_name word) h.0 wrong
  open-right word opened h NoSuchSession wrong = at-known word opened.place h.1 wrong.1
  open-right word opened h _ wrong = wrong

  pub caller-right : (word : List ℕ) (caller : Caller) → NamesCaller sessions word caller → (defect : Defect) → IsBarred sessions word defect → ⊥
  caller-right word caller h SessionWaits wrong = called-not_free sessions.resting word caller.place h.1 wrong.1
  caller-right word caller h BadName wrong = clash (is_name word) h.0 wrong
  caller-right word caller h NoSuchSession wrong = called-not_free sessions.resting word caller.place h.1 wrong.1.0
  caller-right word caller h _ wrong = wrong

  -- What words that are lent mean.
  pub both-named : (words : List (Bor (List ℕ))) (d e : Bor (List ℕ)) (by : Caller) (other : Opened) → length words ≡ 2 → NamesCaller sessions (get_or words 0 d).now by → NamesOpen sessions (get_or words 1 e).now other → NamesBoth sessions (texts words) by other
  both-named [] d e by other n h k = absurd (omega arith)
  both-named (a ∷ []) d e by other n h k = absurd (omega arith)
  both-named (a ∷ b ∷ []) d e by other n h k = (h, k)
  both-named (a ∷ b ∷ c ∷ words) d e by other n h k = absurd (omega arith)

module _ {S W : Type 0} (sessions : OpenSessions S W) (objects : List NamedObject) where
  pub blocked-named : (words : List (Bor (List ℕ))) (d e f : Bor (List ℕ)) (by : Caller) (other : Opened) (tag : Tag) → length words ≡ 3 → NamesCaller sessions (get_or words 0 d).now by → NamesOpen sessions (get_or words 1 e).now other → tag_in objects (get_or words 2 f).now ≡ Some tag → NamesBlocked sessions objects (texts words) by other tag
  blocked-named [] d e f by other tag n h k t = absurd (omega arith)
  blocked-named (a ∷ []) d e f by other tag n h k t = absurd (omega arith)
  blocked-named (a ∷ b ∷ []) d e f by other tag n h k t = absurd (omega arith)
  blocked-named (a ∷ b ∷ c ∷ []) d e f by other tag n h k t = (h, k, t)
  blocked-named (a ∷ b ∷ c ∷ x ∷ words) d e f by other tag n h k t = absurd (omega arith)

  pub owned-named : (words : List (Bor (List ℕ))) (d e f : Bor (List ℕ)) (target : Target) → length words ≡ 3 → NamesTarget sessions objects (get_or words 0 d).now (get_or words 1 e).now (get_or words 2 f).now target → NamesOwned sessions objects (texts words) target Transaction
  owned-named [] d e f target n h = absurd (omega arith)
  owned-named (a ∷ []) d e f target n h = absurd (omega arith)
  owned-named (a ∷ b ∷ []) d e f target n h = absurd (omega arith)
  owned-named (a ∷ b ∷ c ∷ []) d e f target n h = (h, refl)
  owned-named (a ∷ b ∷ c ∷ x ∷ words) d e f target n h = absurd (omega arith)

  pub owned-named_owner : (words : List (Bor (List ℕ))) (d e f k : Bor (List ℕ)) (target : Target) (owner : Owner) → length words ≡ 4 → NamesTarget sessions objects (get_or words 0 d).now (get_or words 1 e).now (get_or words 2 f).now target → owner_of (get_or words 3 k).now ≡ Some owner → NamesOwned sessions objects (texts words) target owner
  owned-named_owner [] d e f k target owner n h o = absurd (omega arith)
  owned-named_owner (a ∷ []) d e f k target owner n h o = absurd (omega arith)
  owned-named_owner (a ∷ b ∷ []) d e f k target owner n h o = absurd (omega arith)
  owned-named_owner (a ∷ b ∷ c ∷ []) d e f k target owner n h o = absurd (omega arith)
  owned-named_owner (a ∷ b ∷ c ∷ x ∷ []) d e f k target owner n h o = (h, o)
  owned-named_owner (a ∷ b ∷ c ∷ x ∷ y ∷ words) d e f k target owner n h o = absurd (omega arith)

  -- The first word that is wrong, where it is not the first of all.
  pub second_wrong : (one two : WordKind) (words : List (Bor (List ℕ))) (d e : Bor (List ℕ)) (defect : Defect) → ((a b : List ℕ) → AreAsMany (one ∷ two ∷ []) (a ∷ b ∷ [])) → length words ≡ 2 → IsRight sessions objects one (get_or words 0 d).now → IsWrong sessions objects two (get_or words 1 e).now defect → IsMisfit sessions objects (one ∷ two ∷ []) (texts words) defect
  second_wrong one two [] d e defect many n right wrong = absurd (omega arith)
  second_wrong one two (a ∷ []) d e defect many n right wrong = absurd (omega arith)
  second_wrong one two (a ∷ b ∷ []) d e defect many n right wrong = inr (many a.now b.now, inr (right, inl wrong))
  second_wrong one two (a ∷ b ∷ c ∷ words) d e defect many n right wrong = absurd (omega arith)

  pub first_taken : (words : List (Bor (List ℕ))) (d : Bor (List ℕ)) (name : List ℕ) (found : Option Place) → length words ≡ 2 → is_name (get_or words 0 d).now ≡ true → name ≡ (get_or words 0 d).now → is_some found ≡ true → IfSome found (IsAt sessions name) → IsMisfit sessions objects (FreeName ∷ Number ∷ []) (texts words) SessionExists
  first_taken [] d name found n its same some here = absurd (omega arith)
  first_taken (a ∷ []) d name found n its same some here = absurd (omega arith)
  first_taken (a ∷ b ∷ []) d name found n its same some here =
      let place = taken-at sessions name found some here in
      inr (tt, inl (its, (place.0, subst (λ (word : List ℕ). IsAt sessions word place.0) same place.1)))
  first_taken (a ∷ b ∷ c ∷ words) d name found n its same some here = absurd (omega arith)

  pub second_of_three : (words : List (Bor (List ℕ))) (d e : Bor (List ℕ)) (defect : Defect) → length words ≡ 3 → IsRight sessions objects CallerName (get_or words 0 d).now → IsWrong sessions objects OpenName (get_or words 1 e).now defect → IsMisfit sessions objects (CallerName ∷ OpenName ∷ TagWord ∷ []) (texts words) defect
  second_of_three [] d e defect n right wrong = absurd (omega arith)
  second_of_three (a ∷ []) d e defect n right wrong = absurd (omega arith)
  second_of_three (a ∷ b ∷ []) d e defect n right wrong = absurd (omega arith)
  second_of_three (a ∷ b ∷ c ∷ []) d e defect n right wrong = inr (tt, inr (right, inl wrong))
  second_of_three (a ∷ b ∷ c ∷ x ∷ words) d e defect n right wrong = absurd (omega arith)

  pub third_of_three : (words : List (Bor (List ℕ))) (d e f : Bor (List ℕ)) (defect : Defect) → length words ≡ 3 → IsRight sessions objects CallerName (get_or words 0 d).now → IsRight sessions objects OpenName (get_or words 1 e).now → IsWrong sessions objects TagWord (get_or words 2 f).now defect → IsMisfit sessions objects (CallerName ∷ OpenName ∷ TagWord ∷ []) (texts words) defect
  third_of_three [] d e f defect n right right' wrong = absurd (omega arith)
  third_of_three (a ∷ []) d e f defect n right right' wrong = absurd (omega arith)
  third_of_three (a ∷ b ∷ []) d e f defect n right right' wrong = absurd (omega arith)
  third_of_three (a ∷ b ∷ c ∷ []) d e f defect n right right' wrong = inr (tt, inr (right, inr (right', inl wrong)))
  third_of_three (a ∷ b ∷ c ∷ x ∷ words) d e f defect n right right' wrong = absurd (omega arith)

  pub owner_wrong : (words : List (Bor (List ℕ))) (d e f k : Bor (List ℕ)) (target : Target) (defect : Defect) → length words ≡ 4 → NamesTarget sessions objects (get_or words 0 d).now (get_or words 1 e).now (get_or words 2 f).now target → IsWrong sessions objects OwnerWord (get_or words 3 k).now defect → IsMisfit sessions objects lock_words (texts words) defect
  owner_wrong [] d e f k target defect n h wrong = absurd (omega arith)
  owner_wrong (a ∷ []) d e f k target defect n h wrong = absurd (omega arith)
  owner_wrong (a ∷ b ∷ []) d e f k target defect n h wrong = absurd (omega arith)
  owner_wrong (a ∷ b ∷ c ∷ []) d e f k target defect n h wrong = absurd (omega arith)
  owner_wrong (a ∷ b ∷ c ∷ x ∷ []) d e f k target defect n h wrong =
      inr (tt, inr (caller-right sessions a.now target.caller h.0, inr (tag-right sessions objects b.now target.tag h.1, inr (mode-right sessions objects c.now target.mode h.2, inl wrong))))
  owner_wrong (a ∷ b ∷ c ∷ x ∷ y ∷ words) d e f k target defect n h wrong = absurd (omega arith)

  -- Words of which each is right have no defect.
  abbrev AreRight : List WordKind → List (List ℕ) → Type 0
  AreRight (kind ∷ kinds) (word ∷ words) = IsRight sessions objects kind word × AreRight kinds words
  AreRight _ _ = Unit {0}

  none_wrong : (kinds : List WordKind) (words : List (List ℕ)) (defect : Defect) → AreRight kinds words → IsFirstWrong sessions objects kinds words defect → ⊥
  none_wrong [] words defect right wrong = wrong
  none_wrong (kind ∷ kinds) [] defect right wrong = wrong
  none_wrong (kind ∷ kinds) (word ∷ words) defect right (inl wrong) = right.0 defect wrong
  none_wrong (kind ∷ kinds) (word ∷ words) defect right (inr later) = none_wrong kinds words defect right.1 later.1

  -- They are as many as these kinds, and each is right.
  abbrev Fits : List WordKind → List (List ℕ) → Type 0
  Fits kinds words = AreAsMany kinds words × AreRight kinds words

  not_misfit : (kinds : List WordKind) (words : List (List ℕ)) (defect : Defect) → Fits kinds words → IsMisfit sessions objects kinds words defect → ⊥
  not_misfit kinds words defect fit (inl fewer) = fewer.1 fit.0
  not_misfit kinds words defect fit (inr wrong) = none_wrong kinds words defect fit.1 wrong.1

  fits-new : (words : List (List ℕ)) (name : ArrayString 16) (database : ℕ) → NamesNew sessions words name database → Fits (FreeName ∷ Number ∷ []) words
  fits-new [] name database h = absurd h
  fits-new (a ∷ []) name database h = absurd h
  fits-new (a ∷ b ∷ []) name database h = (tt, (free-right sessions a h.1 h.2, (number-right sessions objects b database h.3, tt)))
  fits-new (a ∷ b ∷ c ∷ words) name database h = absurd h

  fits-actor : (words : List (List ℕ)) (caller : Caller) → NamesActor sessions words caller → Fits (CallerName ∷ []) words
  fits-actor [] caller h = absurd h
  fits-actor (a ∷ []) caller h = (tt, (caller-right sessions a caller h, tt))
  fits-actor (a ∷ b ∷ words) caller h = absurd h

  fits-lone : (words : List (List ℕ)) (target : Target) → NamesLone sessions objects words target → Fits (CallerName ∷ TagWord ∷ ModeName ∷ []) words
  fits-lone [] target h = absurd h
  fits-lone (a ∷ []) target h = absurd h
  fits-lone (a ∷ b ∷ []) target h = absurd h
  fits-lone (a ∷ b ∷ c ∷ []) target h = (tt, (caller-right sessions a target.caller h.0, (tag-right sessions objects b target.tag h.1, (mode-right sessions objects c target.mode h.2, tt))))
  fits-lone (a ∷ b ∷ c ∷ x ∷ words) target h = absurd h

  fits-owned : (words : List (List ℕ)) (target : Target) (owner : Owner) → NamesOwned sessions objects words target owner → Fits lock_words words
  fits-owned [] target owner h = absurd h
  fits-owned (a ∷ []) target owner h = absurd h
  fits-owned (a ∷ b ∷ []) target owner h = absurd h
  fits-owned (a ∷ b ∷ c ∷ []) target owner h = (tt, (caller-right sessions a target.caller h.0.0, (tag-right sessions objects b target.tag h.0.1, (mode-right sessions objects c target.mode h.0.2, tt))))
  fits-owned (a ∷ b ∷ c ∷ x ∷ []) target owner h = (tt, (caller-right sessions a target.caller h.0.0, (tag-right sessions objects b target.tag h.0.1, (mode-right sessions objects c target.mode h.0.2, (owner-right sessions objects x owner h.1, tt)))))
  fits-owned (a ∷ b ∷ c ∷ x ∷ y ∷ words) target owner h = absurd h

  fits-both : (words : List (List ℕ)) (by : Caller) (other : Opened) → NamesBoth sessions words by other → Fits (CallerName ∷ OpenName ∷ []) words
  fits-both [] by other h = absurd h
  fits-both (a ∷ []) by other h = absurd h
  fits-both (a ∷ b ∷ []) by other h = (tt, (caller-right sessions a by h.0, (open-right sessions b other h.1, tt)))
  fits-both (a ∷ b ∷ c ∷ words) by other h = absurd h

  fits-queue : (words : List (List ℕ)) (caller : Caller) (tag : Tag) → NamesQueue sessions objects words caller tag → Fits (CallerName ∷ TagWord ∷ []) words
  fits-queue [] caller tag h = absurd h
  fits-queue (a ∷ []) caller tag h = absurd h
  fits-queue (a ∷ b ∷ []) caller tag h = (tt, (caller-right sessions a caller h.0, (tag-right sessions objects b tag h.1, tt)))
  fits-queue (a ∷ b ∷ c ∷ words) caller tag h = absurd h

  fits-blocked : (words : List (List ℕ)) (by : Caller) (other : Opened) (tag : Tag) → NamesBlocked sessions objects words by other tag → Fits (CallerName ∷ OpenName ∷ TagWord ∷ []) words
  fits-blocked [] by other tag h = absurd h
  fits-blocked (a ∷ []) by other tag h = absurd h
  fits-blocked (a ∷ b ∷ []) by other tag h = absurd h
  fits-blocked (a ∷ b ∷ c ∷ []) by other tag h = (tt, (caller-right sessions a by h.0, (open-right sessions b other h.1, (tag-right sessions objects c tag h.2, tt))))
  fits-blocked (a ∷ b ∷ c ∷ x ∷ words) by other tag h = absurd h

  fits-count : (words : List (List ℕ)) (caller : Caller) (index : ℕ) → NamesCount sessions words caller index → Fits (CallerName ∷ CounterIndex ∷ []) words
  fits-count [] caller index h = absurd h
  fits-count (a ∷ []) caller index h = absurd h
  fits-count (a ∷ b ∷ []) caller index h = (tt, (caller-right sessions a caller h.0, (counter-right sessions objects b index h.1, tt)))
  fits-count (a ∷ b ∷ c ∷ words) caller index h = absurd h

  fits-naming : (words : List (List ℕ)) (name : ArrayString 63) (tag : Tag) → NamesObject objects words name tag → Fits (FreeObjectName ∷ FreeTag ∷ []) words
  fits-naming [] name tag h = absurd h
  fits-naming (a ∷ []) name tag h = absurd h
  fits-naming (a ∷ b ∷ []) name tag h = (tt, (free_name-right objects a h.1 h.2, (unnamed-right objects b tag h.3 h.4, tt)))
  fits-naming (a ∷ b ∷ c ∷ words) name tag h = absurd h

  fits-tag : (words : List (List ℕ)) (tag : Tag) → NamesTag objects words tag → Fits (TagWord ∷ []) words
  fits-tag [] tag h = absurd h
  fits-tag (a ∷ []) tag h = (tt, (tag-right sessions objects a tag h, tt))
  fits-tag (a ∷ b ∷ words) tag h = absurd h

  -- A line whose words are a command's, and fit, is not refused.
  not_refused : (verb known : List ℕ) (words : List (List ℕ)) (kinds : List WordKind) (defect : Defect) → verb ≡ known → words_behind known commands ≡ Some kinds → Fits kinds words → IsRefused sessions objects (words_behind verb commands) words defect → ⊥
  not_refused verb known words kinds defect is takes fit refused =
      let found : words_behind verb commands ≡ Some kinds =
      ap (λ (v : List ℕ). words_behind v commands) is ∙ takes in
      not_misfit kinds words defect fit (subst (λ (o : Option (List WordKind)). IsRefused sessions objects o words defect) found refused)

  command-not_refused : (verb : List ℕ) (words : List (List ℕ)) (defect : Defect) → IsRefused sessions objects (words_behind verb commands) words defect → (its : Command) → IsCommandOf sessions objects verb words its → ⊥
  command-not_refused verb words defect r (Session name database) h = not_refused verb (codes "session") words _ defect h.0 refl (fits-new words name database h.1) r
  command-not_refused verb words defect r (command.Name name tag) h = not_refused verb (codes "name") words _ defect h.0 refl (fits-naming words name tag h.1) r
  command-not_refused verb words defect r (Try target owner) h = not_refused verb (codes "try") words _ defect h.0 refl (fits-owned words target owner h.1) r
  command-not_refused verb words defect r (Fast target owner) h = not_refused verb (codes "fast") words _ defect h.0 refl (fits-owned words target owner h.1) r
  command-not_refused verb words defect r (Lock target owner) h = not_refused verb (codes "lock") words _ defect h.0 refl (fits-owned words target owner h.1) r
  command-not_refused verb words defect r (Unlock target owner) h = not_refused verb (codes "unlock") words _ defect h.0 refl (fits-owned words target owner h.1) r
  command-not_refused verb words defect r (UnlockAll caller) h = not_refused verb (codes "unlock_all") words _ defect h.0 refl (fits-actor words caller h.1) r
  command-not_refused verb words defect r (Commit caller) h = not_refused verb (codes "commit") words _ defect h.0 refl (fits-actor words caller h.1) r
  command-not_refused verb words defect r (Abort caller) h = not_refused verb (codes "abort") words _ defect h.0 refl (fits-actor words caller h.1) r
  command-not_refused verb words defect r (Begin caller) h = not_refused verb (codes "begin") words _ defect h.0 refl (fits-actor words caller h.1) r
  command-not_refused verb words defect r (SubCommit caller) h = not_refused verb (codes "subcommit") words _ defect h.0 refl (fits-actor words caller h.1) r
  command-not_refused verb words defect r (SubAbort caller) h = not_refused verb (codes "subabort") words _ defect h.0 refl (fits-actor words caller h.1) r
  command-not_refused verb words defect r (Owned target) h = not_refused verb (codes "owned") words _ defect h.0 refl (fits-lone words target h.1) r
  command-not_refused verb words defect r (Waiters target) h = not_refused verb (codes "waiters") words _ defect h.0 refl (fits-lone words target h.1) r
  command-not_refused verb words defect r (Queue caller tag) h = not_refused verb (codes "queue") words _ defect h.0 refl (fits-queue words caller tag h.1) r
  command-not_refused verb words defect r (Blockers by other tag) h = not_refused verb (codes "blockers") words _ defect h.0 refl (fits-blocked words by other tag h.1) r
  command-not_refused verb words defect r (Cancel by other) h = not_refused verb (codes "cancel") words _ defect h.0 refl (fits-both words by other h.1) r
  command-not_refused verb words defect r (command.List caller) h = not_refused verb (codes "list") words _ defect h.0 refl (fits-actor words caller h.1) r
  command-not_refused verb words defect r (Count caller index) h = not_refused verb (codes "count") words _ defect h.0 refl (fits-count words caller index h.1) r
  command-not_refused verb words defect r (Hash tag) h = not_refused verb (codes "hash") words _ defect h.0 refl (fits-tag words tag h.1) r
  command-not_refused verb words defect r (Close caller) h = not_refused verb (codes "close") words _ defect h.0 refl (fits-actor words caller h.1) r

  -- So a line that is refused means nothing.
  pub means_nothing : (line : List (List ℕ)) (verb : List ℕ) (words : List (List ℕ)) (defect : Defect) → line ≡ verb ∷ words → slice_index_or verb 0 0 ≢ 35 → IsRefused sessions objects (words_behind verb commands) words defect → MeansNothing sessions objects line
  means_nothing line verb words defect is speaks refused =
      subst (λ (l : List (List ℕ)). MeansNothing sessions objects l) (sym is) (speaks, command-not_refused verb words defect refused)
