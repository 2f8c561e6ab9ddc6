-- What a session at rest has in its account, and that it rests again once its entries have changed with its
-- account.
use Rattle.std.proofs.Common.{◌≡◌, ℕ, ◌<◌, Bool, true, false, ◌==◌, List, [], ◌∷◌, refl, sym, ap, ◌∙◌, subst, inl, inr}
use Rattle.std.specs.Prelude.{if◌then◌else◌}
use Rattle.std.proofs.lemmas.Bool.{cases_Bool, false≢true}
use Rattle.modes_core.specs.declared.modes.Mode.{Mode}
use Rattle.modes_core.specs.declared.tags.Tag.{Tag}
use Rattle.modes_core.specs.declared.sessions.Owner.{Owner}
use Rattle.modes_core.specs.declared.sessions.Owner.TheVariants.{Session, Transaction}
use Rattle.modes_core.specs.Mode.{mode_eq}
use Rattle.modes_core.specs.Tag.{tag_eq, is_strong_on}
use Rattle.modes_core.proofs.Lemmas.Conflicts.{tag_eq-same}
use Rattle.local_locks.specs.declared.records.Entry.{Entry}
use Rattle.local_locks.specs.declared.ends.End.TheVariants.{Close}
use Rattle.local_locks.specs.Owned.{is_of, has_entry, total_of, lowered, change, entries_but, with_one_less, left_by}
use Rattle.local_locks.proofs.Lemmas.Entries.{same_key-from, same_key-refl, has_entry-some, has_entry-with_one_less, others-give_up, keys-still_held}
use Rattle.lock_world.specs.Account.{Account}
use Rattle.lock_world.specs.AccountSteps.{own_with}
use Rattle.lock_world.specs.Counted.{Counted, is_counted, uncounting}
use Rattle.lock_world.specs.World.{TraceEntry}
use Rattle.shared_rule.specs.Seats.{DoNotConflict, MayCloseBy}
use Rattle.shared_rule.specs.Boards.{Stack}
use Rattle.fast_path.specs.declared.use_counts.UseCounts.{UseCounts}
use Rattle.lock_manager.specs.Rest.{counted_for, account_at_rest, IsUseCount, IsAtRest}
use Rattle.lock_manager.specs.Releases.{counted_released, account_released}
use Rattle.lock_manager.specs.Sessions.{DontConflict}
use Rattle.lock_manager.proofs.Lemmas.Rest.Ends.{rest-same}

-- A session at rest holds what it has entries for.
pub own-rest :
    (groups limit database : ℕ) (uses : UseCounts) (a : Account) (stack : Stack) (entries : List Entry) → IsAtRest groups limit database uses a stack entries →
    (tag : Tag) (mode : Mode) → a.own tag mode ≡ has_entry entries tag mode
own-rest groups limit database uses a stack entries rest tag mode = ap (λ (b : Account). b.own tag mode) rest.account

-- Two sessions whose holds don't conflict have no entries that do.
pub entries-apart :
    (groups limit its_groups its_limit database its_database : ℕ) (uses its_uses : UseCounts) (a b : Account) (stack its_stack : Stack) (entries its_entries : List Entry) →
    IsAtRest groups limit database uses a stack entries → IsAtRest its_groups its_limit its_database its_uses b its_stack its_entries → DoNotConflict a b → DontConflict entries its_entries
entries-apart groups limit its_groups its_limit database its_database uses its_uses a b stack its_stack entries its_entries rest its_rest apart tag mode its has its_has =
    apart tag mode its (own-rest groups limit database uses a stack entries rest tag mode ∙ has) (own-rest its_groups its_limit its_database its_uses b its_stack its_entries its_rest tag its ∙ its_has)

-- The end of a session leaves it no entry,
pub left_by-close : (entries : List Entry) → left_by Close entries ≡ []
left_by-close [] = refl
left_by-close (entry ∷ entries) = left_by-close entries

-- and with none it may be closed.
pub MayCloseBy-rest : (groups limit database : ℕ) (uses : UseCounts) (a : Account) (stack : Stack) (entries : List Entry) → IsAtRest groups limit database uses a stack entries → entries ≡ [] → MayCloseBy a
MayCloseBy-rest groups limit database uses a stack entries rest none =
    subst MayCloseBy (sym (rest.account ∙ ap (λ (es : List Entry). account_at_rest limit database a.fast.remembered es a.trace) none)) (record {
      no_hold = λ tag mode. refl;
      no_wait = refl;
      no_partition = λ partition. refl;
      no_shared_partition = λ partition. refl;
      no_fast_word = λ owner. refl;
      no_shared_fast_word = λ owner. refl;
      no_count = refl;
      no_list = refl;
      no_stand = refl;
      none_untold = λ other. refl;
    })

-- ---- what is counted

-- Entries of the same objects and modes are counted alike.
counted-cons :
    (limit : ℕ) (new old : Entry) (news olds : List Entry) → new.tag ≡ old.tag → new.mode ≡ old.mode →
    counted_for limit news ≡ counted_for limit olds → counted_for limit (new ∷ news) ≡ counted_for limit (old ∷ olds)
counted-cons limit new old news olds tag mode rest =
    elim (cases_Bool (is_strong_on old.tag old.mode)) [
      | inl strong ↦ rw (tag, mode, strong) (ap (λ (counted : List Counted). record { tag = old.tag; mode = old.mode; position = limit } ∷ counted) rest)
      | inr weak ↦ rw (tag, mode, weak) rest
    ]

kept_key :
    (owner : Owner) (changes : Bool) (entry : Entry) →
    ((if changes then lowered owner entry else entry).tag ≡ entry.tag) × ((if changes then lowered owner entry else entry).mode ≡ entry.mode)
kept_key Session true entry = (refl, refl)
kept_key Session false entry = (refl, refl)
kept_key Transaction true entry = (refl, refl)
kept_key Transaction false entry = (refl, refl)

counted-lowered :
    (limit : ℕ) (owner : Owner) (entries : List Entry) (tag : Tag) (mode : Mode) →
    counted_for limit (change (lowered owner) entries tag mode) ≡ counted_for limit entries
counted-lowered limit owner [] tag mode = refl
counted-lowered limit owner (entry ∷ entries) tag mode =
    let key = kept_key owner (is_of tag mode entry) entry in
    counted-cons limit _ entry (change (lowered owner) entries tag mode) entries key.0 key.1 (counted-lowered limit owner entries tag mode)

-- Without the entry of an object and mode its strong lock isn't counted,
uncounted-but :
    (limit : ℕ) (entries : List Entry) (tag : Tag) (mode : Mode) →
    counted_for limit (entries_but entries tag mode) ≡ uncounting (counted_for limit entries) tag mode
uncounted-but limit [] tag mode = refl
uncounted-but limit (entry ∷ entries) tag mode =
    let rest = uncounted-but limit entries tag mode in
    elim (cases_Bool (is_of tag mode entry)) [
      | inl it ↦
          elim (cases_Bool (is_strong_on entry.tag entry.mode)) [
            | inl strong ↦ rw (it, strong) (rw it rest)
            | inr weak ↦ rw (it, weak) rest
          ]
      | inr other ↦
          elim (cases_Bool (is_strong_on entry.tag entry.mode)) [
            | inl strong ↦ rw other (rw strong (rw other (ap (λ (counted : List Counted). record { tag = entry.tag; mode = entry.mode; position = limit } ∷ counted) rest)))
            | inr weak ↦ rw other (rw weak rest)
          ]
    ]

-- and where the lock isn't strong nothing counted changes.
counted-but_weak :
    (limit : ℕ) (entries : List Entry) (tag : Tag) (mode : Mode) → is_strong_on tag mode ≡ false →
    counted_for limit (entries_but entries tag mode) ≡ counted_for limit entries
counted-but_weak limit [] tag mode weak = refl
counted-but_weak limit (entry ∷ entries) tag mode weak =
    let rest = counted-but_weak limit entries tag mode weak in
    elim (cases_Bool (is_of tag mode entry)) [
      | inl it ↦
          let same = same_key-from entry.tag entry.mode tag mode it in
          let its_weak : is_strong_on entry.tag entry.mode ≡ false = rw (same.0, same.1) weak in
          rw it (rw its_weak rest)
      | inr other ↦ rw other (counted-cons limit entry entry (entries_but entries tag mode) entries refl refl rest)
    ]

counted-but :
    (limit : ℕ) (entries : List Entry) (tag : Tag) (mode : Mode) →
    counted_for limit (entries_but entries tag mode) ≡ counted_released (counted_for limit entries) tag mode
counted-but limit entries tag mode =
    elim (cases_Bool (is_strong_on tag mode)) [
      | inl strong ↦ rw strong (uncounted-but limit entries tag mode)
      | inr weak ↦ rw weak (counted-but_weak limit entries tag mode weak)
    ]

-- A strong lock that has an entry is counted.
is_counted-entry :
    (limit : ℕ) (entries : List Entry) (tag : Tag) (mode : Mode) → is_strong_on tag mode ≡ true → has_entry entries tag mode ≡ true →
    is_counted (counted_for limit entries) tag mode ≡ true
is_counted-entry limit [] tag mode strong has = absurd (false≢true has)
is_counted-entry limit (entry ∷ entries) tag mode strong has =
    elim (cases_Bool (is_of tag mode entry)) [
      | inl it ↦
          let same = same_key-from entry.tag entry.mode tag mode it in
          let its_strong : is_strong_on entry.tag entry.mode ≡ true = rw (same.0, same.1) strong in
          rw its_strong (rw it refl)
      | inr other ↦
          let rest = is_counted-entry limit entries tag mode strong (rw other at has) in
          elim (cases_Bool (is_strong_on entry.tag entry.mode)) [
            | inl its_strong ↦ rw its_strong (rw other rest)
            | inr its_weak ↦ rw its_weak rest
          ]
    ]

pub is_counted-rest :
    (groups limit database : ℕ) (uses : UseCounts) (a : Account) (stack : Stack) (entries : List Entry) (tag : Tag) (mode : Mode) → IsAtRest groups limit database uses a stack entries →
    is_strong_on tag mode ≡ true → has_entry entries tag mode ≡ true → is_counted a.fast.counted tag mode ≡ true
is_counted-rest groups limit database uses a stack entries tag mode rest strong has =
    ap (λ (b : Account). is_counted b.fast.counted tag mode) rest.account ∙ is_counted-entry limit entries tag mode strong has

-- ---- releases

-- an account at rest with these holds and these strong locks counted
abbrev at_rest_with : ℕ → ℕ → (ℕ → ℕ) → List Entry → List TraceEntry → (Tag → Mode → Bool) → List Counted → Account
at_rest_with limit database remembered entries trace own counted =
    record (account_at_rest limit database remembered entries trace) {
      own = own;
      fast = record ((account_at_rest limit database remembered entries trace).fast) { counted = counted };
    }

-- A release that was not the last leaves what is counted,
counted-still_held :
    (limit : ℕ) (old new : List Entry) (tag : Tag) (mode : Mode) (owner : Owner) → new ≡ with_one_less old tag mode owner → 0 < total_of new tag mode →
    counted_for limit new ≡ counted_for limit old
counted-still_held limit old new tag mode owner less some =
    elim (cases_Bool (total_of old tag mode == 1)) [
      | inl last ↦
          let gone : has_entry new tag mode ≡ false =
          ap (λ (es : List Entry). has_entry es tag mode) less ∙ has_entry-with_one_less old tag mode owner tag mode ∙ rw (same_key-refl tag mode, last) refl in
          absurd (false≢true (sym gone ∙ has_entry-some new tag mode some))
      | inr more ↦
          let changed : with_one_less old tag mode owner ≡ change (lowered owner) old tag mode = rw more refl in
          ap (counted_for limit) (less ∙ changed) ∙ counted-lowered limit owner old tag mode
    ]

-- and so the session rests.
pub IsAtRest-still_held :
    (groups limit database : ℕ) (uses : UseCounts) (a : Account) (stack : Stack) (old new : List Entry) (tag : Tag) (mode : Mode) (owner : Owner) →
    IsAtRest groups limit database uses a stack old → new ≡ with_one_less old tag mode owner → 0 < total_of new tag mode → IsAtRest groups limit database uses a stack new
IsAtRest-still_held groups limit database uses a stack old new tag mode owner rest less some =
    let own : has_entry old ≡ has_entry new = λ i t m. sym (keys-still_held old new tag mode owner less some t m) i in
    rest-same groups limit database uses a stack old new own (sym (counted-still_held limit old new tag mode owner less some)) rest

-- The last one takes the hold and what is counted for it away.
own-released :
    (old new : List Entry) (tag : Tag) (mode : Mode) (owner : Owner) → new ≡ with_one_less old tag mode owner → has_entry new tag mode ≡ false →
    (t : Tag) (m : Mode) → own_with (has_entry old) tag mode false t m ≡ has_entry new t m
own-released old new tag mode owner less gone t m =
    elim (cases_Bool (tag_eq t tag)) [
      | inl its_tag ↦
          elim (cases_Bool (mode_eq m mode)) [
            | inl its_mode ↦
                let same = same_key-from t m tag mode (rw (its_tag, its_mode) refl) in
                rw its_tag (rw its_mode (sym (ap (λ (o : Tag). has_entry new o m) same.0 ∙ ap (has_entry new tag) same.1 ∙ gone)))
            | inr other ↦
                let same = tag_eq-same t tag its_tag in
                rw its_tag (rw other (ap (λ (o : Tag). has_entry old o m) (sym same) ∙ sym (others-give_up old new tag mode owner less t m (rw (its_tag, other) refl))))
          ]
      | inr other ↦ rw other (sym (others-give_up old new tag mode owner less t m (rw other refl)))
    ]

counted-released :
    (limit : ℕ) (old new : List Entry) (tag : Tag) (mode : Mode) (owner : Owner) → new ≡ with_one_less old tag mode owner →
    has_entry old tag mode ≡ true → has_entry new tag mode ≡ false → counted_released (counted_for limit old) tag mode ≡ counted_for limit new
counted-released limit old new tag mode owner less had gone =
    elim (cases_Bool (total_of old tag mode == 1)) [
      | inl last ↦
          let taken : with_one_less old tag mode owner ≡ entries_but old tag mode = rw last refl in
          sym (ap (counted_for limit) (less ∙ taken) ∙ counted-but limit old tag mode)
      | inr more ↦
          let still : has_entry new tag mode ≡ has_entry old tag mode =
          ap (λ (es : List Entry). has_entry es tag mode) less ∙ has_entry-with_one_less old tag mode owner tag mode ∙ rw (same_key-refl tag mode, more) refl in
          absurd (false≢true (sym gone ∙ still ∙ had))
    ]

pub IsAtRest-released :
    (groups limit database : ℕ) (uses left : UseCounts) (a b : Account) (stack its_stack : Stack) (old new : List Entry) (tag : Tag) (mode : Mode) (owner : Owner) →
    IsAtRest groups limit database uses a stack old → new ≡ with_one_less old tag mode owner → has_entry old tag mode ≡ true → has_entry new tag mode ≡ false →
    b ≡ account_released a tag mode b.fast.remembered b.trace → IsUseCount groups b left → its_stack ≡ stack → IsAtRest groups limit database left b its_stack new
IsAtRest-released groups limit database uses left a b stack its_stack old new tag mode owner rest less had gone released use_count same_stack =
    let own : own_with (has_entry old) tag mode false ≡ has_entry new = λ i t m. own-released old new tag mode owner less gone t m i in
    record {
      account =
          released ∙ ap (λ (c : Account). account_released c tag mode b.fast.remembered b.trace) rest.account ∙
          ap
          (λ (o : Tag → Mode → Bool).
          at_rest_with limit database b.fast.remembered new b.trace o (counted_released (counted_for limit old) tag mode)) own ∙
          ap (at_rest_with limit database b.fast.remembered new b.trace (has_entry new)) (counted-released limit old new tag mode owner less had gone);
      use_count = use_count;
      nothing_left = same_stack ∙ rest.nothing_left;
    }
