use Rattle.std.proofs.Common.{◌≡◌, ◌≢◌, ℕ, ◌+◌, ◌<◌, ◌≤◌, Bool, true, false, List, [], ◌∷◌, ◌++◌, Result, Ok, length}
use Rattle.std.proofs.Common.{arith, refl, sym, ap, ◌∙◌, subst, inl, inr}
use Rattle.std.specs.Prelude.{if◌then◌else◌}
use Rattle.std.proofs.lemmas.Bool.{cases_Bool, false≢true}
use Rattle.modes_core.specs.declared.modes.Mode.{Mode}
use Rattle.modes_core.specs.declared.refusals.Refusal.{Refusal}
use Rattle.modes_core.specs.declared.tags.Tag.{Tag}
use Rattle.modes_core.specs.declared.sessions.Owner.{Owner}
use Rattle.modes_core.specs.declared.sessions.Owner.TheVariants.{Session, Transaction}
use Rattle.modes_core.specs.Tag.{is_strong_on}
use Rattle.local_locks.specs.declared.records.Entry.{Entry}
use Rattle.local_locks.specs.Owned.{Owned, max_count, is_of, has_entry, owner_count_of, raised, change, new_entry, with_one_more}
use Rattle.local_locks.proofs.Lemmas.Entries.{same_key, same_key-from, has_entry-with_one_more}
use Rattle.lock_world.specs.Account.{Account}
use Rattle.lock_world.specs.AccountSteps.{own_with, account_storing}
use Rattle.lock_world.specs.Counted.{Counted, is_counted}
use Rattle.lock_world.specs.SlotHolds.{used_in, AreInGroups, ShowsNoMore}
use Rattle.lock_world.proofs.Lemmas.Slots.Used.{used-nothing, in_groups-fewer}
use Rattle.shared_rule.specs.History.{blank_account}
use Rattle.shared_rule.specs.Boards.{Stack, nothing_due}
use Rattle.fast_path.specs.declared.use_counts.UseCounts.{UseCounts}
use Rattle.fast_path.specs.Slots.{count_in, AreCounted}
use Rattle.fast_path.proofs.Lemmas.GroupCounts.{counted-fewer}
use Rattle.lock_manager.specs.Rest.{counted_for, account_at_rest, IsUseCount, IsAtRest}
use Rattle.lock_manager.specs.Requests.{counted_granted, account_granted}
use Rattle.lock_manager.proofs.Lemmas.Rest.Ends.{own_with-key, with_strong, counted_for-cons, rest-same}

-- What a session at rest holds and has counted, after one acquire or one release.

-- Its account has its database.
pub rest-database :
    (groups limit database : ℕ) (uses : UseCounts) (a : Account) (stack : Stack) (entries : List Entry) → IsAtRest groups limit database uses a stack entries → a.fast.database ≡ database
rest-database groups limit database uses a stack entries rest = ap (λ (x : Account). x.fast.database) rest.account

-- A use count is of what is remembered alone.
pub use_count-same :
    (groups : ℕ) (a b : Account) (uses : UseCounts) → a.fast.remembered ≡ b.fast.remembered → IsUseCount groups a uses
    → IsUseCount groups b uses
use_count-same groups a b uses same its = record {
  in_groups = subst (λ (slot : ℕ → ℕ). AreInGroups groups slot) same its.in_groups;
  enough = subst (λ (slot : ℕ → ℕ). AreCounted slot (count_in uses)) same its.enough;
  within = its.within;
}

-- Slots that show no more are no more in use.
pub use_count-fewer :
    (groups : ℕ) (a b : Account) (uses : UseCounts) → ShowsNoMore b.fast.remembered a.fast.remembered
    → IsUseCount groups a uses → IsUseCount groups b uses
use_count-fewer groups a b uses fewer its = record {
  in_groups = in_groups-fewer groups b.fast.remembered a.fast.remembered fewer its.in_groups;
  enough = counted-fewer b.fast.remembered a.fast.remembered (count_in uses) fewer its.enough;
  within = its.within;
}

-- A session whose database was just stored is at rest.
pub rest-new :
    (groups limit database : ℕ) (uses : UseCounts) (a : Account) (stack : Stack) (entries : List Entry) → a ≡ account_storing blank_account database → ((group : ℕ) → count_in uses group ≡ 0) → stack ≡ nothing_due → entries ≡ []
    → IsAtRest groups limit database uses a stack entries
rest-new groups limit database uses a stack entries blank none empty nothing =
    let remembered : (λ _. 0) ≡ a.fast.remembered = sym (ap (λ (x : Account). x.fast.remembered) blank) in
    let trace : [] ≡ a.trace = sym (ap (λ (x : Account). x.trace) blank) in
    record {
      account = blank ∙ (λ i. account_at_rest limit database (remembered i) (sym nothing i) (trace i));
      use_count = record {
        in_groups = subst (λ (words : ℕ → ℕ). AreInGroups groups words) remembered (λ slot within used. absurd (false≢true used));
        enough = λ group below.
            let unused : used_in group a.fast.remembered ≡ 0 = ap (used_in group) (sym remembered) ∙ used-nothing group in
            omega (arith, unused);
        within = λ group below. let is : count_in uses group ≡ 0 = none group in omega (arith, is);
      };
      nothing_left = empty;
    }

-- What it has an entry of is counted once more,
held_again :
    (old new : Owned) (tag : Tag) (mode : Mode) (owner : Owner) (answer : Result Bool Refusal) (held : Bool) → answer ≡ Ok held → held ≡ true
    → (answer ≡ Ok true → (has_entry old.entries tag mode ≡ true) × (owner_count_of old.entries tag mode owner < max_count))
    → (answer ≡ Ok true → new.entries ≡ with_one_more old.entries tag mode owner)
    → (has_entry old.entries tag mode ≡ true) × (new.entries ≡ with_one_more old.entries tag mode owner)
held_again old new tag mode owner answer held ok is entry more =
    let once_more : answer ≡ Ok true = ok ∙ ap (λ (b : Bool). Ok b) is in
    ((entry once_more).0, more once_more)

-- and where it has none its table stays as it was.
pub not_held_yet :
    (old new : Owned) (tag : Tag) (mode : Mode) (answer : Result Bool Refusal) (held : Bool) → answer ≡ Ok held → held ≡ false
    → (answer ≡ Ok false → has_entry old.entries tag mode ≡ false) → (answer ≢ Ok true → new ≡ old) → (has_entry old.entries tag mode ≡ false) × (new.entries ≡ old.entries)
not_held_yet old new tag mode answer held ok is none same =
    let missed : answer ≡ Ok false = ok ∙ ap (λ (b : Bool). Ok b) is in
    (none missed, ap (λ (owned : Owned). owned.entries) (same (λ found. cc)))

-- A session at rest has counted nothing for what it has no entry of,
pub counted-none :
    (limit : ℕ) (entries : List Entry) (tag : Tag) (mode : Mode) → has_entry entries tag mode ≡ false → is_counted (counted_for limit entries) tag mode ≡ false
counted-none limit [] tag mode none = refl
counted-none limit (entry ∷ entries) tag mode none =
    ap (λ list. is_counted list tag mode) (counted_for-cons limit entry entries)
    ∙ elim (cases_Bool (is_of tag mode entry)) [
      | inl it ↦ absurd (false≢true (sym none ∙ rw it refl))
      | inr other ↦
          let later : is_counted (counted_for limit entries) tag mode ≡ false = counted-none limit entries tag mode (rw other at none) in
          elim (cases_Bool (is_strong_on entry.tag entry.mode)) [
            | inl strong ↦ rw (strong, other) later
            | inr weak ↦ rw weak later
          ]
    ]

pub rest-not_counted :
    (groups limit database : ℕ) (uses : UseCounts) (a : Account) (stack : Stack) (entries : List Entry) (tag : Tag) (mode : Mode) → IsAtRest groups limit database uses a stack entries
    → has_entry entries tag mode ≡ false → is_counted a.fast.counted tag mode ≡ false
rest-not_counted groups limit database uses a stack entries tag mode rest none =
    ap (λ (x : Account). is_counted x.fast.counted tag mode) rest.account ∙ counted-none limit entries tag mode none

-- and no more than it has entries.
counted-few : (limit : ℕ) (entries : List Entry) → length (counted_for limit entries) ≤ length entries
counted-few limit [] = omega arith
counted-few limit (entry ∷ entries) =
    let fewer : length (counted_for limit entries) ≤ length entries = counted-few limit entries in
    rw (counted_for-cons limit entry entries) (at (is_strong_on entry.tag entry.mode) fewer) where
      at : (b : Bool) → length (counted_for limit entries) ≤ length entries
          → length (if b then record { tag = entry.tag; mode = entry.mode; position = limit } ∷ counted_for limit entries else counted_for limit entries) ≤ length (entry ∷ entries)
      at true fewer = omega (arith, fewer)
      at false fewer = omega (arith, fewer)

pub rest-few :
    (groups limit database : ℕ) (uses : UseCounts) (most : ℕ) (a : Account) (stack : Stack) (entries : List Entry) → IsAtRest groups limit database uses a stack entries → length entries < most → length a.fast.counted < most
rest-few groups limit database uses most a stack entries rest room =
    let few : length (counted_for limit entries) ≤ length entries = counted-few limit entries in
    subst (λ (x : Account). length x.fast.counted < most) (sym rest.account) (omega (arith, few, room))

-- ---- an acquire

-- Own holds after it are what the entries say then,
own-granted : (entries : List Entry) (tag : Tag) (mode : Mode) (owner : Owner) → own_with (has_entry entries) tag mode true ≡ has_entry (with_one_more entries tag mode owner)
own-granted entries tag mode owner = λ i t m. at t m i where
  at : (t : Tag) (m : Mode) → own_with (has_entry entries) tag mode true t m ≡ has_entry (with_one_more entries tag mode owner) t m
  at t m = own_with-key (has_entry entries) tag mode true t m ∙ sym (has_entry-with_one_more entries tag mode owner t m)

-- and so is what is counted.
counted-push :
    (limit : ℕ) (entries : List Entry) (entry : Entry) → counted_for limit (entries ++ entry ∷ []) ≡ counted_for limit entries ++ with_strong limit entry []
counted-push limit [] entry = counted_for-cons limit entry []
counted-push limit (x ∷ entries) entry =
    counted_for-cons limit x (entries ++ entry ∷ [])
    ∙ ap (with_strong limit x) (counted-push limit entries entry)
    ∙ at (is_strong_on x.tag x.mode)
    ∙ ap (λ (list : List Counted). list ++ with_strong limit entry []) (sym (counted_for-cons limit x entries)) where
      at : (b : Bool) → (if b then record { tag = x.tag; mode = x.mode; position = limit } ∷ (counted_for limit entries ++ with_strong limit entry []) else counted_for limit entries ++ with_strong limit entry [])
          ≡ (if b then record { tag = x.tag; mode = x.mode; position = limit } ∷ counted_for limit entries else counted_for limit entries) ++ with_strong limit entry []
      at true = refl
      at false = refl

counted-granted :
    (limit : ℕ) (entries : List Entry) (tag : Tag) (mode : Mode) (owner : Owner) → has_entry entries tag mode ≡ false
    → counted_granted limit (counted_for limit entries) tag mode ≡ counted_for limit (with_one_more entries tag mode owner)
counted-granted limit entries tag mode owner none =
    at (is_strong_on tag mode)
    ∙ ap (λ list. counted_for limit entries ++ list) (sym (same owner))
    ∙ sym (counted-push limit entries (new_entry tag mode owner))
    ∙ sym (ap (λ b. counted_for limit (if b then change (raised owner) entries tag mode else entries ++ new_entry tag mode owner ∷ [])) none) where
      at : (b : Bool) → (if b then counted_for limit entries ++ record { tag = tag; mode = mode; position = limit } ∷ [] else counted_for limit entries)
          ≡ counted_for limit entries ++ (if b then record { tag = tag; mode = mode; position = limit } ∷ [] else [])
      at true = refl
      at false = sym (Rattle.std.proofs.Common.append-nil (counted_for limit entries))

      same : (its : Owner) → with_strong limit (new_entry tag mode its) [] ≡ (if is_strong_on tag mode then record { tag = tag; mode = mode; position = limit } ∷ [] else [])
      same Session = refl
      same Transaction = refl

pub rest-granted :
    (groups limit database : ℕ) (uses left : UseCounts) (a b : Account) (stack its : Stack) (old new : List Entry) (tag : Tag) (mode : Mode) (owner : Owner) → has_entry old tag mode ≡ false
    → b ≡ account_granted limit a tag mode b.fast.remembered b.trace → IsUseCount groups b left → its ≡ stack → new ≡ with_one_more old tag mode owner
    → IsAtRest groups limit database uses a stack old → IsAtRest groups limit database left b its new
rest-granted groups limit database uses left a b stack its old new tag mode owner none granted use_count same more rest = record {
  account =
      granted
      ∙ ap (λ (x : Account). account_granted limit x tag mode b.fast.remembered b.trace) rest.account
      ∙ (λ i. record (account_at_rest limit database b.fast.remembered old b.trace) {
        own = own-granted old tag mode owner i;
        fast = record ((account_at_rest limit database b.fast.remembered old b.trace).fast) { counted = counted-granted limit old tag mode owner none i };
      })
      ∙ ap (λ entries. account_at_rest limit database b.fast.remembered entries b.trace) (sym more);
  use_count = use_count;
  nothing_left = same ∙ rest.nothing_left;
}

-- A change of counts alone leaves both.
counted-changed :
    (limit : ℕ) (f : Entry → Entry) (entries : List Entry) (tag : Tag) (mode : Mode) → ((e : Entry) → ((f e).tag ≡ e.tag) × ((f e).mode ≡ e.mode))
    → counted_for limit (change f entries tag mode) ≡ counted_for limit entries
counted-changed limit f [] tag mode same = refl
counted-changed limit f (entry ∷ entries) tag mode same =
    counted_for-cons limit (if is_of tag mode entry then f entry else entry) (change f entries tag mode)
    ∙ ap (with_strong limit (if is_of tag mode entry then f entry else entry)) (counted-changed limit f entries tag mode same)
    ∙ at (is_of tag mode entry)
    ∙ sym (counted_for-cons limit entry entries) where
      at : (b : Bool) → with_strong limit (if b then f entry else entry) (counted_for limit entries) ≡ with_strong limit entry (counted_for limit entries)
      at true = λ i. if is_strong_on ((same entry).0 i) ((same entry).1 i) then record { tag = (same entry).0 i; mode = (same entry).1 i; position = limit } ∷ counted_for limit entries else counted_for limit entries
      at false = refl

raised-same : (owner : Owner) (e : Entry) → ((raised owner e).tag ≡ e.tag) × ((raised owner e).mode ≡ e.mode)
raised-same Session e = (refl, refl)
raised-same Transaction e = (refl, refl)

-- What is held already may be acquired once more,
rest-held_again :
    (groups limit database : ℕ) (uses : UseCounts) (a : Account) (stack : Stack) (old new : List Entry) (tag : Tag) (mode : Mode) (owner : Owner) → has_entry old tag mode ≡ true
    → new ≡ with_one_more old tag mode owner → IsAtRest groups limit database uses a stack old → IsAtRest groups limit database uses a stack new
rest-held_again groups limit database uses a stack old new tag mode owner held more rest =
    rest-same groups limit database uses a stack old new (λ i t m. own t m i)
    (sym (counted-changed limit (raised owner) old tag mode (raised-same owner))
    ∙ sym (ap (λ b. counted_for limit (if b then change (raised owner) old tag mode else old ++ new_entry tag mode owner ∷ [])) held)
    ∙ ap (counted_for limit) (sym more)) rest where
      own : (t : Tag) (m : Mode) → has_entry old t m ≡ has_entry new t m
      own t m =
          sym (ap (λ (entries : List Entry). has_entry entries t m) more ∙ has_entry-with_one_more old tag mode owner t m ∙ at (same_key t m tag mode) refl) where
            at : (b : Bool) → same_key t m tag mode ≡ b → (if b then true else has_entry old t m) ≡ has_entry old t m
            at true is = let same = same_key-from t m tag mode is in sym ((λ i. has_entry old (same.0 i) (same.1 i)) ∙ held)
            at false is = refl

-- as an acquire finds it by its own entries.
pub rest-again :
    (groups limit database : ℕ) (uses : UseCounts) (a : Account) (stack : Stack) (old new : Owned) (tag : Tag) (mode : Mode) (owner : Owner)
    (answer : Result Bool Refusal) (held : Bool) → answer ≡ Ok held → held ≡ true
    → (answer ≡ Ok true → (has_entry old.entries tag mode ≡ true) × (owner_count_of old.entries tag mode owner < max_count))
    → (answer ≡ Ok true → new.entries ≡ with_one_more old.entries tag mode owner)
    → IsAtRest groups limit database uses a stack old.entries → IsAtRest groups limit database uses a stack new.entries
rest-again groups limit database uses a stack old new tag mode owner answer held ok is entry more rest =
    let again = held_again old new tag mode owner answer held ok is entry more in
    rest-held_again groups limit database uses a stack old.entries new.entries tag mode owner again.0 again.1 rest
