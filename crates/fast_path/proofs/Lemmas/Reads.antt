use Rattle.std.proofs.Common.{◌≡◌, ◌≢◌, ℕ, ◌*◌, List, [], ◌∷◌, ◌++◌, Some, None, refl, sym, ap, ◌∙◌, append_assoc}
use Rattle.std.specs.Prelude.{◌==◌}
use Rattle.std.proofs.lemmas.Bool.{cond-true, cond-false, eq-eqb, ne_eqb}
use Rattle.lock_table.specs.Put.{set_at}
use Rattle.lock_table.proofs.Lemmas.Put.{set_at-here, set_at-same, set_at-twice}
use Rattle.lock_world.specs.declared.events.Word.TheVariants.{Database}
use Rattle.lock_world.specs.SlotHolds.{group_size, slot_holds}
use Rattle.lock_world.specs.World.{TraceEntry, Loaded}
use Rattle.lock_world.specs.Account.{Account, SlotsInHand}
use Rattle.lock_world.specs.AccountFacts.{KnowsSlots}
use Rattle.lock_world.specs.AccountSteps.{account_tracing, account_unsharing_fast}
use Rattle.lock_world.specs.AccountLaw.{MayUnshareFastBy}
use Rattle.shared_rule.specs.History.{slots_here}
use Rattle.shared_rule.specs.Slots.{SharesFast}
use Rattle.fast_path.specs.Rows.{ReadsSlots}
use Rattle.fast_path.specs.Slots.{all_loads, account_loading}
use Rattle.fast_path.proofs.Lemmas.Turns.{remembered_then}

-- Reading a session's slots while their lock is shared.

-- the account while it is, with what the session remembers of its own slots since, after these steps
abbrev pub account_sharing : ℕ → Account → ℕ → SlotsInHand → List TraceEntry → Account
account_sharing number a owner slots steps = record a {
  fast = record (a.fast) {
    shared_slots = set_at a.fast.shared_slots owner (Some slots);
    remembered = remembered_then number a owner slots;
  };
  trace = a.trace ++ steps;
}

-- The lock is shared, and then the session's database was loaded.
pub record Reads (groups number : ℕ) (a : Account) (owner shown : ℕ) (b : Account) : Type 0 where
  pub slots : SlotsInHand
  pub knows : KnowsSlots groups number a owner slots
  pub holds : slots.holds ≡ slot_holds shown slots.word
  pub own_database : owner ≡ number → shown ≡ a.fast.database
  pub account : b ≡ account_sharing number a owner slots (Loaded (Database owner) shown ∷ [])

pub reads :
    (groups number : ℕ) (a shared b : Account) (owner shown : ℕ) → SharesFast groups number a owner shared
    → ((slots : SlotsInHand) → shared.fast.shared_slots owner ≡ Some slots → slots.holds ≡ slot_holds shown slots.word)
    → (owner ≡ number → shown ≡ shared.fast.database)
    → b ≡ account_tracing shared (Loaded (Database owner) shown) → Reads groups number a owner shown b
reads groups number a shared b owner shown shares of_slots own loaded = record {
  slots = shares.slots;
  knows = shares.knows;
  holds = of_slots shares.slots
      ((λ i. (shares.account i).fast.shared_slots owner)
      ∙ set_at-here a.fast.shared_slots owner (Some shares.slots) owner refl);
  own_database = λ same. own same ∙ ap (λ (x : Account). x.fast.database) shares.account;
  account = loaded ∙ (λ i. account_tracing (shares.account i) (Loaded (Database owner) shown));
}

module _ (groups number : ℕ) (a b : Account) (owner shown : ℕ) (read : Reads groups number a owner shown b) where
  pub slots-shared : b.fast.shared_slots owner ≡ Some read.slots
  slots-shared = (λ i. (read.account i).fast.shared_slots owner)
      ∙ set_at-here a.fast.shared_slots owner (Some read.slots) owner refl

  pub reads-slots : ReadsSlots groups number a owner shown read.slots.word
  reads-slots = record {
    slots = read.slots;
    knows = read.knows;
    words = refl;
    holds = read.holds;
    own_database = read.own_database;
  }

  -- the loads of the database and of the slots
  abbrev pub its_loads : List TraceEntry
  its_loads = Loaded (Database owner) shown ∷ all_loads groups owner read.slots.word

  module _ (v : Account) (count : ℕ) (all : count ≡ group_size * groups)
      (loaded : v ≡ account_loading b owner (λ k. k) (slots_here (b.fast.shared_slots owner)).word count) where
    -- Then its slots are loaded,
    read-loads : v ≡ account_sharing number a owner read.slots its_loads
    read-loads =
        loaded
        ∙ (λ i. account_loading b owner (λ k. k) (slots_here (slots-shared i)).word (all i))
        ∙ (λ i. account_loading (read.account i) owner (λ k. k) read.slots.word (group_size * groups))
        ∙ (λ i. record (account_sharing number a owner read.slots []) {
          trace = append_assoc a.trace (Loaded (Database owner) shown ∷ [])
              (all_loads groups owner read.slots.word) i;
        })

    -- the lock may be shared no more,
    pub may_unshare : (slots : SlotsInHand) × MayUnshareFastBy v owner slots
    may_unshare = (
      read.slots,
      record {
        shared = (λ i. (read-loads i).fast.shared_slots owner)
            ∙ set_at-here a.fast.shared_slots owner (Some read.slots) owner refl;
      },
    )

    -- and then the account is as before but for what it remembers, and the trace.
    pub read-unshared :
        (c : Account) → a.fast.shared_slots ≡ (λ _. None) → c ≡ account_unsharing_fast v owner
        → c ≡ record a {
          fast = record (a.fast) { remembered = remembered_then number a owner read.slots };
          trace = a.trace ++ its_loads;
        }
    read-unshared c none put =
        put ∙ ap (λ (x : Account). account_unsharing_fast x owner) read-loads
        ∙ (λ i. record a {
          fast = record (a.fast) { shared_slots = gone i; remembered = remembered_then number a owner read.slots };
          trace = a.trace ++ its_loads;
        }) where
          gone : set_at (set_at a.fast.shared_slots owner (Some read.slots)) owner None ≡ a.fast.shared_slots
          gone =
              set_at-twice a.fast.shared_slots owner (Some read.slots) None
              ∙ set_at-same a.fast.shared_slots owner None (sym (λ i. none i owner))

-- What it remembers then of its own slots is what it read there, and by another's turn it is as before.
pub remembered-own : (number : ℕ) (a : Account) (owner : ℕ) (slots : SlotsInHand) → owner ≡ number
    → remembered_then number a owner slots ≡ slots.word
remembered-own number a owner slots same = cond-true (owner == number) slots.word a.fast.remembered (eq-eqb owner number same)

pub remembered-other : (number : ℕ) (a : Account) (owner : ℕ) (slots : SlotsInHand) → owner ≢ number
    → remembered_then number a owner slots ≡ a.fast.remembered
remembered-other number a owner slots other = cond-false (owner == number) slots.word a.fast.remembered (ne_eqb owner number other)
