use Rattle.std.proofs.Common.{◌≡◌, ℕ, ◌⊎◌, ◌==◌, Bool, true, false, not, nat_le, List, [], ◌∷◌, ◌++◌, Result, Ok, Err, append-nil, arith, refl, sym, ap, ◌∙◌, subst, inl, inr}
use Rattle.std.specs.Prelude.{if◌then◌else◌}
use Rattle.std.specs.Result.{is_err}
use Rattle.std.proofs.lemmas.Bool.{false≢true, and_right, lt-leb}
use Rattle.modes_core.specs.declared.modes.Mode.{Mode}
use Rattle.modes_core.specs.declared.tags.Tag.{Tag}
use Rattle.modes_core.specs.declared.refusals.Refusal.{Refusal}
use Rattle.modes_core.specs.declared.refusals.Refusal.TheVariants.{NoMemory, LocalFull, CountFull, SlotsFull, StrongCounted, NotEligible}
use Rattle.modes_core.specs.Mode.{number_of}
use Rattle.modes_core.specs.Tag.{partition_of, index_of, is_strong_on, is_eligible_for}
use Rattle.wait_queue.specs.declared.requests.Kind.{Kind}
use Rattle.wait_queue.specs.declared.requests.Kind.TheVariants.{Conditional, Waiting}
use Rattle.wait_queue.specs.declared.requests.Decision.{Decision}
use Rattle.wait_queue.specs.declared.requests.Decision.TheVariants.{Granted, Queued}
use Rattle.lock_table.specs.declared.no_memory.NoMemory.{NoMemory as NoMemory_}
use Rattle.lock_world.specs.declared.events.Word.TheVariants.{Strong}
use Rattle.lock_world.specs.Account.{Account, FastAccount}
use Rattle.lock_world.specs.AccountFacts.{OwnHoldsStand}
use Rattle.lock_world.specs.AccountSteps.{account_uncounting, own_with}
use Rattle.lock_world.specs.Counted.{Counted, is_counted, uncounting}
use Rattle.lock_world.specs.World.{TraceEntry, Took, Episode, Loaded}
use Rattle.lock_world.proofs.Lemmas.Slots.Eligible.{eligible-is}
use Rattle.fast_path.specs.Grants.{Grants, IsFull}
use Rattle.fast_path.specs.Transfers.{IsAfterScan, Transfers, IsCutShort, TransfersOrNot}
use Rattle.shared_rule.specs.Boards.{Seated}
use Rattle.fast_path.specs.declared.use_counts.UseCounts.{UseCounts}
use Rattle.lock_manager.specs.Rest.{IsUseCount}
use Rattle.lock_manager.specs.Acquires.{IsOwnRefusal}
use Rattle.lock_manager.specs.Requests.{LeadsToTable, DecidesInPart, Decides, Requests, IsRequested, counted_granted, account_awaiting, account_decided}
use Rattle.fast_path.proofs.Lemmas.Counts.{counted_at, uncounting-last}
use Rattle.lock_table.specs.Content.{Content}
use Rattle.lock_manager.proofs.Lemmas.Rest.Acquires.{use_count-same, use_count-fewer}

-- A whole request: it is granted in a slot, or decided in the table once it was led there.

pub if-true : {A : Type 0} (b : Bool) (x y : A) → b ≡ true → (if b then x else y) ≡ x
if-true true x y is = refl
if-true false x y is = absurd (false≢true is)

pub if-false : {A : Type 0} (b : Bool) (x y : A) → b ≡ false → (if b then x else y) ≡ y
if-false false x y is = refl
if-false true x y is = absurd (false≢true (sym is))

-- The episode's place in the trace.
decided-trace :
    (kind : Kind) (number : ℕ) (a b : Account) (tag : Tag) (mode : Mode) (result : Result Decision Refusal) → (d : DecidesInPart kind number a tag mode result b)
    → b.trace ≡ a.trace ++ Took (partition_of tag) d.taken ∷ Episode (partition_of tag) d.taken d.put ∷ []
decided-trace kind number a b tag mode (Ok Granted) d = ap (λ (x : Account). x.trace) d.account
decided-trace kind number a b tag mode (Ok Queued) d = ap (λ (x : Account). x.trace) d.account
decided-trace kind number a b tag mode (Err refusal) d = ap (λ (x : Account). x.trace) d.account

-- ---- what leads to the episode that decides

-- the account when that begins: it may remember other slots than before, have counted more, and have a longer
-- trace
abbrev pub account_led : Account → (ℕ → ℕ) → List Counted → List TraceEntry → Account
account_led a remembered counted trace = record a {
  fast = record (a.fast) { remembered = remembered; counted = counted };
  trace = trace;
}

pub record IsLed (groups limit : ℕ) (a : Account) (uses : UseCounts) (tag : Tag) (mode : Mode) (counted : List Counted) (b : Account) (left : UseCounts) : Type 0 where
  pub steps : List TraceEntry
  pub before : LeadsToTable groups limit a uses tag mode steps
  pub account : b ≡ account_led a b.fast.remembered counted (a.trace ++ steps)
  pub same : left ≡ uses

-- What may go by a slot isn't strong.
pub eligible-weak : (database : ℕ) (tag : Tag) (mode : Mode) → is_eligible_for database tag mode ≡ true → is_strong_on tag mode ≡ false
eligible-weak database tag mode eligible =
    let is = eligible-is database tag mode eligible in
    ap (λ (t : Tag). is_strong_on t mode) is.0
    ∙ and_right (not (database == 0)) (nat_le 5 (number_of mode)) (lt-leb 5 (number_of mode) (omega (arith, is.2)))

-- A mode that may not go by a slot goes to the table at once,
pub led-by_table :
    (groups limit : ℕ) (a : Account) (uses : UseCounts) (tag : Tag) (mode : Mode) → is_strong_on tag mode ≡ false
    → (is_eligible_for a.fast.database tag mode ≡ false) ⊎ IsFull groups uses tag → IsLed groups limit a uses tag mode a.fast.counted a uses
led-by_table groups limit a uses tag mode weak why = record {
  steps = [];
  before = inl (record { weak = weak; not_tried = why; no_step = refl });
  account = λ i. record a { trace = sym (append-nil a.trace) i };
  same = refl;
}

-- one that may, once no slot was to be had,
pub led-refused :
    (groups number limit : ℕ) (a b : Account) (uses left : UseCounts) (tag : Tag) (mode : Mode) (refusal : Refusal) → is_eligible_for a.fast.database tag mode ≡ true
    → Grants groups number a uses tag mode (Err refusal) b left → IsLed groups limit a uses tag mode a.fast.counted b left
led-refused groups number limit a b uses left tag mode SlotsFull eligible full =
    subst (λ (its : UseCounts). IsLed groups limit a uses tag mode a.fast.counted b its) (sym full.same)
    (subst (λ (x : Account). IsLed groups limit a uses tag mode a.fast.counted x uses) (sym full.account)
    (led-by_table groups limit a uses tag mode (eligible-weak a.fast.database tag mode eligible) (inr full.full)))
led-refused groups number limit a b uses left tag mode StrongCounted eligible found = record {
  steps = Loaded (Strong (index_of tag)) found.1.shown ∷ [];
  before = inr (inl (record {
    tried = record { eligible = eligible; room = found.0 };
    shown = found.1.shown;
    counted = found.1.counted;
    load = refl;
  }));
  account = found.1.account;
  same = found.1.same;
}
led-refused groups number limit a b uses left tag mode _ eligible none = absurd none

-- and a strong one once it is past every session.
pub led-transferred :
    (groups limit : ℕ) (a b : Account) (uses : UseCounts) (tag : Tag) (mode : Mode) → is_strong_on tag mode ≡ true → Transfers groups limit a tag mode b
    → IsLed groups limit a uses tag mode (a.fast.counted ++ counted_at tag mode limit ∷ []) b uses
led-transferred groups limit a b uses tag mode strong moved = record {
  steps = moved.steps;
  before = inr (inr (record { strong = strong; turns = moved.turns }));
  account = moved.after.account;
  same = refl;
}

-- ---- the episode

-- An episode leaves what the session has of the fast path.
decided-fast :
    (kind : Kind) (number : ℕ) (a b : Account) (tag : Tag) (mode : Mode) (result : Result Decision Refusal) → DecidesInPart kind number a tag mode result b
    → b.fast ≡ a.fast
decided-fast kind number a b tag mode (Ok Granted) d = ap (λ (x : Account). x.fast) d.account
decided-fast kind number a b tag mode (Ok Queued) d = ap (λ (x : Account). x.fast) d.account
decided-fast kind number a b tag mode (Err refusal) d = ap (λ (x : Account). x.fast) d.account

pub decided-use_count :
    (kind : Kind) (groups number : ℕ) (a b : Account) (tag : Tag) (mode : Mode) (result : Result Decision Refusal) (uses : UseCounts) → DecidesInPart kind number a tag mode result b
    → IsUseCount groups a uses → IsUseCount groups b uses
decided-use_count kind groups number a b tag mode result uses d =
    use_count-same groups a b uses (ap (λ (fast : FastAccount). fast.remembered) (sym (decided-fast kind number a b tag mode result d)))

module _ (kind : Kind) (seat : Seated) (a b c : Account) (uses left : UseCounts) (tag : Tag) (mode : Mode) (counted : List Counted)
    (led : IsLed seat.groups seat.limit a uses tag mode counted b left) where
  led-trace : b.trace ≡ a.trace ++ led.steps
  led-trace = ap (λ (x : Account). x.trace) led.account

  led-stand : (taken : Content) (remembered : ℕ → ℕ) → b.fast.remembered ≡ remembered
      → OwnHoldsStand seat.number b.own b.fast.database b.fast.remembered (partition_of tag) taken
      → OwnHoldsStand seat.number a.own a.fast.database remembered (partition_of tag) taken
  led-stand taken remembered same stand =
      subst (λ (words : ℕ → ℕ). OwnHoldsStand seat.number a.own a.fast.database words (partition_of tag) taken) same
      (subst (λ (own : Tag → Mode → Bool). OwnHoldsStand seat.number own a.fast.database b.fast.remembered (partition_of tag) taken) (ap (λ (x : Account). x.own) led.account)
      (subst (λ (database : ℕ). OwnHoldsStand seat.number b.own database b.fast.remembered (partition_of tag) taken) (ap (λ (x : Account). x.fast.database) led.account) stand))

  pub led-decides : (result : Result Decision Refusal) → DecidesInPart kind seat.number b tag mode result c → Decides kind seat a uses tag mode result c left
  led-decides result d = record {
    steps = led.steps;
    taken = d.taken;
    put = d.put;
    before = led.before;
    own_stand = led-stand d.taken c.fast.remembered (sym (ap (λ (fast : FastAccount). fast.remembered) (decided-fast kind seat.number b c tag mode result d))) d.own_stand;
    no_own_wait = d.no_own_wait;
    decided = d.decided;
    refused = d.refused;
    kept = d.kept;
    trace =
        decided-trace kind seat.number b c tag mode result d
        ∙ ap (λ (t : List TraceEntry). t ++ Took (partition_of tag) d.taken ∷ Episode (partition_of tag) d.taken d.put ∷ []) led-trace;
    same = led.same;
  }

  whole-trace : (result : Result Decision Refusal) → (d : DecidesInPart kind seat.number b tag mode result c)
      → (a.trace ++ led.steps) ++ Took (partition_of tag) d.taken ∷ Episode (partition_of tag) d.taken d.put ∷ [] ≡ c.trace
  whole-trace result d =
      sym (ap (λ (t : List TraceEntry). t ++ Took (partition_of tag) d.taken ∷ Episode (partition_of tag) d.taken d.put ∷ []) led-trace)
      ∙ sym (decided-trace kind seat.number b c tag mode result d)

  whole-remembered : (result : Result Decision Refusal) → DecidesInPart kind seat.number b tag mode result c → b.fast.remembered ≡ c.fast.remembered
  whole-remembered result d = sym (ap (λ (fast : FastAccount). fast.remembered) (decided-fast kind seat.number b c tag mode result d))

  pub led-account : counted ≡ counted_granted seat.limit a.fast.counted tag mode → (decision : Decision) → DecidesInPart kind seat.number b tag mode (Ok decision) c
      → IsRequested seat.limit a tag mode (Ok decision) c
  led-account same Granted d =
      d.account
      ∙ ap (λ (x : Account). account_decided seat.number x tag mode d.taken d.put (Ok Granted)) led.account
      ∙ (λ i. record a {
        own = own_with a.own tag mode true;
        fast = record (a.fast) { remembered = whole-remembered (Ok Granted) d i; counted = same i };
        trace = whole-trace (Ok Granted) d i;
      })
  led-account same Queued d = (
    d.taken.holds seat.number tag,
    d.account
        ∙ ap (λ (x : Account). account_decided seat.number x tag mode d.taken d.put (Ok Queued)) led.account
        ∙ (λ i. record (account_awaiting a tag mode (d.taken.holds seat.number tag)) {
          fast = record (a.fast) { remembered = whole-remembered (Ok Queued) d i; counted = same i };
          trace = whole-trace (Ok Queued) d i;
        }),
  )

  module _ (refusal : Refusal) (d : DecidesInPart kind seat.number b tag mode (Err refusal) c) where
    -- A refused mode that isn't strong was not counted,
    pub led-refused_weak : counted ≡ a.fast.counted → IsRequested seat.limit a tag mode (Err refusal) c
    led-refused_weak same =
        d.account
        ∙ ap (λ (x : Account). account_decided seat.number x tag mode d.taken d.put (Err refusal)) led.account
        ∙ (λ i. record a {
          fast = record (a.fast) { remembered = whole-remembered (Err refusal) d i; counted = same i };
          trace = whole-trace (Err refusal) d i;
        })

    -- and the count of a strong one goes back.
    module _ (e : Account) (back : e ≡ account_uncounting c tag mode) where
      back-trace : c.trace ≡ e.trace
      back-trace = sym (ap (λ (x : Account). x.trace) back)

      back-remembered : c.fast.remembered ≡ e.fast.remembered
      back-remembered = sym (ap (λ (x : Account). x.fast.remembered) back)

      pub led-refused_steps : Decides kind seat a uses tag mode (Err refusal) e left
      led-refused_steps =
          let it : Decides kind seat a uses tag mode (Err refusal) c left = led-decides (Err refusal) d in
          record {
            steps = it.steps;
            taken = it.taken;
            put = it.put;
            before = it.before;
            own_stand = subst (λ (words : ℕ → ℕ). OwnHoldsStand seat.number a.own a.fast.database words (partition_of tag) it.taken) back-remembered it.own_stand;
            no_own_wait = it.no_own_wait;
            decided = it.decided;
            refused = it.refused;
            kept = it.kept;
            trace = sym back-trace ∙ it.trace;
            same = it.same;
          }

      pub led-refused_strong : counted ≡ a.fast.counted ++ counted_at tag mode seat.limit ∷ [] → is_counted a.fast.counted tag mode ≡ false
          → IsRequested seat.limit a tag mode (Err refusal) e
      led-refused_strong same new =
          back
          ∙ ap (λ (x : Account). account_uncounting x tag mode)
          (d.account ∙ ap (λ (x : Account). account_decided seat.number x tag mode d.taken d.put (Err refusal)) led.account)
          ∙ (λ i. record a {
            fast = record (a.fast) {
              remembered = (whole-remembered (Err refusal) d ∙ back-remembered) i;
              counted = (ap (λ list. uncounting list tag mode) same ∙ uncounting-last a.fast.counted tag mode seat.limit new) i;
            };
            trace = (whole-trace (Err refusal) d ∙ back-trace) i;
          })

      pub led-refused_use_count : (groups : ℕ) (its : UseCounts) → IsUseCount groups b its → IsUseCount groups e its
      led-refused_use_count groups its before =
          use_count-same groups c e its back-remembered (decided-use_count kind groups seat.number b c tag mode (Err refusal) its d before)

-- What is counted for a strong mode, and for another one.
pub strong-counted :
    (limit : ℕ) (counted : List Counted) (tag : Tag) (mode : Mode) → is_strong_on tag mode ≡ true
    → counted ++ counted_at tag mode limit ∷ [] ≡ counted_granted limit counted tag mode
strong-counted limit counted tag mode strong = sym (if-true (is_strong_on tag mode) (counted ++ counted_at tag mode limit ∷ []) counted strong)

pub weak-counted :
    (limit : ℕ) (counted : List Counted) (tag : Tag) (mode : Mode) → is_strong_on tag mode ≡ false → counted ≡ counted_granted limit counted tag mode
weak-counted limit counted tag mode weak = sym (if-false (is_strong_on tag mode) (counted ++ counted_at tag mode limit ∷ []) counted weak)

-- So a mode that isn't strong is answered, whatever the answer.
pub led-weak_account :
    (kind : Kind) (seat : Seated) (a b c : Account) (uses left : UseCounts) (tag : Tag) (mode : Mode) → IsLed seat.groups seat.limit a uses tag mode a.fast.counted b left
    → is_strong_on tag mode ≡ false → (result : Result Decision Refusal) → DecidesInPart kind seat.number b tag mode result c → IsRequested seat.limit a tag mode result c
led-weak_account kind seat a b c uses left tag mode led weak (Ok decision) d =
    led-account kind seat a b c uses left tag mode a.fast.counted led (weak-counted seat.limit a.fast.counted tag mode weak) decision d
led-weak_account kind seat a b c uses left tag mode led weak (Err refusal) d =
    led-refused_weak kind seat a b c uses left tag mode a.fast.counted led refusal d refl

-- ---- no episode

-- Slots that show no more are no more in use.
pub scanned-use_count :
    (groups : ℕ) (a b : Account) (counted : List Counted) (steps : List TraceEntry) (uses : UseCounts)
    → IsAfterScan a counted steps b → IsUseCount groups a uses → IsUseCount groups b uses
scanned-use_count groups a b counted steps uses after = use_count-fewer groups a b uses after.no_more

-- A transfer ends well or is cut short.
pub transferred :
    (groups limit : ℕ) (a : Account) (tag : Tag) (mode : Mode) (result : Result (Unit {0}) NoMemory_) (b : Account) (failed : Bool) → failed ≡ is_err result
    → failed ≡ false → TransfersOrNot groups limit a tag mode result b → Transfers groups limit a tag mode b
transferred groups limit a tag mode (Ok done) b failed is well moved = moved
transferred groups limit a tag mode (Err none) b failed is well moved = absurd (false≢true (sym well ∙ is))

pub cut_short :
    (groups limit : ℕ) (a : Account) (tag : Tag) (mode : Mode) (result : Result (Unit {0}) NoMemory_) (b : Account) (failed : Bool) → failed ≡ is_err result
    → failed ≡ true → TransfersOrNot groups limit a tag mode result b → IsCutShort groups limit a tag b
cut_short groups limit a tag mode (Ok done) b failed is ill moved = absurd (false≢true (sym is ∙ ill))
cut_short groups limit a tag mode (Err none) b failed is ill moved = moved

-- ---- the whole request

-- One that is decided in the table.
pub requests-decided :
    (kind : Kind) (seat : Seated) (a b : Account) (uses left : UseCounts) (tag : Tag) (mode : Mode) (result : Result Decision Refusal)
    → Decides kind seat a uses tag mode result b left → Requests kind seat a uses tag mode result b left
requests-decided kind seat a b uses left tag mode (Ok Granted) decides = inr decides
requests-decided kind seat a b uses left tag mode (Ok Queued) decides = decides
requests-decided kind seat a b uses left tag mode (Err NoMemory) decides = inr decides
requests-decided kind seat a b uses left tag mode (Err _) decides = decides

-- A conditional request is never queued.
pub never-queued :
    (kind : Kind) (seat : Seated) (a b : Account) (uses left : UseCounts) (tag : Tag) (mode : Mode) (decision : Decision) → decision ≡ Queued → kind ≡ Conditional
    → Requests kind seat a uses tag mode (Ok decision) b left → ⊥
never-queued kind seat a b uses left tag mode Granted is conditional requests = cc
never-queued Conditional seat a b uses left tag mode Queued is conditional requests = absurd requests.decided.1
never-queued Waiting seat a b uses left tag mode Queued is conditional requests = cc

-- No request is answered by what the session owns alone.
pub requested-not_own :
    (kind : Kind) (seat : Seated) (a b : Account) (uses left : UseCounts) (tag : Tag) (mode : Mode) (refusal : Refusal)
    → Requests kind seat a uses tag mode (Err refusal) b left → IsOwnRefusal refusal → ⊥
requested-not_own Conditional seat a b uses left tag mode CountFull requests own = requests.refused
requested-not_own Waiting seat a b uses left tag mode CountFull requests own = requests.refused
requested-not_own Conditional seat a b uses left tag mode LocalFull requests own = requests.refused
requested-not_own Waiting seat a b uses left tag mode LocalFull requests own = requests.refused
requested-not_own Conditional seat a b uses left tag mode NotEligible requests own = requests.refused
requested-not_own Waiting seat a b uses left tag mode NotEligible requests own = requests.refused
requested-not_own kind seat a b uses left tag mode _ requests own = own
