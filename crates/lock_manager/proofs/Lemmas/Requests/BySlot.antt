use Rattle.std.proofs.Common.{◌≡◌, ℕ, true, List, Result, Err, refl, sym, ap, ◌∙◌}
use Rattle.modes_core.specs.declared.modes.Mode.{Mode}
use Rattle.modes_core.specs.declared.tags.Tag.{Tag}
use Rattle.modes_core.specs.declared.refusals.Refusal.{Refusal}
use Rattle.modes_core.specs.declared.refusals.Refusal.TheVariants.{NoMemory, LocalFull, CountFull, SlotsFull, NotEligible}
use Rattle.modes_core.specs.Tag.{is_eligible_for}
use Rattle.lock_world.specs.Account.{Account}
use Rattle.lock_world.specs.AccountSteps.{own_with}
use Rattle.lock_world.specs.World.{TraceEntry}
use Rattle.fast_path.specs.Grants.{GrantsInSlot, TriesGrant}
use Rattle.fast_path.specs.declared.use_counts.UseCounts.{UseCounts}
use Rattle.lock_manager.specs.Acquires.{IsOwnAnswerBySlot}
use Rattle.lock_manager.specs.Requests.{account_granted}
use Rattle.lock_manager.proofs.Lemmas.Requests.Whole.{eligible-weak, weak-counted}

-- An acquire by the fast path alone.

-- Granted, it leaves what is counted.
pub by_slot-account :
    (groups limit number : ℕ) (a b : Account) (before : List TraceEntry) (uses left : UseCounts) (tag : Tag) (mode : Mode) → is_eligible_for a.fast.database tag mode ≡ true
    → GrantsInSlot groups number a before uses tag mode b left → b ≡ account_granted limit a tag mode b.fast.remembered b.trace
by_slot-account groups limit number a b before uses left tag mode eligible granted =
    granted.account
    ∙ (λ i. record a {
      own = own_with a.own tag mode true;
      fast = record (a.fast) {
        remembered = sym (ap (λ (x : Account). x.fast.remembered) granted.account) i;
        counted = weak-counted limit a.fast.counted tag mode (eligible-weak a.fast.database tag mode eligible) i;
      };
      trace = sym (ap (λ (x : Account). x.trace) granted.account) i;
    })

-- Once it is tried it is answered by what the session has of its own where its slots are full alone: then
-- this holds, which does for such an answer.
pub tried-untouched :
    (P : Type 0) (groups number : ℕ) (a b : Account) (uses left : UseCounts) (tag : Tag) (mode : Mode) (refusal : Refusal)
    → TriesGrant groups number a uses tag mode (Err refusal) b left → IsOwnAnswerBySlot (Err refusal)
    → ((let refused : Result (Unit {0}) Refusal = Err refusal in refused) ≡ Err SlotsFull → P) → P
tried-untouched P groups number a b uses left tag mode CountFull tried own full = absurd tried
tried-untouched P groups number a b uses left tag mode LocalFull tried own full = absurd tried
tried-untouched P groups number a b uses left tag mode NotEligible tried own full = absurd tried
tried-untouched P groups number a b uses left tag mode NoMemory tried own full = absurd tried
tried-untouched P groups number a b uses left tag mode SlotsFull tried own full = full refl
tried-untouched P groups number a b uses left tag mode _ tried own full = absurd own
