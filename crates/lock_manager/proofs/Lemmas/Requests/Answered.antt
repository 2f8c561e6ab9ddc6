use Rattle.std.proofs.Common.{◌≡◌, true, false, length, Result, Err, sym, subst, inr}
use Rattle.std.proofs.lemmas.Bool.{both_ways}
use Rattle.modes_core.specs.declared.modes.Mode.{Mode}
use Rattle.modes_core.specs.declared.tags.Tag.{Tag}
use Rattle.modes_core.specs.declared.sessions.Owner.{Owner}
use Rattle.modes_core.specs.declared.refusals.Refusal.{Refusal}
use Rattle.modes_core.specs.declared.refusals.Refusal.TheVariants.{NoMemory, LocalFull, CountFull}
use Rattle.local_locks.specs.Owned.{Owned, has_entry, owner_count_of, max_count}
use Rattle.wait_queue.specs.declared.requests.Kind.{Kind}
use Rattle.lock_world.specs.Account.{Account}
use Rattle.shared_rule.specs.Boards.{Seated}
use Rattle.fast_path.specs.declared.use_counts.UseCounts.{UseCounts}
use Rattle.lock_manager.specs.declared.requests.Begun.{Begun}
use Rattle.lock_manager.specs.declared.requests.Begun.TheVariants.{AlreadyHeld}
use Rattle.lock_manager.specs.Requests.{Requests}
use Rattle.lock_manager.specs.Acquires.{AnswersByOwned, IsOwnRefusal, Begins}
use Rattle.lock_manager.proofs.Lemmas.Requests.Whole.{requested-not_own}

-- An acquire whose request was refused.

-- What joins its trace is what joins that of the request.
pub begins-refused :
    (kind : Kind) (seat : Seated) (owned : Owned) (a b : Account) (uses left : UseCounts) (tag : Tag) (mode : Mode) (refusal : Refusal)
    → Requests kind seat a uses tag mode (Err refusal) b left → Begins kind seat owned a uses tag mode (Err refusal) b left
begins-refused kind seat owned a b uses left tag mode CountFull requests = absurd (requested-not_own kind seat a b uses left tag mode CountFull requests tt)
begins-refused kind seat owned a b uses left tag mode LocalFull requests = absurd (requested-not_own kind seat a b uses left tag mode LocalFull requests tt)
begins-refused kind seat owned a b uses left tag mode NoMemory requests = inr requests
begins-refused kind seat owned a b uses left tag mode _ requests = requests

-- By what the session owns there was nothing to answer: it has no entry of the mode, its count isn't full,
-- and there was a place.
pub answers-refused :
    (kind : Kind) (seat : Seated) (owned : Owned) (a b : Account) (uses left : UseCounts) (tag : Tag) (mode : Mode) (owner : Owner) (refusal : Refusal)
    → Requests kind seat a uses tag mode (Err refusal) b left → has_entry owned.entries tag mode ≡ false
    → (owner_count_of owned.entries tag mode owner ≡ max_count → ⊥) → (length owned.entries ≡ owned.max_local → ⊥)
    → AnswersByOwned owned tag mode owner AlreadyHeld true (let refused : Result Begun Refusal = Err refusal in refused)
answers-refused kind seat owned a b uses left tag mode owner refusal requests none not_full some_place = record {
  already_held = (λ is. absurd (cc (is)), λ held. absurd (both_ways (has_entry owned.entries tag mode) none held.0));
  count_full = (
    λ is. let same : refusal ≡ CountFull = cc (is) in
        absurd (requested-not_own kind seat a b uses left tag mode refusal requests (subst IsOwnRefusal (sym same) tt)),
    λ full. absurd (not_full full),
  );
  local_full = (
    λ is. let same : refusal ≡ LocalFull = cc (is) in
        absurd (requested-not_own kind seat a b uses left tag mode refusal requests (subst IsOwnRefusal (sym same) tt)),
    λ all. absurd (some_place all.2),
  );
}
