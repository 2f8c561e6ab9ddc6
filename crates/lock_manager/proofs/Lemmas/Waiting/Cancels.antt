use Rattle.std.proofs.Common.{◌≡◌, ℕ, Bool, true, false, List, [], ◌∷◌, ◌++◌, refl, sym, ap, ◌∙◌}
use Rattle.modes_core.specs.declared.modes.Mode.{Mode}
use Rattle.modes_core.specs.declared.tags.Tag.{Tag}
use Rattle.modes_core.specs.declared.sessions.Owner.{Owner}
use Rattle.modes_core.specs.Tag.{is_strong_on}
use Rattle.local_locks.specs.declared.records.Entry.{Entry}
use Rattle.local_locks.specs.Owned.{with_one_more}
use Rattle.lock_world.specs.Account.{Account}
use Rattle.lock_world.specs.AccountSteps.{account_uncounting}
use Rattle.lock_world.specs.Counted.{uncounting}
use Rattle.lock_world.specs.World.{TraceEntry}
use Rattle.shared_rule.specs.Boards.{Stack}
use Rattle.fast_path.specs.declared.use_counts.UseCounts.{UseCounts}
use Rattle.lock_manager.specs.Rest.{counted_for, account_at_rest, IsUseCount, IsAtRest}
use Rattle.lock_manager.specs.Requests.{counted_granted, account_granted}
use Rattle.lock_manager.specs.Waiting.{IsWaiting, account_cancelled}
use Rattle.fast_path.proofs.Lemmas.Counts.{counted_at, uncounting-last}
use Rattle.lock_manager.proofs.Lemmas.Rest.Acquires.{use_count-same, counted-none}
use Rattle.lock_manager.proofs.Lemmas.Waiting.Looks.{rest-taken_over}
use Rattle.lock_manager.proofs.Lemmas.Requests.Whole.{if-true}

-- What a session has once its wait is cancelled.

module _ (groups limit database : ℕ) (uses : UseCounts) (a : Account) (stack : Stack) (entries : List Entry) (tag : Tag) (mode : Mode)
    (waits : IsWaiting groups limit database uses a stack entries tag mode) where
  -- the account with the wait over
  abbrev rested : List TraceEntry → Account
  rested trace = account_at_rest limit database a.fast.remembered entries trace

  over-use_count : (b : Account) (how : Bool) → b ≡ account_cancelled a tag mode how b.trace → IsUseCount groups b uses
  over-use_count b false over = use_count-same groups a b uses (sym (ap (λ (x : Account). x.fast.remembered) over)) waits.use_count
  over-use_count b true over = use_count-same groups a b uses (sym (ap (λ (x : Account). x.fast.remembered) over)) waits.use_count

  -- Where it was granted the session has one more entry,
  pub rest-was_granted :
      (b : Account) (its : Stack) (new : List Entry) (owner : Owner) → b ≡ account_cancelled a tag mode true b.trace → its ≡ stack
      → new ≡ with_one_more entries tag mode owner → IsAtRest groups limit database uses b its new
  rest-was_granted b its new owner over same more =
      let remembered : a.fast.remembered ≡ b.fast.remembered = sym (ap (λ (x : Account). x.fast.remembered) over) in
      rest-taken_over groups limit database uses a.fast.remembered b its entries new tag mode owner a.trace stack waits.no_entry
      (over
      ∙ ap (λ (x : Account). account_cancelled x tag mode true b.trace) waits.account
      ∙ (λ i. account_granted limit (rested a.trace) tag mode (remembered i) b.trace))
      (over-use_count b true over) (use_count-same groups a (rested a.trace) uses refl waits.use_count) same waits.nothing_left more

  -- Else it has what it had before, with a strong mode once that is counted no more.
  pub rest-removed_strong :
      (b c : Account) (its : Stack) → is_strong_on tag mode ≡ true → b ≡ account_cancelled a tag mode false b.trace → c ≡ account_uncounting b tag mode
      → its ≡ stack → IsAtRest groups limit database uses c its entries
  rest-removed_strong b c its strong over back same = record {
    account =
        back
        ∙ ap (λ (x : Account). account_uncounting x tag mode) (over ∙ ap (λ (x : Account). account_cancelled x tag mode false b.trace) waits.account)
        ∙ (λ i. record (rested b.trace) {
          fast = record ((rested b.trace).fast) {
            remembered = (sym (ap (λ (x : Account). x.fast.remembered) over) ∙ remembered) i;
            counted = counted i;
          };
          trace = sym (ap (λ (x : Account). x.trace) back) i;
        });
    use_count = use_count-same groups b c uses remembered (over-use_count b false over);
    nothing_left = same ∙ waits.nothing_left;
  } where
    remembered : b.fast.remembered ≡ c.fast.remembered
    remembered = sym (ap (λ (x : Account). x.fast.remembered) back)

    counted : uncounting (counted_granted limit (counted_for limit entries) tag mode) tag mode ≡ counted_for limit entries
    counted =
        ap (λ list. uncounting list tag mode) (if-true (is_strong_on tag mode) (counted_for limit entries ++ counted_at tag mode limit ∷ []) (counted_for limit entries) strong)
        ∙ uncounting-last (counted_for limit entries) tag mode limit (counted-none limit entries tag mode waits.no_entry)
