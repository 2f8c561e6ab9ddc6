-- A session at rest rests on with another database.
use Rattle.std.proofs.Common.{◌≡◌, ℕ, List, sym, ap, subst}
use Rattle.local_locks.specs.declared.records.Entry.{Entry}
use Rattle.lock_world.specs.Account.{Account}
use Rattle.lock_world.specs.AccountSteps.{account_storing}
use Rattle.shared_rule.specs.Boards.{Stack}
use Rattle.fast_path.specs.declared.use_counts.UseCounts.{UseCounts}
use Rattle.lock_manager.specs.Rest.{IsAtRest}

pub rest-stored :
    (groups limit database next : ℕ) (uses : UseCounts) (a b : Account) (stack after : Stack) (entries : List Entry)
    → IsAtRest groups limit database uses a stack entries → b ≡ account_storing a next → after ≡ stack
    → IsAtRest groups limit next uses b after entries
rest-stored groups limit database next uses a b stack after entries rest stored same =
    subst (λ (s : Stack). IsAtRest groups limit next uses b s entries) (sym same)
    (subst (λ (c : Account). IsAtRest groups limit next uses c stack entries) (sym stored) (record {
      account = ap (λ (c : Account). account_storing c next) rest.account;
      use_count = record {
        in_groups = rest.use_count.in_groups;
        enough = rest.use_count.enough;
        within = rest.use_count.within;
      };
      nothing_left = rest.nothing_left;
    }))
