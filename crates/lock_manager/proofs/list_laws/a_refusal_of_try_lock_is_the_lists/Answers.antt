use Rattle.std.proofs.Common.{Some, Err, subst}
use Rattle.modes_core.specs.declared.refusals.Refusal.TheVariants.{Conflict}
use Rattle.wait_queue.specs.declared.requests.Kind.TheVariants.{Conditional}
use Rattle.lock_table.specs.Clash.{ClashIs}
use Rattle.one_list.specs.Requests.{IsRefusedByList}
use Rattle.one_list.proofs.Lemmas.Requests.{refused}
use Rattle.lock_manager.proofs.Lemmas.OneList.{decided-in_world}
use Rattle.lock_manager.proofs.list_laws.a_refusal_of_try_lock_is_the_lists.Goals as goal

pub returns : goal.returns
returns g c =
    λ sizes state rule history stands seat a b uses left tag mode its other how same decides after gone_on.
    decided-in_world _ _ sizes state rule history stands Conditional seat a b uses left tag mode (Err (Conflict other its how)) same decides after gone_on
    (λ w. IsRefusedByList w seat.number tag mode (record { session = other; mode = its; how = how }))
    (λ w safe is. refused w safe seat.number tag mode (record { session = other; mode = its; how = how })
    (subst (λ c. ClashIs c seat.number tag mode (Some (record { session = other; mode = its; how = how }))) is decides.refused))
