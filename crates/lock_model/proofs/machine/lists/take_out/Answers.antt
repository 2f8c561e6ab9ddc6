use Rattle.std.proofs.Common.{Bool, not, rules}
use Rattle.std.proofs.lemmas.Fn.{filter_same}
use Rattle.lock_model.specs.declared.machine.state.Sleeper.{Sleeper}
use Rattle.lock_model.specs.SleeperLists.{is_at}
use Rattle.lock_model.proofs.machine.lists.take_out.Goals as goal

pub returns : goal.returns
returns c =
    let stays : Sleeper → Bool = λ e. not (is_at c.args.lock c.args.session e) in
    filter_same _ stays _ (λ x b q called. (search rules, search rules)) _ _ c.retain.ensures.filtered
