use Rattle.std.proofs.Common.{Bool, not, rules}
use Rattle.std.proofs.lemmas.Fn.{filter_same}
use Rattle.lock_model.specs.declared.machine.state.CountedBy.{CountedBy}
use Rattle.lock_model.specs.CountedLists.{is_by}
use Rattle.lock_model.proofs.machine.counters.uncounted.Goals as goal

pub returns : goal.returns
returns c =
    let stays : CountedBy → Bool = λ e. not (is_by c.args.session c.args.tag c.args.mode e) in
    filter_same _ stays _ (λ x b q called. (search rules, search rules)) _ _ c.retain.ensures.filtered
