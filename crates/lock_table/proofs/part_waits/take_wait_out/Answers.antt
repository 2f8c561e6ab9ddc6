use Rattle.std.proofs.Common.{Bool, not, rules}
use Rattle.std.proofs.lemmas.Fn.{filter_same}
use Rattle.lock_table.specs.Request.{is_request_on}
use Rattle.lock_table.specs.declared.part_waits.PartWait.{PartWait}
use Rattle.lock_table.specs.PartWaits.{request_of}
use Rattle.lock_table.proofs.part_waits.take_wait_out.Goals as goal

pub returns-clause-items : goal.returns-clause-items
returns-clause-items c =
    let stays : PartWait → Bool = λ wait. not (is_request_on (request_of wait) c.args.session c.args.tag.now) in
    filter_same _ stays _ (λ x b q called. (search rules, search rules)) _ _ c.retain.ensures.filtered
