use Rattle.std.proofs.Common.{List, ap, ◌∙◌}
use Rattle.std.specs.Prelude.{option_map}
use Rattle.lock_table.specs.Content.{Wait}
use Rattle.lock_table.specs.Queue.{wait_in}
use Rattle.lock_records.proofs.Lemmas.QueueRecords.{shown-mode}
use Rattle.lock_records.proofs.wait_queues.WaitQueues.awaited_mode.Goals as goal

pub returns : goal.returns
returns c =
    c.mode_of.ensures ∙ shown-mode c.waiters.result.now c.args.session
    ∙ ap (λ (queue : List Wait). option_map (λ (wait : Wait). wait.mode) (wait_in queue c.args.session)) c.waiters.ensures
