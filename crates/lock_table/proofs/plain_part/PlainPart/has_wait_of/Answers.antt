use Rattle.std.proofs.Common.{◌∙◌, sym, ap, is_some}
use Rattle.lock_table.specs.declared.part_waits.PartWait.{PartWait}
use Rattle.lock_table.specs.Request.{is_request_on}
use Rattle.lock_table.specs.PartWaits.{request_of}
use Rattle.lock_table.proofs.Lemmas.Find.{is_some-find, is_some-option_map}
use Rattle.lock_table.proofs.Lemmas.WaitLists.{there-in}
use Rattle.lock_table.proofs.plain_part.PlainPart.has_wait_of.Goals as goal

pub returns : goal.returns
returns c =
    c.is_some.ensures ∙ ap is_some c.awaited_mode.ensures ∙ is_some-option_map (λ (wait : PartWait). wait.waiter.mode) _
    ∙ is_some-find (λ (wait : PartWait). is_request_on (request_of wait) c.args.session c.args.tag.now) c.waits.result.now
    ∙ rw c.waits.ensures (sym (there-in c.args.self.now.waits c.args.session c.args.tag.now))
