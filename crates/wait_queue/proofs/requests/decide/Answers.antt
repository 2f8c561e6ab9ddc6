use Rattle.wait_queue.proofs.Lemmas.Decide.{awaits_mode-none}
use Rattle.wait_queue.proofs.requests.decide.Goals as goal

pub begin-requires-clause-not_awaited : goal.begin-requires-clause-not_awaited
begin-requires-clause-not_awaited g c = awaits_mode-none ((g.P.PartTable.content c.args.part.now).waits c.args.tag.now) c.args.session c.args.mode c.requires.no_wait
