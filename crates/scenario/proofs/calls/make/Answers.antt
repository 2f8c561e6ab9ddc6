use Rattle.scenario.proofs.Lemmas.Answered.{fits}
use Rattle.scenario.proofs.calls.make.Goals as goal

pub tell-requires : goal.tell-requires
tell-requires g c = (fits _ _ _ _ _ _ _ _ c.requires c.make-answer.ensures.made).0

pub returns : goal.returns
returns g c = record {
  quiet_of = g.B.Board.quiet;
  answered = c.make-answer.result;
  made = c.make-answer.ensures.made;
  is_told = c.tell.ensures;
}
