use Rattle.std.proofs.Common.{◌∙◌, ap}
use Rattle.shared_rule.specs.Boards.{Seated}
use Rattle.scenario.proofs.waits.tell_blocked.Goals as goal

pub returns-clause-told : goal.returns-clause-told
returns-clause-told g c = record {
  session = c.id.ensures ∙ ap (λ (seat : Seated). seat.number) c.blockers.ensures.waiting.seat_;
  tag = c.tag.ensures ∙ c.blockers.ensures.waiting.tag_;
  mode = c.mode.ensures ∙ c.blockers.ensures.waiting.mode_;
  looked = record {
    taken = c.blockers.ensures.looked.taken;
    shown = rw c.in_ok-blockers.was at c.blockers.ensures.looked.shown;
    trace = c.blockers.ensures.looked.trace;
  };
  same = c.blockers.ensures.waiting;
}
