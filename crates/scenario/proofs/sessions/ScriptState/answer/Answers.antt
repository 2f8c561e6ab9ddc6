use Rattle.std.proofs.Common.{refl, subst}
use Rattle.scenario.proofs.Lemmas.Actions.{MayDo, may_do}
use Rattle.scenario.specs.Calls.{IsActionOf}
use Rattle.scenario.proofs.sessions.ScriptState.answer.Goals as goal

pub close-requires : goal.close-requires
close-requires g c = record {
  place =
      subst (λ done. MayDo c.args.self.now.sessions done) c.in-Close.is
      (may_do c.args.self.now.sessions c.args.command c.other_of-other.result c.action_of.result c.action_of.ensures c.requires.addressed c.requires.counter);
}

pub lock-requires : goal.lock-requires
lock-requires g c =
    subst (λ done. MayDo c.args.self.now.sessions done) c.in-Lock.is
    (may_do c.args.self.now.sessions c.args.command c.other_of-other.result c.action_of.result c.action_of.ensures c.requires.addressed c.requires.counter)

pub call-requires : goal.call-requires
call-requires g c =
    let may = subst (λ done. MayDo c.args.self.now.sessions done) c.in-Make.is
    (may_do c.args.self.now.sessions c.args.command c.other_of-other.result c.action_of.result c.action_of.ensures c.requires.addressed c.requires.counter) in
    record { place = may.0; scripted = may.1 }

pub owned-requires : goal.owned-requires
owned-requires g c =
    subst (λ done. MayDo c.args.self.now.sessions done) c.in-Owned.is
    (may_do c.args.self.now.sessions c.args.command c.other_of-other.result c.action_of.result c.action_of.ensures c.requires.addressed c.requires.counter)

pub returns-in-Open : goal.returns-in-Open
returns-in-Open g c = record {
  answered =
      record {
        number = c.other_of-other.result;
        other = c.other_of-other.ensures.number;
        action = _;
        which = subst (λ done. IsActionOf c.args.command c.other_of-other.result done) c.in-Open.is c.action_of.ensures;
        done = c.open.ensures.opened;
      };
}

pub returns-in-Name : goal.returns-in-Name
returns-in-Name g c = record {
  answered =
      record {
        number = c.other_of-other.result;
        other = c.other_of-other.ensures.number;
        action = _;
        which = subst (λ done. IsActionOf c.args.command c.other_of-other.result done) c.in-Name.is c.action_of.ensures;
        done = (c.name_object.ensures.named, c.name_object.ensures.names, c.name_object.ensures.sessions);
      };
}

pub returns-in-Close : goal.returns-in-Close
returns-in-Close g c = record {
  answered =
      record {
        number = c.other_of-other.result;
        other = c.other_of-other.ensures.number;
        action = _;
        which = subst (λ done. IsActionOf c.args.command c.other_of-other.result done) c.in-Close.is c.action_of.ensures;
        done = (c.close.ensures.closed, c.close.ensures.names);
      };
}

pub returns-in-Lock : goal.returns-in-Lock
returns-in-Lock g c = record {
  answered =
      record {
        number = c.other_of-other.result;
        other = c.other_of-other.ensures.number;
        action = _;
        which = subst (λ done. IsActionOf c.args.command c.other_of-other.result done) c.in-Lock.is c.action_of.ensures;
        done = (c.lock.ensures.locked, c.lock.ensures.names);
      };
}

pub returns-in-Make : goal.returns-in-Make
returns-in-Make g c = record {
  answered =
      record {
        number = c.other_of-other.result;
        other = c.other_of-other.ensures.number;
        action = _;
        which = subst (λ done. IsActionOf c.args.command c.other_of-other.result done) c.in-Make.is c.action_of.ensures;
        done = (c.call.ensures.called, c.call.ensures.names);
      };
}

pub returns-in-Hash : goal.returns-in-Hash
returns-in-Hash g c = record {
  answered =
      record {
        number = c.other_of-other.result;
        other = c.other_of-other.ensures.number;
        action = _;
        which = subst (λ done. IsActionOf c.args.command c.other_of-other.result done) c.in-Hash.is c.action_of.ensures;
        done = (refl, refl);
      };
}

pub returns-in-Owned : goal.returns-in-Owned
returns-in-Owned g c = record {
  answered =
      record {
        number = c.other_of-other.result;
        other = c.other_of-other.ensures.number;
        action = _;
        which = subst (λ done. IsActionOf c.args.command c.other_of-other.result done) c.in-Owned.is c.action_of.ensures;
        done = (c.owned.ensures, refl);
      };
}
