use Rattle.std.proofs.Common.{refl}
use Rattle.lock_manager.proofs.Lemmas.Audits.Results.{audits-as, audits-entries}
use Rattle.lock_manager.proofs.Lemmas.Desks.{audits-shown}
use Rattle.lock_manager.proofs.desk.ManagerDeskDeskSession.audit.Goals as goal

pub returns-clause-kept : goal.returns-clause-kept
returns-clause-kept g c = audits-entries _ _ _ _ _ _ c.args.sessions.now.items c.audit.new.sessions.items c.audit.result c.audit.ensures.counted

pub returns-clause-counted : goal.returns-clause-counted
returns-clause-counted g c =
    let desk = c.args.self.now in
    let old = c.args.sessions.now.items in
    let new = c.audit.new.sessions.items in
    audits-shown _ _ _ _ _ _ old new c.audit.result
    (audits-as _ _ _ _ desk.opener.limit desk.manager.now.limit desk.opener.groups desk.manager.now.groups old old new new c.audit.result
    desk.size desk.groups refl refl c.audit.ensures.counted)
