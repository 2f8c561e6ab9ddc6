use Rattle.std.proofs.Common.{ap, ◌∙◌}
use Rattle.std.specs.Prelude.{Ok, Err}
use Rattle.lock_manager.specs.Managers.{OpenerView}
use Rattle.lock_manager.proofs.Lemmas.Audits.Lists.{all-from, all-to}
use Rattle.lock_manager.proofs.Lemmas.Audits.Results.{audits-turned, audits-ok, audits-err, audits-tables}
use Rattle.lock_manager.proofs.manager.Manager.audit.Goals as goal

pub returns-in-Ok-clause-counted : goal.returns-in-Ok-clause-counted
returns-in-Ok-clause-counted g c =
    let limit = c.opener.invariant.1 ∙ ap (λ (o : OpenerView). o.limit) c.opener.view_is in
    let groups = ap (λ (o : OpenerView). o.groups) c.opener.view_is in
    audits-ok _ _ _ _ _ _ c.args.sessions.now.items c.reverse-2.new.self.items c.in-Ok.audit
    (audits-turned _ _ _ _ _ _ _ _ c.args.sessions.now.items c.reverse.new.self.items c.audit_all-counted.new.sessions.items c.reverse-2.new.self.items (Ok c.in-Ok.audit)
    limit groups c.reverse.ensures.items c.reverse-2.ensures.items c.in-Ok.ensures.audited)

pub returns-in-Ok-clause-same_manager_still : goal.returns-in-Ok-clause-same_manager_still
returns-in-Ok-clause-same_manager_still g c =
    let limit = c.opener.invariant.1 ∙ ap (λ (o : OpenerView). o.limit) c.opener.view_is in
    let groups = ap (λ (o : OpenerView). o.groups) c.opener.view_is in
    all-to _ c.reverse-2.new.self.items
    (audits-tables _ _ _ _ c.args.self.now.table _ _ c.args.sessions.now.items c.reverse-2.new.self.items (Ok c.in-Ok.audit)
    (audits-turned _ _ _ _ _ _ _ _ c.args.sessions.now.items c.reverse.new.self.items c.audit_all-counted.new.sessions.items c.reverse-2.new.self.items (Ok c.in-Ok.audit)
    limit groups c.reverse.ensures.items c.reverse-2.ensures.items c.in-Ok.ensures.audited) (all-from _ c.args.sessions.now.items c.requires.same_manager)).0

pub returns-in-Ok-clause-as_many : goal.returns-in-Ok-clause-as_many
returns-in-Ok-clause-as_many g c =
    let limit = c.opener.invariant.1 ∙ ap (λ (o : OpenerView). o.limit) c.opener.view_is in
    let groups = ap (λ (o : OpenerView). o.groups) c.opener.view_is in
    (audits-tables _ _ _ _ c.args.self.now.table _ _ c.args.sessions.now.items c.reverse-2.new.self.items (Ok c.in-Ok.audit)
    (audits-turned _ _ _ _ _ _ _ _ c.args.sessions.now.items c.reverse.new.self.items c.audit_all-counted.new.sessions.items c.reverse-2.new.self.items (Ok c.in-Ok.audit)
    limit groups c.reverse.ensures.items c.reverse-2.ensures.items c.in-Ok.ensures.audited) (all-from _ c.args.sessions.now.items c.requires.same_manager)).1

pub returns-clause-counted : goal.returns-clause-counted
returns-clause-counted g c =
    let limit = c.opener.invariant.1 ∙ ap (λ (o : OpenerView). o.limit) c.opener.view_is in
    let groups = ap (λ (o : OpenerView). o.groups) c.opener.view_is in
    audits-err _ _ _ _ _ _ c.args.sessions.now.items c.reverse-2.new.self.items c.in-Err.field-0 _
    (audits-turned _ _ _ _ _ _ _ _ c.args.sessions.now.items c.reverse.new.self.items c.audit_all-counted.new.sessions.items c.reverse-2.new.self.items (Err c.in-Err.field-0)
    limit groups c.reverse.ensures.items c.reverse-2.ensures.items c.in-Err.ensures.audited)

pub returns-clause-same_manager_still : goal.returns-clause-same_manager_still
returns-clause-same_manager_still g c =
    let limit = c.opener.invariant.1 ∙ ap (λ (o : OpenerView). o.limit) c.opener.view_is in
    let groups = ap (λ (o : OpenerView). o.groups) c.opener.view_is in
    all-to _ c.reverse-2.new.self.items
    (audits-tables _ _ _ _ c.args.self.now.table _ _ c.args.sessions.now.items c.reverse-2.new.self.items (Err c.in-Err.field-0)
    (audits-turned _ _ _ _ _ _ _ _ c.args.sessions.now.items c.reverse.new.self.items c.audit_all-counted.new.sessions.items c.reverse-2.new.self.items (Err c.in-Err.field-0)
    limit groups c.reverse.ensures.items c.reverse-2.ensures.items c.in-Err.ensures.audited) (all-from _ c.args.sessions.now.items c.requires.same_manager)).0

pub returns-clause-as_many : goal.returns-clause-as_many
returns-clause-as_many g c =
    let limit = c.opener.invariant.1 ∙ ap (λ (o : OpenerView). o.limit) c.opener.view_is in
    let groups = ap (λ (o : OpenerView). o.groups) c.opener.view_is in
    (audits-tables _ _ _ _ c.args.self.now.table _ _ c.args.sessions.now.items c.reverse-2.new.self.items (Err c.in-Err.field-0)
    (audits-turned _ _ _ _ _ _ _ _ c.args.sessions.now.items c.reverse.new.self.items c.audit_all-counted.new.sessions.items c.reverse-2.new.self.items (Err c.in-Err.field-0)
    limit groups c.reverse.ensures.items c.reverse-2.ensures.items c.in-Err.ensures.audited) (all-from _ c.args.sessions.now.items c.requires.same_manager)).1
