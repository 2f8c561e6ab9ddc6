use Rattle.lock_manager.proofs.audit.+audit_others.Given as goal

abbrev pub decreases-audit_others : goal.decreases-audit_others
decreases-audit_others g l = l.sessions.now.len
