use Rattle.std.proofs.Common.{rules, ◌≡◌, ◌+◌, length, sym, ap, ◌∙◌, subst, arith}
use Rattle.shared_rule.specs.Openers.{HaveClosed}
use Rattle.lock_manager.proofs.Lemmas.Managers.Closed.{closed-before-next}
use Rattle.lock_manager.proofs.manager.Opener.session.Goals as goal

pub invariant_of-self : goal.invariant_of-self
invariant_of-self c =
    let old = c.self.inside in
    let counted = c.self.invariant.2 in
    let same : c.session.new.self.closed ≡ old.numbers.closed = c.session.ensures.opener.3 in
    let as_many = ap length same in
    let all = counted.all in
    let within = counted.issued_within in (
      search rules,
      search rules,
      record {
        have_closed = subst (HaveClosed (old.issued + 1)) (sym same) (closed-before-next old.issued old.numbers.closed counted.have_closed);
        all = omega (arith, as_many, all);
        issued_within = omega (arith, within, c.if-self.false);
        few = counted.few;
      },
      c.session.ensures.opener.4 ∙ c.self.invariant.3,
    )
