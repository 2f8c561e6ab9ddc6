use Rattle.std.proofs.Common.{◌≡◌, [], ◌∷◌, ◌++◌, length, refl, sym, ap, ◌∙◌, subst, arith, length-append}
use Rattle.std.specs.List.{AllByRecursion}
use Rattle.lock_manager.specs.Keeper.{PartView}
use Rattle.shared_rule.specs.Boards.{Seated}
use Rattle.shared_rule.specs.Openers.{OpenerState}
use Rattle.lock_manager.specs.Audits.{MayCount}
use Rattle.std.proofs.Common.{◌≤◌}
use Rattle.lock_manager.proofs.Lemmas.Audits.Lists.{no_wait-rest, kept_apart-rest, rest-unchanged, all-before}
use Rattle.lock_manager.proofs.Lemmas.Audits.Counts.{has-last, view-back, counts-one}
use Rattle.lock_manager.proofs.audit.+audit_others.Goals as goal
use Rattle.modes_core.specs.Sessions.{most_sessions}

pub gather_next-absent-requires-clause-own : goal.gather_next-absent-requires-clause-own
gather_next-absent-requires-clause-own g t c =
    let is = c.in-Some.ensures.items ∙ ap (λ x. c.pop.new.self.items ++ x ∷ []) (sym c.session.view_is) in
    (all-before _ c.pop.new.self.items _ (subst (AllByRecursion _) is c.requires.same_manager)).1

pub gather_next-absent-requires-clause-left_own : goal.gather_next-absent-requires-clause-left_own
gather_next-absent-requires-clause-left_own g t c =
    (all-before _ c.pop.new.self.items _ (subst (AllByRecursion _) c.in-Some.ensures.items c.requires.same_manager)).0

pub gather_next-absent-requires-clause-no_word : goal.gather_next-absent-requires-clause-no_word
gather_next-absent-requires-clause-no_word g t c = kept_apart-rest _ _ _ _ _ _ _ c.session.invariant.0

pub gather_next-absent-requires-clause-no_wait : goal.gather_next-absent-requires-clause-no_wait
gather_next-absent-requires-clause-no_wait g t c = no_wait-rest _ _ _ _ _ _ _ c.session.invariant.0

pub gather_next-absent-requires-clause-ready : goal.gather_next-absent-requires-clause-ready
gather_next-absent-requires-clause-ready g t c =
    let long : length c.args.sessions.now.items ≡ length (c.pop.new.self.items ++ c.in-Some.session ∷ []) = ap length c.in-Some.ensures.items in
    let split = length-append c.pop.new.self.items (c.in-Some.session ∷ []) in
    subst (λ n. MayCount n c.args.numbers.now) (omega (arith, long, split)) c.requires.ready

pub send_back-board-requires-clause-last : goal.send_back-board-requires-clause-last
send_back-board-requires-clause-last g t c =
    has-last c.args.numbers.now c.gather_next-absent.new.numbers c.audit_others-counted.new.numbers _ _ _ _ c.requires.ready.first c.requires.ready.others c.requires.ready.gathered
    c.gather_next-absent.ensures.gathered c.audit_others-counted.ensures.counts.first c.audit_others-counted.ensures.counts.gathered
    (ap (λ (s : Seated). s.number) c.gather_next-absent.ensures.absent)

pub send_back-board-requires-clause-table : goal.send_back-board-requires-clause-table
send_back-board-requires-clause-table g t c =
    let is = c.in-Some.ensures.items ∙ ap (λ x. c.pop.new.self.items ++ x ∷ []) (sym c.session.view_is) in
    let at = (all-before _ c.pop.new.self.items _ (subst (AllByRecursion _) is c.requires.same_manager)).1 in
    ap (λ (s : Seated). s.table) c.gather_next-absent.ensures.absent ∙ at
    ∙ sym (ap (λ (o : OpenerState PartView). o.table) c.gather_next-absent.ensures.gathered.opener)
    ∙ sym (ap (λ (o : OpenerState PartView). o.table) c.audit_others-counted.ensures.counts.opener)

pub push_reserved-requires : goal.push_reserved-requires
push_reserved-requires g t c =
    omega (arith, c.audit_others-counted.ensures.len, c.audit_others-counted.ensures.capacity, c.in-Some.ensures.len, c.in-Some.ensures.capacity, c.args.sessions.now.ok.1)

pub invariant_of-push_reserved : goal.invariant_of-push_reserved
invariant_of-push_reserved g t c =
    let same_seat = c.send_back-board.ensures.seat ∙ c.gather_next-absent.ensures.absent in
    let e = view-back _ _ _ _ c.args.numbers.now c.gather_next-absent.new.numbers c.audit_others-counted.new.numbers c.send_back-board.new.self c.audit_others-counted.result _ _ _ _
    c.pop.new.self.items c.audit_others-counted.new.sessions.items c.requires.ready.first c.requires.ready.others c.requires.ready.gathered
    c.gather_next-absent.ensures.gathered c.audit_others-counted.ensures.counts c.send_back-board.ensures.left in (
      rest-unchanged _ _ _ _ _ _ _ _ _ same_seat e (c.send_back-board.ensures.stack ∙ sym c.session.invariant.0.nothing_left) c.session.invariant.0,
      subst (λ n. n ≤ most_sessions) (sym (ap (λ (s : Seated). s.limit) same_seat)) c.session.invariant.1,
      c.session.invariant.2,
      c.session.invariant.3,
    )

pub returns-clause-counts : goal.returns-clause-counts
returns-clause-counts g t c =
    let is = c.in-Some.ensures.items ∙ ap (λ x. c.pop.new.self.items ++ x ∷ []) (sym c.session.view_is) in
    let same_seat = c.send_back-board.ensures.seat ∙ c.gather_next-absent.ensures.absent in
    counts-one _ _ _ _ c.args.numbers.now c.gather_next-absent.new.numbers c.audit_others-counted.new.numbers c.send_back-board.new.self c.audit_others-counted.result
    (record { board = c.session.inside.board; database = c.session.inside.own.value.database; uses = c.session.inside.own.value.uses; owned = c.session.inside.own.value.locals })
    (record { board = c.send_back-board.result; database = c.session.inside.own.value.database; uses = c.session.inside.own.value.uses; owned = c.session.inside.own.value.locals })
    c.pop.new.self.items c.args.sessions.now.items c.audit_others-counted.new.sessions.items
    c.push_reserved.new.self.items
    is c.push_reserved.ensures.items c.requires.ready.first c.requires.ready.others c.requires.ready.gathered c.gather_next-absent.ensures.gathered c.audit_others-counted.ensures.counts c.send_back-board.ensures.left c.send_back-board.ensures.quiet
    same_seat c.send_back-board.ensures.stack c.session.invariant.0 c.session.invariant.3 refl refl refl
