use Rattle.std.proofs.Common.{◌∙◌, ℕ, ap, arith, inl, inr, refl, subst, sym}
use Rattle.std.proofs.lemmas.List.Elements.{All-weaker}
use Rattle.lock_script.proofs.Lemmas.Sessions.{All-put, length-put}
use Rattle.shared_rule.specs.Boards.{Seated}
use Rattle.scenario.specs.Numbers.{IsKnown, IsNamed, IsNumbered}
use Rattle.scenario.specs.declared.answers.Answer.TheVariants as answer
use Rattle.scenario.specs.declared.answers.Said.TheVariants as said
use Rattle.scenario.proofs.Lemmas.Numbers.{issued-grows, kept-known, known-later, length-named, named-so, number-within, number-within_names, within-limit}
use Rattle.scenario.proofs.sessions.ScriptState.open.Goals as goal

pub put-requires : goal.put-requires
put-requires g c =
    let number = c.id-session.ensures ∙ ap (λ (seat : Seated). seat.number) (sym (c.args.self.now.seats c.in-Ok.opened)) in
    let next = number-within_names g.D.ScriptDesk.again _ _ _ _ c.in-Ok.ensures.numbered in
    let below = number-within g.D.ScriptDesk.again _ _ _ _ c.in-Ok.ensures.numbered in
    let issued = within-limit g.D.ScriptDesk.again _ _ _ _ c.in-Ok.ensures.numbered c.args.self.now.issued in
    record {
      next_or_again = omega (arith, number, next, c.args.self.now.named);
      few = omega (arith, number, below, issued, c.args.self.now.few);
    }

pub put-requires-in-Ok : goal.put-requires-in-Ok
put-requires-in-Ok g c =
    let issued = within-limit g.D.ScriptDesk.again _ _ _ _ c.in-Ok.ensures.numbered c.args.self.now.issued in
    let within = c.in-Ok.ensures.within c.args.self.now.within in
    omega (arith, issued, c.args.self.now.few, within, c.in-Ok.ensures.live, c.args.self.now.counted)

pub invariant_of-self-clause-named : goal.invariant_of-self-clause-named
invariant_of-self-clause-named g c =
    let number = c.id-session.ensures ∙ ap (λ (seat : Seated). seat.number) (sym (c.args.self.now.seats c.in-Ok.opened)) in
    let numbered = subst (λ (n : ℕ). IsNumbered g.D.ScriptDesk.again g.D.ScriptDesk.manager.limit n (g.D.ScriptDesk.issued c.args.self.now.desk) (g.D.ScriptDesk.issued c.open.new.self))
    (sym number) c.in-Ok.ensures.numbered in
    length-named g.D.ScriptDesk.again _ c.id-session.result _ _ c.args.name c.args.self.now.names.sessions c.put.new.self numbered c.args.self.now.named
    c.put.ensures.next c.put.ensures.again

pub invariant_of-self-clause-issued : goal.invariant_of-self-clause-issued
invariant_of-self-clause-issued g c =
    within-limit g.D.ScriptDesk.again _ _ _ _ c.in-Ok.ensures.numbered c.args.self.now.issued

pub invariant_of-self-clause-within : goal.invariant_of-self-clause-within
invariant_of-self-clause-within g c = c.in-Ok.ensures.within c.args.self.now.within

pub invariant_of-self-clause-counted : goal.invariant_of-self-clause-counted
invariant_of-self-clause-counted g c =
    let more = length-put c.args.self.now.sessions.resting c.put-in-Ok.new.self (record { name = c.args.name; session = c.in-Ok.opened }) c.put-in-Ok.ensures in
    omega (arith, c.in-Ok.ensures.live, more, c.args.self.now.counted)

pub invariant_of-self-clause-resting : goal.invariant_of-self-clause-resting
invariant_of-self-clause-resting g c =
    All-put c.args.self.now.sessions.resting c.put-in-Ok.new.self (record { name = c.args.name; session = c.in-Ok.opened }) c.put-in-Ok.ensures
    (λ one. IsKnown (g.B.Board.seat one.session.board) g.D.ScriptDesk.manager (g.D.ScriptDesk.issued c.open.new.self))
    (All-weaker (λ one. IsKnown (g.B.Board.seat one.session.board) g.D.ScriptDesk.manager (g.D.ScriptDesk.issued c.args.self.now.desk))
    (λ one. IsKnown (g.B.Board.seat one.session.board) g.D.ScriptDesk.manager (g.D.ScriptDesk.issued c.open.new.self))
    (λ one known. known-later _ _ _ _ (issued-grows g.D.ScriptDesk.again _ _ _ _ c.in-Ok.ensures.numbered) known)
    c.args.self.now.sessions.resting c.args.self.now.resting)
    (kept-known _ _ _ _ (sym (c.args.self.now.seats c.in-Ok.opened)) c.in-Ok.ensures.known)

pub invariant_of-self-clause-waiting : goal.invariant_of-self-clause-waiting
invariant_of-self-clause-waiting g c =
    All-weaker (λ one. IsKnown (g.B.Board.seat one.session.board) g.D.ScriptDesk.manager (g.D.ScriptDesk.issued c.args.self.now.desk))
    (λ one. IsKnown (g.B.Board.seat one.session.board) g.D.ScriptDesk.manager (g.D.ScriptDesk.issued c.open.new.self))
    (λ one known. known-later _ _ _ _ (issued-grows g.D.ScriptDesk.again _ _ _ _ c.in-Ok.ensures.numbered) known)
    c.args.self.now.sessions.waiting c.args.self.now.waiting

pub returns-in-Ok : goal.returns-in-Ok
returns-in-Ok g c = record {
  opened =
      let number = c.id-session.ensures ∙ ap (λ (seat : Seated). seat.number) (sym (c.args.self.now.seats c.in-Ok.opened)) in
      let numbered = subst (λ (n : ℕ). IsNumbered g.D.ScriptDesk.again g.D.ScriptDesk.manager.limit n (g.D.ScriptDesk.issued c.args.self.now.desk) (g.D.ScriptDesk.issued c.open.new.self))
      (sym number) c.in-Ok.ensures.numbered in
      let named = named-so g.D.ScriptDesk.again _ c.id-session.result _ _ c.args.name c.args.self.now.names.sessions c.put.new.self numbered c.args.self.now.named
      c.put.ensures.next c.put.ensures.again in
      inl (record {
        session = c.in-Ok.opened;
        of_database = c.in-Ok.ensures.database;
        nothing = c.in-Ok.ensures.nothing;
        answered = ap (λ (number : ℕ). answer.Said c.args.name (said.Opened number c.args.database)) c.id-session.ensures;
        joins = c.put-in-Ok.ensures;
        waiting = refl;
        names = subst (λ (n : ℕ). IsNamed g.D.ScriptDesk.again n c.args.name c.args.self.now.names.sessions c.put.new.self) c.id-session.ensures named;
        objects = refl;
      });
}

pub returns-in-Err : goal.returns-in-Err
returns-in-Err g c = record {
  opened =
      inr (record {
        refusal = c.in-Err.refusal;
        why = c.in-Err.ensures.no_other;
        answered = refl;
        same = refl;
      });
}
