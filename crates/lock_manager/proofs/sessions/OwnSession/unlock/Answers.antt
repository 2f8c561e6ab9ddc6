use Rattle.std.proofs.Common.{arith, ◌≡◌, ◌≢◌, ◌∙◌, sym, ap, subst, true, false}
use Rattle.std.specs.Prelude.{Result, Ok, Err}
use Rattle.modes_core.specs.declared.refusals.Refusal.{Refusal}
use Rattle.modes_core.specs.declared.refusals.Refusal.TheVariants.{NotHeld}
use Rattle.local_locks.specs.declared.answers.Unlocked.{Unlocked}
use Rattle.local_locks.specs.Owned.{has_entry, with_one_less}
use Rattle.local_locks.proofs.Lemmas.Entries.{own-entry, gone-released}
use Rattle.lock_manager.specs.declared.sessions.Own.{Own}
use Rattle.lock_manager.specs.Rest.{IsUseCount, IsAtRest}
use Rattle.lock_manager.proofs.Lemmas.Rest.Acquires.{rest-database}
use Rattle.lock_manager.proofs.Lemmas.Rest.Entries.{is_counted-rest, IsAtRest-still_held, IsAtRest-released}
use Rattle.lock_manager.proofs.sessions.OwnSession.unlock.Given.{Over}
use Rattle.lock_manager.proofs.sessions.OwnSession.unlock.Goals as goal

ok_not_refused : (answer : Unlocked) → (let it : Result Unlocked Refusal = Ok answer in it) ≢ Err NotHeld
ok_not_refused answer e = cc

-- The session rests after one count of the mode was given back, with one left.
rest-still_held :
    (g : Over) (c : goal.After-self-in-StillHeld-1 g) →
    IsAtRest (g.B.Board.seat c.self.inside.board).groups (g.B.Board.seat c.self.inside.board).limit c.deref_mut-own.result.now.database c.deref_mut-own.result.now.uses
    (g.B.Board.view c.self.inside.board) (g.B.Board.stack c.self.inside.board) c.drop_held.new.self.entries
rest-still_held g c =
    let value = c.deref_mut-own.ensures.value in
    let old = c.self.inside.own.value in
    let less = c.in_ok-drop_held.ensures.entries ∙ ap (λ (own : Own). with_one_less own.locals.entries c.args.tag c.args.mode c.args.owner) value in
    subst
    (λ (own : Own). IsAtRest (g.B.Board.seat c.self.inside.board).groups (g.B.Board.seat c.self.inside.board).limit own.database own.uses (g.B.Board.view c.self.inside.board) (g.B.Board.stack c.self.inside.board)
    c.drop_held.new.self.entries)
    (sym value)
    (IsAtRest-still_held (g.B.Board.seat c.self.inside.board).groups (g.B.Board.seat c.self.inside.board).limit old.database old.uses (g.B.Board.view c.self.inside.board) (g.B.Board.stack c.self.inside.board)
    old.locals.entries c.drop_held.new.self.entries c.args.tag c.args.mode c.args.owner c.self.invariant.0 less (c.in_ok-drop_held.ensures.answer.0 c.in-StillHeld.is))

pub invariant_of-self-in-StillHeld : goal.invariant_of-self-in-StillHeld
invariant_of-self-in-StillHeld g c =
    let value = c.deref_mut-own.ensures.value in
    let max_local = c.in_ok-drop_held.ensures.max_local ∙ ap (λ (own : Own). own.locals.max_local) value in (
      rest-still_held g c,
      c.self.invariant.1,
      omega (arith, c.self.invariant.2, max_local),
      c.in_ok-drop_held.ensures.well_owned,
    )

pub release_hold-requires-clause-use_count : goal.release_hold-requires-clause-use_count
release_hold-requires-clause-use_count g c =
    subst (λ (own : Own). IsUseCount (g.B.Board.seat c.self.inside.board).groups (g.B.Board.view c.self.inside.board) own.uses) (sym c.deref_mut-own.ensures.value) c.self.invariant.0.use_count

pub release_hold-requires-clause-database : goal.release_hold-requires-clause-database
release_hold-requires-clause-database g c =
    let old = c.self.inside.own.value in
    rest-database (g.B.Board.seat c.self.inside.board).groups (g.B.Board.seat c.self.inside.board).limit old.database old.uses (g.B.Board.view c.self.inside.board) (g.B.Board.stack c.self.inside.board)
    old.locals.entries c.self.invariant.0
    ∙ sym (ap (λ (own : Own). own.database) c.deref_mut-own.ensures.value)

pub release_hold-requires-clause-counted : goal.release_hold-requires-clause-counted
release_hold-requires-clause-counted g c strong =
    let value = c.deref_mut-own.ensures.value in
    let had = own-entry c.deref_mut-own.result.now.locals c.args.tag c.args.mode c.args.owner (λ none. ok_not_refused c.in_ok-drop_held.field-0 (sym c.in_ok-drop_held.was ∙ c.drop_held.ensures.not_held.1 none)) in
    is_counted-rest _ _ _ _ _ _ _ c.args.tag c.args.mode c.self.invariant.0 strong (ap (λ (own : Own). has_entry own.locals.entries c.args.tag c.args.mode) (sym value) ∙ had)

-- The session rests after its last count of the mode was given back.
rest-released :
    (g : Over) (c : goal.After-self-in-Released-1 g) →
    IsAtRest (g.B.Board.seat c.release_hold.new.board).groups (g.B.Board.seat c.release_hold.new.board).limit c.deref_mut-own.result.now.database c.release_hold.new.uses
    (g.B.Board.view c.release_hold.new.board) (g.B.Board.stack c.release_hold.new.board) c.drop_held.new.self.entries
rest-released g c =
    let value = c.deref_mut-own.ensures.value in
    let old = c.self.inside.own.value.locals.entries in
    let new = c.drop_held.new.self.entries in
    let less : new ≡ with_one_less old c.args.tag c.args.mode c.args.owner =
    c.in_ok-drop_held.ensures.entries ∙ ap (λ (own : Own). with_one_less own.locals.entries c.args.tag c.args.mode c.args.owner) value in
    let had : has_entry old c.args.tag c.args.mode ≡ true =
    ap (λ (own : Own). has_entry own.locals.entries c.args.tag c.args.mode) (sym value) ∙
    own-entry c.deref_mut-own.result.now.locals c.args.tag c.args.mode c.args.owner (λ none. ok_not_refused c.in_ok-drop_held.field-0 (sym c.in_ok-drop_held.was ∙ c.drop_held.ensures.not_held.1 none)) in
    let gone : has_entry new c.args.tag c.args.mode ≡ false =
    gone-released new c.args.tag c.args.mode c.in_ok-drop_held.field-0 c.in_ok-drop_held.ensures.answer c.in_ok-drop_held.ensures.well_owned.counted c.in-Released.is in
    rw c.release_hold.ensures.seat
    (subst
    (λ (own : Own). IsAtRest (g.B.Board.seat c.self.inside.board).groups (g.B.Board.seat c.self.inside.board).limit own.database c.release_hold.new.uses (g.B.Board.view c.release_hold.new.board)
    (g.B.Board.stack c.release_hold.new.board) c.drop_held.new.self.entries)
    (sym value)
    (IsAtRest-released (g.B.Board.seat c.self.inside.board).groups (g.B.Board.seat c.self.inside.board).limit c.self.inside.own.value.database c.self.inside.own.value.uses c.release_hold.new.uses
    (g.B.Board.view c.self.inside.board) (g.B.Board.view c.release_hold.new.board)
    (g.B.Board.stack c.self.inside.board) (g.B.Board.stack c.release_hold.new.board) old new c.args.tag c.args.mode c.args.owner
    c.self.invariant.0 less had gone c.release_hold.ensures.account c.release_hold.ensures.use_count c.release_hold.ensures.stack))

pub invariant_of-self-in-Released : goal.invariant_of-self-in-Released
invariant_of-self-in-Released g c =
    let max_local = c.in_ok-drop_held.ensures.max_local ∙ ap (λ (own : Own). own.locals.max_local) c.deref_mut-own.ensures.value in (
      rest-released g c,
      rw c.release_hold.ensures.seat c.self.invariant.1,
      omega (arith, c.self.invariant.2, max_local),
      c.in_ok-drop_held.ensures.well_owned,
    )

pub returns-in-StillHeld-clause-same : goal.returns-in-StillHeld-clause-same
returns-in-StillHeld-clause-same g c =
    let value = c.deref_mut-own.ensures.value in
    record {
      seat_ = ap (λ s. g.B.Board.seat s.board) c.self.view_is;
      database = ap (λ (own : Own). own.database) value ∙ ap (λ s. s.database) c.self.view_is;
      max_local = c.in_ok-drop_held.ensures.max_local ∙ ap (λ (own : Own). own.locals.max_local) value ∙ ap (λ s. s.owned.max_local) c.self.view_is;
      rest = rest-still_held g c;
    }

pub returns-in-Released-clause-same : goal.returns-in-Released-clause-same
returns-in-Released-clause-same g c =
    let value = c.deref_mut-own.ensures.value in
    record {
      seat_ = c.release_hold.ensures.seat ∙ ap (λ s. g.B.Board.seat s.board) c.self.view_is;
      database = ap (λ (own : Own). own.database) value ∙ ap (λ s. s.database) c.self.view_is;
      max_local = c.in_ok-drop_held.ensures.max_local ∙ ap (λ (own : Own). own.locals.max_local) value ∙ ap (λ s. s.owned.max_local) c.self.view_is;
      rest = rest-released g c;
    }
