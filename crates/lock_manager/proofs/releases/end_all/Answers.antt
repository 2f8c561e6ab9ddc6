use Rattle.std.proofs.Common.{◌≡◌, refl, sym, ap, ◌∙◌, subst, arith}
use Rattle.local_locks.specs.declared.ends.End.{End}
use Rattle.local_locks.specs.declared.ends.End.TheVariants.{Commit, Abort, Close, Inner}
use Rattle.local_locks.specs.Owned.{ended_by, found_by, outer_after}
use Rattle.local_locks.proofs.Lemmas.Entries.{distinct-found}
use Rattle.shared_rule.specs.Boards.{Seated}
use Rattle.lock_manager.specs.Rest.{IsUseCount}
use Rattle.lock_manager.proofs.Lemmas.Rest.Acquires.{rest-database}
use Rattle.lock_manager.proofs.Lemmas.Rest.Ends.{rest-held, rest-counted, rest-next, rest-left, rest-found, releases-next}
use Rattle.lock_manager.proofs.Lemmas.Quiet.{quiet-next, quiet-over}
use Rattle.lock_manager.proofs.releases.end_all.Goals as goal

pub entries-init : goal.entries-init
entries-init g c = record {
  rest =
      rest-found (g.B.Board.seat c.args.board.now).groups (g.B.Board.seat c.args.board.now).limit c.args.own.now.database c.args.own.now.uses c.args.end (g.B.Board.view c.args.board.now) (g.B.Board.stack c.args.board.now)
      c.args.own.now.locals c.requires.rest;
  steps = λ last left others. others;
  quiet = λ last left after others. others;
  none_ended = λ none. (none, refl);
  entries = refl;
  level = refl;
  outer = λ _. refl;
  room = omega arith;
  slots = refl;
  kept = record { seat_ = refl; database = refl; max_local = refl; well_owned = c.requires.well_owned };
}

pub release_hold-requires-clause-database : goal.release_hold-requires-clause-database
release_hold-requires-clause-database g c =
    rest-database (g.B.Board.seat c.args.board.now).groups (g.B.Board.seat c.args.board.now).limit c.args.own.now.database c.entries.own.uses (g.B.Board.view c.entries.board) (g.B.Board.stack c.entries.board)
    (found_by c.args.end c.entries.own.locals) c.entries.invariant.rest ∙ sym c.entries.invariant.kept.database

pub release_hold-requires-clause-held : goal.release_hold-requires-clause-held
release_hold-requires-clause-held g c =
    rest-held (g.B.Board.seat c.args.board.now).groups (g.B.Board.seat c.args.board.now).limit c.args.own.now.database c.entries.own.uses c.args.end (g.B.Board.view c.entries.board) (g.B.Board.stack c.entries.board)
    (found_by c.args.end c.entries.own.locals) (c.in-Some.tag, c.in-Some.mode) (ended_by c.args.end (found_by c.args.end c.end_next.new.self))
    c.in-Some.ensures.next c.entries.invariant.rest

pub release_hold-requires-clause-counted : goal.release_hold-requires-clause-counted
release_hold-requires-clause-counted g c =
    rest-counted (g.B.Board.seat c.args.board.now).groups (g.B.Board.seat c.args.board.now).limit c.args.own.now.database c.entries.own.uses c.args.end (g.B.Board.view c.entries.board) (g.B.Board.stack c.entries.board)
    (found_by c.args.end c.entries.own.locals) (c.in-Some.tag, c.in-Some.mode) (ended_by c.args.end (found_by c.args.end c.end_next.new.self))
    c.in-Some.ensures.next c.entries.invariant.rest

-- With the next hold released the session is at rest with the entries left, and what is left to release leads
-- on from there.
pub entries-preserved : goal.entries-preserved
entries-preserved g c = record {
  rest =
      rest-next (g.B.Board.seat c.args.board.now).groups (g.B.Board.seat c.args.board.now).limit c.args.own.now.database c.entries.own.uses c.release_hold.new.uses c.args.end (g.B.Board.view c.entries.board)
      (g.B.Board.view c.release_hold.new.board)
      (g.B.Board.stack c.entries.board) (g.B.Board.stack c.release_hold.new.board) (found_by c.args.end c.entries.own.locals) (found_by c.args.end c.end_next.new.self)
      (c.in-Some.tag, c.in-Some.mode) (distinct-found c.args.end c.entries.own.locals c.entries.invariant.kept.well_owned.once) c.in-Some.ensures.next (c.in-Some.ensures.entries refl)
      c.release_hold.ensures.account
      (subst (λ (s : Seated). IsUseCount s.groups (g.B.Board.view c.release_hold.new.board) c.release_hold.new.uses) c.entries.invariant.kept.seat_
      c.release_hold.ensures.use_count)
      c.release_hold.ensures.stack c.entries.invariant.rest;
  steps = λ last left others. c.entries.invariant.steps last left
      (releases-next (g.B.Board.seat c.args.board.now) (g.B.Board.seat c.entries.board) c.args.end (g.B.Board.view c.entries.board)
      (g.B.Board.view c.release_hold.new.board) last c.entries.own.uses c.release_hold.new.uses left (found_by c.args.end c.entries.own.locals) (found_by c.args.end c.end_next.new.self)
      (c.in-Some.tag, c.in-Some.mode)
      c.entries.invariant.kept.seat_ c.in-Some.ensures.next c.release_hold.ensures.steps others);
  quiet = λ last left after others. c.entries.invariant.quiet last left after
      (quiet-next (g.B.Board.seat c.args.board.now) (g.B.Board.seat c.entries.board) c.args.end (g.B.Board.view c.entries.board)
      (g.B.Board.view c.release_hold.new.board) last c.entries.own.uses c.release_hold.new.uses left (found_by c.args.end c.entries.own.locals) (found_by c.args.end c.end_next.new.self)
      (c.in-Some.tag, c.in-Some.mode) (g.B.Board.quiet c.entries.board) (g.B.Board.quiet c.release_hold.new.board) after
      c.entries.invariant.kept.seat_ c.in-Some.ensures.next c.release_hold.ensures.steps c.release_hold.ensures.quiet others);
  none_ended = λ none. let some = c.in-Some.ensures.next in let no_more = (c.entries.invariant.none_ended none).0 in absurd (cc);
  entries = c.in-Some.ensures.outlives refl ∙ c.entries.invariant.entries;
  level = c.in-Some.ensures.level refl ∙ c.entries.invariant.level;
  outer = λ inner. c.in-Some.ensures.inner refl inner ∙ c.entries.invariant.outer inner;
  room = omega (arith, c.entries.invariant.room, c.end_next.ensures.room);
  slots = c.end_next.ensures.slots ∙ c.entries.invariant.slots;
  kept = record {
    seat_ = c.release_hold.ensures.seat ∙ c.entries.invariant.kept.seat_;
    database = c.entries.invariant.kept.database;
    max_local = c.in-Some.ensures.max_local ∙ c.entries.invariant.kept.max_local;
    well_owned = c.in-Some.ensures.well_owned;
  };
}

-- At the end nothing was taken away.
pub returns-clause-rest : goal.returns-clause-rest
returns-clause-rest g c =
    rest-left (g.B.Board.seat c.args.board.now).groups (g.B.Board.seat c.args.board.now).limit c.args.own.now.database c.entries.own.uses c.args.end (g.B.Board.view c.entries.board) (g.B.Board.stack c.entries.board)
    (found_by c.args.end c.entries.own.locals) c.end_next.new.self.entries c.in_default.ensures.last c.in_default.ensures.left c.entries.invariant.rest

pub returns-clause-levels : goal.returns-clause-levels
returns-clause-levels g c = c.in_default.ensures.ended ∙ go c.args.end c.entries.invariant.outer where
  go : (end : End) → (end ≡ Inner → c.entries.own.locals.outer ≡ c.args.own.now.locals.outer) → outer_after end c.entries.own.locals.outer ≡ outer_after end c.args.own.now.locals.outer
  go Commit same = refl
  go Abort same = refl
  go Close same = refl
  go Inner same = ap (outer_after Inner) (same refl)

pub returns-clause-none_ended : goal.returns-clause-none_ended
returns-clause-none_ended g c = λ none. (c.entries.invariant.none_ended none).1

pub returns-clause-quiet : goal.returns-clause-quiet
returns-clause-quiet g c =
    let seat = g.B.Board.seat c.args.board.now in
    c.entries.invariant.quiet (g.B.Board.view c.entries.board) c.entries.own.uses (g.B.Board.quiet c.entries.board)
    (quiet-over seat.groups seat.number (g.B.Board.view c.entries.board) c.entries.own.uses (ended_by c.args.end (found_by c.args.end c.entries.own.locals))
    (g.B.Board.quiet c.entries.board) c.in_default.ensures.last)

pub returns-clause-room : goal.returns-clause-room
returns-clause-room g c = omega (arith, c.entries.invariant.room, c.end_next.ensures.room)

pub returns-clause-slots : goal.returns-clause-slots
returns-clause-slots g c = c.end_next.ensures.slots ∙ c.entries.invariant.slots
