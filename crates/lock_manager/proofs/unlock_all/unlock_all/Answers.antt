use Rattle.lock_manager.specs.Releases.{ReleasesAll}
use Rattle.lock_manager.specs.Quiet.{QuietOfReleases}
use Rattle.std.proofs.Common.{◌≡◌, ◌+◌, [], length, refl, sym, ap, ◌∙◌, subst, arith}
use Rattle.local_locks.specs.Owned.{with_one_less}
use Rattle.modes_core.specs.declared.sessions.Owner.TheVariants.{Session}
use Rattle.local_locks.proofs.Lemmas.Entries.{gone-released}
use Rattle.shared_rule.specs.Boards.{Seated}
use Rattle.lock_manager.specs.Rest.{IsUseCount}
use Rattle.lock_manager.proofs.Lemmas.Advisory.{GivenBack, given-back, none-unlocked, none-left, unlocked-few, unlocks-next, unlocks-quiet}
use Rattle.lock_manager.proofs.Lemmas.Quiet.{quiet-over}
use Rattle.lock_manager.proofs.Lemmas.Rest.Entries.{is_counted-rest, IsAtRest-still_held, IsAtRest-released}
use Rattle.lock_manager.specs.Advisory.{unlocked_by_all}
use Rattle.lock_manager.proofs.unlock_all.unlock_all.Given as given
use Rattle.lock_manager.proofs.unlock_all.unlock_all.Goals as goal
use Rattle.lock_manager.proofs.unlock_all.unlock_all.Goals.{After-drop_held}

-- What giving one count back makes of the entries.
one_back : (g : given.Over) (c : goal.After-drop_held g)
    → c.drop_held.new.self.entries ≡ with_one_less c.locks.own.locals.entries c.in-Some.tag c.in-Some.mode Session
    → GivenBack c.locks.own.locals.entries c.drop_held.new.self.entries c.in-Some.tag c.in-Some.mode
one_back g c entries =
    let owned = c.locks.invariant.kept.well_owned in
    given-back c.locks.own.locals.entries c.drop_held.new.self.entries c.in-Some.tag c.in-Some.mode owned.once owned.counted (c.in-Some.ensures {u = tt}).first entries

pub release_hold-requires-clause-counted : goal.release_hold-requires-clause-counted
release_hold-requires-clause-counted g c strong =
    let had = (one_back g (goal.at.release_hold-requires-clause-counted g c).After-drop_held (c.in-Ok-Released.ensures {u = tt}).entries).had in
    is_counted-rest _ _ _ _ _ _ c.locks.own.locals.entries c.in-Some.tag c.in-Some.mode c.locks.invariant.rest strong had

pub unreachable-requires : goal.unreachable-requires
unreachable-requires g c =
    let its = c.locks.invariant in
    let old = c.locks.own.locals.entries in
    let back = given-back old (with_one_less old c.in-Some.tag c.in-Some.mode Session) c.in-Some.tag c.in-Some.mode its.kept.well_owned.once its.kept.well_owned.counted
    (c.in-Some.ensures {u = tt}).first refl in
    let refused = c.in-Err.ensures {u = tt} in
    back.some (refused.not_held.0 (cc (refused.no_other)))

pub locks-smaller-in-Ok-Released : goal.locks-smaller-in-Ok-Released
locks-smaller-in-Ok-Released g c = (one_back g (goal.at.locks-smaller-in-Ok-Released g c).After-drop_held (c.in-Ok-Released.ensures {u = tt}).entries).fewer

pub locks-smaller : goal.locks-smaller
locks-smaller g c = (one_back g (goal.at.locks-smaller g c).After-drop_held (c.in-Ok-StillHeld.ensures {u = tt}).entries).fewer

pub locks-preserved-in-Ok-Released : goal.locks-preserved-in-Ok-Released
locks-preserved-in-Ok-Released g c =
    let its = c.locks.invariant in
    let seat = g.B.Board.seat c.args.board.now in
    let old = c.locks.own.locals.entries in
    let new = c.drop_held.new.self.entries in
    let dropped = c.in-Ok-Released.ensures {u = tt} in
    let back = one_back g (goal.at.locks-preserved-in-Ok-Released g c).After-drop_held dropped.entries in
    let gone = gone-released new c.in-Some.tag c.in-Some.mode c.in-Ok-Released.field-0 dropped.answer dropped.well_owned.counted c.in-Ok-Released.field-0-is in
    let next = back.next gone in
    record {
      rest =
          IsAtRest-released seat.groups seat.limit c.args.own.now.database c.locks.own.uses c.release_hold.new.uses
          (g.B.Board.view c.locks.board) (g.B.Board.view c.release_hold.new.board) (g.B.Board.stack c.locks.board) (g.B.Board.stack c.release_hold.new.board)
          old new c.in-Some.tag c.in-Some.mode Session its.rest dropped.entries back.had gone c.release_hold.ensures.account
          (subst (λ (s : Seated). IsUseCount s.groups (g.B.Board.view c.release_hold.new.board) c.release_hold.new.uses) its.kept.seat_ c.release_hold.ensures.use_count)
          c.release_hold.ensures.stack;
      steps = λ last left others. its.steps last left
          (unlocks-next seat (g.B.Board.seat c.locks.board) (g.B.Board.view c.locks.board) (g.B.Board.view c.release_hold.new.board) last
          c.locks.own.uses c.release_hold.new.uses left (unlocked_by_all old) (unlocked_by_all new) (c.in-Some.tag, c.in-Some.mode)
          its.kept.seat_ next c.release_hold.ensures.steps others);
      quiet = λ last left after others. its.quiet last left after
          (unlocks-quiet seat (g.B.Board.seat c.locks.board) (g.B.Board.view c.locks.board) (g.B.Board.view c.release_hold.new.board) last
          c.locks.own.uses c.release_hold.new.uses left (unlocked_by_all old) (unlocked_by_all new) (c.in-Some.tag, c.in-Some.mode)
          (g.B.Board.quiet c.locks.board) (g.B.Board.quiet c.release_hold.new.board) after
          its.kept.seat_ next c.release_hold.ensures.steps c.release_hold.ensures.quiet others);
      released = (let counted = its.released in let more = ap length next in omega (arith, counted, more));
      none_unlocked = λ none. let no_more = (its.none_unlocked none).0 in absurd (cc (next, no_more));
      entries = back.left ∙ its.entries;
      levels = dropped.outer ∙ its.levels;
      kept = record {
        seat_ = c.release_hold.ensures.seat ∙ its.kept.seat_;
        database = its.kept.database;
        max_local = dropped.max_local ∙ its.kept.max_local;
        well_owned = dropped.well_owned;
      };
    }

pub locks-preserved : goal.locks-preserved
locks-preserved g c =
    let its = c.locks.invariant in
    let seat = g.B.Board.seat c.args.board.now in
    let dropped = c.in-Ok-StillHeld.ensures {u = tt} in
    let back = one_back g (goal.at.locks-preserved g c).After-drop_held dropped.entries in
    let some = dropped.answer.0 c.in-Ok-StillHeld.field-0-is in
    let same = back.none some in
    record {
      rest =
          IsAtRest-still_held seat.groups seat.limit c.args.own.now.database c.locks.own.uses (g.B.Board.view c.locks.board) (g.B.Board.stack c.locks.board)
          c.locks.own.locals.entries c.drop_held.new.self.entries c.in-Some.tag c.in-Some.mode Session its.rest dropped.entries some;
      steps = λ last left others. its.steps last left (subst (λ keys. ReleasesAll seat.groups seat.number (g.B.Board.view c.locks.board) c.locks.own.uses keys last left) same others);
      quiet = λ last left after others. its.quiet last left after
          (subst (λ keys. QuietOfReleases seat.groups seat.number (g.B.Board.view c.locks.board) c.locks.own.uses keys last left (g.B.Board.quiet c.locks.board) after) same others);
      released = ap (λ n. c.locks.released + length n) same ∙ its.released;
      none_unlocked = λ none. (same ∙ (its.none_unlocked none).0, (its.none_unlocked none).1);
      entries = back.left ∙ its.entries;
      levels = dropped.outer ∙ its.levels;
      kept = record {
        seat_ = its.kept.seat_;
        database = its.kept.database;
        max_local = dropped.max_local ∙ its.kept.max_local;
        well_owned = dropped.well_owned;
      };
    }

-- Once no advisory lock is owned nothing is left to give back.
pub returns-clause-steps : goal.returns-clause-steps
returns-clause-steps g c =
    let its = c.locks.invariant in
    let seat = g.B.Board.seat c.args.board.now in
    let none = none-unlocked c.locks.own.locals.entries its.kept.well_owned.counted (c.in_default.ensures {u = tt}).none in
    its.steps (g.B.Board.view c.locks.board) c.locks.own.uses
    (subst (λ keys. ReleasesAll seat.groups seat.number (g.B.Board.view c.locks.board) c.locks.own.uses keys (g.B.Board.view c.locks.board) c.locks.own.uses) {x = []} (sym none) (refl, refl))

pub returns-clause-quiet : goal.returns-clause-quiet
returns-clause-quiet g c =
    let its = c.locks.invariant in
    let seat = g.B.Board.seat c.args.board.now in
    let none = none-unlocked c.locks.own.locals.entries its.kept.well_owned.counted (c.in_default.ensures {u = tt}).none in
    its.quiet (g.B.Board.view c.locks.board) c.locks.own.uses (g.B.Board.quiet c.locks.board)
    (quiet-over seat.groups seat.number (g.B.Board.view c.locks.board) c.locks.own.uses (unlocked_by_all c.locks.own.locals.entries) (g.B.Board.quiet c.locks.board) none)

pub returns-clause-entries : goal.returns-clause-entries
returns-clause-entries g c =
    let its = c.locks.invariant in
    sym (none-left c.locks.own.locals.entries its.kept.well_owned.counted (c.in_default.ensures {u = tt}).none) ∙ its.entries

pub returns-clause-released : goal.returns-clause-released
returns-clause-released g c =
    let its = c.locks.invariant in
    let counted = its.released in
    let none = ap length (none-unlocked c.locks.own.locals.entries its.kept.well_owned.counted (c.in_default.ensures {u = tt}).none) in
    omega (arith, counted, none)

-- Fewer go than a session may have entries.
pub overflow_add-released : goal.overflow_add-released
overflow_add-released g c =
    let counted = c.locks.invariant.released in
    let few = unlocked-few c.args.own.now.locals.entries in
    let within = c.requires.well_owned.within in
    let at_most = c.requires.few_entries in
    omega (arith, counted, few, within, at_most)
