use Rattle.std.proofs.Common.{subst, rules}
use Rattle.wait_queue.specs.declared.requests.Kind.TheVariants.{Waiting}
use Rattle.lock_manager.specs.declared.sessions.Own.{Own}
use Rattle.lock_manager.specs.Acquires.{IsRefusedForMemory}
use Rattle.lock_manager.specs.Quiet.{QuietOfAcquire}
use Rattle.lock_manager.proofs.sessions.OwnSession.start.Given as given
use Rattle.lock_manager.proofs.sessions.OwnSession.start.Goals as goal
use Rattle.lock_manager.proofs.sessions.OwnSession.start.Goals.{After-acquire}

-- The quiet steps are those of the acquire, whatever it was answered.
quiet_acquired : (g : given.Over) (c : goal.After-acquire g)
    → QuietOfAcquire (g.B.Board.seat c.args.self.board) (g.B.Board.view c.args.self.board) c.args.self.uses c.args.tag c.args.mode (g.B.Board.quiet c.args.self.board)
    (g.B.Board.quiet c.acquire.new.board)
quiet_acquired g c =
    let board = c.acquire.new.board in
    let own = subst
    (λ (own : Own). QuietOfAcquire (g.B.Board.seat c.self.inside.board) (g.B.Board.view c.self.inside.board) own.uses c.args.tag c.args.mode (g.B.Board.quiet c.self.inside.board) (g.B.Board.quiet board))
    c.deref_mut.ensures.value c.acquire.ensures.quiet in
    subst (λ s. QuietOfAcquire (g.B.Board.seat s.board) (g.B.Board.view s.board) s.uses c.args.tag c.args.mode (g.B.Board.quiet s.board) (g.B.Board.quiet board)) c.self.view_is own

pub returns-in-Ok-Granted-clause-asked : goal.returns-in-Ok-Granted-clause-asked
returns-in-Ok-Granted-clause-asked g c = record {
  answers = search rules;
  entry_room_first = search rules;
  quiet = quiet_acquired g (goal.at.returns-in-Ok-Granted-clause-asked g c).After-acquire;
  untouched = search rules;
  no_memory = search rules;
  same_entries = search rules;
  levels = search rules;
}

pub returns-in-Ok-AlreadyHeld-clause-asked : goal.returns-in-Ok-AlreadyHeld-clause-asked
returns-in-Ok-AlreadyHeld-clause-asked g c = record {
  answers = search rules;
  entry_room_first = search rules;
  quiet = quiet_acquired g (goal.at.returns-in-Ok-AlreadyHeld-clause-asked g c).After-acquire;
  untouched = search rules;
  no_memory = search rules;
  same_entries = search rules;
  levels = search rules;
}

pub returns-in-Ok-Queued-clause-asked : goal.returns-in-Ok-Queued-clause-asked
returns-in-Ok-Queued-clause-asked g c = record {
  answers = search rules;
  entry_room_first = search rules;
  quiet = quiet_acquired g (goal.at.returns-in-Ok-Queued-clause-asked g c).After-acquire;
  untouched = search rules;
  no_memory = search rules;
  same_entries = search rules;
  levels = search rules;
}

pub returns-in-Err-clause-asked : goal.returns-in-Err-clause-asked
returns-in-Err-clause-asked g c =
    let board = c.acquire.new.board in
    let left = c.acquire.new.own.uses in
    record {
      answers = search rules;
      entry_room_first = search rules;
      quiet = quiet_acquired g (goal.at.returns-in-Err-clause-asked g c).After-acquire;
      untouched = search rules;
      no_memory = λ is.
          let own = subst
          (λ (own : Own). IsRefusedForMemory g.B.Board.view Waiting (g.B.Board.seat c.self.inside.board) own.locals own.uses c.args.tag c.args.mode c.self.inside.board board left)
          c.deref_mut.ensures.value (c.in-Err.ensures.no_memory is) in
          subst (λ s. IsRefusedForMemory g.B.Board.view Waiting (g.B.Board.seat s.board) s.owned s.uses c.args.tag c.args.mode s.board board left) c.self.view_is own;
      same_entries = search rules;
      levels = search rules;
    }
