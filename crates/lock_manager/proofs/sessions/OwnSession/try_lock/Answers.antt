use Rattle.std.proofs.Common.{subst, rules}
use Rattle.wait_queue.specs.declared.requests.Kind.TheVariants.{Conditional}
use Rattle.lock_manager.specs.declared.sessions.Own.{Own}
use Rattle.lock_manager.specs.Acquires.{IsRefusedForMemory}
use Rattle.lock_manager.specs.Quiet.{QuietOfAcquire}
use Rattle.lock_manager.proofs.sessions.OwnSession.try_lock.Goals as goal
use Rattle.lock_manager.proofs.sessions.OwnSession.try_lock.Goals.{in-Ok-AlreadyHeld, in-Ok-Granted, in-Err}

-- Its quiet steps, and what want of memory leaves, are those of the acquire.
pub returns-clause-asked : goal.returns-clause-asked
returns-clause-asked g c =
    let board = c.acquire.new.board in
    let left = c.acquire.new.own.uses in
    let own = subst
    (λ (own : Own). QuietOfAcquire (g.B.Board.seat c.self.inside.board) (g.B.Board.view c.self.inside.board) own.uses c.args.tag c.args.mode (g.B.Board.quiet c.self.inside.board) (g.B.Board.quiet board))
    c.deref_mut.ensures.value c.acquire.ensures.quiet in
    record {
      answers = search rules;
      entry_room_first = search rules;
      quiet = subst (λ s. QuietOfAcquire (g.B.Board.seat s.board) (g.B.Board.view s.board) s.uses c.args.tag c.args.mode (g.B.Board.quiet s.board) (g.B.Board.quiet board)) c.self.view_is own;
      untouched = search rules;
      no_memory = elim c.match-acquire.branch [
        | in-Ok-AlreadyHeld w ↦ rw w.result-is tt
        | in-Ok-Granted w ↦ rw w.result-is tt
        | in-Err w ↦
            rw w.result-is (λ is.
            let own = subst
            (λ (own : Own). IsRefusedForMemory g.B.Board.view Conditional (g.B.Board.seat c.self.inside.board) own.locals own.uses c.args.tag c.args.mode c.self.inside.board board left)
            c.deref_mut.ensures.value (w.in-Err.ensures.no_memory is) in
            subst (λ s. IsRefusedForMemory g.B.Board.view Conditional (g.B.Board.seat s.board) s.owned s.uses c.args.tag c.args.mode s.board board left) c.self.view_is own)
      ];
      same_entries = search rules;
      levels = search rules;
    }
