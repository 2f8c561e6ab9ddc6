use Rattle.std.proofs.Common.{◌<◌, refl, sym, ap, ◌∙◌, subst, arith}
use Rattle.lock_world.specs.Happens.Partitions.{WaitIsOver}
use Rattle.shared_rule.specs.Boards.{Seated, Stack, stack_putting}
use Rattle.lock_manager.proofs.Lemmas.Releases.Owed.{owed-none, owed-next, owed-all, woken-next, woken-owed, woken-all}
use Rattle.lock_manager.proofs.Lemmas.Releases.Marks.{telling-begins, may_mark-at, marking-next_at, told-exists, all_marked, may_put_marked, told-put, wait-same}
use Rattle.lock_manager.proofs.releases.put_with_woken.Goals as goal

pub loop-other-init : goal.loop-other-init
loop-other-init g c = record {
  telling = telling-begins (g.B.Board.seat c.args.board.now) (g.B.Board.view c.args.board.now) c.args.part c.args.done.now (g.T.PartTable.woken c.args.content)
      c.woken-woken.result.now (g.T.PartTable.content c.args.content) c.requires.lawful c.woken-woken.ensures;
  seat = refl;
  quiet = refl;
  stack = owed-none (g.B.Board.stack c.args.board.now) c.woken-woken.result.now c.requires.in_hand.none_owed;
}

-- At a turn the session is the first of those left.
pub mark_granted-requires-clause-lawful : goal.mark_granted-requires-clause-lawful
mark_granted-requires-clause-lawful g c =
    let telling = c.loop-other.invariant.telling in
    rw c.woken-woken.ensures
    (may_mark-at (g.B.Board.seat c.args.board.now) telling.from c.args.part c.args.done.now (g.T.PartTable.woken c.args.content)
    (g.T.PartTable.content c.args.content) telling.wakens (g.B.Board.seat c.loop-other.board) (g.B.Board.view c.loop-other.board)
    c.woken-woken.result.now c.loop-other.other-index c.loop-other-item.result c.loop-other.invariant.seat
    c.woken-woken.ensures c.loop-other-test.true c.loop-other-item.is telling.left)

pub loop-other-preserved : goal.loop-other-preserved
loop-other-preserved g c =
    let telling = c.loop-other.invariant.telling in
    record {
      telling = record {
        from = telling.from;
        wakens = telling.wakens;
        begun_so = telling.begun_so;
        left =
            marking-next_at (g.B.Board.seat c.args.board.now) telling.from c.args.part c.args.done.now (g.T.PartTable.woken c.args.content)
            (g.T.PartTable.content c.args.content) telling.wakens (g.B.Board.view c.loop-other.board) (g.B.Board.view c.mark_granted.new.self)
            c.woken-woken.result.now c.loop-other.other-index c.loop-other-item.result
            c.woken-woken.ensures c.loop-other-test.true c.loop-other-item.is telling.left (rw c.woken-woken.ensures at c.mark_granted.ensures.view);
      };
      seat = c.mark_granted.ensures.seat ∙ c.loop-other.invariant.seat;
      quiet = c.mark_granted.ensures.quiet ∙ c.loop-other.invariant.quiet;
      stack = owed-next (g.B.Board.stack c.args.board.now) (g.B.Board.stack c.loop-other.board) (g.B.Board.stack c.mark_granted.new.self)
          c.woken-woken.result.now c.loop-other.other-index c.loop-other-item.result c.loop-other-test.true c.loop-other-item.is
          c.loop-other.invariant.stack c.mark_granted.ensures.stack;
    }

pub loop-session-init : goal.loop-session-init
loop-session-init g c = record {
  view = refl;
  seat = refl;
  quiet = refl;
  stack = owed-all (g.B.Board.stack c.args.board.now) (g.B.Board.stack c.loop-other.board)
      c.woken-woken.result.now c.loop-other.other-index (omega arith) c.loop-other.invariant.stack;
}

pub loop-session-preserved : goal.loop-session-preserved
loop-session-preserved g c = record {
  view = c.wake.ensures.view ∙ c.loop-session.invariant.view;
  seat = c.wake.ensures.seat ∙ c.loop-session.invariant.seat;
  quiet = c.wake.ensures.quiet ∙ c.loop-session.invariant.quiet;
  stack = woken-next (g.B.Board.stack c.args.board.now) (g.B.Board.stack c.loop-session.board) (g.B.Board.stack c.wake.new.self)
      c.woken-woken.result.now c.loop-session.session-index c.loop-session-item.result c.loop-session-test.true c.loop-session-item.is
      c.loop-session.invariant.stack c.wake.ensures.stack;
}

pub put_part-requires-clause-in_hand : goal.put_part-requires-clause-in_hand
put_part-requires-clause-in_hand g c = (
  c.requires.in_hand.others,
  ap (λ (s : Stack). s.parts) c.loop-session.invariant.stack ∙ c.requires.in_hand.parts,
)

-- After the loops all are marked, and nobody is owed a wake.
pub put_part-requires-clause-lawful : goal.put_part-requires-clause-lawful
put_part-requires-clause-lawful g c =
    let telling = c.loop-other.invariant.telling in
    let marked = all_marked (g.B.Board.seat c.args.board.now) telling.from c.args.part c.args.done.now (g.T.PartTable.woken c.args.content)
    (g.T.PartTable.content c.args.content) telling.wakens (g.B.Board.view c.loop-other.board)
    c.woken-woken.result.now c.loop-other.other-index (omega arith) telling.left in
    let over = subst (λ awaited. WaitIsOver awaited c.args.part c.args.done.now)
    (wait-same (g.B.Board.seat c.args.board.now) telling.from c.args.part c.args.done.now (g.T.PartTable.woken c.args.content)
    (g.T.PartTable.content c.args.content) telling.wakens (g.B.Board.view c.args.board.now) telling.begun_so) c.requires.wait_is_over in
    may_put_marked (g.B.Board.seat c.args.board.now) telling.from c.args.part c.args.done.now (g.T.PartTable.woken c.args.content)
    (g.T.PartTable.content c.args.content) telling.wakens (g.B.Board.seat c.loop-session.board) (g.B.Board.view c.loop-session.board)
    (c.loop-session.invariant.seat ∙ c.loop-other.invariant.seat) (c.loop-session.invariant.view ∙ marked) over

pub returns-clause-account : goal.returns-clause-account
returns-clause-account g c =
    let telling = c.loop-other.invariant.telling in
    let marked = all_marked (g.B.Board.seat c.args.board.now) telling.from c.args.part c.args.done.now (g.T.PartTable.woken c.args.content)
    (g.T.PartTable.content c.args.content) telling.wakens (g.B.Board.view c.loop-other.board)
    c.woken-woken.result.now c.loop-other.other-index (omega arith) telling.left in
    told-put (g.B.Board.seat c.args.board.now) telling.from c.args.part c.args.done.now (g.T.PartTable.woken c.args.content)
    (g.T.PartTable.content c.args.content) telling.wakens (g.B.Board.view c.args.board.now) (g.B.Board.view c.loop-session.board) (g.B.Board.view c.put_part.new.self)
    telling.begun_so (c.loop-session.invariant.view ∙ marked) c.put_part.ensures.view

pub returns-clause-stack : goal.returns-clause-stack
returns-clause-stack g c =
    c.put_part.ensures.stack
    ∙ ap stack_putting (woken-all (g.B.Board.stack c.args.board.now) (g.B.Board.stack c.loop-session.board) c.woken-woken.result.now
    c.loop-session.session-index (omega arith) c.requires.in_hand.none_owed c.loop-session.invariant.stack)

pub returns-clause-seat : goal.returns-clause-seat
returns-clause-seat g c = c.put_part.ensures.seat ∙ c.loop-session.invariant.seat ∙ c.loop-other.invariant.seat

pub returns-clause-quiet : goal.returns-clause-quiet
returns-clause-quiet g c = c.put_part.ensures.quiet ∙ c.loop-session.invariant.quiet ∙ c.loop-other.invariant.quiet

pub mark_granted-requires-clause-exists : goal.mark_granted-requires-clause-exists
mark_granted-requires-clause-exists g c =
    let telling = c.loop-other.invariant.telling in
    subst (λ (s : Seated). c.loop-other-item.result.0 < s.limit) (sym c.loop-other.invariant.seat)
    (told-exists (g.B.Board.seat c.args.board.now) telling.from c.args.part c.args.done.now (g.T.PartTable.woken c.args.content)
    (g.T.PartTable.content c.args.content) telling.wakens c.woken-woken.result.now c.loop-other.other-index c.loop-other-item.result
    c.woken-woken.ensures c.loop-other-test.true c.loop-other-item.is)

pub wake-requires : goal.wake-requires
wake-requires g c =
    let telling = c.loop-other.invariant.telling in
    record {
      exists = subst (λ (s : Seated). c.loop-session-item.result.0 < s.limit)
          (sym (c.loop-session.invariant.seat ∙ c.loop-other.invariant.seat))
          (told-exists (g.B.Board.seat c.args.board.now) telling.from c.args.part c.args.done.now (g.T.PartTable.woken c.args.content)
          (g.T.PartTable.content c.args.content) telling.wakens c.woken-woken.result.now c.loop-session.session-index
          c.loop-session-item.result c.woken-woken.ensures c.loop-session-test.true c.loop-session-item.is);
      owed = woken-owed (g.B.Board.stack c.args.board.now) (g.B.Board.stack c.loop-session.board) c.woken-woken.result.now
          c.loop-session.session-index c.loop-session-item.result c.loop-session-test.true c.loop-session-item.is c.loop-session.invariant.stack;
    }
