use Rattle.std.proofs.Common.{◌≡◌, ◌∙◌, ◌+◌, ◌∷◌, ℕ, subst, arith}
use Rattle.std.specs.Prelude.{IfSome}
use Rattle.shared_rule.specs.Boards.{Seated}
use Rattle.shared_rule.specs.Quiet.{CountsStrong}
use Rattle.fast_path.proofs.Lemmas.Quiet.{turns-next}
use Rattle.fast_path.specs.Transfers.{Passes, StopsAt}
use Rattle.fast_path.proofs.Lemmas.Transfers.{transfer-next, transfer-stops}
use Rattle.fast_path.proofs.transfers.transfer.Goals as goal

pub loop-number-preserved : goal.loop-number-preserved
loop-number-preserved g c =
    let owner : c.unwrap-owner.result ≡ c.loop-number.number =
    subst (λ found. IfSome found (λ id. id ≡ c.loop-number.number)) c.unwrap-owner.ensures c.new.ensures.value in
    record {
      transfers = transfer-next (g.B.Board.seat c.args.board.now).groups c.loop-number.number (g.B.Board.view c.args.board.now)
          (g.B.Board.view c.loop-number.board) (g.B.Board.view c.pass.new.board) c.args.tag.now c.args.mode
          c.requires.not_counted c.loop-number.invariant.transfers
          (subst (λ (s : Seated). Passes s.groups (g.B.Board.view c.loop-number.board) c.loop-number.number c.args.tag.now
          c.args.mode (g.B.Board.view c.pass.new.board)) c.loop-number.invariant.seat
          (subst (λ (k : ℕ). Passes (g.B.Board.seat c.loop-number.board).groups (g.B.Board.view c.loop-number.board) k
          c.args.tag.now c.args.mode (g.B.Board.view c.pass.new.board)) owner c.in-Ok.ensures.passed));
      end = c.loop-number.invariant.end;
      stack = c.pass.ensures.stack ∙ c.loop-number.invariant.stack;
      quiet = turns-next c.unwrap-owner.result c.loop-number.number (CountsStrong c.args.tag.now c.args.mode ∷ g.B.Board.quiet c.args.board.now)
          (g.B.Board.quiet c.loop-number.board) (g.B.Board.quiet c.pass.new.board) owner c.loop-number.invariant.quiet c.pass.ensures.quiet;
      seat = c.pass.ensures.seat ∙ c.loop-number.invariant.seat;
    }

pub returns-in-Err-clause-transferred : goal.returns-in-Err-clause-transferred
returns-in-Err-clause-transferred g c =
    let owner : c.unwrap-owner.result ≡ c.loop-number.number =
    subst (λ found. IfSome found (λ id. id ≡ c.loop-number.number)) c.unwrap-owner.ensures c.new.ensures.value in
    transfer-stops (g.B.Board.seat c.args.board.now).groups c.loop-number.number (g.B.Board.view c.args.board.now) (g.B.Board.view c.loop-number.board)
    (g.B.Board.view c.pass.new.board) c.args.tag.now c.args.mode
    c.loop-number.invariant.transfers
    (subst (λ (s : Seated). StopsAt s.groups (g.B.Board.view c.loop-number.board) c.loop-number.number c.args.tag.now
    (g.B.Board.view c.pass.new.board)) c.loop-number.invariant.seat
    (subst (λ (k : ℕ). StopsAt (g.B.Board.seat c.loop-number.board).groups (g.B.Board.view c.loop-number.board) k
    c.args.tag.now (g.B.Board.view c.pass.new.board)) owner c.in-Err.ensures.passed))
    (g.B.Board.seat c.args.board.now).limit (g.B.Board.view c.sub_strong.new.self)
    (omega (arith, c.loop-number-test.true, c.loop-number.invariant.end))
    c.requires.not_counted c.sub_strong.ensures.view

pub returns-in-Err-clause-quiet : goal.returns-in-Err-clause-quiet
returns-in-Err-clause-quiet g c =
    let owner : c.unwrap-owner.result ≡ c.loop-number.number =
    subst (λ found. IfSome found (λ id. id ≡ c.loop-number.number)) c.unwrap-owner.ensures c.new.ensures.value in
    record {
      reached = c.loop-number.number + 1;
      within = omega (arith, c.loop-number-test.true, c.loop-number.invariant.end);
      all = tt;
      quiet = c.sub_strong.ensures.quiet
          ∙ turns-next c.unwrap-owner.result c.loop-number.number (CountsStrong c.args.tag.now c.args.mode ∷ g.B.Board.quiet c.args.board.now)
          (g.B.Board.quiet c.loop-number.board) (g.B.Board.quiet c.pass.new.board) owner c.loop-number.invariant.quiet c.pass.ensures.quiet;
    }

pub returns-clause-quiet : goal.returns-clause-quiet
returns-clause-quiet g c =
    let last : c.loop-number.number ≡ (g.B.Board.seat c.args.board.now).limit =
    omega (arith, c.loop-number-test.false, c.loop-number.auto.number-end, c.loop-number.invariant.end) in
    record {
      reached = c.loop-number.number;
      within = omega (arith, last);
      all = last;
      quiet = c.loop-number.invariant.quiet;
    }
