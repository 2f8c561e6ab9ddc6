use Rattle.std.proofs.Common.{◌≡◌, ◌∙◌, ◌+◌, ℕ, Ok, Err, refl, subst, arith}
use Rattle.std.specs.Prelude.{IfSome}
use Rattle.shared_rule.specs.Boards.{Seated}
use Rattle.fast_path.proofs.Lemmas.Quiet.{sharing-next}
use Rattle.fast_path.specs.Rows.{ListsSession, rows_of_all}
use Rattle.fast_path.proofs.Lemmas.SlotRows.{listing-begun, listing-next, listing-stops, behind-more, behind-cut}
use Rattle.fast_path.proofs.listing.slot_rows.Goals as goal

pub loop-number-init : goal.loop-number-init
loop-number-init g c = record {
  lists = listing-begun (g.B.Board.seat c.args.board.now).groups (g.B.Board.seat c.args.board.now).number (g.B.Board.view c.args.board.now) c.args.rows.now.items;
  end = c.sessions-number-end.ensures;
  stack = refl;
  quiet = refl;
  seat = refl;
}

pub loop-number-preserved : goal.loop-number-preserved
loop-number-preserved g c =
    let a = g.B.Board.view c.args.board.now in
    let b = g.B.Board.view c.loop-number.board in
    let after = g.B.Board.view c.session_rows.new.board in
    let mid = c.loop-number.rows.items in
    let new = c.session_rows.new.rows.items in
    let owner : c.unwrap-owner.result ≡ c.loop-number.number =
    subst (λ found. IfSome found (λ id. id ≡ c.loop-number.number)) c.unwrap-owner.ensures c.new.ensures.value in
    record {
      lists = listing-next (g.B.Board.seat c.args.board.now).groups (g.B.Board.seat c.args.board.now).number c.loop-number.number a b after c.args.rows.now.items mid new c.loop-number.invariant.lists
          c.in-Ok.field-0
          (subst (λ (s : Seated). ListsSession s.groups s.number b c.loop-number.number mid (Ok c.in-Ok.field-0) new after) c.loop-number.invariant.seat
          (subst (λ (k : ℕ). ListsSession (g.B.Board.seat c.loop-number.board).groups (g.B.Board.seat c.loop-number.board).number b k mid (Ok c.in-Ok.field-0) new after) owner
          c.in-Ok.ensures.listed));
      end = c.loop-number.invariant.end;
      stack = c.session_rows.ensures.stack ∙ c.loop-number.invariant.stack;
      quiet = sharing-next c.unwrap-owner.result c.loop-number.number (g.B.Board.quiet c.args.board.now)
          (g.B.Board.quiet c.loop-number.board) (g.B.Board.quiet c.session_rows.new.board) owner c.loop-number.invariant.quiet c.session_rows.ensures.quiet;
      seat = c.session_rows.ensures.seat ∙ c.loop-number.invariant.seat;
    }

pub returns-in-Err-clause-listed : goal.returns-in-Err-clause-listed
returns-in-Err-clause-listed g c =
    let a = g.B.Board.view c.args.board.now in
    let b = g.B.Board.view c.loop-number.board in
    let after = g.B.Board.view c.session_rows.new.board in
    let old = c.args.rows.now.items in
    let mid = c.loop-number.rows.items in
    let new = c.session_rows.new.rows.items in
    let cut = c.truncate.new.self.items in
    let so_far = c.loop-number.invariant.lists in
    let own = (g.B.Board.seat c.args.board.now).number in
    let owner : c.unwrap-owner.result ≡ c.loop-number.number =
    subst (λ found. IfSome found (λ id. id ≡ c.loop-number.number)) c.unwrap-owner.ensures c.new.ensures.value in
    listing-stops (g.B.Board.seat c.args.board.now).groups own c.loop-number.number a b after old mid new so_far
    (g.B.Board.seat c.args.board.now).limit (record {}) cut
    (omega (arith, c.loop-number-test.true, c.loop-number.invariant.end))
    (subst (λ (s : Seated). ListsSession s.groups s.number b c.loop-number.number mid (Err c.in-Err.field-0) new after) c.loop-number.invariant.seat
    (subst (λ (k : ℕ). ListsSession (g.B.Board.seat c.loop-number.board).groups (g.B.Board.seat c.loop-number.board).number b k mid (Err c.in-Err.field-0) new after) owner
    c.in-Err.ensures.listed))
    (behind-cut old new cut c.len-before.result
    (behind-more old mid new (rows_of_all c.loop-number.number so_far.database so_far.word, so_far.listed)
    c.session_rows.ensures.behind)
    (c.len-before.ensures ∙ c.args.rows.now.ok.0) c.truncate.ensures.items)

pub returns-in-Err-clause-quiet : goal.returns-in-Err-clause-quiet
returns-in-Err-clause-quiet g c =
    let owner : c.unwrap-owner.result ≡ c.loop-number.number =
    subst (λ found. IfSome found (λ id. id ≡ c.loop-number.number)) c.unwrap-owner.ensures c.new.ensures.value in
    record {
      reached = c.loop-number.number + 1;
      within = omega (arith, c.loop-number-test.true, c.loop-number.invariant.end);
      all = tt;
      quiet = sharing-next c.unwrap-owner.result c.loop-number.number (g.B.Board.quiet c.args.board.now)
          (g.B.Board.quiet c.loop-number.board) (g.B.Board.quiet c.session_rows.new.board) owner c.loop-number.invariant.quiet c.session_rows.ensures.quiet;
    }

pub returns-clause-quiet : goal.returns-clause-quiet
returns-clause-quiet g c =
    let last : c.loop-number.number ≡ (g.B.Board.seat c.args.board.now).limit =
    omega (arith, c.loop-number-test.false, c.loop-number.auto.number-end, c.loop-number.invariant.end) in
    record {
      reached = c.loop-number.number;
      within = omega (arith, last);
      all = last;
      quiet = c.loop-number.invariant.quiet;
    }
