use Rattle.std.proofs.Common.{rules, ◌≡◌, ℕ, ◌+◌, ◌%◌, ◌^◌, ◌<◌, length, get_or, slice_set, ap, ◌∙◌, subst}
use Rattle.std.proofs.lemmas.Grind.{get_or_default_zero}
use Rattle.shared_rule.specs.Boards.{Seated}
use Rattle.lock_manager.specs.Pools.{lives_after}
use Rattle.lock_manager.specs.Reuse.{ServesNext}
use Rattle.connections.proofs.pool.Pool.close.Goals as goal

pub returns-then-len-lt-ROOM-clause-taken : goal.returns-then-len-lt-ROOM-clause-taken
returns-then-len-lt-ROOM-clause-taken g c _ =
    let next =
    subst (λ session. ServesNext g.B.Board.seat g.B.Board.view g.B.Board.stack g.B.Board.quiet 0 session c.serve_next.new.self)
    c.into_session-session.ensures.session c.serve_next.ensures.next in
    let index : c.from-number.result ≡ (g.B.Board.seat c.args.connection.session.board).number =
    c.from-number.ensures ∙ c.number.ensures.value ∙ c.id.ensures ∙ ap (λ (s : Seated). s.number) next.seat_ in
    let lives = c.args.self.now.lives.items in
    let within : c.from-number.result < length lives = search rules in
    let life : c.index.result.now ≡ get_or lives c.from-number.result 0 =
    c.index.ensures ∙ get_or_default_zero lives c.from-number.result c.index.result.now within in
    record {
      rests = c.serve_next.new.self;
      next = next;
      free = c.push_reserved.ensures.items;
      lives = ap (λ (n : ℕ). slice_set lives c.from-number.result ((n + 1) % 2 ^ 64)) life ∙ ap (lives_after lives) index;
    }
