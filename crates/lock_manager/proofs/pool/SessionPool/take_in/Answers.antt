use Rattle.std.proofs.Common.{rules, ◌≡◌, ℕ, ◌+◌, ◌%◌, ◌^◌, ◌<◌, length, get_or, slice_set, ap, ◌∙◌, arith}
use Rattle.std.proofs.lemmas.Grind.{get_or_default_zero}
use Rattle.shared_rule.specs.Boards.{Seated}
use Rattle.lock_manager.specs.Pools.{lives_after}
use Rattle.lock_manager.proofs.pool.SessionPool.take_in.Goals as goal

pub returns : goal.returns
returns g c =
    let next = c.serve_next.ensures.next in
    let index : c.from-number.result ≡ (g.B.Board.seat c.args.session.board).number =
    c.from-number.ensures ∙ c.number.ensures.value ∙ c.id.ensures ∙ ap (λ (s : Seated). s.number) next.seat_ in
    let lives = c.self.inside.lives.items in
    let within : c.from-number.result < length lives = search rules in
    let life : c.index.result.now ≡ get_or lives c.from-number.result 0 =
    c.index.ensures ∙ get_or_default_zero lives c.from-number.result c.index.result.now within in
    let fits : length c.self.inside.free.items < length lives = search rules in
    let its : (g.B.Board.seat c.args.session.board).number < length lives = omega (arith, index, within) in
    rw (← c.self.view_is) (record {
      had_room = (fits, its);
      taken = record {
        rests = c.serve_next.new.self;
        next = next;
        free = c.push_reserved.ensures.items;
        lives = ap (λ (n : ℕ). slice_set lives c.from-number.result ((n + 1) % 2 ^ 64)) life ∙ ap (lives_after lives) index;
      };
    })
