use Rattle.std.proofs.Common.{◌≡◌, ◌<◌, ◌+◌, length, arith, refl, sym, ◌∙◌, subst}
use Rattle.std.proofs.lemmas.Option.{slice_get_read}
use Rattle.lock_manager.specs.Pools.{IsLowestBelow}
use Rattle.lock_manager.proofs.Lemmas.Pools.{lowest-first, lowest-stays, lowest-moves}
use Rattle.connections.proofs.pool.lowest_place.Goals as goal
use Rattle.connections.proofs.pool.lowest_place.Goals.{then-other-least, else-other-least}

pub loop-place-init : goal.loop-place-init
loop-place-init g c =
    let some = c.requires.some in
    record {
      end = c.len-place-end.ensures ∙ c.args.free.now.ok.0;
      within = omega arith;
      reached = omega (arith, some);
      least = lowest-first g.B.Board.seat c.args.free.now.items;
    }

pub loop-place-preserved : goal.loop-place-preserved
loop-place-preserved g c =
    let free = c.args.free.now.items in
    let seat = g.B.Board.seat in
    let before = c.loop-place.invariant in
    let end = before.end in
    let more = c.loop-place-test.true in
    let is_within = before.within in
    let below : c.loop-place.place < length free = omega (arith, end, more) in
    let within : c.loop-place.lowest < length free = omega (arith, below, is_within) in
    let y = c.index.result.now in
    let x = c.index-in-loop-place.result.now in
    let other : c.number-other.result ≡ (seat y.board).number = c.number-other.ensures.value ∙ c.id.ensures in
    let is_y = slice_get_read free (length free) c.loop-place.place y refl below c.index.ensures in
    let is_x = slice_get_read free (length free) c.loop-place.lowest x refl within c.index-in-loop-place.ensures in
    let least : c.number-least.result ≡ (seat x.board).number = c.number-least.ensures.value ∙ c.id-in-loop-place.ensures in
    elim c.if-other-least.branch [
      | then-other-least w ↦
          let is = w.lowest-is in
          let lower = w.if-other-least.true in
          record {
            end = end;
            within = omega (arith, is);
            reached = omega (arith, below);
            least = subst (IsLowestBelow seat free (c.loop-place.place + 1)) (sym is)
                (lowest-moves seat free c.loop-place.place c.loop-place.lowest x y is_x is_y
                (omega (arith, lower, other, least)) before.least);
          }
      | else-other-least w ↦
          let is = w.lowest-is in
          let higher = w.if-other-least.false in
          record {
            end = end;
            within = omega (arith, is, is_within);
            reached = omega (arith, below);
            least = subst (IsLowestBelow seat free (c.loop-place.place + 1)) (sym is)
                (lowest-stays seat free c.loop-place.place c.loop-place.lowest x y is_x is_y
                (omega (arith, higher, other, least)) before.least);
          }
    ]

pub returns-clause-lowest : goal.returns-clause-lowest
returns-clause-lowest g c =
    let before = c.loop-place.invariant in
    let end = before.end in
    let reached = before.reached in
    let none = c.loop-place-test.false in
    subst (λ n. IsLowestBelow g.B.Board.seat c.args.free.now.items n c.loop-place.lowest) (omega (arith, end, reached, none)) before.least
