use Rattle.std.proofs.Common.{length, refl, ap}
use Rattle.std.proofs.lemmas.Option.{slice_get_read}
use Rattle.lock_manager.proofs.pool.SessionPool.lend.Goals as goal

pub returns-clause-lent : goal.returns-clause-lent
returns-clause-lent g c =
    let free = c.self.inside.free.items in
    let found = c.lowest_place-place in
    rw (← c.self.view_is) (record {
      place = found.result;
      lent = c.remove-session.result;
      there = slice_get_read free (length free) found.result c.remove-session.result refl found.ensures.within c.remove-session.ensures.value;
      lowest = found.ensures.lowest;
      next = c.serve_next.ensures.next;
      pool = ap (λ items. record { free = items; lives = c.self.inside.lives.items }) c.remove-session.ensures.items;
    })
