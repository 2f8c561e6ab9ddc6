use Rattle.std.proofs.Common.{length, refl, ap}
use Rattle.std.proofs.lemmas.Option.{slice_get_read}
use Rattle.connections.specs.Shown.{pool_of}
use Rattle.connections.proofs.pool.Pool.lend.Goals as goal

pub returns-clause-lent : goal.returns-clause-lent
returns-clause-lent g c =
    let free = c.args.self.now.free.items in
    let found = c.lowest_place-place in
    rw c.new.ensures.session (record {
      place = found.result;
      lent = c.remove-session.result;
      there = slice_get_read free (length free) found.result c.remove-session.result refl found.ensures.within c.remove-session.ensures.value;
      lowest = found.ensures.lowest;
      next = c.serve_next.ensures.next;
      pool = ap (λ items. pool_of items c.args.self.now.lives.items) c.remove-session.ensures.items;
    })
