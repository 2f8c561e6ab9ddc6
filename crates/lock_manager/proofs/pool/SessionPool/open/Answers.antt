use Rattle.std.proofs.Common.{◌≡◌, ◌+◌, length, suc, take, drop, arith, sym, ap, subst}
use Rattle.std.proofs.lemmas.List.Elements.{All-append, All-drop, All-take}
use Rattle.lock_manager.specs.Crews.{AreOf}
use Rattle.lock_manager.specs.Sessions.{SessionView}
use Rattle.lock_manager.specs.Pools.{PoolView}
use Rattle.lock_manager.proofs.Lemmas.Pools.{one-fewer}
use Rattle.lock_manager.proofs.pool.SessionPool.open.Given as given
use Rattle.lock_manager.proofs.pool.SessionPool.open.Goals as goal
use Rattle.lock_manager.proofs.pool.SessionPool.open.Goals.{In-Some}

pub returns-in-Some-clause-free : goal.returns-in-Some-clause-free
returns-in-Some-clause-free g c =
    let lent = c.in-Some.ensures.lent in
    let free = c.args.self.now.free in
    let manager = g.D.Desk.manager c.args.desk.now in
    let its = λ (session : SessionView g.row.B.Denot). (g.B.Board.seat session.board).table ≡ manager.table in
    subst (λ (pool : PoolView g.row.B.Denot). AreOf g.B.Board.seat manager pool.free) (sym lent.pool)
    (All-append its (take lent.place free) (drop (suc lent.place) free)
    (All-take its lent.place free c.requires.free) (All-drop its (suc lent.place) free c.requires.free))

-- One session fewer is free.
fewer : (g : given.Over) (c : goal.In-Some g) → length c.lend.new.self.free + 1 ≡ length c.args.self.now.free
fewer g c =
    let lent = c.in-Some.ensures.lent in
    one-fewer c.args.self.now.free c.lend.new.self.free lent.place lent.lent lent.there (ap (λ (pool : PoolView g.row.B.Denot). pool.free) lent.pool)

pub returns-in-Some-clause-live : goal.returns-in-Some-clause-live
returns-in-Some-clause-live g c = let one = fewer g (goal.at.returns-in-Some-clause-live g c).In-Some in omega (arith, one)

pub returns-in-Some-clause-fewer_free : goal.returns-in-Some-clause-fewer_free
returns-in-Some-clause-fewer_free g c = let one = fewer g (goal.at.returns-in-Some-clause-fewer_free g c).In-Some in omega (arith, one)
