use Rattle.std.proofs.Common.{◌≡◌, ◌<◌, List, None, get_or, length, rules, subst}
use Rattle.lock_script.specs.Kept.{AreFirstReady, HaveOneQueue}
use Rattle.lock_script.specs.declared.kept.KeptQueue.{KeptQueue}
use Rattle.lock_script.proofs.Lemmas.Ready.{always-none, lowest-found, none-of, some-found}
use Rattle.lock_script.proofs.kept.KeptLines.first_ready.Goals as goal

pub returns-in_err-place-clause-none : goal.returns-in_err-place-clause-none
returns-in_err-place-clause-none g c =
    let list : c.as_slice.result.now ≡ c.args.self.now = search rules in
    always-none _ c.from_residual.result (none-of c.args.sessions.now.waiting c.args.self.now
    (subst (λ (those : List KeptQueue). AreFirstReady c.args.sessions.now.waiting those None) list c.in_err-place.ensures.ready))

pub returns-clause-lowest : goal.returns-clause-lowest
returns-clause-lowest g c =
    let list : c.as_slice.result.now ≡ c.self.inside.queues.items = search rules in
    let view : c.args.self.now ≡ c.self.inside.queues.items = search rules in
    let at : c.index.result.now ≡ get_or c.self.inside.queues.items c.in_ok-place.place c.index.result.now = search rules in
    let within : c.in_ok-place.place < length c.self.inside.queues.items = rw list at c.in_ok-place.ensures.within in
    let ready = rw list at c.in_ok-place.ensures.ready in
    let one : HaveOneQueue c.self.inside.queues.items = c.self.invariant in
    rw view (lowest-found c.args.sessions.now.waiting c.self.inside.queues.items c.in_ok-place.place ready.0 c.index.result.now within one at ready.1)

pub returns-clause-some : goal.returns-clause-some
returns-clause-some g c =
    let list : c.as_slice.result.now ≡ c.self.inside.queues.items = search rules in
    let view : c.args.self.now ≡ c.self.inside.queues.items = search rules in
    let at : c.index.result.now ≡ get_or c.self.inside.queues.items c.in_ok-place.place c.index.result.now = search rules in
    let within : c.in_ok-place.place < length c.self.inside.queues.items = rw list at c.in_ok-place.ensures.within in
    let ready = rw list at c.in_ok-place.ensures.ready in
    let one : HaveOneQueue c.self.inside.queues.items = c.self.invariant in
    rw view (some-found c.args.sessions.now.waiting c.self.inside.queues.items c.in_ok-place.place ready.0 c.index.result.now within one at ready.1)
