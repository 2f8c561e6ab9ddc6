use Rattle.std.proofs.Common.{◌<◌, ◌∙◌, length, arith, sym}
use Rattle.lock_script.specs.declared.sessions.Named.{Named}
use Rattle.lock_script.specs.Names.{NotAfter}
use Rattle.lock_script.proofs.Lemmas.Names.{each-more, after-place}
use Rattle.lock_script.proofs.Lemmas.NameOrder.{earlier-NotAfter, later-NotAfter}
use Rattle.lock_script.proofs.sessions.ByName.place_of.Goals as goal

pub returns-then-lt-clause-after : goal.returns-then-lt-clause-after
returns-then-lt-clause-after g c =
    let inside : c.loop-place.place < length c.deref-other-items.result.now = omega arith in
    after-place c.args.self.now c.deref-other-items.result.now c.loop-place.place c.other-item.result c.args.name.now.bytes
    (c.deref-other-items.ensures.value ∙ c.self.view_is) c.other-item.is inside
    (rw (← c.self.view_is) c.self.invariant.0) (earlier-NotAfter c.args.name.now.bytes c.other-item.result.name.bytes (sym c.lt.ensures ∙ c.if-lt.true))

pub loop-place-preserved : goal.loop-place-preserved
loop-place-preserved g c =
    let inside : c.loop-place.place < length c.deref-other-items.result.now = omega arith in
    each-more (λ (one : Named g.row.S.Denot). NotAfter one.name.bytes c.args.name.now.bytes) c.deref-other-items.result.now c.loop-place.place c.other-item.result c.other-item.is inside
    (later-NotAfter c.args.name.now.bytes c.other-item.result.name.bytes (sym c.lt.ensures ∙ c.if-lt.false)) c.loop-place.invariant
