use Rattle.std.proofs.Common.{sym, ◌∙◌}
use Rattle.modes_core.specs.ModeSet.{set_has}
use Rattle.lock_table.proofs.Lemmas.Places.{place-last, place-deadlock, place-behind_waiters, place-beside_holders, place-granted}
use Rattle.lock_table.proofs.answering.place.answer_by_place.Goals as goal

pub returns-in_default : goal.returns-in_default
returns-in_default g c =
    place-last (g.P.PartTable.content c.args.part.now) c.args.session c.args.tag.now c.args.mode (set_has c.held-held.result) c.walk_until-met.result
    c.held-held.ensures c.walk_until-met.ensures c.in_default.is

pub returns-then-is_against : goal.returns-then-is_against
returns-then-is_against g c =
    place-deadlock (g.P.PartTable.content c.args.part.now) c.args.session c.args.tag.now c.args.mode (set_has c.held-held.result) c.walk_until-met.result c.in-Some.waiter
    c.held-held.ensures c.walk_until-met.ensures c.in-Some.is
    (sym c.is_against.ensures ∙ c.if-is_against.true)

pub returns-then-is_against-2 : goal.returns-then-is_against-2
returns-then-is_against-2 g c =
    place-behind_waiters (g.P.PartTable.content c.args.part.now) c.args.session c.args.tag.now c.args.mode (set_has c.held-held.result) c.walk_until-met.result c.in-Some.waiter
    c.held-held.ensures c.walk_until-met.ensures c.in-Some.is
    (sym c.is_against.ensures ∙ c.if-is_against.false) (sym c.is_against-2.ensures ∙ c.if-is_against-2.true)

pub returns-in-None : goal.returns-in-None
returns-in-None g c =
    place-granted (g.P.PartTable.content c.args.part.now) c.args.session c.args.tag.now c.args.mode (set_has c.held-held.result) c.walk_until-met.result c.in-Some.waiter
    c.held-held.ensures c.walk_until-met.ensures c.in-Some.is
    (sym c.is_against.ensures ∙ c.if-is_against.false) (sym c.is_against-2.ensures ∙ c.if-is_against-2.false) c.in-None.ensures

pub returns-in-Some-conflict_of : goal.returns-in-Some-conflict_of
returns-in-Some-conflict_of g c =
    place-beside_holders (g.P.PartTable.content c.args.part.now) c.args.session c.args.tag.now c.args.mode (set_has c.held-held.result) c.walk_until-met.result c.in-Some.waiter
    c.held-held.ensures c.walk_until-met.ensures c.in-Some.is
    c.in-Some-conflict_of.field-0 (sym c.is_against.ensures ∙ c.if-is_against.false) c.in-Some-conflict_of.ensures
