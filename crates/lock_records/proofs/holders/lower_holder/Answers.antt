use Rattle.std.proofs.Common.{◌≡◌, true, sym, ap, ◌∙◌}
use Rattle.std.proofs.lemmas.Bool.{both_ways}
use Rattle.modes_core.specs.ModeSet.{set_has}
use Rattle.lock_records.specs.declared.holders.HolderRecord.{HolderRecord}
use Rattle.lock_records.specs.Holders.{IsHolderAt}
use Rattle.lock_records.proofs.Lemmas.Held.{same-holder, holds-at, holds-none}
use Rattle.lock_records.proofs.Lemmas.ModeSets.{without-own, without-else}
use Rattle.lock_records.proofs.Lemmas.Steps.{written-set, SetsHold-modes, chain-changed}
use Rattle.lock_records.proofs.Lemmas.Taken.{SetsHold-taken}
use Rattle.lock_records.proofs.holders.lower_holder.Goals as goal
use Rattle.lock_records.proofs.holders.lower_holder.Goals.{After-index_mut}

pub unreachable-requires : goal.unreachable-requires
unreachable-requires c =
    both_ways _ (holds-none c.args.slots.now.slots c.args.session c.args.tag.now (c.in_default.ensures {u = tt}).absent c.args.mode) c.requires.held

-- the record that was found, as it is written
abbrev its : (c : After-index_mut) → IsHolderAt c.args.slots.now.slots c.args.session c.args.tag.now c.in-Some.place
its c =
    let found = (c.in-Some.ensures {u = tt}).found in
    let same = same-holder c.args.slots.now.slots c.in-Some.place found.holder c.index_mut.result.now found.there c.index_mut.ensures.value in
    record {
      holder = c.index_mut.result.now;
      there = c.index_mut.ensures.value;
      its = ap (λ (h : HolderRecord). h.session) (sym same) ∙ found.its;
      on = ap (λ (h : HolderRecord). h.tag) (sym same) ∙ found.on;
    }

read : (c : After-index_mut) → c.index.result.now ≡ c.index_mut.result.now
read c = same-holder c.args.slots.now.slots c.in-Some.place _ _ c.index.ensures c.index_mut.ensures.value

pub returns-then-has_some-clause-set : goal.returns-then-has_some-clause-set
returns-then-has_some-clause-set c =
    let at = (goal.at.returns-then-has_some-clause-set c).After-index_mut in
    SetsHold-modes c.args.slots.now.slots _ c.args.session c.args.tag.now c.args.mode _ c.in-Some.place c.without-left.result (its at) c.requires.are
    (written-set c.args.slots.now.slots c.in-Some.place c.index_mut.result.now _ c.index_mut.ensures.value)
    (without-own c.index.result.now.modes c.without-left.result c.args.mode c.without-left.ensures)
    (λ n other. without-else c.index.result.now.modes c.without-left.result c.args.mode c.without-left.ensures n other ∙ ap (λ (h : HolderRecord). set_has h.modes n) (read at))
    (c.has_some.ensures.some c.if-has_some.true)

pub returns-then-has_some-clause-chain : goal.returns-then-has_some-clause-chain
returns-then-has_some-clause-chain c =
    let at = (goal.at.returns-then-has_some-clause-chain c).After-index_mut in
    chain-changed c.args.slots.now.slots _ c.args.session c.args.tag.now c.args.mode true c.in-Some.place c.without-left.result (its at) c.requires.are
    (written-set c.args.slots.now.slots c.in-Some.place c.index_mut.result.now _ c.index_mut.ensures.value)
    c.args.holders.now.first c.args.holders.now.count c.requires.chain

pub returns-else-has_some-clause-set : goal.returns-else-has_some-clause-set
returns-else-has_some-clause-set c =
    let found = (c.in-Some.ensures {u = tt}).found in
    let same : c.index.result.now ≡ found.holder = same-holder c.args.slots.now.slots c.in-Some.place _ _ c.index.ensures found.there in
    SetsHold-taken c.args.slots.now.slots c.take_holder.new.slots.slots c.args.session c.args.tag.now c.args.mode c.requires.are c.take_holder.ensures.taken
    (λ n other.
    holds-at c.args.slots.now.slots c.args.session c.args.tag.now c.in-Some.place c.requires.are found n
    ∙ ap (λ (h : HolderRecord). set_has h.modes n) (sym same)
    ∙ sym (without-else c.index.result.now.modes c.without-left.result c.args.mode c.without-left.ensures n other)
    ∙ c.has_some.ensures.none c.if-has_some.false n)
