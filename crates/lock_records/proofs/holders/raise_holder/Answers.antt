use Rattle.std.proofs.Common.{true, sym, ap, ◌∙◌}
use Rattle.lock_records.specs.Holders.{IsHolderAt}
use Rattle.lock_records.proofs.Lemmas.Held.{same-holder}
use Rattle.lock_records.proofs.Lemmas.ModeSets.{with-own, with-else}
use Rattle.lock_records.proofs.Lemmas.Steps.{written-set, SetsHold-modes, chain-changed}
use Rattle.lock_records.proofs.holders.raise_holder.Goals as goal
use Rattle.lock_records.proofs.holders.raise_holder.Goals.{After-with-holder}

-- the record that was found
abbrev its : (c : After-with-holder) → IsHolderAt c.args.slots.now.slots c.args.session c.args.tag.now c.in-Some.place
its c =
    let found = (c.in-Some.ensures {u = tt}).found in
    let same = same-holder c.args.slots.now.slots c.in-Some.place found.holder c.index_mut-holder.result.now found.there c.index_mut-holder.ensures.value in
    record {
      holder = c.index_mut-holder.result.now;
      there = c.index_mut-holder.ensures.value;
      its = ap (λ h. h.session) (sym same) ∙ found.its;
      on = ap (λ h. h.tag) (sym same) ∙ found.on;
    }

pub returns-in-Some-clause-set : goal.returns-in-Some-clause-set
returns-in-Some-clause-set c =
    let at = (goal.at.returns-in-Some-clause-set c).After-with-holder in
    SetsHold-modes c.args.slots.now.slots _ c.args.session c.args.tag.now c.args.mode _ c.in-Some.place c.with-holder.result (its at) c.requires.are
    (written-set c.args.slots.now.slots c.in-Some.place c.index_mut-holder.result.now _ c.index_mut-holder.ensures.value)
    (with-own c.index_mut-holder.result.now.modes c.with-holder.result c.args.mode c.with-holder.ensures)
    (with-else c.index_mut-holder.result.now.modes c.with-holder.result c.args.mode c.with-holder.ensures)
    (c.args.mode, with-own c.index_mut-holder.result.now.modes c.with-holder.result c.args.mode c.with-holder.ensures)

pub returns-in-Some-clause-chain : goal.returns-in-Some-clause-chain
returns-in-Some-clause-chain c =
    let at = (goal.at.returns-in-Some-clause-chain c).After-with-holder in
    chain-changed c.args.slots.now.slots _ c.args.session c.args.tag.now c.args.mode true c.in-Some.place c.with-holder.result (its at) c.requires.are
    (written-set c.args.slots.now.slots c.in-Some.place c.index_mut-holder.result.now _ c.index_mut-holder.ensures.value)
    c.args.holders.now.first c.args.holders.now.count c.requires.chain
