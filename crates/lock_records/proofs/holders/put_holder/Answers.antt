use Rattle.std.proofs.Common.{◌<◌, ◌≤◌, Some, length, ap, ◌∙◌, arith}
use Rattle.lock_records.proofs.Lemmas.Chains.{chain-short}
use Rattle.lock_records.proofs.Lemmas.ModeSets.{with-own, with-else}
use Rattle.lock_records.proofs.Lemmas.Steps.{IsWritten, SetsHold-put, chain-put}
use Rattle.lock_records.proofs.holders.put_holder.Goals as goal
use Rattle.lock_records.proofs.holders.put_holder.Goals.{After-insert_reserved-holders}
use Rattle.modes_core.specs.Sessions.{most_sessions}

written : (c : After-insert_reserved-holders) → IsWritten c.args.slots.now.slots c.insert_reserved-holders.new.self.slots c.insert_reserved-holders.result
    (Some (record { tag = c.args.tag.now; next = c.args.holders.now.first; modes = c.with.result; session = c.args.session }))
written c = record { here = c.insert_reserved-holders.ensures.updates.changed; others = c.insert_reserved-holders.ensures.updates.others }

pub overflow_add-holders : goal.overflow_add-holders
overflow_add-holders c =
    let few : length c.requires.chain.places ≤ most_sessions = chain-short c.args.slots.now.slots c.args.tag.now c.requires.are c.args.holders.now.first c.requires.chain.places c.requires.chain.linked in
    omega (arith, c.requires.chain.number)

pub returns-clause-set : goal.returns-clause-set
returns-clause-set c =
    let small : c.args.session < most_sessions = omega (arith, c.number-number.ensures.within, c.number-number.ensures.value) in
    SetsHold-put c.args.slots.now.slots c.insert_reserved-holders.new.self.slots c.args.session c.args.tag.now c.args.mode c.insert_reserved-holders.result c.with.result c.args.holders.now.first
    c.requires.are c.insert_reserved-holders.ensures.was_vacant (written (goal.at.returns-clause-set c).After-insert_reserved-holders)
    c.requires.new small (with-own c.empty.result c.with.result c.args.mode c.with.ensures)
    (λ n other. with-else c.empty.result c.with.result c.args.mode c.with.ensures n other ∙ ap (λ f. f n) c.empty.ensures)

pub returns-clause-chain : goal.returns-clause-chain
returns-clause-chain c =
    chain-put c.args.slots.now.slots c.insert_reserved-holders.new.self.slots c.args.session c.args.tag.now c.args.mode c.insert_reserved-holders.result c.with.result c.args.holders.now.first
    c.requires.are c.insert_reserved-holders.ensures.was_vacant (written (goal.at.returns-clause-chain c).After-insert_reserved-holders)
    c.args.holders.now.count c.requires.chain
