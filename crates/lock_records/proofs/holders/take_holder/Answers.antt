use Rattle.std.proofs.Common.{◌≡◌, ◌-◌, ◌∷◌, length, None, refl, sym, ap, ◌∙◌, subst, arith}
use Rattle.lock_records.specs.declared.holders.HolderRecord.{HolderRecord}
use Rattle.lock_records.specs.Holders.{holder_at, IsHolderAt, IsHolderChain}
use Rattle.lock_records.proofs.Lemmas.Held.{same-holder}
use Rattle.lock_records.proofs.Lemmas.Chains.{GoesOn, chain-head, goes-as, key-there}
use Rattle.lock_records.proofs.Lemmas.Steps.{IsWritten, written-set}
use Rattle.lock_records.proofs.Lemmas.Taken.{chain-headless, head-taken, gap-filled, chain-filled}
use Rattle.lock_records.proofs.holders.take_holder.Goals as goal
use Rattle.lock_records.proofs.holders.take_holder.Goals.{After-remove-head, After-index_mut-gap}

pub remove-head-requires : goal.remove-head-requires
remove-head-requires c =
    let h = chain-head c.args.slots.now.slots c.args.session c.args.tag.now c.args.holders.now.first c.args.holders.now.count c.args.place c.requires.chain c.requires.its in
    key-there c.args.slots.now c.args.holders.now.first h.holder h.there

abbrev taken : (c : After-remove-head) → GoesOn c.args.slots.now.slots c.args.tag.now c.args.holders.now.first c.requires.chain.places
taken c =
    goes-as c.args.slots.now.slots c.args.tag.now c.args.holders.now.first c.requires.chain.places c.remove-head.result c.remove-head.ensures.value
    (chain-head c.args.slots.now.slots c.args.session c.args.tag.now c.args.holders.now.first c.args.holders.now.count c.args.place c.requires.chain c.requires.its)

abbrev whole : (c : After-remove-head) → IsHolderChain c.args.slots.now.slots c.args.tag.now c.args.holders.now.first (length c.requires.chain.places)
whole c = record { places = c.requires.chain.places; linked = c.requires.chain.linked; number = refl; all = c.requires.chain.all }

abbrev written : (c : After-remove-head) → IsWritten c.args.slots.now.slots c.remove-head.new.self.slots c.args.holders.now.first None
written c = record { here = c.remove-head.ensures.updates.changed; others = c.remove-head.ensures.updates.others }

left : (c : After-remove-head) → length (taken c).rest ≡ c.args.holders.now.count - 1
left c =
    let parts : length c.requires.chain.places ≡ length (c.args.holders.now.first ∷ (taken c).rest) = ap length (taken c).parts in
    omega (arith, c.requires.chain.number)

pub returns-then-place-first-clause-taken : goal.returns-then-place-first-clause-taken
returns-then-place-first-clause-taken c =
    let at = (goal.at.returns-then-place-first-clause-taken c).After-remove-head in
    let its = c.requires.its in
    let same : c.remove-head.result ≡ its.holder =
    same-holder c.args.slots.now.slots c.args.place _ _ (ap (holder_at c.args.slots.now.slots) c.if-place-first.true ∙ c.remove-head.ensures.value) its.there in
    head-taken c.args.slots.now.slots c.remove-head.new.self.slots c.args.tag.now c.requires.are c.args.holders.now.first c.requires.chain.places (taken at) (whole at) refl (written at)
    c.args.session (ap (λ (h : HolderRecord). h.session) same ∙ its.its)

pub returns-then-place-first-clause-chain : goal.returns-then-place-first-clause-chain
returns-then-place-first-clause-chain c =
    let at = (goal.at.returns-then-place-first-clause-chain c).After-remove-head in
    subst (λ n. IsHolderChain c.remove-head.new.self.slots c.args.tag.now c.remove-head.result.next n) (left at)
    (chain-headless c.args.slots.now.slots c.remove-head.new.self.slots c.args.tag.now c.requires.are c.args.holders.now.first c.requires.chain.places (taken at) (whole at) refl (written at))

abbrev gap : (c : After-index_mut-gap) → IsHolderAt c.args.slots.now.slots c.args.session c.args.tag.now c.args.place
gap c =
    let its = c.requires.its in
    let there = sym (c.remove-head.ensures.updates.others c.args.place c.if-place-first.false) ∙ c.index_mut-gap.ensures.value in
    let same : c.index_mut-gap.result.now ≡ its.holder = same-holder c.args.slots.now.slots c.args.place _ _ there its.there in
    record {
      holder = c.index_mut-gap.result.now;
      there = there;
      its = ap (λ (h : HolderRecord). h.session) same ∙ its.its;
      on = ap (λ (h : HolderRecord). h.tag) same ∙ its.on;
    }

pub returns-clause-taken : goal.returns-clause-taken
returns-clause-taken c =
    let at = (goal.at.returns-clause-taken c).After-remove-head in
    gap-filled c.args.slots.now.slots c.remove-head.new.self.slots c.args.tag.now c.requires.are c.args.holders.now.first c.requires.chain.places (taken at) (whole at) refl (written at)
    _ c.args.session c.args.place (gap (goal.at.returns-clause-taken c).After-index_mut-gap) c.if-place-first.false
    (written-set c.remove-head.new.self.slots c.args.place c.index_mut-gap.result.now _ c.index_mut-gap.ensures.value)

pub returns-clause-chain : goal.returns-clause-chain
returns-clause-chain c =
    let at = (goal.at.returns-clause-chain c).After-remove-head in
    rw (← left at)
    (chain-filled c.args.slots.now.slots c.remove-head.new.self.slots c.args.tag.now c.requires.are c.args.holders.now.first c.requires.chain.places (taken at) (whole at) refl (written at)
    _ c.args.session c.args.place (gap (goal.at.returns-clause-chain c).After-index_mut-gap) c.if-place-first.false
    (written-set c.remove-head.new.self.slots c.args.place c.index_mut-gap.result.now _ c.index_mut-gap.ensures.value))
