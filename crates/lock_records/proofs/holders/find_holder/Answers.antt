use Rattle.std.proofs.Common.{◌≡◌, ◌≢◌, ◌<◌, length, sym, ap, ◌∙◌, subst, inl, inr, arith}
use Rattle.std.proofs.lemmas.Bool.{eqb-true, eqb-false}
use Rattle.lock_records.specs.Holders.{holder_at, IsChain}
use Rattle.lock_records.proofs.Lemmas.Chains.{GoesOn, goes-on, in-parts, in-nothing, key-there}
use Rattle.lock_records.proofs.Lemmas.Held.{same-holder}
use Rattle.lock_records.proofs.holders.find_holder.Goals as goal
use Rattle.lock_records.proofs.holders.find_holder.Goals.{In-loop-step}

turn : (c : In-loop-step) → GoesOn c.args.slots.now.slots c.args.tag.now c.loop-step.at c.loop-step.invariant.0
turn c =
    let some : 0 < length c.loop-step.invariant.0 = omega (arith, c.loop-step.invariant.2) in
    goes-on c.args.slots.now.slots c.args.tag.now c.loop-step.at c.loop-step.invariant.0 c.loop-step.invariant.1 some

pub loop-step-init : goal.loop-step-init
loop-step-init c = (c.requires.places, c.requires.linked, omega (arith, c.requires.number), λ k i. c.requires.all k i.holder i.there i.on)

pub index-holder-requires : goal.index-holder-requires
index-holder-requires c = let t = turn c in key-there c.args.slots.now c.loop-step.at t.holder t.there

pub loop-step-preserved : goal.loop-step-preserved
loop-step-preserved c =
    let t = turn (goal.at.loop-step-preserved c).In-loop-step in
    let slots = c.args.slots.now.slots in
    let same : t.holder ≡ c.index-holder.result.now = same-holder slots c.loop-step.at _ _ t.there c.index-holder.ensures in
    let not_its : c.index-holder.result.now.session ≢ c.args.session = eqb-false _ _ (sym c.eq.ensures ∙ c.if-eq.false) in
    let chain : IsChain slots c.args.tag.now c.index-holder.result.now.next t.rest = subst (λ h. IsChain slots c.args.tag.now h.next t.rest) same t.next in (
      t.rest,
      chain,
      omega (arith, c.loop-step.invariant.2, ap length t.parts),
      λ k i.
          elim (in-parts c.loop-step.at c.loop-step.invariant.0 t.rest k t.parts (c.loop-step.invariant.3 k i)) [
            | inl here ↦ absurd (not_its (ap (λ h. h.session) (sym (same-holder slots k _ _ i.there (ap (holder_at slots) here ∙ c.index-holder.ensures))) ∙ i.its))
            | inr later ↦ later
          ],
    )

pub returns-then-eq-clause-found : goal.returns-then-eq-clause-found
returns-then-eq-clause-found c =
    let t = turn (goal.at.returns-then-eq-clause-found c).In-loop-step in
    let same : t.holder ≡ c.index-holder.result.now = same-holder c.args.slots.now.slots c.loop-step.at _ _ t.there c.index-holder.ensures in
    record {
      holder = t.holder;
      there = t.there;
      its = ap (λ h. h.session) same ∙ eqb-true _ _ (sym c.eq.ensures ∙ c.if-eq.true);
      on = t.on;
    }

pub returns-clause-absent : goal.returns-clause-absent
returns-clause-absent c = λ place i. in-nothing place c.loop-step.invariant.0 (omega (arith, c.loop-step.invariant.2)) (c.loop-step.invariant.3 place i)
