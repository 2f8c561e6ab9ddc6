use Rattle.std.proofs.Common.{◌<◌, length, sym, ap, subst, arith}
use Rattle.lock_records.proofs.Lemmas.Chains.{GoesOn, goes-on, goes-as, key-there}
use Rattle.lock_records.proofs.Lemmas.Lowest.{LowestBut, LowestBut-start, LowestBut-more, LowestBut-end}
use Rattle.lock_records.proofs.holders.lowest_holder.Goals as goal
use Rattle.lock_records.proofs.holders.lowest_holder.Goals.{In-loop-step}

turn : (c : In-loop-step) → GoesOn c.args.slots.now.slots c.args.tag.now c.loop-step.at c.loop-step.invariant.0
turn c =
    let some : 0 < length c.loop-step.invariant.0 = omega (arith, c.loop-step.invariant.2) in
    goes-on c.args.slots.now.slots c.args.tag.now c.loop-step.at c.loop-step.invariant.0 c.loop-step.invariant.1 some

pub loop-step-init : goal.loop-step-init
loop-step-init c = (
  c.requires.chain.places,
  c.requires.chain.linked,
  omega (arith, c.requires.chain.number),
  LowestBut-start c.args.slots.now.slots c.args.session c.args.tag.now c.args.set c.requires.chain.places c.requires.chain.all,
)

pub index-holder-requires : goal.index-holder-requires
index-holder-requires c = let t = turn c in key-there c.args.slots.now c.loop-step.at t.holder t.there

pub loop-step-preserved : goal.loop-step-preserved
loop-step-preserved c =
    let t = goes-as c.args.slots.now.slots c.args.tag.now c.loop-step.at c.loop-step.invariant.0 c.index-holder.result.now c.index-holder.ensures (turn (goal.at.loop-step-preserved c).In-loop-step) in (
      t.rest,
      t.next,
      omega (arith, c.loop-step.invariant.2, ap length t.parts),
      subst (LowestBut c.args.slots.now.slots c.args.session c.args.tag.now c.args.set t.rest) (sym c.considered-lowest.ensures)
          (LowestBut-more c.args.slots.now.slots c.args.session c.args.tag.now c.args.set c.loop-step.at c.loop-step.invariant.0 t.rest t.parts c.index-holder.result.now t.there t.on
          c.loop-step.lowest c.loop-step.invariant.3),
    )

pub returns : goal.returns
returns c =
    LowestBut-end c.args.slots.now.slots c.args.session c.args.tag.now c.args.set c.loop-step.invariant.0 c.loop-step.lowest c.requires.are (omega (arith, c.loop-step.invariant.2)) c.loop-step.invariant.3
