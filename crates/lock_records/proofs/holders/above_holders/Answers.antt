use Rattle.std.proofs.Common.{◌≡◌, ℕ, ◌<◌, ◌≤◌, ◌+◌, ◌==◌, length, sym, ap, ◌∙◌, inl, inr, arith}
use Rattle.std.specs.Ordering.{nat_cmp, ord_max}
use Rattle.std.proofs.lemmas.Bool.{cases_lt, cases_Bool, false_from_ne_true, lt-ltb, le-ltb}
use Rattle.lock_records.specs.Holders.{holder_at}
use Rattle.lock_records.proofs.Lemmas.Chains.{GoesOn, goes-on, goes-as, in-parts, in-nothing, key-there}
use Rattle.lock_records.proofs.Lemmas.Held.{held-from, same-holder}
use Rattle.lock_records.proofs.holders.above_holders.Goals as goal
use Rattle.lock_records.proofs.holders.above_holders.Goals.{In-loop-step}

turn : (c : In-loop-step) → GoesOn c.args.slots.now.slots c.args.tag.now c.loop-step.at c.loop-step.invariant.0
turn c =
    let some : 0 < length c.loop-step.invariant.0 = omega (arith, c.loop-step.invariant.2) in
    goes-on c.args.slots.now.slots c.args.tag.now c.loop-step.at c.loop-step.invariant.0 c.loop-step.invariant.1 some

-- The greater of two numbers is no less than either, and within what both are within.
greater : (a b : ℕ) → (a ≤ ord_max nat_cmp a b) × (b ≤ ord_max nat_cmp a b) × ((bound : ℕ) → a ≤ bound → b ≤ bound → ord_max nat_cmp a b ≤ bound)
greater a b =
    elim (cases_lt b a) [
      | inl below ↦ rw (lt-ltb b a below) (omega arith, omega arith, λ bound one two. one)
      | inr above ↦ elim (cases_Bool (b == a)) [
        | inl same ↦ rw (le-ltb b a above, same) (omega arith, omega arith, λ bound one two. two)
        | inr apart ↦ rw (le-ltb b a above, apart) (omega arith, omega arith, λ bound one two. two)
      ]
    ]

pub loop-step-init : goal.loop-step-init
loop-step-init c = (
  c.requires.chain.places,
  c.requires.chain.linked,
  omega (arith, c.requires.chain.number),
  omega arith,
  λ k session i. inl (c.requires.chain.all k i.holder i.there i.on),
)

pub index-holder-requires : goal.index-holder-requires
index-holder-requires c = let t = turn c in key-there c.args.slots.now c.loop-step.at t.holder t.there

pub loop-step-preserved : goal.loop-step-preserved
loop-step-preserved c =
    let slots = c.args.slots.now.slots in
    let t = goes-as slots c.args.tag.now c.loop-step.at c.loop-step.invariant.0 c.index-holder.result.now c.index-holder.ensures (turn (goal.at.loop-step-preserved c).In-loop-step) in
    let raised = greater c.loop-step.above (c.number.result + 1) in (
      t.rest,
      t.next,
      omega (arith, c.loop-step.invariant.2, ap length t.parts),
      rw c.max-above.ensures (raised.2 _ c.loop-step.invariant.3 (omega (arith, c.number.ensures.within))),
      λ k session i. elim (c.loop-step.invariant.4 k session i) [
        | inr below ↦ inr (omega (arith, below, raised.0, c.max-above.ensures))
        | inl is_in ↦ elim (in-parts c.loop-step.at c.loop-step.invariant.0 t.rest k t.parts is_in) [
          | inr later ↦ inl later
          | inl here ↦
              let same : i.holder ≡ c.index-holder.result.now = same-holder slots k _ _ i.there (ap (holder_at slots) here ∙ c.index-holder.ensures) in
              let its : session ≡ c.index-holder.result.now.session = sym i.its ∙ ap (λ h. h.session) same in
              inr (omega (arith, its, raised.1, c.max-above.ensures, c.number.ensures.value))
        ]
      ],
    )

pub returns-clause-within : goal.returns-clause-within
returns-clause-within c = c.loop-step.invariant.3

pub returns-clause-above : goal.returns-clause-above
returns-clause-above c = λ session mode past.
    false_from_ne_true _ (λ has.
    let shows = held-from c.args.slots.now.slots session c.args.tag.now mode has in
    elim (c.loop-step.invariant.4 shows.place session shows.at) [
      | inl is_in ↦ in-nothing shows.place c.loop-step.invariant.0 (omega (arith, c.loop-step.invariant.2)) is_in
      | inr below ↦ absurd (omega (arith, below, past))
    ])
