use Rattle.std.proofs.Common.{◌≡◌, ℕ, ◌<◌, ◌^◌, ◌&&◌, eqb, sym, ap, ◌∙◌, inl, inr, arith}
use Rattle.std.proofs.lemmas.Bool.{cases_eq, eq-eqb, ne_eqb}
use Rattle.local_locks.specs.Slots.{pair_bits}
use Rattle.local_locks.proofs.looks.is_same_pair.Goals as goal

same : (d n d' n' : ℕ) → d < 2 ^ 32 → d' < 2 ^ 32 → eqb (pair_bits d n) (pair_bits d' n') ≡ (eqb d d' && eqb n n')
same d n d' n' below below' =
    elim (cases_eq d d') [
      | inl same_d ↦
          elim (cases_eq n n') [
            | inl same_n ↦ eq-eqb (pair_bits d n) (pair_bits d' n') (λ i. pair_bits (same_d i) (same_n i)) ∙ sym (λ i. eq-eqb d d' same_d i && eq-eqb n n' same_n i)
            | inr apart ↦ ne_eqb (pair_bits d n) (pair_bits d' n') (λ both. apart (omega (arith, both, below, below'))) ∙ sym (λ i. eq-eqb d d' same_d i && ne_eqb n n' apart i)
          ]
      | inr apart ↦ ne_eqb (pair_bits d n) (pair_bits d' n') (λ both. apart (omega (arith, both, below, below'))) ∙ sym (ap (λ b. b && eqb n n') (ne_eqb d d' apart))
    ]

pub returns : goal.returns
returns c =
    (λ i. eqb (c.pair_bits.ensures i) (c.pair_bits-2.ensures i))
    ∙ same c.args.database c.args.number c.args.other_database c.args.other_number c.ranges.database.fits c.ranges.other_database.fits
