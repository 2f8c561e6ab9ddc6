use Rattle.std.proofs.Common.{◌≡◌, ℕ, ◌+◌, ◌-◌, ◌*◌, ◌/◌, ◌%◌, ◌^◌, refl, ap, ◌∙◌, arith}
use Rattle.local_locks.specs.Slots.{hash_of, multiplier}
use Rattle.local_locks.proofs.looks.hash_of.Goals as goal

step : (a b h m : ℕ) → a ≡ h → b ≡ m → (a + b) % 2 ^ 64 ≡ (h + m) % 2 ^ 64
step a b h m object number = omega arith

pub returns : goal.returns
unfolding hash_of
returns c = ap (λ key. key * multiplier % 2 ^ 64 / 2 ^ 32) (step c.args.object c.from.result _ _ refl (c.from.ensures ∙ ap (λ n. n - 1) c.number.ensures))
