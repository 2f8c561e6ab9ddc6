use Rattle.std.proofs.Common.{◌≡◌, ℕ, length, take}
use Rattle.lock_model.specs.Shows.{is_unmarked_in, names_in}
use Rattle.lock_model.proofs.machine.hands.unmarked_of.Given as goal

abbrev pub invariant-loop-whose : goal.invariant-loop-whose
invariant-loop-whose l = (length l.marks ≡ 1024) × ((session : ℕ) → is_unmarked_in l.marks session ≡ names_in (take l.whose-index l.woken) session)
