use Rattle.std.proofs.Common.{◌≡◌, ℕ, ◌<◌, Option, Some, None, sym, ◌∙◌, inl, inr, arith}
use Rattle.lock_world.specs.World.{World}
use Rattle.lock_world.specs.Happens.Seats.{HappensJoining, MayBeIssued, MayGoOn, HappensSplitting}
use Rattle.lock_world.specs.Safe.{NumbersAreInOrder}

-- A number that is to be issued is kept apart by nobody.
not_both : (w : World) (s : ℕ) → NumbersAreInOrder w.numbers → MayBeIssued w s → MayGoOn w s → ⊥
not_both w s order issued on =
    let below : s < w.numbers.issued = order.live_is_issued s (order.kept_is_live s on.0 on.1) in
    let next : s ≡ w.numbers.issued = issued.next in
    omega arith

pub one_splitting : (w : World) (s : ℕ) (u v : World) → NumbersAreInOrder w.numbers → HappensSplitting w s u → HappensSplitting w s v → u ≡ v
one_splitting w s u v order (inl one) (inl two) = one.1 ∙ sym two.1
one_splitting w s u v order (inr one) (inr two) = one.1 ∙ sym two.1
one_splitting w s u v order (inl one) (inr two) = absurd (not_both w s order one.0 two.0)
one_splitting w s u v order (inr one) (inl two) = absurd (not_both w s order two.0 one.0)

pub one_joining : (w : World) (s : ℕ) (joiner : Option ℕ) (u v : World) → HappensJoining w s joiner u → HappensJoining w s joiner v → u ≡ v
one_joining w s (Some j) u v one two = one.1 ∙ sym two.1
one_joining w s None u v one two = one.1 ∙ sym two.1
