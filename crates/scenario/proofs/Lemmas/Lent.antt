-- The sessions that nobody has, of which one is lent.
use Rattle.std.proofs.Common.{◌≡◌, ℕ, ◌+◌, ◌-◌, ◌<◌, ◌≤◌, ap, arith, subst, sym, List, Some, length}
use Rattle.std.specs.Prelude.{All, slice_get}
use Rattle.std.specs.List.{remove}
use Rattle.std.proofs.lemmas.List.Edits.{length-remove}
use Rattle.std.proofs.lemmas.Option.{get_or_from_slice_get, slice_get_within}
use Rattle.lock_manager.specs.Pools.{PoolView, HasRoomFor}
use Rattle.lock_script.proofs.Lemmas.Sessions.{All-remove}

module _ {X : Type 0} (P : X → Type 0) (free : List X) (place : ℕ) (lent : X) where
  -- of the one that is lent
  pub lent-so : slice_get free place ≡ Some lent → All P free → P lent
  lent-so there each = subst P (get_or_from_slice_get free place lent lent there) (each place lent (slice_get_within free place lent there))

  -- of those that are left
  pub left-so : (left : List X) → slice_get free place ≡ Some lent → left ≡ remove free place → All P free → All P left
  left-so left there e each = subst (λ (those : List X). All P those) (sym e) (All-remove P free place (slice_get_within free place lent there) each)

-- which are one fewer
pub one-less : {X : Type 0} (free left : List X) (place : ℕ) (lent : X) → slice_get free place ≡ Some lent → left ≡ remove free place → length left + 1 ≡ length free
one-less {X} free left place lent there e =
    let same = ap (λ (those : List X). length those) e in
    let fewer = length-remove free place (slice_get_within free place lent there) in
    omega (arith, same, fewer)

-- a pool that has room for all sessions of its manager, for one that is open
pub has-room :
    {B : Type 0} (pool : PoolView B) (number live issued limit : ℕ) → 0 < live - length pool.free → live ≡ issued → issued ≤ limit → limit ≤ length pool.lives →
    number < issued → HasRoomFor number pool
has-room {B} pool number live issued limit some none_closed few room known =
    (omega (arith, some, none_closed, few, room), omega (arith, known, few, room))
