use Rattle.std.proofs.Common.{◌≡◌, refl, ap, subst, ◌∙◌}
use Rattle.std.specs.Ordering.{nat_cmp, on, ordering_then}
use Rattle.std.specs.Cmp.Lexicographic.{slice_cmp}
use Rattle.std.specs.declared.cmp.Ordering.{Ordering}
use Rattle.std.specs.List.Sorted.{IsSorted}
use Rattle.std.specs.Prelude.{List}
use Rattle.modes_core.specs.declared.modes.Mode.{Mode}
use Rattle.modes_core.specs.declared.modes.Mode.TheVariants.{AccessShare, RowShare, RowExclusive, ShareUpdateExclusive, Share, ShareRowExclusive, Exclusive, AccessExclusive}
use Rattle.modes_core.specs.Mode.{number_of}
use Rattle.modes_core.specs.Tag.{numbers_of}
use Rattle.modes_core.specs.contracts.modes.ModeOrd.TheImpl as mode
use Rattle.lock_model.specs.declared.machine.plain.Hold.{Hold}
use Rattle.lock_model.specs.declared.machine.plain.Spot.{Spot}
use Rattle.lock_model.specs.declared.machine.plain.Spot.TheVariants.{Slot, Table}
use Rattle.lock_model.specs.contracts.machine.plain.HoldOrd.TheImpl as hold
use Rattle.lock_model.specs.contracts.machine.plain.SpotOrd.TheImpl as spot
use Rattle.lock_model.specs.Plain.{spot_cmp, hold_cmp}

-- The order that is derived for holds is the one that is spelled out.

-- What holds of each of the eight modes holds of a mode.
each_mode : (P : Mode → Type 0) → P AccessShare → P RowShare → P RowExclusive → P ShareUpdateExclusive → P Share → P ShareRowExclusive → P Exclusive → P AccessExclusive → (m : Mode) → P m
each_mode P a b c d e f g h AccessShare = a
each_mode P a b c d e f g h RowShare = b
each_mode P a b c d e f g h RowExclusive = c
each_mode P a b c d e f g h ShareUpdateExclusive = d
each_mode P a b c d e f g h Share = e
each_mode P a b c d e f g h ShareRowExclusive = f
each_mode P a b c d e f g h Exclusive = g
each_mode P a b c d e f g h AccessExclusive = h

mode_order : (m n : Mode) → mode.ghosts.cmp m n ≡ nat_cmp (number_of m) (number_of n)
mode_order =
    each_mode (λ m. (n : Mode) → mode.ghosts.cmp m n ≡ nat_cmp (number_of m) (number_of n))
    (each_mode (λ n. mode.ghosts.cmp AccessShare n ≡ nat_cmp 1 (number_of n)) refl refl refl refl refl refl refl refl)
    (each_mode (λ n. mode.ghosts.cmp RowShare n ≡ nat_cmp 2 (number_of n)) refl refl refl refl refl refl refl refl)
    (each_mode (λ n. mode.ghosts.cmp RowExclusive n ≡ nat_cmp 3 (number_of n)) refl refl refl refl refl refl refl refl)
    (each_mode (λ n. mode.ghosts.cmp ShareUpdateExclusive n ≡ nat_cmp 4 (number_of n)) refl refl refl refl refl refl refl refl)
    (each_mode (λ n. mode.ghosts.cmp Share n ≡ nat_cmp 5 (number_of n)) refl refl refl refl refl refl refl refl)
    (each_mode (λ n. mode.ghosts.cmp ShareRowExclusive n ≡ nat_cmp 6 (number_of n)) refl refl refl refl refl refl refl refl)
    (each_mode (λ n. mode.ghosts.cmp Exclusive n ≡ nat_cmp 7 (number_of n)) refl refl refl refl refl refl refl refl)
    (each_mode (λ n. mode.ghosts.cmp AccessExclusive n ≡ nat_cmp 8 (number_of n)) refl refl refl refl refl refl refl refl)

spot_order : (x y : Spot) → spot.ghosts.cmp x y ≡ spot_cmp x y
spot_order (Slot i) (Slot j) = refl
spot_order (Slot i) Table = refl
spot_order Table (Slot j) = refl
spot_order Table Table = refl

hold_order : (x y : Hold) → hold.ghosts.cmp x y ≡ hold_cmp x y
hold_order x y =
    let tags : Ordering = on (λ (h : Hold). numbers_of h.tag) (slice_cmp nat_cmp) x y in
    ap (λ o. ordering_then (nat_cmp x.session y.session) (ordering_then tags (ordering_then o (spot.ghosts.cmp x.spot y.spot)))) (mode_order x.mode y.mode)
    ∙ ap (λ o. ordering_then (nat_cmp x.session y.session) (ordering_then tags (ordering_then (nat_cmp (number_of x.mode) (number_of y.mode)) o))) (spot_order x.spot y.spot)

pub IsSorted-hold : (list : List Hold) → IsSorted hold.ghosts.cmp list → IsSorted hold_cmp list
IsSorted-hold list sorted = subst (λ (order : Hold → Hold → Ordering). IsSorted order list) (λ i x y. hold_order x y i) sorted
