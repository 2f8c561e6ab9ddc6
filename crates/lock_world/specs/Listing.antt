use Rattle.std.specs.Prelude.{◌≡◌, ◌⊎◌, ℕ, true, [], ◌∷◌, ◌++◌}
use Rattle.modes_core.specs.declared.modes.Mode.{Mode}
use Rattle.modes_core.specs.declared.tags.Tag.{Tag}
use Rattle.modes_core.specs.Tag.{partition_of}
use Rattle.lock_table.specs.Content.{Content}
use Rattle.lock_world.specs.World.{World, Took}
use Rattle.lock_world.specs.Headline.{InSlot, InPartition, StandsAt}

-- What a listing stands on that loads slots first and takes partitions later.

-- The hold stands in this slot of its session, or in a content.
abbrev pub StandsThereOrInContent : World → ℕ → Tag → Mode → ℕ → Type 0
StandsThereOrInContent w session tag mode place =
    StandsAt w session tag mode (InSlot place) ⊎ ((partition : ℕ) × StandsAt w session tag mode (InPartition partition))

-- The step by the taker tells that it took the partition of the object, with a content that has the hold.
pub record TellsHold (w v : World) (taker session : ℕ) (tag : Tag) (mode : Mode) : Type 0 where
  pub content : Content
  pub told : v.sessions.trace taker ≡ w.sessions.trace taker ++ Took (partition_of tag) content ∷ []
  pub has : content.holds session tag mode ≡ true
