use Rattle.std.specs.Prelude.{◌≡◌, ℕ, ◌+◌, ◌==◌, not, false, [], slice_index}
use Rattle.modes_core.specs.declared.modes.Mode.{Mode}
use Rattle.modes_core.specs.declared.tags.Tag.{Tag}
use Rattle.modes_core.specs.Mode.{number_of}
use Rattle.modes_core.specs.ModeSet.{set_has}
use Rattle.lock_table.specs.Content.{Content}
use Rattle.lock_table.specs.Queue.{awaits_mode}
use Rattle.lock_records.specs.declared.counts.Counts.{Counts}
use Rattle.lock_records.specs.Counting.{sessions_below, granted_of, awaited_of, total_of}
use Rattle.modes_core.specs.Sessions.{most_sessions}

-- how many sessions hold or await the object in the mode
abbrev pub requested_of : Content → Tag → Mode → ℕ
requested_of content tag mode = granted_of content.holds tag mode + awaited_of (content.waits tag) mode

-- The counts are those of the object in the content, and the masks have the modes with a hold and with a
-- wait.
pub record AreCountsOf (content : Content) (tag : Tag) (counts : Counts) : Type 0 where
  pub granted : (mode : Mode) → slice_index counts.granted (number_of mode) ≡ granted_of content.holds tag mode
  pub requested : (mode : Mode) → slice_index counts.requested (number_of mode) ≡ requested_of content tag mode
  pub granted_total : counts.granted_total ≡ total_of (granted_of content.holds tag)
  pub requested_total : counts.requested_total ≡ total_of (requested_of content tag)
  pub grant_mask : (mode : Mode) → set_has counts.grant_mask mode ≡ not (granted_of content.holds tag mode == 0)
  pub wait_mask : (mode : Mode) → set_has counts.wait_mask mode ≡ not (awaited_of (content.waits tag) mode == 0)

-- The counts are how many sessions hold the object in the mode, and how many hold or await it in the mode.
pub record CountSessions (content : Content) (tag : Tag) (counts : Counts) : Type 0 where
  pub granted : (mode : Mode) → slice_index counts.granted (number_of mode) ≡ sessions_below most_sessions (λ session. content.holds session tag mode)
  pub requested :
      (mode : Mode) → slice_index counts.requested (number_of mode)
      ≡ sessions_below most_sessions (λ session. content.holds session tag mode) + sessions_below most_sessions (λ session. awaits_mode (content.waits tag) session mode)

-- Nobody holds or awaits the object.
pub record IsUntouched (content : Content) (tag : Tag) : Type 0 where
  pub not_held : (session : ℕ) (mode : Mode) → content.holds session tag mode ≡ false
  pub not_awaited : content.waits tag ≡ []
