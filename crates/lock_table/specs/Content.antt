use Rattle.std.specs.Prelude.{ℕ, Bool, true, false, ◌==◌, List, []}
use Rattle.modes_core.specs.declared.modes.Mode.{Mode}
use Rattle.modes_core.specs.declared.tags.Tag.{Tag}
use Rattle.modes_core.specs.Mode.{mode_eq}
use Rattle.modes_core.specs.Tag.{tag_eq}
use Rattle.lock_table.specs.Put.{put}

-- Which session holds which object in which mode.
abbrev pub Holds : Type 0
Holds = ℕ → Tag → Mode → Bool

-- A request that waits in an object's queue: who waits, for which mode, and the modes of the object that the
-- session held when it joined.
pub record Wait : Type 0 where
  pub session : ℕ
  pub mode : Mode
  pub held : Mode → Bool

-- What a partition of the lock table has in it: its holds, and a queue of waits for each object, the first
-- one first. Two keepers of the same holds and queues have equal contents.
pub record Content : Type 0 where
  pub holds : Holds
  pub waits : Tag → List Wait

-- no hold and no wait
abbrev pub empty_content : Content
empty_content = record { holds = λ _ _ _. false; waits = λ _. [] }

-- the holds, with this one there or not
abbrev pub set_hold : Holds → ℕ → Tag → Mode → Bool → Holds
set_hold holds session tag mode there =
    put (λ a b. a == b) holds session (put tag_eq (holds session) tag (put mode_eq (holds session tag) mode there))

-- the content with one hold more
abbrev pub add_hold : Content → ℕ → Tag → Mode → Content
add_hold content session tag mode = record { holds = set_hold content.holds session tag mode true; waits = content.waits }

-- the content with one hold less
abbrev pub remove_hold : Content → ℕ → Tag → Mode → Content
remove_hold content session tag mode = record { holds = set_hold content.holds session tag mode false; waits = content.waits }
