use Rattle.std.specs.Prelude.{◌≡◌, ℕ, ◌<◌, List, [], length, slice_get, Option, Some}
use Rattle.std.specs.Global.{Box}
use Rattle.lw_word.specs.WaitList.{Waiting}
use Rattle.lock_table.specs.declared.request.Request.{Request}
use Rattle.shared_rule.specs.declared.kept.Kept.{Kept}
use Rattle.shared_rule.specs.declared.kept.Kept.TheVariants as kept
use Rattle.lock_table.specs.Content.{Content}
use Rattle.lock_table.specs.Parts.{IsBlank}
use Rattle.shared_rule.specs.Layout.{content_shelf_of, list_shelf_of, lock_count, shelves_of}

-- The table before the first step.

module _ {T : Type 0} where
  -- There is a wait list in which nobody stands, with room for this number of sessions.
  pub record IsEmptyList (sessions : ℕ) (there : Option (Kept T)) : Type 0 where
    pub list : Box Waiting
    pub is_there : there ≡ Some (kept.List list)
    pub empty : list.value ≡ record { waiters = []; room = sessions }

module _ {T : Type 0} (content : T → Content) (begun : T → Option Request) where
  -- There is a part with nothing in it.
  pub record IsNew (there : Option (Kept T)) : Type 0 where
    pub part : T
    pub is_there : there ≡ Some (kept.Part part)
    pub blank : IsBlank content begun part

  -- Where there can be this number of sessions, each partition's part is on its shelf, with nothing in it,
  -- and each lock's wait list on its own, with nobody in it and with room for all of them.
  pub record AreNew (sessions : ℕ) (shelves : List (Kept T)) : Type 0 where
    pub many : length shelves ≡ shelves_of sessions
    pub new : (p : ℕ) → p < 16 → IsNew (slice_get shelves (content_shelf_of p))
    pub empty : (lock : ℕ) → lock < lock_count sessions → IsEmptyList sessions (slice_get shelves (list_shelf_of lock))
