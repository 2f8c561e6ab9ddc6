-- What an acquire needs of what has no entry: for callers that reserve with no look.
use Rattle.std.proofs.Common.{◌≡◌, ◌<◌, false, refl, sym, length, arith}
use Rattle.std.specs.Prelude.{Option, Some, None, is_some, List}
use Rattle.std.specs.Option.{option_map_or}
use Rattle.std.proofs.lemmas.Bool.{false≢true}
use Rattle.modes_core.specs.declared.modes.Mode.{Mode}
use Rattle.modes_core.specs.declared.tags.Tag.{Tag}
use Rattle.modes_core.specs.declared.sessions.Owner.{Owner}
use Rattle.local_locks.specs.declared.records.Entry.{Entry}
use Rattle.local_locks.specs.Owned.{Owned, count_for, entry_for, has_entry, owner_count_of, IsReserved}

-- What has no entry has no count.
pub owner_count-none : (entries : List Entry) (tag : Tag) (mode : Mode) (owner : Owner) → has_entry entries tag mode ≡ false → owner_count_of entries tag mode owner ≡ 0
owner_count-none entries tag mode owner none = at (entry_for entries tag mode) none where
  at : (found : Option Entry) → is_some found ≡ false → option_map_or (count_for owner) found 0 ≡ 0
  at None none = refl
  at (Some entry) none = absurd (false≢true (sym none))

-- Room for one more entry is what its acquire needs.
pub reserved-new :
    (owned : Owned) (tag : Tag) (mode : Mode) (owner : Owner) → has_entry owned.entries tag mode ≡ false →
    length owned.entries < owned.max_local → 0 < owned.room → IsReserved owned tag mode owner
reserved-new owned tag mode owner none allowed roomy =
    record {
      countable = omega (arith, owner_count-none owned.entries tag mode owner none);
      allowed = λ _. allowed;
      roomy = λ _. roomy;
    }
