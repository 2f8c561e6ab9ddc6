use Rattle.std.specs.Prelude.{[], Option, None, Some}
use Rattle.lock_manager.specs.Managers.{ManagerView}

-- Which manager the types of connections name.

-- no manager at all
abbrev pub no_manager : ManagerView
no_manager = record {
  table = record { words = 0; slots = 0; views_name = 0; atom = 0; block = 0; offset = 0; slot_names = [] };
  limit = 0;
  groups = 0;
  max_local = 0;
}

-- the manager of the desk that is there, if one is
abbrev pub manager_in : {D : Type 0} → (D → ManagerView) → Option D → ManagerView
manager_in manager None = no_manager
manager_in manager (Some desk) = manager desk
