-- What stays true while the locks of a row are gathered part by part.
use Rattle.std.proofs.Common.{List, [], ◌∷◌, ◌++◌, refl, sym, ◌∙◌, ap, append_assoc}
use Rattle.std.proofs.lemmas.List.{append-nil}
use Rattle.sql_locks.specs.Reach.{AreLocks, ArePathLocks, start_of}
use Rattle.sql_locks.specs.declared.catalog.Link.{Link}
use Rattle.sql_locks.specs.declared.forms.Part.{Part}
use Rattle.sql_locks.specs.declared.locks.Act.{Act}
use Rattle.sql_locks.specs.declared.locks.Lock.{Lock}

-- the locks of one more part come behind the others
pub locks_more : (links : List Link) (act : Act) (parts : List Part) (locks : List Lock) (part : Part) (more : List Lock) →
    AreLocks links act parts locks → ArePathLocks links act part (start_of part.path.start act) more →
    AreLocks links act (parts ++ part ∷ []) (locks ++ more)
locks_more links act [] locks part more known new =
    (more, [], ap (λ xs. xs ++ more) known ∙ sym (append-nil more), new, refl)
locks_more links act (first ∷ parts) locks part more known new = (
  known.0,
  known.1 ++ more,
  ap (λ xs. xs ++ more) known.2 ∙ append_assoc known.0 known.1 more,
  known.3,
  locks_more links act parts known.1 part more known.4 new,
)
