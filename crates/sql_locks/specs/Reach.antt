use Rattle.std.specs.Prelude.{◌≡◌, ℕ, ◌==◌, ◌&&◌, Bool, true, List, [], ◌∷◌, ◌++◌, map, filter, Contains, Option, Some, None}
use Rattle.std.specs.List.{flat_map, filter_map}
use Rattle.sql_locks.specs.Catalog.{number_of}
use Rattle.sql_locks.specs.declared.catalog.Link.{Link}
use Rattle.sql_locks.specs.declared.catalog.LinkKind.{LinkKind}
use Rattle.sql_locks.specs.declared.catalog.LinkKind.TheVariants.{Child, Default as DefaultLink, Index, Key as KeyLink, Refers, Reads, Stores, Owns}
use Rattle.sql_locks.specs.declared.forms.Along.{Along}
use Rattle.sql_locks.specs.declared.forms.Along.TheVariants.{Nothing, Family, Sources, Stored, Referring as ReferringAll}
use Rattle.sql_locks.specs.declared.forms.Hop.{Hop}
use Rattle.sql_locks.specs.declared.forms.Hop.TheVariants.{Stay, Indexes, Table, Key, Default, Referred, Referring, Owned}
use Rattle.sql_locks.specs.declared.forms.Part.{Part}
use Rattle.sql_locks.specs.declared.forms.Start.{Start}
use Rattle.sql_locks.specs.declared.forms.Start.TheVariants.{Target, Other}
use Rattle.sql_locks.specs.declared.edges.Edge.{Edge}
use Rattle.sql_locks.specs.declared.locks.Lock.{Lock}
use Rattle.sql_locks.specs.declared.locks.Act.{Act}

-- the step along a path that a link of this kind is
abbrev pub stepped : Along → LinkKind → ℕ → ℕ → Option Edge
stepped Family Child a b = Some (record { from = a; to = b })
stepped Sources Child a b = Some (record { from = a; to = b })
stepped Sources Reads a b = Some (record { from = a; to = b })
stepped Stored Child a b = Some (record { from = a; to = b })
stepped Stored Reads a b = Some (record { from = a; to = b })
stepped Stored Stores a b = Some (record { from = a; to = b })
stepped ReferringAll Child a b = Some (record { from = a; to = b })
stepped ReferringAll Refers a b = Some (record { from = b; to = a })
stepped _ _ a b = None

-- the step along a path that a link is
abbrev pub step_of : Along → Link → Option Edge
step_of along link = stepped along link.kind link.from link.to

-- all steps along a path
abbrev pub edges_of : Along → List Link → List Edge
edges_of along links = filter_map (step_of along) links

-- A list of relations is what the steps lead to from this one on: it has that one, it has the end of each
-- step whose beginning it has, and nothing else, since it lies in every set that has the first and the ends
-- of its steps.
pub record IsClosure (edges : List Edge) (start : ℕ) (found : List ℕ) : Type 0 where
  pub starts : Contains found start
  pub closed : (edge : Edge) → Contains edges edge → Contains found edge.from → Contains found edge.to
  pub least : (is_in : ℕ → Bool) → is_in start ≡ true →
      ((edge : Edge) → Contains edges edge → is_in edge.from ≡ true → is_in edge.to ≡ true) →
      (x : ℕ) → Contains found x → is_in x ≡ true

-- whether a link of this kind begins at a relation
abbrev pub begins_at : LinkKind → ℕ → Link → Bool
begins_at kind x link = (number_of link.kind == number_of kind) && (link.from == x)

-- whether a link of this kind ends at a relation
abbrev pub ends_at : LinkKind → ℕ → Link → Bool
ends_at kind x link = (number_of link.kind == number_of kind) && (link.to == x)

-- the relations to which links of this kind lead from one
abbrev pub targets_of : LinkKind → ℕ → List Link → List ℕ
targets_of kind x links = map (λ link. link.to) (filter (begins_at kind x) links)

-- the relations from which links of this kind lead to one
abbrev pub sources_of : LinkKind → ℕ → List Link → List ℕ
sources_of kind x links = map (λ link. link.from) (filter (ends_at kind x) links)

-- where the last step of a path leads from a relation
abbrev pub hopped : List Link → Hop → ℕ → List ℕ
hopped links Stay x = x ∷ []
hopped links Indexes x = targets_of Index x links
hopped links Table x = sources_of Index x links
hopped links Key x = targets_of KeyLink x links
hopped links Default x = targets_of DefaultLink x links
hopped links Referred x = targets_of Refers x links
hopped links Referring x = sources_of Refers x links
hopped links Owned x = targets_of Owns x links

-- the relation from which a path begins
abbrev pub start_of : Start → Act → Option ℕ
start_of Target act = Some act.target
start_of Other act = act.other

-- the path that is gone: that of the form, or none along children where the statement says `ONLY`
abbrev pub along_of : Along → Bool → Along
along_of Family true = Nothing
along_of Sources true = Nothing
along_of ReferringAll true = Nothing
along_of along _ = along

-- The locks of one part of a row: its mode on each relation to which its path leads, and no other.
abbrev pub ArePathLocks : List Link → Act → Part → Option ℕ → List Lock → Type 0
ArePathLocks links act part None locks = locks ≡ []
ArePathLocks links act part (Some start) locks =
    (found : List ℕ) × IsClosure (edges_of (along_of part.path.along act.is_only) links) start found
    × (locks ≡ map (λ x. record { relation = x; mode = part.mode }) (flat_map (hopped links part.path.hop) found))

-- The locks of several parts, one after another.
abbrev pub AreLocks : List Link → Act → List Part → List Lock → Type 0
AreLocks links act [] locks = locks ≡ []
AreLocks links act (part ∷ parts) locks =
    (first : List Lock) × (others : List Lock) × (locks ≡ first ++ others)
    × ArePathLocks links act part (start_of part.path.start act) first × AreLocks links act parts others
