use Rattle.std.specs.Prelude.{◌≡◌, ℕ, ◌==◌, ◌&&◌, ◌||◌, not, Bool, List}
use Rattle.std.specs.BTreeMap.{BTreeMap, get_by_text}
use Rattle.std.specs.Prelude.{String}
use Rattle.sql_locks.specs.declared.catalog.Link.{Link}
use Rattle.sql_locks.specs.declared.catalog.LinkKind.{LinkKind}
use Rattle.sql_locks.specs.declared.catalog.LinkKind.TheVariants.{Child, Partition, Default, Index, Key, Refers, Reads, Stores, Owns}

-- each name has the same number as before
abbrev pub SameNames : {A : Type 0} → BTreeMap (String A) ℕ → BTreeMap (String A) ℕ → Type 0
SameNames old new = (name : List ℕ) → get_by_text new name ≡ get_by_text old name

-- the number of a kind of links, by which kinds are compared
abbrev pub number_of : LinkKind → ℕ
number_of Child = 0
number_of Default = 1
number_of Index = 2
number_of Refers = 3
number_of Reads = 4
number_of Stores = 5
number_of Owns = 6
number_of Partition = 7
number_of Key = 8

-- whether a link is another one than that of this kind between these relations
abbrev pub is_other_link : LinkKind → ℕ → ℕ → Link → Bool
is_other_link kind from to link = not (number_of link.kind == number_of kind) || (not (link.from == from) || not (link.to == to))

-- whether a link neither begins nor ends at a relation
abbrev pub is_apart : ℕ → Link → Bool
is_apart number link = not (link.from == number) && not (link.to == number)
