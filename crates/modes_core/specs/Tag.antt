use Rattle.std.specs.Prelude.{ℕ, ◌+◌, ◌*◌, ◌%◌, ◌^◌, Bool, false, not, ◌&&◌, ◌==◌, nat_le, List, [], ◌∷◌, fold}
use Rattle.modes_core.specs.declared.modes.Mode.{Mode}
use Rattle.modes_core.specs.declared.tags.Tag.{Tag}
use Rattle.modes_core.specs.declared.tags.Tag.TheVariants.{Relation, Object, Advisory}
use Rattle.modes_core.specs.declared.tags.LockMethod.{LockMethod}
use Rattle.modes_core.specs.declared.tags.LockMethod.TheVariants.{Default, User}
use Rattle.modes_core.specs.Mode.{number_of}

-- an object is six numbers: field1 to field4, the type and the lock method
abbrev pub numbers_of : Tag → List ℕ
numbers_of (Relation database relation) = database ∷ relation ∷ 0 ∷ 0 ∷ 0 ∷ 1 ∷ []
numbers_of (Object sub_object database class object) = database ∷ class ∷ object ∷ sub_object ∷ 8 ∷ 1 ∷ []
numbers_of (Advisory sub database key1 key2) = database ∷ key1 ∷ key2 ∷ sub ∷ 10 ∷ 2 ∷ []

-- the database that an object is in
abbrev pub database_of : Tag → ℕ
database_of (Relation database relation) = database
database_of (Object sub_object database class object) = database
database_of (Advisory sub database key1 key2) = database

-- the relation of a relation's tag; no other object has a slot
abbrev pub relation_of : Tag → ℕ
relation_of (Relation database relation) = relation
relation_of (Object sub_object database class object) = 0
relation_of (Advisory sub database key1 key2) = 0

-- the number in which objects of one kind differ most often
abbrev pub own_number_of : Tag → ℕ
own_number_of (Relation database relation) = relation
own_number_of (Object sub_object database class object) = object
own_number_of (Advisory sub database key1 key2) = key2

-- the lock method of an object
abbrev pub method_of : Tag → LockMethod
method_of (Relation database relation) = Default
method_of (Object sub_object database class object) = Default
method_of (Advisory sub database key1 key2) = User

-- the first number, and then for each other one the hash times 31 plus that number, modulo 2^32
abbrev pub hash_of_numbers : List ℕ → ℕ
hash_of_numbers [] = 0
hash_of_numbers (first ∷ others) = fold (λ hash number. (hash * 31 + number) % 2 ^ 32) first others

-- the hash of an object
abbrev pub hash_of : Tag → ℕ
hash_of tag = hash_of_numbers (numbers_of tag)

-- the partition that an object lies in
abbrev pub partition_of : Tag → ℕ
partition_of tag = hash_of tag % 16

-- the strong lock counter of an object
abbrev pub index_of : Tag → ℕ
index_of tag = hash_of tag % 1024

-- a relation of the session's own database, which is not 0, in a mode that is at most 3
abbrev pub is_eligible_for : ℕ → Tag → Mode → Bool
is_eligible_for own (Relation database relation) mode = (database == own) && (not (database == 0) && nat_le (number_of mode) 3)
is_eligible_for own (Object sub_object database class object) mode = false
is_eligible_for own (Advisory sub database key1 key2) mode = false

-- a relation of a database other than 0, in a mode that is at least 5
abbrev pub is_strong_on : Tag → Mode → Bool
is_strong_on (Relation database relation) mode = not (database == 0) && nat_le 5 (number_of mode)
is_strong_on (Object sub_object database class object) mode = false
is_strong_on (Advisory sub database key1 key2) mode = false

-- whether two tags are the same one
abbrev pub tag_eq : Tag → Tag → Bool
tag_eq (Relation d r) (Relation d' r') = (d == d') && (r == r')
tag_eq (Object s d c o) (Object s' d' c' o') = (s == s') && ((d == d') && ((c == c') && (o == o')))
tag_eq (Advisory s d k l) (Advisory s' d' k' l') = (s == s') && ((d == d') && ((k == k') && (l == l')))
tag_eq x y = false
