use Rattle.std.specs.Prelude.{◌≢◌, ℕ, Bool, false, ◌==◌, ◌||◌, ◌&&◌, nat_le, List, [], ◌∷◌, length, Option, find, AllPairs}
use Rattle.std.specs.List.{list_all}
use Rattle.std.specs.Option.{option_map, option_or}
use Rattle.std.specs.Str.{bytes_eq}
use Rattle.arrayvec.specs.declared.array_string.ArrayString.{ArrayString}
use Rattle.modes_core.specs.declared.tags.Tag.{Tag}
use Rattle.modes_core.specs.Tag.{tag_eq}
use Rattle.lock_script.specs.Words.{tag_of}
use Rattle.lock_script.specs.declared.objects.NamedObject.{NamedObject}

-- Objects by their names.

-- a letter or an underscore
abbrev pub begins_name : ℕ → Bool
begins_name b = (nat_le 97 b && nat_le b 122) || ((nat_le 65 b && nat_le b 90) || (b == 95))

-- a letter, an underscore, a digit, a dollar sign or a full stop
abbrev pub is_object_byte : ℕ → Bool
is_object_byte b = begins_name b || ((nat_le 48 b && nat_le b 57) || ((b == 36) || (b == 46)))

-- a letter or an underscore, and after it letters, underscores, digits, dollar signs and full stops
abbrev pub has_name_bytes : List ℕ → Bool
has_name_bytes [] = false
has_name_bytes (first ∷ others) = begins_name first && list_all is_object_byte others

-- such a text of no more than 63 characters
abbrev pub is_object_name : List ℕ → Bool
is_object_name word = nat_le (length word) 63 && has_name_bytes word

-- the object that goes by this name, if one does
abbrev pub tag_called : List NamedObject → List ℕ → Option Tag
tag_called objects word = option_map (λ one. one.tag) (find (λ one. bytes_eq one.name.bytes word) objects)

-- the name by which an object goes, if it has one
abbrev pub name_given : List NamedObject → Tag → Option (ArrayString 63)
name_given objects tag = option_map (λ one. one.name) (find (λ one. tag_eq one.tag tag) objects)

-- the object that a word stands for: the one that it writes by its numbers, or else the one that goes by it
abbrev pub tag_in : List NamedObject → List ℕ → Option Tag
tag_in objects word = option_or (tag_of word) (tag_called objects word)

-- No two go by one name, and no object has two.
abbrev pub AreApart : List NamedObject → Type 0
AreApart objects = AllPairs (λ one other. (one.name.bytes ≢ other.name.bytes) × (one.tag ≢ other.tag)) objects
