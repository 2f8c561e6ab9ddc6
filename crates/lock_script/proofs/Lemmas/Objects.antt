-- Names of objects, each of which is one object's.
use Rattle.std.proofs.Common.{◌≡◌, ◌≢◌, ◌∙◌, ℕ, ◌<◌, suc, zero, Bool, true, false, cond, List, [], ◌∷◌, ◌++◌, length, get_or, Option, Some, None, refl, ap, sym, arith}
use Rattle.std.specs.Prelude.{find, IfSome}
use Rattle.std.specs.Option.{option_map}
use Rattle.std.specs.Str.{bytes_eq}
use Rattle.std.proofs.lemmas.Bool.{false≢true}
use Rattle.std.proofs.lemmas.Option.{none-some}
use Rattle.std.proofs.lemmas.Slice.Eq.{bytes_eq-Decides}
use Rattle.std.proofs.lemmas.List.Quantifiers.{all_pairs_push}
use Rattle.arrayvec.specs.declared.array_string.ArrayString.{ArrayString}
use Rattle.modes_core.specs.declared.tags.Tag.{Tag}
use Rattle.modes_core.specs.Tag.{tag_eq}
use Rattle.modes_core.proofs.Lemmas.Conflicts.{tag_eq-refl, tag_eq-same}
use Rattle.lock_script.specs.Objects.{AreApart, name_given, tag_called}
use Rattle.lock_script.specs.declared.objects.NamedObject.{NamedObject}

-- what is not found stands nowhere
none-at : {X Y : Type 0} (p : X → Bool) (f : X → Y) (xs : List X) → option_map f (find p xs) ≡ None → (k : ℕ) (d : X) → k < length xs → p (get_or xs k d) ≡ false
none-at p f [] e k d within = absurd (omega (arith, within))
none-at {X} {Y} p f (x ∷ xs) e k d within = go (p x) refl e (λ later. none-at p f xs later) k within where
  go : (b : Bool) → p x ≡ b → option_map f (cond b (Some x) (find p xs)) ≡ None → (option_map f (find p xs) ≡ None → (k : ℕ) (d : X) → k < length xs → p (get_or xs k d) ≡ false) → (k : ℕ) → k < suc (length xs) → p (get_or (x ∷ xs) k d) ≡ false
  go true q e others k within = absurd (none-some (f x) (sym e))
  go false q e others zero within = q
  go false q e others (suc k) within = others e k d (omega (arith, within))

-- what is found stands somewhere
some-at : {X Y : Type 0} (p : X → Bool) (f : X → Y) (xs : List X) (y : Y) → option_map f (find p xs) ≡ Some y → (k : ℕ) × (k < length xs) × ((d : X) → f (get_or xs k d) ≡ y)
some-at p f [] y e = absurd (none-some y e)
some-at {X} {Y} p f (x ∷ xs) y e = go (p x) e (λ later. some-at p f xs y later) where
  go : (b : Bool) → option_map f (cond b (Some x) (find p xs)) ≡ Some y → (option_map f (find p xs) ≡ Some y → (k : ℕ) × (k < length xs) × ((d : X) → f (get_or xs k d) ≡ y)) → (k : ℕ) × (k < suc (length xs)) × ((d : X) → f (get_or (x ∷ xs) k d) ≡ y)
  go true e others =
      let same : f x ≡ y = cc in
      (0, omega arith, λ d. same)
  go false e others =
      let later = others e in
      (suc later.0, omega (arith, later.1), later.2)

not-bytes : (name other : List ℕ) → bytes_eq name other ≡ false → name ≢ other
not-bytes name other e same = false≢true (sym e ∙ (bytes_eq-Decides name other).1 same)

not-tags : (tag other : Tag) → tag_eq tag other ≡ false → tag ≢ other
not-tags tag other e same = false≢true (sym e ∙ ap (λ t. tag_eq tag t) (sym same) ∙ tag_eq-refl tag)

-- One more is apart from all, where its name and it are not among them.
pub apart-push : (objects : List NamedObject) (one : NamedObject) → AreApart objects → tag_called objects one.name.bytes ≡ None → name_given objects one.tag ≡ None → AreApart (objects ++ one ∷ [])
apart-push objects one apart free unnamed =
    all_pairs_push (λ (a b : NamedObject). (a.name.bytes ≢ b.name.bytes) × (a.tag ≢ b.tag)) objects one apart (λ k d within. (
      not-bytes (get_or objects k d).name.bytes one.name.bytes (none-at (λ (it : NamedObject). bytes_eq it.name.bytes one.name.bytes) (λ (it : NamedObject). it.tag) objects free k d within),
      not-tags (get_or objects k d).tag one.tag (none-at (λ (it : NamedObject). tag_eq it.tag one.tag) (λ (it : NamedObject). it.name) objects unnamed k d within),
    ))

apart-rest : (one : NamedObject) (objects : List NamedObject) → AreApart (one ∷ objects) → AreApart objects
apart-rest one objects apart i j d before within = apart (suc i) (suc j) d (omega (arith, before)) (omega (arith, within))

-- The name that an object has been given is its own.
given-called : (objects : List NamedObject) → AreApart objects → (tag : Tag) (name : ArrayString 63) → name_given objects tag ≡ Some name → tag_called objects name.bytes ≡ Some tag
given-called [] apart tag name e = absurd (none-some name e)
given-called (one ∷ objects) apart tag name e = go (tag_eq one.tag tag) refl e (λ later. given-called objects (apart-rest one objects apart) tag name later) where
  elsewhere : (b : Bool) → bytes_eq one.name.bytes name.bytes ≡ b → name_given objects tag ≡ Some name → (name_given objects tag ≡ Some name → tag_called objects name.bytes ≡ Some tag) → option_map (λ (it : NamedObject). it.tag) (cond b (Some one) (find (λ (it : NamedObject). bytes_eq it.name.bytes name.bytes) objects)) ≡ Some tag
  elsewhere false q e others = others e
  elsewhere true q e others =
      let at = some-at (λ (it : NamedObject). tag_eq it.tag tag) (λ (it : NamedObject). it.name) objects name e in
      let same : one.name.bytes ≡ name.bytes = (bytes_eq-Decides one.name.bytes name.bytes).0 q in
      absurd ((apart 0 (suc at.0) one (omega arith) (omega (arith, at.1))).0 (same ∙ sym (ap (λ (n : ArrayString 63). n.bytes) (at.2 one))))

  go : (b : Bool) → tag_eq one.tag tag ≡ b → option_map (λ (it : NamedObject). it.name) (cond b (Some one) (find (λ (it : NamedObject). tag_eq it.tag tag) objects)) ≡ Some name → (name_given objects tag ≡ Some name → tag_called objects name.bytes ≡ Some tag) → tag_called (one ∷ objects) name.bytes ≡ Some tag
  go false q e others = elsewhere (bytes_eq one.name.bytes name.bytes) refl e others
  go true q e others =
      let its : one.name ≡ name = cc in
      let called : bytes_eq one.name.bytes name.bytes ≡ true = (bytes_eq-Decides one.name.bytes name.bytes).1 (ap (λ (n : ArrayString 63). n.bytes) its) in
      ap (λ b. option_map (λ (it : NamedObject). it.tag) (cond b (Some one) (find (λ (it : NamedObject). bytes_eq it.name.bytes name.bytes) objects))) called
      ∙ ap (λ (t : Tag). Some t) (tag_eq-same one.tag tag q)

pub if-given : (objects : List NamedObject) → AreApart objects → (tag : Tag) (given : Option (ArrayString 63)) → given ≡ name_given objects tag → IfSome given (λ (name : ArrayString 63). tag_called objects name.bytes ≡ Some tag)
if-given objects apart tag None e = tt
if-given objects apart tag (Some name) e = given-called objects apart tag name (sym e)
