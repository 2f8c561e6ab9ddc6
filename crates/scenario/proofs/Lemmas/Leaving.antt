-- Who is left waiting, name by name.
use Rattle.std.proofs.Common.{◌≡◌, ◌≢◌, ◌∙◌, ℕ, ◌+◌, ◌≤◌, ◌<◌, List, [], ◌∷◌, ◌++◌, append-nil, append_assoc, ap, codes, subst, get_or, length, map, take, refl, sym, true, false}
use Rattle.std.specs.Prelude.{◌||◌, Bool, flat_map, if◌then◌else◌, IfSome, OnOk, Option, Some, Result, Ok, Err}
use Rattle.std.specs.Bool.{◌==◌}
use Rattle.std.specs.Fmt.{decimal}
use Rattle.std.specs.Io.KnownBytes.{Appends, Keeps}
use Rattle.std.proofs.KnownBytes.{Appends-kept}
use Rattle.std.proofs.lemmas.Bool.{eqb-true}
use Rattle.std.proofs.lemmas.Grind.{flat_map-append}
use Rattle.std.proofs.lemmas.List.{map-append, take_more, take_all}
use Rattle.arrayvec.specs.declared.array_string.ArrayString.{ArrayString}
use Rattle.serde_json.specs.Data.{string}
use Rattle.serde_json.specs.View.{items_of}
use Rattle.serde_json.specs.Written.{has_float, items_have_float}
use Rattle.scenario.specs.Heard.{Left}
use Rattle.scenario.specs.Json.{left_data}
use Rattle.scenario.specs.Printed.{Prints, text_heard}
use Rattle.scenario.specs.Texts.{left_text, not_reached_text}
use Rattle.scenario.specs.declared.output.Output.{Output}

-- the text of the first name, and of these others
abbrev pub named : ArrayString 16 → List (ArrayString 16) → List ℕ
named first others = (codes "left waiting: " ++ first.bytes) ++ flat_map (λ name. codes ", " ++ name.bytes) others

-- One name more.
pub named-more :
    (first : ArrayString 16) (others : List (ArrayString 16)) (k : ℕ) (name : ArrayString 16) → k < length others → name ≡ get_or others k name →
    named first (take k others) ++ (codes ", " ++ name.bytes) ≡ named first (take (k + 1) others)
named-more first others k name within is =
    append_assoc (codes "left waiting: " ++ first.bytes) (flat_map (λ name. codes ", " ++ name.bytes) (take k others)) (codes ", " ++ name.bytes)
    ∙ ap (λ (text : List ℕ). (codes "left waiting: " ++ first.bytes) ++ text)
    (sym (ap (λ those. flat_map (λ name. codes ", " ++ name.bytes) those) (take_more others k name within ∙ ap (λ it. take k others ++ it ∷ []) (sym is))
    ∙ (flat_map-append (λ name. codes ", " ++ name.bytes) (take k others) (name ∷ [])
    ∙ ap (λ (text : List ℕ). flat_map (λ name. codes ", " ++ name.bytes) (take k others) ++ text) (append-nil (codes ", " ++ name.bytes)))))

-- All names, and then how many lines were not reached.
pub named-all :
    (first : ArrayString 16) (others : List (ArrayString 16)) (k lines : ℕ) (rest : List ℕ) → length others ≤ k → rest ≡ not_reached_text lines →
    named first (take k others) ++ rest ≡ left_text first others lines
named-all first others k lines rest all is =
    ap (λ (those : List (ArrayString 16)). named first those ++ rest) (take_all k others all)
    ∙ ap (λ (text : List ℕ). named first others ++ text) is

pub none-missed : (lines : ℕ) → lines ≡ 0 → [] ≡ not_reached_text lines
none-missed lines is = sym (ap (λ (n : ℕ). not_reached_text n) is)

pub one-missed : (lines : ℕ) → lines ≡ 1 → codes "; not reached: 1 line" ≡ not_reached_text lines
one-missed lines is = sym (ap (λ (n : ℕ). not_reached_text n) is)

pub more-missed :
    (lines : ℕ) → lines ≢ 0 → lines ≢ 1 → (codes "; not reached: " ++ decimal lines) ++ codes " lines" ≡ not_reached_text lines
more-missed lines some more = go (lines == 0) refl (lines == 1) refl where
  go :
      (a : Bool) → (lines == 0) ≡ a → (b : Bool) → (lines == 1) ≡ b →
      (codes "; not reached: " ++ decimal lines) ++ codes " lines"
      ≡ (if a then [] else if b then codes "; not reached: 1 line" else (codes "; not reached: " ++ decimal lines) ++ codes " lines")
  go true is b _ = absurd (some (eqb-true lines 0 is))
  go false _ true is = absurd (more (eqb-true lines 1 is))
  go false _ false _ = refl

-- the names that were taken, up to this place
pub names-more :
    {X : Type 0} (f : X → ArrayString 16) (items : List X) (names : List (ArrayString 16)) (k : ℕ) (item : X) → k < length items → item ≡ get_or items k item →
    names ≡ map f (take k items) → names ++ f item ∷ [] ≡ map f (take (k + 1) items)
names-more f items names k item within is so_far =
    ap (λ those. those ++ f item ∷ []) so_far
    ∙ sym (ap (λ those. map f those) (take_more items k item within ∙ ap (λ it. take k items ++ it ∷ []) (sym is)) ∙ map-append f (take k items) (item ∷ []))

-- the names are written without a float
names-no-float : (names : List (ArrayString 16)) → items_have_float (items_of (map (λ name. string name.bytes) names)) ≡ false
names-no-float [] = refl
names-no-float (name ∷ names) = names-no-float names

pub left-no-float : (waiting : List (ArrayString 16)) (lines : ℕ) → has_float (left_data waiting lines) ≡ false
left-no-float waiting lines = ap (λ (b : Bool). b || false) (names-no-float waiting)

pub always-ok : {E P : Type 0} (r : Result (Unit {0}) E) → P → OnOk r P
always-ok (Ok x) p = p
always-ok (Err e) p = tt

module _ {W : Type 0} (contents : W → Option (List ℕ)) where
  -- What was written of those who are left is printed, and stays.
  pub left-printed :
      (old mid new : Output W) (waiting : List (ArrayString 16)) (first : ArrayString 16) (others : List (ArrayString 16)) (lines : ℕ) (text : List ℕ) →
      waiting ≡ first ∷ others → text_heard old.form old.is_echoing old.line (Left (first ∷ others) lines) ≡ Some text →
      Appends (contents old.writer) (contents mid.writer) text → Keeps (contents mid.writer) (contents new.writer) → new.line ≡ old.line →
      new.form ≡ old.form → new.is_echoing ≡ old.is_echoing → Prints contents old (Left waiting lines) new
  left-printed old mid new waiting first others lines text names is written kept line form is_echoing = record {
    text = subst (λ (those : List (ArrayString 16)). IfSome (text_heard old.form old.is_echoing old.line (Left those lines)) (Appends (contents old.writer) (contents new.writer)))
        (sym names)
        (subst (λ (it : Option (List ℕ)). IfSome it (Appends (contents old.writer) (contents new.writer))) (sym is)
        (Appends-kept (contents old.writer) (contents mid.writer) (contents new.writer) text written kept));
    line = line;
    form = form;
    is_echoing = is_echoing;
  }
