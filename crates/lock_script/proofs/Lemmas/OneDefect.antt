-- No line has two defects.
use Rattle.std.proofs.Common.{◌≡◌, ◌∙◌, ℕ, List, [], ◌∷◌, Option, Some, None, refl, sym, inl, inr}
use Rattle.lock_script.specs.Defects.{commands, words_behind, IsUnnamed, IsBarred, IsTaken, IsTakenName, IsTakenTag, IsWrong, IsFirstWrong, IsMisfit, IsRefused, IsDefectOf}
use Rattle.lock_script.specs.declared.commands.WordKind.{WordKind}
use Rattle.lock_script.specs.declared.commands.WordKind.TheVariants.{FreeName, OpenName, CallerName, Number, CounterIndex, FreeObjectName, FreeTag, TagWord, ModeName, OwnerWord}
use Rattle.lock_script.specs.Words.{is_name}
use Rattle.lock_script.specs.Objects.{is_object_name, tag_in}
use Rattle.lock_script.specs.declared.objects.NamedObject.{NamedObject}
use Rattle.lock_script.specs.declared.sessions.OpenSessions.{OpenSessions}
use Rattle.lock_script.specs.declared.faults.Defect.{Defect}
use Rattle.lock_script.specs.declared.faults.Defect.TheVariants.{BadName, SessionExists, NameExists, NoSuchSession, SessionWaits, BadObject, ObjectNamed}
use Rattle.lock_script.proofs.Lemmas.Defects.{clash, not_both, called-not_free}

module _ {S W : Type 0} (sessions : OpenSessions S W) (objects : List NamedObject) where
  unnamed-one : (word : List ℕ) (a b : Defect) → IsUnnamed sessions word a → IsUnnamed sessions word b → a ≡ b
  unnamed-one word BadName BadName x y = refl
  unnamed-one word BadName NoSuchSession x y = absurd (clash (is_name word) y.0 x)
  unnamed-one word NoSuchSession BadName x y = absurd (clash (is_name word) x.0 y)
  unnamed-one word NoSuchSession NoSuchSession x y = refl
  unnamed-one word BadName _ x y = absurd y
  unnamed-one word NoSuchSession _ x y = absurd y
  unnamed-one word _ b x y = absurd x

  barred-one : (word : List ℕ) (a b : Defect) → IsBarred sessions word a → IsBarred sessions word b → a ≡ b
  barred-one word SessionWaits SessionWaits x y = refl
  barred-one word SessionWaits BadName x y = absurd (clash (is_name word) x.0 y)
  barred-one word SessionWaits NoSuchSession x y = absurd (called-not_free sessions.waiting word x.2.0 x.2.1 y.1.1)
  barred-one word BadName SessionWaits x y = absurd (clash (is_name word) y.0 x)
  barred-one word NoSuchSession SessionWaits x y = absurd (called-not_free sessions.waiting word y.2.0 y.2.1 x.1.1)
  barred-one word BadName BadName x y = refl
  barred-one word BadName NoSuchSession x y = absurd (clash (is_name word) y.0 x)
  barred-one word NoSuchSession BadName x y = absurd (clash (is_name word) x.0 y)
  barred-one word NoSuchSession NoSuchSession x y = refl
  barred-one word SessionWaits _ x y = absurd y
  barred-one word BadName _ x y = absurd y
  barred-one word NoSuchSession _ x y = absurd y
  barred-one word _ b x y = absurd x

  taken-one : (word : List ℕ) (a b : Defect) → IsTaken sessions word a → IsTaken sessions word b → a ≡ b
  taken-one word BadName BadName x y = refl
  taken-one word BadName SessionExists x y = absurd (clash (is_name word) y.0 x)
  taken-one word SessionExists BadName x y = absurd (clash (is_name word) x.0 y)
  taken-one word SessionExists SessionExists x y = refl
  taken-one word BadName _ x y = absurd y
  taken-one word SessionExists _ x y = absurd y
  taken-one word _ b x y = absurd x

  name-one : (word : List ℕ) (a b : Defect) → IsTakenName objects word a → IsTakenName objects word b → a ≡ b
  name-one word BadName BadName x y = refl
  name-one word BadName NameExists x y = absurd (clash (is_object_name word) y.0 x)
  name-one word NameExists BadName x y = absurd (clash (is_object_name word) x.0 y)
  name-one word NameExists NameExists x y = refl
  name-one word BadName _ x y = absurd y
  name-one word NameExists _ x y = absurd y
  name-one word _ b x y = absurd x

  tag-one : (word : List ℕ) (a b : Defect) → IsTakenTag objects word a → IsTakenTag objects word b → a ≡ b
  tag-one word BadObject BadObject x y = refl
  tag-one word BadObject ObjectNamed x y = absurd (not_both (tag_in objects word) y.0 y.2 x)
  tag-one word ObjectNamed BadObject x y = absurd (not_both (tag_in objects word) x.0 x.2 y)
  tag-one word ObjectNamed ObjectNamed x y = refl
  tag-one word BadObject _ x y = absurd y
  tag-one word ObjectNamed _ x y = absurd y
  tag-one word _ b x y = absurd x

  wrong-one : (kind : WordKind) (word : List ℕ) (a b : Defect) → IsWrong sessions objects kind word a → IsWrong sessions objects kind word b → a ≡ b
  wrong-one FreeName word a b x y = taken-one word a b x y
  wrong-one OpenName word a b x y = unnamed-one word a b x y
  wrong-one CallerName word a b x y = barred-one word a b x y
  wrong-one Number word a b x y = x.0 ∙ sym y.0
  wrong-one CounterIndex word a b x y = x.0 ∙ sym y.0
  wrong-one FreeObjectName word a b x y = name-one word a b x y
  wrong-one FreeTag word a b x y = tag-one word a b x y
  wrong-one TagWord word a b x y = x.0 ∙ sym y.0
  wrong-one ModeName word a b x y = x.0 ∙ sym y.0
  wrong-one OwnerWord word a b x y = x.0 ∙ sym y.0

  first-one : (kinds : List WordKind) (words : List (List ℕ)) (a b : Defect) → IsFirstWrong sessions objects kinds words a → IsFirstWrong sessions objects kinds words b → a ≡ b
  first-one [] words a b x y = absurd x
  first-one (kind ∷ kinds) [] a b x y = absurd x
  first-one (kind ∷ kinds) (word ∷ words) a b (inl x) (inl y) = wrong-one kind word a b x y
  first-one (kind ∷ kinds) (word ∷ words) a b (inl x) (inr y) = absurd (y.0 a x)
  first-one (kind ∷ kinds) (word ∷ words) a b (inr x) (inl y) = absurd (x.0 b y)
  first-one (kind ∷ kinds) (word ∷ words) a b (inr x) (inr y) = first-one kinds words a b x.1 y.1

  misfit-one : (kinds : List WordKind) (words : List (List ℕ)) (a b : Defect) → IsMisfit sessions objects kinds words a → IsMisfit sessions objects kinds words b → a ≡ b
  misfit-one kinds words a b (inl x) (inl y) = x.0 ∙ sym y.0
  misfit-one kinds words a b (inl x) (inr y) = absurd (x.1 y.0)
  misfit-one kinds words a b (inr x) (inl y) = absurd (y.1 x.0)
  misfit-one kinds words a b (inr x) (inr y) = first-one kinds words a b x.1 y.1

  refused-one : (kinds : Option (List WordKind)) (words : List (List ℕ)) (a b : Defect) → IsRefused sessions objects kinds words a → IsRefused sessions objects kinds words b → a ≡ b
  refused-one None words a b x y = x ∙ sym y
  refused-one (Some kinds) words a b x y = misfit-one kinds words a b x y

  pub one_defect : (line : List (List ℕ)) (a b : Defect) → IsDefectOf sessions objects line a → IsDefectOf sessions objects line b → a ≡ b
  one_defect [] a b x y = absurd x
  one_defect (verb ∷ words) a b x y = refused-one (words_behind verb commands) words a b x y
