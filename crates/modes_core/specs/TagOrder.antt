use Rattle.std.specs.Prelude.{◌≡◌, ℕ, Bool, false, ◌==◌, ◌&&◌}
use Rattle.std.specs.Ordering.{nat_cmp, on, eq_by_cmp}
use Rattle.std.specs.Cmp.Lexicographic.{slice_cmp}
use Rattle.std.proofs.Common.{arith, ◌∙◌}
use Rattle.std.proofs.lemmas.Bool.Decides.{nat_tests}
use Rattle.modes_core.specs.declared.tags.Tag.{Tag}
use Rattle.modes_core.specs.declared.tags.Tag.TheVariants.{Relation, Object, Advisory}
use Rattle.modes_core.specs.Tag.{numbers_of, tag_eq}

-- Two tags are the same one exactly where the order of their six numbers says that they are equal.
tag_eq-by_numbers : (x y : Tag) → tag_eq x y ≡ eq_by_cmp (on numbers_of (slice_cmp nat_cmp)) x y
tag_eq-by_numbers (Relation d r) (Relation d' r') = grind (arith, nat_tests)
tag_eq-by_numbers (Object s d c o) (Object s' d' c' o') = grind (arith, nat_tests)
tag_eq-by_numbers (Advisory s d k l) (Advisory s' d' k' l') = grind (arith, nat_tests)
tag_eq-by_numbers (Relation d r) (Object s' d' c' o') = grind (arith, nat_tests)
tag_eq-by_numbers (Object s d c o) (Relation d' r') = grind (arith, nat_tests)
tag_eq-by_numbers (Relation d r) (Advisory s' d' k' l') = grind (arith, nat_tests)
tag_eq-by_numbers (Advisory s d k l) (Relation d' r') = grind (arith, nat_tests)
tag_eq-by_numbers (Object s d c o) (Advisory s' d' k' l') = grind (arith, nat_tests)
tag_eq-by_numbers (Advisory s d k l) (Object s' d' c' o') = grind (arith, nat_tests)

-- Any test that compares two tags field by field is equality by the order of their six numbers too.
pub same_tag-by_numbers :
    (same : Tag → Tag → Bool)
    (relations : (d r d' r' : ℕ) → same (Relation d r) (Relation d' r') ≡ ((d == d') && (r == r')))
    (objects : (s d c o s' d' c' o' : ℕ) → same (Object s d c o) (Object s' d' c' o')
    ≡ ((s == s') && ((d == d') && ((c == c') && (o == o')))))
    (advisories : (s d k l s' d' k' l' : ℕ) → same (Advisory s d k l) (Advisory s' d' k' l')
    ≡ ((s == s') && ((d == d') && ((k == k') && (l == l')))))
    (relation_object : (d r s' d' c' o' : ℕ) → same (Relation d r) (Object s' d' c' o') ≡ false)
    (object_relation : (s d c o d' r' : ℕ) → same (Object s d c o) (Relation d' r') ≡ false)
    (relation_advisory : (d r s' d' k' l' : ℕ) → same (Relation d r) (Advisory s' d' k' l') ≡ false)
    (advisory_relation : (s d k l d' r' : ℕ) → same (Advisory s d k l) (Relation d' r') ≡ false)
    (object_advisory : (s d c o s' d' k' l' : ℕ) → same (Object s d c o) (Advisory s' d' k' l') ≡ false)
    (advisory_object : (s d k l s' d' c' o' : ℕ) → same (Advisory s d k l) (Object s' d' c' o') ≡ false) →
    (x y : Tag) → same x y ≡ eq_by_cmp (on numbers_of (slice_cmp nat_cmp)) x y
same_tag-by_numbers same relations objects advisories relation_object object_relation relation_advisory advisory_relation object_advisory advisory_object x y =
    is_tag_eq x y ∙ tag_eq-by_numbers x y where
      is_tag_eq : (x y : Tag) → same x y ≡ tag_eq x y
      is_tag_eq (Relation d r) (Relation d' r') = relations d r d' r'
      is_tag_eq (Object s d c o) (Object s' d' c' o') = objects s d c o s' d' c' o'
      is_tag_eq (Advisory s d k l) (Advisory s' d' k' l') = advisories s d k l s' d' k' l'
      is_tag_eq (Relation d r) (Object s' d' c' o') = relation_object d r s' d' c' o'
      is_tag_eq (Object s d c o) (Relation d' r') = object_relation s d c o d' r'
      is_tag_eq (Relation d r) (Advisory s' d' k' l') = relation_advisory d r s' d' k' l'
      is_tag_eq (Advisory s d k l) (Relation d' r') = advisory_relation s d k l d' r'
      is_tag_eq (Object s d c o) (Advisory s' d' k' l') = object_advisory s d c o s' d' k' l'
      is_tag_eq (Advisory s d k l) (Object s' d' c' o') = advisory_object s d k l s' d' c' o'
