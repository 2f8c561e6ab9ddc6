use Rattle.std.proofs.Common.{◌≡◌, ◌≢◌, ◌⊎◌, ℕ, ◌+◌, ◌<◌, ◌≤◌, Bool, true, false, ◌&&◌, nat_eq, List, refl, sym, ap, ◌∙◌, inl, inr, arith}
use Rattle.std.specs.Prelude.{nat_lt}
use Rattle.std.specs.List.{count_by}
use Rattle.std.proofs.lemmas.Bool.{cases_Bool, cases_eq, both_ways, and_parts, and_from, eqb-true, ltb-true, lt-ltb, cond-true, cond-false, cond_both}
use Rattle.modes_core.specs.declared.modes.Mode.{Mode}
use Rattle.modes_core.specs.declared.tags.Tag.{Tag}
use Rattle.modes_core.specs.Mode.{mode_eq}
use Rattle.modes_core.specs.Tag.{tag_eq, index_of}
use Rattle.modes_core.proofs.Lemmas.Conflicts.{tag_eq-refl, tag_eq-same}
use Rattle.lock_table.proofs.Lemmas.Lists.{any_weaker}
use Rattle.lock_world.specs.Counted.{Counted, is_of, passed, passing, count_at, is_at, is_past, AtMostOnce}
use Rattle.lock_world.proofs.Lemmas.Counters.Lists.{any-map, count-map}
use Rattle.lock_world.proofs.Lemmas.Counters.Counting.{is_of-same}

-- A strong lock that is counted goes past a session.

-- An entry that goes past stands at the session, and then one further; each other one stays.
data Passed (tag : Tag) (mode : Mode) (session : ℕ) (c : Counted) : Type 0 where
  goes : is_of tag mode c ≡ true → c.position ≡ session → passed tag mode session c ≡ record c { position = session + 1 } → Passed tag mode session c
  stays : (is_of tag mode c && nat_eq c.position session) ≡ false → passed tag mode session c ≡ c → Passed tag mode session c

passed-is : (tag : Tag) (mode : Mode) (session : ℕ) (c : Counted) → Passed tag mode session c
passed-is tag mode session c =
    elim (cases_Bool (is_of tag mode c && nat_eq c.position session)) [
      | inl next ↦
          let both = and_parts (is_of tag mode c) (nat_eq c.position session) next in
          goes both.0 (eqb-true c.position session both.1) (cond-true (is_of tag mode c && nat_eq c.position session) (record c { position = session + 1 }) c next)
      | inr not_next ↦ stays not_next (cond-false (is_of tag mode c && nat_eq c.position session) (record c { position = session + 1 }) c not_next)
    ]

-- A count that goes past a session remains of its mode on its object.
passed-tag : (tag : Tag) (mode : Mode) (session : ℕ) (c : Counted) → (passed tag mode session c).tag ≡ c.tag
passed-tag tag mode session c = cond_both (is_of tag mode c && nat_eq c.position session) (record c { position = session + 1 }) c (λ (d : Counted). d.tag ≡ c.tag) (λ _. refl) (λ _. refl)

passed-mode : (tag : Tag) (mode : Mode) (session : ℕ) (c : Counted) → (passed tag mode session c).mode ≡ c.mode
passed-mode tag mode session c = cond_both (is_of tag mode c && nat_eq c.position session) (record c { position = session + 1 }) c (λ (d : Counted). d.mode ≡ c.mode) (λ _. refl) (λ _. refl)

passed-of : (tag : Tag) (mode : Mode) (session : ℕ) (object : Tag) (its : Mode) (c : Counted) → is_of object its (passed tag mode session c) ≡ is_of object its c
passed-of tag mode session object its c = λ i. tag_eq (passed-tag tag mode session c i) object && mode_eq (passed-mode tag mode session c i) its

-- As many are counted at each index.
pub count_at-passing : (list : List Counted) (tag : Tag) (mode : Mode) (session index : ℕ) → count_at index (passing list tag mode session) ≡ count_at index list
count_at-passing list tag mode session index =
    count-map (passed tag mode session) (λ (c : Counted). nat_eq (index_of c.tag) index) list (λ c. ap (λ t. nat_eq (index_of t) index) (passed-tag tag mode session c))

-- What is past a session then was so before, but for the one that it went past, on that object.
pub is_past-passing :
    (list : List Counted) (tag : Tag) (mode : Mode) (session : ℕ) (object : Tag) (other : ℕ) → is_past (passing list tag mode session) object other ≡ true
    → (is_past list object other ≡ true) ⊎ ((object ≡ tag) × (other ≡ session))
is_past-passing list tag mode session object other past =
    elim (cases_Bool (tag_eq object tag)) [
      | inr another ↦ inl (before (λ same else. both_ways (tag_eq object tag) another same))
      | inl same ↦ elim (cases_eq other session) [
        | inl it ↦ inr (tag_eq-same object tag same, it)
        | inr else ↦ inl (before (λ _ it. else it))
      ]
    ] where
      test : Counted → Bool
      test c = tag_eq c.tag object && nat_lt other c.position

      weaker : (tag_eq object tag ≡ true → other ≡ session → ⊥) → (c : Counted) → test (passed tag mode session c) ≡ true → test c ≡ true
      weaker not_it c is = at (passed-is tag mode session c) where
        at : Passed tag mode session c → test c ≡ true
        at (stays not_next same) = ap test (sym same) ∙ is
        at (goes its here moved) =
            let both = and_parts (tag_eq c.tag object) (nat_lt other (session + 1)) (ap test (sym moved) ∙ is) in
            let below : other < session + 1 = ltb-true other (session + 1) both.1 in
            let on : object ≡ tag = sym (tag_eq-same c.tag object both.0) ∙ (is_of-same tag mode c its).0 in
            let else : other ≢ session = not_it (ap (λ t. tag_eq t tag) on ∙ tag_eq-refl tag) in
            let past_it : other < c.position = omega (arith, here, below, else) in
            and_from (tag_eq c.tag object) (nat_lt other c.position) both.0 (lt-ltb other c.position past_it)

      before : (tag_eq object tag ≡ true → other ≡ session → ⊥) → is_past list object other ≡ true
      before not_it = any_weaker (λ c. test (passed tag mode session c)) test list (weaker not_it) (sym (any-map (passed tag mode session) test list) ∙ past)

-- What was elsewhere is where it was.
pub is_at-passing_else :
    (list : List Counted) (tag : Tag) (mode : Mode) (session position : ℕ) (object : Tag) (its : Mode) → position ≢ session → is_at position list object its ≡ true
    → is_at position (passing list tag mode session) object its ≡ true
is_at-passing_else list tag mode session position object its else at =
    any-map (passed tag mode session) test list ∙ any_weaker test (λ c. test (passed tag mode session c)) list kept at where
      test : Counted → Bool
      test c = is_of object its c && nat_eq c.position position

      kept : (c : Counted) → test c ≡ true → test (passed tag mode session c) ≡ true
      kept c is = from (passed-is tag mode session c) where
        from : Passed tag mode session c → test (passed tag mode session c) ≡ true
        from (stays not_next same) = ap test same ∙ is
        from (goes of here moved) = absurd (else (sym (eqb-true c.position position (and_parts (is_of object its c) (nat_eq c.position position) is).1) ∙ here))

-- What is at a position is past each session below it.
pub is_at-past : (list : List Counted) (tag : Tag) (mode : Mode) (position session : ℕ) → session < position → is_at position list tag mode ≡ true → is_past list tag session ≡ true
is_at-past list tag mode position session below at =
    any_weaker (λ (c : Counted). is_of tag mode c && nat_eq c.position position) (λ (c : Counted). tag_eq c.tag tag && nat_lt session c.position) list past at where
      past : (c : Counted) → (is_of tag mode c && nat_eq c.position position) ≡ true → (tag_eq c.tag tag && nat_lt session c.position) ≡ true
      past c is =
          let both = and_parts (is_of tag mode c) (nat_eq c.position position) is in
          let here : c.position ≡ position = eqb-true c.position position both.1 in
          and_from (tag_eq c.tag tag) (nat_lt session c.position) (and_parts (tag_eq c.tag tag) (mode_eq c.mode mode) both.0).0 (lt-ltb session c.position (omega (arith, here)))

-- Each is still counted once at most.
pub AtMostOnce-passing : (list : List Counted) (tag : Tag) (mode : Mode) (session : ℕ) → AtMostOnce list → AtMostOnce (passing list tag mode session)
AtMostOnce-passing list tag mode session once object its =
    let same : count_by (is_of object its) (passing list tag mode session) ≡ count_by (is_of object its) list =
    count-map (passed tag mode session) (is_of object its) list (passed-of tag mode session object its) in
    let old : count_by (is_of object its) list ≤ 1 = once object its in
    omega (arith, same, old)
