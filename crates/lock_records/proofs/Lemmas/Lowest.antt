use Rattle.std.proofs.Common.{◌≡◌, ◌≢◌, ◌⊎◌, ℕ, ◌<◌, true, false, ◌&&◌, ◌==◌, List, ◌∷◌, length, Option, Some, None, arith, refl, sym, ap, ◌∙◌, subst, inl, inr}
use Rattle.std.proofs.lemmas.Bool.{cases_lt, cases_Bool, false_from_ne_true, both_ways, lt-ltb, le-ltb, eqb-true, eqb-false, and_from}
use Rattle.modes_core.specs.declared.modes.Mode.{Mode}
use Rattle.modes_core.specs.declared.tags.Tag.{Tag}
use Rattle.modes_core.specs.ModeSet.{set_has, all_modes}
use Rattle.lock_records.specs.declared.holders.HolderRecord.{HolderRecord}
use Rattle.lock_records.specs.Holders.{holder_at, holds_in, IsHolderAt, AreHolders, IsIn}
use Rattle.lock_records.specs.Lowest.{meet, lower_of, considered_of, IsLowestHolder}
use Rattle.lock_records.proofs.Lemmas.Held.{held-from, same-holder, holds-at}
use Rattle.lock_records.proofs.Lemmas.Chains.{in-parts, in-nothing}
use Rattle.lock_records.proofs.Lemmas.ModeSets.{any-mode}
use Rattle.lock_table.proofs.Lemmas.Lists.{any_found}
use Rattle.std.proofs.lemmas.Bool.{and_parts}

-- Each record of the object, of a session below the bound and not this one, is still to come or shows no mode
-- of the set.
abbrev pub NoneMetBelow : List (Option HolderRecord) → ℕ → Tag → ℕ → List ℕ → (ℕ → Type 0) → Type 0
NoneMetBelow slots s t set left below =
    (k other : ℕ) → (i : IsHolderAt slots other t k) → other ≢ s → below other → IsIn k left ⊎ (meet i.holder.modes set ≡ false)

-- What a walk along the holders found so far, with these places still to come.
abbrev pub LowestBut : List (Option HolderRecord) → ℕ → Tag → ℕ → List ℕ → Option (ℕ × ℕ) → Type 0
LowestBut slots s t set left None = NoneMetBelow slots s t set left (λ other. Unit {0})
LowestBut slots s t set left (Some lowest) =
    (lowest.0 ≢ s) × ((k : ℕ) × (i : IsHolderAt slots lowest.0 t k) × (i.holder.modes ≡ lowest.1)) × (meet lowest.1 set ≡ true)
    × NoneMetBelow slots s t set left (λ other. other < lowest.0)

module _ (slots : List (Option HolderRecord)) (s : ℕ) (t : Tag) (set at : ℕ) (left rest : List ℕ) (parts : left ≡ at ∷ rest) (h : HolderRecord) (there : holder_at slots at ≡ Some h) (on : h.tag ≡ t) where
  its : IsHolderAt slots h.session t at
  its = record { holder = h; there = there; its = refl; on = on }

  -- A record that is of no matter is passed.
  pass : (below : ℕ → Type 0) → NoneMetBelow slots s t set left below → (h.session ≢ s → below h.session → meet h.modes set ≡ false) → NoneMetBelow slots s t set rest below
  pass below none harmless k other i another low =
      elim (none k other i another low) [
        | inr free ↦ inr free
        | inl is_in ↦ elim (in-parts at left rest k parts is_in) [
          | inr later ↦ inl later
          | inl here ↦
              let same : i.holder ≡ h = same-holder slots at _ _ (ap (holder_at slots) (sym here) ∙ i.there) there in
              let session : other ≡ h.session = sym i.its ∙ ap (λ (x : HolderRecord). x.session) same in
              inr (ap (λ (x : HolderRecord). meet x.modes set) same ∙ harmless (λ e. another (session ∙ e)) (subst below session low))
        ]
      ]

  -- A record that is in the way, and below what was found.
  takes : meet h.modes set ≡ true → h.session ≢ s → (below : ℕ → Type 0) → ((other : ℕ) → other < h.session → below other) → NoneMetBelow slots s t set left below
      → LowestBut slots s t set rest (Some (h.session, h.modes))
  takes met another below lower none = (
    another,
    (at, record { holder = h; there = there; its = refl; on = on }, refl),
    met,
    λ k other i not_its low.
        elim (none k other i not_its (lower other low)) [
          | inr free ↦ inr free
          | inl is_in ↦ elim (in-parts at left rest k parts is_in) [
            | inr later ↦ inl later
            | inl here ↦
                let same : i.holder ≡ h = same-holder slots at _ _ (ap (holder_at slots) (sym here) ∙ i.there) there in
                let session : other ≡ h.session = sym i.its ∙ ap (λ (x : HolderRecord). x.session) same in
                absurd (omega arith)
          ]
        ],
  )

  stays : (lowest : Option (ℕ × ℕ)) → (h.session ≢ s → meet h.modes set ≡ false) → LowestBut slots s t set left lowest → LowestBut slots s t set rest lowest
  stays None harmless none = pass (λ other. Unit {0}) none (λ another low. harmless another)
  stays (Some lowest) harmless found = (found.0, found.1, found.2, pass (λ other. other < lowest.0) found.3 (λ another low. harmless another))

  lower : (lowest : Option (ℕ × ℕ)) → meet h.modes set ≡ true → h.session ≢ s → LowestBut slots s t set left lowest → LowestBut slots s t set rest (lower_of lowest h.session h.modes)
  lower None met another none = takes met another (λ other. Unit {0}) (λ other low. tt) none
  lower (Some lowest) met another found =
      elim (cases_lt lowest.0 h.session) [
        | inl below ↦
            rw (lt-ltb lowest.0 h.session below) (found.0, found.1, found.2, pass (λ other. other < lowest.0) found.3 (λ not_its low. absurd (omega arith)))
        | inr above ↦
            rw (le-ltb lowest.0 h.session above) (takes met another (λ other. other < lowest.0) (λ other low. omega arith) found.3)
      ]

  pub LowestBut-more : (lowest : Option (ℕ × ℕ)) → LowestBut slots s t set left lowest → LowestBut slots s t set rest (considered_of lowest h s set)
  LowestBut-more lowest found =
      elim (cases_Bool (h.session == s)) [
        | inl own ↦ rw own (stays lowest (λ another. absurd (another (eqb-true _ _ own))) found)
        | inr other ↦ elim (cases_Bool (meet h.modes set)) [
          | inl met ↦ rw (other, met) (lower lowest met (eqb-false _ _ other) found)
          | inr free ↦ rw (other, free) (stays lowest (λ another. free) found)
        ]
      ]

-- A set that meets no mode of another has none of its modes.
pub unmet : (modes set : ℕ) (m : Mode) → meet modes set ≡ false → set_has modes m ≡ true → set_has set m ≡ false
unmet modes set m none has =
    false_from_ne_true _ (λ in_set. both_ways _ none (any-mode (λ n. set_has modes n && set_has set n) m (and_from _ _ has in_set)))

pub met-mode : (modes set : ℕ) → meet modes set ≡ true → (m : Mode) × (set_has modes m ≡ true) × (set_has set m ≡ true)
met-mode modes set met =
    let found = any_found (λ n. set_has modes n && set_has set n) all_modes met in
    let both = and_parts _ _ found.4 in
    (found.1, both.0, both.1)

-- At the end of the walk the lowest is found.
pub LowestBut-end :
    (slots : List (Option HolderRecord)) (s : ℕ) (t : Tag) (set : ℕ) (left : List ℕ) (lowest : Option (ℕ × ℕ)) → AreHolders slots t → length left ≡ 0 → LowestBut slots s t set left lowest →
    IsLowestHolder (holds_in slots) s t (set_has set) lowest
LowestBut-end slots s t set left lowest are done found = at lowest found where
  free : (below : ℕ → Type 0) → NoneMetBelow slots s t set left below → (other : ℕ) (m : Mode) → other ≢ s → below other → holds_in slots other t m ≡ true → set_has set m ≡ false
  free below none other m another low has =
      let shows = held-from slots other t m has in
      elim (none shows.place other shows.at another low) [
        | inl is_in ↦ absurd (in-nothing shows.place left done is_in)
        | inr not_met ↦ unmet shows.at.holder.modes set m not_met shows.has
      ]

  at : (found : Option (ℕ × ℕ)) → LowestBut slots s t set left found → IsLowestHolder (holds_in slots) s t (set_has set) found
  at None none = λ other m another has. free (λ x. Unit {0}) none other m another tt has
  at (Some lowest) found = (
    found.0,
    λ m. holds-at slots lowest.0 t found.1.0 are found.1.1 m ∙ ap (λ n. set_has n m) found.1.2,
    met-mode lowest.1 set found.2,
    λ other m low another has. free (λ x. x < lowest.0) found.3 other m another low has,
  )

pub LowestBut-start : (slots : List (Option HolderRecord)) (s : ℕ) (t : Tag) (set : ℕ) (left : List ℕ) → ((k : ℕ) (h : HolderRecord) → holder_at slots k ≡ Some h → h.tag ≡ t → IsIn k left) → LowestBut slots s t set left None
LowestBut-start slots s t set left all = λ k other i another low. inl (all k i.holder i.there i.on)
