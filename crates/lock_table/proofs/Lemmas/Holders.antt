use Rattle.std.proofs.Common.{◌≡◌, ◌≢◌, ℕ, ◌<◌, ◌≤◌, true, false, not, ◌&&◌, ◌||◌, ◌==◌, nat_lt, nat_le, List, [], ◌∷◌, ◌++◌, Option, Some, None, arith, refl, sym, ap, ◌∙◌, inl, inr}
use Rattle.std.proofs.lemmas.Bool.{cases_Bool, eq-eqb, ne_eqb, false≢true, cases_eq, cases_lt}
use Rattle.std.proofs.Math.Bool.{or-true}
use Rattle.std.proofs.lemmas.Bool.Decides.{nat_tests}
use Rattle.std.proofs.lemmas.List.Folds.{list_any-append}
use Rattle.modes_core.specs.declared.modes.Mode.{Mode}
use Rattle.modes_core.specs.declared.tags.Tag.{Tag}
use Rattle.modes_core.specs.Mode.{number_of}
use Rattle.modes_core.specs.Conflict.{conflict}
use Rattle.modes_core.proofs.Lemmas.Conflicts.{both_true, tag_eq-same, tag_eq-refl}
use Rattle.lock_table.specs.declared.request.Request.{Request}
use Rattle.lock_table.specs.Request.{is_request_of, is_in_the_way_of}
use Rattle.lock_table.specs.PartView.{holds_in}
use Rattle.lock_table.specs.Clash.{NoConflictingHolder, IsConflictingHolder, HolderInTheWay, lower_holder_of}
use Rattle.lock_table.proofs.Lemmas.Same.{SameTriple, SameTriple-from, same_triple-refl}

-- What a list with one more request at its end has, it had or the request is it.
data Found (xs : List Request) (r : Request) (k : ℕ) (o : Tag) (n : Mode) : Type 0 where
  Before : holds_in xs k o n ≡ true → Found xs r k o n
  Last : SameTriple k o n r.session r.tag r.mode → Found xs r k o n

found : (xs : List Request) (r : Request) (k : ℕ) (o : Tag) (n : Mode) → holds_in (xs ++ r ∷ []) k o n ≡ true → Found xs r k o n
found xs r k o n has =
    elim (cases_Bool (holds_in xs k o n)) [
      | inl before ↦ Before before
      | inr not_before ↦
          elim (cases_Bool (is_request_of r k o n)) [
            | inl last ↦ Last (SameTriple-from k o n r.session r.tag r.mode last)
            | inr not_last ↦
                absurd (false≢true (sym (list_any-append (λ hold. is_request_of hold k o n) xs (r ∷ []) ∙ rw (not_before, not_last) refl) ∙ has))
          ]
    ]

-- A list with one more request at its end has what it had, and the request.
had : (xs : List Request) (r : Request) (k : ℕ) (o : Tag) (n : Mode) → holds_in xs k o n ≡ true → holds_in (xs ++ r ∷ []) k o n ≡ true
had xs r k o n has = list_any-append (λ hold. is_request_of hold k o n) xs (r ∷ []) ∙ rw has refl

has_last : (xs : List Request) (r : Request) → holds_in (xs ++ r ∷ []) r.session r.tag r.mode ≡ true
has_last xs r =
    list_any-append (λ hold. is_request_of hold r.session r.tag r.mode) xs (r ∷ []) ∙
    rw (same_triple-refl r.session r.tag r.mode, or-true) refl

-- What it means that a request is in the way.
pub record InTheWay (r : Request) (s : ℕ) (o : Tag) (m : Mode) : Type 0 where
  pub another : r.session ≢ s
  pub tag : o ≡ r.tag
  pub conflicting : conflict m r.mode ≡ true

pub InTheWay-from : (r : Request) (s : ℕ) (o : Tag) (m : Mode) → is_in_the_way_of r s o (conflict m) ≡ true → InTheWay r s o m
InTheWay-from r s o m is =
    let a = both_true _ _ is in
    let b = both_true _ _ a.1 in
    record {
      another = λ e. false≢true (sym (ap not (eq-eqb s r.session (sym e))) ∙ a.0);
      tag = tag_eq-same o r.tag b.0;
      conflicting = b.1;
    }

pub in_the_way-from : (r : Request) (s : ℕ) (o : Tag) (m : Mode) → r.session ≢ s → o ≡ r.tag → conflict m r.mode ≡ true → is_in_the_way_of r s o (conflict m) ≡ true
in_the_way-from r s o m another tag conflicting =
    let different : (s == r.session) ≡ false = ne_eqb s r.session (λ e. another (sym e)) in
    rw (different, tag, tag_eq-refl r.tag, conflicting) refl

-- A request that is not in the way doesn't conflict as a hold.
harmless :
    (r : Request) (s : ℕ) (o : Tag) (m : Mode) → is_in_the_way_of r s o (conflict m) ≡ false →
    (k : ℕ) (n : Mode) → k ≢ s → SameTriple k o n r.session r.tag r.mode → conflict m n ≡ false
harmless r s o m passes k n another same =
    elim (cases_Bool (conflict m n)) [
      | inl conflicting ↦
          absurd (false≢true (sym passes ∙
          in_the_way-from r s o m (λ e. another (same.session ∙ e)) same.tag (ap (conflict m) (sym same.mode) ∙ conflicting)))
      | inr free ↦ free
    ]

-- A request that is not in the way leaves what is.
pub HolderInTheWay-skip :
    (xs : List Request) (r : Request) (s : ℕ) (o : Tag) (m : Mode) (best : Option (ℕ × Mode)) →
    is_in_the_way_of r s o (conflict m) ≡ false → HolderInTheWay (holds_in xs) s o m best → HolderInTheWay (holds_in (xs ++ r ∷ [])) s o m best
HolderInTheWay-skip xs r s o m None passes free =
    λ k n another has. elim (found xs r k o n has) [
      | Before before ↦ free k n another before
      | Last same ↦ harmless r s o m passes k n another same
    ]
HolderInTheWay-skip xs r s o m (Some best) passes is =
    record {
      another = is.another;
      holding = had xs r best.0 o best.1 is.holding;
      conflicting = is.conflicting;
      lowest_session = λ k n lower another has. elim (found xs r k o n has) [
        | Before before ↦ is.lowest_session k n lower another before
        | Last same ↦ harmless r s o m passes k n another same
      ];
      lowest_mode = λ n lower has. elim (found xs r best.0 o n has) [
        | Before before ↦ is.lowest_mode n lower before
        | Last same ↦ harmless r s o m passes best.0 n is.another same
      ];
    }

-- The first request in the way.
first_in_the_way :
    (xs : List Request) (r : Request) (s : ℕ) (o : Tag) (m : Mode) →
    InTheWay r s o m → NoConflictingHolder (holds_in xs) s o m → IsConflictingHolder (holds_in (xs ++ r ∷ [])) s o m r.session r.mode
first_in_the_way xs r s o m in_way free =
    record {
      another = in_way.another;
      holding = rw in_way.tag (has_last xs r);
      conflicting = in_way.conflicting;
      lowest_session = λ k n lower another has. elim (found xs r k o n has) [
        | Before before ↦ free k n another before
        | Last same ↦ let e : k ≡ r.session = same.session in absurd (omega arith)
      ];
      lowest_mode = λ n lower has. elim (found xs r r.session o n has) [
        | Before before ↦ free r.session n in_way.another before
        | Last same ↦ let e : number_of n ≡ number_of r.mode = ap number_of same.mode in absurd (omega arith)
      ];
    }

-- The one found before stays where it is not above the request.
keeps_lower :
    (xs : List Request) (r : Request) (s : ℕ) (o : Tag) (m : Mode) (best : ℕ × Mode) →
    IsConflictingHolder (holds_in xs) s o m best.0 best.1 →
    ((r.session < best.0 → ⊥) × (best.0 ≡ r.session → number_of r.mode < number_of best.1 → ⊥)) →
    IsConflictingHolder (holds_in (xs ++ r ∷ [])) s o m best.0 best.1
keeps_lower xs r s o m best is not_above =
    record {
      another = is.another;
      holding = had xs r best.0 o best.1 is.holding;
      conflicting = is.conflicting;
      lowest_session = λ k n lower another has. elim (found xs r k o n has) [
        | Before before ↦ is.lowest_session k n lower another before
        | Last same ↦ let e : k ≡ r.session = same.session in let above : r.session < best.0 = omega arith in absurd (not_above.0 above)
      ];
      lowest_mode = λ n lower has. elim (found xs r best.0 o n has) [
        | Before before ↦ is.lowest_mode n lower before
        | Last same ↦
            let e : number_of n ≡ number_of r.mode = ap number_of same.mode in
            let above : number_of r.mode < number_of best.1 = omega arith in
            absurd (not_above.1 same.session above)
      ];
    }

-- The request takes its place where it is below.
takes_lower :
    (xs : List Request) (r : Request) (s : ℕ) (o : Tag) (m : Mode) (best : ℕ × Mode) →
    InTheWay r s o m → IsConflictingHolder (holds_in xs) s o m best.0 best.1 →
    ((best.0 < r.session → ⊥) × (best.0 ≡ r.session → number_of best.1 ≤ number_of r.mode → ⊥)) →
    IsConflictingHolder (holds_in (xs ++ r ∷ [])) s o m r.session r.mode
takes_lower xs r s o m best in_way is below =
    record {
      another = in_way.another;
      holding = rw in_way.tag (has_last xs r);
      conflicting = in_way.conflicting;
      lowest_session = λ k n lower another has. elim (found xs r k o n has) [
        | Before before ↦ is.lowest_session k n (below_best k lower) another before
        | Last same ↦ let e : k ≡ r.session = same.session in absurd (omega arith)
      ];
      lowest_mode = λ n lower has. elim (found xs r r.session o n has) [
        | Before before ↦ lower_mode n lower before
        | Last same ↦ let e : number_of n ≡ number_of r.mode = ap number_of same.mode in absurd (omega arith)
      ];
    } where
      below_best : (k : ℕ) → k < r.session → k < best.0
      below_best k lower = elim (cases_lt k best.0) [
        | inl it ↦ it
        | inr above ↦ let under : best.0 < r.session = omega arith in absurd (below.0 under)
      ]

      lower_mode : (n : Mode) → number_of n < number_of r.mode → holds_in xs r.session o n ≡ true → conflict m n ≡ false
      lower_mode n lower has = elim (cases_eq best.0 r.session) [
        | inl same_session ↦ elim (cases_lt (number_of n) (number_of best.1)) [
          | inl under ↦ is.lowest_mode n under (ap (λ k. holds_in xs k o n) same_session ∙ has)
          | inr over ↦ let no_more : number_of best.1 ≤ number_of r.mode = omega arith in absurd (below.1 same_session no_more)
        ]
        | inr apart ↦ elim (cases_lt r.session best.0) [
          | inl under ↦ is.lowest_session r.session n under in_way.another has
          | inr over ↦ let under : best.0 < r.session = omega (arith, apart) in absurd (below.0 under)
        ]
      ]

-- With a request that is in the way, the lower of it and what was found is in the way.
pub HolderInTheWay-take :
    (xs : List Request) (r : Request) (s : ℕ) (o : Tag) (m : Mode) (best : Option (ℕ × Mode)) →
    is_in_the_way_of r s o (conflict m) ≡ true → HolderInTheWay (holds_in xs) s o m best →
    HolderInTheWay (holds_in (xs ++ r ∷ [])) s o m (Some (lower_holder_of best r.session r.mode))
HolderInTheWay-take xs r s o m None is free = first_in_the_way xs r s o m (InTheWay-from r s o m is) free
HolderInTheWay-take xs r s o m (Some best) is holder =
    elim (cases_Bool (nat_lt best.0 r.session || ((best.0 == r.session) && nat_le (number_of best.1) (number_of r.mode)))) [
      | inl kept ↦ rw kept (keeps_lower xs r s o m best holder (kept_facts kept))
      | inr taken ↦ rw taken (takes_lower xs r s o m best (InTheWay-from r s o m is) holder (taken_facts taken))
    ] where
      kept_facts :
          (nat_lt best.0 r.session || ((best.0 == r.session) && nat_le (number_of best.1) (number_of r.mode))) ≡ true →
          (r.session < best.0 → ⊥) × (best.0 ≡ r.session → number_of r.mode < number_of best.1 → ⊥)
      kept_facts kept = (λ above. grind (arith, nat_tests), λ same above. grind (arith, nat_tests))

      taken_facts :
          (nat_lt best.0 r.session || ((best.0 == r.session) && nat_le (number_of best.1) (number_of r.mode))) ≡ false →
          (best.0 < r.session → ⊥) × (best.0 ≡ r.session → number_of best.1 ≤ number_of r.mode → ⊥)
      taken_facts taken = (λ below. grind (arith, nat_tests), λ same below. grind (arith, nat_tests))
