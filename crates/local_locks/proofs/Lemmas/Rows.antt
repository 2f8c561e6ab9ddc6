use Rattle.std.proofs.Common.{◌≡◌, ◌≢◌, ◌⊎◌, ℕ, ◌+◌, ◌<◌, ◌≤◌, List, [], ◌∷◌, ◌++◌, length, set, take, suc, zero, refl, sym, ap, subst, ◌∙◌, inl, inr, arith}
use Rattle.std.specs.Prelude.{Option, Some, None, IfSome, IsSomeAnd}
use Rattle.std.specs.Option.{option_map}
use Rattle.std.proofs.lemmas.Bool.{cases_eq, cases_lt}
use Rattle.std.proofs.lemmas.List.{get_or_past, get_or-set_same, get_or-set_other, length-set}
use Rattle.local_locks.specs.declared.records.Entry.{Entry}
use Rattle.local_locks.specs.Owned.{count_in_all}
use Rattle.local_locks.specs.Slots.{Slots, opened, entry_at, entry_in, slot_at}
use Rattle.local_locks.specs.Levels.{Rows, row_at, told, had, without_level, AreEmpty, AreMoved, AreSettled}
use Rattle.local_locks.proofs.Lemmas.Slots.{slot_at-set, slot_at-set_other}
use Rattle.local_locks.proofs.Lemmas.OpenSlots.{slot_at-opened, opened-set, entry_in-held, entry_in-empty, length-opened}

-- ---- all lists

pub row_at-set : (rows : Rows) (place : ℕ) (row : List ℕ) → place < length rows → row_at (set rows place row) place ≡ row
row_at-set rows place row within = get_or-set_same rows place row [] within

pub row_at-set_other : (rows : Rows) (place k : ℕ) (row : List ℕ) → k ≢ place → row_at (set rows place row) k ≡ row_at rows k
row_at-set_other rows place k row apart = get_or-set_other rows place k row [] apart

-- ---- an entry that moves down over empty slots

had-first :
    (level : ℕ) (slots : Slots) (f g : ℕ → List ℕ) (place : ℕ) (e : Entry) → slot_at slots place ≡ Some e → ((k : ℕ) → k < place → slot_at slots k ≡ None) →
    ((k : ℕ) → k ≢ place → g k ≡ f k) → had level slots f ≡ told level (f place) (Some e) ++ had level (set slots place None) g
had-first level [] f g place e at none same = absurd (let bad : None ≡ Some e = at in cc)
had-first level (None ∷ slots) f g zero e at none same = absurd (let bad : None ≡ Some e = at in cc)
had-first level (Some x ∷ slots) f g zero e at none same =
    let its : x ≡ e = cc in
    (λ i. told level (f zero) (Some (its i)) ++ had level slots (λ k. sym (same (suc k) (λ q. omega arith)) i))
had-first level (None ∷ slots) f g (suc place) e at none same =
    had-first level slots (λ k. f (suc k)) (λ k. g (suc k)) place e at (λ k below. none (suc k) (omega arith)) (λ k apart. same (suc k) (λ q. apart (omega arith)))
had-first level (Some x ∷ slots) f g (suc place) e at none same = absurd (let bad : Some x ≡ None = none zero (omega arith) in cc)

pub had-move :
    (level : ℕ) (slots : Slots) (f g : ℕ → List ℕ) (to place : ℕ) (e : Entry) → slot_at slots place ≡ Some e → to ≤ place → ((k : ℕ) → to ≤ k → k < place → slot_at slots k ≡ None) →
    g to ≡ f place → ((k : ℕ) → k ≢ to → k ≢ place → g k ≡ f k) → had level (set (set slots place None) to (Some e)) g ≡ had level slots f
had-move level [] f g to place e at down none here others = absurd (let bad : None ≡ Some e = at in cc)
had-move level (x ∷ slots) f g zero zero e at down none here others =
    let its : x ≡ Some e = at in
    λ i. told level (here i) (sym its i) ++ had level slots (λ k. others (suc k) (λ q. omega arith) (λ q. omega arith) i)
had-move level (x ∷ slots) f g zero (suc place) e at down none here others =
    let head : x ≡ None = none zero (omega arith) (omega arith) in
    (λ i. told level (here i) (Some e) ++ had level (set slots place None) (λ k. g (suc k)))
    ∙ (sym (had-first level slots (λ k. f (suc k)) (λ k. g (suc k)) place e at (λ k below. none (suc k) (omega arith) (omega arith))
    (λ k apart. others (suc k) (λ q. omega arith) (λ q. apart (omega arith))))
    ∙ sym (ap (λ y. told level (f zero) y ++ had level slots (λ k. f (suc k))) head))
had-move level (x ∷ slots) f g (suc to) zero e at down none here others = absurd (omega arith)
had-move level (x ∷ slots) f g (suc to) (suc place) e at down none here others =
    λ i. told level (others zero (λ q. omega arith) (λ q. omega arith) i) x
    ++ had-move level slots (λ k. f (suc k)) (λ k. g (suc k)) to place e at (omega arith) (λ k low high. none (suc k) (omega arith) (omega arith)) here
    (λ k apart other. others (suc k) (λ q. apart (omega arith)) (λ q. other (omega arith))) i

-- what moved twice has moved
pub moved-on : (a b c : Slots) (f g h : Rows) → AreMoved a f b g → AreMoved b g c h → AreMoved a f c h
moved-on a b c f g h first then_ =
    record {
      number = then_.number ∙ first.number;
      from = λ k e at.
          let second = then_.from k e at in
          let back = first.from second.0 e second.1 in
          (back.0, back.1, second.2 ∙ back.2);
      empty = then_.empty;
    }

-- one entry moved down
pub moved-down :
    (a b : Slots) (f g : Rows) (to place : ℕ) (e : Entry) → AreEmpty a f → slot_at a place ≡ Some e → to ≤ place → ((k : ℕ) → to ≤ k → k < place → slot_at a k ≡ None) →
    slot_at b to ≡ Some e → ((k : ℕ) → to < k → k ≤ place → slot_at b k ≡ None) → ((k : ℕ) → k < to → slot_at b k ≡ slot_at a k) → ((k : ℕ) → place < k → slot_at b k ≡ slot_at a k) →
    length g ≡ length f → row_at g to ≡ row_at f place → (to ≢ place → row_at g place ≡ []) → ((k : ℕ) → k ≢ to → k ≢ place → row_at g k ≡ row_at f k) →
    AreMoved a f b g
moved-down a b f g to place e empty at down none here gap before behind number row_here row_left row_others =
    record {
      number = number;
      from = λ k x its. elim (cases_eq k to) [
        | inl same ↦
            let both : Some e ≡ Some x = sym here ∙ (ap (slot_at b) (sym same) ∙ its) in
            (place, at ∙ both, ap (row_at g) same ∙ row_here)
        | inr apart ↦ (k, sym (same_slot k apart x its) ∙ its, row_others k apart (λ q. at_place k q apart x its))
      ];
      empty = λ k nothing. elim (cases_eq k to) [
        | inl same ↦ absurd (let bad : Some e ≡ None = sym here ∙ (ap (slot_at b) (sym same) ∙ nothing) in cc)
        | inr apart ↦ elim (cases_eq k place) [
          | inl its ↦ ap (row_at g) its ∙ row_left (λ q. apart (its ∙ sym q))
          | inr other ↦ row_others k apart other ∙ empty k (was_none k apart other nothing)
        ]
      ];
    } where
      at_place : (k : ℕ) → k ≡ place → k ≢ to → (x : Entry) → slot_at b k ≡ Some x → ⊥
      at_place k same apart x its =
          (let bad : None ≡ Some x = sym (gap k (omega (arith, same, down, apart)) (omega (arith, same))) ∙ its in cc)

      same_slot : (k : ℕ) → k ≢ to → (x : Entry) → slot_at b k ≡ Some x → slot_at b k ≡ slot_at a k
      same_slot k apart x its =
          elim (cases_lt k to) [
            | inl below ↦ before k below
            | inr past ↦ elim (cases_lt place k) [
              | inl after ↦ behind k after
              | inr within ↦ absurd (let bad : None ≡ Some x = sym (gap k (omega (arith, apart)) (omega arith)) ∙ its in cc)
            ]
          ]

      was_none : (k : ℕ) → k ≢ to → k ≢ place → slot_at b k ≡ None → slot_at a k ≡ None
      was_none k apart other nothing =
          elim (cases_lt k to) [
            | inl below ↦ sym (before k below) ∙ nothing
            | inr past ↦ elim (cases_lt place k) [
              | inl after ↦ sym (behind k after) ∙ nothing
              | inr within ↦ none k past (omega (arith, other))
            ]
          ]

-- ---- the end of the innermost level goes on

-- What it has come past, with what is left there.
pub record Goes_on (depth : ℕ) (old now : List Entry) (rows rows' : Rows) (place : ℕ) : Type 0 where
  pub settled : AreSettled depth (opened old) rows (opened now) rows' place
  pub stay : (k : ℕ) → k < place → IfSome (slot_at (opened old) k) (λ e. count_in_all (without_level depth (row_at rows k) e) ≢ 0)

unchanged : (depth : ℕ) (row : List ℕ) (o : Option Entry) → length row ≤ depth → o ≡ option_map (without_level depth row) o
unchanged depth row None short = refl
unchanged depth row (Some e) short = λ i. Some (record e { transaction = sym (get_or_past row depth e.transaction short) i })

take_short : (n : ℕ) (row : List ℕ) → length row ≤ n → row ≡ take n row
take_short zero [] short = refl
take_short (suc n) [] short = refl
take_short zero (x ∷ row) short = absurd (omega arith)
take_short (suc n) (x ∷ row) short = ap (λ l. x ∷ l) (take_short n row (omega arith))

-- where it begins it has nothing to do before
pub goes_on-start : (depth : ℕ) (es : List Entry) (rows : Rows) (place : ℕ) → ((k : ℕ) → k < place → length (row_at rows k) ≤ depth) → Goes_on depth es es rows rows place
goes_on-start depth es rows place short =
    record {
      settled = record {
        number = refl;
        lists = refl;
        settled = λ k before. unchanged depth (row_at rows k) (slot_at (opened es) k) (short k before);
        cut = λ k before. take_short depth (row_at rows k) (short k before);
        others = λ k beyond. refl;
        other_lists = λ k beyond. refl;
      };
      stay = λ k before. subst (λ o. IfSome o (λ e. count_in_all (without_level depth (row_at rows k) e) ≢ 0)) (sym (slot_at-opened es k)) (go k before (entry_at es k));
    } where
      go : (k : ℕ) → k < place → (e : Entry) → IfSome (entry_in e) (λ x. count_in_all (without_level depth (row_at rows k) x) ≢ 0)
      go k before e =
          elim (cases_eq (count_in_all e) 0) [
            | inl none ↦ subst (λ o. IfSome o (λ x. count_in_all (without_level depth (row_at rows k) x) ≢ 0)) (sym (entry_in-empty e none)) tt
            | inr some ↦
                subst (λ o. IfSome o (λ x. count_in_all (without_level depth (row_at rows k) x) ≢ 0)) (sym (entry_in-held e some))
                (λ none. some (omega (arith, none, get_or_past (row_at rows k) depth e.transaction (short k before))))
          ]

-- past a slot that is empty, or whose entry has something else
pub goes_on-next :
    (depth : ℕ) (old now : List Entry) (rows rows' : Rows) (place : ℕ) → Goes_on depth old now rows rows' place → place < length now → place < length rows' → AreEmpty (opened old) rows →
    ((count_in_all (entry_at now place) ≡ 0) ⊎ (count_in_all (without_level depth (row_at rows' place) (entry_at now place)) ≢ 0)) →
    Goes_on depth old (set now place (without_level depth (row_at rows' place) (entry_at now place))) rows (set rows' place (take depth (row_at rows' place))) (place + 1)
goes_on-next depth old now rows rows' place on within listed empty which =
    record {
      settled = record {
        number = omega (arith, length-opened (set now place left), length-opened now, length-set now place left, on.settled.number);
        lists = length-set rows' place (take depth (row_at rows' place)) ∙ on.settled.lists;
        settled = λ k before. elim (cases_eq k place) [
          | inl same ↦ ap (slot_at (opened (set now place left))) same ∙ (here ∙ ap (λ n. option_map (without_level depth (row_at rows n)) (slot_at (opened old) n)) (sym same))
          | inr apart ↦ elsewhere k apart ∙ on.settled.settled k (omega (arith, apart))
        ];
        cut = λ k before. elim (cases_eq k place) [
          | inl same ↦
              ap (row_at (set rows' place (take depth (row_at rows' place)))) same
              ∙ (row_at-set rows' place (take depth (row_at rows' place)) listed ∙ (ap (take depth) row ∙ ap (λ n. take depth (row_at rows n)) (sym same)))
          | inr apart ↦ row_at-set_other rows' place k (take depth (row_at rows' place)) apart ∙ on.settled.cut k (omega (arith, apart))
        ];
        others = λ k beyond. elsewhere k (λ q. omega arith) ∙ on.settled.others k (omega arith);
        other_lists = λ k beyond. row_at-set_other rows' place k (take depth (row_at rows' place)) (λ q. omega arith) ∙ on.settled.other_lists k (omega arith);
      };
      stay = λ k before. elim (cases_eq k place) [
        | inl same ↦ subst (λ n. IfSome (slot_at (opened old) n) (λ e. count_in_all (without_level depth (row_at rows n) e) ≢ 0)) (sym same) stays
        | inr apart ↦ on.stay k (omega (arith, apart))
      ];
    } where
      left : Entry
      left = without_level depth (row_at rows' place) (entry_at now place)

      row : row_at rows' place ≡ row_at rows place
      row = on.settled.other_lists place (omega arith)

      was : slot_at (opened old) place ≡ entry_in (entry_at now place)
      was = sym (on.settled.others place (omega arith)) ∙ slot_at-opened now place

      elsewhere : (k : ℕ) → k ≢ place → slot_at (opened (set now place left)) k ≡ slot_at (opened now) k
      elsewhere k apart = ap (λ (s : Slots). slot_at s k) (opened-set now place left) ∙ slot_at-set_other (opened now) place k (entry_in left) apart

      there : slot_at (opened (set now place left)) place ≡ entry_in left
      there = ap (λ (s : Slots). slot_at s place) (opened-set now place left) ∙ slot_at-set (opened now) place (entry_in left) (omega (arith, length-opened now))

      blank : count_in_all (entry_at now place) ≡ 0 → left ≡ entry_at now place
      blank none =
          λ i. record (entry_at now place) {
            transaction = (get_or_past (row_at rows' place) depth (entry_at now place).transaction
                (omega (arith, ap (λ (r : List ℕ). length r) (row ∙ empty place (was ∙ entry_in-empty (entry_at now place) none))))) i;
          }

      here : slot_at (opened (set now place left)) place ≡ option_map (without_level depth (row_at rows place)) (slot_at (opened old) place)
      here =
          elim (cases_eq (count_in_all (entry_at now place)) 0) [
            | inl none ↦
                there ∙ (ap entry_in (blank none) ∙ (entry_in-empty (entry_at now place) none
                ∙ sym (ap (option_map (without_level depth (row_at rows place))) (was ∙ entry_in-empty (entry_at now place) none))))
            | inr some ↦
                elim which [
                  | inl none ↦ absurd (some none)
                  | inr more ↦
                      there ∙ (entry_in-held left more
                      ∙ ((λ i. Some (without_level depth (row i) (entry_at now place)))
                      ∙ sym (ap (option_map (without_level depth (row_at rows place))) (was ∙ entry_in-held (entry_at now place) some))))
                ]
          ]

      stays : IfSome (slot_at (opened old) place) (λ e. count_in_all (without_level depth (row_at rows place) e) ≢ 0)
      stays =
          elim (cases_eq (count_in_all (entry_at now place)) 0) [
            | inl none ↦ subst (λ o. IfSome o (λ e. count_in_all (without_level depth (row_at rows place) e) ≢ 0)) (sym (was ∙ entry_in-empty (entry_at now place) none)) tt
            | inr some ↦
                subst (λ o. IfSome o (λ e. count_in_all (without_level depth (row_at rows place) e) ≢ 0)) (sym (was ∙ entry_in-held (entry_at now place) some))
                (elim which [
                  | inl none ↦ absurd (some none)
                  | inr more ↦ subst (λ r. count_in_all (without_level depth r (entry_at now place)) ≢ 0) row more
                ])
          ]

-- at an entry that has nothing else
pub goes_on-ended :
    (depth : ℕ) (old now : List Entry) (rows rows' : Rows) (place : ℕ) → Goes_on depth old now rows rows' place → count_in_all (entry_at now place) ≢ 0 →
    count_in_all (without_level depth (row_at rows' place) (entry_at now place)) ≡ 0 → IsSomeAnd (slot_at (opened old) place) (λ e. count_in_all (without_level depth (row_at rows place) e) ≡ 0)
goes_on-ended depth old now rows rows' place on some none =
    subst (λ o. IsSomeAnd o (λ e. count_in_all (without_level depth (row_at rows place) e) ≡ 0))
    (sym (sym (on.settled.others place (omega arith)) ∙ (slot_at-opened now place ∙ entry_in-held (entry_at now place) some)))
    (subst (λ r. count_in_all (without_level depth r (entry_at now place)) ≡ 0) (on.settled.other_lists place (omega arith)) none)
