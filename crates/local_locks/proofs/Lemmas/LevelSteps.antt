use Rattle.std.proofs.Common.{◌≡◌, ◌≢◌, ℕ, ◌+◌, ◌-◌, ◌<◌, ◌≤◌, List, [], ◌∷◌, ◌++◌, length, set, take, suc, zero, refl, sym, ap, subst, ◌∙◌, ◌⊎◌, inl, inr, arith}
use Rattle.std.specs.Prelude.{Option, Some, None}
use Rattle.std.proofs.lemmas.Bool.{cases_eq, cases_lt}
use Rattle.std.proofs.lemmas.List.{get_or_past, length-take, length_push}
use Rattle.modes_core.specs.declared.sessions.Owner.{Owner}
use Rattle.modes_core.specs.declared.sessions.Owner.TheVariants.{Session, Transaction}
use Rattle.local_locks.specs.declared.records.Entry.{Entry}
use Rattle.local_locks.specs.Owned.{raised, lowered, count_for, count_in_all}
use Rattle.local_locks.specs.Slots.{Slots, slot_at}
use Rattle.local_locks.specs.Levels.{Rows, row_at, had_in, own_count_in, told, outer_of, IsLeveled, AreMoved}
use Rattle.local_locks.proofs.Lemmas.Slots.{slot_at-set, slot_at-set_other, slot_at-within, slot_at-past, slot_at-push, slot_at-push_before}
use Rattle.local_locks.proofs.Lemmas.TableSteps.{raised-key, lowered-key}
use Rattle.local_locks.proofs.Lemmas.Ends.{Keeps}
use Rattle.local_locks.proofs.Lemmas.Levels.{had-alike, told-nothing, told-same, outer-same}
use Rattle.local_locks.proofs.Lemmas.LevelRows.{Rises, had-handed, had-inside, rises-handed, rises-less, rises-more, rises-now, rises-same, rises-to}

-- ---- a level begins

pub leveled-begun : (slots : Slots) (rows : Rows) (depth touched touched' : ℕ) → IsLeveled slots rows depth touched → depth ≢ 15 → IsLeveled slots rows (depth + 1) touched'
leveled-begun slots rows depth touched touched' leveled more =
    record {
      few = omega (arith, leveled.few, more);
      within = λ k. omega (arith, leveled.within k);
      untouched = λ k before. omega (arith, leveled.within k);
      empty = leveled.empty;
      rising = leveled.rising;
    }

-- ---- one entry changes

module _ (slots : Slots) (rows rows' : Rows) (depth touched touched' place : ℕ) (e x : Entry)
    (leveled : IsLeveled slots rows depth touched) (at : slot_at slots place ≡ Some e)
    (tag : x.tag ≡ e.tag) (mode : x.mode ≡ e.mode)
    (within : length (row_at rows' place) ≤ depth)
    (reached : length (row_at rows' place) ≤ depth - 1 ⊎ touched' ≤ place)
    (inside : (level : ℕ) → level < depth → had_in (row_at rows' place) level x.transaction ≡ had_in (row_at rows place) level e.transaction)
    (rises : Rises (row_at rows' place) x.transaction)
    (others : (k : ℕ) → k ≢ place → row_at rows' k ≡ row_at rows k) (no_more : touched' ≤ touched) where
  pub leveled-changed : IsLeveled (set slots place (Some x)) rows' depth touched'
  leveled-changed =
      record {
        few = leveled.few;
        within = λ k. elim (cases_eq k place) [
          | inl same ↦ omega (arith, ap (λ n. length (row_at rows' n)) same, within)
          | inr apart ↦ omega (arith, ap (λ (row : List ℕ). length row) (others k apart), leveled.within k)
        ];
        untouched = λ k before. elim (cases_eq k place) [
          | inl same ↦ elim reached [
            | inl short ↦ omega (arith, ap (λ n. length (row_at rows' n)) same, short)
            | inr past ↦ absurd (omega (arith, past))
          ]
          | inr apart ↦ omega (arith, ap (λ (row : List ℕ). length row) (others k apart), leveled.untouched k (omega (arith, no_more)))
        ];
        empty = λ k none. elim (cases_eq k place) [
          | inl same ↦
              absurd (let bad : Some x ≡ None = sym (slot_at-set slots place (Some x) (slot_at-within slots place e at)) ∙ (ap (slot_at (set slots place (Some x))) (sym same) ∙ none) in cc)
          | inr apart ↦ others k apart ∙ leveled.empty k (sym (slot_at-set_other slots place k (Some x) apart) ∙ none)
        ];
        rising = λ k y its. elim (cases_eq k place) [
          | inl same ↦
              let both : Some x ≡ Some y = sym (slot_at-set slots place (Some x) (slot_at-within slots place e at)) ∙ (ap (slot_at (set slots place (Some x))) (sym same) ∙ its) in
              let is : x ≡ y = cc in
              subst (λ (z : Entry). Rises (row_at rows' k) z.transaction) is (subst (λ n. Rises (row_at rows' n) x.transaction) (sym same) rises)
          | inr apart ↦
              subst (λ row. Rises row y.transaction) (sym (others k apart)) (leveled.rising k y (sym (slot_at-set_other slots place k (Some x) apart) ∙ its))
        ];
      }

  pub outer-changed : outer_of depth (set slots place (Some x)) (row_at rows') ≡ outer_of depth slots (row_at rows)
  outer-changed =
      outer-same depth (set slots place (Some x)) slots (row_at rows') (row_at rows) (λ level below.
      had-alike level (set slots place (Some x)) slots (row_at rows') (row_at rows) (λ k. elim (cases_eq k place) [
        | inl same ↦
            ap (λ n. told level (row_at rows' n) (slot_at (set slots place (Some x)) n)) same
            ∙ (ap (told level (row_at rows' place)) (slot_at-set slots place (Some x) (slot_at-within slots place e at))
            ∙ (told-same level (row_at rows' place) (row_at rows place) x e tag mode (inside level below)
            ∙ (ap (told level (row_at rows place)) (sym at) ∙ ap (λ n. told level (row_at rows n) (slot_at slots n)) (sym same))))
        | inr apart ↦ (λ i. told level (others k apart i) (slot_at-set_other slots place k (Some x) apart i))
      ]))

-- ---- one more count

more-now : (owner : Owner) (e : Entry) → e.transaction ≤ (raised owner e).transaction
more-now Session e = omega arith
more-now Transaction e = omega arith

-- kept for the levels before it is counted
pub record Keeps_outer (rows rows' : Rows) (depth touched touched' place now : ℕ) : Type 0 where
  pub filled : length (row_at rows' place) ≡ depth
  pub same : (level : ℕ) → had_in (row_at rows' place) level now ≡ had_in (row_at rows place) level now
  pub others : (k : ℕ) → k ≢ place → row_at rows' k ≡ row_at rows k
  pub touched_ : depth ≢ 0 → touched' ≤ place
  pub no_more : touched' ≤ touched

reached : (depth touched place n : ℕ) → n ≡ depth → (depth ≢ 0 → touched ≤ place) → n ≤ depth - 1 ⊎ touched ≤ place
reached depth touched place n full to = elim (cases_eq depth 0) [
  | inl first ↦ inl (omega arith)
  | inr inner ↦ inr (to inner)
]

pub leveled-raised :
    (slots : Slots) (rows rows' : Rows) (depth touched touched' place : ℕ) (owner : Owner) (e : Entry) → IsLeveled slots rows depth touched → slot_at slots place ≡ Some e →
    Keeps_outer rows rows' depth touched touched' place e.transaction →
    IsLeveled (set slots place (Some (raised owner e))) rows' depth touched' × (outer_of depth (set slots place (Some (raised owner e))) (row_at rows') ≡ outer_of depth slots (row_at rows))
leveled-raised slots rows rows' depth touched touched' place owner e leveled at keeps =
    let key = raised-key owner e in
    let inside : (level : ℕ) → level < depth → had_in (row_at rows' place) level (raised owner e).transaction ≡ had_in (row_at rows place) level e.transaction =
    λ level below. had-inside (row_at rows' place) level (raised owner e).transaction e.transaction (omega (arith, keeps.filled)) ∙ keeps.same level in
    let rises : Rises (row_at rows' place) (raised owner e).transaction =
    rises-more (row_at rows' place) e.transaction (raised owner e).transaction
    (rises-same (row_at rows place) (row_at rows' place) e.transaction keeps.same (leveled.rising place e at)) (more-now owner e) in (
      leveled-changed slots rows rows' depth touched touched' place e (raised owner e) leveled at key.0 key.1 (omega (arith, keeps.filled))
          (reached depth touched' place (length (row_at rows' place)) keeps.filled keeps.touched_) inside rises keeps.others keeps.no_more,
      outer-changed slots rows rows' depth touched touched' place e (raised owner e) leveled at key.0 key.1 (omega (arith, keeps.filled))
          (reached depth touched' place (length (row_at rows' place)) keeps.filled keeps.touched_) inside rises keeps.others keeps.no_more,
    )

-- ---- one count less

-- in the first level the transaction can give back all that it has
pub own_count-first : (depth : ℕ) (row : List ℕ) (owner : Owner) (e : Entry) → depth ≡ 0 → own_count_in depth row owner e ≡ count_for owner e
own_count-first depth row Session e first = refl
own_count-first zero row Transaction e first = refl
own_count-first (suc depth) row Transaction e first = absurd (omega arith)

-- and never more than it has
pub own_count-within : (depth : ℕ) (row : List ℕ) (owner : Owner) (e : Entry) → own_count_in depth row owner e ≤ count_for owner e
own_count-within depth row Session e = omega arith
own_count-within zero row Transaction e = omega arith
own_count-within (suc depth) row Transaction e = omega arith

-- the innermost level has the entry, so that the list is full
pub own-full : (depth : ℕ) (row : List ℕ) (e : Entry) → length row ≤ suc depth → 0 < own_count_in (suc depth) row Transaction e → length row ≡ suc depth
own-full depth row e within some =
    elim (cases_lt depth (length row)) [
      | inl there ↦ omega arith
      | inr past ↦ absurd (omega (arith, some, get_or_past row depth e.transaction past))
    ]

lowered_inside :
    (depth : ℕ) (row : List ℕ) (owner : Owner) (e : Entry) → length row ≤ depth → Rises row e.transaction → 0 < own_count_in depth row owner e →
    ((level : ℕ) → level < depth → had_in row level (lowered owner e).transaction ≡ had_in row level e.transaction) × Rises row (lowered owner e).transaction
lowered_inside depth row Session e within rises some = (λ level below. refl, rises)
lowered_inside zero row Transaction e within rises some =
    (λ level below. absurd (omega arith), λ level. omega (arith, get_or_past row level (e.transaction - 1) (omega arith), get_or_past row (suc level) (e.transaction - 1) (omega arith)))
lowered_inside (suc depth) row Transaction e within rises some =
    let full = own-full depth row e within some in (
      λ level below. had-inside row level (e.transaction - 1) e.transaction (omega (arith, full)),
      rises-less row e.transaction (e.transaction - 1) depth rises full (omega (arith, some)),
    )

pub leveled-lowered :
    (slots : Slots) (rows : Rows) (depth touched place : ℕ) (owner : Owner) (e : Entry) → IsLeveled slots rows depth touched → slot_at slots place ≡ Some e →
    0 < own_count_in depth (row_at rows place) owner e →
    IsLeveled (set slots place (Some (lowered owner e))) rows depth touched × (outer_of depth (set slots place (Some (lowered owner e))) (row_at rows) ≡ outer_of depth slots (row_at rows))
leveled-lowered slots rows depth touched place owner e leveled at some =
    let key = lowered-key owner e in
    let in_ = lowered_inside depth (row_at rows place) owner e (leveled.within place) (leveled.rising place e at) some in
    let to : length (row_at rows place) ≤ depth - 1 ⊎ touched ≤ place = elim (cases_lt place touched) [
      | inl before ↦ inl (leveled.untouched place before)
      | inr past ↦ inr past
    ] in (
      leveled-changed slots rows rows depth touched touched place e (lowered owner e) leveled at key.0 key.1 (leveled.within place) to in_.0 in_.1 (λ k apart. refl) (omega arith),
      outer-changed slots rows rows depth touched touched place e (lowered owner e) leveled at key.0 key.1 (leveled.within place) to in_.0 in_.1 (λ k apart. refl) (omega arith),
    )

-- ---- an entry gone

pub leveled-gone :
    (slots slots' : Slots) (rows rows' : Rows) (depth touched place : ℕ) → IsLeveled slots rows depth touched → slot_at slots' place ≡ None →
    ((k : ℕ) → k ≢ place → slot_at slots' k ≡ slot_at slots k) → row_at rows' place ≡ [] → ((k : ℕ) → k ≢ place → row_at rows' k ≡ row_at rows k) →
    IsLeveled slots' rows' depth touched
leveled-gone slots slots' rows rows' depth touched place leveled gone others forgot other_lists =
    record {
      few = leveled.few;
      within = λ k. elim (cases_eq k place) [
        | inl same ↦ omega (arith, ap (λ n. length (row_at rows' n)) same, ap (λ (row : List ℕ). length row) forgot)
        | inr apart ↦ omega (arith, ap (λ (row : List ℕ). length row) (other_lists k apart), leveled.within k)
      ];
      untouched = λ k before. elim (cases_eq k place) [
        | inl same ↦ omega (arith, ap (λ n. length (row_at rows' n)) same, ap (λ (row : List ℕ). length row) forgot)
        | inr apart ↦ omega (arith, ap (λ (row : List ℕ). length row) (other_lists k apart), leveled.untouched k before)
      ];
      empty = λ k none. elim (cases_eq k place) [
        | inl same ↦ ap (row_at rows') same ∙ forgot
        | inr apart ↦ other_lists k apart ∙ leveled.empty k (sym (others k apart) ∙ none)
      ];
      rising = λ k e at. elim (cases_eq k place) [
        | inl same ↦ absurd (let bad : None ≡ Some e = sym gone ∙ (ap (slot_at slots') (sym same) ∙ at) in cc)
        | inr apart ↦ subst (λ row. Rises row e.transaction) (sym (other_lists k apart)) (leveled.rising k e (sym (others k apart) ∙ at))
      ];
    }

-- of which the levels had nothing
pub outer-gone :
    (slots slots' : Slots) (rows rows' : Rows) (depth place : ℕ) (e : Entry) → slot_at slots place ≡ Some e → slot_at slots' place ≡ None →
    ((k : ℕ) → k ≢ place → slot_at slots' k ≡ slot_at slots k) → ((k : ℕ) → k ≢ place → row_at rows' k ≡ row_at rows k) →
    ((level : ℕ) → level < depth → had_in (row_at rows place) level e.transaction ≡ 0) →
    outer_of depth slots' (row_at rows') ≡ outer_of depth slots (row_at rows)
outer-gone slots slots' rows rows' depth place e at gone others other_lists nothing =
    outer-same depth slots' slots (row_at rows') (row_at rows) (λ level below. had-alike level slots' slots (row_at rows') (row_at rows) (λ k. elim (cases_eq k place) [
      | inl same ↦
          ap (λ n. told level (row_at rows' n) (slot_at slots' n)) same
          ∙ (ap (told level (row_at rows' place)) gone
          ∙ (sym (told-nothing level (row_at rows place) e (nothing level below))
          ∙ (ap (told level (row_at rows place)) (sym at) ∙ ap (λ n. told level (row_at rows n) (slot_at slots n)) (sym same))))
      | inr apart ↦ (λ i. told level (other_lists k apart i) (others k apart i))
    ]))

-- the only count of an owner that can give it back was the innermost level's
pub only-inner :
    (depth : ℕ) (row : List ℕ) (owner : Owner) (e : Entry) → Rises row e.transaction → 0 < own_count_in depth row owner e → count_in_all e ≡ 1 →
    (level : ℕ) → level < depth → had_in row level e.transaction ≡ 0
only-inner depth row Session e rises some one level below = omega (arith, rises-now row e.transaction level rises)
only-inner zero row Transaction e rises some one level below = absurd (omega arith)
only-inner (suc depth) row Transaction e rises some one level below = omega (arith, some, rises-to row e.transaction level depth rises (omega arith))

-- ---- a new last entry

pub leveled-pushed :
    (slots : Slots) (rows rows' : Rows) (depth touched touched' : ℕ) (e : Entry) → IsLeveled slots rows depth touched →
    Keeps_outer rows rows' depth touched touched' (length slots) 0 →
    IsLeveled (slots ++ Some e ∷ []) rows' depth touched' × (outer_of depth (slots ++ Some e ∷ []) (row_at rows') ≡ outer_of depth slots (row_at rows))
leveled-pushed slots rows rows' depth touched touched' e leveled keeps = (
  record {
    few = leveled.few;
    within = λ k. elim (cases_eq k (length slots)) [
      | inl same ↦ omega (arith, ap (λ n. length (row_at rows' n)) same, keeps.filled)
      | inr apart ↦ omega (arith, ap (λ (row : List ℕ). length row) (keeps.others k apart), leveled.within k)
    ];
    untouched = λ k before. elim (cases_eq k (length slots)) [
      | inl same ↦ elim (reached depth touched' (length slots) (length (row_at rows' (length slots))) keeps.filled keeps.touched_) [
        | inl short ↦ omega (arith, ap (λ n. length (row_at rows' n)) same, short)
        | inr past ↦ absurd (omega (arith, past))
      ]
      | inr apart ↦ omega (arith, ap (λ (row : List ℕ). length row) (keeps.others k apart), leveled.untouched k (omega (arith, keeps.no_more)))
    ];
    empty = λ k none. elim (cases_eq k (length slots)) [
      | inl same ↦ absurd (let bad : Some e ≡ None = sym (slot_at-push slots (Some e)) ∙ (ap (slot_at (slots ++ Some e ∷ [])) (sym same) ∙ none) in cc)
      | inr apart ↦ keeps.others k apart ∙ leveled.empty k (was k apart ∙ none)
    ];
    rising = λ k y its. elim (cases_eq k (length slots)) [
      | inl same ↦ λ level. elim (cases_lt level depth) [
        | inl below ↦
            omega (arith, ap (λ n. had_in (row_at rows' n) level y.transaction) same, had-inside (row_at rows' (length slots)) level y.transaction 0 (omega (arith, keeps.filled)), nothing level)
        | inr past ↦
            omega (
              arith,
              ap (λ n. length (row_at rows' n)) same,
              get_or_past (row_at rows' k) level y.transaction (omega (arith, ap (λ n. length (row_at rows' n)) same, keeps.filled)),
              get_or_past (row_at rows' k) (suc level) y.transaction (omega (arith, ap (λ n. length (row_at rows' n)) same, keeps.filled)),
            )
      ]
      | inr apart ↦ subst (λ row. Rises row y.transaction) (sym (keeps.others k apart)) (leveled.rising k y (was k apart ∙ its))
    ];
  },
  outer-same depth (slots ++ Some e ∷ []) slots (row_at rows') (row_at rows) (λ level below.
      had-alike level (slots ++ Some e ∷ []) slots (row_at rows') (row_at rows) (λ k. elim (cases_eq k (length slots)) [
        | inl same ↦
            ap (λ n. told level (row_at rows' n) (slot_at (slots ++ Some e ∷ []) n)) same
            ∙ (ap (told level (row_at rows' (length slots))) (slot_at-push slots (Some e))
            ∙ (told-nothing level (row_at rows' (length slots)) e (had-inside (row_at rows' (length slots)) level e.transaction 0 (omega (arith, keeps.filled)) ∙ nothing level)
            ∙ sym (ap (told level (row_at rows k)) (slot_at-past slots k (omega arith)))))
        | inr apart ↦ (λ i. told level (keeps.others k apart i) (sym (was k apart) i))
      ])),
) where
  nothing : (level : ℕ) → had_in (row_at rows' (length slots)) level 0 ≡ 0
  nothing level =
      keeps.same level ∙ ap (λ row. had_in row level 0) (leveled.empty (length slots) (slot_at-past slots (length slots) (omega arith)))

  was : (k : ℕ) → k ≢ length slots → slot_at slots k ≡ slot_at (slots ++ Some e ∷ []) k
  was k apart =
      elim (cases_lt k (length slots)) [
        | inl before ↦ sym (slot_at-push_before slots (Some e) k before)
        | inr past ↦ slot_at-past slots k past ∙ sym (slot_at-past (slots ++ Some e ∷ []) k (omega (arith, length_push slots (Some e))))
      ]

-- ---- entries that have moved

pub leveled-moved :
    (slots slots' : Slots) (rows rows' : Rows) (depth touched : ℕ) → IsLeveled slots rows depth touched → AreMoved slots rows slots' rows' → IsLeveled slots' rows' depth 0
leveled-moved slots slots' rows rows' depth touched leveled moved =
    record {
      few = leveled.few;
      within = λ k. go k (slot_at slots' k) refl;
      untouched = λ k before. absurd (omega arith);
      empty = moved.empty;
      rising = λ k e at. let from = moved.from k e at in subst (λ row. Rises row e.transaction) (sym from.2) (leveled.rising from.0 e from.1);
    } where
      go : (k : ℕ) (slot : Option Entry) → slot_at slots' k ≡ slot → length (row_at rows' k) ≤ depth
      go k None none = omega (arith, ap (λ (row : List ℕ). length row) (moved.empty k none))
      go k (Some e) at = let from = moved.from k e at in omega (arith, ap (λ (row : List ℕ). length row) from.2, leveled.within from.0)

-- ---- the innermost level is handed up

pub leveled-handed :
    (slots : Slots) (rows rows' : Rows) (depth touched : ℕ) → IsLeveled slots rows (suc depth) touched →
    ((k : ℕ) → touched ≤ k → k < length slots → row_at rows' k ≡ take depth (row_at rows k)) →
    ((k : ℕ) → k < touched → row_at rows' k ≡ row_at rows k) → ((k : ℕ) → length slots ≤ k → row_at rows' k ≡ row_at rows k) →
    IsLeveled slots rows' depth 0 × (outer_of depth slots (row_at rows') ≡ outer_of depth slots (row_at rows))
leveled-handed slots rows rows' depth touched leveled cut before behind = (
  record {
    few = omega (arith, leveled.few);
    within = λ k. omega (arith, ap (λ (row : List ℕ). length row) (taken k), length-take depth (row_at rows k));
    untouched = λ k none. absurd (omega arith);
    empty = λ k none. taken k ∙ (ap (take depth) (leveled.empty k none) ∙ take_none depth);
    rising = λ k e at. subst (λ row. Rises row e.transaction) (sym (taken k)) (rises-handed (row_at rows k) depth e.transaction (leveled.rising k e at));
  },
  outer-same depth slots slots (row_at rows') (row_at rows) (λ level below. had-alike level slots slots (row_at rows') (row_at rows) (λ k. go level below k (slot_at slots k))),
) where
  take_none : (n : ℕ) → take {A = ℕ} n [] ≡ []
  take_none zero = refl
  take_none (suc n) = refl

  take_short : (n : ℕ) (row : List ℕ) → length row ≤ n → take n row ≡ row
  take_short n [] short = take_none n
  take_short zero (x ∷ row) short = absurd (omega arith)
  take_short (suc n) (x ∷ row) short = ap (λ l. x ∷ l) (take_short n row (omega arith))

  -- each list is cut, or was short
  taken : (k : ℕ) → row_at rows' k ≡ take depth (row_at rows k)
  taken k =
      elim (cases_lt k touched) [
        | inl early ↦ before k early ∙ sym (take_short depth (row_at rows k) (omega (arith, leveled.untouched k early)))
        | inr late ↦
            elim (cases_lt k (length slots)) [
              | inl within ↦ cut k late within
              | inr past ↦
                  behind k past ∙ sym (take_short depth (row_at rows k) (omega (arith, ap (λ (row : List ℕ). length row) (leveled.empty k (slot_at-past slots k past)))))
            ]
      ]

  go : (level : ℕ) → level < depth → (k : ℕ) (slot : Option Entry) → told level (row_at rows' k) slot ≡ told level (row_at rows k) slot
  go level below k None = refl
  go level below k (Some e) =
      told-same level (row_at rows' k) (row_at rows k) e e refl refl
      (ap (λ row. had_in row level e.transaction) (taken k) ∙ had-handed (row_at rows k) depth e.transaction level below)
