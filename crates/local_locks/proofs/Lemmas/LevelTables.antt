use Rattle.std.proofs.Common.{◌≡◌, ◌≢◌, ℕ, ◌+◌, ◌-◌, ◌<◌, ◌≤◌, List, [], length, set, take, min, refl, sym, ap, subst, ◌∙◌, inl, inr, arith}
use Rattle.std.specs.Prelude.{Option, Some, None}
use Rattle.std.specs.Option.{option_map}
use Rattle.std.proofs.lemmas.Bool.{cases_eq, cases_lt}
use Rattle.modes_core.specs.declared.modes.Mode.{Mode}
use Rattle.modes_core.specs.declared.tags.Tag.{Tag}
use Rattle.modes_core.specs.declared.sessions.Owner.{Owner}
use Rattle.local_locks.specs.declared.records.Entry.{Entry}
use Rattle.local_locks.specs.Owned.{raised, count_for, max_count, after_end}
use Rattle.local_locks.specs.Slots.{Slots, opened, entry_at, slot_at, back_to, IsIndexed, IsPast, IsPlaceOf, IsTakenOut, IsTable}
use Rattle.place_index.specs.Notes.{Notes, HasSameNotes, no_place}
use Rattle.local_locks.specs.declared.ends.End.{End}
use Rattle.local_locks.specs.declared.ends.Progress.{Progress}
use Rattle.local_locks.specs.Levels.{Rows, row_at, outer_of, IsLeveled, IsLeveledTable, AreMoved}
use Rattle.local_locks.proofs.Lemmas.Slots.{at_some}
use Rattle.local_locks.proofs.Lemmas.TableSteps.{kept-taken, IsTable-raised}
use Rattle.local_locks.proofs.Lemmas.EndSteps.{table-index}
use Rattle.local_locks.proofs.Lemmas.Ends.{Keeps}
use Rattle.local_locks.proofs.Lemmas.LevelRows.{Rises}
use Rattle.local_locks.proofs.Lemmas.LevelSteps.{Keeps_outer, leveled-gone, leveled-raised}

-- ---- the whole table

-- with other slots and lists, of which there are no more and as many
pub table-with :
    {es es' : List Entry} {cap cap' : ℕ} {index index' : Notes} {len len' max_local : ℕ} {progress progress' : Progress} {rows rows' : Rows} {depth depth' touched touched' : ℕ} →
    IsLeveledTable es cap index len max_local progress rows depth touched → IsTable es' index' len' max_local progress' → IsLeveled (opened es') rows' depth' touched' →
    length es' ≤ length es → length rows' ≡ length rows → cap' ≡ cap → index'.places ≡ index.places →
    IsLeveledTable es' cap' index' len' max_local progress' rows' depth' touched'
table-with {es} {es'} {cap} {cap'} {index} {index'} {rows = rows} {rows' = rows'} was table leveled shorter number capacity places =
    record {
      table = table;
      leveled = leveled;
      lists = omega (arith, was.lists);
      enough =
          subst (λ n. min (min n no_place) index'.places ≤ length rows') (sym capacity)
          (subst (λ n. min (min cap no_place) n ≤ length rows') (sym places) (subst (λ n. min (min cap no_place) index.places ≤ n) (sym number) was.enough));
    }

-- one more count of an entry
pub raised-table :
    {es es' : List Entry} {cap cap' : ℕ} {index : Notes} {len max_local : ℕ} {progress : Progress} {rows rows' : Rows} {depth touched touched' : ℕ} {tag : Tag} {mode : Mode} (place now : ℕ) (owner : Owner) →
    IsLeveledTable es cap index len max_local progress rows depth touched → IsPlaceOf es tag mode place → count_for owner (entry_at es place) ≢ max_count →
    opened es' ≡ set (opened es) place (Some (raised owner (entry_at es place))) → length es' ≡ length es → cap' ≡ cap → length rows' ≡ length rows →
    now ≡ (entry_at es place).transaction → Keeps_outer rows rows' depth touched touched' place now →
    IsLeveledTable es' cap' index len max_local (back_to place progress) rows' depth touched' × (outer_of depth (opened es') (row_at rows') ≡ outer_of depth (opened es) (row_at rows))
raised-table {es} {es'} {cap} {cap'} {index} {len} {max_local} {progress} {rows} {rows'} {depth} {touched} {touched'} {tag} {mode} place now owner was at limit raised_es number capacity lists same keeps =
    let both = leveled-raised (opened es) rows rows' depth touched touched' place owner (entry_at es place) was.leveled at.there (subst (λ n. Keeps_outer rows rows' depth touched touched' place n) same keeps) in (
      table-with was (IsTable-raised es es' index len max_local progress tag mode place owner was.table at limit raised_es number)
          (subst (λ (s : Slots). IsLeveled s rows' depth touched') (sym raised_es) both.0) (omega (arith, number)) lists capacity refl,
      ap (λ (s : Slots). outer_of depth s (row_at rows')) raised_es ∙ both.1,
    )

-- an entry gone, with its list
pub taken-table :
    {es es' : List Entry} {cap cap' : ℕ} {index index' : Notes} {len max_local : ℕ} {progress : Progress} {rows rows' : Rows} {depth touched : ℕ} (place : ℕ) →
    IsLeveledTable es cap index len max_local progress rows depth touched → IsTakenOut es es' place → IsIndexed (opened es') index' → cap' ≡ cap → index'.places ≡ index.places →
    length rows' ≡ length rows → row_at rows' place ≡ [] → ((k : ℕ) → k ≢ place → row_at rows' k ≡ row_at rows k) →
    IsLeveledTable es' cap' index' (len - 1) max_local progress rows' depth touched
taken-table {es} {es'} {cap} {cap'} {index} {index'} {len} {max_local} {progress} {rows} {rows'} {depth} {touched} place was taken indexed capacity places lists forgot others =
    table-with was
    (record {
      kept = kept-taken (opened es) (opened es') index index' len max_local progress place was.table.kept indexed taken.gone taken.others taken.number;
      few = omega (arith, taken.shorter, was.table.few);
    })
    (leveled-gone (opened es) (opened es') rows rows' depth touched place was.leveled taken.gone taken.others forgot others) taken.shorter lists capacity places

-- one list that was forgotten
pub forgot-one :
    (rows rows' : Rows) (place : ℕ) → ((k : ℕ) → place ≤ k → k < place + 1 → row_at rows' k ≡ []) → ((k : ℕ) → k < place → row_at rows' k ≡ row_at rows k) →
    ((k : ℕ) → place + 1 ≤ k → row_at rows' k ≡ row_at rows k) → (row_at rows' place ≡ []) × ((k : ℕ) → k ≢ place → row_at rows' k ≡ row_at rows k)
forgot-one rows rows' place empty before behind = (
  empty place (omega arith) (omega arith),
  λ k apart. elim (cases_lt k place) [
    | inl below ↦ before k below
    | inr past ↦ behind k (omega (arith, apart))
  ],
)

-- with more lists, which are empty
pub grown-table :
    {es es' : List Entry} {cap cap' : ℕ} {index index' : Notes} {len max_local : ℕ} {progress : Progress} {rows rows' : Rows} {depth touched : ℕ} →
    IsLeveledTable es cap index len max_local progress rows depth touched → es' ≡ es → HasSameNotes index index' → ((k : ℕ) → row_at rows' k ≡ row_at rows k) → length rows ≤ length rows' →
    min (min cap' no_place) index'.places ≤ length rows' → IsLeveledTable es' cap' index' len max_local progress rows' depth touched
grown-table {es} {es'} {cap} {cap'} {index} {index'} {len} {max_local} {progress} {rows} {rows'} {depth} {touched} was same notes rows_same longer enough =
    record {
      table = table-index es es' index index' len max_local progress was.table same notes;
      leveled = record {
        few = was.leveled.few;
        within = λ k. omega (arith, ap (λ (row : List ℕ). length row) (rows_same k), was.leveled.within k);
        untouched = λ k before. omega (arith, ap (λ (row : List ℕ). length row) (rows_same k), was.leveled.untouched k before);
        empty = λ k none. rows_same k ∙ was.leveled.empty k (ap (λ (l : List Entry). slot_at (opened l) k) (sym same) ∙ none);
        rising = λ k e at. subst (λ row. Rises row e.transaction) (sym (rows_same k)) (was.leveled.rising k e (ap (λ (l : List Entry). slot_at (opened l) k) (sym same) ∙ at));
      };
      lists = omega (arith, ap (λ (l : List Entry). length l) same, was.lists, longer);
      enough = enough;
    }

-- ---- the end of the transaction

pub leveled-ended :
    (end : End) (old new : Slots) (rows rows' : Rows) (depth touched from place : ℕ) → IsLeveled old rows depth touched → IsPast end old from → from ≤ place →
    ((k : ℕ) → k < place → slot_at new k ≡ option_map (after_end end) (slot_at old k)) → slot_at new place ≡ None → ((k : ℕ) → place < k → slot_at new k ≡ slot_at old k) →
    ((k : ℕ) → from ≤ k → k < place + 1 → row_at rows' k ≡ []) → ((k : ℕ) → k < from → row_at rows' k ≡ row_at rows k) → ((k : ℕ) → place + 1 ≤ k → row_at rows' k ≡ row_at rows k) →
    IsLeveled new rows' depth touched
leveled-ended end old new rows rows' depth touched from place leveled past on settled gone others forgot before behind =
    record {
      few = leveled.few;
      within = λ k. shorter k depth (leveled.within k);
      untouched = λ k early. shorter k (depth - 1) (leveled.untouched k early);
      empty = λ k none. elim (cases_lt k from) [
        | inl early ↦ before k early ∙ leveled.empty k (was_none (slot_at old k) (sym (settled k (omega arith)) ∙ none))
        | inr late ↦ elim (cases_lt place k) [
          | inl after ↦ behind k (omega arith) ∙ leveled.empty k (sym (others k after) ∙ none)
          | inr within ↦ forgot k late (omega arith)
        ]
      ];
      rising = λ k y at. elim (cases_lt k from) [
        | inl early ↦ subst (λ row. Rises row y.transaction) (sym (before k early)) (rises-early k y early (sym (settled k (omega arith)) ∙ at) (slot_at old k) refl)
        | inr late ↦ elim (cases_lt place k) [
          | inl after ↦ subst (λ row. Rises row y.transaction) (sym (behind k (omega arith))) (leveled.rising k y (sym (others k after) ∙ at))
          | inr within ↦ subst (λ row. Rises row y.transaction) (sym (forgot k late (omega arith))) (λ level. omega arith)
        ]
      ];
    } where
      shorter : (k n : ℕ) → length (row_at rows k) ≤ n → length (row_at rows' k) ≤ n
      shorter k n short =
          elim (cases_lt k from) [
            | inl early ↦ omega (arith, ap (λ (row : List ℕ). length row) (before k early), short)
            | inr late ↦ elim (cases_lt place k) [
              | inl after ↦ omega (arith, ap (λ (row : List ℕ). length row) (behind k (omega arith)), short)
              | inr within ↦ omega (arith, ap (λ (row : List ℕ). length row) (forgot k late (omega arith)))
            ]
          ]

      was_none : (o : Option Entry) → option_map (after_end end) o ≡ None → o ≡ None
      was_none None none = refl
      was_none (Some x) none = absurd (let bad : Some (after_end end x) ≡ None = none in cc)

      -- an entry that the end was past is as it was
      rises-early : (k : ℕ) (y : Entry) → k < from → option_map (after_end end) (slot_at old k) ≡ Some y → (o : Option Entry) → slot_at old k ≡ o → Rises (row_at rows k) y.transaction
      rises-early k y early left None was =
          absurd (let bad : None ≡ Some y = ap (option_map (after_end end)) (sym was) ∙ left in cc)
      rises-early k y early left (Some x) was =
          let keeps = at_some (Keeps end) (slot_at old k) x was (past k early) in
          let both : Some (after_end end x) ≡ Some y = ap (option_map (after_end end)) (sym was) ∙ left in
          let same : after_end end x ≡ y = cc in
          subst (λ (z : Entry). Rises (row_at rows k) z.transaction) (sym keeps.1 ∙ same) (leveled.rising k x was)

-- nothing is left of the levels where all lists have been forgotten
pub moved-first :
    (slots slots' : Slots) (rows rows' : Rows) → AreMoved slots rows slots' rows' → ((k : ℕ) (e : Entry) → slot_at slots k ≡ Some e → row_at rows k ≡ []) → (k : ℕ) → row_at rows' k ≡ []
moved-first slots slots' rows rows' moved forgot k = go (slot_at slots' k) refl where
  go : (o : Option Entry) → slot_at slots' k ≡ o → row_at rows' k ≡ []
  go None none = moved.empty k none
  go (Some e) at = let from = moved.from k e at in from.2 ∙ forgot from.0 e from.1

-- past one more slot with an empty list
pub leveled-past : (slots : Slots) (rows : Rows) (depth place : ℕ) → IsLeveled slots rows depth place → row_at rows place ≡ [] → IsLeveled slots rows depth (place + 1)
leveled-past slots rows depth place leveled forgot =
    record {
      few = leveled.few;
      within = leveled.within;
      untouched = λ k before. elim (cases_eq k place) [
        | inl same ↦ omega (arith, ap (λ n. length (row_at rows n)) same, ap (λ (row : List ℕ). length row) forgot)
        | inr apart ↦ leveled.untouched k (omega (arith, apart))
      ];
      empty = leveled.empty;
      rising = leveled.rising;
    }
