use Rattle.std.proofs.Common.{◌≡◌, ◌≢◌, ℕ, ◌+◌, ◌<◌, ◌≤◌, true, false, [], ◌∷◌, length, get_or, set, suc, zero, refl, sym, ap, subst, ◌∙◌, ◌⊎◌, inl, inr, arith}
use Rattle.std.specs.Prelude.{Option, Some, None, IfSome, IsSomeAnd, is_some, find, List}
use Rattle.std.specs.Option.{option_map}
use Rattle.std.specs.List.{AllByRecursion}
use Rattle.std.proofs.lemmas.Bool.{false≢true, cases_eq, cases_lt, eqb-false}
use Rattle.std.proofs.lemmas.List.{length-set}
use Rattle.modes_core.specs.declared.modes.Mode.{Mode}
use Rattle.modes_core.specs.declared.tags.Tag.{Tag}
use Rattle.modes_core.specs.Tag.{method_of}
use Rattle.place_index.specs.Notes.{Notes, HasSameNotes, times}
use Rattle.local_locks.specs.declared.records.Entry.{Entry}
use Rattle.local_locks.specs.declared.ends.End.{End}
use Rattle.local_locks.specs.declared.ends.End.TheVariants.{Commit, Abort, Close, Inner}
use Rattle.local_locks.specs.declared.ends.Progress.{Progress}
use Rattle.local_locks.specs.Owned.{IsCounted, kept_by_abort, is_ended, after_end, with_next_ended}
use Rattle.local_locks.specs.Slots.{Slots, opened, entry_at, slot_at, present, key_at, IsIndexed, IsPast, IsKept, IsTable, reached, came_to, at_start}
use Rattle.local_locks.proofs.Lemmas.Slots.{and_some, slot_at-set, slot_at-set_other, slot_at-within}
use Rattle.local_locks.proofs.Lemmas.Ends.{kept_by_abort-fewer, Stopped, Passed, present-same, present-stopped, find-stopped}
use Rattle.local_locks.proofs.Lemmas.Indexes.{indexed-nil, indexed-alike}
use Rattle.local_locks.proofs.Lemmas.OpenSlots.{length-opened, opened_some}
use Rattle.std.proofs.lemmas.List.{get_or_default}
use Rattle.local_locks.proofs.Lemmas.Kept.{all_present, from_present, past-settled, past-none, past-next, past-all}

-- the object and mode of an entry
abbrev key_of : Entry → Tag × Mode
key_of x = (x.tag, x.mode)

-- ---- an end has walked over the slots before a place

pub record Walked (end : End) (old new : Slots) (place : ℕ) : Type 0 where
  pub number : length new ≡ length old
  pub within : place ≤ length old
  pub kept : (k : ℕ) → k < place → IfSome (slot_at old k) (λ x. is_ended end x ≡ false)
  pub settled : (k : ℕ) → k < place → slot_at new k ≡ option_map (after_end end) (slot_at old k)
  pub others : (k : ℕ) → place ≤ k → slot_at new k ≡ slot_at old k
  pub ended : place < length old → IsSomeAnd (slot_at old place) (λ x. is_ended end x ≡ true)

-- from what the walk says of a view of the slots
pub walked-view :
    (end : End) (view old new : Slots) (place : ℕ) → view ≡ old →
    length new ≡ length view → place ≤ length view →
    ((k : ℕ) → k < place → IfSome (slot_at view k) (λ x. is_ended end x ≡ false)) →
    ((k : ℕ) → k < place → slot_at new k ≡ option_map (after_end end) (slot_at view k)) →
    ((k : ℕ) → place ≤ k → slot_at new k ≡ slot_at view k) →
    (place < length view → IsSomeAnd (slot_at view place) (λ x. is_ended end x ≡ true)) →
    Walked end old new place
walked-view end view old new place same number within kept settled others ended =
    subst (λ (s : Slots). Walked end s new place) same
    (record { number = number; within = within; kept = kept; settled = settled; others = others; ended = ended })

pub walked-slots :
    (end : End) (view old new : List Entry) (place : ℕ) → view ≡ old →
    length new ≡ length view → place ≤ length view →
    ((k : ℕ) → k < place → IfSome (slot_at (opened view) k) (λ x. is_ended end x ≡ false)) →
    ((k : ℕ) → k < place → slot_at (opened new) k ≡ option_map (after_end end) (slot_at (opened view) k)) →
    ((k : ℕ) → place ≤ k → slot_at (opened new) k ≡ slot_at (opened view) k) →
    (place < length view → IsSomeAnd (slot_at (opened view) place) (λ x. is_ended end x ≡ true)) →
    Walked end (opened old) (opened new) place
walked-slots end view old new place same number within kept settled others ended =
    walked-view end (opened view) (opened old) (opened new) place (ap opened same)
    (omega (arith, length-opened view, length-opened new)) (omega (arith, length-opened view)) kept settled others (λ before. ended (omega (arith, length-opened view)))

-- the entry at the place where the walk stopped
pub walked_place :
    (end : End) (es new : List Entry) (place : ℕ) (e : Entry) →
    Walked end (opened es) (opened new) place → place ≢ length es → e ≡ get_or new place e → slot_at (opened new) place ≡ Some e
walked_place end es new place e walked stopped is =
    let number = walked.number in
    let within : place < length new = omega (arith, walked.within, length-opened es, length-opened new, stopped) in
    let read : e ≡ entry_at new place = is ∙ get_or_default new place e _ within in
    let ended = and_some (λ x. is_ended end x ≡ true) (slot_at (opened es) place) (walked.ended (omega (arith, walked.within, length-opened es, stopped))) in
    let at = walked.others place (omega arith) ∙ ended.1 in
    at ∙ ap (λ (x : Entry). Some x) (sym (opened_some new place ended.0 at).1 ∙ sym read)

after_end-key : (end : End) (x : Entry) → ((after_end end x).tag ≡ x.tag) × ((after_end end x).mode ≡ x.mode)
after_end-key Commit x = (refl, refl)
after_end-key Abort x = (refl, refl)
after_end-key Close x = (refl, refl)
after_end-key Inner x = (refl, refl)

IsCounted-after_end : (end : End) (x : Entry) → is_ended end x ≡ false → IsCounted x → IsCounted (after_end end x)
IsCounted-after_end Commit x stays counted =
    let some : 0 + x.session ≡ 0 → ⊥ = eqb-false (0 + x.session) 0 stays in
    record { some = omega arith; transaction = omega arith; session = counted.session }
IsCounted-after_end Abort x stays counted =
    let kept = kept_by_abort (method_of x.tag) x.session in
    let some : 0 + kept ≡ 0 → ⊥ = eqb-false (0 + kept) 0 stays in
    let fewer = kept_by_abort-fewer (method_of x.tag) x.session in
    record { some = omega arith; transaction = omega arith; session = omega (arith, fewer, counted.session) }
IsCounted-after_end Close x stays counted = absurd (false≢true (sym stays))
IsCounted-after_end Inner x stays counted = counted

module _ (end : End) (old new : Slots) (place : ℕ) (walked : Walked end old new place) where
  -- an entry stays as it was, or has the counts that the end leaves
  walked_some : (k : ℕ) (x : Entry) → slot_at old k ≡ Some x → (slot_at new k ≡ Some x) ⊎ ((slot_at new k ≡ Some (after_end end x)) × (is_ended end x ≡ false))
  walked_some k x at =
      elim (cases_lt k place) [
        | inl before ↦ inr (walked.settled k before ∙ ap (option_map (after_end end)) at, subst (λ o. IfSome o (λ y. is_ended end y ≡ false)) at (walked.kept k before))
        | inr beyond ↦ inl (walked.others k beyond ∙ at)
      ]

  walked_none : (k : ℕ) → slot_at old k ≡ None → slot_at new k ≡ None
  walked_none k at =
      elim (cases_lt k place) [
        | inl before ↦ walked.settled k before ∙ ap (option_map (after_end end)) at
        | inr beyond ↦ walked.others k beyond ∙ at
      ]

  -- and so each entry that stands there now
  walked_from : (k : ℕ) (y : Entry) → slot_at new k ≡ Some y → (x : Entry) × (slot_at old k ≡ Some x) × ((x ≡ y) ⊎ ((after_end end x ≡ y) × (is_ended end x ≡ false)))
  walked_from k y at = go (slot_at old k) refl where
    go : (o : Option Entry) → slot_at old k ≡ o → (x : Entry) × (slot_at old k ≡ Some x) × ((x ≡ y) ⊎ ((after_end end x ≡ y) × (is_ended end x ≡ false)))
    go None was = absurd (let bad : None ≡ Some y = sym (walked_none k was) ∙ at in cc)
    go (Some x) was = (
      x,
      was,
      elim (walked_some k x was) [
        | inl same ↦ inl (let both : Some x ≡ Some y = sym same ∙ at in cc)
        | inr left ↦ inr (let both : Some (after_end end x) ≡ Some y = sym left.0 ∙ at in cc, left.1)
      ],
    )

  walked_keys : (k : ℕ) → key_at new k ≡ key_at old k
  walked_keys k =
      elim (cases_lt k place) [
        | inl before ↦ ap (option_map key_of) (walked.settled k before) ∙ mapped (slot_at old k)
        | inr beyond ↦ ap (option_map key_of) (walked.others k beyond)
      ] where
        mapped : (o : Option Entry) → option_map key_of (option_map (after_end end) o) ≡ option_map key_of o
        mapped None = refl
        mapped (Some x) = let key = after_end-key end x in λ i. Some (key.0 i, key.1 i)

  walked-counted : ((k : ℕ) (x : Entry) → slot_at old k ≡ Some x → IsCounted x) → (k : ℕ) (y : Entry) → slot_at new k ≡ Some y → IsCounted y
  walked-counted counted k y at =
      let from = walked_from k y at in
      elim from.2 [
        | inl same ↦ subst IsCounted same (counted k from.0 from.1)
        | inr left ↦ subst IsCounted left.0 (IsCounted-after_end end from.0 left.1 (counted k from.0 from.1))
      ]

  walked_alike : (k : ℕ) → is_some (slot_at new k) ≡ is_some (slot_at old k)
  walked_alike k = go (slot_at old k) refl where
    go : (o : Option Entry) → slot_at old k ≡ o → is_some (slot_at new k) ≡ is_some (slot_at old k)
    go None was = ap (λ o. is_some o) (walked_none k was) ∙ sym (ap (λ o. is_some o) was)
    go (Some x) was = elim (walked_some k x was) [
      | inl same ↦ ap (λ o. is_some o) same ∙ sym (ap (λ o. is_some o) was)
      | inr left ↦ ap (λ o. is_some o) left.0 ∙ sym (ap (λ o. is_some o) was)
    ]

pub length-present_alike : (a b : Slots) → length b ≡ length a → ((k : ℕ) → is_some (slot_at b k) ≡ is_some (slot_at a k)) → length (present b) ≡ length (present a)
length-present_alike [] [] number alike = refl
length-present_alike [] (y ∷ b) number alike = absurd (omega arith)
length-present_alike (x ∷ a) [] number alike = absurd (omega arith)
length-present_alike (None ∷ a) (None ∷ b) number alike = length-present_alike a b (omega arith) (λ k. alike (suc k))
length-present_alike (Some x ∷ a) (Some y ∷ b) number alike = ap (λ n. suc n) (length-present_alike a b (omega arith) (λ k. alike (suc k)))
length-present_alike (None ∷ a) (Some y ∷ b) number alike = absurd (false≢true (sym (alike zero)))
length-present_alike (Some x ∷ a) (None ∷ b) number alike = absurd (false≢true (alike zero))

pub kept-walked :
    (end : End) (old new : Slots) (place : ℕ) (index : Notes) (len max_local : ℕ) (progress : Progress) →
    Walked end old new place → IsKept old index len max_local progress → IsKept new index len max_local (came_to end place)
kept-walked end old new place index len max_local progress walked kept =
    record {
      indexed = indexed-alike old new index walked.number (walked_keys end old new place walked) kept.indexed;
      counted = walked-counted end old new place walked kept.counted;
      number = kept.number ∙ sym (length-present_alike old new walked.number (walked_alike end old new place walked));
      within = kept.within;
      past = λ other. past-settled end other old new place walked.kept walked.settled;
    }

-- it found an entry that it takes away, which is then taken out
pub walked_ended :
    (end : End) (old mid new : Slots) (place : ℕ) (e : Entry) →
    Walked end old mid place → slot_at mid place ≡ Some e →
    slot_at new place ≡ None → ((k : ℕ) → k ≢ place → slot_at new k ≡ slot_at mid k) →
    (present new ≡ with_next_ended end (present old)) × (find (is_ended end) (present old) ≡ Some e)
walked_ended end old mid new place e walked at gone others =
    (present-same new (set mid place None) same ∙ present-stopped end old (set mid place None) place e stopped number, find-stopped end old (set mid place None) place e stopped number) where
      within : place < length mid
      within = slot_at-within mid place e at

      was : slot_at old place ≡ Some e
      was = sym (walked.others place (omega arith)) ∙ at

      number : length (set mid place None) ≡ length old
      number = length-set mid place None ∙ walked.number

      same : (k : ℕ) → slot_at new k ≡ slot_at (set mid place None) k
      same k =
          elim (cases_eq k place) [
            | inl here ↦ ap (slot_at new) here ∙ (gone ∙ sym (ap (slot_at (set mid place None)) here ∙ slot_at-set mid place None within))
            | inr apart ↦ others k apart ∙ sym (slot_at-set_other mid place k None apart)
          ]

      stopped : Stopped end old (set mid place None) place e
      stopped = record {
        kept = walked.kept;
        settled = λ k before. slot_at-set_other mid place k None (λ q. omega arith) ∙ walked.settled k before;
        there = was;
        ended =
            (let ended = and_some (λ x. is_ended end x ≡ true) (slot_at old place) (walked.ended (omega (arith, walked.number, within))) in
            let both : Some ended.0 ≡ Some e = sym ended.1 ∙ was in
            let its : ended.0 ≡ e = cc in
            ap (is_ended end) (sym its) ∙ ended.2);
        gone = slot_at-set mid place None within;
        others = λ k behind. slot_at-set_other mid place k None (λ q. omega arith) ∙ walked.others k (omega arith);
      }

-- it came to the end of the slots
pub walked_passed : (end : End) (old new : Slots) (place : ℕ) → Walked end old new place → place ≡ length old → Passed end old new
walked_passed end old new place walked all =
    record {
      kept = λ k before. walked.kept k (omega arith);
      settled = λ k before. walked.settled k (omega arith);
      number = walked.number;
    }

-- ---- the entries moved together

kept-gathered :
    (old new : Slots) (index index' : Notes) (len max_local : ℕ) (progress progress' : Progress) →
    IsKept old index len max_local progress → IsIndexed new index' → present new ≡ present old →
    ((end : End) → IsPast end new (reached end progress')) → IsKept new index' len max_local progress'
kept-gathered old new index index' len max_local progress progress' kept indexed same past =
    record {
      indexed = indexed;
      counted = from_present IsCounted new (subst (λ l. AllByRecursion IsCounted l) (sym same) (all_present IsCounted old kept.counted));
      number = kept.number ∙ sym (ap (λ l. length l) same);
      within = kept.within;
      past = past;
    }

pub past-start : (slots : Slots) (end : End) → IsPast end slots (reached end at_start)
past-start slots Commit = past-none Commit slots
past-start slots Abort = past-none Abort slots
past-start slots Close = past-none Close slots
past-start slots Inner = past-none Inner slots

pub kept-compact :
    (old new : Slots) (index index' : Notes) (len max_local : ℕ) (progress : Progress) →
    IsKept old index len max_local progress → IsIndexed new index' → present new ≡ present old → IsKept new index' len max_local at_start
kept-compact old new index index' len max_local progress kept indexed same =
    kept-gathered old new index index' len max_local progress at_start kept indexed same (past-start new)

-- an end that has come past all slots is past them wherever the entries have moved
pub kept-tidy :
    (end : End) (old mid new : Slots) (place used : ℕ) (index index' : Notes) (len max_local : ℕ) (progress : Progress) →
    Walked end old mid place → place ≡ length old → IsKept old index len max_local progress → IsIndexed new index' → present new ≡ present mid →
    IsKept new index' len max_local (came_to end used)
kept-tidy end old mid new place used index index' len max_local progress walked all kept indexed same =
    let there = kept-walked end old mid place index len max_local progress walked kept in
    kept-gathered mid new index index' len max_local (came_to end place) (came_to end used) there indexed same (past-all end mid new place used there.past same all_past) where
      all_past : (k : ℕ) (e : Entry) → slot_at mid k ≡ Some e → k < place
      all_past k e at = omega (arith, slot_at-within mid k e at, walked.number)

-- an end that has taken an entry away is past its slot
pub kept-next :
    (end : End) (slots : Slots) (index : Notes) (len max_local place : ℕ) → slot_at slots place ≡ None →
    IsKept slots index len max_local (came_to end place) → IsKept slots index len max_local (came_to end (place + 1))
kept-next end slots index len max_local place gone kept =
    record {
      indexed = kept.indexed;
      counted = kept.counted;
      number = kept.number;
      within = kept.within;
      past = past-next end slots place gone kept.past;
    }

-- ---- an index with the same places

pub kept-index :
    (slots slots' : Slots) (index index' : Notes) (len max_local : ℕ) (progress : Progress) →
    IsKept slots index len max_local progress → slots' ≡ slots → HasSameNotes index index' → IsKept slots' index' len max_local progress
kept-index slots slots' index index' len max_local progress kept same notes =
    subst (λ (s : Slots). IsKept s index' len max_local progress) (sym same)
    (record {
      indexed = record {
        noted = λ h p key at. notes h p ∙ kept.indexed.noted h p key at;
        within = λ h p past. notes h p ∙ kept.indexed.within h p past;
        once = kept.indexed.once;
      };
      counted = kept.counted;
      number = kept.number;
      within = kept.within;
      past = kept.past;
    })

-- ---- nothing at all

pub table-empty : (index : Notes) (max_local : ℕ) → ((h p : ℕ) → times index h p ≡ 0) → IsTable [] index 0 max_local at_start
table-empty index max_local none =
    record {
      kept = record {
        indexed = indexed-nil index none;
        counted = λ k e at. absurd (no_entry k e at);
        number = refl;
        within = omega arith;
        past = past-start [];
      };
      few = omega arith;
    } where
      no_entry : (k : ℕ) (e : Entry) → slot_at [] k ≡ Some e → ⊥
      no_entry k e at = (let bad : None ≡ Some e = at in cc)

-- the same slots, and an index with the same places
pub table-index :
    (es es' : List Entry) (index index' : Notes) (len max_local : ℕ) (progress : Progress) →
    IsTable es index len max_local progress → es' ≡ es → HasSameNotes index index' → IsTable es' index' len max_local progress
table-index es es' index index' len max_local progress table same notes =
    subst (λ (l : List Entry). IsTable l index' len max_local progress) (sym same)
    (record {
      kept = kept-index (opened es) (opened es) index index' len max_local progress table.kept refl notes;
      few = table.few;
    })
