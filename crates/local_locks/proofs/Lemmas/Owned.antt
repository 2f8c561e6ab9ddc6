use Rattle.std.proofs.Common.{◌≡◌, Bool, true, false, not, ◌&&◌, ◌||◌, cond, List, [], ◌∷◌, ◌++◌, refl, sym, ap, ◌∙◌, inl, inr}
use Rattle.std.specs.Prelude.{Some, is_some, ◌==◌}
use Rattle.std.proofs.lemmas.Bool.{false≢true, cases_Bool}
use Rattle.modes_core.specs.declared.modes.Mode.{Mode}
use Rattle.modes_core.specs.declared.tags.Tag.{Tag}
use Rattle.modes_core.specs.declared.sessions.Owner.{Owner}
use Rattle.modes_core.specs.declared.sessions.Owner.TheVariants.{Session, Transaction}
use Rattle.local_locks.specs.declared.records.Entry.{Entry}
use Rattle.local_locks.specs.Owned.{is_of, entry_for, has_entry, total_of, change, entries_but, raised, lowered, new_entry, with_one_more, with_one_less}
use Rattle.local_locks.specs.Slots.{is_key}
use Rattle.local_locks.proofs.Lemmas.Slots.{is_of-same, is_of-own, is_key-same, is_key-own, key-is_of}
use Rattle.local_locks.proofs.Lemmas.TableSteps.{raised-key, lowered-key}

-- What the session has after each change: for callers who keep a shared hold for each entry.

has_entry-cons : (e : Entry) (es : List Entry) (t : Tag) (m : Mode) → has_entry (e ∷ es) t m ≡ (is_of t m e || has_entry es t m)
has_entry-cons e es t m =
    elim (cases_Bool (is_of t m e)) [
      | inl own ↦ ap (λ b. is_some (cond b (Some e) (entry_for es t m))) own ∙ sym (ap (λ b. b || has_entry es t m) own)
      | inr other ↦ ap (λ b. is_some (cond b (Some e) (entry_for es t m))) other ∙ sym (ap (λ b. b || has_entry es t m) other)
    ]

-- two tests of one entry
is_of-is_key : (e : Entry) (tag : Tag) (mode : Mode) (t : Tag) (m : Mode) → is_of tag mode e ≡ true → is_of t m e ≡ is_key tag mode (t, m)
is_of-is_key e tag mode t m own =
    let both = is_of-same tag mode e own in
    sym (key-of e t m) ∙ (λ i. is_key (both.0 i) (both.1 i) (t, m)) where
      key-of : (e : Entry) (t : Tag) (m : Mode) → is_key e.tag e.mode (t, m) ≡ is_of t m e
      key-of e t m =
          elim (cases_Bool (is_of t m e)) [
            | inl its ↦ let both = is_of-same t m e its in (λ i. is_key (both.0 i) (both.1 i) (t, m)) ∙ (is_key-own t m ∙ sym its)
            | inr other ↦
                elim (cases_Bool (is_key e.tag e.mode (t, m))) [
                  | inl key ↦
                      let same = is_key-same e.tag e.mode t m key in
                      let its : is_of t m e ≡ true = sym (λ i. is_of (same.0 i) (same.1 i) e) ∙ is_of-own e in
                      absurd (false≢true (sym other ∙ its))
                  | inr apart ↦ apart ∙ sym other
                ]
          ]

pub has_entry-entries_but : (es : List Entry) (tag : Tag) (mode : Mode) (t : Tag) (m : Mode) → has_entry (entries_but es tag mode) t m ≡ (not (is_key tag mode (t, m)) && has_entry es t m)
has_entry-entries_but [] tag mode t m = and_false (not (is_key tag mode (t, m))) where
  and_false : (b : Bool) → false ≡ (b && false)
  and_false true = refl
  and_false false = refl
has_entry-entries_but (e ∷ es) tag mode t m =
    elim (cases_Bool (is_of tag mode e)) [
      | inl own ↦
          ap (λ b. has_entry (cond (not b) (e ∷ entries_but es tag mode) (entries_but es tag mode)) t m) own
          ∙ (has_entry-entries_but es tag mode t m
          ∙ (drops (is_key tag mode (t, m)) (has_entry es t m)
          ∙ sym (ap (λ b. not (is_key tag mode (t, m)) && b) (has_entry-cons e es t m ∙ ap (λ b. b || has_entry es t m) (is_of-is_key e tag mode t m own)))))
      | inr other ↦
          ap (λ b. has_entry (cond (not b) (e ∷ entries_but es tag mode) (entries_but es tag mode)) t m) other
          ∙ (has_entry-cons e (entries_but es tag mode) t m
          ∙ (ap (λ b. is_of t m e || b) (has_entry-entries_but es tag mode t m)
          ∙ (keeps (is_of t m e) (is_key tag mode (t, m)) (has_entry es t m) (apart other)
          ∙ sym (ap (λ b. not (is_key tag mode (t, m)) && b) (has_entry-cons e es t m)))))
    ] where
      drops : (k h : Bool) → (not k && h) ≡ (not k && (k || h))
      drops true h = refl
      drops false h = refl

      keeps : (o k h : Bool) → (o ≡ true → k ≡ false) → (o || (not k && h)) ≡ (not k && (o || h))
      keeps true k h none = sym (ap (λ b. not b && true) (none refl))
      keeps false k h none = refl

      apart : is_of tag mode e ≡ false → is_of t m e ≡ true → is_key tag mode (t, m) ≡ false
      apart other its = let both = is_of-same t m e its in sym (λ i. is_key tag mode (both.0 i, both.1 i)) ∙ (key-is_of tag mode e ∙ other)

pub has_entry-change : (f : Entry → Entry) → ((e : Entry) → ((f e).tag ≡ e.tag) × ((f e).mode ≡ e.mode)) → (es : List Entry) (tag : Tag) (mode : Mode) (t : Tag) (m : Mode) → has_entry (change f es tag mode) t m ≡ has_entry es t m
has_entry-change f keeps [] tag mode t m = refl
has_entry-change f keeps (e ∷ es) tag mode t m =
    has_entry-cons (cond (is_of tag mode e) (f e) e) (change f es tag mode) t m
    ∙ ((λ i. same (is_of tag mode e) i || has_entry-change f keeps es tag mode t m i) ∙ sym (has_entry-cons e es t m)) where
      same : (b : Bool) → is_of t m (cond b (f e) e) ≡ is_of t m e
      same true = λ i. is_of t m (record e { tag = (keeps e).0 i; mode = (keeps e).1 i })
      same false = refl

-- after an acquire the session has that object and mode, and what it had
pub has_entry-with_one_more : (es : List Entry) (tag : Tag) (mode : Mode) (owner : Owner) (t : Tag) (m : Mode) → has_entry (with_one_more es tag mode owner) t m ≡ (is_key tag mode (t, m) || has_entry es t m)
has_entry-with_one_more es tag mode owner t m =
    elim (cases_Bool (has_entry es tag mode)) [
      | inl there ↦
          ap (λ b. has_entry (cond b (change (raised owner) es tag mode) (es ++ new_entry tag mode owner ∷ [])) t m) there
          ∙ (has_entry-change (raised owner) (raised-key owner) es tag mode t m ∙ known there)
      | inr absent ↦
          ap (λ b. has_entry (cond b (change (raised owner) es tag mode) (es ++ new_entry tag mode owner ∷ [])) t m) absent
          ∙ pushed es
    ] where
      known : has_entry es tag mode ≡ true → has_entry es t m ≡ (is_key tag mode (t, m) || has_entry es t m)
      known there =
          elim (cases_Bool (is_key tag mode (t, m))) [
            | inl key ↦
                let same = is_key-same tag mode t m key in
                sym (λ i. has_entry es (same.0 i) (same.1 i)) ∙ (there ∙ sym (ap (λ b. b || has_entry es t m) key))
            | inr apart ↦ sym (ap (λ b. b || has_entry es t m) apart)
          ]

      new_key : (owner : Owner) → is_of t m (new_entry tag mode owner) ≡ is_key tag mode (t, m)
      new_key owner = is_of-is_key (new_entry tag mode owner) tag mode t m (own owner) where
        own : (owner : Owner) → is_of tag mode (new_entry tag mode owner) ≡ true
        own Session = is_key-own tag mode
        own Transaction = is_key-own tag mode

      either_first : (a b c : Bool) → (a || (b || c)) ≡ (b || (a || c))
      either_first true true c = refl
      either_first true false c = refl
      either_first false b c = refl

      pushed : (l : List Entry) → has_entry (l ++ new_entry tag mode owner ∷ []) t m ≡ (is_key tag mode (t, m) || has_entry l t m)
      pushed [] = has_entry-cons (new_entry tag mode owner) [] t m ∙ ap (λ b. b || false) (new_key owner)
      pushed (e ∷ l) =
          has_entry-cons e (l ++ new_entry tag mode owner ∷ []) t m
          ∙ (ap (λ b. is_of t m e || b) (pushed l) ∙ (either_first (is_of t m e) (is_key tag mode (t, m)) (has_entry l t m) ∙ sym (ap (λ b. is_key tag mode (t, m) || b) (has_entry-cons e l t m))))

-- after a release it has what it had, but for that object and mode where the total was 1
pub has_entry-with_one_less : (es : List Entry) (tag : Tag) (mode : Mode) (owner : Owner) (t : Tag) (m : Mode) → has_entry (with_one_less es tag mode owner) t m ≡ (not ((total_of es tag mode == 1) && is_key tag mode (t, m)) && has_entry es t m)
has_entry-with_one_less es tag mode owner t m =
    elim (cases_Bool (total_of es tag mode == 1)) [
      | inl one ↦
          ap (λ b. has_entry (cond b (entries_but es tag mode) (change (lowered owner) es tag mode)) t m) one
          ∙ (has_entry-entries_but es tag mode t m ∙ sym (ap (λ b. not (b && is_key tag mode (t, m)) && has_entry es t m) one))
      | inr more ↦
          ap (λ b. has_entry (cond b (entries_but es tag mode) (change (lowered owner) es tag mode)) t m) more
          ∙ (has_entry-change (lowered owner) (lowered-key owner) es tag mode t m ∙ sym (ap (λ b. not (b && is_key tag mode (t, m)) && has_entry es t m) more))
    ]
