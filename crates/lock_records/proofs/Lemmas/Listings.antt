use Rattle.std.proofs.Common.{◌≡◌, ◌≢◌, ℕ, zero, suc, ◌+◌, ◌-◌, ◌<◌, ◌≤◌, Bool, true, false, ◌&&◌, ◌==◌, nat_lt, List, [], ◌∷◌, ◌++◌, length, take, get_or, Option, Some, None, arith, refl, sym, ap, ◌∙◌, inl, inr, append_assoc, add-one}
use Rattle.std.specs.Prelude.{map, count_by, if◌then◌else◌}
use Rattle.std.specs.List.{list_any}
use Rattle.std.proofs.Common.{Result, Ok, Err, is_ok}
use Rattle.std.specs.Result.{OnOk}
use Rattle.std.proofs.Math.Bool.{and-true, and-false}
use Rattle.std.proofs.lemmas.Bool.{cases_Bool, cases_eq, cases_lt, false≢true, both_ways, false_from_ne_true, eq-eqb, ne_eqb, lt-ltb, le-ltb, cond-true, cond-false, and_from, and_parts}
use Rattle.std.proofs.lemmas.List.{append-nil, get_or_past}
use Rattle.modes_core.specs.declared.modes.Mode.{Mode}
use Rattle.modes_core.specs.declared.tags.Tag.{Tag}
use Rattle.modes_core.specs.Mode.{number_of, mode_eq}
use Rattle.modes_core.specs.Tag.{tag_eq}
use Rattle.modes_core.specs.ModeSet.{set_has}
use Rattle.modes_core.proofs.Lemmas.Conflicts.{number_of-same, mode_eq-refl, tag_eq-refl}
use Rattle.lock_table.specs.declared.rows.TableRow.{TableRow}
use Rattle.lock_records.specs.declared.wait_queues.QueueRecord.{QueueRecord}
use Rattle.lock_table.specs.declared.waits.Waiter.{Waiter}
use Rattle.lock_table.specs.Content.{Wait}
use Rattle.lock_records.specs.Queues.{queue_at, waits_at, queue_on}
use Rattle.lock_table.specs.Listing.{row_eq, has_row}
use Rattle.lock_table.specs.Waiter.{shown_wait}
use Rattle.lock_table.proofs.Lemmas.HoldLists.{count_by-cons, count_by-append, take_one_more}
use Rattle.lock_table.proofs.Lemmas.Listing.{once_or_not}
use Rattle.lock_table.proofs.Lemmas.WaitLists.{eqb_comm}
use Rattle.lock_records.specs.declared.holders.HolderRecord.{HolderRecord}
use Rattle.lock_records.specs.Holders.{holder_at, slot_holds, holds_in, IsHolderAt, AreHolders}
use Rattle.lock_records.specs.Rows.{AppendsRows, shown_by, shown_below, awaited_row, awaited_in, awaited_at, awaited_below}
use Rattle.lock_records.specs.View.{RecordView, content_of}
use Rattle.lock_records.proofs.Lemmas.Held.{ShowsHold, slot-shows, slot-at, held-from, held-to}
use Rattle.lock_records.proofs.Lemmas.Tallies.{number-within}

-- Rows appended in turn.
pub appends-none : (old : List TableRow) (times : TableRow → ℕ) → ((row : TableRow) → times row ≡ 0) → AppendsRows old old times
appends-none old times none = record { added = []; behind = sym (append-nil old); counted = λ row. sym (none row) }

pub appends-like : (old new new' : List TableRow) (times times' : TableRow → ℕ) → new' ≡ new → ((row : TableRow) → times row ≡ times' row) → AppendsRows old new times → AppendsRows old new' times'
appends-like old new new' times times' same sum_is appends = record { added = appends.added; behind = same ∙ appends.behind; counted = λ row. appends.counted row ∙ sum_is row }

pub appends-one : (old new new' : List TableRow) (r : TableRow) (times times' : TableRow → ℕ) → new' ≡ new ++ r ∷ [] → ((row : TableRow) → times row + (if row_eq row r then 1 else 0) ≡ times' row) →
    AppendsRows old new times → AppendsRows old new' times'
appends-one old new new' r times times' is sum_is appends = record {
  added = appends.added ++ r ∷ [];
  behind = is ∙ ap (λ rows. rows ++ r ∷ []) appends.behind ∙ append_assoc old appends.added (r ∷ []);
  counted = λ row.
      let all : count_by (row_eq row) (appends.added ++ r ∷ []) ≡ count_by (row_eq row) appends.added + count_by (row_eq row) (r ∷ []) = count_by-append (row_eq row) appends.added (r ∷ []) in
      let one : count_by (row_eq row) (r ∷ []) ≡ (if row_eq row r then 1 else 0) + 0 = count_by-cons (row_eq row) r [] in
      let so_far = appends.counted row in
      let sum : count_by (row_eq row) (appends.added ++ r ∷ []) ≡ times row + (if row_eq row r then 1 else 0) = omega arith in
      sum ∙ sum_is row;
}

pub appends-more : (old mid new : List TableRow) (times more times' : TableRow → ℕ) → ((row : TableRow) → times row + more row ≡ times' row) → AppendsRows old mid times → AppendsRows mid new more → AppendsRows old new times'
appends-more old mid new times more times' sum_is one two = record {
  added = one.added ++ two.added;
  behind = two.behind ∙ ap (λ rows. rows ++ two.added) one.behind ∙ append_assoc old one.added two.added;
  counted = λ row.
      let all : count_by (row_eq row) (one.added ++ two.added) ≡ count_by (row_eq row) one.added + count_by (row_eq row) two.added = count_by-append (row_eq row) one.added two.added in
      let a = one.counted row in
      let b = two.counted row in
      let sum : count_by (row_eq row) (one.added ++ two.added) ≡ times row + more row = omega arith in
      sum ∙ sum_is row;
}

-- How often the modes of a record below a number show a row.
abbrev pub shown_under : HolderRecord → ℕ → TableRow → ℕ
shown_under h n row = if (row.granted && slot_holds row.session row.tag row.mode (Some h)) && nat_lt (number_of row.mode) n then 1 else 0

pub under-first : (h : HolderRecord) (row : TableRow) → shown_under h 1 row ≡ 0
under-first h row =
    let positive = (number-within row.mode).0 in
    ap (λ b. if b then 1 else 0) (ap (λ b. (row.granted && slot_holds row.session row.tag row.mode (Some h)) && b) (le-ltb (number_of row.mode) 1 (omega arith)) ∙ and-false _)

pub under-last : (h : HolderRecord) (row : TableRow) → shown_under h 9 row ≡ shown_by (Some h) row
under-last h row =
    ap (λ b. if b then 1 else 0) (ap (λ b. (row.granted && slot_holds row.session row.tag row.mode (Some h)) && b) (lt-ltb (number_of row.mode) 9 (number-within row.mode).1) ∙ and-true _)

-- Where no mode has the number, or its mode is not shown, nothing is shown more.
pub under-skip : (h : HolderRecord) (n : ℕ) (row : TableRow) → (number_of row.mode ≡ n → (row.granted && slot_holds row.session row.tag row.mode (Some h)) ≡ false) → shown_under h n row ≡ shown_under h (n + 1) row
under-skip h n row not_shown =
    elim (cases_eq (number_of row.mode) n) [
      | inl same ↦
          ap (λ b. if b then 1 else 0)
          (ap (λ b. b && nat_lt (number_of row.mode) n) (not_shown same) ∙ sym (ap (λ b. b && nat_lt (number_of row.mode) (n + 1)) (not_shown same)))
      | inr other ↦ ap (λ b. if (row.granted && slot_holds row.session row.tag row.mode (Some h)) && b then 1 else 0) (below other)
    ] where
      below : (number_of row.mode ≡ n → ⊥) → nat_lt (number_of row.mode) n ≡ nat_lt (number_of row.mode) (n + 1)
      below other =
          elim (cases_lt (number_of row.mode) n) [
            | inl under ↦ lt-ltb (number_of row.mode) n under ∙ sym (lt-ltb (number_of row.mode) (n + 1) (omega arith))
            | inr over ↦ le-ltb (number_of row.mode) n over ∙ sym (le-ltb (number_of row.mode) (n + 1) (omega (arith, other)))
          ]

-- A mode that the record doesn't have is not shown.
pub under-mode : (h : HolderRecord) (m : Mode) (row : TableRow) → row.mode ≡ m → set_has h.modes m ≡ false → (row.granted && slot_holds row.session row.tag row.mode (Some h)) ≡ false
under-mode h m row same has_not =
    ap (λ b. row.granted && ((row.session == h.session) && (tag_eq row.tag h.tag && b))) (ap (set_has h.modes) same ∙ has_not)
    ∙ ap (λ b. row.granted && ((row.session == h.session) && b)) (and-false _) ∙ ap (λ b. row.granted && b) (and-false _) ∙ and-false _

same-test : (a s t : Bool) → (s && (t && (true && (if a then true else false)))) ≡ (a && (s && (t && true)))
same-test true true true = refl
same-test true true false = refl
same-test true false t = refl
same-test false true true = refl
same-test false true false = refl
same-test false false t = refl

apart-test : (s t x : Bool) → (s && (t && (false && x))) ≡ false
apart-test true true x = refl
apart-test true false x = refl
apart-test false t x = refl

-- The row of the mode with the number is shown more.
pub under-push : (h : HolderRecord) (n : ℕ) (m : Mode) (row : TableRow) → number_of m ≡ n → set_has h.modes m ≡ true →
    shown_under h n row + (if row_eq row (record { session = h.session; tag = h.tag; mode = m; granted = true }) then 1 else 0) ≡ shown_under h (n + 1) row
under-push h n m row number has =
    elim (cases_eq (number_of row.mode) n) [
      | inl same ↦
          let mode : row.mode ≡ m = number_of-same row.mode m (same ∙ sym number) in
          let was : shown_under h n row ≡ 0 =
          ap (λ b. if b then 1 else 0) (ap (λ b. (row.granted && slot_holds row.session row.tag row.mode (Some h)) && b) (le-ltb (number_of row.mode) n (omega arith)) ∙ and-false _) in
          let now : shown_under h (n + 1) row ≡ (if row.granted && slot_holds row.session row.tag row.mode (Some h) then 1 else 0) =
          ap (λ b. if b then 1 else 0) (ap (λ b. (row.granted && slot_holds row.session row.tag row.mode (Some h)) && b) (lt-ltb (number_of row.mode) (n + 1) (omega arith)) ∙ and-true _) in
          let tests : row_eq row (record { session = h.session; tag = h.tag; mode = m; granted = true }) ≡ (row.granted && slot_holds row.session row.tag row.mode (Some h)) =
          ap (λ b. (row.session == h.session) && (tag_eq row.tag h.tag && (b && (if row.granted then true else false)))) (ap (λ k. mode_eq k m) mode ∙ mode_eq-refl m)
          ∙ same-test row.granted (row.session == h.session) (tag_eq row.tag h.tag)
          ∙ ap (λ b. row.granted && ((row.session == h.session) && (tag_eq row.tag h.tag && b))) (sym (ap (set_has h.modes) mode ∙ has)) in
          ap (λ k. k + (if row_eq row (record { session = h.session; tag = h.tag; mode = m; granted = true }) then 1 else 0)) was
          ∙ (let add : 0 + (if row_eq row (record { session = h.session; tag = h.tag; mode = m; granted = true }) then 1 else 0) ≡ (if row_eq row (record { session = h.session; tag = h.tag; mode = m; granted = true }) then 1 else 0) = omega arith in add)
          ∙ ap (λ b. if b then 1 else 0) tests ∙ sym now
      | inr other ↦
          let none : row_eq row (record { session = h.session; tag = h.tag; mode = m; granted = true }) ≡ false =
          ap (λ b. (row.session == h.session) && (tag_eq row.tag h.tag && (b && (if row.granted then true else false)))) (ne_eqb (number_of row.mode) (number_of m) (λ e. other (e ∙ number)))
          ∙ apart-test (row.session == h.session) (tag_eq row.tag h.tag) (if row.granted then true else false) in
          let zero_more : ◌≡◌ {A = ℕ} (if row_eq row (record { session = h.session; tag = h.tag; mode = m; granted = true }) then 1 else 0) 0 = ap (λ b. if b then 1 else 0) none in
          let kept = under-skip h n row (λ same. absurd (other same)) in
          omega arith
    ]

-- Places without a record show nothing, and places past the last one.
pub below-start : (slots : List (Option HolderRecord)) (row : TableRow) → shown_below slots 0 row ≡ 0
unfolding shown_below
below-start slots row = refl

pub below-next : (slots : List (Option HolderRecord)) (n : ℕ) (row : TableRow) → shown_below slots (n + 1) row ≡ shown_below slots n row + shown_by (holder_at slots n) row
unfolding shown_below
below-next slots n row = ap (λ k. shown_below slots k row) (add-one n)

pub shown-nothing : (row : TableRow) → shown_by None row ≡ 0
shown-nothing row = ap (λ b. if b then 1 else 0) (and-false row.granted)

pub below-none : (slots : List (Option HolderRecord)) (n : ℕ) (row : TableRow) → holder_at slots n ≡ None → shown_below slots n row ≡ shown_below slots (n + 1) row
below-none slots n row none =
    let next = below-next slots n row in
    let zero_more : shown_by (holder_at slots n) row ≡ 0 = ap (λ slot. shown_by slot row) none ∙ shown-nothing row in
    omega arith

pub below-past : (slots : List (Option HolderRecord)) (n k : ℕ) (row : TableRow) → length slots ≤ n → shown_below slots (n + k) row ≡ shown_below slots n row
below-past slots n zero row past = ap (λ j. shown_below slots j row) (let e : n + 0 ≡ n = omega arith in e)
below-past slots n (suc k) row past =
    ap (λ j. shown_below slots j row) (let e : n + suc k ≡ n + k + 1 = omega arith in e)
    ∙ sym (below-none slots (n + k) row (get_or_past slots (n + k) None (omega arith))) ∙ below-past slots n k row past

pub below-all : (slots : List (Option HolderRecord)) (n : ℕ) (row : TableRow) → length slots ≤ n → shown_below slots n row ≡ shown_below slots (length slots) row
below-all slots n row past =
    ap (λ j. shown_below slots j row) (let e : n ≡ length slots + (n - length slots) = omega arith in e) ∙ below-past slots (length slots) (n - length slots) row (omega arith)

-- How often the places show a hold: once where it is there.
below-silent : (slots : List (Option HolderRecord)) (n : ℕ) (row : TableRow) → ((k : ℕ) → k < n → shown_by (holder_at slots k) row ≡ 0) → shown_below slots n row ≡ 0
unfolding shown_below
below-silent slots zero row none = refl
below-silent slots (suc n) row none = let a = below-silent slots n row (λ k h. none k (omega arith)) in let b = none n (omega arith) in omega arith

below-one : (slots : List (Option HolderRecord)) (n : ℕ) (row : TableRow) (k : ℕ) → k < n → shown_by (holder_at slots k) row ≡ 1 → ((j : ℕ) → j ≢ k → shown_by (holder_at slots j) row ≡ 0) → shown_below slots n row ≡ 1
unfolding shown_below
below-one slots zero row k within one others = absurd (omega arith)
below-one slots (suc n) row k within one others =
    elim (cases_eq n k) [
      | inl e ↦
          let a = below-silent slots n row (λ j h. others j (λ same. omega arith)) in
          let b : shown_by (holder_at slots n) row ≡ 1 = ap (λ j. shown_by (holder_at slots j) row) e ∙ one in
          omega arith
      | inr other ↦ let a = below-one slots n row k (omega (arith, other)) one others in let b = others n other in omega arith
    ]

granted-shown : (slot : Option HolderRecord) (row : TableRow) → row.granted ≡ true → shown_by slot row ≡ (if slot_holds row.session row.tag row.mode slot then 1 else 0)
granted-shown slot row granted = ap (λ b. if b && slot_holds row.session row.tag row.mode slot then 1 else 0) granted

pub shown-granted : (slots : List (Option HolderRecord)) (row : TableRow) → AreHolders slots row.tag → row.granted ≡ true → shown_below slots (length slots) row ≡ (if holds_in slots row.session row.tag row.mode then 1 else 0)
shown-granted slots row are granted =
    elim (cases_Bool (holds_in slots row.session row.tag row.mode)) [
      | inl has ↦
          let shows = held-from slots row.session row.tag row.mode has in
          below-one slots (length slots) row shows.place (within shows) (at shows.place shows.at shows.has) (λ j other. silent j (λ is. other (same j shows is)))
          ∙ sym (ap (λ b. if b then 1 else 0) has)
      | inr none ↦
          below-silent slots (length slots) row (λ k h. silent k (λ is.
          let shows = slot-shows slots row.session row.tag row.mode k (holder_at slots k) refl is in
          both_ways _ none (held-to slots row.session row.tag row.mode shows.place shows.at shows.has)))
          ∙ sym (ap (λ b. if b then 1 else 0) none)
    ] where
      at : (k : ℕ) (i : IsHolderAt slots row.session row.tag k) → set_has i.holder.modes row.mode ≡ true → shown_by (holder_at slots k) row ≡ 1
      at k i has =
          granted-shown (holder_at slots k) row granted
          ∙ ap (λ b. if b then 1 else 0) (ap (slot_holds row.session row.tag row.mode) i.there ∙ and_from _ _ (eq-eqb row.session i.holder.session (sym i.its)) (and_from _ _ (ap (tag_eq row.tag) i.on ∙ tag_eq-refl row.tag) has))

      silent : (k : ℕ) → (slot_holds row.session row.tag row.mode (holder_at slots k) ≡ true → ⊥) → shown_by (holder_at slots k) row ≡ 0
      silent k not_it = granted-shown (holder_at slots k) row granted ∙ ap (λ b. if b then 1 else 0) (false_from_ne_true _ not_it)

      at-slot : (j : ℕ) → slot_holds row.session row.tag row.mode (holder_at slots j) ≡ true → IsHolderAt slots row.session row.tag j
      at-slot j is = slot-at slots row.session row.tag row.mode j (holder_at slots j) refl is

      same : (j : ℕ) (shows : ShowsHold slots row.session row.tag row.mode) → slot_holds row.session row.tag row.mode (holder_at slots j) ≡ true → j ≡ shows.place
      same j shows is =
          are.once row.session j shows.place (at-slot j is) shows.at

      within : (shows : ShowsHold slots row.session row.tag row.mode) → shows.place < length slots
      within shows =
          elim (cases_lt shows.place (length slots)) [
            | inl it ↦ it
            | inr past ↦ let none : holder_at slots shows.place ≡ None = get_or_past slots shows.place None past in let there = shows.at.there in let no_way : ⊥ = cc in absurd no_way
          ]

pub shown-awaited : (slots : List (Option HolderRecord)) (n : ℕ) (row : TableRow) → row.granted ≡ false → shown_below slots n row ≡ 0
shown-awaited slots n row awaited = below-silent slots n row (λ k h. ap (λ b. if b && slot_holds row.session row.tag row.mode (holder_at slots k) then 1 else 0) awaited)

-- How often the waits of places show a row.
fewer-pass : {X : Type 0} (p q : X → Bool) (xs : List X) → ((x : X) → p x ≡ true → q x ≡ true) → count_by p xs ≤ count_by q xs
fewer-pass p q [] weaker = omega arith
fewer-pass p q (x ∷ xs) weaker =
    let a : count_by p (x ∷ xs) ≡ (if p x then 1 else 0) + count_by p xs = count_by-cons p x xs in
    let b : count_by q (x ∷ xs) ≡ (if q x then 1 else 0) + count_by q xs = count_by-cons q x xs in
    let rest = fewer-pass p q xs weaker in
    elim (cases_Bool (p x)) [
      | inl pass ↦
          let one : ◌≡◌ {A = ℕ} (if p x then 1 else 0) 1 = ap (λ c. if c then 1 else 0) pass in
          let too : ◌≡◌ {A = ℕ} (if q x then 1 else 0) 1 = ap (λ c. if c then 1 else 0) (weaker x pass) in
          omega arith
      | inr fail ↦
          let none : ◌≡◌ {A = ℕ} (if p x then 1 else 0) 0 = ap (λ c. if c then 1 else 0) fail in
          omega arith
    ]

-- how often a session waits for a mode in a queue
abbrev times_of : ℕ → Mode → List Wait → ℕ
times_of s m queue = count_by (λ wait. (wait.session == s) && mode_eq wait.mode m) queue

row-granted : (row : TableRow) (tag : Tag) (w : Waiter) → row.granted ≡ true → row_eq row (awaited_row tag w) ≡ false
row-granted row tag w granted =
    ap (λ b. (row.session == w.session) && (tag_eq row.tag tag && (mode_eq row.mode w.mode && (if b then false else true)))) granted
    ∙ ap (λ b. (row.session == w.session) && (tag_eq row.tag tag && b)) (and-false _)
    ∙ ap (λ b. (row.session == w.session) && b) (and-false _) ∙ and-false _

row-elsewhere : (row : TableRow) (tag : Tag) (w : Waiter) → tag_eq row.tag tag ≡ false → row_eq row (awaited_row tag w) ≡ false
row-elsewhere row tag w other =
    ap (λ b. (row.session == w.session) && (b && (mode_eq row.mode w.mode && (if row.granted then false else true)))) other ∙ and-false _

row-awaited : (row : TableRow) (tag : Tag) (w : Waiter) → row.granted ≡ false → tag_eq row.tag tag ≡ true → row_eq row (awaited_row tag w) ≡ ((w.session == row.session) && mode_eq w.mode row.mode)
row-awaited row tag w awaited same =
    ap (λ b. (row.session == w.session) && (tag_eq row.tag tag && (mode_eq row.mode w.mode && (if b then false else true)))) awaited
    ∙ ap (λ b. (row.session == w.session) && (b && (mode_eq row.mode w.mode && true))) same
    ∙ ap (λ b. (row.session == w.session) && b) (and-true _)
    ∙ ap (λ b. b && mode_eq row.mode w.mode) (eqb_comm row.session w.session)
    ∙ ap (λ b. (w.session == row.session) && b) (eqb_comm (number_of row.mode) (number_of w.mode))

none-shown : (row : TableRow) (tag : Tag) (ws : List Waiter) → ((w : Waiter) → row_eq row (awaited_row tag w) ≡ false) → awaited_in tag ws row ≡ 0
none-shown row tag [] none = refl
none-shown row tag (w ∷ ws) none =
    let sum : awaited_in tag (w ∷ ws) row ≡ (if row_eq row (awaited_row tag w) then 1 else 0) + awaited_in tag ws row = count_by-cons (λ (x : Waiter). row_eq row (awaited_row tag x)) w ws in
    let here : ◌≡◌ {A = ℕ} (if row_eq row (awaited_row tag w) then 1 else 0) 0 = ap (λ b. if b then 1 else 0) (none w) in
    let rest = none-shown row tag ws none in
    omega arith

some-shown : (row : TableRow) (tag : Tag) (ws : List Waiter) → row.granted ≡ false → tag_eq row.tag tag ≡ true → awaited_in tag ws row ≡ times_of row.session row.mode (map shown_wait ws)
some-shown row tag [] awaited same = refl
some-shown row tag (w ∷ ws) awaited same =
    let sum : awaited_in tag (w ∷ ws) row ≡ (if row_eq row (awaited_row tag w) then 1 else 0) + awaited_in tag ws row = count_by-cons (λ (x : Waiter). row_eq row (awaited_row tag x)) w ws in
    let all : times_of row.session row.mode (shown_wait w ∷ map shown_wait ws) ≡ (if (w.session == row.session) && mode_eq w.mode row.mode then 1 else 0) + times_of row.session row.mode (map shown_wait ws) =
    count_by-cons (λ (wait : Wait). (wait.session == row.session) && mode_eq wait.mode row.mode) (shown_wait w) (map shown_wait ws) in
    let here : ◌≡◌ {A = ℕ} (if row_eq row (awaited_row tag w) then 1 else 0) (if (w.session == row.session) && mode_eq w.mode row.mode then 1 else 0) = ap (λ b. if b then 1 else 0) (row-awaited row tag w awaited same) in
    let rest = some-shown row tag ws awaited same in
    omega arith

place-shows : (slot : Option QueueRecord) (row : TableRow) → row.granted ≡ false → awaited_at row slot ≡ times_of row.session row.mode (waits_at row.tag slot)
place-shows None row awaited = refl
place-shows (Some q) row awaited =
    elim (cases_Bool (tag_eq row.tag q.tag)) [
      | inl same ↦
          some-shown row q.tag q.waiters.items awaited same
          ∙ sym (ap (times_of row.session row.mode) (cond-true (tag_eq row.tag q.tag) (map shown_wait q.waiters.items) [] same))
      | inr other ↦
          none-shown row q.tag q.waiters.items (λ w. row-elsewhere row q.tag w other)
          ∙ sym (ap (times_of row.session row.mode) (cond-false (tag_eq row.tag q.tag) (map shown_wait q.waiters.items) [] other))
    ]

places-front : (s : Option QueueRecord) (slots : List (Option QueueRecord)) (n : ℕ) (row : TableRow) → awaited_below (s ∷ slots) (suc n) row ≡ awaited_at row s + awaited_below slots n row
unfolding awaited_below
places-front s slots zero row = let sum : 0 + awaited_at row s ≡ awaited_at row s + 0 = omega arith in sum
places-front s slots (suc n) row =
    let before = places-front s slots n row in
    let sum : awaited_below (s ∷ slots) (suc n) row + awaited_at row (queue_at slots n) ≡ awaited_at row s + (awaited_below slots n row + awaited_at row (queue_at slots n)) = omega arith in
    sum

all-awaited : (slots : List (Option QueueRecord)) (row : TableRow) → row.granted ≡ false → awaited_below slots (length slots) row ≡ times_of row.session row.mode (queue_on slots row.tag)
unfolding awaited_below queue_on
all-awaited [] row awaited = refl
all-awaited (s ∷ slots) row awaited =
    let front : awaited_below (s ∷ slots) (suc (length slots)) row ≡ awaited_at row s + awaited_below slots (length slots) row = places-front s slots (length slots) row in
    let here = place-shows s row awaited in
    let rest : awaited_below slots (length slots) row ≡ times_of row.session row.mode (queue_on slots row.tag) = all-awaited slots row awaited in
    let all : times_of row.session row.mode (waits_at row.tag s ++ queue_on slots row.tag) ≡ times_of row.session row.mode (waits_at row.tag s) + times_of row.session row.mode (queue_on slots row.tag) =
    count_by-append (λ (wait : Wait). (wait.session == row.session) && mode_eq wait.mode row.mode) (waits_at row.tag s) (queue_on slots row.tag) in
    front ∙ (let sum : awaited_at row s + awaited_below slots (length slots) row ≡ times_of row.session row.mode (waits_at row.tag s) + times_of row.session row.mode (queue_on slots row.tag) = omega arith in sum) ∙ sym all

granted-at : (slot : Option QueueRecord) (row : TableRow) → row.granted ≡ true → awaited_at row slot ≡ 0
granted-at None row granted = refl
granted-at (Some q) row granted = none-shown row q.tag q.waiters.items (λ w. row-granted row q.tag w granted)

all-granted : (slots : List (Option QueueRecord)) (n : ℕ) (row : TableRow) → row.granted ≡ true → awaited_below slots n row ≡ 0
unfolding awaited_below
all-granted slots zero row granted = refl
all-granted slots (suc n) row granted = let a = all-granted slots n row granted in let b = granted-at (queue_at slots n) row granted in omega arith

-- Places without a queue show nothing, and places past the last one.
pub waits-start : (slots : List (Option QueueRecord)) (row : TableRow) → awaited_below slots 0 row ≡ 0
unfolding awaited_below
waits-start slots row = refl

pub waits-next : (slots : List (Option QueueRecord)) (n : ℕ) (row : TableRow) → awaited_below slots (n + 1) row ≡ awaited_below slots n row + awaited_at row (queue_at slots n)
unfolding awaited_below
waits-next slots n row = ap (λ k. awaited_below slots k row) (add-one n)

pub waits-none : (slots : List (Option QueueRecord)) (n : ℕ) (row : TableRow) → queue_at slots n ≡ None → awaited_below slots n row ≡ awaited_below slots (n + 1) row
waits-none slots n row none =
    let next = waits-next slots n row in
    let zero_more : awaited_at row (queue_at slots n) ≡ 0 = ap (awaited_at row) none in
    omega arith

waits-past : (slots : List (Option QueueRecord)) (n k : ℕ) (row : TableRow) → length slots ≤ n → awaited_below slots (n + k) row ≡ awaited_below slots n row
waits-past slots n zero row past = ap (λ j. awaited_below slots j row) (let e : n + 0 ≡ n = omega arith in e)
waits-past slots n (suc k) row past =
    ap (λ j. awaited_below slots j row) (let e : n + suc k ≡ n + k + 1 = omega arith in e)
    ∙ sym (waits-none slots (n + k) row (get_or_past slots (n + k) None (omega arith))) ∙ waits-past slots n k row past

pub waits-all : (slots : List (Option QueueRecord)) (n : ℕ) (row : TableRow) → length slots ≤ n → awaited_below slots n row ≡ awaited_below slots (length slots) row
waits-all slots n row past =
    ap (λ j. awaited_below slots j row) (let e : n ≡ length slots + (n - length slots) = omega arith in e) ∙ waits-past slots (length slots) (n - length slots) row (omega arith)

awaited-shown : (slots : List (Option QueueRecord)) (row : TableRow) → row.granted ≡ false → count_by (λ wait. wait.session == row.session) (queue_on slots row.tag) ≤ 1 →
    awaited_below slots (length slots) row ≡ (if list_any (λ w. (w.session == row.session) && mode_eq w.mode row.mode) (queue_on slots row.tag) then 1 else 0)
awaited-shown slots row awaited one =
    let fewer = fewer-pass (λ (wait : Wait). (wait.session == row.session) && mode_eq wait.mode row.mode) (λ (wait : Wait). wait.session == row.session) (queue_on slots row.tag) (λ wait both. (and_parts _ _ both).0) in
    all-awaited slots row awaited
    ∙ once_or_not (λ (wait : Wait). (wait.session == row.session) && mode_eq wait.mode row.mode) (queue_on slots row.tag) (omega arith)

-- Together they show each row of the content once.
pub shown-once : (view : RecordView) (row : TableRow) → AreHolders view.holders row.tag → count_by (λ wait. wait.session == row.session) (queue_on view.queues row.tag) ≤ 1 →
    shown_below view.holders (length view.holders) row + awaited_below view.queues (length view.queues) row ≡ (if has_row (content_of view) row then 1 else 0)
shown-once view row are one =
    elim (cases_Bool row.granted) [
      | inl granted ↦
          let a = shown-granted view.holders row are granted in
          let b = all-granted view.queues (length view.queues) row granted in
          (let sum : shown_below view.holders (length view.holders) row + awaited_below view.queues (length view.queues) row ≡ shown_below view.holders (length view.holders) row = omega arith in sum)
          ∙ a ∙ ap (λ b. if (if b then (content_of view).holds row.session row.tag row.mode else list_any (λ w. (w.session == row.session) && mode_eq w.mode row.mode) ((content_of view).waits row.tag)) then 1 else 0) (sym granted)
      | inr awaited ↦
          let a = shown-awaited view.holders (length view.holders) row awaited in
          let b = awaited-shown view.queues row awaited one in
          (let sum : shown_below view.holders (length view.holders) row + awaited_below view.queues (length view.queues) row ≡ awaited_below view.queues (length view.queues) row = omega arith in sum)
          ∙ b ∙ ap (λ b. if (if b then (content_of view).holds row.session row.tag row.mode else list_any (λ w. (w.session == row.session) && mode_eq w.mode row.mode) ((content_of view).waits row.tag)) then 1 else 0) (sym awaited)
    ]

-- One wait more.
pub awaited-more : (tag : Tag) (waiters : List Waiter) (i : ℕ) (w : Waiter) (row : TableRow) → i < length waiters → w ≡ get_or waiters i w →
    awaited_in tag (take i waiters) row + (if row_eq row (awaited_row tag w) then 1 else 0) ≡ awaited_in tag (take (i + 1) waiters) row
awaited-more tag waiters i w row within is =
    let all : awaited_in tag (take (i + 1) waiters) row ≡ awaited_in tag (take i waiters) row + count_by (λ (x : Waiter). row_eq row (awaited_row tag x)) (w ∷ []) =
    ap (λ ws. awaited_in tag ws row) (take_one_more waiters i w within is) ∙ count_by-append (λ (x : Waiter). row_eq row (awaited_row tag x)) (take i waiters) (w ∷ []) in
    let one : count_by (λ (x : Waiter). row_eq row (awaited_row tag x)) (w ∷ []) ≡ (if row_eq row (awaited_row tag w) then 1 else 0) + 0 =
    count_by-cons (λ (x : Waiter). row_eq row (awaited_row tag x)) w [] in
    omega arith

-- What holds at an `Ok`.
pub on-ok : {T E : Type 0} (r : Result T E) (P : Type 0) → is_ok r ≡ true → OnOk r P → P
on-ok (Ok x) P is ok = ok
on-ok (Err e) P is ok = absurd (false≢true is)
