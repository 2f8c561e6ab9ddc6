use Rattle.std.proofs.Common.{◌≡◌, ◌≢◌, ℕ, ◌+◌, ◌<◌, zero, suc, Bool, true, false, cond, not, ◌&&◌, ◌||◌, List, [], ◌∷◌, ◌++◌, length, take, drop, map, get_or, refl, sym, ap, ◌∙◌, inl, inr, arith}
use Rattle.std.specs.Prelude.{◌==◌, filter, All}
use Rattle.std.specs.List.{list_any, count_by}
use Rattle.std.proofs.Math.ListN.{set}
use Rattle.std.proofs.lemmas.Bool.{cases_Bool, cases_eq, cond-true, cond-false, and_parts, not-false, eqb-true, eq-eqb, ne_eqb}
use Rattle.std.proofs.lemmas.List.{map-append, append-nil, length-map}
use Rattle.std.proofs.lemmas.List.Elements.{filter-append}
use Rattle.std.proofs.lemmas.List.Sums.{length-filter, sum_by-cons}
use Rattle.lock_table.specs.Put.{set_at}
use Rattle.lock_table.proofs.Lemmas.Put.{set_at-here, set_at-else}
use Rattle.lock_table.specs.Total.{total}
use Rattle.lock_world.specs.Counted.{Counted}
use Rattle.lock_table.proofs.Lemmas.Totals.{total-same, total-change, total-nothing}
use Rattle.lock_model.specs.declared.machine.state.CountedBy.{CountedBy}
use Rattle.lock_model.specs.Shows.{counted_from, counted_of}

-- What one session has counted, read in the list of all that is counted.

-- An entry of the session is the first of its own,
kept : (s : ℕ) (c : CountedBy) (list : List CountedBy) → c.session == s ≡ true → counted_of s (c ∷ list) ≡ counted_from c ∷ counted_of s list
kept s c list its = ap (map counted_from) (cond-true (c.session == s) (c ∷ filter (λ e. e.session == s) list) (filter (λ e. e.session == s) list) its)

-- and one of another session is none of them.
left_out : (s : ℕ) (c : CountedBy) (list : List CountedBy) → c.session == s ≡ false → counted_of s (c ∷ list) ≡ counted_of s list
left_out s c list other = ap (map counted_from) (cond-false (c.session == s) (c ∷ filter (λ e. e.session == s) list) (filter (λ e. e.session == s) list) other)

pushed : (s : ℕ) (list : List CountedBy) (c : CountedBy) → counted_of s (list ++ c ∷ []) ≡ counted_of s list ++ counted_of s (c ∷ [])
pushed s list c =
    ap (map counted_from) (filter-append (λ e. e.session == s) list (c ∷ []))
    ∙ map-append counted_from (filter (λ e. e.session == s) list) (filter (λ e. e.session == s) (c ∷ []))

-- What a test finds among a session's own it finds among all.
pub any-of_session : (s : ℕ) (test : Counted → Bool) (list : List CountedBy) → list_any (λ c. (c.session == s) && test (counted_from c)) list ≡ list_any test (counted_of s list)
any-of_session s test [] = refl
any-of_session s test (c ∷ list) =
    elim (cases_Bool (c.session == s)) [
      | inl its ↦
          ap (λ b. (b && test (counted_from c)) || list_any (λ e. (e.session == s) && test (counted_from e)) list) its
          ∙ ap (λ b. test (counted_from c) || b) (any-of_session s test list)
          ∙ ap (list_any test) (sym (kept s c list its))
      | inr other ↦
          ap (λ b. (b && test (counted_from c)) || list_any (λ e. (e.session == s) && test (counted_from e)) list) other
          ∙ any-of_session s test list
          ∙ ap (list_any test) (sym (left_out s c list other))
    ]

-- How many are its own.
pub length-of_session : (s : ℕ) (list : List CountedBy) → length (counted_of s list) ≡ count_by (λ c. c.session == s) list
length-of_session s list = length-map (filter (λ c. c.session == s) list) counted_from ∙ length-filter (λ c. c.session == s) list

-- One more is counted: its session has it last, and no other session has it.
pub counted_of-push : (s : ℕ) (list : List CountedBy) (c : CountedBy) → c.session ≡ s → counted_of s (list ++ c ∷ []) ≡ counted_of s list ++ counted_from c ∷ []
counted_of-push s list c its = pushed s list c ∙ ap (λ last. counted_of s list ++ last) (kept s c [] (eq-eqb c.session s its))

pub counted_of-push_else : (s : ℕ) (list : List CountedBy) (c : CountedBy) → c.session ≢ s → counted_of s (list ++ c ∷ []) ≡ counted_of s list
counted_of-push_else s list c other = pushed s list c ∙ ap (λ last. counted_of s list ++ last) (left_out s c [] (ne_eqb c.session s other)) ∙ append-nil (counted_of s list)

-- What passes is taken out of the session's own, and nothing of another's.
pub counted_of-without : (s : ℕ) (test : Counted → Bool) (list : List CountedBy)
    → counted_of s (filter (λ c. not ((c.session == s) && test (counted_from c))) list) ≡ filter (λ c. not (test c)) (counted_of s list)
counted_of-without s test [] = refl
counted_of-without s test (c ∷ list) =
    let keep = λ (e : CountedBy). not ((e.session == s) && test (counted_from e)) in
    elim (cases_Bool (c.session == s)) [
      | inl its ↦ elim (cases_Bool (test (counted_from c))) [
        | inl passes ↦
            let out : keep c ≡ false = ap (λ b. not (b && test (counted_from c))) its ∙ ap not passes in
            ap (counted_of s) (cond-false (keep c) (c ∷ filter keep list) (filter keep list) out)
            ∙ counted_of-without s test list
            ∙ sym (cond-false (not (test (counted_from c))) (counted_from c ∷ filter (λ e. not (test e)) (counted_of s list)) (filter (λ e. not (test e)) (counted_of s list)) (ap not passes))
            ∙ ap (filter (λ e. not (test e))) (sym (kept s c list its))
        | inr fails ↦
            let stays : keep c ≡ true = ap (λ b. not (b && test (counted_from c))) its ∙ ap not fails in
            ap (counted_of s) (cond-true (keep c) (c ∷ filter keep list) (filter keep list) stays)
            ∙ kept s c (filter keep list) its
            ∙ ap (λ own. counted_from c ∷ own) (counted_of-without s test list)
            ∙ sym (cond-true (not (test (counted_from c))) (counted_from c ∷ filter (λ e. not (test e)) (counted_of s list)) (filter (λ e. not (test e)) (counted_of s list)) (ap not fails))
            ∙ ap (filter (λ e. not (test e))) (sym (kept s c list its))
      ]
      | inr other ↦
          let stays : keep c ≡ true = ap (λ b. not (b && test (counted_from c))) other in
          ap (counted_of s) (cond-true (keep c) (c ∷ filter keep list) (filter keep list) stays)
          ∙ left_out s c (filter keep list) other
          ∙ counted_of-without s test list
          ∙ ap (filter (λ e. not (test e))) (sym (left_out s c list other))
    ]

pub counted_of-without_else : (s k : ℕ) (test : Counted → Bool) (list : List CountedBy) → k ≢ s
    → counted_of k (filter (λ c. not ((c.session == s) && test (counted_from c))) list) ≡ counted_of k list
counted_of-without_else s k test [] another = refl
counted_of-without_else s k test (c ∷ list) another =
    let keep = λ (e : CountedBy). not ((e.session == s) && test (counted_from e)) in
    elim (cases_Bool (keep c)) [
      | inl stays ↦
          ap (counted_of k) (cond-true (keep c) (c ∷ filter keep list) (filter keep list) stays)
          ∙ (elim (cases_Bool (c.session == k)) [
            | inl its ↦ kept k c (filter keep list) its ∙ ap (λ own. counted_from c ∷ own) (counted_of-without_else s k test list another) ∙ sym (kept k c list its)
            | inr other ↦ left_out k c (filter keep list) other ∙ counted_of-without_else s k test list another ∙ sym (left_out k c list other)
          ])
      | inr goes ↦
          let its : c.session ≡ s = eqb-true c.session s (and_parts (c.session == s) (test (counted_from c)) (not-false _ goes)).0 in
          ap (counted_of k) (cond-false (keep c) (c ∷ filter keep list) (filter keep list) goes)
          ∙ counted_of-without_else s k test list another
          ∙ sym (left_out k c list (ne_eqb c.session k (λ e. another (sym e ∙ its))))
    ]

-- Where each entry is changed and stays its session's, so are its own.
pub counted_of-map : (s : ℕ) (f : CountedBy → CountedBy) (g : Counted → Counted) (list : List CountedBy) → ((c : CountedBy) → (f c).session ≡ c.session)
    → ((c : CountedBy) → c.session ≡ s → counted_from (f c) ≡ g (counted_from c)) → counted_of s (map f list) ≡ map g (counted_of s list)
counted_of-map s f g [] whose same = refl
counted_of-map s f g (c ∷ list) whose same =
    elim (cases_Bool (c.session == s)) [
      | inl its ↦
          kept s (f c) (map f list) (ap (λ k. k == s) (whose c) ∙ its)
          ∙ ap (λ first. first ∷ counted_of s (map f list)) (same c (eqb-true c.session s its))
          ∙ ap (λ own. g (counted_from c) ∷ own) (counted_of-map s f g list whose same)
          ∙ ap (map g) (sym (kept s c list its))
      | inr other ↦
          left_out s (f c) (map f list) (ap (λ k. k == s) (whose c) ∙ other)
          ∙ counted_of-map s f g list whose same
          ∙ ap (map g) (sym (left_out s c list other))
    ]

-- The counts of all sessions add up to that of the whole list.
pub total-of_sessions : (limit : ℕ) (test : Counted → Bool) (list : List CountedBy) → All (λ c. c.session < limit) list
    → total limit (λ s. count_by test (counted_of s list)) ≡ count_by (λ c. test (counted_from c)) list
total-of_sessions limit test [] within = total-nothing limit _ (λ k _. refl)
total-of_sessions limit test (c ∷ list) within =
    let f : ℕ → ℕ = λ s. count_by test (counted_of s list) in
    let one : ℕ = cond (test (counted_from c)) 1 0 in
    let more = total-same limit (λ s. count_by test (counted_of s (c ∷ list))) (set_at f c.session (one + f c.session)) (λ s _. at s) in
    let change = total-change limit f c.session (one + f c.session) (within 0 c (omega arith)) in
    let before = total-of_sessions limit test list (λ k d below. within (suc k) d (omega (arith, below))) in
    let first : count_by (λ (e : CountedBy). test (counted_from e)) (c ∷ list) ≡ one + count_by (λ (e : CountedBy). test (counted_from e)) list = sum_by-cons (λ (e : CountedBy). cond (test (counted_from e)) 1 0) c list in
    omega (arith, more, change, before, first) where
      at : (s : ℕ) → count_by test (counted_of s (c ∷ list)) ≡ set_at (λ k. count_by test (counted_of k list)) c.session (cond (test (counted_from c)) 1 0 + count_by test (counted_of c.session list)) s
      at s =
          elim (cases_eq s c.session) [
            | inl same ↦
                ap (count_by test) (kept s c list (eq-eqb c.session s (sym same)))
                ∙ sum_by-cons (λ (e : Counted). cond (test e) 1 0) (counted_from c) (counted_of s list)
                ∙ ap (λ k. cond (test (counted_from c)) 1 0 + count_by test (counted_of k list)) same
                ∙ sym (set_at-here (λ k. count_by test (counted_of k list)) c.session _ s same)
            | inr other ↦
                ap (count_by test) (left_out s c list (ne_eqb c.session s (λ e. other (sym e))))
                ∙ sym (set_at-else (λ k. count_by test (counted_of k list)) c.session _ s other)
          ]

-- The elements before a place are changed by f, and now the one there too.
pub mapped_more : {X : Type 0} (f : X → X) (xs done : List X) (i : ℕ) (d y : X) → i < length xs → done ≡ map f (take i xs) ++ drop i xs → y ≡ f (get_or done i d)
    → set done i y ≡ map f (take (i + 1) xs) ++ drop (i + 1) xs
mapped_more {X} f xs done i d y within so_far changed =
    let next : suc i ≡ i + 1 = omega arith in
    ap (λ list. set list i y) so_far
    ∙ ap (set (map f (take i xs) ++ drop i xs) i) (changed ∙ ap f (ap (λ list. get_or list i d) so_far ∙ read xs i within))
    ∙ written xs i within
    ∙ ap (λ k. map f (take k xs) ++ drop k xs) next where
      read : (zs : List X) (k : ℕ) → k < length zs → get_or (map f (take k zs) ++ drop k zs) k d ≡ get_or zs k d
      read [] k below = absurd (omega arith)
      read (z ∷ zs) zero below = refl
      read (z ∷ zs) (suc k) below = read zs k (omega arith)

      written : (zs : List X) (k : ℕ) → k < length zs → set (map f (take k zs) ++ drop k zs) k (f (get_or zs k d)) ≡ map f (take (suc k) zs) ++ drop (suc k) zs
      written [] k below = absurd (omega arith)
      written (z ∷ zs) zero below = refl
      written (z ∷ zs) (suc k) below = ap (λ list. f z ∷ list) (written zs k (omega arith))
