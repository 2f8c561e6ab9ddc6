use Rattle.std.proofs.Common.{◌≡◌, ℕ, zero, suc, ◌+◌, ◌<◌, Bool, true, false, not, ◌||◌, ◌&&◌, List, [], ◌∷◌, length, take, map, get_or, Option, Some, None, is_some, option_map, refl, sym, ap, ◌∙◌, subst, inl, inr}
use Rattle.std.specs.Prelude.{◌==◌}
use Rattle.std.proofs.Math.ListN.{set}
use Rattle.std.proofs.Math.Bool.{or-true, or-false, and-true, and-false}
use Rattle.std.specs.List.{list_any}
use Rattle.std.proofs.lemmas.Bool.{cases_eq, false≢true, eq-eqb, ne_eqb, both_ways, not-true, not_from_false, or_from, false_from_ne_true}
use Rattle.std.proofs.lemmas.List.{get_or-set_same, get_or-set_other}
use Rattle.std.proofs.lemmas.List.Folds.{list_any_more}
use Rattle.modes_core.specs.declared.modes.Mode.{Mode}
use Rattle.lock_table.specs.declared.moves.Move.{Move}
use Rattle.lock_model.specs.declared.machine.own_waits.Awaited.{Awaited}
use Rattle.lock_table.specs.Content.{Wait}
use Rattle.lock_table.specs.OwnWait.{OwnWait}
use Rattle.lock_world.specs.Happens.Waits.{recording, unmarked_but}
use Rattle.lock_table.specs.Queue.{waits_there}
use Rattle.lock_table.proofs.Lemmas.Lists.{found_within}
use Rattle.lock_table.specs.MoveTests.{move_eq}
use Rattle.lock_table.proofs.Lemmas.MoveTests.{move_eq-same, move_eq-refl}
use Rattle.lock_model.specs.Shows.{ShowsHandIfAny, is_unmarked_in, none_unmarked, names_in, awaited_of, has_made}
use Rattle.lock_table.specs.Waiter.{whose_and_mode}
use Rattle.lock_world.specs.World.{Hand}

-- One of those woken marked, with those before it.
pub marks-one_more : (marks : List Bool) (woken : List (ℕ × Mode)) (n : ℕ) (whose : ℕ × Mode) (i : ℕ) → i < length marks → i ≡ whose.0 → n < length woken → whose ≡ get_or woken n whose
    → ((k : ℕ) → is_unmarked_in marks k ≡ names_in (take n woken) k) → (k : ℕ) → is_unmarked_in (set marks i true) k ≡ names_in (take (n + 1) woken) k
marks-one_more marks woken n whose i within place in_woken is so_far k =
    elim (cases_eq k i) [
      | inl same ↦
          ap (is_unmarked_in (set marks i true)) same ∙ get_or-set_same marks i true false within
          ∙ sym (more ∙ ap (λ b. names_in (take n woken) k || b) (eq-eqb whose.0 k (sym place ∙ sym same)) ∙ or-true (names_in (take n woken) k))
      | inr other ↦
          get_or-set_other marks i k true false other ∙ so_far k
          ∙ sym (more ∙ ap (λ b. names_in (take n woken) k || b) (ne_eqb whose.0 k (λ e. other (sym e ∙ sym place))) ∙ or-false (names_in (take n woken) k))
    ] where
      more : names_in (take (n + 1) woken) k ≡ (names_in (take n woken) k || (whose.0 == k))
      more = list_any_more (λ x. x.0 == k) woken n whose in_woken ∙ ap (λ (x : ℕ × Mode). names_in (take n woken) k || (x.0 == k)) (sym is)

-- Where nobody is unmarked no session is, and the other way round.
pub none_unmarked-each : (unmarked : List Bool) → none_unmarked unmarked ≡ true → (k : ℕ) → is_unmarked_in unmarked k ≡ false
none_unmarked-each unmarked e k = false_from_ne_true _ (λ marked. both_ways (list_any (λ b. b) unmarked) (not-true _ e) (found_within (λ b. b) unmarked k false refl marked))

none_found : (unmarked : List Bool) → ((k : ℕ) → is_unmarked_in unmarked k ≡ false) → list_any (λ b. b) unmarked ≡ false
none_found [] none = refl
none_found (b ∷ unmarked) none = or_from b (list_any (λ b. b) unmarked) (none zero) (none_found unmarked (λ k. none (suc k)))

pub each-none_unmarked : (unmarked : List Bool) → ((k : ℕ) → is_unmarked_in unmarked k ≡ false) → none_unmarked unmarked ≡ true
each-none_unmarked unmarked none = not_from_false _ (none_found unmarked none)

-- Those that a wakeup names are those whose waits it granted.
pub names_in-granted : (granted : List Wait) (k : ℕ) → names_in (map whose_and_mode granted) k ≡ waits_there granted k
names_in-granted [] k = refl
names_in-granted (wait ∷ granted) k = ap (λ b. (wait.session == k) || b) (names_in-granted granted k)

-- Marks without one are those of all but this one.
pub marks-without : (marks : List Bool) (unmarked : ℕ → Bool) (marked : ℕ) → marked < length marks → ((k : ℕ) → is_unmarked_in marks k ≡ unmarked k) → (k : ℕ) → is_unmarked_in (set marks marked false) k ≡ unmarked_but unmarked marked k
marks-without marks unmarked marked within is k =
    elim (cases_eq k marked) [
      | inl same ↦
          ap (is_unmarked_in (set marks marked false)) same ∙ get_or-set_same marks marked false false within
          ∙ sym (ap (λ b. unmarked k && not b) (eq-eqb k marked same) ∙ and-false (unmarked k))
      | inr other ↦
          get_or-set_other marks marked k false false other ∙ is k
          ∙ sym (ap (λ b. unmarked k && not b) (ne_eqb k marked other) ∙ and-true (unmarked k))
    ]

-- What the test for a recorded move shows.
pub made_is : (recorded : Option Move) (done : Move) → has_made recorded done ≡ true → recorded ≡ Some done
made_is None done e = absurd (false≢true e)
made_is (Some other) done e = ap Some (move_eq-same other done e)

pub is_made : (recorded : Option Move) (done : Move) → recorded ≡ Some done → has_made recorded done ≡ true
is_made recorded done is = ap (λ r. has_made r done) is ∙ move_eq-refl done

pub another_made : (recorded : Option Move) (other done : Move) → recorded ≡ Some other → has_made recorded done ≡ false → move_eq other done ≡ false
another_made recorded other done is e = sym (ap (λ r. has_made r done) is) ∙ e

pub some_made : (recorded : Option Move) → is_some recorded ≡ true → (done : Move) × (recorded ≡ Some done)
some_made None e = absurd (false≢true e)
some_made (Some done) e = (done, refl)

pub none_made : (recorded : Option Move) → is_some recorded ≡ false → recorded ≡ None
none_made None e = refl
none_made (Some done) e = absurd (false≢true (sym e))

-- A hand that records a move is shown by the machine's hand that does.
pub recording-shown : (h : Option Hand) (hand : Hand) (holder : ℕ) (done : Move) (marks : List Bool) (unmarked : ℕ → Bool) → h ≡ Some hand → holder ≡ hand.holder → ((k : ℕ) → is_unmarked_in marks k ≡ unmarked k)
    → ShowsHandIfAny (Some (record { holder = holder; recorded = Some done; unmarked = marks })) (recording h done unmarked)
recording-shown h hand holder done marks unmarked is whose same =
    subst (λ (o : Option Hand). ShowsHandIfAny (Some (record { holder = holder; recorded = Some done; unmarked = marks })) (recording o done unmarked)) (sym is)
    (record { holder = whose; recorded = refl; unmarked = same })

-- What the machine keeps of a wait is of a wait.
pub awaited-some : (o : Option OwnWait) (a : Awaited) → Some a ≡ option_map awaited_of o → (wait : OwnWait) × (o ≡ Some wait) × (wait.tag ≡ a.tag) × (wait.mode ≡ a.mode)
awaited-some None a e = absurd (cc)
awaited-some (Some wait) a e = let same : a ≡ awaited_of wait = cc in (wait, refl, sym (ap (λ (x : Awaited). x.tag) same), sym (ap (λ (x : Awaited). x.mode) same))
