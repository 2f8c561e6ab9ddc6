use Rattle.std.proofs.Common.{◌≡◌, ℕ, zero, suc, ◌+◌, ◌<◌, ◌≤◌, List, [], ◌∷◌, ◌++◌, length, Option, Some, None, refl, sym, ap, ◌∙◌, subst, inl, inr, arith}
use Rattle.std.specs.Prelude.{slice_get, option_to_list}
use mathlib.Core.Option.{some, some-injective, some-ne-none}
use lib.ListN.{get_elem?}
use Rattle.atomic_table.specs.Table as table
use Rattle.atomic_table.proofs.Lists.{at_map}
use Rattle.lw_word.specs.WaitList.{Waiting}
use Rattle.lock_table.specs.declared.request.Request.{Request}
use Rattle.lock_table.specs.Content.{Content}
use Rattle.lock_table.specs.Parts.{AreEmptyParts}
use Rattle.lock_world.specs.SlotHolds.{most_groups}
use Rattle.lock_world.specs.World.{opening}
use Rattle.lock_table.specs.Total.{total}
use Rattle.lock_world.proofs.Lemmas.SafeWorld.Opening.{opening-safe}
use Rattle.shared_rule.specs.declared.history.History.{History}
use Rattle.shared_rule.specs.declared.rule.TableSizes.{TableSizes}
use Rattle.shared_rule.specs.declared.history.PlacedView.{PlacedView}
use Rattle.shared_rule.specs.declared.history.View.{View}
use Rattle.shared_rule.specs.Places.{AreInPlace, RuledInOrder, opening_in_place}
use Rattle.shared_rule.specs.declared.kept.Kept.{Kept}
use Rattle.shared_rule.specs.declared.kept.Kept.TheVariants as kept
use Rattle.shared_rule.specs.Layout.{content_shelf_of, list_shelf_of}
use Rattle.shared_rule.specs.Shown.{WordsAreShown}
use Rattle.shared_rule.specs.History.{opening_view}
use Rattle.std.proofs.lemmas.Bool.{cases_eq}
use Rattle.shared_rule.specs.Opening.{IsNew, IsEmptyList, AreNew}
use Rattle.lock_world.specs.Wakes.{nothing_beside}
use Rattle.std.proofs.lemmas.Bool.{false≢true}
use Rattle.shared_rule.specs.Ruled.{ClosedAreCounted, SeatsAreShown, StandsAmong, Ruled}
use Rattle.modes_core.specs.Sessions.{most_sessions}

-- The table before the first step meets the rule.

-- What one list says is there the other says too.
get-there : {A : Type 0} (xs : List A) (i : ℕ) (a : A) → slice_get xs i ≡ Some a → get_elem? xs i ≡ some a
get-there [] i a get = absurd (cc (get))
get-there (x ∷ xs) zero a get = let same : x ≡ a = cc (get) in ap some same
get-there (x ∷ xs) (suc i) a get = get-there xs i a get

module _ {T : Type 0} (content : T → Content) (begun : T → Option Request) (sizes : TableSizes) where
  -- the opener's seat is the only one
  only-one : (seat : ℕ) (view : View T) → get_elem? (opening_view ∷ []) seat ≡ some view → (seat ≡ 0) × (opening_view ≡ view)
  only-one zero view there = (refl, some-injective opening_view view there)
  only-one (suc seat) view there = absurd (some-ne-none view (sym there))

  opening-seats : SeatsAreShown content (opening_view ∷ []) (opening sizes.sessions sizes.groups)
  opening-seats = record {
    seat_of = λ _. 0;
    place_in = λ _. 0;
    history = λ seat place view history there stands.
        let never : ◌≡◌ {A = Option (History T)} None (Some history) = ap (λ (z : View T). slice_get z.sessions place) (only-one seat view there).1 ∙ stands in absurd (cc (never));
    behind = λ session joiner kept. absurd (cc (kept));
    opener = 0;
    next = λ seat view number there says.
        let only = only-one seat view there in
        let both : Some 0 ≡ Some number = ap (λ (z : View T). z.next) only.1 ∙ says in
        let same : ◌≡◌ {A = ℕ} 0 number = cc (both) in
        (only.0, sym same);
    closed = λ seat place view history there says.
        let never : ◌≡◌ {A = Option (History T)} None (Some history) = ap (λ (z : View T). slice_get z.closed place) (only-one seat view there).1 ∙ says in absurd (cc (never));
    not_issued = λ number later. refl;
  }

  -- and nobody stands there
  nobody-there : {P : Type 0} (these : View T → List (History T)) → ((place : ℕ) → slice_get (these opening_view) place ≡ None) → (h : History T)
      → StandsAmong these (opening_view ∷ []) h → P
  nobody-there these none h stands =
      let never : ◌≡◌ {A = Option (History T)} None (Some h) =
      sym (none stands.place) ∙ ap (λ (z : View T). slice_get (these z) stands.place) (only-one stands.seat stands.view stands.there).1 ∙ stands.stands in absurd (cc (never))

  -- nobody was given out, and nobody has closed
  none-closed : ClosedAreCounted {T = T} (opening sizes.sessions sizes.groups).numbers []
  unfolding total
  none-closed = record { once = λ number. omega arith; all = refl }

  pub opening-ruled : sizes.sessions ≤ most_sessions → 0 < sizes.groups → sizes.groups ≤ most_groups → (words : List ℕ) → WordsAreShown sizes words (opening 0 0).words → (slots : List (Kept T)) → AreNew content begun sizes.sessions slots
      → Ruled content begun sizes (table.opening words slots opening_view)
  opening-ruled few some_groups few_groups words shown slots new = record {
    world = opening sizes.sessions sizes.groups;
    events = [];
    run = refl;
    steps = record {
      opener = record { seat = 0; view = opening_view; there = refl; next = refl };
      live = λ number alive. absurd (cc (alive));
      at_seat = λ h stands. nobody-there (λ (z : View T). z.sessions) (λ _. refl) h stands;
      closed = λ h stands. nobody-there (λ (z : View T). z.closed) (λ _. refl) h stands;
      none = λ number later. refl;
    };
    closed_so = λ h stands. nobody-there (λ (z : View T). z.closed) (λ _. refl) h stands;
    safe = opening-safe sizes.sessions sizes.groups (omega (arith, few));
    is_limit = refl;
    are_groups = refl;
    shown = record {
      few = few;
      some_groups = some_groups;
      few_groups = few_groups;
      of_words = shown;
      none_beyond = λ _ _ _. refl;
      few_counted = λ session. omega arith;
      of_contents = λ p exists.
          let part = new.new p exists in
          record {
            part = part.part;
            at_home = at_map some slots (content_shelf_of p) (kept.Part part.part) (get-there slots (content_shelf_of p) (kept.Part part.part) part.is_there);
            is_content = part.blank.is_empty;
            none_begun = part.blank.none_begun;
          };
      of_lists = λ lock within nobody.
          let there = new.empty lock within in
          record {
            list = there.list;
            at_home = at_map some slots (list_shelf_of lock) (kept.List there.list) (get-there slots (list_shelf_of lock) (kept.List there.list) there.is_there);
            is_list = ap (λ (list : Waiting). list.waiters) there.empty;
            has_room = ap (λ (list : Waiting). list.room) there.empty;
          };
    };
    seats = opening-seats;
    closed = λ seat view number there says. subst (λ (z : View T). ClosedAreCounted (opening sizes.sessions sizes.groups).numbers z.closed) (only-one seat view there).1 none-closed;
    wakes = record {
      turns = [];
      beside = nothing_beside;
      run = (omega (arith, few), (refl, refl));
      events_ = refl;
      told = record {
        at_seat = λ h stands. nobody-there (λ (z : View T). z.sessions) (λ _. refl) h stands;
        closed = λ h stands. nobody-there (λ (z : View T). z.closed) (λ _. refl) h stands;
        none = λ number later. refl;
      };
      todo = λ h stands. nobody-there (λ (z : View T). z.sessions) (λ _. refl) h stands;
      flagged = λ h stands. nobody-there (λ (z : View T). z.sessions) (λ _. refl) h stands;
      owed = λ h stands. nobody-there (λ (z : View T). z.sessions) (λ _. refl) h stands;
      none_todo = λ number later. refl;
      none_flagged = λ number later. refl;
      none_owed = λ number later other owes. absurd (false≢true owes);
    };
  }

-- The last of parts with nothing in them, and the others.
module _ {T : Type 0} (content : T → Content) (begun : T → Option Request) where
  there-longer : (xs ys : List T) (i : ℕ) (x : T) → slice_get xs i ≡ Some x → slice_get (xs ++ ys) i ≡ Some x
  there-longer [] ys i x there = absurd (cc (there))
  there-longer (z ∷ xs) ys zero x there = there
  there-longer (z ∷ xs) ys (suc i) x there = there-longer xs ys i x there

  there-last : (xs : List T) (x : T) → slice_get (xs ++ x ∷ []) (length xs) ≡ Some x
  there-last [] x = refl
  there-last (z ∷ xs) x = there-last xs x

  pub others-empty : (old new : List T) (last : Option T) → old ≡ new ++ option_to_list last → AreEmptyParts content begun old → AreEmptyParts content begun new
  others-empty old new last is empty i part there = empty i part (ap (λ parts. slice_get parts i) is ∙ there-longer new (option_to_list last) i part there)

  pub last-new : (old new : List T) (last : T) → old ≡ new ++ last ∷ [] → AreEmptyParts content begun old
      → IsNew content begun (Some (kept.Part last))
  last-new old new last is empty = record {
    part = last;
    is_there = refl;
    blank = empty (length new) last (ap (λ parts. slice_get parts (length new)) is ∙ there-last new last);
  }

-- What is there is there in a list that is longer by one, and the last one is where the list ended.
module _ {T : Type 0} where
  kept-longer : (xs : List (Kept T)) (y : Kept T) (i : ℕ) (x : Kept T) → slice_get xs i ≡ Some x → slice_get (xs ++ y ∷ []) i ≡ Some x
  kept-longer [] y i x there = absurd (cc (there))
  kept-longer (z ∷ xs) y zero x there = there
  kept-longer (z ∷ xs) y (suc i) x there = kept-longer xs y i x there

  kept-last : (xs : List (Kept T)) (y : Kept T) → slice_get (xs ++ y ∷ []) (length xs) ≡ Some y
  kept-last [] y = refl
  kept-last (z ∷ xs) y = kept-last xs y

  pub new-longer : (content : T → Content) (begun : T → Option Request) (old new : List (Kept T)) (y : Kept T) (i : ℕ) → new ≡ old ++ y ∷ []
      → IsNew content begun (slice_get old i) → IsNew content begun (slice_get new i)
  new-longer content begun old new y i is its = record {
    part = its.part;
    is_there = ap (λ (xs : List (Kept T)). slice_get xs i) is ∙ kept-longer old y i (kept.Part its.part) its.is_there;
    blank = its.blank;
  }

  -- The wait lists of all locks below an index are there, and so they are with the one at it.
  pub lists-longer : (sessions : ℕ) (old new : List (Kept T)) (y : Kept T) (shelf index : ℕ) → new ≡ old ++ y ∷ [] → length old ≡ index → shelf < index + 1
      → (shelf < index → IsEmptyList sessions (slice_get old shelf)) → (shelf ≡ index → IsEmptyList sessions (Some y))
      → IsEmptyList sessions (slice_get new shelf)
  lists-longer sessions old new y shelf index is many below before last = elim (cases_eq shelf index) [
    | inl at ↦
        let its = last at in
        record {
          list = its.list;
          is_there = ap (λ (xs : List (Kept T)). slice_get xs shelf) is ∙ ap (slice_get (old ++ y ∷ [])) (at ∙ sym many) ∙ kept-last old y ∙ its.is_there;
          empty = its.empty;
        }
    | inr other ↦
        let its = before (omega (arith, below, other)) in
        record {
          list = its.list;
          is_there = ap (λ (xs : List (Kept T)). slice_get xs shelf) is ∙ kept-longer old y shelf (kept.List its.list) its.is_there;
          empty = its.empty;
        }
  ]

-- It meets it in order: nobody has made a step.
none-placed : {T : Type 0} (these : View T → List (History T)) → ((place : ℕ) → slice_get (these opening_view) place ≡ None) → AreInPlace these (opening_in_place ∷ []) []
none-placed {T} these none zero at placed history there stands =
    let same : opening_in_place ≡ placed = some-injective opening_in_place placed there in
    let never : ◌≡◌ {A = Option (History T)} None (Some history) = sym (none at) ∙ ap (λ (z : PlacedView T). slice_get (these z.view) at) same ∙ stands in absurd (cc (never))
none-placed these none (suc seat) at placed history there stands = absurd (some-ne-none placed (sym there))

pub opening-in-order : {T : Type 0} (content : T → Content) (begun : T → Option Request) (sizes : TableSizes) → sizes.sessions ≤ most_sessions → 0 < sizes.groups → sizes.groups ≤ most_groups
    → (words : List ℕ) → WordsAreShown sizes words (opening 0 0).words → (slots : List (Kept T)) → AreNew content begun sizes.sessions slots
    → RuledInOrder content begun sizes (table.opening words slots opening_in_place)
unfolding opening-ruled
opening-in-order content begun sizes few some_groups few_groups words shown slots new = record {
  rule = opening-ruled content begun sizes few some_groups few_groups words shown slots new;
  placed = record {
    at_seat = none-placed (λ view. view.sessions) (λ _. refl);
    closed = none-placed (λ view. view.closed) (λ _. refl);
  };
}
