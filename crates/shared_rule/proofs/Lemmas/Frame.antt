use Rattle.std.proofs.Common.{◌≡◌, ◌≢◌, ℕ, Bool, true, false, ◌<◌, ◌≤◌, List, [], ◌∷◌, ◌++◌, length, Option, None, refl, sym, ap, ◌∙◌, subst, inl, inr}
use Rattle.std.specs.Prelude.{slice_get, slice_set}
use Rattle.std.specs.Prelude.{◌&&◌, not}
use Rattle.std.proofs.lemmas.Bool.{cases_eq, eq-eqb, ne_eqb}
use mathlib.Core.Option.{some}
use mathlib.Core.Option as maybe
use lib.ListN.{get_elem?}
use Rattle.atomic_table.specs.Table.{State}
use Rattle.lock_table.specs.declared.request.Request.{Request}
use Rattle.lock_table.specs.Content.{Content}
use Rattle.lock_world.specs.declared.events.Event.{Event}
use Rattle.lock_world.specs.declared.events.Step.{Step}
use Rattle.lock_world.specs.World.{World, Words, Numbers, MakesSteps, opening}
use Rattle.lock_world.specs.SafeWorld.{SafeWorld}
use Rattle.lock_world.specs.SlotHolds.{most_groups}
use Rattle.lock_world.specs.Account.{Account, account}
use Rattle.lock_world.specs.Happens.{HappensStep}
use Rattle.lock_world.specs.Happens.Counters.{most_counted}
use Rattle.lock_world.proofs.Lemmas.SafeWorld.Runs.{event-safe}
use Rattle.lock_world.proofs.Lemmas.Others.Events.{event-others}
use Rattle.shared_rule.specs.declared.history.Mark.{Mark}
use Rattle.shared_rule.specs.declared.history.History.{History}
use Rattle.shared_rule.specs.declared.rule.TableSizes.{TableSizes}
use Rattle.shared_rule.specs.declared.history.View.{View}
use Rattle.shared_rule.specs.declared.kept.Kept.{Kept}
use Rattle.shared_rule.specs.Shown.{WordsAreShown}
use Rattle.shared_rule.specs.Allowed.{steps, RuledNext}
use Rattle.shared_rule.specs.History.{noted, told, noting_first, noting, keeper}
use Rattle.shared_rule.proofs.Lemmas.ClosedCounts.{opener-set}
use Rattle.shared_rule.specs.Tells.{Tells, LooksOnly, at_list, at_lock, calls_waiter, calls_sleeper, at_wait, at_sleep, TellsTurn, events_of, is_turn_of}
use Rattle.lw_word.specs.LightweightWord.{IsHeldByNobody, IsListLocked}
use Rattle.lock_world.specs.WaitLists.{lock_word}
use Rattle.lock_world.specs.declared.events.Step.TheVariants.{AskCancel}
use Rattle.lock_world.specs.Wakes.{Turn, happened, saw_list_locked, saw_held, Beside, called_waiter, called_sleeper, parks_waiting, parks_asleep, Keeps, IsInOrder, beside_after}
use Rattle.lock_world.specs.Wakes.Waking.{NoneOr}
use Rattle.lock_world.specs.Wakes.Owing.{HasNothingToDo, MaySleep, Asks}
use Rattle.lock_world.proofs.Lemmas.Wakes.Live.{step-alone}
use Rattle.lock_table.specs.Put.{set_at}
use Rattle.lock_table.proofs.Lemmas.Put.{set_at-else}
use Rattle.shared_rule.specs.Marks.{Asked, SawListLocked, SawHeld, CalledWaiter, CalledSleeper, ParksWaiting, ParksAsleep}
use Rattle.shared_rule.specs.History as history
use Rattle.shared_rule.specs.Owed.{owed_noted, owed_told}
use Rattle.shared_rule.specs.Todos.{Todo, without_lost, no_content, todo_noted, flagged_noted, todo_told_by, flagged_told_by}
use Rattle.shared_rule.proofs.Lemmas.Idle.{told-lists}
use Rattle.shared_rule.proofs.Lemmas.Calls.{step-owed, call-owed, asked-word}
use Rattle.shared_rule.proofs.Lemmas.Turns.{events-push, events-look}
use Rattle.shared_rule.proofs.Lemmas.StepsOwed.{KeepsOwed, todo-others, flagged-others, due-others, tries-others, due-here, tries-here, calls-here}
use Rattle.shared_rule.specs.Ruled.{todo_of, todo_with, OwesAsTold, StandsAtSeat, WakesAreKept, OpenerHasClosed, NoneBeyondSlots, ContentsAreHome, ListsAreHome, HistoryIsShown, Ruled}
use Rattle.shared_rule.proofs.Lemmas.Told.{leads-push, another's, tells-no_seats}
use Rattle.modes_core.specs.Sessions.{most_sessions}
use Rattle.shared_rule.proofs.Lemmas.NotedViews.{wakes-then, shown, seats-noted, steps-noted, steps-looked, closed_so-looked, closed_so-noted}

-- What the session that goes on by itself at a seat knows of the World, and what holds there.
pub record Stepper (sizes : TableSizes) (w : World) (number : ℕ) (a : Account) : Type 0 where
  pub safe : SafeWorld w
  pub is_limit : w.numbers.limit ≡ sizes.sessions
  pub are_groups : w.numbers.groups ≡ sizes.groups
  pub few : sizes.sessions ≤ most_sessions
  pub some_groups : 0 < sizes.groups
  pub few_groups : sizes.groups ≤ most_groups
  pub makes : MakesSteps w.numbers number
  pub account : a ≡ account w number
  pub none_beyond : NoneBeyondSlots sizes.groups w.words
  pub few_counted : (session : ℕ) → length (w.sessions.counted session) ≤ most_counted

-- A step of it, and what it makes of the World.
pub record IsNoted {T : Type 0} (content : T → Content) (groups : ℕ) (w : World) (number : ℕ) (a : Account) (todo : Todo) (flagged : Bool) (mark : Mark T) (next : Words) : Type 0 where
  pub step : Step
  pub after : World
  pub happens : HappensStep w number step after
  pub tells : Tells number mark step
  pub numbers : after.numbers ≡ w.numbers
  pub account : noted content number a mark ≡ account after number
  pub words : after.words ≡ next
  pub none_beyond : NoneBeyondSlots groups next
  pub few_counted : length (after.sessions.counted number) ≤ most_counted
  pub keeps : KeepsOwed w number todo flagged (todo_noted number a.lists todo mark) (flagged_noted flagged mark) step

-- What a look sees is so, and the session of this number may look; or it calls another; or it looks before it
-- parks, and may park.
pub data IsSeen {T : Type 0} (w : World) (number : ℕ) (todo : Todo) (owed : List ℕ) (mark : Mark T) : Type 0 where
  sees_list_locked : (lock : ℕ) → mark ≡ SawListLocked lock → IsListLocked (lock_word w.words.partition w.words.fast lock) → NoneOr todo.due lock → IsSeen w number todo owed mark
  sees_held : (lock shown : ℕ) → mark ≡ SawHeld lock shown → (IsHeldByNobody (lock_word w.words.partition w.words.fast lock) → ⊥) → NoneOr todo.tries lock → IsSeen w number todo owed mark
  calls_one_waiting : (other : ℕ) → mark ≡ CalledWaiter other → IsSeen w number todo owed mark
  calls_one_asleep : (other : ℕ) → mark ≡ CalledSleeper other → IsSeen w number todo owed mark
  parks_on_wait : (shown : ℕ) → mark ≡ ParksWaiting shown → shown ≡ w.words.wait number
      → ((b : Beside) → without_lost todo ≡ todo_of b number → OwesAsTold b number owed → HasNothingToDo w b.duties b.waits b.sleeps number) → IsSeen w number todo owed mark
  parks_on_sleep : (shown : ℕ) → mark ≡ ParksAsleep shown → shown ≡ w.words.sleep number
      → ((b : Beside) → without_lost todo ≡ todo_of b number → OwesAsTold b number owed → MaySleep w b.duties b.waits b.sleeps number) → IsSeen w number todo owed mark

module _ {T : Type 0} (content : T → Content) (begun : T → Option Request) (sizes : TableSizes) (s : State (Kept T) (View T)) (r : Ruled content begun sizes s)
    (id : ℕ) (view : View T) (x : History T) (others : List (History T)) (at : get_elem? s.views id ≡ some view) (is : view.sessions ≡ x ∷ others) where
  pub history_of : HistoryIsShown content r.world r.seats.seat_of r.seats.place_in id 0 view.sessions x
  history_of = r.seats.history id 0 view x at (ap (λ sessions. slice_get sessions 0) is)

  pub ruled-steps : Stepper sizes r.world x.number (told content x.number x.marks)
  ruled-steps = record {
    safe = r.safe;
    is_limit = r.is_limit;
    are_groups = r.are_groups;
    few = r.shown.few;
    some_groups = r.shown.some_groups;
    few_groups = r.shown.few_groups;
    makes = record { live = history_of.live; by_itself = history_of.kept_by ∙ ap (λ sessions. keeper sessions 0) is };
    account = history_of.account;
    none_beyond = r.shown.none_beyond;
    few_counted = r.shown.few_counted;
  }

  pub ruled-noted :
      (mark : Mark T) (words : Words) (table : List ℕ) (homes : List (maybe.Option (Kept T))) (noted : IsNoted content sizes.groups r.world x.number (told content x.number x.marks) (todo_told_by x.number x.marks) (flagged_told_by x.marks) mark words)
      → WordsAreShown sizes table words → ContentsAreHome content begun homes noted.after.contents
      → ListsAreHome sizes.sessions homes noted.after.sessions.has_list noted.after.words.list
      → RuledNext content begun sizes r.events view (noting view mark) (record { words = table; homes = homes; views = slice_set s.views id (noting view mark) })
  ruled-noted mark words table homes noted shown home lists =
      let event : Event = record { session = x.number; step = noted.step } in
      let left : (k : ℕ) → k ≢ x.number → account noted.after k ≡ account r.world k = λ k other. (event-others r.world noted.after event k r.safe noted.happens other).account in
      record {
        goes_on = steps mark x others noted.step is refl (tells-no_seats x.number mark noted.step noted.tells) refl;
        rule = record {
          world = noted.after;
          events = r.events ++ event ∷ [];
          run = leads-push (opening sizes.sessions sizes.groups) r.events event r.world noted.after r.run noted.happens;
          steps = steps-noted content r.world noted.after s.views id view x others mark at is noted.numbers left noted.account
              r.safe.but_slots.table.carriers.numbers.live_is_issued r.seats r.events noted.step noted.tells r.steps;
          closed_so = closed_so-noted content r.world noted.after s.views id view x others mark at is noted.numbers left noted.account
              r.safe.but_slots.table.carriers.numbers.live_is_issued r.seats (opening sizes.sessions sizes.groups) r.events event noted.happens r.closed_so;
          safe = event-safe r.world event noted.after r.safe noted.happens;
          is_limit = ap (λ (n : Numbers). n.limit) noted.numbers ∙ r.is_limit;
          are_groups = ap (λ (n : Numbers). n.groups) noted.numbers ∙ r.are_groups;
          shown = record {
            few = r.shown.few;
            some_groups = r.shown.some_groups;
            few_groups = r.shown.few_groups;
            of_words = subst (WordsAreShown sizes table) (sym noted.words) shown;
            none_beyond = subst (NoneBeyondSlots sizes.groups) (sym noted.words) noted.none_beyond;
            few_counted = λ k. elim (cases_eq k x.number) [
              | inl same ↦ subst (λ n. length (noted.after.sessions.counted n) ≤ most_counted) (sym same) noted.few_counted
              | inr other ↦ subst (λ (a : Account). length a.fast.counted ≤ most_counted) (sym (left k other)) (r.shown.few_counted k)
            ];
            of_contents = home;
            of_lists = lists;
          };
          seats = seats-noted content r.world noted.after s.views id view x others mark at is noted.numbers left noted.account
              r.safe.but_slots.table.carriers.numbers.live_is_issued r.seats;
          closed = subst (λ (n : Numbers). OpenerHasClosed (slice_set s.views id (noting view mark)) n) (sym noted.numbers)
              (opener-set r.world.numbers s.views id view (noting view mark) at refl (λ n says. says) r.closed);
          wakes = wakes-then content r.world noted.after s.views id view x others mark at is noted.numbers left noted.account
              r.safe.but_slots.table.carriers.numbers.live_is_issued r.seats sizes r.events (r.events ++ event ∷ []) r.wakes (happened event) ((noted.happens, asks), noted.keeps.in_order)
              (events-push r.wakes.turns event ∙ ap (λ events. events ++ event ∷ []) r.wakes.events_)
              (λ i. eq-eqb x.number x.number refl i && not (tells-no_seats x.number mark noted.step noted.tells i)) noted.tells
              (λ k other. another's k event other)
              (ap (λ lists. without_lost (todo_noted x.number lists (todo_told_by x.number x.marks) mark)) (sym (told-lists content x.number x.marks)) ∙ noted.keeps.todo_ r.wakes.beside own_todo)
              (noted.keeps.flagged_ r.wakes.beside own_flagged)
              (step-owed r.world r.wakes.beside x.number (owed_told x.marks) (r.wakes.owed x stood) mark noted.step noted.tells asked)
              (λ k other. todo-others r.world r.wakes.beside x.number k other noted.step) (λ k other. flagged-others r.world r.wakes.beside.duties x.number k other noted.step)
              (λ k other. (step-alone r.world r.wakes.beside x.number k other noted.step).3);
        };
      } where
        stood : StandsAtSeat s.views x
        stood = record { seat = id; place = 0; view = view; there = at; stands = ap (λ sessions. slice_get sessions 0) is }

        own_todo : without_lost (todo_told_by x.number x.marks) ≡ todo_of r.wakes.beside x.number
        own_todo = r.wakes.todo x stood

        own_flagged : flagged_told_by x.marks ≡ r.wakes.beside.duties.flagged x.number
        own_flagged = r.wakes.flagged x stood

        asks : Asks r.world r.wakes.beside.duties r.wakes.beside.waits r.wakes.beside.sleeps x.number noted.step
        asks = noted.keeps.asks r.wakes.beside own_todo own_flagged

        -- whoever was asked to cancel showed what its word shows
        asked : (other before : ℕ) → mark ≡ Asked other before → before ≡ r.world.words.wait other
        asked other before same =
            let told_so : noted.step ≡ AskCancel other = subst (λ m. Tells x.number m noted.step) same noted.tells in
            asked-word r.world noted.after x.number other before (told content x.number x.marks) history_of.account
            (subst (λ its. HappensStep r.world x.number its noted.after) told_so noted.happens)
            (ap (history.noted content x.number (told content x.number x.marks)) (sym same) ∙ noted.account)

  -- A look leaves the account alone, and so does a call.
  look-account : (mark : Mark T) (number : ℕ) (a : Account) → LooksOnly mark → noted content number a mark ≡ a
  look-account mark number a (at_list lock same) = ap (noted content number a) same
  look-account mark number a (at_lock lock shown same) = ap (noted content number a) same
  look-account mark number a (calls_waiter other same) = ap (noted content number a) same
  look-account mark number a (calls_sleeper other same) = ap (noted content number a) same
  look-account mark number a (at_wait shown same) = ap (noted content number a) same
  look-account mark number a (at_sleep shown same) = ap (noted content number a) same

  seen-looks : (mark : Mark T) → IsSeen r.world x.number (todo_told_by x.number x.marks) (owed_told x.marks) mark → LooksOnly mark
  seen-looks mark (sees_list_locked lock same locked none) = at_list lock same
  seen-looks mark (sees_held lock shown same held none) = at_lock lock shown same
  seen-looks mark (calls_one_waiting other same) = calls_waiter other same
  seen-looks mark (calls_one_asleep other same) = calls_sleeper other same
  seen-looks mark (parks_on_wait shown same is may) = at_wait shown same
  seen-looks mark (parks_on_sleep shown same is may) = at_sleep shown same

  stands_there : StandsAtSeat s.views x
  stands_there = record { seat = id; place = 0; view = view; there = at; stands = ap (λ sessions. slice_get sessions 0) is }

  todo-there : without_lost (todo_told_by x.number x.marks) ≡ todo_of r.wakes.beside x.number
  todo-there = r.wakes.todo x stands_there

  flagged-there : flagged_told_by x.marks ≡ r.wakes.beside.duties.flagged x.number
  flagged-there = r.wakes.flagged x stands_there

  owed-there : OwesAsTold r.wakes.beside x.number (owed_told x.marks)
  owed-there = r.wakes.owed x stands_there

  -- A look is a turn of the run, and no event.
  wakes-looked : (mark : Mark T) → LooksOnly mark → (turn : Turn) → Keeps r.world r.wakes.beside turn r.world → IsInOrder r.world turn → events_of (turn ∷ []) ≡ []
      → is_turn_of x.number turn ≡ true → TellsTurn x.number mark turn → ((k : ℕ) → k ≢ x.number → is_turn_of k turn ≡ false)
      → without_lost (todo_told_by x.number (mark ∷ x.marks)) ≡ todo_of (beside_after r.world r.wakes.beside turn) x.number
      → flagged_told_by (mark ∷ x.marks) ≡ (beside_after r.world r.wakes.beside turn).duties.flagged x.number
      → OwesAsTold (beside_after r.world r.wakes.beside turn) x.number (owed_told (mark ∷ x.marks))
      → ((k : ℕ) → k ≢ x.number → todo_of (beside_after r.world r.wakes.beside turn) k ≡ todo_of r.wakes.beside k)
      → ((k : ℕ) → k ≢ x.number → (beside_after r.world r.wakes.beside turn).duties.flagged k ≡ r.wakes.beside.duties.flagged k)
      → ((k : ℕ) → k ≢ x.number → (beside_after r.world r.wakes.beside turn).waits.owed k ≡ r.wakes.beside.waits.owed k)
      → WakesAreKept sizes (slice_set s.views id (noting view mark)) r.events r.world
  wakes-looked mark looks turn keeps in_order no_event own_turn tells other_turn own_todo own_flagged own_owed todo_same flagged_same owed_same =
      wakes-then content r.world r.world s.views id view x others mark at is refl (λ k other. refl) (look-account mark x.number (told content x.number x.marks) looks ∙ history_of.account)
      r.safe.but_slots.table.carriers.numbers.live_is_issued r.seats sizes r.events r.events r.wakes turn (keeps, in_order) (events-look r.wakes.turns turn no_event ∙ r.wakes.events_)
      own_turn tells other_turn own_todo own_flagged own_owed todo_same flagged_same owed_same

  wakes-seen : (mark : Mark T) → IsSeen r.world x.number (todo_told_by x.number x.marks) (owed_told x.marks) mark → WakesAreKept sizes (slice_set s.views id (noting view mark)) r.events r.world
  wakes-seen mark (sees_list_locked lock same locked none) =
      wakes-looked mark (at_list lock same) (saw_list_locked x.number lock)
      (locked, subst (λ (t : Todo). NoneOr t.due lock) todo-there none, refl) tt refl (eq-eqb x.number x.number refl) same (λ k other. ne_eqb x.number k (λ e. other (sym e)))
      (ap (λ m. without_lost (todo_noted x.number (told no_content x.number x.marks).lists (todo_told_by x.number x.marks) m)) same
      ∙ due-here r.wakes.beside.duties (r.wakes.beside.sleeps.owed x.number) x.number (todo_told_by x.number x.marks) todo-there None)
      (ap (flagged_noted (flagged_told_by x.marks)) same ∙ flagged-there)
      (subst (λ m. OwesAsTold r.wakes.beside x.number (owed_noted (owed_told x.marks) m)) (sym same) owed-there)
      (λ k other. due-others r.wakes.beside.duties (r.wakes.beside.sleeps.owed k) x.number k other None) (λ k other. refl) (λ k other. refl)
  wakes-seen mark (sees_held lock shown same held none) =
      wakes-looked mark (at_lock lock shown same) (saw_held x.number lock)
      (held, subst (λ (t : Todo). NoneOr t.tries lock) todo-there none, refl) tt refl (eq-eqb x.number x.number refl) (shown, same) (λ k other. ne_eqb x.number k (λ e. other (sym e)))
      (ap (λ m. without_lost (todo_noted x.number (told no_content x.number x.marks).lists (todo_told_by x.number x.marks) m)) same
      ∙ tries-here r.wakes.beside.duties (r.wakes.beside.sleeps.owed x.number) x.number (todo_told_by x.number x.marks) todo-there None)
      (ap (flagged_noted (flagged_told_by x.marks)) same ∙ flagged-there)
      (subst (λ m. OwesAsTold r.wakes.beside x.number (owed_noted (owed_told x.marks) m)) (sym same) owed-there)
      (λ k other. tries-others r.wakes.beside.duties (r.wakes.beside.sleeps.owed k) x.number k other None) (λ k other. refl) (λ k other. refl)
  wakes-seen mark (calls_one_waiting o same) =
      wakes-looked mark (calls_waiter o same) (called_waiter x.number o)
      refl tt refl (eq-eqb x.number x.number refl) same (λ k other. ne_eqb x.number k (λ e. other (sym e)))
      (ap (λ m. without_lost (todo_noted x.number (told no_content x.number x.marks).lists (todo_told_by x.number x.marks) m)) same ∙ todo-there)
      (ap (flagged_noted (flagged_told_by x.marks)) same ∙ flagged-there)
      (subst (λ m. OwesAsTold (beside_after r.world r.wakes.beside (called_waiter x.number o)) x.number (owed_noted (owed_told x.marks) m)) (sym same)
      (call-owed r.world r.wakes.beside x.number (owed_told x.marks) owed-there o))
      (λ k other. refl) (λ k other. refl) (λ k other. set_at-else r.wakes.beside.waits.owed x.number (set_at (r.wakes.beside.waits.owed x.number) o false) k other)
  wakes-seen mark (calls_one_asleep o same) =
      wakes-looked mark (calls_sleeper o same) (called_sleeper x.number o)
      refl tt refl (eq-eqb x.number x.number refl) same (λ k other. ne_eqb x.number k (λ e. other (sym e)))
      (ap (λ m. without_lost (todo_noted x.number (told no_content x.number x.marks).lists (todo_told_by x.number x.marks) m)) same
      ∙ calls-here r.wakes.beside x.number (todo_told_by x.number x.marks) todo-there o false)
      (ap (flagged_noted (flagged_told_by x.marks)) same ∙ flagged-there)
      (subst (λ m. OwesAsTold r.wakes.beside x.number (owed_noted (owed_told x.marks) m)) (sym same) owed-there)
      (λ k other i. todo_with r.wakes.beside.duties (set_at-else r.wakes.beside.sleeps.owed x.number (set_at (r.wakes.beside.sleeps.owed x.number) o false) k other i) k)
      (λ k other. refl) (λ k other. refl)
  wakes-seen mark (parks_on_wait shown same is may) =
      wakes-looked mark (at_wait shown same) (parks_waiting x.number shown)
      (is, may r.wakes.beside todo-there owed-there, refl) tt refl (eq-eqb x.number x.number refl) same (λ k other. ne_eqb x.number k (λ e. other (sym e)))
      (ap (λ m. without_lost (todo_noted x.number (told no_content x.number x.marks).lists (todo_told_by x.number x.marks) m)) same ∙ todo-there)
      (ap (flagged_noted (flagged_told_by x.marks)) same ∙ flagged-there)
      (subst (λ m. OwesAsTold r.wakes.beside x.number (owed_noted (owed_told x.marks) m)) (sym same) owed-there)
      (λ k other. refl) (λ k other. refl) (λ k other. refl)
  wakes-seen mark (parks_on_sleep shown same is may) =
      wakes-looked mark (at_sleep shown same) (parks_asleep x.number shown)
      (is, may r.wakes.beside todo-there owed-there, refl) tt refl (eq-eqb x.number x.number refl) same (λ k other. ne_eqb x.number k (λ e. other (sym e)))
      (ap (λ m. without_lost (todo_noted x.number (told no_content x.number x.marks).lists (todo_told_by x.number x.marks) m)) same ∙ todo-there)
      (ap (flagged_noted (flagged_told_by x.marks)) same ∙ flagged-there)
      (subst (λ m. OwesAsTold r.wakes.beside x.number (owed_noted (owed_told x.marks) m)) (sym same) owed-there)
      (λ k other. refl) (λ k other. refl) (λ k other. refl)

  -- A look, or a call, keeps the rule.
  pub ruled-looked : (mark : Mark T) → IsSeen r.world x.number (todo_told_by x.number x.marks) (owed_told x.marks) mark
      → RuledNext content begun sizes r.events view (noting view mark) (record { words = s.words; homes = s.homes; views = slice_set s.views id (noting view mark) })
  ruled-looked mark seen =
      let w : World = r.world in
      let looks = seen-looks mark seen in
      let now : noted content x.number (told content x.number x.marks) mark ≡ account w x.number = look-account mark x.number (told content x.number x.marks) looks ∙ history_of.account in
      let young = r.safe.but_slots.table.carriers.numbers.live_is_issued in
      record {
        goes_on = Rattle.shared_rule.specs.Allowed.looks mark refl refl;
        rule = record {
          world = w;
          events = r.events;
          run = r.run;
          steps = steps-looked content w w s.views id view x others mark at is refl (λ k other. refl) now young r.seats r.events looks r.steps;
          closed_so = closed_so-looked content w w s.views id view x others mark at is refl (λ k other. refl) now young r.seats (opening sizes.sessions sizes.groups) r.events r.closed_so refl;
          safe = r.safe;
          is_limit = r.is_limit;
          are_groups = r.are_groups;
          shown = r.shown;
          seats = seats-noted content w w s.views id view x others mark at is refl (λ k other. refl) now young r.seats;
          closed = opener-set w.numbers s.views id view (noting view mark) at refl (λ n says. says) r.closed;
          wakes = wakes-seen mark seen;
        };
      }
