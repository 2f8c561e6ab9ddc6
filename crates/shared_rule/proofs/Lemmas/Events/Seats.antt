use Rattle.std.proofs.Common.{◌≡◌, ◌≢◌, ℕ, ◌+◌, ◌<◌, ◌≤◌, arith, Bool, true, false, List, [], ◌∷◌, ◌++◌, length, Option, Some, None, refl, sym, ap, ◌∙◌, subst, inl, inr}
use Rattle.std.specs.Prelude.{if◌then◌else◌, ◌==◌, slice_get, slice_set}
use mathlib.Core.Option.{some}
use lib.ListN.{get_elem?}
use Rattle.atomic_table.specs.Table.{State, Step, keeps}
use Rattle.atomic_table.proofs.Lists.{at_set, set_else}
use Rattle.lw_word.specs.declared.wait_lists.LwWaiter.{LwWaiter}
use Rattle.lock_table.specs.Put.{set_at}
use Rattle.lock_table.proofs.Lemmas.Put.{set_at-same}
use Rattle.lock_table.specs.declared.request.Request.{Request}
use Rattle.lock_table.specs.Content.{Content}
use Rattle.lock_world.specs.declared.events.Step.TheVariants.{SplitSeat, JoinSeat}
use Rattle.lock_world.specs.World.{World, Hand, Numbers, MakesSteps}
use Rattle.lock_world.specs.Safe.{is_hand_of}
use Rattle.lock_world.specs.SafeWorld.{SafeWorld}
use Rattle.lock_world.specs.Account.{Account, account, own_hand, list_in_hand}
use Rattle.lock_world.specs.Happens.Seats.{MayBeIssued, after_issuing, MayBeKeptApart, after_keeping_apart, after_going_on, MayClose, after_closing}
use Rattle.lock_world.proofs.Lemmas.SafeWorld.Seats.{issuing-safe_world, going_on-safe_world, keeping_apart-safe_world, closing-safe_world}
use Rattle.lock_world.proofs.Lemmas.FromSafeWorld.{no_conflict-own_world}
use Rattle.shared_rule.specs.Allowed.{RuledSeats, SplitsSeat, JoinsSeat, AllowsStep}
use Rattle.shared_rule.specs.declared.history.Mark.{Mark}
use Rattle.shared_rule.specs.declared.history.History.{History}
use Rattle.shared_rule.specs.declared.rule.TableSizes.{TableSizes}
use Rattle.shared_rule.specs.declared.history.View.{View}
use Rattle.shared_rule.specs.declared.kept.Kept.{Kept}
use Rattle.std.proofs.lemmas.Bool.{false_from_ne_true}
use Rattle.shared_rule.specs.History.{keeper, lone, spent_view, first_account}
use Rattle.shared_rule.specs.Plays.{Side}
use Rattle.shared_rule.specs.Openers.{HaveClosed}
use Rattle.lock_world.specs.Account.{ListAccount}
use Rattle.shared_rule.specs.Boards.{IsFree}
use Rattle.shared_rule.specs.Owed.{first_owed, owed_told}
use Rattle.shared_rule.specs.Tells.{AreTurnsTold, turns_of}
use Rattle.shared_rule.proofs.Lemmas.Calls.{none-owed_call}
use Rattle.shared_rule.specs.LwLocks.{no_lists}
use Rattle.shared_rule.specs.Todos.{first_todo, nothing_to_do, without_lost}
use Rattle.shared_rule.proofs.Lemmas.Idle.{lists-told}
use Rattle.shared_rule.proofs.Lemmas.Owings.{nothing-left}
use Rattle.shared_rule.proofs.Lemmas.WakeSeats.{TellsSo, each-tells, new-tells, wakes-seated, wakes-moved}
use Rattle.shared_rule.specs.Ruled.{StandsAtSeat, HistoryIsShown, ClosedAreCounted, OpenerHasClosed, SeatsAreShown, StandsClosed, StepsAreTold, Ruled}
use Rattle.shared_rule.proofs.Lemmas.ClosedCounts.{opener-set, counted-opened, counted-closed, counted-told}
use Rattle.shared_rule.specs.Seats.{MayCloseBy, MayBeKeptApartBy, DoNotConflict, HaveTwoNumbers, HasNumber, HasNext, HasLast, all_but_last, last_of, ToldClosed, IsForOne, IsForTwo, number_in, number_after, behind_of, opened, newcomer, with_closed, met, parted, handed_back, ToldApart}
use Rattle.shared_rule.proofs.Lemmas.Standing.{there-snoc}
use Rattle.shared_rule.proofs.Lemmas.Views.{ruled-numbered, ruled-closed, seats-closed, history-alone, keeps-nobody}
use Rattle.shared_rule.proofs.Lemmas.OpenedViews.{with_numbers, seats-opened}
use Rattle.shared_rule.proofs.Lemmas.Meetings.{last-shown, seats-parted}
use Rattle.shared_rule.proofs.Lemmas.MetViews.{second-shown, another-there, seats-met, all_but_last-of, last_of-of}
use Rattle.shared_rule.proofs.Lemmas.SeatSteps.{each-opened, each-closing, each-met, each-parted, told-kept, told-opened, closed-opened, told-closing, closed-closing, told-met, closed-met, told-parted, closed-parted}
use Rattle.shared_rule.proofs.Lemmas.Events.Words.{nothing-changes}

-- Seats that are cut in two and joined keep the rule.

-- What is known by a test is none where the test fails.
none-tested : {A : Type 0} (b : Bool) (x : A) → (if b then Some x else None) ≡ None → b ≡ false
none-tested true x none = absurd (cc (none))
none-tested false x none = refl

-- Whoever has no hand by its account holds no partition.
no-hand : (hand : Option Hand) (now : Content) (k : ℕ) → own_hand hand now k ≡ None → is_hand_of hand k ≡ false
no-hand None now k none = refl
no-hand (Some hand) now k none = none-tested (hand.holder == k) _ none

-- Whoever has no list in hand has none locked.
no-list : (has : Option ℕ) (list : ℕ → List LwWaiter) → list_in_hand has list ≡ None → has ≡ None
no-list None list none = refl
no-list (Some lock) list none = absurd (cc (none))

-- A session may close that may by its account.
closing-lawful : (w : World) → SafeWorld w → (k : ℕ) → MakesSteps w.numbers k → ((other : ℕ) → w.numbers.kept_by other ≢ Some k) → MayCloseBy (account w k) → MayClose w k
closing-lawful w safe k steps nobody may = record {
  steps = steps;
  no_word = λ p. safe.but_slots.table.carriers.hands p k ∙ no-hand (w.contents.hand p) (w.contents.now p) k (may.no_partition p);
  no_fast_word = λ o. none-tested (w.sessions.holds_fast k o) _ (may.no_fast_word o);
  no_shared_word = may.no_shared_partition;
  no_shared_fast_word = λ o. none-tested (w.sessions.shares_fast k o) _ (may.no_shared_fast_word o);
  no_hold = may.no_hold;
  no_wait = may.no_wait;
  no_count = may.no_count;
  no_list = no-list (w.sessions.has_list k) w.words.list may.no_list;
  no_stand = may.no_stand;
  none_untold = may.none_untold;
  keeps_nobody = nobody;
}

module _ {T : Type 0} (content : T → Content) (begun : T → Option Request) (sizes : TableSizes) where
  -- Who closed stands with the opener still, where a view joins the others that doesn't know the next number,
  opener-longer : (numbers : Numbers) (views : List (View T)) (more : View T) → more.next ≡ None → OpenerHasClosed views numbers → OpenerHasClosed (views ++ more ∷ []) numbers
  opener-longer numbers views more none has seat view number there says =
      elim (there-snoc views more view seat there) [
        | inl old ↦ has seat view number old says
        | inr last ↦ let never : ◌≡◌ {A = Option ℕ} None (Some number) = sym none ∙ ap (λ (z : View T). z.next) last.1 ∙ says in absurd (cc (never))
      ]

  -- whoever keeps whom apart,
  kept-counted : (numbers : Numbers) (kept_by : ℕ → Option ℕ) (views : List (View T)) → OpenerHasClosed views numbers → OpenerHasClosed views (record numbers { kept_by = kept_by })
  kept-counted numbers kept_by views has seat view number there says = let counted = has seat view number there says in record { once = counted.once; all = counted.all }

  -- where one more is given out, and is live,
  opened-counted :
      (s : State (Kept T) (View T)) (r : Ruled content begun sizes s) (id : ℕ) (view : View T) (n : ℕ) → get_elem? s.views id ≡ some view → view.next ≡ Some n
      → OpenerHasClosed (slice_set s.views id (record { next = Some (n + 1); closed = view.closed; sessions = view.sessions }) ++ lone n [] ∷ []) (after_issuing r.world n).numbers
  opened-counted s r id view n at gives =
      opener-longer (after_issuing r.world n).numbers (slice_set s.views id left) (lone n []) refl (λ seat u m there says.
      elim (at_set s.views id seat left u there) [
        | inl here ↦ subst (λ (z : View T). ClosedAreCounted (after_issuing r.world n).numbers z.closed) here.1 now
        | inr elsewhere ↦ absurd (elsewhere.0 ((r.seats.next seat u m elsewhere.1 says).0 ∙ sym opens_at.0))
      ]) where
        left : View T
        left = record { next = Some (n + 1); closed = view.closed; sessions = view.sessions }

        opens_at : (id ≡ r.seats.opener) × (n ≡ r.world.numbers.issued)
        opens_at = r.seats.next id view n at gives

        none : r.world.numbers.live n ≡ false
        none = false_from_ne_true (r.world.numbers.live n) (λ alive.
            let young : n < r.world.numbers.issued = r.safe.but_slots.table.carriers.numbers.live_is_issued n alive in
            let same : n ≡ r.world.numbers.issued = opens_at.1 in
            omega (arith, young, same))

        now : ClosedAreCounted (after_issuing r.world n).numbers view.closed
        now = counted-opened r.world.numbers n view.closed opens_at.1 none (r.closed id view n at gives)

  -- and where one that was live closes, who is one more.
  closed-counted :
      (s : State (Kept T) (View T)) (r : Ruled content begun sizes s) (id : ℕ) (opener : View T) (n other k : ℕ) (marks : List (Mark T)) → get_elem? s.views id ≡ some opener
      → opener.next ≡ Some n → other ≢ id → r.world.numbers.live k ≡ true
      → OpenerHasClosed (slice_set (slice_set s.views id (with_closed opener (lone k marks))) other spent_view) (after_closing r.world k).numbers
  closed-counted s r id opener n other k marks at gives apart live seat u m there says =
      elim (at_set (slice_set s.views id (with_closed opener (lone k marks))) other seat spent_view u there) [
        | inl spent ↦ let never : ◌≡◌ {A = Option ℕ} None (Some m) = ap (λ (z : View T). z.next) spent.1 ∙ says in absurd (cc (never))
        | inr kept ↦ elim (at_set s.views id seat (with_closed opener (lone k marks)) u kept.1) [
          | inl here ↦ subst (λ (z : View T). ClosedAreCounted (after_closing r.world k).numbers z.closed) here.1
              (counted-closed r.world.numbers k marks opener.closed (r.safe.but_slots.table.carriers.numbers.live_is_issued k live) live
              (λ place history stands. r.seats.closed id place opener history at stands) (r.closed id opener n at gives))
          | inr elsewhere ↦ absurd (elsewhere.0 ((r.seats.next seat u m elsewhere.1 says).0 ∙ sym (r.seats.next id opener n at gives).0))
        ]
      ]

  -- A session opens.
  pub opens : (id : ℕ) (view : View T) → HasNumber view sizes.sessions → SplitsSeat content begun sizes id view (opened view) (newcomer view)
  opens id view has =
      subst (λ (o : Option ℕ). SplitsSeat content begun sizes id view (record { next = number_after o; closed = view.closed; sessions = view.sessions }) (lone (number_in o) [])) (sym has.next)
      (λ s r at.
      let seats = seats-opened content r.world s.views id view has.number at has.next r.safe.but_slots.table.carriers.numbers r.seats in
      let within : has.number < r.world.numbers.limit = subst (λ (n : ℕ). has.number < n) (sym r.is_limit) has.within in
      let may : MayBeIssued r.world has.number = record { next = (r.seats.next id view has.number at has.next).1; within = within } in
      ruled-numbered content begun sizes s r (record { session = has.number; step = SplitSeat }) (after_issuing r.world has.number).numbers _ (inl (may, refl)) refl (issuing-safe_world r.world has.number r.safe may) seats
      (opened-counted s r id view has.number at has.next)
      refl (told-opened s.views r.world.numbers r.events id view has.number at (r.seats.next id view has.number at has.next).1 r.steps)
      (closed-opened s.views r.world.numbers r.events id view has.number at (r.seats.next id view has.number at has.next).1 r.steps)
      (wakes-seated sizes s.views _ r.events r.world (after_issuing r.world has.number) (record { session = has.number; step = SplitSeat }) (inl (may, refl)) r.wakes tt tt refl refl refl refl
      (each-opened s.views r.world.numbers r.events id view has.number at may.next r.steps (TellsSo r.wakes.beside r.wakes.turns)
      (new-tells sizes s.views r.events r.world r.wakes has.number (let e : has.number ≡ r.world.numbers.issued = may.next in omega (arith, e))) (each-tells sizes s.views r.events r.world r.wakes))
      (λ h stands. r.wakes.told.closed h (closed-opened s.views r.world.numbers r.events id view has.number at may.next r.steps h stands))
      (λ k later. let e : has.number ≡ r.world.numbers.issued = may.next in let after : has.number + 1 ≤ k = later in omega (arith, e, after))))

  -- A session closes.
  pub closes : (id : ℕ) (opener : View T) (other : ℕ) (view : View T) → HasNext opener → IsForOne view → MayCloseBy (first_account content view.sessions) → first_todo view.sessions ≡ nothing_to_do → first_owed view.sessions ≡ []
      → JoinsSeat content begun sizes id opener other view (with_closed opener view) spent_view
  closes id opener other view has one may free wakes_nobody s r at apart there =
      let k = one.number in
      let same : with_closed opener view ≡ with_closed opener (lone k one.marks) = ap (λ (z : View T). with_closed opener z) one.one in
      let stands : get_elem? s.views other ≡ some (lone k one.marks) = sym (set_else s.views id other (with_closed opener view) apart) ∙ there ∙ ap some one.one in
      let shown = history-alone content r.world s.views other k one.marks stands r.seats in
      let may_by : MayCloseBy (account r.world k) = subst MayCloseBy (ap (λ (z : View T). first_account content z.sessions) one.one ∙ shown.account) may in
      let its : History T = record { number = k; marks = one.marks } in
      let its_stands : StandsAtSeat s.views its = record { seat = other; place = 0; view = lone k one.marks; there = stands; stands = refl } in
      let may_close = closing-lawful r.world r.safe k (record { live = shown.live; by_itself = shown.kept_by }) (keeps-nobody content r.world s.views other k one.marks stands r.seats) may_by in
      subst (λ (v : View T). RuledSeats content begun sizes r.events (record { words = s.words; homes = s.homes; views = slice_set (slice_set s.views id v) other spent_view })) (sym same)
      (ruled-closed content begun sizes s r k one.marks _ may_close (closing-safe_world r.world k r.safe may_close)
      (seats-closed content r.world s.views other k one.marks stands r.seats id opener at apart r.safe.but_slots.table.carriers.numbers)
      (closed-counted s r id opener has.number other k one.marks at has.next apart shown.live)
      shown.account (told-closing s.views r.world.numbers r.events id opener other k one.marks at stands apart r.steps)
      (closed-closing s.views r.world.numbers r.events id opener other k one.marks at stands apart r.steps)
      (wakes-seated sizes s.views _ r.events r.world (after_closing r.world k) (record { session = k; step = JoinSeat None }) (may_close, refl) r.wakes
      (nothing-left r.world r.wakes.beside k may_close.no_word may_close.no_fast_word may_close.no_shared_word may_close.no_shared_fast_word
      (sym (ap without_lost free) ∙ ap (λ (z : View T). without_lost (first_todo z.sessions)) one.one ∙ r.wakes.todo its its_stands)
      (none-owed_call r.wakes.beside k (owed_told one.marks) (sym (ap (λ (z : View T). first_owed z.sessions) one.one) ∙ wakes_nobody) (r.wakes.owed its its_stands))
      may_close.no_list may_close.none_untold) tt refl refl refl refl
      (each-closing s.views r.world.numbers r.events id opener other k one.marks at stands apart r.steps (TellsSo r.wakes.beside r.wakes.turns) (each-tells sizes s.views r.events r.world r.wakes))
      (λ h closed. elim (closed-closing s.views r.world.numbers r.events id opener other k one.marks at stands apart r.steps h closed) [
        | inl old ↦ r.wakes.told.closed h old
        | inr same_one ↦ subst (λ (z : History T). AreTurnsTold z.number z.marks (turns_of z.number r.wakes.turns)) (sym same_one) (r.wakes.told.at_seat its its_stands)
      ])
      (λ j later. later)))

  -- A session meets those at a seat, behind them.
  meets : (s : State (Kept T) (View T)) (r : Ruled content begun sizes s) (id : ℕ) (view : View T) (other b : ℕ) (marks : List (Mark T)) (at : get_elem? s.views id ≡ some view)
      (there : get_elem? s.views other ≡ some (lone b marks)) (apart : other ≢ id) → MayBeKeptApartBy (account r.world b) → IsFree (record { number = b; marks = marks } ∷ []) → (sessions : List (History T)) → view.sessions ≡ sessions
      → RuledSeats content begun sizes r.events (record { words = s.words; homes = s.homes; views = slice_set (slice_set s.views id (met view (lone b marks))) other spent_view })
  meets s r id view other b marks at there apart may free sessions is = by sessions is where
    theirs : History T
    theirs = record { number = b; marks = marks }

    after : List (View T)
    after = slice_set (slice_set s.views id (met view (lone b marks))) other spent_view

    shown : HistoryIsShown content r.world r.seats.seat_of r.seats.place_in other 0 (theirs ∷ []) theirs
    shown = second-shown content r.world s.views id view other b marks at there apart r.seats

    closed : OpenerHasClosed after r.world.numbers
    closed =
        opener-set r.world.numbers (slice_set s.views id (met view (lone b marks))) other (lone b marks) spent_view
        (set_else s.views id other (met view (lone b marks)) apart ∙ there) refl (λ n says. says)
        (opener-set r.world.numbers s.views id view (met view (lone b marks)) at refl (λ n says. says) r.closed)

    seats_as : (kept : ℕ → Option ℕ) → set_at r.world.numbers.kept_by b (keeper (view.sessions ++ theirs ∷ []) (length view.sessions)) ≡ kept
        → SeatsAreShown content after (with_numbers r.world (record (r.world.numbers) { kept_by = kept }))
    seats_as kept same =
        subst (λ (k : ℕ → Option ℕ). SeatsAreShown content after (with_numbers r.world (record (r.world.numbers) { kept_by = k }))) same
        (seats-met content r.world s.views id view other b marks at there apart r.seats)

    met_steps : StepsAreTold after r.world.numbers r.events
    met_steps = told-met s.views r.world.numbers r.events id view other b marks at there apart r.steps

    each : (h : History T) → StandsAtSeat after h → TellsSo r.wakes.beside r.wakes.turns h
    each = each-met s.views r.world.numbers r.events id view other b marks at there apart (TellsSo r.wakes.beside r.wakes.turns) (each-tells sizes s.views r.events r.world r.wakes)

    its_stands : StandsAtSeat s.views theirs
    its_stands = record { seat = other; place = 0; view = lone b marks; there = there; stands = refl }

    no_lists_there : (account r.world b).lists ≡ no_lists
    no_lists_there = ap (λ (a : Account). a.lists) (sym shown.account) ∙ lists-told content (theirs ∷ []) ∙ free.idle.none

    stood : (h : History T) → StandsClosed after h → StandsClosed s.views h
    stood = closed-met s.views r.world.numbers r.events id view other b marks at there apart

    by : (sessions : List (History T)) → view.sessions ≡ sessions → RuledSeats content begun sizes r.events (record { words = s.words; homes = s.homes; views = after })
    by [] none = record {
      goes_on = inl refl;
      rule = record {
        world = r.world;
        events = r.events;
        run = r.run;
        steps = met_steps;
        closed_so = λ h stands. r.closed_so h (stood h stands);
        safe = r.safe;
        is_limit = r.is_limit;
        are_groups = r.are_groups;
        shown = r.shown;
        seats = seats_as r.world.numbers.kept_by
            (ap (λ (xs : List (History T)). set_at r.world.numbers.kept_by b (keeper (xs ++ theirs ∷ []) (length xs))) none
            ∙ set_at-same r.world.numbers.kept_by b None (sym shown.kept_by));
        closed = closed;
        wakes = wakes-moved sizes s.views after r.events r.world r.wakes each stood;
      };
    }
    by (x ∷ others) its =
        let get : slice_get view.sessions 0 ≡ Some x = ap (λ (xs : List (History T)). slice_get xs 0) its in
        let joiner = r.seats.history id 0 view x at get in
        let may_be : MayBeKeptApart r.world b x.number = record {
          steps = record { live = shown.live; by_itself = shown.kept_by };
          another = another-there content r.world s.views id view other b marks at there apart r.seats 0 x get;
          joiner_steps = record { live = joiner.live; by_itself = joiner.kept_by ∙ ap (λ (xs : List (History T)). keeper xs 0) its };
          no_word = λ p. r.safe.but_slots.table.carriers.hands p b ∙ no-hand (r.world.contents.hand p) (r.world.contents.now p) b (may.no_partition p);
          no_fast_word = λ o. none-tested (r.world.sessions.holds_fast b o) _ (may.no_fast_word o);
          no_shared_word = may.no_shared_partition;
          no_shared_fast_word = λ o. none-tested (r.world.sessions.shares_fast b o) _ (may.no_shared_fast_word o);
        } in
        ruled-numbered content begun sizes s r (record { session = b; step = JoinSeat (Some x.number) }) (after_keeping_apart r.world b x.number).numbers after (may_be, refl) refl
        (keeping_apart-safe_world r.world b x.number r.safe may_be)
        (seats_as (set_at r.world.numbers.kept_by b (Some x.number)) (ap (λ (xs : List (History T)). set_at r.world.numbers.kept_by b (keeper (xs ++ theirs ∷ []) (length xs))) its))
        (kept-counted r.world.numbers (after_keeping_apart r.world b x.number).numbers.kept_by after closed)
        refl (told-kept after r.world.numbers r.events (after_keeping_apart r.world b x.number).numbers.kept_by met_steps) stood
        (wakes-seated sizes s.views after r.events r.world (after_keeping_apart r.world b x.number) (record { session = b; step = JoinSeat (Some x.number) }) (may_be, refl) r.wakes
        (nothing-left r.world r.wakes.beside b may_be.no_word may_be.no_fast_word may_be.no_shared_word may_be.no_shared_fast_word
        (sym (ap without_lost free.idle.free) ∙ r.wakes.todo theirs its_stands) (none-owed_call r.wakes.beside b (owed_told marks) free.wakes_nobody (r.wakes.owed theirs its_stands))
        (no-list (r.world.sessions.has_list b) r.world.words.list (ap (λ (l : ListAccount). l.in_hand) no_lists_there)) (λ o. ap (λ (l : ListAccount). l.off o) no_lists_there)) tt refl refl refl refl
        each (λ h stands. r.wakes.told.closed h (stood h stands)) (λ j later. later))

  -- A session is kept apart.
  pub keeps_apart : (id : ℕ) (view : View T) (other : ℕ) (theirs : View T) → IsForOne theirs → MayBeKeptApartBy (first_account content theirs.sessions) → IsFree theirs.sessions
      → JoinsSeat content begun sizes id view other theirs (met view theirs) spent_view
  keeps_apart id view other theirs one may free s r at apart there =
      let b = one.number in
      let stands : get_elem? s.views other ≡ some (lone b one.marks) = sym (set_else s.views id other (met view theirs) apart) ∙ there ∙ ap some one.one in
      let shown = history-alone content r.world s.views other b one.marks stands r.seats in
      let may_by : MayBeKeptApartBy (account r.world b) = subst MayBeKeptApartBy (ap (λ (z : View T). first_account content z.sessions) one.one ∙ shown.account) may in
      subst (λ (v : View T). RuledSeats content begun sizes r.events (record { words = s.words; homes = s.homes; views = slice_set (slice_set s.views id v) other spent_view }))
      (sym (ap (λ (z : View T). met view z) one.one))
      (meets s r id view other b one.marks at stands apart may_by (subst (λ (z : View T). IsFree z.sessions) one.one free) view.sessions refl)

  -- The last one goes on by itself.
  parts : (s : State (Kept T) (View T)) (r : Ruled content begun sizes s) (id : ℕ) (view : View T) (before : List (History T)) (y : History T) (at : get_elem? s.views id ≡ some view)
      (is : view.sessions ≡ before ++ y ∷ [])
      → RuledSeats content begun sizes r.events (record {
        words = s.words;
        homes = s.homes;
        views = slice_set s.views id (record { next = view.next; closed = view.closed; sessions = before }) ++ record { next = None; closed = []; sessions = y ∷ [] } ∷ [];
      })
  parts s r id view [] y at is =
      let shown = last-shown content r.world s.views id view [] y at is r.seats in
      record {
        goes_on = inl refl;
        rule = record {
          world = r.world;
          events = r.events;
          run = r.run;
          steps = told-parted s.views r.world.numbers r.events id view [] y at is r.steps;
          closed_so = λ h stands. r.closed_so h (closed-parted s.views r.world.numbers r.events id view [] y at is h stands);
          safe = r.safe;
          is_limit = r.is_limit;
          are_groups = r.are_groups;
          shown = r.shown;
          seats =
              let kept : set_at r.world.numbers.kept_by y.number None ≡ r.world.numbers.kept_by =
              set_at-same r.world.numbers.kept_by y.number None (sym (shown.kept_by ∙ ap (λ (xs : List (History T)). keeper xs 0) is)) in
              subst
              (λ (k : ℕ → Option ℕ).
              SeatsAreShown content (slice_set s.views id (record { next = view.next; closed = view.closed; sessions = [] }) ++ record { next = None; closed = []; sessions = y ∷ [] } ∷ [])
              (with_numbers r.world (record (r.world.numbers) { kept_by = k })))
              kept (seats-parted content r.world s.views id view [] y at is r.seats);
          closed =
              opener-longer r.world.numbers (slice_set s.views id (record { next = view.next; closed = view.closed; sessions = [] })) (record { next = None; closed = []; sessions = y ∷ [] }) refl
              (opener-set r.world.numbers s.views id view (record { next = view.next; closed = view.closed; sessions = [] }) at refl (λ n says. says) r.closed);
          wakes = wakes-moved sizes s.views _ r.events r.world r.wakes
              (each-parted s.views r.world.numbers r.events id view [] y at is (TellsSo r.wakes.beside r.wakes.turns) (each-tells sizes s.views r.events r.world r.wakes))
              (closed-parted s.views r.world.numbers r.events id view [] y at is);
        };
      }
  parts s r id view (x ∷ before) y at is =
      let shown = last-shown content r.world s.views id view (x ∷ before) y at is r.seats in
      let kept : r.world.numbers.kept_by y.number ≡ Some x.number = shown.kept_by ∙ ap (λ (xs : List (History T)). keeper xs (length (x ∷ before))) is in
      ruled-numbered content begun sizes s r (record { session = y.number; step = SplitSeat }) (after_going_on r.world y.number).numbers _ (inr ((x.number, kept), refl)) refl
      (going_on-safe_world r.world y.number r.safe (x.number, kept))
      (seats-parted content r.world s.views id view (x ∷ before) y at is r.seats)
      (kept-counted r.world.numbers (after_going_on r.world y.number).numbers.kept_by _
      (opener-longer r.world.numbers (slice_set s.views id (record { next = view.next; closed = view.closed; sessions = x ∷ before })) (record { next = None; closed = []; sessions = y ∷ [] }) refl
      (opener-set r.world.numbers s.views id view (record { next = view.next; closed = view.closed; sessions = x ∷ before }) at refl (λ n says. says) r.closed)))
      refl
      (told-kept (slice_set s.views id (record { next = view.next; closed = view.closed; sessions = x ∷ before }) ++ record { next = None; closed = []; sessions = y ∷ [] } ∷ [])
      r.world.numbers r.events (after_going_on r.world y.number).numbers.kept_by (told-parted s.views r.world.numbers r.events id view (x ∷ before) y at is r.steps))
      (closed-parted s.views r.world.numbers r.events id view (x ∷ before) y at is)
      (wakes-seated sizes s.views _ r.events r.world (after_going_on r.world y.number) (record { session = y.number; step = SplitSeat }) (inr ((x.number, kept), refl)) r.wakes tt tt refl refl refl refl
      (each-parted s.views r.world.numbers r.events id view (x ∷ before) y at is (TellsSo r.wakes.beside r.wakes.turns) (each-tells sizes s.views r.events r.world r.wakes))
      (λ h stands. r.wakes.told.closed h (closed-parted s.views r.world.numbers r.events id view (x ∷ before) y at is h stands))
      (λ j later. later))

  pub hands_back : (id : ℕ) (view : View T) → HasLast view → SplitsSeat content begun sizes id view (parted view) (handed_back view)
  hands_back id view is s r at =
      let rest : all_but_last view.sessions ≡ is.before = ap all_but_last is.sessions ∙ all_but_last-of is.before is.last in
      let last : last_of view.sessions ≡ is.last ∷ [] = ap last_of is.sessions ∙ last_of-of is.before is.last in
      subst
      (λ (views : List (View T)). RuledSeats content begun sizes r.events (record { words = s.words; homes = s.homes; views = views }))
      (λ i. slice_set s.views id (record { next = view.next; closed = view.closed; sessions = sym rest i }) ++ record { next = None; closed = []; sessions = sym last i } ∷ [])
      (parts s r id view is.before is.last at is.sessions)

  -- Those that the opener has as closed were given out, each once.
  pub tells_closed : (slots id i : ℕ) (me : Side T) (step : Step (Kept T)) → HasNext me.0 → AllowsStep content begun sizes slots id me i (λ n. n) (ToldClosed step me)
  tells_closed slots id i me step has s r many at below =
      let opens_at = r.seats.next id me.0 has.number at has.next in (
        me.0,
        keeps,
        tt,
        nothing-changes content begun sizes id i me.0 s r at,
        (
          refl,
          subst (λ (o : Option ℕ). HaveClosed (number_in o) me.0.closed) (sym has.next)
              (counted-told r.world.numbers has.number me.0.closed opens_at.1 (λ place history there. r.seats.closed id place me.0 history at there)
              (r.closed id me.0 has.number at has.next)),
        ),
      )

  -- Of two histories with different numbers that is so however they are named.
  two-numbers : (sessions : List (History T)) (one other : History T) → sessions ≡ one ∷ other ∷ [] → one.number ≢ other.number → HaveTwoNumbers sessions
  two-numbers sessions one other both apart first second others those same =
      let heads : one ∷ other ∷ [] ≡ first ∷ second ∷ others = sym both ∙ those in
      let is_first : one ≡ first = cc (heads) in
      let is_second : other ≡ second = cc (heads) in
      apart (ap (λ (h : History T). h.number) is_first ∙ same ∙ sym (ap (λ (h : History T). h.number) is_second))

  -- Where two meet, their numbers differ, and no hold of the one conflicts with a hold of the other.
  pub tells_apart : (slots id i : ℕ) (me : Side T) (step : Step (Kept T)) → IsForTwo me.0 → AllowsStep content begun sizes slots id me i (λ n. n) (ToldApart content step me)
  tells_apart slots id i me step is s r many at below =
      let both : me.0.sessions ≡ is.first ∷ is.second ∷ [] = ap (λ (v : View T). v.sessions) is.two in
      let one = r.seats.history id 0 me.0 is.first at (ap (λ (xs : List (History T)). slice_get xs 0) both) in
      let other = r.seats.history id 1 me.0 is.second at (ap (λ (xs : List (History T)). slice_get xs 1) both) in
      let apart : is.first.number ≢ is.second.number = λ same.
      (let first : r.seats.place_in is.first.number ≡ 0 = one.place in
      let second : r.seats.place_in is.second.number ≡ 1 = other.place in
      let places : r.seats.place_in is.first.number ≡ r.seats.place_in is.second.number = ap r.seats.place_in same in
      omega (arith, first, second, places)) in (
        me.0,
        keeps,
        tt,
        nothing-changes content begun sizes id i me.0 s r at,
        (
          refl,
          two-numbers me.0.sessions is.first is.second both apart,
          subst (λ (v : View T). DoNotConflict (first_account content v.sessions) (first_account content (behind_of v.sessions))) (sym is.two)
              (λ tag mode its own theirs.
              no_conflict-own_world r.world r.safe is.first.number is.second.number tag mode its apart
              (ap (λ (a : Account). a.own tag mode) (sym one.account) ∙ own) (ap (λ (a : Account). a.own tag its) (sym other.account) ∙ theirs)),
        ),
      )
