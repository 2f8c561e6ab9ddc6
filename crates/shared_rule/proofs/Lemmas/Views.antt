use Rattle.std.proofs.Common.{◌≡◌, ◌≢◌, ◌⊎◌, ℕ, zero, suc, true, false, ◌<◌, List, [], ◌∷◌, ◌++◌, Option, Some, None, refl, sym, ap, ◌∙◌, subst, inl, inr, arith}
use Rattle.std.specs.Prelude.{slice_get, slice_set}
use Rattle.std.proofs.lemmas.Bool.{cases_eq}
use Rattle.std.proofs.lemmas.List.{set_comm}
use mathlib.Core.Option.{some}
use lib.ListN.{get_elem?}
use Rattle.atomic_table.specs.Table.{State}
use Rattle.atomic_table.proofs.Lists.{at_set, set_here, set_else}
use Rattle.lock_table.specs.declared.request.Request.{Request}
use Rattle.lock_table.specs.Content.{Content}
use Rattle.lock_table.proofs.Lemmas.Put.{set_at-here, set_at-else}
use Rattle.lock_world.specs.declared.events.Event.{Event}
use Rattle.lock_world.specs.declared.events.Step.TheVariants.{JoinSeat}
use Rattle.lock_world.specs.World.{World, Numbers, opening}
use Rattle.lock_world.specs.Safe.{NumbersAreInOrder}
use Rattle.lock_world.specs.SafeWorld.{SafeWorld}
use Rattle.lock_world.specs.Account.{Account, fast_account, list_account, account}
use Rattle.lock_world.specs.Happens.{Happens}
use Rattle.lock_world.specs.Happens.Seats.{MayClose, after_closing}
use Rattle.lock_world.proofs.Lemmas.Remembered.{groups-stay}
use Rattle.shared_rule.specs.declared.history.Mark.{Mark}
use Rattle.shared_rule.specs.declared.history.History.{History}
use Rattle.shared_rule.specs.declared.rule.TableSizes.{TableSizes}
use Rattle.shared_rule.specs.declared.history.View.{View}
use Rattle.shared_rule.specs.declared.kept.Kept.{Kept}
use Rattle.shared_rule.specs.History.{blank_account, told, lone, spent_view}
use Rattle.shared_rule.specs.Tells.{is_of_seats}
use Rattle.shared_rule.specs.Allowed.{RuledSeats}
use Rattle.shared_rule.specs.Ruled.{WakesAreKept, IsClosed, OpenerHasClosed, HistoryIsShown, IsBehind, SeatsAreShown, StandsClosed, StepsAreTold, HasClosedSo, Ruled}
use Rattle.shared_rule.proofs.Lemmas.Told.{leads-push, told-seats, closed_so-push}
use Rattle.shared_rule.proofs.Lemmas.Standing.{there-within, there-one}
use Rattle.shared_rule.proofs.Lemmas.OpenedViews.{with_numbers, one-get, another, shown, closed}

-- A view has one more closed session.
module _ {T : Type 0} (content : T → Content) (w : World) (views : List (View T)) (id : ℕ) (view : View T) (h : History T) (at : get_elem? views id ≡ some view)
    (is_closed : IsClosed w.numbers h.number) (seats : SeatsAreShown content views w) where
  abbrev more : View T
  more = record { next = view.next; closed = h ∷ view.closed; sessions = view.sessions }

  more-shown : (i j : ℕ) (u : View T) (y : History T) → get_elem? (slice_set views id more) i ≡ some u → slice_get u.sessions j ≡ Some y → HistoryIsShown content w seats.seat_of seats.place_in i j u.sessions y
  more-shown i j u y there get =
      elim (at_set views id i more u there) [
        | inl here ↦
            subst (λ m. HistoryIsShown content w seats.seat_of seats.place_in m j u.sessions y) (sym here.0)
            (subst (λ (z : View T). HistoryIsShown content w seats.seat_of seats.place_in id j z.sessions y) here.1
            (seats.history id j view y at (ap (λ (z : View T). slice_get z.sessions j) here.1 ∙ get)))
        | inr else ↦ seats.history i j u y else.1 get
      ]

  more-behind : (j by : ℕ) → w.numbers.kept_by j ≡ Some by → IsBehind content (slice_set views id more) seats.seat_of seats.place_in j by
  more-behind j by kept =
      let old = seats.behind j by kept in
      let there : (z : View T) × (get_elem? (slice_set views id more) (seats.seat_of by) ≡ some z) × (z.sessions ≡ old.view.sessions) =
      elim (cases_eq (seats.seat_of by) id) [
        | inl same ↦ (
          more,
          ap (get_elem? (slice_set views id more)) same ∙ set_here views id more (there-within views id view at),
          ap (λ (z : View T). z.sessions) (there-one views id view old.view at (ap (get_elem? views) (sym same) ∙ old.there)),
        )
        | inr other ↦ (old.view, set_else views id (seats.seat_of by) more other ∙ old.there, refl)
      ] in
      record {
        view = there.0;
        there = there.1;
        same_seat = old.same_seat;
        history = old.history;
        stands = ap (λ (z : List (History T)). slice_get z (seats.place_in j)) there.2 ∙ old.stands;
        whose = old.whose;
        behind = old.behind;
      }

  one-more : (j : ℕ) (y : History T) → slice_get (h ∷ view.closed) j ≡ Some y → IsClosed w.numbers y.number
  one-more zero y says = let same : h ≡ y = cc (says) in subst (λ (z : History T). IsClosed w.numbers z.number) same is_closed
  one-more (suc j) y says = seats.closed id j view y at says

  more-closed : (i j : ℕ) (u : View T) (y : History T) → get_elem? (slice_set views id more) i ≡ some u → slice_get u.closed j ≡ Some y → IsClosed w.numbers y.number
  more-closed i j u y there says =
      elim (at_set views id i more u there) [
        | inl here ↦ one-more j y (ap (λ (z : View T). slice_get z.closed j) here.1 ∙ says)
        | inr else ↦ seats.closed i j u y else.1 says
      ]

  more-next : (i : ℕ) (u : View T) (m : ℕ) → get_elem? (slice_set views id more) i ≡ some u → u.next ≡ Some m → (i ≡ seats.opener) × (m ≡ w.numbers.issued)
  more-next i u m there says =
      elim (at_set views id i more u there) [
        | inl here ↦ let old = seats.next id view m at (ap (λ (z : View T). z.next) here.1 ∙ says) in (here.0 ∙ old.0, old.1)
        | inr else ↦ seats.next i u m else.1 says
      ]

  pub seats-with_closed : SeatsAreShown content (slice_set views id (record { next = view.next; closed = h ∷ view.closed; sessions = view.sessions })) w
  seats-with_closed = record {
    seat_of = seats.seat_of;
    place_in = seats.place_in;
    history = more-shown;
    behind = more-behind;
    opener = seats.opener;
    next = more-next;
    closed = more-closed;
    not_issued = seats.not_issued;
  }

-- A session closes.
module _ {T : Type 0} (content : T → Content) (w : World) (views : List (View T)) (other : ℕ) (k : ℕ) (marks : List (Mark T))
    (at : get_elem? views other ≡ some (lone k marks)) (seats : SeatsAreShown content views w) where
  abbrev pub closing : History T
  closing = record { number = k; marks = marks }

  pub history-alone : HistoryIsShown content w seats.seat_of seats.place_in other 0 (closing ∷ []) (record { number = k; marks = marks })
  history-alone = seats.history other 0 (lone k marks) closing at refl

  -- Nobody stands behind it.
  pub nobody-behind : (j by : ℕ) → w.numbers.kept_by j ≡ Some by → seats.seat_of by ≢ other
  nobody-behind j by kept same =
      let old = seats.behind j by kept in
      let one : old.view ≡ lone k marks = there-one views other old.view (lone k marks) (ap (get_elem? views) (sym same) ∙ old.there) at in
      let only = one-get closing (seats.place_in j) old.history (ap (λ (z : View T). slice_get z.sessions (seats.place_in j)) (sym one) ∙ old.stands) in
      let behind : seats.place_in by < seats.place_in j = old.behind in
      let first : seats.place_in j ≡ 0 = only.0 in
      omega (arith, behind, first)

  pub keeps-nobody : (j : ℕ) → w.numbers.kept_by j ≢ Some k
  keeps-nobody j kept = nobody-behind j k kept history-alone.seat

  -- The accounts of others are as they were, and a blank one is blank still.
  closed-else : (j : ℕ) → j ≢ k → account (after_closing w k) j ≡ account w j
  closed-else j other = λ i. record (account w j) {
    fast = record (fast_account w j) { remembered = set_at-else w.sessions.remembered k (λ _. 0) j other i };
    lists = record (list_account w j) { off = set_at-else w.sessions.off k (λ _. false) j other i };
    trace = set_at-else w.sessions.trace k [] j other i;
  }

  closed-blank : (j : ℕ) → account w j ≡ blank_account → account (after_closing w k) j ≡ blank_account
  closed-blank j blank =
      elim (cases_eq j k) [
        | inl same ↦
            (λ i. record (account w j) {
              fast = record (fast_account w j) { remembered = set_at-here w.sessions.remembered k (λ _. 0) j same i };
              lists = record (list_account w j) { off = set_at-here w.sessions.off k (λ _. false) j same i };
              trace = set_at-here w.sessions.trace k [] j same i;
            })
            ∙ ap (λ (a : Account). record a { fast = record (a.fast) { remembered = λ _. 0 }; lists = record (a.lists) { off = λ _. false }; trace = [] }) blank
        | inr other ↦ closed-else j other ∙ blank
      ]

  closed-shown : (i j : ℕ) (u : View T) (y : History T) → get_elem? (slice_set views other spent_view) i ≡ some u → slice_get u.sessions j ≡ Some y
      → HistoryIsShown content (after_closing w k) seats.seat_of seats.place_in i j u.sessions y
  closed-shown i j u y there get =
      elim (at_set views other i spent_view u there) [
        | inl here ↦ let never : ◌≡◌ {A = Option (History T)} None (Some y) = ap (λ (z : View T). slice_get z.sessions j) here.1 ∙ get in absurd (cc (never))
        | inr else ↦
            let old = seats.history i j u y else.1 get in
            let another : y.number ≢ k = λ e. else.0 (sym old.seat ∙ ap seats.seat_of e ∙ history-alone.seat) in
            record {
              account = old.account ∙ sym (closed-else y.number another);
              live = set_at-else w.numbers.live k false y.number another ∙ old.live;
              kept_by = old.kept_by;
              seat = old.seat;
              place = old.place;
            }
      ]

  closed-still : (m : ℕ) → IsClosed w.numbers m → IsClosed (after_closing w k).numbers m
  closed-still m old =
      elim (cases_eq m k) [
        | inl same ↦ (old.0, set_at-here w.numbers.live k false m same)
        | inr another ↦ (old.0, set_at-else w.numbers.live k false m another ∙ old.1)
      ]

  -- what the views show where no view has it as closed yet
  left-closed : SeatsAreShown content (slice_set views other spent_view) (after_closing w k)
  left-closed = record {
    seat_of = seats.seat_of;
    place_in = seats.place_in;
    history = closed-shown;
    behind = λ j by kept.
        let old = seats.behind j by kept in
        record {
          view = old.view;
          there = set_else views other (seats.seat_of by) spent_view (nobody-behind j by kept) ∙ old.there;
          same_seat = old.same_seat;
          history = old.history;
          stands = old.stands;
          whose = old.whose;
          behind = old.behind;
        };
    opener = seats.opener;
    next = λ i u m there says.
        elim (at_set views other i spent_view u there) [
          | inl here ↦ let never : ◌≡◌ {A = Option ℕ} None (Some m) = ap (λ (z : View T). z.next) here.1 ∙ says in absurd (cc (never))
          | inr else ↦ seats.next i u m else.1 says
        ];
    closed = λ i j u y there says.
        elim (at_set views other i spent_view u there) [
          | inl here ↦ let never : ◌≡◌ {A = Option (History T)} None (Some y) = ap (λ (z : View T). slice_get z.closed j) here.1 ∙ says in absurd (cc (never))
          | inr else ↦ closed-still y.number (seats.closed i j u y else.1 says)
        ];
    not_issued = λ m not_yet. closed-blank m (seats.not_issued m not_yet);
  }

  -- The opener's view has it as closed.
  pub seats-closed :
      (id : ℕ) (opener : View T) → get_elem? views id ≡ some opener → other ≢ id → NumbersAreInOrder w.numbers
      → SeatsAreShown content (slice_set (slice_set views id (record { next = opener.next; closed = closing ∷ opener.closed; sessions = opener.sessions })) other spent_view) (after_closing w k)
  seats-closed id opener stands apart order =
      subst (λ (all : List (View T)). SeatsAreShown content all (after_closing w k))
      (sym (set_comm views id other (record { next = opener.next; closed = closing ∷ opener.closed; sessions = opener.sessions }) spent_view (λ e. apart (sym e))))
      (seats-with_closed content (after_closing w k) (slice_set views other spent_view) id opener closing
      (set_else views other id spent_view (λ e. apart (sym e)) ∙ stands) (order.live_is_issued k history-alone.live, set_at-here w.numbers.live k false k refl) left-closed)

module _ {T : Type 0} (content : T → Content) (begun : T → Option Request) (sizes : TableSizes) (s : State (Kept T) (View T)) (r : Ruled content begun sizes s) where
  -- The rule holds in the World with other numbers,
  pub ruled-numbered :
      (event : Event) (numbers : Numbers) (views : List (View T)) → Happens r.world event (with_numbers r.world numbers) → numbers.limit ≡ r.world.numbers.limit
      → SafeWorld (with_numbers r.world numbers) → SeatsAreShown content views (with_numbers r.world numbers) → OpenerHasClosed views numbers
      → is_of_seats event.step ≡ true → StepsAreTold views numbers r.events → ((h : History T) → StandsClosed views h → StandsClosed s.views h)
      → WakesAreKept sizes views (r.events ++ event ∷ []) (with_numbers r.world numbers)
      → RuledSeats content begun sizes r.events (record { words = s.words; homes = s.homes; views = views })
  ruled-numbered event numbers views happens same safe seats closed of_seats told stood wakes = record {
    goes_on = inr (event, of_seats, refl);
    rule = record {
      world = with_numbers r.world numbers;
      events = r.events ++ event ∷ [];
      run = leads-push (opening sizes.sessions sizes.groups) r.events event r.world (with_numbers r.world numbers) r.run happens;
      steps = told-seats views numbers r.events event of_seats told;
      closed_so = λ h stands.
          closed_so-push content (opening sizes.sessions sizes.groups) r.world (with_numbers r.world numbers) r.events event h happens (r.closed_so h (stood h stands));
      safe = safe;
      is_limit = same ∙ r.is_limit;
      are_groups = groups-stay r.world (with_numbers r.world numbers) event happens ∙ r.are_groups;
      shown = r.shown;
      seats = seats;
      closed = closed;
      wakes = wakes;
    };
  }

  -- and in the World in which a session has closed.
  pub ruled-closed :
      (k : ℕ) (marks : List (Mark T)) (views : List (View T)) → MayClose r.world k → SafeWorld (after_closing r.world k) → SeatsAreShown content views (after_closing r.world k)
      → OpenerHasClosed views (after_closing r.world k).numbers → told content k marks ≡ account r.world k
      → StepsAreTold views (after_closing r.world k).numbers r.events
      → ((h : History T) → StandsClosed views h → StandsClosed s.views h ⊎ (h ≡ record { number = k; marks = marks }))
      → WakesAreKept sizes views (r.events ++ record { session = k; step = JoinSeat None } ∷ []) (after_closing r.world k)
      → RuledSeats content begun sizes r.events (record { words = s.words; homes = s.homes; views = views })
  ruled-closed k marks views may safe seats closed shown its_steps stood wakes = record {
    goes_on = inr (event, refl, refl);
    rule = record {
      world = after_closing r.world k;
      events = r.events ++ event ∷ [];
      run = leads-push first r.events event r.world (after_closing r.world k) r.run (may, refl);
      steps = told-seats views (after_closing r.world k).numbers r.events event refl its_steps;
      closed_so = λ h stands. elim (stood h stands) [
        | inl old ↦ closed_so-push content first r.world (after_closing r.world k) r.events event h (may, refl) (r.closed_so h old)
        | inr same ↦ subst (HasClosedSo content first (after_closing r.world k) (r.events ++ event ∷ [])) (sym same) now
      ];
      safe = safe;
      is_limit = r.is_limit;
      are_groups = r.are_groups;
      shown = r.shown;
      seats = seats;
      closed = closed;
      wakes = wakes;
    };
  } where
    first : World
    first = opening sizes.sessions sizes.groups

    event : Event
    event = record { session = k; step = JoinSeat None }

    now : HasClosedSo content first (after_closing r.world k) (r.events ++ event ∷ []) (record { number = k; marks = marks })
    now = record {
      before = r.events;
      after = [];
      all = refl;
      world = r.world;
      run = r.run;
      rest = (after_closing r.world k, (may, refl), refl);
      account = shown;
    }
