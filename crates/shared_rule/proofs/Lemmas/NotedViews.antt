use Rattle.std.proofs.Common.{◌≡◌, ◌≢◌, ◌⊎◌, ℕ, zero, suc, Bool, true, false, ◌<◌, ◌≤◌, List, [], ◌∷◌, ◌++◌, Option, Some, refl, sym, ap, ◌∙◌, subst, inl, inr, arith}
use Rattle.std.specs.Prelude.{slice_get, slice_set}
use Rattle.std.proofs.lemmas.Bool.{cases_eq, both_ways}
use mathlib.Core.Option.{some}
use lib.ListN.{get_elem?}
use Rattle.atomic_table.proofs.Lists.{at_set, set_here, set_else}
use Rattle.lock_table.specs.Content.{Content}
use Rattle.lock_world.specs.declared.events.Event.{Event}
use Rattle.lock_world.specs.declared.events.Step.{Step}
use Rattle.lock_world.specs.World.{World, Numbers, opening}
use Rattle.lock_world.specs.Account.{account}
use Rattle.lock_world.specs.Happens.{Happens}
use Rattle.shared_rule.specs.declared.history.Mark.{Mark}
use Rattle.shared_rule.specs.declared.history.History.{History}
use Rattle.shared_rule.specs.declared.rule.TableSizes.{TableSizes}
use Rattle.shared_rule.specs.declared.history.View.{View}
use Rattle.shared_rule.specs.History.{noted, told, noting_first, noting, keeper}
use Rattle.shared_rule.proofs.Lemmas.Standing.{there-within, there-one}
use Rattle.shared_rule.specs.Tells.{Tells, AreTold, LooksOnly, TellsTurn, AreTurnsTold, events_of, is_turn_of, turns_of, steps_of}
use Rattle.lock_world.specs.Wakes.{Beside, nothing_beside, Turn, KeepsInOrder, beside_after}
use Rattle.lock_world.proofs.Lemmas.Wakes.Runs.{run-push}
use Rattle.shared_rule.specs.Owed.{owed_told}
use Rattle.shared_rule.specs.Todos.{without_lost, todo_told_by, flagged_told_by}
use Rattle.shared_rule.proofs.Lemmas.Turns.{turns-beside, turns-push}
use Rattle.shared_rule.specs.Ruled.{todo_of, OwesAsTold, TurnsAreTold, StandsAtSeat, WakesAreKept, IsClosed, HistoryIsShown, IsBehind, SeatsAreShown, StandsClosed, HasSeat, HasOpener, StepsAreTold, HasClosedSo}
use Rattle.shared_rule.proofs.Lemmas.Told.{another's, told-push, steps-beside, set-back, set-among, set-seat, seat-here, set-opener, opener-here, closed_so-push}

-- A step of the session that goes on by itself at a seat, noted there, keeps the rule.

-- one thing stands there
some-get : {A : Type 0} {x y : A} → ◌≡◌ {A = Option A} (Some x) (Some y) → x ≡ y
some-get {A} {x} {y} same = cc (same)

-- what is above a number is above 0
pub after-none : (i j : ℕ) → i < j → 0 < j
after-none i j less = omega (arith, less)

module _ {T : Type 0} where
  -- The first history with one more step, or another as it was.
  noting-get :
      (x : History T) (others : List (History T)) (mark : Mark T) (j : ℕ) (y : History T) → slice_get (noting_first (x ∷ others) mark) j ≡ Some y
      → ((j ≡ 0) × (y ≡ record { number = x.number; marks = mark ∷ x.marks })) ⊎ ((j ≢ 0) × (slice_get (x ∷ others) j ≡ Some y))
  noting-get x others mark zero y get = let same : record { number = x.number; marks = mark ∷ x.marks } ≡ y = cc (get) in inl (refl, sym same)
  noting-get x others mark (suc j) y get = inr ((λ e. omega (arith, e)), get)

  -- Another mark of the first history keeps the same sessions apart.
  noting-keeper : (x : History T) (others : List (History T)) (mark : Mark T) (j : ℕ) → keeper (noting_first (x ∷ others) mark) j ≡ keeper (x ∷ others) j
  noting-keeper x others mark zero = refl
  noting-keeper x others mark (suc j) = refl

  -- One behind the first is as it was.
  noting-behind : (x : History T) (others : List (History T)) (mark : Mark T) (j : ℕ) (y : History T) → 0 < j → slice_get (x ∷ others) j ≡ Some y → slice_get (noting_first (x ∷ others) mark) j ≡ Some y
  noting-behind x others mark zero y after get = absurd (omega (arith, after))
  noting-behind x others mark (suc j) y after get = get

  -- the view with a step noted has its histories
  noting-sessions : (view : View T) (x : History T) (others : List (History T)) (mark : Mark T) → view.sessions ≡ x ∷ others → (noting view mark).sessions ≡ noting_first (x ∷ others) mark
  noting-sessions view x others mark is = ap (λ sessions. noting_first sessions mark) is

-- What the views show of the World stays, but for the step that is noted.
module _ {T : Type 0} (content : T → Content) (w v : World) (views : List (View T)) (id : ℕ) (view : View T) (x : History T) (others : List (History T)) (mark : Mark T)
    (at : get_elem? views id ≡ some view) (is : view.sessions ≡ x ∷ others) (numbers : v.numbers ≡ w.numbers) (left : (k : ℕ) → k ≢ x.number → account v k ≡ account w k)
    (now : noted content x.number (told content x.number x.marks) mark ≡ account v x.number) (issued : (k : ℕ) → w.numbers.live k ≡ true → k < w.numbers.issued)
    (seats : SeatsAreShown content views w) where
  -- the history of the session
  own : HistoryIsShown content w seats.seat_of seats.place_in id 0 view.sessions x
  own = seats.history id 0 view x at (ap (λ sessions. slice_get sessions 0) is)

  -- any other is as it was
  pub another : (i j : ℕ) (sessions sessions' : List (History T)) (y : History T) → y.number ≢ x.number → keeper sessions' j ≡ keeper sessions j
      → HistoryIsShown content w seats.seat_of seats.place_in i j sessions y → HistoryIsShown content v seats.seat_of seats.place_in i j sessions' y
  another i j sessions sessions' y apart same old = record {
    account = old.account ∙ sym (left y.number apart);
    live = ap (λ (n : Numbers). n.live y.number) numbers ∙ old.live;
    kept_by = ap (λ (n : Numbers). n.kept_by y.number) numbers ∙ old.kept_by ∙ sym same;
    seat = old.seat;
    place = old.place;
  }

  sessions' : (noting view mark).sessions ≡ noting_first (x ∷ others) mark
  sessions' = noting-sessions view x others mark is

  -- who keeps whom apart there
  keepers : (j : ℕ) → keeper (noting view mark).sessions j ≡ keeper view.sessions j
  keepers j = ap (λ sessions. keeper sessions j) sessions' ∙ noting-keeper x others mark j ∙ sym (ap (λ sessions. keeper sessions j) is)

  first : (y : History T) → y ≡ record { number = x.number; marks = mark ∷ x.marks } → HistoryIsShown content v seats.seat_of seats.place_in id 0 (noting view mark).sessions y
  first y same = subst (HistoryIsShown content v seats.seat_of seats.place_in id 0 (noting view mark).sessions) (sym same) (record {
    account = now;
    live = ap (λ (n : Numbers). n.live x.number) numbers ∙ own.live;
    kept_by = ap (λ (n : Numbers). n.kept_by x.number) numbers ∙ own.kept_by ∙ sym (keepers 0);
    seat = own.seat;
    place = own.place;
  })

  here : (j : ℕ) (y : History T) → slice_get (noting view mark).sessions j ≡ Some y → HistoryIsShown content v seats.seat_of seats.place_in id j (noting view mark).sessions y
  here j y get =
      elim (noting-get x others mark j y (sym (ap (λ sessions. slice_get sessions j) sessions') ∙ get)) [
        | inl one ↦ subst (λ k. HistoryIsShown content v seats.seat_of seats.place_in id k (noting view mark).sessions y) (sym one.0) (first y one.1)
        | inr other ↦
            let old = seats.history id j view y at (ap (λ sessions. slice_get sessions j) is ∙ other.1) in
            another id j view.sessions (noting view mark).sessions y (λ e. other.0 (sym old.place ∙ ap seats.place_in e ∙ own.place)) (keepers j) old
      ]

  pub shown : (i j : ℕ) (u : View T) (y : History T) → get_elem? (slice_set views id (noting view mark)) i ≡ some u → slice_get u.sessions j ≡ Some y
      → HistoryIsShown content v seats.seat_of seats.place_in i j u.sessions y
  shown i j u y there get =
      elim (at_set views id i (noting view mark) u there) [
        | inl one ↦
            subst (λ k. HistoryIsShown content v seats.seat_of seats.place_in k j u.sessions y) (sym one.0)
            (subst (λ (z : View T). slice_get z.sessions j ≡ Some y → HistoryIsShown content v seats.seat_of seats.place_in id j z.sessions y) one.1 (here j y) get)
        | inr other ↦
            let old = seats.history i j u y other.1 get in
            another i j u.sessions u.sessions y (λ e. other.0 (sym old.seat ∙ ap seats.seat_of e ∙ own.seat)) refl old
      ]

  behind : (k by : ℕ) → v.numbers.kept_by k ≡ Some by → IsBehind content (slice_set views id (noting view mark)) seats.seat_of seats.place_in k by
  behind k by kept =
      let old = seats.behind k by (sym (ap (λ (n : Numbers). n.kept_by k) numbers) ∙ kept) in
      elim (cases_eq (seats.seat_of by) id) [
        | inl same ↦
            let one : old.view ≡ view = there-one views id old.view view (ap (get_elem? views) (sym same) ∙ old.there) at in
            record {
              view = noting view mark;
              there = ap (get_elem? (slice_set views id (noting view mark))) same ∙ set_here views id (noting view mark) (there-within views id view at);
              same_seat = old.same_seat;
              history = old.history;
              stands = ap (λ sessions. slice_get sessions (seats.place_in k)) sessions' ∙ noting-behind x others mark (seats.place_in k) old.history (after-none (seats.place_in by) (seats.place_in k) old.behind)
                  (sym (ap (λ sessions. slice_get sessions (seats.place_in k)) is) ∙ ap (λ (z : View T). slice_get z.sessions (seats.place_in k)) (sym one) ∙ old.stands);
              whose = old.whose;
              behind = old.behind;
            }
        | inr other ↦ record {
          view = old.view;
          there = set_else views id (seats.seat_of by) (noting view mark) other ∙ old.there;
          same_seat = old.same_seat;
          history = old.history;
          stands = old.stands;
          whose = old.whose;
          behind = old.behind;
        }
      ]

  pub next : (i : ℕ) (u : View T) (n : ℕ) → get_elem? (slice_set views id (noting view mark)) i ≡ some u → u.next ≡ Some n → (i ≡ seats.opener) × (n ≡ v.numbers.issued)
  next i u n there says =
      elim (at_set views id i (noting view mark) u there) [
        | inl one ↦
            let old = seats.next id view n at (ap (λ (z : View T). z.next) one.1 ∙ says) in
            (one.0 ∙ old.0, old.1 ∙ sym (ap (λ (z : Numbers). z.issued) numbers))
        | inr other ↦ let old = seats.next i u n other.1 says in (old.0, old.1 ∙ sym (ap (λ (z : Numbers). z.issued) numbers))
      ]

  pub closed : (i j : ℕ) (u : View T) (y : History T) → get_elem? (slice_set views id (noting view mark)) i ≡ some u → slice_get u.closed j ≡ Some y → IsClosed v.numbers y.number
  closed i j u y there says =
      subst (λ (z : Numbers). IsClosed z y.number) (sym numbers)
      (elim (at_set views id i (noting view mark) u there) [
        | inl one ↦ seats.closed id j view y at (ap (λ (z : View T). slice_get z.closed j) one.1 ∙ says)
        | inr other ↦ seats.closed i j u y other.1 says
      ])

  pub seats-noted : SeatsAreShown content (slice_set views id (noting view mark)) v
  seats-noted = record {
    seat_of = seats.seat_of;
    place_in = seats.place_in;
    history = shown;
    behind = behind;
    opener = seats.opener;
    next = next;
    closed = closed;
    not_issued = λ n not_yet.
        let old_issued : w.numbers.issued ≤ n = subst (λ (z : Numbers). z.issued ≤ n) numbers not_yet in
        let young = issued x.number own.live in
        left n (λ e. let eq : ◌≡◌ {A = ℕ} n x.number = e in omega (arith, old_issued, young, eq)) ∙ seats.not_issued n old_issued;
  }

  -- Whoever stands in another place is another session,
  else-another : (y : History T) (place : ℕ) → place ≢ 0 → slice_get view.sessions place ≡ Some y → y.number ≢ x.number
  else-another y place later get e = later (sym (seats.history id place view y at get).place ∙ ap seats.place_in e ∙ own.place)

  -- and so is whoever has closed.
  closed-another : (y : History T) → StandsClosed views y → y.number ≢ x.number
  closed-another y stands e =
      both_ways (w.numbers.live x.number) (ap w.numbers.live (sym e) ∙ (seats.closed stands.seat stands.place stands.view y stands.there stands.stands).1) own.live

  abbrev after_it : List (View T)
  after_it = slice_set views id (noting view mark)

  closed-stood : (y : History T) → StandsClosed after_it y → StandsClosed views y
  closed-stood y = set-among (λ (z : View T). z.closed) views id view at (noting view mark) y (λ place get. (place, get))

  -- The steps are told of these events then, where they are of the session with its new mark, and of all
  -- others as they were.
  module _ (events later : List Event) (told : StepsAreTold views w.numbers events)
      (own-told : AreTold x.number (mark ∷ x.marks) (steps_of x.number later))
      (same : (number : ℕ) → number ≢ x.number → steps_of number later ≡ steps_of number events) where
    beside : (y : History T) → y.number ≢ x.number → AreTold y.number y.marks (steps_of y.number events) → AreTold y.number y.marks (steps_of y.number later)
    beside y other = subst (AreTold y.number y.marks) (sym (same y.number other))

    here-told : (y : History T) (j : ℕ) → slice_get (noting view mark).sessions j ≡ Some y → AreTold y.number y.marks (steps_of y.number later)
    here-told y j get =
        elim (noting-get x others mark j y (sym (ap (λ sessions. slice_get sessions j) sessions') ∙ get)) [
          | inl one ↦ subst (λ (z : History T). AreTold z.number z.marks (steps_of z.number later)) (sym one.1) own-told
          | inr other ↦
              let stands : slice_get view.sessions j ≡ Some y = ap (λ sessions. slice_get sessions j) is ∙ other.1 in
              beside y (else-another y j other.0 stands) (told.at_seat y (record { seat = id; place = j; view = view; there = at; stands = stands }))
        ]

    seat-still : (number place : ℕ) (y : History T) → slice_get view.sessions place ≡ Some y → y.number ≡ number → HasSeat after_it number
    seat-still number zero y get same_number =
        let first : x ≡ y = some-get (sym (ap (λ sessions. slice_get sessions 0) is) ∙ get) in
        seat-here (λ (z : View T). z.sessions) views id view at (noting view mark) number 0 (record { number = x.number; marks = mark ∷ x.marks })
        (ap (λ sessions. slice_get sessions 0) sessions') (ap (λ (h : History T). h.number) first ∙ same_number)
    seat-still number (suc place) y get same_number =
        seat-here (λ (z : View T). z.sessions) views id view at (noting view mark) number (suc place) y
        (ap (λ sessions. slice_get sessions (suc place)) sessions' ∙ sym (ap (λ sessions. slice_get sessions (suc place)) is) ∙ get) same_number

    steps-then : StepsAreTold after_it v.numbers later
    steps-then = record {
      opener = subst (λ (n : Numbers). HasOpener after_it n.issued) (sym numbers)
          (set-opener (λ (z : View T). z.sessions) views id view at (noting view mark) w.numbers.issued
          (λ says. opener-here (λ (z : View T). z.sessions) views id view at (noting view mark) w.numbers.issued says) (λ has. has) told.opener);
      live = λ number alive.
          set-seat (λ (z : View T). z.sessions) views id view at (noting view mark) number (λ place y get same_number. seat-still number place y get same_number)
          (λ has. has) (told.live number (sym (ap (λ (n : Numbers). n.live number) numbers) ∙ alive));
      at_seat = λ y stands. elim (set-back (λ (z : View T). z.sessions) views id view at (noting view mark) y stands) [
        | inl here ↦ here-told y here.0 here.1
        | inr elsewhere ↦
            let old = seats.history elsewhere.0.seat elsewhere.0.place elsewhere.0.view y elsewhere.0.there elsewhere.0.stands in
            beside y (λ e. elsewhere.1 (sym old.seat ∙ ap seats.seat_of e ∙ own.seat)) (told.at_seat y elsewhere.0)
      ];
      closed = λ y stands. let stood = closed-stood y stands in beside y (closed-another y stood) (told.closed y stood);
      none = λ number later.
          let not_yet : w.numbers.issued ≤ number = subst (λ (n : Numbers). n.issued ≤ number) numbers later in
          let young = issued x.number own.live in
          same number (λ e. let eq : ◌≡◌ {A = ℕ} number x.number = e in omega (arith, not_yet, young, eq)) ∙ told.none number not_yet;
    }

  own-was : (events : List Event) → StepsAreTold views w.numbers events → AreTold x.number x.marks (steps_of x.number events)
  own-was events told = told.at_seat x (record { seat = id; place = 0; view = view; there = at; stands = ap (λ sessions. slice_get sessions 0) is })

  -- One more event was told,
  pub steps-noted : (events : List Event) (step : Step) → Tells x.number mark step → StepsAreTold views w.numbers events
      → StepsAreTold (slice_set views id (noting view mark)) v.numbers (events ++ record { session = x.number; step = step } ∷ [])
  steps-noted events step tells told =
      let event : Event = record { session = x.number; step = step } in
      steps-then events (events ++ event ∷ []) told (told-push x.number x.marks events mark step tells (own-was events told))
      (λ number other. steps-beside number events event (another's number event other))

  -- or none, by a look.
  pub steps-looked : (events : List Event) → LooksOnly mark → StepsAreTold views w.numbers events → StepsAreTold (slice_set views id (noting view mark)) v.numbers events
  steps-looked events looks told = steps-then events events told (inr (looks, own-was events told)) (λ number other. refl)

  pub closed_so-looked : (first : World) (events : List Event) → ((y : History T) → StandsClosed views y → HasClosedSo content first w events y) → v ≡ w
      → (y : History T) → StandsClosed (slice_set views id (noting view mark)) y → HasClosedSo content first v events y
  closed_so-looked first events so same y stands = subst (λ (u : World). HasClosedSo content first u events y) (sym same) (so y (closed-stood y stands))

  -- What is known of each history at a seat, and of the one with its new mark, is known of each then.
  each-noted : (P Q : History T → Type 0) → Q (record { number = x.number; marks = mark ∷ x.marks }) → ((y : History T) → y.number ≢ x.number → P y → Q y)
      → ((y : History T) → StandsAtSeat views y → P y) → (y : History T) → StandsAtSeat after_it y → Q y
  each-noted P Q new others_ each y stands = elim (set-back (λ (z : View T). z.sessions) views id view at (noting view mark) y stands) [
    | inl here ↦ elim (noting-get x others mark here.0 y (sym (ap (λ sessions. slice_get sessions here.0) sessions') ∙ here.1)) [
      | inl one ↦ subst Q (sym one.1) new
      | inr other ↦
          let stood : slice_get view.sessions here.0 ≡ Some y = ap (λ sessions. slice_get sessions here.0) is ∙ other.1 in
          others_ y (else-another y here.0 other.0 stood) (each y (record { seat = id; place = here.0; view = view; there = at; stands = stood }))
    ]
    | inr elsewhere ↦
        let old = seats.history elsewhere.0.seat elsewhere.0.place elsewhere.0.view y elsewhere.0.there elsewhere.0.stands in
        others_ y (λ e. elsewhere.1 (sym old.seat ∙ ap seats.seat_of e ∙ own.seat)) (each y elsewhere.0)
  ]

  -- So the run goes on by the turn that the mark tells, and what stands beside the World is as the histories
  -- tell then.
  module _ (sizes : TableSizes) (events later : List Event) (kept : WakesAreKept sizes views events w) (turn : Turn) (keeps : KeepsInOrder w kept.beside turn v)
      (its_events : events_of (kept.turns ++ turn ∷ []) ≡ later) (own_turn : is_turn_of x.number turn ≡ true) (tells : TellsTurn x.number mark turn)
      (other_turn : (k : ℕ) → k ≢ x.number → is_turn_of k turn ≡ false)
      (own_todo : without_lost (todo_told_by x.number (mark ∷ x.marks)) ≡ todo_of (beside_after w kept.beside turn) x.number)
      (own_flagged : flagged_told_by (mark ∷ x.marks) ≡ (beside_after w kept.beside turn).duties.flagged x.number)
      (own_owed : OwesAsTold (beside_after w kept.beside turn) x.number (owed_told (mark ∷ x.marks)))
      (todo_same : (k : ℕ) → k ≢ x.number → todo_of (beside_after w kept.beside turn) k ≡ todo_of kept.beside k)
      (flagged_same : (k : ℕ) → k ≢ x.number → (beside_after w kept.beside turn).duties.flagged k ≡ kept.beside.duties.flagged k)
      (owed_same : (k : ℕ) → k ≢ x.number → (beside_after w kept.beside turn).waits.owed k ≡ kept.beside.waits.owed k) where
    abbrev beside_next : Beside
    beside_next = beside_after w kept.beside turn

    abbrev more : List Turn
    more = kept.turns ++ turn ∷ []

    young-apart : (k : ℕ) → v.numbers.issued ≤ k → k ≢ x.number
    young-apart k later_ e =
        let not_yet : w.numbers.issued ≤ k = subst (λ (n : Numbers). n.issued ≤ k) numbers later_ in
        let young = issued x.number own.live in
        let eq : ◌≡◌ {A = ℕ} k x.number = e in omega (arith, not_yet, young, eq)

    not-issued : (k : ℕ) → v.numbers.issued ≤ k → w.numbers.issued ≤ k
    not-issued k = subst (λ (n : Numbers). n.issued ≤ k) numbers

    stood : StandsAtSeat views x
    stood = record { seat = id; place = 0; view = view; there = at; stands = ap (λ sessions. slice_get sessions 0) is }

    others-told : (y : History T) → y.number ≢ x.number → AreTurnsTold y.number y.marks (turns_of y.number kept.turns) → AreTurnsTold y.number y.marks (turns_of y.number more)
    others-told y other = subst (AreTurnsTold y.number y.marks) (sym (turns-beside y.number kept.turns turn (other_turn y.number other)))

    others-owed : (k : ℕ) (owed : List ℕ) → k ≢ x.number → OwesAsTold kept.beside k owed → OwesAsTold beside_next k owed
    others-owed k owed other was o owes = was o (ap (λ (row : ℕ → Bool). row o) (sym (owed_same k other)) ∙ owes)

    turns-then : TurnsAreTold after_it v.numbers more
    turns-then = record {
      at_seat = each-noted (λ y. AreTurnsTold y.number y.marks (turns_of y.number kept.turns)) (λ y. AreTurnsTold y.number y.marks (turns_of y.number more))
          (turns-push x.number x.marks kept.turns mark turn own_turn tells (kept.told.at_seat x stood)) others-told kept.told.at_seat;
      closed = λ y stands. let was = closed-stood y stands in others-told y (closed-another y was) (kept.told.closed y was);
      none = λ k later_. turns-beside k kept.turns turn (other_turn k (young-apart k later_)) ∙ kept.told.none k (not-issued k later_);
    }

    pub wakes-then : WakesAreKept sizes (slice_set views id (noting view mark)) later v
    wakes-then = record {
      turns = more;
      beside = beside_next;
      run = (kept.run.0, run-push KeepsInOrder (opening sizes.sessions sizes.groups) w v nothing_beside kept.beside kept.turns turn kept.run.1 keeps);
      events_ = its_events;
      told = turns-then;
      todo = each-noted (λ y. without_lost (todo_told_by y.number y.marks) ≡ todo_of kept.beside y.number) (λ y. without_lost (todo_told_by y.number y.marks) ≡ todo_of beside_next y.number) own_todo
          (λ y other was. was ∙ sym (todo_same y.number other)) kept.todo;
      flagged = each-noted (λ y. flagged_told_by y.marks ≡ kept.beside.duties.flagged y.number) (λ y. flagged_told_by y.marks ≡ beside_next.duties.flagged y.number) own_flagged
          (λ y other was. was ∙ sym (flagged_same y.number other)) kept.flagged;
      owed = each-noted (λ y. OwesAsTold kept.beside y.number (owed_told y.marks)) (λ y. OwesAsTold beside_next y.number (owed_told y.marks)) own_owed
          (λ y other. others-owed y.number (owed_told y.marks) other) kept.owed;
      none_todo = λ k later_. kept.none_todo k (not-issued k later_) ∙ sym (todo_same k (young-apart k later_));
      none_flagged = λ k later_. kept.none_flagged k (not-issued k later_) ∙ sym (flagged_same k (young-apart k later_));
      none_owed = λ k later_. others-owed k [] (young-apart k later_) (kept.none_owed k (not-issued k later_));
    }

  pub closed_so-noted : (first : World) (events : List Event) (event : Event) → Happens w event v → ((y : History T) → StandsClosed views y → HasClosedSo content first w events y)
      → (y : History T) → StandsClosed (slice_set views id (noting view mark)) y → HasClosedSo content first v (events ++ event ∷ []) y
  closed_so-noted first events event happens so y stands = closed_so-push content first w v events event y happens (so y (closed-stood y stands))
