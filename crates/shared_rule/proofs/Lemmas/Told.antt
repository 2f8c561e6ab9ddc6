use Rattle.std.proofs.Common.{◌≡◌, ◌≢◌, ◌⊎◌, ℕ, ◌==◌, Bool, true, false, List, [], ◌∷◌, ◌++◌, map, Some, None, refl, sym, ap, ◌∙◌, subst, inl, inr, append_assoc}
use Rattle.std.specs.Prelude.{slice_get, slice_set, ◌&&◌, not}
use Rattle.std.specs.List.{filter}
use Rattle.std.proofs.lemmas.Bool.{cases_eq, eq-eqb, ne_eqb}
use Rattle.std.proofs.lemmas.List.{append-nil, map-append}
use Rattle.std.proofs.lemmas.List.Elements.{filter-append}
use mathlib.Core.Bool.{cond}
use mathlib.Core.Option.{some}
use lib.ListN.{get_elem?}
use Rattle.atomic_table.proofs.Lists.{at_set, set_here, set_else, at_longer}
use Rattle.lock_world.specs.declared.events.Event.{Event}
use Rattle.lock_world.specs.declared.events.Step.{Step}
use Rattle.lock_world.specs.declared.events.Step.TheVariants.{JoinSeat}
use Rattle.lock_table.specs.Content.{Content}
use Rattle.lock_world.specs.World.{World, Numbers}
use Rattle.lock_world.specs.Happens.{Happens, Runs, RunsThrough, last_of}
use Rattle.shared_rule.specs.declared.history.Mark.{Mark}
use Rattle.shared_rule.specs.declared.history.Mark.TheVariants.{TookPart, PutPart, SetWaiting, MarkedGranted, LeftQueue, OfWords}
use Rattle.shared_rule.specs.declared.history.WordMark.{WordMark}
use Rattle.shared_rule.specs.declared.history.WordMark.TheVariants as words
use Rattle.shared_rule.specs.declared.history.History.{History}
use Rattle.shared_rule.specs.declared.history.View.{View}
use Rattle.shared_rule.specs.Tells.{WordsTell, Tells, is_of_seats, is_step_of, steps_of, AreTold, Leads}
use Rattle.shared_rule.specs.Ruled.{StandsAmong, HasSeat, HasOpener, StepsAreTold, HasClosedSo}
use Rattle.shared_rule.proofs.Lemmas.Standing.{there-within, there-one, there-snoc}

-- Marks and steps go on side by side.

-- Events lead on by one more,
pub leads-push : (w : World) (events : List Event) (event : Event) (u v : World) → Leads w events u → Happens u event v → Leads w (events ++ event ∷ []) v
leads-push w [] event u v run happens = (v, subst (λ z. Happens z event v) run happens, refl)
leads-push w (first ∷ events) event u v run happens = (run.0, run.1, leads-push run.0 events event u v run.2 happens)

-- and from where others led to.
pub leads-both : (w : World) (events others : List Event) (u v : World) → Leads w events u → Leads u others v → Leads w (events ++ others) v
leads-both w [] others u v run rest = subst (λ z. Leads z others v) run rest
leads-both w (first ∷ events) others u v run rest = (run.0, run.1, leads-both run.0 events others u v run.2 rest)

-- They are a run.
pub leads-runs : (w : World) (events : List Event) (v : World) → Leads w events v → Runs w events v
leads-runs w [] v run = ([], tt, run)
leads-runs w (first ∷ events) v run =
    let others = leads-runs run.0 events v run.2 in
    (run.0 ∷ others.0, (inl run.1, others.1), others.2)

-- A run goes on from where another ended.
pub through-both : (w : World) (events : List Event) (worlds : List World) (others : List Event) (more : List World) → RunsThrough w events worlds
    → RunsThrough (last_of w worlds) others more → RunsThrough w (events ++ others) (worlds ++ more)
through-both w [] [] others more run rest = rest
through-both w [] (u ∷ worlds) others more run rest = absurd run
through-both w (first ∷ events) [] others more run rest = absurd run
through-both w (first ∷ events) (u ∷ worlds) others more run rest = (run.0, through-both u events worlds others more run.1 rest)

pub last-both : (w : World) (worlds more : List World) → last_of w (worlds ++ more) ≡ last_of (last_of w worlds) more
last-both w [] more = refl
last-both w (u ∷ worlds) more = last-both u worlds more

-- No mark tells a step of seats.
words-no_seats : (number : ℕ) (mark : WordMark) (its : Step) → WordsTell number mark its → is_of_seats its ≡ false
words-no_seats number (words.TookFast owner database shown) its tells = ap is_of_seats tells
words-no_seats number (words.PutFast owner found) its tells = ap is_of_seats tells
words-no_seats number (words.SharedFast owner database shown) its tells = ap is_of_seats tells
words-no_seats number (words.UnsharedFast owner found) its tells = ap is_of_seats tells
words-no_seats number (words.Passed owner tag mode found) its tells = ap is_of_seats tells
words-no_seats number (words.Counted tag mode) its tells = ap is_of_seats tells
words-no_seats number (words.Uncounted tag mode) its tells = ap is_of_seats tells
words-no_seats number (words.LoadedWait shown) its tells = ap is_of_seats tells
words-no_seats number (words.Asked other before) its tells = ap is_of_seats tells
words-no_seats number words.ClearedWait its tells = ap is_of_seats tells
words-no_seats number (words.LoadedDatabase owner shown) its tells = ap is_of_seats tells
words-no_seats number (words.LoadedSlot owner slot shown) its tells = ap is_of_seats tells
words-no_seats number (words.LoadedFast shown) its tells = ap is_of_seats tells
words-no_seats number (words.LoadedStrong index shown) its tells = ap is_of_seats tells
words-no_seats number (words.SetSlot slot tag mode) its tells = ap is_of_seats tells
words-no_seats number (words.ClearedSlot slot tag mode) its tells = ap is_of_seats tells
words-no_seats number (words.TransferredSlot owner slot tag mode) its tells = ap is_of_seats tells.1
words-no_seats number (words.StoredDatabase database) its tells = ap is_of_seats tells
words-no_seats number (words.LockedList lock waiters) its tells = ap is_of_seats tells.2
words-no_seats number words.UnlockedList its tells = ap is_of_seats tells.3
words-no_seats number (words.JoinedList mode) its tells = ap is_of_seats tells
words-no_seats number words.LeftList its tells = ap is_of_seats tells
words-no_seats number (words.TookOff other) its tells = ap is_of_seats tells
words-no_seats number (words.Told other) its tells = ap is_of_seats tells
words-no_seats number (words.LoadedSleep shown) its tells = ap is_of_seats tells
words-no_seats number (words.SetReleaseOk lock) its tells = ap is_of_seats tells.1.2
words-no_seats number (words.SetHasWaiters lock) its tells = ap is_of_seats tells.1.2
words-no_seats number (words.SawListLocked lock) its tells = absurd tells
words-no_seats number (words.SawHeld lock shown) its tells = absurd tells
words-no_seats number (words.CalledWaiter other) its tells = absurd tells
words-no_seats number (words.CalledSleeper other) its tells = absurd tells
words-no_seats number (words.ParksWaiting shown) its tells = absurd tells
words-no_seats number (words.ParksAsleep shown) its tells = absurd tells

pub tells-no_seats : {T : Type 0} (number : ℕ) (mark : Mark T) (its : Step) → Tells number mark its → is_of_seats its ≡ false
tells-no_seats number (TookPart part taken) its tells = ap is_of_seats tells
tells-no_seats number (PutPart part done put found) its tells = ap is_of_seats tells.1
tells-no_seats number (SetWaiting tag mode now) its tells = ap is_of_seats tells
tells-no_seats number (MarkedGranted part other done woken now) its tells = ap is_of_seats tells
tells-no_seats number (LeftQueue woken now) its tells = ap is_of_seats tells
tells-no_seats number (OfWords mark) its tells = words-no_seats number mark its tells

-- The steps of a session after one more event: with its step, where it is one of the session's, and else as
-- they were.
steps-push : (number : ℕ) (events : List Event) (event : Event) → steps_of number (events ++ event ∷ []) ≡ steps_of number events ++ steps_of number (event ∷ [])
steps-push number events event =
    ap (map (λ (e : Event). e.step)) (filter-append (is_step_of number) events (event ∷ []))
    ∙ map-append (λ (e : Event). e.step) (filter (is_step_of number) events) (filter (is_step_of number) (event ∷ []))

steps-own : (number : ℕ) (events : List Event) (event : Event) → is_step_of number event ≡ true → steps_of number (events ++ event ∷ []) ≡ steps_of number events ++ event.step ∷ []
steps-own number events event own =
    steps-push number events event ∙ ap (λ b. steps_of number events ++ map (λ (e : Event). e.step) (cond b (event ∷ []) [])) own

pub steps-beside : (number : ℕ) (events : List Event) (event : Event) → is_step_of number event ≡ false → steps_of number (events ++ event ∷ []) ≡ steps_of number events
steps-beside number events event beside =
    steps-push number events event ∙ ap (λ b. steps_of number events ++ map (λ (e : Event). e.step) (cond b (event ∷ []) [])) beside
    ∙ append-nil (steps_of number events)

-- A step of another session, or of seats, is none of the session's.
pub another's : (number : ℕ) (event : Event) → number ≢ event.session → is_step_of number event ≡ false
another's number event other = ap (λ b. b && not (is_of_seats event.step)) (ne_eqb event.session number (λ e. other (sym e)))

and-false : (b : Bool) → (b && false) ≡ false
and-false true = refl
and-false false = refl

pub of_seats : (number : ℕ) (event : Event) → is_of_seats event.step ≡ true → is_step_of number event ≡ false
of_seats number event seats = ap (λ b. (event.session == number) && not b) seats ∙ and-false (event.session == number)

module _ {T : Type 0} where
  -- A step that its mark tells goes on with the history,
  pub told-push : (number : ℕ) (marks : List (Mark T)) (events : List Event) (mark : Mark T) (its : Step) → Tells number mark its → AreTold number marks (steps_of number events)
      → AreTold number (mark ∷ marks) (steps_of number (events ++ record { session = number; step = its } ∷ []))
  told-push number marks events mark its tells told = inl (
    steps_of number events,
    its,
    steps-own number events (record { session = number; step = its })
        ((λ i. eq-eqb number number refl i && not (tells-no_seats number mark its tells i))),
    tells,
    told,
  )

  -- and one of another leaves it.
  pub told-beside : (number : ℕ) (marks : List (Mark T)) (events : List Event) (event : Event) → is_step_of number event ≡ false → AreTold number marks (steps_of number events)
      → AreTold number marks (steps_of number (events ++ event ∷ []))
  told-beside number marks events event beside told = subst (AreTold number marks) (sym (steps-beside number events event beside)) told

-- Where histories stand once a view is another, or one more joins the others.
module _ {T : Type 0} (these : View T → List (History T)) (views : List (View T)) (id : ℕ) (view : View T) (at : get_elem? views id ≡ some view) (new : View T) where
  -- Whoever stands there stood there, at another seat, or stands in this view.
  pub set-back : (h : History T) → StandsAmong these (slice_set views id new) h
      → ((place : ℕ) × (slice_get (these new) place ≡ Some h)) ⊎ ((old : StandsAmong these views h) × (old.seat ≢ id))
  set-back h stands =
      elim (at_set views id stands.seat new stands.view stands.there) [
        | inl here ↦ inl (stands.place, ap (λ (z : View T). slice_get (these z) stands.place) here.1 ∙ stands.stands)
        | inr elsewhere ↦ inr (record { seat = stands.seat; place = stands.place; view = stands.view; there = elsewhere.1; stands = stands.stands }, elsewhere.0)
      ]

  -- Where each that this view has stood in the one before it, all stood there.
  pub set-among : (h : History T) → ((place : ℕ) → slice_get (these new) place ≡ Some h → (old : ℕ) × (slice_get (these view) old ≡ Some h))
      → StandsAmong these (slice_set views id new) h → StandsAmong these views h
  set-among h each stands = elim (set-back h stands) [
    | inl here ↦ let old = each here.0 here.1 in record { seat = id; place = old.0; view = view; there = at; stands = old.1 }
    | inr elsewhere ↦ elsewhere.0
  ]

  -- Whatever follows for whoever stands in this view, and for whoever has a seat beside it, follows for
  -- whoever has a seat.
  pub set-seat : {P : Type 0} (number : ℕ) → ((place : ℕ) (h : History T) → slice_get view.sessions place ≡ Some h → h.number ≡ number → P)
      → (HasSeat (slice_set views id new) number → P) → HasSeat views number → P
  set-seat number here beside has = elim (cases_eq has.stands.seat id) [
    | inl same ↦
        let one : has.stands.view ≡ view = there-one views id has.stands.view view (ap (get_elem? views) (sym same) ∙ has.stands.there) at in
        here has.stands.place has.history (ap (λ (z : View T). slice_get z.sessions has.stands.place) (sym one) ∙ has.stands.stands) has.number_
    | inr other ↦ beside (record {
      history = has.history;
      number_ = has.number_;
      stands = record {
        seat = has.stands.seat;
        place = has.stands.place;
        view = has.stands.view;
        there = set_else views id has.stands.seat new other ∙ has.stands.there;
        stands = has.stands.stands;
      };
    })
  ]

  -- Whoever stands in the new view has a seat.
  pub seat-here : (number place : ℕ) (h : History T) → slice_get new.sessions place ≡ Some h → h.number ≡ number → HasSeat (slice_set views id new) number
  seat-here number place h stands is = record {
    history = h;
    number_ = is;
    stands = record { seat = id; place = place; view = new; there = set_here views id new (there-within views id view at); stands = stands };
  }

  -- So it does for the opener.
  pub set-opener : {P : Type 0} (issued : ℕ) → (view.next ≡ Some issued → P) → (HasOpener (slice_set views id new) issued → P) → HasOpener views issued → P
  set-opener issued here beside has = elim (cases_eq has.seat id) [
    | inl same ↦
        let one : has.view ≡ view = there-one views id has.view view (ap (get_elem? views) (sym same) ∙ has.there) at in
        here (ap (λ (z : View T). z.next) (sym one) ∙ has.next)
    | inr other ↦ beside (record { seat = has.seat; view = has.view; there = set_else views id has.seat new other ∙ has.there; next = has.next })
  ]

  pub opener-here : (issued : ℕ) → new.next ≡ Some issued → HasOpener (slice_set views id new) issued
  opener-here issued says = record { seat = id; view = new; there = set_here views id new (there-within views id view at); next = says }

module _ {T : Type 0} (views : List (View T)) (more : View T) where
  pub more-opener : (issued : ℕ) → HasOpener views issued → HasOpener (views ++ more ∷ []) issued
  more-opener issued has = record { seat = has.seat; view = has.view; there = at_longer views (more ∷ []) has.seat has.view has.there; next = has.next }

  pub more-back : (these : View T → List (History T)) (h : History T) → StandsAmong these (views ++ more ∷ []) h
      → ((place : ℕ) × (slice_get (these more) place ≡ Some h)) ⊎ StandsAmong these views h
  more-back these h stands =
      elim (there-snoc views more stands.view stands.seat stands.there) [
        | inl old ↦ inr (record { seat = stands.seat; place = stands.place; view = stands.view; there = old; stands = stands.stands })
        | inr last ↦ inl (stands.place, ap (λ (z : View T). slice_get (these z) stands.place) last.1 ∙ stands.stands)
      ]

  pub more-seat : (number : ℕ) → HasSeat views number → HasSeat (views ++ more ∷ []) number
  more-seat number has = record {
    history = has.history;
    number_ = has.number_;
    stands = record {
      seat = has.stands.seat;
      place = has.stands.place;
      view = has.stands.view;
      there = at_longer views (more ∷ []) has.stands.seat has.stands.view has.stands.there;
      stands = has.stands.stands;
    };
  }

-- After an event of seats the steps are told that were told before it.
pub told-seats : {T : Type 0} (views : List (View T)) (numbers : Numbers) (events : List Event) (event : Event) → is_of_seats event.step ≡ true
    → StepsAreTold views numbers events → StepsAreTold views numbers (events ++ event ∷ [])
told-seats views numbers events event seats told = record {
  opener = told.opener;
  live = told.live;
  at_seat = λ h stands. told-beside h.number h.marks events event (of_seats h.number event seats) (told.at_seat h stands);
  closed = λ h stands. told-beside h.number h.marks events event (of_seats h.number event seats) (told.closed h stands);
  none = λ number later. steps-beside number events event (of_seats number event seats) ∙ told.none number later;
}

-- What a closed session's history tells was so, whatever comes after.
pub closed_so-push : {T : Type 0} (content : T → Content) (first w v : World) (events : List Event) (event : Event) (h : History T) → Happens w event v
    → HasClosedSo content first w events h → HasClosedSo content first v (events ++ event ∷ []) h
closed_so-push content first w v events event h happens so = record {
  before = so.before;
  after = so.after ++ event ∷ [];
  all = ap (λ all. all ++ event ∷ []) so.all ∙ append_assoc so.before (record { session = h.number; step = JoinSeat None } ∷ so.after) (event ∷ []);
  world = so.world;
  run = so.run;
  rest = leads-push so.world (record { session = h.number; step = JoinSeat None } ∷ so.after) event w v so.rest happens;
  account = so.account;
}
