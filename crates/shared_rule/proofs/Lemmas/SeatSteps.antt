use Rattle.std.proofs.Common.{◌≡◌, ◌≢◌, ◌⊎◌, ℕ, zero, suc, true, false, ◌+◌, ◌≤◌, List, [], ◌∷◌, ◌++◌, length, Option, Some, None, refl, sym, ap, ◌∙◌, subst, inl, inr, arith}
use Rattle.std.specs.Prelude.{slice_get, slice_set}
use Rattle.std.proofs.lemmas.Bool.{cases_eq, both_ways}
use mathlib.Core.Option.{some}
use lib.ListN.{get_elem?}
use Rattle.atomic_table.proofs.Lists.{set_here, set_else, at_last}
use Rattle.lock_table.specs.Put.{set_at}
use Rattle.lock_table.proofs.Lemmas.Put.{set_at-here, set_at-else}
use Rattle.lock_world.specs.declared.events.Event.{Event}
use Rattle.lock_world.specs.World.{Numbers}
use Rattle.shared_rule.specs.declared.history.Mark.{Mark}
use Rattle.shared_rule.specs.declared.history.History.{History}
use Rattle.shared_rule.specs.declared.history.View.{View}
use Rattle.shared_rule.specs.History.{lone, spent_view}
use Rattle.shared_rule.specs.Tells.{AreTold, steps_of}
use Rattle.shared_rule.specs.Ruled.{StandsAtSeat, StandsClosed, HasSeat, HasOpener, StepsAreTold}
use Rattle.shared_rule.proofs.Lemmas.Standing.{there-within}
use Rattle.shared_rule.proofs.Lemmas.Told.{set-back, set-among, set-seat, seat-here, set-opener, opener-here, more-back, more-seat, more-opener}
use Rattle.shared_rule.proofs.Lemmas.OpenedViews.{one-get}
use Rattle.shared_rule.proofs.Lemmas.MetViews.{last-get, before-get, more-get}

-- As views are cut in two and joined, each history stands somewhere still, and tells the same steps.

module _ {T : Type 0} where
  abbrev sessions_of : View T → List (History T)
  sessions_of view = view.sessions

  abbrev closed_of : View T → List (History T)
  closed_of view = view.closed

  nobody : {P : Type 0} (h : History T) (place : ℕ) → slice_get [] place ≡ Some h → P
  nobody h place get = absurd (cc (get))

  -- Whoever keeps whom apart, the same steps are told.
  pub told-kept : (views : List (View T)) (numbers : Numbers) (events : List Event) (kept_by : ℕ → Option ℕ)
      → StepsAreTold views numbers events → StepsAreTold views (record numbers { kept_by = kept_by }) events
  told-kept views numbers events kept_by told = record { opener = told.opener; live = told.live; at_seat = told.at_seat; closed = told.closed; none = told.none }

-- A session opens.
module _ {T : Type 0} (views : List (View T)) (numbers : Numbers) (events : List Event) (id : ℕ) (view : View T) (n : ℕ)
    (at : get_elem? views id ≡ some view) (next : n ≡ numbers.issued) (told : StepsAreTold views numbers events) where
  abbrev left : View T
  left = record { next = Some (n + 1); closed = view.closed; sessions = view.sessions }

  pub closed-opened : (h : History T) → StandsClosed (slice_set views id left ++ lone n [] ∷ []) h → StandsClosed views h
  closed-opened h stands = elim (more-back (slice_set views id left) (lone n []) closed_of h stands) [
    | inl here ↦ nobody h here.0 here.1
    | inr stood ↦ set-among closed_of views id view at left h (λ place get. (place, get)) stood
  ]

  new-seat : (number : ℕ) → n ≡ number → HasSeat (slice_set views id left ++ lone n [] ∷ []) number
  new-seat number same = record {
    history = record { number = n; marks = [] };
    number_ = same;
    stands = record {
      seat = length (slice_set views id left);
      place = 0;
      view = lone n [];
      there = at_last (slice_set views id left) (lone n []) (length (slice_set views id left)) refl;
      stands = refl;
    };
  }

  old-seat : (number : ℕ) → HasSeat views number → HasSeat (slice_set views id left ++ lone n [] ∷ []) number
  old-seat number has =
      more-seat (slice_set views id left) (lone n []) number
      (set-seat sessions_of views id view at left number
      (λ place h get same. seat-here sessions_of views id view at left number place h get same) (λ still. still) has)

  -- What is known of each history at a seat, and of the one that is new, is known of each then.
  pub each-opened : (P : History T → Type 0) → P (record { number = n; marks = [] }) → ((h : History T) → StandsAtSeat views h → P h)
      → (h : History T) → StandsAtSeat (slice_set views id (record { next = Some (n + 1); closed = view.closed; sessions = view.sessions }) ++ lone n [] ∷ []) h → P h
  each-opened P new each h stands = elim (more-back (slice_set views id left) (lone n []) sessions_of h stands) [
    | inl here ↦ subst P (sym (one-get (record { number = n; marks = [] }) here.0 h here.1).1) new
    | inr stood ↦ each h (set-among sessions_of views id view at left h (λ place get. (place, get)) stood)
  ]

  pub told-opened :
      StepsAreTold (slice_set views id (record { next = Some (n + 1); closed = view.closed; sessions = view.sessions }) ++ lone n [] ∷ [])
      (record numbers { issued = n + 1; live = set_at numbers.live n true }) events
  told-opened = record {
    opener = more-opener (slice_set views id left) (lone n []) (n + 1) (opener-here sessions_of views id view at left (n + 1) refl);
    live = λ number alive. elim (cases_eq number n) [
      | inl same ↦ new-seat number (sym same)
      | inr other ↦ old-seat number (told.live number (sym (set_at-else numbers.live n true number other) ∙ alive))
    ];
    at_seat = each-opened (λ h. AreTold h.number h.marks (steps_of h.number events)) (told.none n (omega (arith, next))) told.at_seat;
    closed = λ h stands. told.closed h (closed-opened h stands);
    none = λ number later. let after : n + 1 ≤ number = later in told.none number (omega (arith, next, after));
  }

-- The view of one session's seat joins another's, and is spent.
module _ {T : Type 0} (views : List (View T)) (id : ℕ) (view : View T) (other k : ℕ) (marks : List (Mark T))
    (at : get_elem? views id ≡ some view) (there : get_elem? views other ≡ some (lone k marks)) (apart : other ≢ id) (new : View T) where
  abbrev its : History T
  its = record { number = k; marks = marks }

  there_still : get_elem? (slice_set views id new) other ≡ some (lone k marks)
  there_still = set_else views id other new apart ∙ there

  its-seat : StandsAtSeat views its
  its-seat = record { seat = other; place = 0; view = lone k marks; there = there; stands = refl }

  -- Who stands at a seat then.
  pub joined-back : (h : History T)
      → ((place : ℕ) → slice_get new.sessions place ≡ Some h → ((old : ℕ) × (slice_get view.sessions old ≡ Some h)) ⊎ (h ≡ record { number = k; marks = marks }))
      → StandsAtSeat (slice_set (slice_set views id new) other spent_view) h → StandsAtSeat views h
  joined-back h each stands = elim (set-back sessions_of (slice_set views id new) other (lone k marks) there_still spent_view h stands) [
    | inl here ↦ nobody h here.0 here.1
    | inr away ↦ elim (set-back sessions_of views id view at new h away.0) [
      | inl here ↦ elim (each here.0 here.1) [
        | inl old ↦ record { seat = id; place = old.0; view = view; there = at; stands = old.1 }
        | inr same ↦ subst (StandsAtSeat views) (sym same) its-seat
      ]
      | inr elsewhere ↦ elsewhere.0
    ]
  ]

  -- Who has closed then.
  pub joined-closed : (h : History T)
      → ((place : ℕ) → slice_get new.closed place ≡ Some h → ((old : ℕ) × (slice_get view.closed old ≡ Some h)) ⊎ (h ≡ record { number = k; marks = marks }))
      → StandsClosed (slice_set (slice_set views id new) other spent_view) h → StandsClosed views h ⊎ (h ≡ record { number = k; marks = marks })
  joined-closed h each stands = elim (set-back closed_of (slice_set views id new) other (lone k marks) there_still spent_view h stands) [
    | inl here ↦ nobody h here.0 here.1
    | inr away ↦ elim (set-back closed_of views id view at new h away.0) [
      | inl here ↦ elim (each here.0 here.1) [
        | inl old ↦ inl (record { seat = id; place = old.0; view = view; there = at; stands = old.1 })
        | inr same ↦ inr same
      ]
      | inr elsewhere ↦ inl elsewhere.0
    ]
  ]

  -- Whoever has a seat has one then, those of the view that is another, and the one who joined, as is said
  -- here.
  pub joined-seat : (number : ℕ)
      → ((place : ℕ) (h : History T) → slice_get view.sessions place ≡ Some h → h.number ≡ number → (now : ℕ) × (slice_get new.sessions now ≡ Some h))
      → (k ≡ number → (now : ℕ) × (slice_get new.sessions now ≡ Some (record { number = k; marks = marks })))
      → HasSeat views number → HasSeat (slice_set (slice_set views id new) other spent_view) number
  joined-seat number each joins has = set-seat sessions_of views id view at new number
      (λ place h get same. let now = each place h get same in at_id h now.0 now.1 same)
      (λ still. set-seat sessions_of (slice_set views id new) other (lone k marks) there_still spent_view number
      (λ place h get same.
      let one : h ≡ its = (one-get its place h get).1 in
      let number_is : k ≡ number = ap (λ (z : History T). z.number) (sym one) ∙ same in
      let now = joins number_is in
      at_id its now.0 now.1 number_is)
      (λ left. left) still)
      has where
        at_id : (h : History T) (now : ℕ) → slice_get new.sessions now ≡ Some h → h.number ≡ number → HasSeat (slice_set (slice_set views id new) other spent_view) number
        at_id h now stands same = record {
          history = h;
          number_ = same;
          stands = record {
            seat = id;
            place = now;
            view = new;
            there = set_else (slice_set views id new) other id spent_view (λ e. apart (sym e)) ∙ set_here views id new (there-within views id view at);
            stands = stands;
          };
        }

  -- The opener has its seat, where the view keeps the next number.
  pub joined-opener : (issued : ℕ) → new.next ≡ view.next → HasOpener views issued → HasOpener (slice_set (slice_set views id new) other spent_view) issued
  joined-opener issued keeps has = set-opener sessions_of views id view at new issued
      (λ says. record {
        seat = id;
        view = new;
        there = set_else (slice_set views id new) other id spent_view (λ e. apart (sym e)) ∙ set_here views id new (there-within views id view at);
        next = keeps ∙ says;
      })
      (λ still. set-opener sessions_of (slice_set views id new) other (lone k marks) there_still spent_view issued (λ never. absurd (cc (never))) (λ left. left) still)
      has

-- A session closes.
module _ {T : Type 0} (views : List (View T)) (numbers : Numbers) (events : List Event) (id : ℕ) (opener : View T) (other k : ℕ) (marks : List (Mark T))
    (at : get_elem? views id ≡ some opener) (there : get_elem? views other ≡ some (lone k marks)) (apart : other ≢ id) (told : StepsAreTold views numbers events) where
  abbrev closing : History T
  closing = record { number = k; marks = marks }

  abbrev having : View T
  having = record { next = opener.next; closed = closing ∷ opener.closed; sessions = opener.sessions }

  closing-there : (h : History T) (place : ℕ) → slice_get (closing ∷ opener.closed) place ≡ Some h
      → ((old : ℕ) × (slice_get opener.closed old ≡ Some h)) ⊎ (h ≡ closing)
  closing-there h zero get = let same : closing ≡ h = cc (get) in inr (sym same)
  closing-there h (suc place) get = inl (place, get)

  pub closed-closing : (h : History T)
      → StandsClosed (slice_set (slice_set views id (record { next = opener.next; closed = record { number = k; marks = marks } ∷ opener.closed; sessions = opener.sessions })) other spent_view) h
      → StandsClosed views h ⊎ (h ≡ record { number = k; marks = marks })
  closed-closing h = joined-closed views id opener other k marks at there apart having h (closing-there h)

  pub each-closing : (P : History T → Type 0) → ((h : History T) → StandsAtSeat views h → P h) → (h : History T)
      → StandsAtSeat (slice_set (slice_set views id (record { next = opener.next; closed = record { number = k; marks = marks } ∷ opener.closed; sessions = opener.sessions })) other spent_view) h → P h
  each-closing P each h stands = each h (joined-back views id opener other k marks at there apart having h (λ place get. inl (place, get)) stands)

  pub told-closing :
      StepsAreTold (slice_set (slice_set views id (record { next = opener.next; closed = record { number = k; marks = marks } ∷ opener.closed; sessions = opener.sessions })) other spent_view)
      (record numbers { live = set_at numbers.live k false }) events
  told-closing = record {
    opener = joined-opener views id opener other k marks at there apart having numbers.issued refl told.opener;
    live = λ number alive. elim (cases_eq number k) [
      | inl same ↦ absurd (both_ways (set_at numbers.live k false number) (set_at-here numbers.live k false number same) alive)
      | inr another ↦
          joined-seat views id opener other k marks at there apart having number (λ place h get same. (place, get)) (λ same. absurd (another (sym same)))
          (told.live number (sym (set_at-else numbers.live k false number another) ∙ alive))
    ];
    at_seat = λ h stands. told.at_seat h (joined-back views id opener other k marks at there apart having h (λ place get. inl (place, get)) stands);
    closed = λ h stands. elim (closed-closing h stands) [
      | inl stood ↦ told.closed h stood
      | inr same ↦ subst (λ (z : History T). AreTold z.number z.marks (steps_of z.number events)) (sym same)
          (told.at_seat closing (record { seat = other; place = 0; view = lone k marks; there = there; stands = refl }))
    ];
    none = told.none;
  }

-- A session meets those at a seat, behind them.
module _ {T : Type 0} (views : List (View T)) (numbers : Numbers) (events : List Event) (id : ℕ) (view : View T) (other b : ℕ) (others : List (Mark T))
    (at : get_elem? views id ≡ some view) (there : get_elem? views other ≡ some (lone b others)) (apart : other ≢ id) where
  abbrev second : History T
  second = record { number = b; marks = others }

  abbrev both : View T
  both = record { next = view.next; closed = view.closed; sessions = view.sessions ++ second ∷ [] }

  pub closed-met : (h : History T)
      → StandsClosed (slice_set (slice_set views id (record { next = view.next; closed = view.closed; sessions = view.sessions ++ record { number = b; marks = others } ∷ [] })) other spent_view) h
      → StandsClosed views h
  closed-met h stands = elim (set-back closed_of (slice_set views id both) other (lone b others) (set_else views id other both apart ∙ there) spent_view h stands) [
    | inl here ↦ nobody h here.0 here.1
    | inr away ↦ set-among closed_of views id view at both h (λ place get. (place, get)) away.0
  ]

  met-there : (h : History T) (place : ℕ) → slice_get (view.sessions ++ second ∷ []) place ≡ Some h → ((old : ℕ) × (slice_get view.sessions old ≡ Some h)) ⊎ (h ≡ second)
  met-there h place get = elim (more-get view.sessions second place h get) [
    | inl old ↦ inl (place, old)
    | inr last ↦ inr last.1
  ]

  pub each-met : (P : History T → Type 0) → ((h : History T) → StandsAtSeat views h → P h) → (h : History T)
      → StandsAtSeat (slice_set (slice_set views id (record { next = view.next; closed = view.closed; sessions = view.sessions ++ record { number = b; marks = others } ∷ [] })) other spent_view) h → P h
  each-met P each h stands = each h (joined-back views id view other b others at there apart both h (met-there h) stands)

  pub told-met : StepsAreTold views numbers events
      → StepsAreTold (slice_set (slice_set views id (record { next = view.next; closed = view.closed; sessions = view.sessions ++ record { number = b; marks = others } ∷ [] })) other spent_view)
      numbers events
  told-met told = record {
    opener = joined-opener views id view other b others at there apart both numbers.issued refl told.opener;
    live = λ number alive.
        joined-seat views id view other b others at there apart both number (λ place h get same. (place, before-get view.sessions (second ∷ []) place h get))
        (λ same. (length view.sessions, last-get view.sessions second)) (told.live number alive);
    at_seat = λ h stands. told.at_seat h (joined-back views id view other b others at there apart both h (met-there h) stands);
    closed = λ h stands. told.closed h (closed-met h stands);
    none = told.none;
  }

-- The last session at a seat goes on by itself.
module _ {T : Type 0} (views : List (View T)) (numbers : Numbers) (events : List Event) (id : ℕ) (view : View T) (before : List (History T)) (y : History T)
    (at : get_elem? views id ≡ some view) (is : view.sessions ≡ before ++ y ∷ []) where
  abbrev kept_view : View T
  kept_view = record { next = view.next; closed = view.closed; sessions = before }

  abbrev given_view : View T
  given_view = record { next = None; closed = []; sessions = y ∷ [] }

  pub closed-parted : (h : History T)
      → StandsClosed (slice_set views id (record { next = view.next; closed = view.closed; sessions = before }) ++ record { next = None; closed = []; sessions = y ∷ [] } ∷ []) h
      → StandsClosed views h
  closed-parted h stands = elim (more-back (slice_set views id kept_view) given_view closed_of h stands) [
    | inl here ↦ nobody h here.0 here.1
    | inr stood ↦ set-among closed_of views id view at kept_view h (λ place get. (place, get)) stood
  ]

  given-seat : (number : ℕ) → y.number ≡ number → HasSeat (slice_set views id kept_view ++ given_view ∷ []) number
  given-seat number same = record {
    history = y;
    number_ = same;
    stands = record {
      seat = length (slice_set views id kept_view);
      place = 0;
      view = given_view;
      there = at_last (slice_set views id kept_view) given_view (length (slice_set views id kept_view)) refl;
      stands = refl;
    };
  }

  still-seat : (number : ℕ) → HasSeat views number → HasSeat (slice_set views id kept_view ++ given_view ∷ []) number
  still-seat number = set-seat sessions_of views id view at kept_view number
      (λ place h get same.
      elim (more-get before y place h (ap (λ (sessions : List (History T)). slice_get sessions place) (sym is) ∙ get)) [
        | inl old ↦ more-seat (slice_set views id kept_view) given_view number (seat-here sessions_of views id view at kept_view number place h old same)
        | inr last ↦ given-seat number (ap (λ (z : History T). z.number) (sym last.1) ∙ same)
      ])
      (more-seat (slice_set views id kept_view) given_view number)

  last-told : StepsAreTold views numbers events → (h : History T) → h ≡ y → AreTold h.number h.marks (steps_of h.number events)
  last-told told h same =
      told.at_seat h (record {
        seat = id;
        place = length before;
        view = view;
        there = at;
        stands = ap (λ (sessions : List (History T)). slice_get sessions (length before)) is ∙ last-get before y ∙ ap (λ (z : History T). Some z) (sym same);
      })

  pub each-parted : (P : History T → Type 0) → ((h : History T) → StandsAtSeat views h → P h) → (h : History T)
      → StandsAtSeat (slice_set views id (record { next = view.next; closed = view.closed; sessions = before }) ++ record { next = None; closed = []; sessions = y ∷ [] } ∷ []) h → P h
  each-parted P each h stands = elim (more-back (slice_set views id kept_view) given_view sessions_of h stands) [
    | inl here ↦ subst P (sym (one-get y here.0 h here.1).1) (each y (record {
      seat = id;
      place = length before;
      view = view;
      there = at;
      stands = ap (λ (sessions : List (History T)). slice_get sessions (length before)) is ∙ last-get before y;
    }))
    | inr stood ↦ each h (set-among sessions_of views id view at kept_view h
        (λ place get. (place, ap (λ (sessions : List (History T)). slice_get sessions place) is ∙ before-get before (y ∷ []) place h get)) stood)
  ]

  pub told-parted : StepsAreTold views numbers events
      → StepsAreTold (slice_set views id (record { next = view.next; closed = view.closed; sessions = before }) ++ record { next = None; closed = []; sessions = y ∷ [] } ∷ []) numbers events
  told-parted told = record {
    opener = more-opener (slice_set views id kept_view) given_view numbers.issued
        (set-opener sessions_of views id view at kept_view numbers.issued
        (λ says. opener-here sessions_of views id view at kept_view numbers.issued says) (λ has. has) told.opener);
    live = λ number alive. still-seat number (told.live number alive);
    at_seat = λ h stands. elim (more-back (slice_set views id kept_view) given_view sessions_of h stands) [
      | inl here ↦ last-told told h (one-get y here.0 h here.1).1
      | inr stood ↦ told.at_seat h (set-among sessions_of views id view at kept_view h
          (λ place get. (place, ap (λ (sessions : List (History T)). slice_get sessions place) is ∙ before-get before (y ∷ []) place h get)) stood)
    ];
    closed = λ h stands. told.closed h (closed-parted h stands);
    none = told.none;
  }
