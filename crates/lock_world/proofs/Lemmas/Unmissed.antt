use Rattle.std.proofs.Common.{◌≡◌, ◌⊎◌, ℕ, zero, suc, true, List, [], ◌∷◌, ◌++◌, Some, refl, sym, ap, ◌∙◌, subst, inl, inr}
use Rattle.std.specs.Prelude.{slice_get}
use Rattle.modes_core.specs.declared.modes.Mode.{Mode}
use Rattle.modes_core.specs.declared.tags.Tag.{Tag}
use Rattle.modes_core.specs.Tag.{partition_of, is_eligible_for}
use Rattle.lw_word.specs.SlotWord.{shows}
use Rattle.lock_table.specs.Content.{Content}
use Rattle.lock_world.specs.declared.events.Event.{Event}
use Rattle.lock_world.specs.declared.events.Word.TheVariants.{Database, Slot}
use Rattle.lock_world.specs.SlotHolds.{relation_of}
use Rattle.lock_world.specs.World.{World, TraceEntry, Loaded, Took}
use Rattle.lock_world.specs.Happens.{RunsThrough, last_of}
use Rattle.lock_world.specs.Listing.{StandsThereOrInContent}
use Rattle.lock_world.specs.SafeWorld.{SafeWorld, slots_of}
use Rattle.lock_world.specs.Telling.{TellsWhatIs}
use Rattle.lock_world.proofs.Lemmas.Slots.Eligible.{is_in-held}
use Rattle.lock_world.proofs.Lemmas.SafeWorld.Runs.{Next-safe}
use Rattle.lock_world.proofs.Lemmas.Listing.{stays-in_content}
use Rattle.lock_world.proofs.Lemmas.Telling.{not-none, told-or-stood}

-- What a session loads and takes, one after another, as its trace has it: a hold that stands in one slot or
-- in a content all the while was seen in the slot, or is in the content that is taken last.

-- ---- runs from one of their Worlds on

pub record GoesOn (w : World) (worlds : List World) (last at : World) : Type 0 where
  pub place : ℕ
  pub there : slice_get (w ∷ worlds) place ≡ Some at
  pub safe : SafeWorld at
  pub events : List Event
  pub later : List World
  pub run : RunsThrough at events later
  pub same_last : last_of at later ≡ last
  pub among : (j : ℕ) (z : World) → slice_get (at ∷ later) j ≡ Some z → (k : ℕ) × (slice_get (w ∷ worlds) k ≡ Some z)

goes_on :
    (w : World) (events : List Event) (worlds : List World) → SafeWorld w → RunsThrough w events worlds
    → (place : ℕ) (at : World) → slice_get (w ∷ worlds) place ≡ Some at → GoesOn w worlds (last_of w worlds) at
goes_on w events worlds safe run zero at there =
    let same : w ≡ at = cc (there) in
    subst (λ (z : World). GoesOn w worlds (last_of w worlds) z) same (record {
      place = zero;
      there = refl;
      safe = safe;
      events = events;
      later = worlds;
      run = run;
      same_last = refl;
      among = λ j z is. (j, is);
    })
goes_on w [] [] safe run (suc place) at there = absurd (cc (there))
goes_on w [] (v ∷ worlds) safe run (suc place) at there = absurd run
goes_on w (event ∷ events) [] safe run (suc place) at there = absurd run
goes_on w (event ∷ events) (v ∷ worlds) safe run (suc place) at there =
    let on = goes_on v events worlds (Next-safe w event v safe run.0) run.1 place at there in
    record {
      place = suc place;
      there = there;
      safe = on.safe;
      events = on.events;
      later = on.later;
      run = on.run;
      same_last = on.same_last;
      among = λ j z is. let k = on.among j z is in (suc k.0, k.1);
    }

-- ---- entries of a trace, one after another

too-long : {A : Type 0} (xs ys : List A) (x : A) (zs : List A) → xs ≡ (xs ++ ys) ++ x ∷ zs → ⊥
too-long [] ys x zs e = not-none ys x zs e
too-long (y ∷ xs) ys x zs e = let rest : xs ≡ (xs ++ ys) ++ x ∷ zs = cc (e) in too-long xs ys x zs rest

-- An entry that the trace has not yet, and has at the end of the run, tells what is in a World on the way,
-- from which the run goes on, and in the one after it.
record IsTold (w : World) (worlds : List World) (last : World) (s : ℕ) (before : List TraceEntry) (entry : TraceEntry) : Type 0 where
  at : World
  on : GoesOn w worlds last at
  next : World
  trace : at.sessions.trace s ≡ before
  tells : TellsWhatIs at next entry

told-next :
    (w : World) (events : List Event) (worlds : List World) (s : ℕ) (before between after : List TraceEntry) (entry : TraceEntry)
    → SafeWorld w → RunsThrough w events worlds → w.sessions.trace s ≡ before
    → (last_of w worlds).sessions.trace s ≡ (before ++ between) ++ entry ∷ after
    → IsTold w worlds (last_of w worlds) s (before ++ between) entry
told-next w events worlds s before between after entry safe run is stands =
    elim (told-or-stood w events worlds s (before ++ between) after entry safe run stands) [
      | inl stood ↦ absurd (too-long before between entry stood.0 (sym is ∙ stood.1))
      | inr told ↦ record {
        at = told.1;
        on = goes_on w events worlds safe run told.0 told.1 told.3;
        next = told.2;
        trace = told.5;
        tells = told.6;
      }
    ]

-- ---- a hold that stands in one slot or in a content all the while

module _ (s place : ℕ) (o : Tag) (m : Mode) where
  -- the content of its object's partition has it
  abbrev InContent : World → Type 0
  InContent w = (w.contents.now (partition_of o)).holds s o m ≡ true

  abbrev Throughout : World → List World → Type 0
  Throughout w worlds = (i : ℕ) (z : World) → slice_get (w ∷ worlds) i ≡ Some z → StandsThereOrInContent z s o m place

  in_content : (w : World) → SafeWorld w → (p : ℕ) → (w.contents.now p).holds s o m ≡ true → InContent w
  in_content w safe p has =
      subst (λ q. (w.contents.now q).holds s o m ≡ true)
      (sym (safe.but_slots.table.promise.one_place.no_hold_elsewhere p s o m has)) has

  slot-or-content : (w : World) → SafeWorld w → StandsThereOrInContent w s o m place
      → (slots_of w.words.database w.words.slot s o m ≡ true) ⊎ InContent w
  slot-or-content w safe (inl there) = inl (is_in-held (w.words.database s) (w.words.slot s) o m place there)
  slot-or-content w safe (inr found) = inr (in_content w safe found.0 found.1)

  throughout-on : (w : World) (worlds : List World) (last at : World) (on : GoesOn w worlds last at) → Throughout w worlds
      → Throughout at on.later
  throughout-on w worlds last at on throughout j z is = let k = on.among j z is in throughout k.0 z k.1

  -- Once in a content it is so later.
  stays-later :
      (w : World) (events : List Event) (worlds : List World) → SafeWorld w → RunsThrough w events worlds → Throughout w worlds
      → InContent w → (i : ℕ) (z : World) → slice_get (w ∷ worlds) i ≡ Some z → InContent z
  stays-later w events worlds safe run throughout has zero z is =
      let same : w ≡ z = cc (is) in subst (λ (u : World). InContent u) same has
  stays-later w events worlds safe run throughout has (suc i) z is =
      stays-in_content w events worlds s o m safe run has
      (λ j u at. let on = goes_on w events worlds safe run (suc j) u at in slot-or-content u on.safe (throughout (suc j) u at)) i z is

  pub seen-or-taken :
      (w : World) (events : List Event) (worlds : List World) (lister : ℕ)
      (before first second third rest later after : List TraceEntry) (database shown : ℕ) (content : Content)
      → SafeWorld w → RunsThrough w events worlds → Throughout w worlds → w.sessions.trace lister ≡ before
      → (last_of w worlds).sessions.trace lister ≡ (before ++ first) ++ Loaded (Database s) database ∷ rest
      → (last_of w worlds).sessions.trace lister ≡ ((before ++ first) ++ second) ++ Loaded (Slot s place) shown ∷ later
      → (last_of w worlds).sessions.trace lister ≡ (((before ++ first) ++ second) ++ third) ++ Took (partition_of o) content ∷ after
      → ((is_eligible_for database o m ≡ true) × (shows shown (relation_of o) m ≡ true)) ⊎ (content.holds s o m ≡ true)
  seen-or-taken w events worlds lister before first second third rest later after database shown content safe run throughout is e1 e2 e3 =
      by_database (throughout_1 0 u_1 refl) where
        told_1 : IsTold w worlds (last_of w worlds) lister (before ++ first) (Loaded (Database s) database)
        told_1 = told-next w events worlds lister before first rest (Loaded (Database s) database) safe run is e1

        u_1 : World
        u_1 = told_1.at

        on_1 : GoesOn w worlds (last_of w worlds) u_1
        on_1 = told_1.on

        last_1 : (last_of u_1 on_1.later).sessions.trace lister ≡ (last_of w worlds).sessions.trace lister
        last_1 = ap (λ (z : World). z.sessions.trace lister) on_1.same_last

        throughout_1 : Throughout u_1 on_1.later
        throughout_1 = throughout-on w worlds (last_of w worlds) u_1 on_1 throughout

        told_2 : IsTold u_1 on_1.later (last_of u_1 on_1.later) lister ((before ++ first) ++ second) (Loaded (Slot s place) shown)
        told_2 = told-next u_1 on_1.events on_1.later lister (before ++ first) second later (Loaded (Slot s place) shown) on_1.safe on_1.run
            told_1.trace (last_1 ∙ e2)

        u_2 : World
        u_2 = told_2.at

        on_2 : GoesOn u_1 on_1.later (last_of u_1 on_1.later) u_2
        on_2 = told_2.on

        last_2 : (last_of u_2 on_2.later).sessions.trace lister ≡ (last_of w worlds).sessions.trace lister
        last_2 = ap (λ (z : World). z.sessions.trace lister) on_2.same_last ∙ last_1

        throughout_2 : Throughout u_2 on_2.later
        throughout_2 = throughout-on u_1 on_1.later (last_of u_1 on_1.later) u_2 on_2 throughout_1

        told_3 :
            IsTold u_2 on_2.later (last_of u_2 on_2.later) lister (((before ++ first) ++ second) ++ third)
            (Took (partition_of o) content)
        told_3 = told-next u_2 on_2.events on_2.later lister ((before ++ first) ++ second) third after (Took (partition_of o) content)
            on_2.safe on_2.run told_2.trace (last_2 ∙ e3)

        -- In a content at the second load, it is in the one taken,
        taken : InContent u_2 → content.holds s o m ≡ true
        taken has =
            (λ i. (told_3.tells i).holds s o m)
            ∙ stays-later u_2 on_2.events on_2.later on_2.safe on_2.run throughout_2 has told_3.on.place told_3.at told_3.on.there

        by_slot : is_eligible_for database o m ≡ true → StandsThereOrInContent u_2 s o m place
            → ((is_eligible_for database o m ≡ true) × (shows shown (relation_of o) m ≡ true)) ⊎ (content.holds s o m ≡ true)
        by_slot eligible (inl there) = inl (eligible, ap (λ word. shows word (relation_of o) m) told_2.tells ∙ there.shown)
        by_slot eligible (inr found) = inr (taken (in_content u_2 on_2.safe found.0 found.1))

        -- and so it is if it was at the first.
        by_database : StandsThereOrInContent u_1 s o m place
            → ((is_eligible_for database o m ≡ true) × (shows shown (relation_of o) m ≡ true)) ⊎ (content.holds s o m ≡ true)
        by_database (inl there) =
            by_slot (ap (λ d. is_eligible_for d o m) told_1.tells ∙ there.eligible) (throughout_2 0 u_2 refl)
        by_database (inr found) = inr (taken (stays-later u_1 on_1.events on_1.later on_1.safe on_1.run throughout_1
            (in_content u_1 on_1.safe found.0 found.1) on_2.place u_2 on_2.there))
