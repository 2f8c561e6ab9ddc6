use Rattle.std.proofs.Common.{◌≡◌, ◌⊎◌, ℕ, ◌<◌, ◌^◌, List, [], ◌∷◌, refl, sym, ap, ◌∙◌, subst, inl, inr}
use Rattle.std.specs.Prelude.{◌==◌}
use Rattle.std.proofs.lemmas.Bool.{cases_eq, false≢true, cond-true, cond-false, eq-eqb, ne_eqb}
use Rattle.lock_table.specs.Put.{set_at}
use Rattle.lock_table.proofs.Lemmas.Put.{set_at-here, set_at-else}
use Rattle.lock_world.specs.declared.events.Event.{Event}
use Rattle.lock_world.specs.declared.events.Step.{Step}
use Rattle.lock_world.specs.SlotHolds.{OneSlotEach, AreInGroups}
use Rattle.lock_world.specs.World.{World, opening}
use Rattle.lock_world.specs.Happens.{HappensStep, Happens, Next, RunsThrough, last_of, Runs}
use Rattle.lock_world.specs.Happens.Slots.{remembered_after_taking}
use Rattle.lock_world.specs.SafeWorld.{SafeWorld}
use Rattle.lock_world.proofs.Lemmas.LawfulSteps.{LawfulStep, world_after, taking_fast, sharing_fast, closing, setting_slot, clearing_slot, after_each}
use Rattle.lock_world.proofs.Lemmas.SafeWorld.Opening.{opening-safe}
use Rattle.lock_world.proofs.Lemmas.SafeWorld.Runs.{event-safe, Next-safe}

-- What a session remembers of its slots has one slot at most for a relation, and each in the relation's
-- group: it is what its slots showed at some time, and there are as many groups all the time.

-- What a session remembers after a step: as before, or as its slots show then, or nothing. There are as many
-- groups as before.
abbrev Follows : World → World → Type 0
Follows w v =
    (v.numbers.groups ≡ w.numbers.groups)
    × ((k : ℕ) → (v.sessions.remembered k ≡ w.sessions.remembered k) ⊎ ((v.sessions.remembered k ≡ v.words.slot k) ⊎ (v.sessions.remembered k ≡ (λ _. 0))))

-- with the lock of a session's slots taken, or shared
taking_own : (remembered slot : ℕ → ℕ → ℕ) (s o k : ℕ)
    → (remembered_after_taking remembered slot s o k ≡ remembered k) ⊎ (remembered_after_taking remembered slot s o k ≡ slot k)
taking_own remembered slot s o k =
    elim (cases_eq o s) [
      | inl own ↦
          let now : remembered_after_taking remembered slot s o k ≡ set_at remembered s (slot o) k =
          ap (λ (r : ℕ → ℕ → ℕ). r k) (cond-true (o == s) (set_at remembered s (slot o)) remembered (eq-eqb o s own)) in
          elim (cases_eq k s) [
            | inl same ↦ inr (now ∙ set_at-here remembered s (slot o) k same ∙ ap slot (own ∙ sym same))
            | inr other ↦ inl (now ∙ set_at-else remembered s (slot o) k other)
          ]
      | inr another ↦ inl (ap (λ (r : ℕ → ℕ → ℕ). r k) (cond-false (o == s) (set_at remembered s (slot o)) remembered (ne_eqb o s another)))
    ]

remembered_by_taking : (w : World) (s o k : ℕ)
    → (remembered_after_taking w.sessions.remembered w.words.slot s o k ≡ w.sessions.remembered k)
    ⊎ ((remembered_after_taking w.sessions.remembered w.words.slot s o k ≡ w.words.slot k) ⊎ (remembered_after_taking w.sessions.remembered w.words.slot s o k ≡ (λ _. 0)))
remembered_by_taking w s o k =
    elim (taking_own w.sessions.remembered w.words.slot s o k) [
      | inl old ↦ inl old
      | inr slots ↦ inr (inl slots)
    ]

-- with own slots changed, which are remembered so
setting : (remembered slot : ℕ → ℕ → ℕ) (s : ℕ) (mine : ℕ → ℕ) (k : ℕ)
    → (set_at remembered s mine k ≡ remembered k) ⊎ ((set_at remembered s mine k ≡ set_at slot s mine k) ⊎ (set_at remembered s mine k ≡ (λ _. 0)))
setting remembered slot s mine k =
    elim (cases_eq k s) [
      | inl same ↦ inr (inl (set_at-here remembered s mine k same ∙ sym (set_at-here slot s mine k same)))
      | inr other ↦ inl (set_at-else remembered s mine k other)
    ]

remembered_by_closing : (remembered slot : ℕ → ℕ → ℕ) (s k : ℕ)
    → (set_at remembered s (λ _. 0) k ≡ remembered k) ⊎ ((set_at remembered s (λ _. 0) k ≡ slot k) ⊎ (set_at remembered s (λ _. 0) k ≡ (λ _. 0)))
remembered_by_closing remembered slot s k =
    elim (cases_eq k s) [
      | inl same ↦ inr (inr (set_at-here remembered s (λ _. 0) k same))
      | inr other ↦ inl (set_at-else remembered s (λ _. 0) k other)
    ]

follows : (w : World) (s : ℕ) (it : LawfulStep w s) → Follows w (world_after it)
follows w s (taking_fast o may) = (refl, remembered_by_taking w s o)
follows w s (sharing_fast o exists may) = (refl, remembered_by_taking w s o)
follows w s (closing may) = (refl, remembered_by_closing w.sessions.remembered w.words.slot s)
follows w s (setting_slot i t m may) = (refl, setting w.sessions.remembered w.words.slot s _)
follows w s (clearing_slot i t m may) = (refl, setting w.sessions.remembered w.words.slot s _)
follows w s step = (refl, λ k. inl refl)

stepping : (w : World) (s : ℕ) (step : Step) (v : World) → HappensStep w s step v → Follows w v
stepping w s = after_each w s (λ _ v. Follows w v) (follows w s)

-- There are as many groups of slots after an event.
pub groups-stay : (w v : World) (event : Event) → Happens w event v → v.numbers.groups ≡ w.numbers.groups
groups-stay w v event h = (stepping w event.session event.step v h).0

-- So what it remembers is in order, in each World of a run from the opening one.
abbrev IsRemembered : ℕ → (ℕ → ℕ) → Type 0
IsRemembered groups slot = OneSlotEach slot × AreInGroups groups slot

abbrev OnceRemembered : World → Type 0
OnceRemembered w = (k : ℕ) → IsRemembered w.numbers.groups (w.sessions.remembered k)

pub nothing-remembered : (groups : ℕ) → IsRemembered groups (λ _. 0)
nothing-remembered groups = (
  λ relation place other within too is its. absurd (false≢true is),
  λ place within is. absurd (false≢true is),
)

once-step : (w v : World) (event : Event) → SafeWorld w → OnceRemembered w → Happens w event v → OnceRemembered v
once-step w v event safe old h k =
    let follows = stepping w event.session event.step v h in
    elim (follows.1 k) [
      | inl same ↦ subst (IsRemembered v.numbers.groups) (sym same) (subst (λ n. IsRemembered n (w.sessions.remembered k)) (sym follows.0) (old k))
      | inr new ↦ elim new [
        | inl slots ↦
            let now = event-safe w event v safe h in
            subst (IsRemembered v.numbers.groups) (sym slots) (now.slots.one_each k, now.slots.in_groups k)
        | inr none ↦ subst (IsRemembered v.numbers.groups) (sym none) (nothing-remembered v.numbers.groups)
      ]
    ]

once-next : (w v : World) (event : Event) → SafeWorld w → OnceRemembered w → Next w event v → OnceRemembered v
once-next w v event safe old (inl h) = once-step w v event safe old h
once-next w v event safe old (inr h) = subst OnceRemembered (sym h.1) old

once-through : (w : World) (events : List Event) (worlds : List World) → SafeWorld w → OnceRemembered w → RunsThrough w events worlds → OnceRemembered (last_of w worlds)
once-through w [] [] safe old run = old
once-through w [] (v ∷ worlds) safe old run = absurd run
once-through w (event ∷ events) [] safe old run = absurd run
once-through w (event ∷ events) (v ∷ worlds) safe old run =
    once-through v events worlds (Next-safe w event v safe run.0) (once-next w v event safe old run.0) run.1

pub remembered-once : (limit groups : ℕ) (events : List Event) (w : World) → limit < 2 ^ 24 → Runs (opening limit groups) events w
    → (k : ℕ) → OneSlotEach (w.sessions.remembered k) × AreInGroups w.numbers.groups (w.sessions.remembered k)
remembered-once limit groups events w few run =
    subst OnceRemembered (sym run.2) (once-through (opening limit groups) events run.0 (opening-safe limit groups few) (λ k. nothing-remembered groups) run.1)

-- There are as many groups at its end.
groups-next : (w v : World) (event : Event) → Next w event v → v.numbers.groups ≡ w.numbers.groups
groups-next w v event (inl h) = groups-stay w v event h
groups-next w v event (inr h) = ap (λ (z : World). z.numbers.groups) h.1

groups-through : (w : World) (events : List Event) (worlds : List World) → RunsThrough w events worlds → (last_of w worlds).numbers.groups ≡ w.numbers.groups
groups-through w [] [] run = refl
groups-through w [] (v ∷ worlds) run = absurd run
groups-through w (event ∷ events) [] run = absurd run
groups-through w (event ∷ events) (v ∷ worlds) run = groups-through v events worlds run.1 ∙ groups-next w v event run.0

pub groups-of_run : (limit groups : ℕ) (events : List Event) (w : World) → Runs (opening limit groups) events w → w.numbers.groups ≡ groups
groups-of_run limit groups events w run =
    ap (λ (z : World). z.numbers.groups) run.2 ∙ groups-through (opening limit groups) events run.0 run.1
