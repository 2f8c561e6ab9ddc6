use Rattle.std.specs.Prelude.{◌≡◌, ℕ, true, false, List, ◌∷◌, ◌++◌, Some, None, slice_get, Option}
use Rattle.modes_core.specs.declared.modes.Mode.{Mode}
use Rattle.modes_core.specs.declared.tags.Tag.{Tag}
use Rattle.modes_core.specs.Tag.{partition_of, is_strong_on}
use Rattle.lock_table.specs.declared.answering.Answer.{Answer}
use Rattle.lock_table.specs.declared.answering.Clash.{Clash}
use Rattle.lock_table.specs.Content.{Content}
use Rattle.lock_table.specs.Clash.{ClashIs}
use Rattle.lock_table.specs.Queue.{WaitingAnswer, waits_there}
use Rattle.lock_world.specs.Counted.{is_done}
use Rattle.lock_world.specs.World.{World, TraceEntry, Took}
use Rattle.lock_world.specs.Headline.{IsInTheWay}
use Rattle.one_list.specs.OneList.{list_of}

-- What the list answers to requests, where a session took a content to answer them by.

-- In this World the mode is weak on the object, or the session has counted it past each session's slots.
abbrev pub IsCleared : World → ℕ → Tag → Mode → Type 0
IsCleared w session tag mode =
    is_strong_on tag mode ≡ true → is_done w.numbers.limit (w.sessions.counted session) tag mode ≡ true

-- In this World the list refuses a conditional request: it does not grant it, and what the refusal names is
-- in the way in the list. Where the mode is weak, or counted past each session, the list refuses it by just
-- that name.
pub record IsRefusedByList (w : World) (session : ℕ) (tag : Tag) (mode : Mode) (clash : Clash) : Type 0 where
  pub not_granted : ClashIs (list_of w) session tag mode None → ⊥
  pub in_the_way : IsInTheWay (list_of w) session tag mode clash
  pub by_name : IsCleared w session tag mode → ClashIs (list_of w) session tag mode (Some clash)

-- In this World the list answers each request of the session as the content does, where the mode is weak, or
-- counted past each session: a conditional request with what it clashes with, or with nothing, and one that
-- may wait with its answer.
pub record AnswersAlike (w : World) (session : ℕ) (tag : Tag) (mode : Mode) (taken : Content) : Type 0 where
  pub clashes :
      IsCleared w session tag mode → (clash : Option Clash) → ClashIs taken session tag mode clash
      → ClashIs (list_of w) session tag mode clash
  pub answers :
      IsCleared w session tag mode → (answer : Answer) → WaitingAnswer taken session tag mode answer
      → WaitingAnswer (list_of w) session tag mode answer

-- One of these Worlds is so, and the session's trace was just this in it.
abbrev pub InSomeWorld : List World → ℕ → List TraceEntry → (World → Type 0) → Type 0
InSomeWorld worlds session before P =
    (place : ℕ) × (w : World) × (slice_get worlds place ≡ Some w) × (w.sessions.trace session ≡ before) × P w

-- Of a run that goes through these Worlds up to `now`: a session took a content of the object's partition, in
-- which it has no wait on the object and in which a conditional request of its own clashes. Then the list
-- refuses that request in the World in which the content was taken.
abbrev pub RefusalsAreTheLists : List World → World → Type 0
RefusalsAreTheLists worlds now =
    (session : ℕ) (before after : List TraceEntry) (tag : Tag) (mode : Mode) (taken : Content) (clash : Clash)
    → now.sessions.trace session ≡ before ++ Took (partition_of tag) taken ∷ after
    → waits_there (taken.waits tag) session ≡ false → ClashIs taken session tag mode (Some clash)
    → InSomeWorld worlds session before (λ w. IsRefusedByList w session tag mode clash)

-- Of such a run: a session took a content of the object's partition. Then the list answers each request of
-- the session on the object as the content does, in the World in which the content was taken.
abbrev pub AnswersAreTheLists : List World → World → Type 0
AnswersAreTheLists worlds now =
    (session : ℕ) (before after : List TraceEntry) (tag : Tag) (mode : Mode) (taken : Content)
    → now.sessions.trace session ≡ before ++ Took (partition_of tag) taken ∷ after
    → InSomeWorld worlds session before (λ w. AnswersAlike w session tag mode taken)
