use Rattle.std.proofs.Common.{◌≡◌, ℕ, zero, suc, true, false, List, ◌∷◌, ◌++◌, Some, None, refl, sym, ◌∙◌, subst}
use Rattle.std.specs.Prelude.{slice_get}
use Rattle.std.proofs.lemmas.Bool.{or_left, or_right}
use Rattle.modes_core.specs.declared.modes.Mode.{Mode}
use Rattle.modes_core.specs.declared.tags.Tag.{Tag}
use Rattle.modes_core.specs.declared.refusals.How.{How}
use Rattle.modes_core.specs.declared.refusals.How.TheVariants.{Held, Awaited}
use Rattle.modes_core.specs.Tag.{partition_of}
use Rattle.lock_table.specs.declared.moves.Move.{Move}
use Rattle.lock_table.specs.declared.moves.Move.TheVariants.{Keep, Grant, Join, Release, Leave, Adopt}
use Rattle.lock_table.specs.declared.answering.Answer.TheVariants.{Queued}
use Rattle.lock_table.specs.declared.answering.Clash.{Clash}
use Rattle.lock_table.specs.Content.{Wait, Content}
use Rattle.lock_table.specs.Clash.{ClashIs, first_waiter}
use Rattle.lock_table.specs.Queue.{joined, with_queue}
use Rattle.lock_table.proofs.Lemmas.OneAnswer.{waiting_answer-one}
use Rattle.lock_table.proofs.Lemmas.OneMove.{one_moved}
use Rattle.lock_table.proofs.Lemmas.QueueLaws.{clash-not_free, no_clash-free}
use Rattle.lock_world.specs.declared.events.Event.{Event}
use Rattle.lock_world.specs.World.{World, TraceEntry, Took, opening}
use Rattle.lock_world.specs.Happens.{RunsThrough, last_of}
use Rattle.lock_world.specs.SafeWorld.{SafeWorld, slots_of}
use Rattle.lock_world.specs.Headline.{stands_with, IsThereAs}
use Rattle.lock_world.proofs.Lemmas.Headline.{headline, clash-in_the_way}
use Rattle.lock_world.proofs.Lemmas.SafeWorld.Runs.{through-safe, Runs-safe}
use Rattle.lock_world.proofs.Lemmas.Telling.{each-told}
use Rattle.one_list.specs.OneList.{list_of, MovesList, JoinsQueue}
use Rattle.one_list.specs.Moments.{AtSomeMoment, Coming, IsNoJoin}
use Rattle.one_list.specs.Requests.{InSomeWorld, AnswersAlike, IsRefusedByList, RefusalsAreTheLists, AnswersAreTheLists}
use Rattle.one_list.proofs.Lemmas.Over.{NoConflictingHolder-under}
use Rattle.one_list.proofs.Lemmas.Slots.{shown_on, asks}
use Rattle.one_list.proofs.Lemmas.Runs.{alike}
use Rattle.one_list.proofs.Lemmas.Moments.{coming}

-- A refusal is the list's, and a grant has its moment.

module _ (w : World) (safe : SafeWorld w) (s : ℕ) (t : Tag) (m : Mode) (clash : Clash) where
  abbrev content : Content
  content = w.contents.now (partition_of t)

  there-as : (how : How) → IsThereAs how content s t clash.session clash.mode → IsThereAs how (list_of w) s t clash.session clash.mode
  there-as Held there = (or_right (slots_of w.words.database w.words.slot clash.session t clash.mode) (content.holds clash.session t clash.mode) there.0, there.1)
  there-as Awaited there = there

  pub refused : ClashIs content s t m (Some clash) → IsRefusedByList w s t m clash
  refused is = record {
    not_granted = λ none.
        let free = no_clash-free (first_waiter (content.waits t) m) (list_of w) s t m refl none in
        clash-not_free (first_waiter (content.waits t) m) content s t m clash refl is (record {
          beside_holders = NoConflictingHolder-under (shown_on w safe t) t content.holds (stands_with w) s m (λ k n. refl) free.0;
          behind_waiters = free.1;
        });
    in_the_way = let way = clash-in_the_way content s t m clash is in record { conflicting = way.conflicting; there = there-as clash.how way.there };
    by_name = λ cleared. (alike w safe s t m).clashes cleared (Some clash) is;
  }

-- Each World on the way is safe, the first one too.
on_the_way-safe : (w : World) (events : List Event) (worlds : List World) → SafeWorld w → RunsThrough w events worlds
    → (place : ℕ) (u : World) → slice_get (w ∷ worlds) place ≡ Some u → SafeWorld u
on_the_way-safe w events worlds safe run zero u at = subst SafeWorld (let same : w ≡ u = cc in same) safe
on_the_way-safe w events worlds safe run (suc place) u at = through-safe w events worlds safe run place u at

-- A content that a session took is the partition's in a World on the way, in which whatever holds of each
-- safe World holds.
pub taken-in_world : (limit groups : ℕ) (events : List Event) (worlds : List World) (s p : ℕ) (before after : List TraceEntry) (taken : Content) (P : World → Type 0) → SafeWorld (opening limit groups)
    → RunsThrough (opening limit groups) events worlds → (last_of (opening limit groups) worlds).sessions.trace s ≡ before ++ Took p taken ∷ after
    → ((u : World) → SafeWorld u → taken ≡ u.contents.now p → P u) → InSomeWorld (opening limit groups ∷ worlds) s before P
taken-in_world limit groups events worlds s p before after taken P safe run stands holds =
    let told = each-told limit groups events worlds s before after (Took p taken) safe run stands in
    (told.0, told.1, told.3, told.5, holds told.1 (on_the_way-safe (opening limit groups) events worlds safe run told.0 told.1 told.3) told.6)

pub refusals : (limit groups : ℕ) (events : List Event) (worlds : List World) → SafeWorld (opening limit groups)
    → RunsThrough (opening limit groups) events worlds → RefusalsAreTheLists (opening limit groups ∷ worlds) (last_of (opening limit groups) worlds)
refusals limit groups events worlds safe run s before after t m taken clash stands none is =
    taken-in_world limit groups events worlds s (partition_of t) before after taken (λ u. IsRefusedByList u s t m clash) safe run stands
    (λ u sure same. refused u sure s t m clash (subst (λ c. ClashIs c s t m (Some clash)) same is))

pub answers : (limit groups : ℕ) (events : List Event) (worlds : List World) → SafeWorld (opening limit groups)
    → RunsThrough (opening limit groups) events worlds → AnswersAreTheLists (opening limit groups ∷ worlds) (last_of (opening limit groups) worlds)
answers limit groups events worlds safe run s before after t m taken stands =
    taken-in_world limit groups events worlds s (partition_of t) before after taken (λ u. AnswersAlike u s t m taken) safe run stands
    (λ u sure same. subst (AnswersAlike u s t m) (sym same) (alike u sure s t m))

-- What a session comes to own, the list came to have.
pub owning : (w : World) (events : List Event) (worlds : List World) (s : ℕ) (t : Tag) (m : Mode) → SafeWorld w → RunsThrough w events worlds
    → w.sessions.awaited s ≡ None → w.sessions.own s t m ≡ false → (last_of w worlds).sessions.own s t m ≡ true → AtSomeMoment w events worlds (Coming s t m)
owning w events worlds s t m safe run idle new owns =
    coming s t m w events worlds safe run (asks w safe s t m idle new).new
    ((headline (last_of w worlds) (Runs-safe w events (last_of w worlds) safe (worlds, run, refl))).own_or_granted s t m ∙ or_left ((last_of w worlds).sessions.own s t m) _ owns)

-- The list is one machine: a move leads to one list. Of a join it is open what the wait remembers.
pub one_list : (before : Content) (s : ℕ) (done : Move) (granted its : List Wait) (after other : Content) → IsNoJoin done → MovesList before s done granted after → MovesList before s done its other
    → (granted ≡ its) × (after ≡ other)
one_list before s Keep granted its after other sure one two = one_moved before s Keep granted its after other one two
one_list before s (Grant t m) granted its after other sure one two = one_moved before s (Grant t m) granted its after other one.1 two.1
one_list before s (Join t m) granted its after other sure one two = absurd sure
one_list before s (Release t m) granted its after other sure one two = one_moved before s (Release t m) granted its after other one two
one_list before s (Leave t) granted its after other sure one two = one_moved before s (Leave t) granted its after other one two
one_list before s (Adopt o i) granted its after other sure one two = absurd one

pub one_join : (before : Content) (s : ℕ) (t : Tag) (m : Mode) (after other : Content) (one : JoinsQueue before s t m after) (two : JoinsQueue before s t m other) → one.held ≡ two.held → after ≡ other
one_join before s t m after other one two same =
    let answers : Queued one.place ≡ Queued two.place = waiting_answer-one before s t m (Queued one.place) (Queued two.place) one.answered two.answered in
    let places : one.place ≡ two.place = cc (answers) in
    one.stands ∙ (λ i. with_queue before t (joined (places i) (record { session = s; mode = m; held = same i }) (before.waits t))) ∙ sym two.stands
