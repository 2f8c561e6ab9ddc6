use Rattle.std.proofs.Common.{◌≡◌, ◌≢◌, ℕ, zero, suc, false, List, ◌∷◌, Some, sym, ap, ◌∙◌, subst}
use Rattle.std.specs.Prelude.{slice_get}
use Rattle.std.proofs.lemmas.Bool.{or_right}
use Rattle.modes_core.specs.declared.modes.Mode.{Mode}
use Rattle.modes_core.specs.declared.tags.Tag.{Tag}
use Rattle.modes_core.specs.declared.refusals.How.{How}
use Rattle.modes_core.specs.declared.refusals.How.TheVariants.{Held, Awaited}
use Rattle.modes_core.specs.Tag.{partition_of}
use Rattle.lock_table.specs.declared.answering.Clash.{Clash}
use Rattle.lock_table.specs.Content.{Content}
use Rattle.lock_table.specs.Clash.{ClashIs}
use Rattle.lock_table.specs.Queue.{waits_there, awaits_mode}
use Rattle.lock_world.specs.declared.events.Event.{Event}
use Rattle.lock_world.specs.World.{World, Took, opening}
use Rattle.lock_world.specs.Happens.{RunsThrough, last_of}
use Rattle.lock_world.specs.SafeWorld.{SafeWorld, slots_of, tabled}
use Rattle.lock_world.specs.Headline.{IsThereAs, StandsOrAwaits, NamesWhatIs, RefusalsSawWhatTheyName}
use Rattle.lock_world.proofs.Lemmas.FromSafe.{awaits-for}
use Rattle.lock_world.proofs.Lemmas.Headline.{clash-in_the_way}
use Rattle.lock_world.proofs.Lemmas.SafeWorld.Runs.{through-safe}
use Rattle.lock_world.proofs.Lemmas.Telling.{each-told}

-- A refusal saw what it names: who is in the way in the content that was taken stands there in the World in
-- which that was taken.

there-as : (w : World) → SafeWorld w → (taken : Content) (s : ℕ) (t : Tag) → taken ≡ w.contents.now (partition_of t) → waits_there (taken.waits t) s ≡ false
    → (how : How) (other : ℕ) (its : Mode) → IsThereAs how taken s t other its → (other ≢ s) × StandsOrAwaits how w other t its
there-as w safe taken s t same none Held other its there = (
  there.1,
  or_right (slots_of w.words.database w.words.slot other t its) ((w.contents.now (partition_of t)).holds other t its)
      (ap (λ (c : Content). c.holds other t its) (sym same) ∙ there.0),
)
there-as w safe taken s t same none Awaited other its there = (
  there.1 none,
  awaits-for (tabled w) safe.but_slots (partition_of t) other t its (ap (λ (c : Content). awaits_mode (c.waits t) other its) (sym same) ∙ there.0),
)

names : (w : World) → SafeWorld w → (taken : Content) (s : ℕ) (t : Tag) (m : Mode) (clash : Clash) → taken ≡ w.contents.now (partition_of t)
    → waits_there (taken.waits t) s ≡ false → ClashIs taken s t m (Some clash) → NamesWhatIs w s t m taken clash
names w safe taken s t m clash same none is =
    let way = clash-in_the_way taken s t m clash is in
    let found = there-as w safe taken s t same none clash.how clash.session clash.mode way.there in
    record { content = sym same; another = found.0; conflicting = way.conflicting; there = found.1 }

-- Each World on the way is safe, the first one too.
on_the_way-safe : (w : World) (events : List Event) (worlds : List World) → SafeWorld w → RunsThrough w events worlds
    → (place : ℕ) (u : World) → slice_get (w ∷ worlds) place ≡ Some u → SafeWorld u
on_the_way-safe w events worlds safe run zero u at = subst SafeWorld (let same : w ≡ u = cc in same) safe
on_the_way-safe w events worlds safe run (suc place) u at = through-safe w events worlds safe run place u at

pub refusals-saw : (limit groups : ℕ) (events : List Event) (worlds : List World) → SafeWorld (opening limit groups)
    → RunsThrough (opening limit groups) events worlds
    → RefusalsSawWhatTheyName (opening limit groups ∷ worlds) (last_of (opening limit groups) worlds)
refusals-saw limit groups events worlds safe run = λ s before after t m taken clash stands none is.
    let told = each-told limit groups events worlds s before after (Took (partition_of t) taken) safe run stands in
    (told.0, told.1, told.3, told.5, names told.1 (on_the_way-safe (opening limit groups) events worlds safe run told.0 told.1 told.3) taken s t m clash told.6 none is)
