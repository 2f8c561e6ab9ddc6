use Rattle.std.proofs.Common.{◌≤◌, ◌∷◌, ◌++◌, Err, sym, subst, arith}
use Rattle.modes_core.specs.declared.refusals.Refusal.TheVariants.{Conflict}
use Rattle.modes_core.specs.Sessions.{most_sessions}
use Rattle.modes_core.specs.Tag.{partition_of}
use Rattle.wait_queue.specs.declared.requests.Kind.TheVariants.{Conditional}
use Rattle.lock_world.specs.World.{World, Episode, opening}
use Rattle.lock_world.specs.Headline.{RefusalsSawWhatTheyName}
use Rattle.lock_world.proofs.Lemmas.Refusals.{refusals-saw}
use Rattle.lock_world.proofs.Lemmas.SafeWorld.Opening.{opening-safe}
use Rattle.shared_rule.proofs.Lemmas.Told.{leads-runs}
use Rattle.lock_manager.proofs.Lemmas.OneList.{trace-decided}
use Rattle.lock_manager.proofs.laws.a_refusal_saw_what_it_names.Goals as goal

pub returns : goal.returns
returns g c =
    λ sizes state rule at place view history there stands seat a b uses left tag mode its other how same decides after told.
    let few : sizes.sessions ≤ most_sessions = rule.shown.few in
    let run = leads-runs (opening sizes.sessions sizes.groups) rule.events rule.world rule.run in
    let saw : RefusalsSawWhatTheyName (opening sizes.sessions sizes.groups ∷ run.0) rule.world =
    subst (λ (w : World). RefusalsSawWhatTheyName (opening sizes.sessions sizes.groups ∷ run.0) w) (sym run.2)
    (refusals-saw sizes.sessions sizes.groups rule.events run.0 (opening-safe sizes.sessions sizes.groups (omega (arith, few))) run.1) in
    let found = saw seat.number (a.trace ++ decides.steps) (Episode (partition_of tag) decides.taken decides.put ∷ after) tag mode decides.taken
    (record { session = other; mode = its; how = how })
    (trace-decided _ _ sizes state rule history (record { seat = at; place = place; view = view; there = there; stands = stands })
    Conditional seat a b uses left tag mode (Err (Conflict other its how)) same decides after told)
    decides.no_own_wait decides.refused in
    (run, found.0, found.1, found.2, found.3, found.4)
