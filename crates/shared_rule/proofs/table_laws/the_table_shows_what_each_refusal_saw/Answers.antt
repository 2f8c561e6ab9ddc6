use Rattle.std.proofs.Common.{◌≤◌, ◌∷◌, sym, subst, arith}
use Rattle.lock_world.specs.World.{World, opening}
use Rattle.lock_world.specs.Headline.{RefusalsSawWhatTheyName}
use Rattle.lock_world.proofs.Lemmas.Headline.{headline}
use Rattle.lock_world.proofs.Lemmas.Refusals.{refusals-saw}
use Rattle.lock_world.proofs.Lemmas.SafeWorld.Opening.{opening-safe}
use Rattle.shared_rule.proofs.Lemmas.Told.{leads-runs}
use Rattle.shared_rule.proofs.table_laws.the_table_shows_what_each_refusal_saw.Goals as goal
use Rattle.modes_core.specs.Sessions.{most_sessions}

pub returns : goal.returns
returns g c =
    λ sizes state rule.
    let few : sizes.sessions ≤ most_sessions = rule.shown.few in
    let run = leads-runs (opening sizes.sessions sizes.groups) rule.events rule.world rule.run in
    record {
      world = rule.world;
      events = rule.events;
      run = run;
      words = rule.shown.of_words;
      contents = rule.shown.of_contents;
      seats = rule.seats;
      headline = headline rule.world rule.safe;
      refusals = subst (λ (w : World). RefusalsSawWhatTheyName (opening sizes.sessions sizes.groups ∷ run.0) w) (sym run.2)
          (refusals-saw sizes.sessions sizes.groups rule.events run.0 (opening-safe sizes.sessions sizes.groups (omega (arith, few))) run.1);
    }
