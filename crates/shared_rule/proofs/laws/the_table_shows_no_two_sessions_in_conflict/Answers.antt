use Rattle.lock_world.specs.Headline.{Headline}
use Rattle.lock_world.proofs.Lemmas.Headline.{headline}
use Rattle.shared_rule.proofs.laws.the_table_shows_no_two_sessions_in_conflict.Goals as goal

pub returns : goal.returns
returns g c =
    λ sizes state rule.
    let its : Headline rule.world = headline rule.world rule.safe in
    record {
      world = rule.world;
      words = rule.shown.of_words;
      contents = rule.shown.of_contents;
      seats = rule.seats;
      no_two_conflict = its.no_two_conflict;
      one_place = its.one_place;
      nowhere_else = its.nowhere_else;
      counters = its.counters;
    }
