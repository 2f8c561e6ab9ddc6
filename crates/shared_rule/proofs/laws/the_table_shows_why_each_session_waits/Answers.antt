use Rattle.lock_world.proofs.Lemmas.Wakes.Reasons.{has-reason}
use Rattle.shared_rule.proofs.laws.the_table_shows_why_each_session_waits.Goals as goal

pub returns : goal.returns
returns g c =
    λ sizes state rule.
    record {
      world = rule.world;
      words = rule.shown.of_words;
      contents = rule.shown.of_contents;
      seats = rule.seats;
      reasons = λ s wait is home. has-reason rule.world rule.safe s wait is home;
    }
