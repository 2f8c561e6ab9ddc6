use Rattle.lock_world.proofs.Lemmas.Wakes.Runs.{keeps-well, keeps-in_order, keeps-order, well-parked, well-not_all}
use Rattle.shared_rule.proofs.laws.the_table_lets_no_circle_of_sleepers_come.Goals as goal

pub returns : goal.returns
returns g c =
    λ sizes state rule.
    let kept = rule.wakes in
    let well = keeps-well sizes.sessions sizes.groups kept.turns rule.world kept.beside (keeps-in_order sizes.sessions sizes.groups kept.turns rule.world kept.beside kept.run) in
    let order = keeps-order sizes.sessions sizes.groups kept.turns rule.world kept.beside kept.run in
    record {
      world = rule.world;
      words = rule.shown.of_words;
      seats = rule.seats;
      turns = kept.turns;
      beside = kept.beside;
      run = kept.run;
      told = kept.told;
      todo = kept.todo;
      in_order = order;
      parked = well-parked rule.world kept.beside well;
      somebody_runs = well-not_all rule.world kept.beside well order;
    }
