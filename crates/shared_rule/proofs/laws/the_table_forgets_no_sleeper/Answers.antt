use Rattle.lock_world.proofs.Lemmas.Wakes.Runs.{keeps-well, keeps-in_order, well-owed}
use Rattle.shared_rule.proofs.laws.the_table_forgets_no_sleeper.Goals as goal

pub returns : goal.returns
returns g c =
    λ sizes state rule.
    let kept = rule.wakes in
    let well = keeps-well sizes.sessions sizes.groups kept.turns rule.world kept.beside (keeps-in_order sizes.sessions sizes.groups kept.turns rule.world kept.beside kept.run) in
    record {
      world = rule.world;
      words = rule.shown.of_words;
      seats = rule.seats;
      beside = kept.beside;
      todo = kept.todo;
      nobody = well.nobody;
      owed = λ s lock asleep. well-owed rule.world kept.beside well s lock asleep;
      only_live = well.only;
    }
