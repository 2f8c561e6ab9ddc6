use Rattle.std.proofs.Common.{ℕ, sym, ap, ◌∙◌, subst}
use Rattle.lock_world.specs.World.{MakesSteps, opening}
use Rattle.lock_world.specs.Wakes.{nothing_beside, KeepsInOrder}
use Rattle.shared_rule.specs.Tells.{turns_of}
use Rattle.shared_rule.proofs.Lemmas.Looks.{run-looks, told-looks}
use Rattle.lock_world.proofs.Lemmas.Wakes.Runs.{keeps-well, keeps-in_order, well-waits, well-sleeps}
use Rattle.shared_rule.specs.Todos.{Todo}
use Rattle.shared_rule.proofs.laws.the_table_loses_no_call.Goals as goal

pub returns : goal.returns
returns g c =
    λ sizes state rule.
    let kept = rule.wakes in
    let run = keeps-in_order sizes.sessions sizes.groups kept.turns rule.world kept.beside kept.run in
    let well = keeps-well sizes.sessions sizes.groups kept.turns rule.world kept.beside run in
    record {
      world = rule.world;
      words = rule.shown.of_words;
      seats = rule.seats;
      turns = kept.turns;
      beside = kept.beside;
      run = run;
      told = kept.told;
      looked = λ history stands.
          told-looks history.number history.marks (turns_of history.number kept.turns) (kept.told.at_seat history stands)
          ∙ sym (run-looks KeepsInOrder history.number (opening sizes.sessions sizes.groups) nothing_beside kept.turns rule.world kept.beside kept.run.1);
      waits = λ k shown parked changed.
          let owed = well-waits rule.world kept.beside well k shown parked changed in
          let seat = rule.steps.live owed.0 (owed.2).live in
          record {
            history = seat.history;
            stands = seat.stands;
            makes = subst (MakesSteps rule.world.numbers) (sym seat.number_) owed.2;
            owes = kept.owed seat.history seat.stands k (ap (λ (n : ℕ). kept.beside.waits.owed n k) seat.number_ ∙ owed.1);
          };
      sleeps = λ k shown parked changed.
          let owed = well-sleeps rule.world kept.beside well k shown parked changed in
          let seat = rule.steps.live owed.0 (owed.2).live in
          record {
            history = seat.history;
            stands = seat.stands;
            makes = subst (MakesSteps rule.world.numbers) (sym seat.number_) owed.2;
            owes = ap (λ (t : Todo). t.calls k) (kept.todo seat.history seat.stands) ∙ ap (λ (n : ℕ). kept.beside.sleeps.owed n k) seat.number_ ∙ owed.1;
          };
    }
