use Rattle.std.proofs.Common.{ℕ, ap}
use Rattle.shared_rule.specs.Looks.{is_call}
use Rattle.shared_rule.specs.declared.history.Mark.{Mark}
use Rattle.lock_world.specs.declared.events.Word.TheVariants.{Strong}
use Rattle.shared_rule.proofs.Lemmas.Events.Words.{marks_at}
use Rattle.shared_rule.proofs.Lemmas.Events.Loads.{loading_strong-lawful}
use Rattle.shared_rule.proofs.counters.load_strong.Goals as goal

pub load_as-requires-clause-allowed : goal.load_as-requires-clause-allowed
load_as-requires-clause-allowed g c =
    marks_at _ c.requires.session (Strong c.args.index) (c.requires.within, tt) c.strong_word.result (c.strong_word.ensures.index c.args.words.now.key.sessions) (λ n. n) g.M.Marking.mark _ c.requires.mark
    (loading_strong-lawful g.T.PartTable.content c.args.words.now.key c.requires.session.history c.args.index c.requires.within)

pub load_as-requires-clause-no_call : goal.load_as-requires-clause-no_call
load_as-requires-clause-no_call g c = λ n. ap (λ (m : ℕ → Mark g.row.T.Denot). is_call (m n)) c.requires.mark
