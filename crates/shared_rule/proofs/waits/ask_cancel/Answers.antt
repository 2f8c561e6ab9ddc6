use Rattle.std.proofs.Common.{ℕ, refl, ap}
use Rattle.lock_world.specs.declared.events.Word.TheVariants.{Wait}
use Rattle.std.specs.Prelude.{bit_or}
use Rattle.shared_rule.specs.declared.history.Mark.{Mark}
use Rattle.shared_rule.specs.Looks.{word_looked_at}
use Rattle.shared_rule.proofs.Lemmas.Events.Words.{names-one, looks_at}
use Rattle.shared_rule.proofs.Lemmas.Events.Waits.{asking-lawful}
use Rattle.shared_rule.proofs.waits.ask_cancel.Goals as goal

pub fetch_or_as-requires-clause-allowed : goal.fetch_or_as-requires-clause-allowed
fetch_or_as-requires-clause-allowed g c =
    looks_at _ c.requires.session (Wait c.args.other) (tt, c.requires.exists) c.wait_word.result (c.wait_word.ensures.index c.args.words.now.key.sessions) 4 (λ n. bit_or n 4) g.M.Marking.mark _ c.requires.mark
    (names-one (Wait c.args.other) g.M.Marking.mark _ c.requires.mark (λ _. refl))
    (asking-lawful g.T.PartTable.content c.args.words.now.key c.requires.session.history c.args.other)

pub returns-clause-own : goal.returns-clause-own
returns-clause-own g c = c.fetch_or_as.ensures.knows (Wait c.args.other)
    (ap (λ (m : ℕ → Mark g.row.T.Denot). word_looked_at (m c.fetch_or_as.result)) c.requires.mark)
