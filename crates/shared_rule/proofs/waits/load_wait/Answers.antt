use Rattle.std.proofs.Common.{ℕ, ap}
use Rattle.shared_rule.specs.Looks.{is_call}
use Rattle.shared_rule.specs.declared.history.Mark.{Mark}
use Rattle.lock_world.specs.declared.events.Word.TheVariants.{Wait}
use Rattle.shared_rule.proofs.Lemmas.Events.Words.{marks_at_own}
use Rattle.shared_rule.proofs.Lemmas.Events.Waits.{loading_wait-lawful}
use Rattle.shared_rule.proofs.waits.load_wait.Goals as goal

pub load_as-requires-clause-allowed : goal.load_as-requires-clause-allowed
load_as-requires-clause-allowed g c =
    marks_at_own _ c.requires.session c.args.number c.requires.own c.requires.among
    Wait (λ k there. (tt, there)) c.wait_word.result (c.wait_word.ensures.index c.args.words.now.key.sessions) (λ n. n) g.M.Marking.mark _ c.requires.mark
    (loading_wait-lawful g.T.PartTable.content c.args.words.now.key c.requires.session.history)

pub load_as-requires-clause-no_call : goal.load_as-requires-clause-no_call
load_as-requires-clause-no_call g c = λ n. ap (λ (m : ℕ → Mark g.row.T.Denot). is_call (m n)) c.requires.mark
