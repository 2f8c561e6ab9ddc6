use Rattle.std.proofs.Common.{List, [], subst}
use Rattle.lock_world.specs.declared.events.Word.TheVariants.{Wait}
use Rattle.shared_rule.specs.declared.history.History.{History}
use Rattle.shared_rule.specs.History.{first_account, first_number}
use Rattle.shared_rule.proofs.Lemmas.Events.Words.{stores_at_own}
use Rattle.lock_world.specs.Account.{InHand}
use Rattle.modes_core.specs.Tag.{partition_of}
use Rattle.lock_table.specs.declared.moves.Move.TheVariants.{Join}
use Rattle.lock_world.specs.AccountLaw.{MayMoveBy}
use Rattle.shared_rule.proofs.Lemmas.Events.Waits.{setting_waiting-lawful}
use Rattle.shared_rule.proofs.waits.set_waiting.Goals as goal

pub store_as-requires-clause-allowed : goal.store_as-requires-clause-allowed
store_as-requires-clause-allowed g c =
    let may = subst (λ (sessions : List (History g.row.T.Denot)).
    (mine : InHand)
    × MayMoveBy c.args.words.now.key.sessions (first_number sessions) (first_account g.T.PartTable.content sessions) (partition_of c.args.tag.now) mine (Join c.args.tag.now c.args.mode) [] (g.T.PartTable.content c.args.content.now)) c.requires.session.sessions c.requires.lawful in
    stores_at_own _ c.requires.session c.args.number c.requires.own c.requires.among
    Wait (λ k there. (tt, there)) c.wait_word.result (c.wait_word.ensures.index c.args.words.now.key.sessions) 1 g.M.Marking.mark _ c.requires.mark
    (setting_waiting-lawful g.T.PartTable.content c.args.words.now.key c.requires.session.history may.0 c.args.tag.now c.args.mode c.args.content.now may.1)
