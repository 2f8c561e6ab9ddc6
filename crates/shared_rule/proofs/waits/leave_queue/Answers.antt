use Rattle.std.proofs.Common.{◌≡◌, List, map, ap, ◌∙◌, subst}
use Rattle.lock_world.specs.declared.events.Word.TheVariants.{Wait}
use Rattle.shared_rule.specs.declared.history.History.{History}
use Rattle.shared_rule.specs.History.{first_account, first_number}
use Rattle.shared_rule.proofs.Lemmas.Events.Words.{stores_at_own}
use Rattle.lock_world.specs.Account.{InHand}
use Rattle.lock_table.specs.Content as contents
use Rattle.lock_table.specs.Waiter.{whose_and_mode}
use Rattle.lock_table.specs.OwnWait.{OwnWait}
use Rattle.lock_world.specs.AccountLaw.{MayLeaveBy}
use Rattle.shared_rule.specs.Marks.{LeftQueue}
use Rattle.shared_rule.proofs.Lemmas.Events.Waits.{leaving-lawful, told-granted}
use Rattle.shared_rule.proofs.waits.leave_queue.Goals as goal

pub store_as-requires-clause-allowed : goal.store_as-requires-clause-allowed
store_as-requires-clause-allowed g c =
    let may = subst (λ (sessions : List (History g.row.T.Denot)).
    (wait : OwnWait) × (mine : InHand) × (granted : List contents.Wait) × (c.args.woken.now ≡ map whose_and_mode granted)
    × MayLeaveBy c.args.words.now.key.sessions (first_number sessions) (first_account g.T.PartTable.content sessions) wait mine granted (g.T.PartTable.content c.args.content.now)) c.requires.session.sessions c.requires.lawful in
    let marked : g.M.Marking.mark ≡ (λ _. LeftQueue (map (λ (wait : contents.Wait). wait.session) may.2) c.args.content.now) =
    c.requires.mark ∙ ap (λ woken. λ _. LeftQueue woken c.args.content.now) (told-granted c.args.woken.now may.2 may.3) in
    stores_at_own _ c.requires.session c.args.number c.requires.own c.requires.among
    Wait (λ k there. (tt, there)) c.wait_word.result (c.wait_word.ensures.index c.args.words.now.key.sessions) 0 g.M.Marking.mark _ marked
    (leaving-lawful g.T.PartTable.content c.args.words.now.key c.requires.session.history may.0 may.1 may.2 c.args.content.now may.4)
