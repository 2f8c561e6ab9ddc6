use Rattle.std.proofs.Common.{◌≡◌, ◌+◌, ◌%◌, ◌^◌, List, map, ap, ◌∙◌, subst}
use Rattle.lock_world.specs.declared.events.Word.TheVariants.{Wait}
use Rattle.shared_rule.specs.declared.history.History.{History}
use Rattle.shared_rule.specs.History.{first_account, first_number}
use Rattle.shared_rule.proofs.Lemmas.Events.Words.{marks_at}
use Rattle.lock_world.specs.Account.{InHand}
use Rattle.lock_table.specs.Content as contents
use Rattle.lock_table.specs.Waiter.{whose_and_mode}
use Rattle.shared_rule.specs.Lawful.{MayMarkBy}
use Rattle.shared_rule.specs.Marks.{MarkedGranted}
use Rattle.shared_rule.proofs.Lemmas.Events.Waits.{marking-lawful, told-granted}
use Rattle.shared_rule.proofs.waits.mark_granted.Goals as goal

pub fetch_add_as-requires-clause-allowed : goal.fetch_add_as-requires-clause-allowed
fetch_add_as-requires-clause-allowed g c =
    let may = subst (λ (sessions : List (History g.row.T.Denot)).
    (mine : InHand) × (granted : List contents.Wait) × (c.args.woken.now ≡ map whose_and_mode granted)
    × MayMarkBy c.args.words.now.key.sessions (first_number sessions) (first_account g.T.PartTable.content sessions) c.args.part mine c.args.done.now granted (g.T.PartTable.content c.args.content.now) c.args.other) c.requires.session.sessions c.requires.lawful in
    let marked : g.M.Marking.mark ≡ (λ _. MarkedGranted c.args.part c.args.other c.args.done.now (map (λ (wait : contents.Wait). wait.session) may.1) c.args.content.now) =
    c.requires.mark ∙ ap (λ woken. λ _. MarkedGranted c.args.part c.args.other c.args.done.now woken c.args.content.now) (told-granted c.args.woken.now may.1 may.2) in
    marks_at _ c.requires.session (Wait c.args.other) (tt, c.requires.exists) c.wait_word.result (c.wait_word.ensures.index c.args.words.now.key.sessions) (λ n. (n + 1) % 2 ^ 64) g.M.Marking.mark _ marked
    (marking-lawful g.T.PartTable.content c.args.words.now.key c.requires.session.history c.args.part may.0 c.args.done.now may.1 c.args.content.now c.args.other c.requires.grants may.3)
