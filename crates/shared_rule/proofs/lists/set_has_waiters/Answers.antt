use Rattle.std.proofs.Common.{◌≡◌, ◌^◌, List, Some, bit_or, refl, ap, ◌∙◌, subst}
use Rattle.shared_rule.specs.Marks.{SetHasWaiters}
use Rattle.lock_world.specs.Account.{ListInHand}
use Rattle.shared_rule.specs.declared.history.History.{History}
use Rattle.shared_rule.specs.History.{first_account, noting}
use Rattle.shared_rule.specs.LwLocks.{word_of_lock, lock_number}
use Rattle.shared_rule.specs.Plays.{side_of, Side}
use Rattle.shared_rule.proofs.Lemmas.Events.Words.{names-none, looks_at}
use Rattle.shared_rule.proofs.Lemmas.Events.ListSteps.{setting_has_waiters-lawful}
use Rattle.shared_rule.proofs.Lemmas.Events.ListShelves.{lock-word_there}
use Rattle.shared_rule.specs.Todos.{first_flagged}
use Rattle.shared_rule.proofs.Lemmas.Taken.{flagged-noted}
use Rattle.shared_rule.proofs.Lemmas.Led.{led-marked}
use Rattle.shared_rule.proofs.lists.set_has_waiters.Goals as goal

pub fetch_or_as-requires-clause-allowed : goal.fetch_or_as-requires-clause-allowed
fetch_or_as-requires-clause-allowed g c =
    let may = subst (λ (sessions : List (History g.row.T.Denot)).
    (mine : ListInHand) × ((first_account g.T.PartTable.content sessions).lists.in_hand ≡ Some mine) × (mine.lock ≡ lock_number c.args.lock.now)) c.requires.session.sessions c.requires.lawful in
    looks_at _ c.requires.session (word_of_lock c.args.lock.now) (lock-word_there c.args.words.now.key c.args.lock.now c.requires.exists) c.word.result (c.word.ensures.index c.args.words.now.key.sessions) (2 ^ 30) (λ n. bit_or n (2 ^ 30)) g.M.Marking.mark _ c.requires.mark
    (names-none (word_of_lock c.args.lock.now) g.M.Marking.mark _ c.requires.mark (λ _. refl))
    (setting_has_waiters-lawful g.T.PartTable.content c.args.words.now.key c.requires.session.history c.args.lock.now may.0 may.1 may.2)

pub returns-clause-led : goal.returns-clause-led
returns-clause-led g c = led-marked _ c.requires.session c.fetch_or_as.ensures.same_seat c.fetch_or_as.ensures.side c.requires.mark (λ owed i. owed)

pub returns-clause-shelves : goal.returns-clause-shelves
returns-clause-shelves g c = ap (λ (side : Side g.row.T.Denot). side.1) c.fetch_or_as.ensures.side

pub returns-clause-flagged : goal.returns-clause-flagged
returns-clause-flagged g c =
    let seat = c.args.seat.now in
    ap (λ (side : Side g.row.T.Denot). first_flagged side.0.sessions) (c.fetch_or_as.ensures.side
    ∙ ap (λ m. (noting (side_of seat).0 (m c.fetch_or_as.result), (side_of seat).1)) c.requires.mark)
    ∙ flagged-noted (side_of seat).0 (SetHasWaiters (lock_number c.args.lock.now)) c.requires.session
