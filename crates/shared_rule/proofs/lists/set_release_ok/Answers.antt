use Rattle.std.proofs.Common.{◌≡◌, ◌≢◌, ◌^◌, bit_or, List, Some, None, refl, ap, subst}
use Rattle.lock_world.specs.Wakes.Waking.{NoneOr}
use Rattle.shared_rule.specs.declared.history.History.{History}
use Rattle.shared_rule.specs.History.{first_account}
use Rattle.shared_rule.specs.Todos.{first_todo, TellsNobodyBy}
use Rattle.shared_rule.specs.LwLocks.{word_of_lock, lock_number}
use Rattle.shared_rule.specs.Plays.{Side}
use Rattle.shared_rule.proofs.Lemmas.Events.Words.{names-none, looks_at}
use Rattle.shared_rule.proofs.Lemmas.Events.ListSteps.{setting_release_ok-lawful}
use Rattle.shared_rule.proofs.Lemmas.Events.ListShelves.{lock-word_there}
use Rattle.shared_rule.proofs.Lemmas.Led.{led-marked}
use Rattle.shared_rule.proofs.lists.set_release_ok.Goals as goal

pub fetch_or_as-requires-clause-allowed : goal.fetch_or_as-requires-clause-allowed
fetch_or_as-requires-clause-allowed g c =
    looks_at _ c.requires.session (word_of_lock c.args.lock.now) (lock-word_there c.args.words.now.key c.args.lock.now c.requires.exists) c.word.result (c.word.ensures.index c.args.words.now.key.sessions) (2 ^ 29) (λ n. bit_or n (2 ^ 29)) g.M.Marking.mark _ c.requires.mark (names-none (word_of_lock c.args.lock.now) g.M.Marking.mark _ c.requires.mark (λ _. refl))
    (setting_release_ok-lawful g.T.PartTable.content c.args.words.now.key c.requires.session.history c.args.lock.now c.requires.exists
    (subst (λ (sessions : List (History g.row.T.Denot)). (first_todo sessions).owes_release_ok ≡ Some (lock_number c.args.lock.now) → (first_account g.T.PartTable.content sessions).lists.stands ≡ None
    → NoneOr (first_todo sessions).tries (lock_number c.args.lock.now)) c.requires.session.sessions c.requires.no_other)
    (subst (λ (sessions : List (History g.row.T.Denot)). (first_todo sessions).owes_release_ok ≡ Some (lock_number c.args.lock.now) → (first_account g.T.PartTable.content sessions).lists.in_hand ≢ None
    → TellsNobodyBy (first_account g.T.PartTable.content sessions)) c.requires.session.sessions c.requires.tells_nobody))

pub returns-clause-led : goal.returns-clause-led
returns-clause-led g c = led-marked _ c.requires.session c.fetch_or_as.ensures.same_seat c.fetch_or_as.ensures.side c.requires.mark (λ owed i. owed)

pub returns-clause-shelves : goal.returns-clause-shelves
returns-clause-shelves g c = ap (λ (side : Side g.row.T.Denot). side.1) c.fetch_or_as.ensures.side
