use Rattle.shared_rule.specs.Plays.{side_of}
use Rattle.std.proofs.Common.{List, ◌+◌, ◌-◌, ◌%◌, ◌^◌, sym, subst}
use Rattle.lock_world.specs.declared.events.Word.TheVariants.{Fast}
use Rattle.lock_world.specs.Account.{SlotsInHand}
use Rattle.lock_world.specs.AccountLaw.{MayPassBy}
use Rattle.shared_rule.specs.declared.history.History.{History}
use Rattle.shared_rule.specs.Marks.{Passed}
use Rattle.shared_rule.specs.History.{first_account}
use Rattle.shared_rule.proofs.Lemmas.Taken.{due-known}
use Rattle.shared_rule.proofs.Lemmas.Events.Words.{IsAlwaysLawful, marks_at}
use Rattle.shared_rule.proofs.Lemmas.Events.Locks.{passing-lawful}
use Rattle.shared_rule.proofs.Lemmas.Led.{led-marked}
use Rattle.shared_rule.proofs.locks.pass_fast_home.Goals as goal

pub fetch_sub_as-requires-clause-allowed : goal.fetch_sub_as-requires-clause-allowed
fetch_sub_as-requires-clause-allowed g c =
    let may = subst (λ (sessions : List (History g.row.T.Denot)).
    (slots : SlotsInHand)
    × MayPassBy (first_account g.T.PartTable.content sessions) c.args.owner slots c.args.tag.now c.args.mode) c.requires.session.sessions c.requires.lawful in
    marks_at _ c.requires.session (Fast c.args.owner) (tt, c.requires.exists) c.fast_word.result (c.fast_word.ensures.index c.args.words.now.key.sessions) (λ n. (n + (2 ^ 64 - c.amount.result)) % 2 ^ 64) g.M.Marking.mark _ c.requires.mark
    (subst (λ k. IsAlwaysLawful g.T.PartTable.content c.args.words.now.key c.requires.session.history (Fast c.args.owner) (λ _. Unit {0}) (λ n. (n + (2 ^ 64 - k)) % 2 ^ 64) (Passed c.args.owner c.args.tag.now c.args.mode)) (sym c.amount.ensures)
    (passing-lawful g.T.PartTable.content c.args.words.now.key c.requires.session.history c.args.owner c.requires.exists may.0 c.args.tag.now c.args.mode may.1 (due-known (side_of c.args.seat.now).0 c.requires.session c.requires.no_look)))

pub returns-clause-led : goal.returns-clause-led
returns-clause-led g c = led-marked _ c.requires.session c.fetch_sub_as.ensures.same_seat c.fetch_sub_as.ensures.side c.requires.mark (λ owed i. owed)
