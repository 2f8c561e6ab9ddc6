use Rattle.std.proofs.Common.{rules, List, ◌+◌, ◌%◌, ◌^◌, ap, ◌∙◌, subst}
use Rattle.lock_world.specs.declared.events.Word.TheVariants.{Strong}
use Rattle.modes_core.specs.Tag.{index_of}
use Rattle.lock_world.specs.AccountLaw.{MayCountBy}
use Rattle.shared_rule.specs.declared.history.History.{History}
use Rattle.shared_rule.specs.Layout.{index_of_word}
use Rattle.shared_rule.specs.History.{first_account}
use Rattle.shared_rule.proofs.Lemmas.Events.Words.{marks_at}
use Rattle.shared_rule.proofs.Lemmas.Events.Counters.{counting-lawful}
use Rattle.shared_rule.proofs.counters.add_strong.Goals as goal

pub fetch_add_as-requires-clause-allowed : goal.fetch_add_as-requires-clause-allowed
fetch_add_as-requires-clause-allowed g c =
    let may = subst (λ (sessions : List (History g.row.T.Denot)).
    MayCountBy (first_account g.T.PartTable.content sessions) c.args.tag.now c.args.mode) c.requires.session.sessions c.requires.lawful in
    marks_at _ c.requires.session (Strong (index_of c.args.tag.now)) (search rules, tt) c.strong_word.result
    (c.strong_word.ensures.index c.args.words.now.key.sessions ∙ ap (λ i. index_of_word c.args.words.now.key.sessions (Strong i)) c.strong_index.ensures.value) (λ n. (n + 1) % 2 ^ 64) g.M.Marking.mark _ c.requires.mark
    (counting-lawful g.T.PartTable.content c.args.words.now.key c.requires.session.history c.args.tag.now c.args.mode may)
