use Rattle.std.proofs.Common.{refl}
use Rattle.lock_world.specs.declared.events.Word.TheVariants.{Sleep}
use Rattle.shared_rule.specs.Marks.{LoadedSleep}
use Rattle.shared_rule.proofs.Lemmas.Events.Words.{marks_at_own}
use Rattle.shared_rule.proofs.Lemmas.Events.ListSteps.{loading_sleep-lawful}
use Rattle.shared_rule.proofs.Lemmas.Led.{led-marked}
use Rattle.shared_rule.proofs.lists.load_sleep.Goals as goal

pub load_as-requires-clause-allowed : goal.load_as-requires-clause-allowed
load_as-requires-clause-allowed g c =
    marks_at_own _ c.requires.session c.args.number c.requires.own c.requires.among
    Sleep (λ k there. (tt, there)) c.sleep_word.result (c.sleep_word.ensures.index c.args.words.now.key.sessions) (λ n. n) LoadedSleep LoadedSleep refl
    (loading_sleep-lawful g.T.PartTable.content c.args.words.now.key c.requires.session.history)

pub returns-clause-led : goal.returns-clause-led
returns-clause-led g c = led-marked {mark = LoadedSleep} c.load_as.result c.requires.session c.load_as.ensures.same_seat c.load_as.ensures.side refl (λ owed i. owed)

pub load_as-requires-clause-no_call : goal.load_as-requires-clause-no_call
load_as-requires-clause-no_call g c = λ n. refl
