use Rattle.lock_model.proofs.Lemmas.Follows.SlotSteps.{word_loaded}
use Rattle.lock_model.proofs.machine.state.Machine.load_word.Goals as goal

pub returns : goal.returns
returns c = λ w safe shows. word_loaded c.args.self.now w safe shows c.args.session c.args.shown c.args.word
