use Rattle.lock_script.proofs.Lemmas.Words.{words-step, words-end}
use Rattle.lock_script.proofs.words.split_words.Goals as goal

pub loop-word-preserved : goal.loop-word-preserved
loop-word-preserved c = record {
  kept = words-step _ _ _ c.in-Some.word.now c.in-Some.after.now c.loop-word.rest.now c.loop-word.invariant.kept c.in-Some.ensures.parts c.keep_word.ensures;
  text = c.in-Some.ensures.text;
}

pub returns : goal.returns
returns c = words-end _ _ _ c.loop-word.rest.now c.loop-word.invariant.kept c.in_default.ensures.parts c.keep_word-2.ensures
