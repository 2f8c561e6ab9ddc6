use Rattle.std.proofs.Common.{◌≡◌, ◌++◌, length, take, map}
use Rattle.std.specs.Str.{IsUtf8}
use Rattle.lock_script.specs.Words.{words_of}
use Rattle.lock_script.proofs.words.split_words.Given as goal

abbrev pub invariant-loop-word : goal.invariant-loop-word
invariant-loop-word l = record {
  kept : take 6 (map (λ word. word.now) l.words.items ++ words_of l.rest) ≡ take 6 (words_of l.initial.rest);
  text : IsUtf8 l.rest;
}

abbrev pub decreases-loop-word : goal.decreases-loop-word
decreases-loop-word l = length l.rest
