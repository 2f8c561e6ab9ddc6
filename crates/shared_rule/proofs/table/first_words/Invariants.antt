use Rattle.std.proofs.Common.{◌≡◌, ◌≢◌, ℕ, ◌*◌, ◌<◌, length}
use Rattle.std.specs.Prelude.{slice_index}
use Rattle.lw_word.specs.LightweightWord.{free_word}
use Rattle.shared_rule.specs.Layout.{words_of, block_start}
use Rattle.shared_rule.proofs.table.first_words.Given as goal

abbrev pub invariant-loop-partition : goal.invariant-loop-partition
invariant-loop-partition l = record {
  many : length l.words.items ≡ words_of l.fn.sizes.sessions l.fn.sizes.groups;
  free : (p : ℕ) → p < l.partition → slice_index l.words.items (16 * p) ≡ free_word;
  others : (index : ℕ) → ((p : ℕ) → p < 16 → 16 * p ≢ index) → slice_index l.words.items index ≡ 0;
}

abbrev pub invariant-loop-session : goal.invariant-loop-session
invariant-loop-session l = record {
  many : length l.words.items ≡ words_of l.fn.sizes.sessions l.fn.sizes.groups;
  partitions : (p : ℕ) → p < 16 → slice_index l.words.items (16 * p) ≡ free_word;
  free : (k : ℕ) → k < l.session → slice_index l.words.items (block_start k) ≡ free_word;
  others : (index : ℕ) → ((p : ℕ) → p < 16 → 16 * p ≢ index) → ((k : ℕ) → k < l.fn.sizes.sessions → block_start k ≢ index) → slice_index l.words.items index ≡ 0;
}
