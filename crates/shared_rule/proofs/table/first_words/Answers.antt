use Rattle.std.proofs.Common.{◌≡◌, ◌≢◌, ℕ, ◌+◌, ◌*◌, ◌/◌, ◌%◌, ◌<◌, List, length, sym, ap, ◌∙◌, inl, inr, arith}
use Rattle.std.specs.Prelude.{slice_index, slice_set}
use Rattle.std.proofs.Math.ListN.{length-set}
use Rattle.std.proofs.lemmas.Bool.{cases_eq}
use Rattle.std.proofs.lemmas.List.{get_or-set_same, get_or-set_other}
use Rattle.lw_word.specs.LightweightWord.{free_word}
use Rattle.lock_world.specs.declared.events.Word.{Word}
use Rattle.lock_world.specs.declared.events.Word.TheVariants.{Partition, Fast, Database, Slot, Wait, Strong, Sleep}
use Rattle.lock_world.specs.World.{opening, word_in}
use Rattle.shared_rule.specs.Layout.{block_start, block_of, index_of_word, IsInTable}
use Rattle.shared_rule.specs.declared.rule.TableSizes.{TableSizes}
use Rattle.lock_world.specs.SlotHolds.{group_size}
use Rattle.shared_rule.proofs.Lemmas.Blocks.{session-below, slot-not_early, slot-not_fast}
use Rattle.shared_rule.proofs.table.first_words.Goals as goal

-- Words that stand apart are set one after the other, and all else stays.
next-set : (words : List ℕ) (place : ℕ → ℕ) (number n : ℕ) → number ≡ free_word → place n < length words → ((k : ℕ) → k < n → place k ≢ place n) → ((k : ℕ) → k < n → slice_index words (place k) ≡ free_word)
    → (k : ℕ) → k < n + 1 → slice_index (slice_set words (place n) number) (place k) ≡ free_word
next-set words place number n free within apart before k below = elim (cases_eq k n) [
  | inl last ↦ ap (λ it. slice_index (slice_set words (place n) number) (place it)) last ∙ get_or-set_same words (place n) number 0 within ∙ free
  | inr earlier ↦
      let sooner : k < n = omega (arith, below, earlier) in
      get_or-set_other words (place n) (place k) number 0 (apart k sooner) ∙ before k sooner
]

pub loop-partition-preserved : goal.loop-partition-preserved
loop-partition-preserved c =
    let l = c.loop-partition in
    let words : List ℕ = l.words.items in
    let number : ℕ = c.number-free.result in
    let free : number ≡ free_word = c.number-free.ensures.value ∙ c.opening.ensures.number in
    record {
      many = length-set words (16 * l.partition) number ∙ l.invariant.many;
      free = next-set words (λ p. 16 * p) number l.partition free (omega (arith, l.invariant.many, c.loop-partition-test.true)) (λ k below same. omega (arith, below, same)) l.invariant.free;
      others = λ index none. get_or-set_other words (16 * l.partition) index number 0 (λ same. none l.partition c.loop-partition-test.true (sym same)) ∙ l.invariant.others index none;
    }

pub loop-session-preserved : goal.loop-session-preserved
loop-session-preserved c =
    let l = c.loop-session in
    let words : List ℕ = l.words.items in
    let number : ℕ = c.number-free.result in
    let free : number ≡ free_word = c.number-free.ensures.value ∙ c.opening.ensures.number in
    record {
      many = length-set words (block_start l.session) number ∙ l.invariant.many;
      partitions = λ p exists. get_or-set_other words (block_start l.session) (16 * p) number 0 (λ same. omega (arith, exists, same)) ∙ l.invariant.partitions p exists;
      free = next-set words block_start number l.session free (let below = session-below c.args.sizes.sessions c.args.sizes.groups l.session c.loop-session-test.true c.requires.some in omega (arith, l.invariant.many, below)) (λ k below same. omega (arith, below, same)) l.invariant.free;
      others = λ index no_partition none.
          get_or-set_other words (block_start l.session) index number 0 (λ same. none l.session c.loop-session-test.true (sym same)) ∙ l.invariant.others index no_partition none;
    }

pub returns : goal.returns
returns c =
    let l = c.loop-session in
    let words : List ℕ = l.words.items in
    let session-free : (k : ℕ) → k < c.args.sizes.sessions → slice_index words (block_start k) ≡ free_word = λ k exists. l.invariant.free k (omega (arith, exists, c.loop-session-test.false)) in
    record {
      shown = record {
        as_many = l.invariant.many;
        word = shown-word c.args.sizes words l.invariant.partitions session-free l.invariant.others;
        gap = λ index gap. l.invariant.others index (λ p exists. gap (Partition p) (exists, tt)) (λ k exists. gap (Fast k) (tt, exists));
      };
    } where
      shown-word : (sizes : TableSizes) (words : List ℕ) → ((p : ℕ) → p < 16 → slice_index words (16 * p) ≡ free_word) → ((k : ℕ) → k < sizes.sessions → slice_index words (block_start k) ≡ free_word)
          → ((index : ℕ) → ((p : ℕ) → p < 16 → 16 * p ≢ index) → ((k : ℕ) → k < sizes.sessions → block_start k ≢ index) → slice_index words index ≡ 0)
          → (word : Word) → IsInTable sizes word → slice_index words (index_of_word sizes.sessions word) ≡ word_in (opening 0 0).words word
      shown-word sizes words partitions sessions others (Partition p) exists = partitions p exists.0
      shown-word sizes words partitions sessions others (Fast k) exists = sessions k exists.1
      shown-word sizes words partitions sessions others (Database k) exists =
          others _ (λ p below same. omega (arith, below, same)) (λ j below same. omega (arith, same))
      shown-word sizes words partitions sessions others (Slot k i) exists =
          others _ (λ p below same. slot-not_early (block_of sizes.sessions k (i / group_size)) (i % group_size) (16 * p) (omega (arith, below)) (sym same))
          (λ j below same. slot-not_fast (block_of sizes.sessions k (i / group_size)) (i % group_size) j (omega arith) (sym same))
      shown-word sizes words partitions sessions others (Wait k) exists =
          others _ (λ p below same. omega (arith, below, same)) (λ j below same. omega (arith, same))
      shown-word sizes words partitions sessions others (Strong i) exists =
          others _ (λ p below same. omega (arith, below, same)) (λ j below same. omega (arith, exists.0, same))
      shown-word sizes words partitions sessions others (Sleep k) exists =
          others _ (λ p below same. omega (arith, below, same)) (λ j below same. omega (arith, same))
