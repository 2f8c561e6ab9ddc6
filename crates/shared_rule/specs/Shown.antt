use Rattle.std.specs.Prelude.{◌≡◌, ℕ, List, length, slice_index}
use Rattle.lock_world.specs.declared.events.Word.{Word}
use Rattle.lock_world.specs.declared.events.Word.TheVariants.{Partition, Fast, Database, Slot, Wait, Strong, Sleep}
use Rattle.lock_table.specs.Put.{set_at}
use Rattle.lock_world.specs.World.{Words, word_in}
use Rattle.shared_rule.specs.declared.rule.TableSizes.{TableSizes}
use Rattle.shared_rule.specs.Layout.{words_of, index_of_word, IsInTable, IsGap}

-- What the words of a table of these sizes say of a World: each word that the table has shows what it shows
-- in that World.

pub record WordsAreShown (sizes : TableSizes) (table : List ℕ) (words : Words) : Type 0 where
  pub as_many : length table ≡ words_of sizes.sessions sizes.groups
  pub word :
      (word : Word) → IsInTable sizes word → slice_index table (index_of_word sizes.sessions word) ≡ word_in words word
  -- nobody has written where no word stands: a gap shows what it opened with
  pub gap : (index : ℕ) → IsGap sizes index → slice_index table index ≡ 0

-- the words with one of them set
abbrev pub set_word : Words → Word → ℕ → Words
set_word words (Partition p) n = record words { partition = set_at words.partition p n }
set_word words (Fast session) n = record words { fast = set_at words.fast session n }
set_word words (Database session) n = record words { database = set_at words.database session n }
set_word words (Slot session slot) n =
    record words { slot = set_at words.slot session (set_at (words.slot session) slot n) }
set_word words (Wait session) n = record words { wait = set_at words.wait session n }
set_word words (Strong index) n = record words { strong = set_at words.strong index n }
set_word words (Sleep session) n = record words { sleep = set_at words.sleep session n }
