use Rattle.std.proofs.Common.{◌≡◌, ◌≢◌, ◌⊎◌, ℕ, ◌+◌, ◌*◌, ◌/◌, ◌%◌, ◌<◌, ◌≤◌, List, refl, sym, ap, ◌∙◌, subst, inl, inr, arith}
use Rattle.std.specs.Prelude.{slice_index, slice_set}
use Rattle.std.proofs.Math.ListN.{length-set}
use Rattle.std.proofs.lemmas.Bool.{cases_eq, cases_order}
use Rattle.std.proofs.lemmas.List.{get_or-set_same, get_or-set_other}
use Rattle.lock_world.specs.declared.events.Word.{Word}
use Rattle.lock_world.specs.declared.events.Word.TheVariants.{Partition, Fast, Database, Slot, Wait, Strong, Sleep}
use Rattle.lock_table.proofs.Lemmas.Put.{set_at-here, set_at-else}
use Rattle.lock_world.specs.World.{Words, word_in}
use Rattle.lock_world.specs.SlotHolds.{group_size}
use Rattle.shared_rule.specs.Layout.{block_start, block_of, words_of, index_of_word, group_of, IsApart, IsInTable}
use Rattle.shared_rule.specs.declared.rule.TableSizes.{TableSizes}
use Rattle.std.proofs.Math.Nat.{mul-zero}
use Rattle.shared_rule.proofs.Lemmas.Blocks.{block-below, session-below, block-one, slot-not_early, slot-not_fast, slot-not_database, slot-not_wait, slot-not_sleep}
use Rattle.shared_rule.proofs.Lemmas.Blocks.{slot-one, slot-below, blocks-apart}
use Rattle.shared_rule.specs.Shown.{WordsAreShown, set_word}

-- Setting one word of the table sets just that word of the World.

-- The word that was set shows it.
pub word_in-here : (words : Words) (word : Word) (n : ℕ) → word_in (set_word words word n) word ≡ n
word_in-here words (Partition p) n = set_at-here words.partition p n p refl
word_in-here words (Fast k) n = set_at-here words.fast k n k refl
word_in-here words (Database k) n = set_at-here words.database k n k refl
word_in-here words (Slot k i) n = ap (λ row. row i) (set_at-here words.slot k _ k refl) ∙ set_at-here (words.slot k) i n i refl
word_in-here words (Wait k) n = set_at-here words.wait k n k refl
word_in-here words (Strong i) n = set_at-here words.strong i n i refl
word_in-here words (Sleep k) n = set_at-here words.sleep k n k refl

-- Every other word shows what it showed.
pub word_in-else : (words : Words) (word : Word) (n : ℕ) (o : Word) → o ≢ word → word_in (set_word words word n) o ≡ word_in words o
word_in-else words (Partition p) n (Partition q) other = set_at-else words.partition p n q (λ e. other (ap Partition e))
word_in-else words (Partition p) n (Fast j) other = refl
word_in-else words (Partition p) n (Database j) other = refl
word_in-else words (Partition p) n (Slot j l) other = refl
word_in-else words (Partition p) n (Wait j) other = refl
word_in-else words (Partition p) n (Strong l) other = refl
word_in-else words (Partition p) n (Sleep j) other = refl
word_in-else words (Fast k) n (Partition q) other = refl
word_in-else words (Fast k) n (Fast j) other = set_at-else words.fast k n j (λ e. other (ap Fast e))
word_in-else words (Fast k) n (Database j) other = refl
word_in-else words (Fast k) n (Slot j l) other = refl
word_in-else words (Fast k) n (Wait j) other = refl
word_in-else words (Fast k) n (Strong l) other = refl
word_in-else words (Fast k) n (Sleep j) other = refl
word_in-else words (Database k) n (Partition q) other = refl
word_in-else words (Database k) n (Fast j) other = refl
word_in-else words (Database k) n (Database j) other = set_at-else words.database k n j (λ e. other (ap Database e))
word_in-else words (Database k) n (Slot j l) other = refl
word_in-else words (Database k) n (Wait j) other = refl
word_in-else words (Database k) n (Strong l) other = refl
word_in-else words (Database k) n (Sleep j) other = refl
word_in-else words (Slot k i) n (Partition q) other = refl
word_in-else words (Slot k i) n (Fast j) other = refl
word_in-else words (Slot k i) n (Database j) other = refl
word_in-else words (Slot k i) n (Slot j l) other =
    elim (cases_eq j k) [
      | inl same ↦
          ap (λ row. row l) (set_at-here words.slot k _ j same)
          ∙ set_at-else (words.slot k) i n l (λ e. other (λ x. Slot (same x) (e x)))
          ∙ ap (λ s. words.slot s l) (sym same)
      | inr apart ↦ ap (λ row. row l) (set_at-else words.slot k _ j apart)
    ]
word_in-else words (Slot k i) n (Wait j) other = refl
word_in-else words (Slot k i) n (Strong l) other = refl
word_in-else words (Slot k i) n (Sleep j) other = refl
word_in-else words (Wait k) n (Partition q) other = refl
word_in-else words (Wait k) n (Fast j) other = refl
word_in-else words (Wait k) n (Database j) other = refl
word_in-else words (Wait k) n (Slot j l) other = refl
word_in-else words (Wait k) n (Wait j) other = set_at-else words.wait k n j (λ e. other (ap Wait e))
word_in-else words (Wait k) n (Strong l) other = refl
word_in-else words (Wait k) n (Sleep j) other = refl
word_in-else words (Strong i) n (Partition q) other = refl
word_in-else words (Strong i) n (Fast j) other = refl
word_in-else words (Strong i) n (Database j) other = refl
word_in-else words (Strong i) n (Slot j l) other = refl
word_in-else words (Strong i) n (Wait j) other = refl
word_in-else words (Strong i) n (Strong l) other = set_at-else words.strong i n l (λ e. other (ap Strong e))
word_in-else words (Strong i) n (Sleep j) other = refl
word_in-else words (Sleep k) n (Partition q) other = refl
word_in-else words (Sleep k) n (Fast j) other = refl
word_in-else words (Sleep k) n (Database j) other = refl
word_in-else words (Sleep k) n (Slot j l) other = refl
word_in-else words (Sleep k) n (Wait j) other = refl
word_in-else words (Sleep k) n (Strong l) other = refl
word_in-else words (Sleep k) n (Sleep j) other = set_at-else words.sleep k n j (λ e. other (ap Sleep e))

-- the place of a slot in its group, and its group
place-in_group : (slot : ℕ) → slot % group_size < 16
place-in_group slot = omega arith

group-of : (slot groups : ℕ) → slot < group_size * groups → slot / group_size < groups
group-of slot groups within = omega (arith, within)

-- Each word of the table is within it.
pub within : (sizes : TableSizes) → 0 < sizes.groups → (word : Word) → IsInTable sizes word → index_of_word sizes.sessions word < words_of sizes.sessions sizes.groups
within sizes some (Partition p) exists = omega (arith, exists.0)
within sizes some (Fast k) exists = let below = session-below sizes.sessions sizes.groups k exists.1 some in omega (arith, below)
within sizes some (Database k) exists = let below = session-below sizes.sessions sizes.groups k exists.1 some in omega (arith, below)
within sizes some (Slot k i) exists =
    slot-below (block_of sizes.sessions k (i / group_size)) (i % group_size) (sizes.sessions * sizes.groups) (place-in_group i)
    (block-below sizes.sessions sizes.groups k (i / group_size) exists.1 (group-of i sizes.groups exists.0))
within sizes some (Wait k) exists = let below = session-below sizes.sessions sizes.groups k exists.1 some in omega (arith, below)
within sizes some (Strong i) exists = omega (arith, exists.0)
within sizes some (Sleep k) exists = let below = session-below sizes.sessions sizes.groups k exists.1 some in omega (arith, below)

-- Two words of the table with one index are one word.
pub one_index : (sizes : TableSizes) (word o : Word) → IsInTable sizes word → IsInTable sizes o → index_of_word sizes.sessions word ≡ index_of_word sizes.sessions o → word ≡ o
one_index sizes (Partition p) (Partition q) here there same = ap Partition (let e : p ≡ q = omega (arith, same) in e)
one_index sizes (Partition p) (Fast j) here there same = absurd (omega (arith, same, here.0, there.1))
one_index sizes (Partition p) (Database j) here there same = absurd (omega (arith, same, here.0, there.1))
one_index sizes (Partition p) (Slot j l) here there same = absurd (slot-not_early (block_of sizes.sessions j (l / group_size)) (l % group_size) (16 * p) (let early = here.0 in omega (arith, early)) (sym same))
one_index sizes (Partition p) (Wait j) here there same = absurd (omega (arith, same, here.0, there.1))
one_index sizes (Partition p) (Strong l) here there same = absurd (omega (arith, same, here.0, there.0))
one_index sizes (Partition p) (Sleep j) here there same = absurd (omega (arith, same, here.0, there.1))
one_index sizes (Fast k) (Partition q) here there same = absurd (omega (arith, same, here.1, there.0))
one_index sizes (Fast k) (Fast j) here there same = ap Fast (let e : k ≡ j = omega (arith, same) in e)
one_index sizes (Fast k) (Database j) here there same = absurd (omega (arith, same, here.1, there.1))
one_index sizes (Fast k) (Slot j l) here there same = absurd (slot-not_fast (block_of sizes.sessions j (l / group_size)) (l % group_size) k (place-in_group l) (sym same))
one_index sizes (Fast k) (Wait j) here there same = absurd (omega (arith, same, here.1, there.1))
one_index sizes (Fast k) (Strong l) here there same = absurd (omega (arith, same, here.1, there.0))
one_index sizes (Fast k) (Sleep j) here there same = absurd (omega (arith, same, here.1, there.1))
one_index sizes (Database k) (Partition q) here there same = absurd (omega (arith, same, here.1, there.0))
one_index sizes (Database k) (Fast j) here there same = absurd (omega (arith, same, here.1, there.1))
one_index sizes (Database k) (Database j) here there same = ap Database (let e : k ≡ j = omega (arith, same) in e)
one_index sizes (Database k) (Slot j l) here there same = absurd (slot-not_database (block_of sizes.sessions j (l / group_size)) (l % group_size) k (place-in_group l) (sym same))
one_index sizes (Database k) (Wait j) here there same = absurd (omega (arith, same, here.1, there.1))
one_index sizes (Database k) (Strong l) here there same = absurd (omega (arith, same, here.1, there.0))
one_index sizes (Database k) (Sleep j) here there same = absurd (omega (arith, same, here.1, there.1))
one_index sizes (Slot k i) (Partition q) here there same = absurd (slot-not_early (block_of sizes.sessions k (i / group_size)) (i % group_size) (16 * q) (let early = there.0 in omega (arith, early)) same)
one_index sizes (Slot k i) (Fast j) here there same = absurd (slot-not_fast (block_of sizes.sessions k (i / group_size)) (i % group_size) j (place-in_group i) same)
one_index sizes (Slot k i) (Database j) here there same = absurd (slot-not_database (block_of sizes.sessions k (i / group_size)) (i % group_size) j (place-in_group i) same)
one_index sizes (Slot k i) (Slot j l) here there same =
    let at = slot-one (block_of sizes.sessions k (i / group_size)) (i % group_size) (block_of sizes.sessions j (l / group_size)) (l % group_size)
    (place-in_group i) (place-in_group l) same in
    let both = block-one sizes.sessions k j (i / group_size) (l / group_size) here.1 there.1 at.0 in
    let place = at.1 in
    let group = both.1 in
    let slot : i ≡ l = omega (arith, place, group) in
    λ x. Slot (both.0 x) (slot x)
one_index sizes (Slot k i) (Wait j) here there same = absurd (slot-not_wait (block_of sizes.sessions k (i / group_size)) (i % group_size) j (place-in_group i) same)
one_index sizes (Slot k i) (Strong l) here there same = absurd (slot-not_early (block_of sizes.sessions k (i / group_size)) (i % group_size) (256 + l) (let early = there.0 in omega (arith, early)) same)
one_index sizes (Slot k i) (Sleep j) here there same = absurd (slot-not_sleep (block_of sizes.sessions k (i / group_size)) (i % group_size) j (place-in_group i) same)
one_index sizes (Wait k) (Partition q) here there same = absurd (omega (arith, same, here.1, there.0))
one_index sizes (Wait k) (Fast j) here there same = absurd (omega (arith, same, here.1, there.1))
one_index sizes (Wait k) (Database j) here there same = absurd (omega (arith, same, here.1, there.1))
one_index sizes (Wait k) (Slot j l) here there same = absurd (slot-not_wait (block_of sizes.sessions j (l / group_size)) (l % group_size) k (place-in_group l) (sym same))
one_index sizes (Wait k) (Wait j) here there same = ap Wait (let e : k ≡ j = omega (arith, same) in e)
one_index sizes (Wait k) (Strong l) here there same = absurd (omega (arith, same, here.1, there.0))
one_index sizes (Wait k) (Sleep j) here there same = absurd (omega (arith, same, here.1, there.1))
one_index sizes (Strong i) (Partition q) here there same = absurd (omega (arith, same, here.0, there.0))
one_index sizes (Strong i) (Fast j) here there same = absurd (omega (arith, same, here.0, there.1))
one_index sizes (Strong i) (Database j) here there same = absurd (omega (arith, same, here.0, there.1))
one_index sizes (Strong i) (Slot j l) here there same = absurd (slot-not_early (block_of sizes.sessions j (l / group_size)) (l % group_size) (256 + i) (let early = here.0 in omega (arith, early)) (sym same))
one_index sizes (Strong i) (Wait j) here there same = absurd (omega (arith, same, here.0, there.1))
one_index sizes (Strong i) (Strong l) here there same = ap Strong (let e : i ≡ l = omega (arith, same) in e)
one_index sizes (Strong i) (Sleep j) here there same = absurd (omega (arith, same, here.0, there.1))
one_index sizes (Sleep k) (Partition q) here there same = absurd (omega (arith, same, here.1, there.0))
one_index sizes (Sleep k) (Fast j) here there same = absurd (omega (arith, same, here.1, there.1))
one_index sizes (Sleep k) (Database j) here there same = absurd (omega (arith, same, here.1, there.1))
one_index sizes (Sleep k) (Slot j l) here there same = absurd (slot-not_sleep (block_of sizes.sessions j (l / group_size)) (l % group_size) k (place-in_group l) (sym same))
one_index sizes (Sleep k) (Wait j) here there same = absurd (omega (arith, same, here.1, there.1))
one_index sizes (Sleep k) (Strong l) here there same = absurd (omega (arith, same, here.1, there.0))
one_index sizes (Sleep k) (Sleep j) here there same = ap Sleep (let e : k ≡ j = omega (arith, same) in e)

-- A table that shows the words of a World shows them still where a word is set in both.
pub words-set :
    (sizes : TableSizes) → 0 < sizes.groups → (table : List ℕ) (words : Words) (word : Word) (n : ℕ) → WordsAreShown sizes table words → IsInTable sizes word
    → WordsAreShown sizes (slice_set table (index_of_word sizes.sessions word) n) (set_word words word n)
words-set sizes some table words word n shown exists = record {
  as_many = length-set table (at word) n ∙ shown.as_many;
  word = λ o there. elim (cases_eq (at o) (at word)) [
    | inl same ↦
        let one : o ≡ word = one_index sizes o word there exists same in
        ap (λ w. slice_index (slice_set table (at word) n) (at w)) one
        ∙ get_or-set_same table (at word) n 0 (subst (λ many. at word < many) (sym shown.as_many) (within sizes some word exists))
        ∙ sym (ap (word_in (set_word words word n)) one ∙ word_in-here words word n)
    | inr other ↦
        get_or-set_other table (at word) (at o) n 0 other
        ∙ shown.word o there
        ∙ sym (word_in-else words word n o (λ same. other (ap at same)))
  ];
  gap = λ index none.
      get_or-set_other table (at word) index n 0 (λ same. none word exists (sym same))
      ∙ shown.gap index none;
} where
  at : Word → ℕ
  at w = index_of_word sizes.sessions w

-- Where a word stands: with a partition's, with the counters, or in a block of a session's, before its gap.

-- The word is in a block of this session's.
record IsInBlock (sizes : TableSizes) (word : Word) (session : ℕ) : Type 0 where
  group : ℕ
  place : ℕ
  at : index_of_word sizes.sessions word ≡ block_start (block_of sizes.sessions session group) + place
  before_gap : place < 20
  exists : session < sizes.sessions
  grouped : group_of word ≡ 17 + session

-- The word is a partition's, a counter, or in a block of a session's.
abbrev IsPlaced : TableSizes → Word → Type 0
IsPlaced sizes word =
    ((group_of word < 16) × (index_of_word sizes.sessions word ≡ 16 * group_of word))
    ⊎ (((group_of word ≡ 16) × (256 ≤ index_of_word sizes.sessions word) × (index_of_word sizes.sessions word < 1280))
    ⊎ ((session : ℕ) × IsInBlock sizes word session))

-- A session's first block is its own.
first-block : (sessions session place : ℕ) → block_start session + place ≡ block_start (block_of sessions session 0) + place
first-block sessions session place = let none : sessions * 0 ≡ 0 = mul-zero sessions in omega (arith, none)

placed : (sizes : TableSizes) (word : Word) → IsInTable sizes word → IsPlaced sizes word
placed sizes (Partition p) exists = inl (exists.0, refl)
placed sizes (Strong i) exists = let few = exists.0 in inr (inl (refl, omega arith, omega (arith, few)))
placed sizes (Fast k) exists = inr (inr (
  k,
  record {
    group = 0;
    place = 0;
    at = (let e : block_start k ≡ block_start k + 0 = omega arith in e) ∙ first-block sizes.sessions k 0;
    before_gap = omega arith;
    exists = exists.1;
    grouped = refl;
  },
))
placed sizes (Database k) exists = inr (inr (
  k,
  record {
    group = 0;
    place = 1;
    at = first-block sizes.sessions k 1;
    before_gap = omega arith;
    exists = exists.1;
    grouped = refl;
  },
))
placed sizes (Slot k i) exists = inr (inr (
  k,
  record {
    group = i / group_size;
    place = 2 + i % group_size;
    at = second (block_of sizes.sessions k (i / group_size)) (i % group_size);
    before_gap = let place = place-in_group i in omega (arith, place);
    exists = exists.1;
    grouped = refl;
  },
)) where
  second : (block place : ℕ) → block_start block + 2 + place ≡ block_start block + (2 + place)
  second block place = omega arith
placed sizes (Wait k) exists = inr (inr (
  k,
  record {
    group = 0;
    place = 18;
    at = first-block sizes.sessions k 18;
    before_gap = omega arith;
    exists = exists.1;
    grouped = refl;
  },
))
placed sizes (Sleep k) exists = inr (inr (
  k,
  record {
    group = 0;
    place = 19;
    at = first-block sizes.sessions k 19;
    before_gap = omega arith;
    exists = exists.1;
    grouped = refl;
  },
))

-- Words before all blocks are apart from those in blocks,
early-apart : (n m block place : ℕ) → n < 1280 → m ≡ block_start block + place → IsApart n m
early-apart n m block place early at = inl (omega (arith, early, at))

swapped : (n m : ℕ) → IsApart n m → IsApart m n
swapped n m (inl before) = inr before
swapped n m (inr after) = inl after

-- and so are words of two groups.
pub words-apart : (sizes : TableSizes) (word o : Word) → IsInTable sizes word → IsInTable sizes o → group_of word ≢ group_of o
    → IsApart (index_of_word sizes.sessions word) (index_of_word sizes.sessions o)
words-apart sizes word o here there other = by (index_of_word sizes.sessions word) (index_of_word sizes.sessions o) refl refl (placed sizes word here) (placed sizes o there) where
  by : (n m : ℕ) → index_of_word sizes.sessions word ≡ n → index_of_word sizes.sessions o ≡ m → IsPlaced sizes word → IsPlaced sizes o → IsApart n m
  by n m at its (inl a) (inl b) = partitions (group_of word) (group_of o) n m (sym at ∙ a.1) (sym its ∙ b.1) other where
    partitions : (p q n m : ℕ) → n ≡ 16 * p → m ≡ 16 * q → p ≢ q → IsApart n m
    partitions p q n m at its apart = elim (cases_order p q) [
      | inl same ↦ absurd (apart same)
      | inr either ↦ elim either [
        | inl before ↦ inl (omega (arith, at, its, before))
        | inr after ↦ inr (omega (arith, at, its, after))
      ]
    ]
  by n m at its (inl a) (inr (inl b)) = first (group_of word) n m a.0 (sym at ∙ a.1) (subst (λ k. 256 ≤ k) its b.1) where
    first : (p n m : ℕ) → p < 16 → n ≡ 16 * p → 256 ≤ m → IsApart n m
    first p n m few at late = inl (omega (arith, few, at, late))
  by n m at its (inl a) (inr (inr b)) =
      early-apart n m (block_of sizes.sessions b.0 b.1.group) b.1.place (let few = a.0 in let is : n ≡ 16 * group_of word = sym at ∙ a.1 in omega (arith, few, is)) (sym its ∙ b.1.at)
  by n m at its (inr (inl a)) (inl b) = swapped m n (by-first (group_of o) m n b.0 (sym its ∙ b.1) (subst (λ k. 256 ≤ k) at a.1)) where
    by-first : (p n m : ℕ) → p < 16 → n ≡ 16 * p → 256 ≤ m → IsApart n m
    by-first p n m few at late = inl (omega (arith, few, at, late))
  by n m at its (inr (inl a)) (inr (inl b)) = absurd (other (a.0 ∙ sym b.0))
  by n m at its (inr (inl a)) (inr (inr b)) =
      early-apart n m (block_of sizes.sessions b.0 b.1.group) b.1.place (subst (λ k. k < 1280) at a.2) (sym its ∙ b.1.at)
  by n m at its (inr (inr a)) (inl b) =
      swapped m n (early-apart m n (block_of sizes.sessions a.0 a.1.group) a.1.place (let few = b.0 in let is : m ≡ 16 * group_of o = sym its ∙ b.1 in omega (arith, few, is)) (sym at ∙ a.1.at))
  by n m at its (inr (inr a)) (inr (inl b)) =
      swapped m n (early-apart m n (block_of sizes.sessions a.0 a.1.group) a.1.place (subst (λ k. k < 1280) its b.2) (sym at ∙ a.1.at))
  by n m at its (inr (inr a)) (inr (inr b)) =
      subst (λ k. IsApart k m) (sym (sym at ∙ a.1.at)) (subst (λ k. IsApart (block_start (block_of sizes.sessions a.0 a.1.group) + a.1.place) k) (sym (sym its ∙ b.1.at))
      (blocks-apart (block_of sizes.sessions a.0 a.1.group) (block_of sizes.sessions b.0 b.1.group) a.1.place b.1.place a.1.before_gap b.1.before_gap (λ same.
      other (a.1.grouped ∙ ap (λ k. 17 + k) (block-one sizes.sessions a.0 b.0 a.1.group b.1.group a.1.exists b.1.exists same).0 ∙ sym b.1.grouped))))
