use Rattle.std.proofs.Common.{◌≡◌, ◌≢◌, ℕ, ◌+◌, ◌%◌, ◌^◌, ◌<◌, Bool, true, false, refl, sym, ap, ◌∙◌, subst, inl, inr, arith}
use Rattle.std.proofs.lemmas.Bool.{cases_eq, false≢true, false_from_ne_true}
use Rattle.lw_word.specs.LightweightWord.{IsHeldByNobody, IsFreeToShare, shared_count, taken_word, put_word, shared_word, unshared_word, HoldersStay}
use Rattle.lock_table.specs.Put.{set_at}
use Rattle.lock_table.specs.Total.{how_many}
use Rattle.lock_world.specs.Safe.{ShowsHolders, WordsShowHolders}
use Rattle.lock_table.proofs.Lemmas.Put.{set_at-here, set_at-else, set_at-each, column-here, column-else}
use Rattle.lw_word.proofs.Lemmas.Words.{nobody-not_exclusive, nobody-shared, free_to_share-not_exclusive, taken_word-exclusive, taken_word-shared, put_word-not_exclusive, put_word-shared, shared_word-shared, shared_word-exclusive, unshared_word-shared, unshared_word-exclusive, holders-shared, holders-exclusive}
use Rattle.lock_table.proofs.Lemmas.Totals.{one_more, one_less, none_pass, some_pass, how_many-most}

-- A table of rows and columns, changed in one place and read in one column, as functions.
column-here_all : (f : ℕ → ℕ → Bool) (s p : ℕ) (b : Bool) (q : ℕ) → q ≡ p → ◌≡◌ {A = ℕ → Bool} (λ k. set_at f s (set_at (f s) p b) k q) (set_at (λ k. f k q) s b)
column-here_all f s p b q same = λ i k. column-here f s p b q same k i

column-else_all : (f : ℕ → ℕ → Bool) (s p : ℕ) (b : Bool) (q : ℕ) → q ≢ p → ◌≡◌ {A = ℕ → Bool} (λ k. set_at f s (set_at (f s) p b) k q) (λ k. f k q)
column-else_all f s p b q other = λ i k. column-else f s p b q other k i

-- Nobody holds a word that shows that nobody does, and nobody shares it.
pub free-not_held : (limit word : ℕ) (holds shares : ℕ → Bool) → ShowsHolders limit word holds shares → IsHeldByNobody word → (k : ℕ) → holds k ≡ true → ⊥
free-not_held limit word holds shares shows free k held = nobody-not_exclusive word free (shows.held_is_shown k held)

pub free-not_shared : (limit word : ℕ) (holds shares : ℕ → Bool) → ShowsHolders limit word holds shares → IsHeldByNobody word → (k : ℕ) → shares k ≡ false
free-not_shared limit word holds shares shows free k = false_from_ne_true (shares k) some where
  some : shares k ≡ true → ⊥
  some its =
      let none : shared_count word ≡ 0 = nobody-shared word free in
      let counted : shared_count word ≡ how_many limit shares = shows.shared in
      let one : 0 < how_many limit shares = some_pass limit shares k (shows.within k its) its in
      omega arith

-- A word that was free shows the one who has taken it.
pub ShowsHolders-taken : (limit word : ℕ) (holds shares : ℕ → Bool) (s : ℕ) → ShowsHolders limit word holds shares → IsHeldByNobody word → ShowsHolders limit (taken_word word) (set_at holds s true) shares
ShowsHolders-taken limit word holds shares s shows free = record {
  held_is_shown = λ k held. taken_word-exclusive word free;
  shown_is_held = λ shown. (s, set_at-here holds s true s refl);
  by_one = λ k l held its. is_s k held ∙ sym (is_s l its);
  shared = taken_word-shared word free ∙ sym (none_pass limit shares (free-not_shared limit word holds shares shows free));
  within = shows.within;
  never_both = λ k l held. free-not_shared limit word holds shares shows free l;
} where
  is_s : (k : ℕ) → set_at holds s true k ≡ true → k ≡ s
  is_s k held =
      elim (cases_eq k s) [
        | inl same ↦ same
        | inr other ↦ absurd (free-not_held limit word holds shares shows free k (sym (set_at-else holds s true k other) ∙ held))
      ]

-- A word that was held shows nobody once its holder has put it.
pub ShowsHolders-put : (limit word : ℕ) (holds shares : ℕ → Bool) (s : ℕ) → ShowsHolders limit word holds shares → holds s ≡ true → ShowsHolders limit (put_word word) (set_at holds s false) shares
ShowsHolders-put limit word holds shares s shows had = record {
  held_is_shown = λ k held. absurd (nobody k held);
  shown_is_held = λ shown. absurd (put_word-not_exclusive word (shows.held_is_shown s had) shown);
  by_one = λ k l held its. absurd (nobody k held);
  shared = put_word-shared word (shows.held_is_shown s had) ∙ shows.shared;
  within = shows.within;
  never_both = λ k l held. absurd (nobody k held);
} where
  nobody : (k : ℕ) → set_at holds s false k ≡ true → ⊥
  nobody k held =
      elim (cases_eq k s) [
        | inl same ↦ false≢true (sym (set_at-here holds s false k same) ∙ held)
        | inr other ↦ other (shows.by_one k s (sym (set_at-else holds s false k other) ∙ held) had)
      ]

-- A word has room for one more sharer, and shows one at least where a session shares it.
pub shared-room : (limit word : ℕ) (holds shares : ℕ → Bool) (s : ℕ) → limit < 2 ^ 24 → s < limit → ShowsHolders limit word holds shares → shares s ≡ false → shared_count word + 1 < 2 ^ 24
shared-room limit word holds shares s few below shows none =
    let more : how_many limit (set_at shares s true) ≡ how_many limit shares + 1 = one_more limit shares s below none in
    let counted : shared_count word ≡ how_many limit shares = shows.shared in
    let most = how_many-most limit (set_at shares s true) in
    omega (arith, more, counted, most, few)

pub shared-some : (limit word : ℕ) (holds shares : ℕ → Bool) (s : ℕ) → ShowsHolders limit word holds shares → shares s ≡ true → 0 < shared_count word
shared-some limit word holds shares s shows some =
    let counted : shared_count word ≡ how_many limit shares = shows.shared in
    let one = some_pass limit shares s (shows.within s some) some in
    omega (arith, one, counted)

-- A word shows the same where its holders stay.
pub ShowsHolders-stay : (limit old new : ℕ) (holds shares : ℕ → Bool) → HoldersStay old new → ShowsHolders limit old holds shares → ShowsHolders limit new holds shares
ShowsHolders-stay limit old new holds shares stay shows = record {
  held_is_shown = λ k held. holders-exclusive old new stay ∙ shows.held_is_shown k held;
  shown_is_held = λ shown. shows.shown_is_held (sym (holders-exclusive old new stay) ∙ shown);
  by_one = shows.by_one;
  shared = holders-shared old new stay ∙ shows.shared;
  within = shows.within;
  never_both = shows.never_both;
}

-- A word that nobody holds exclusively is shared by one more.
pub ShowsHolders-shared : (limit word : ℕ) (holds shares : ℕ → Bool) (s : ℕ) → limit < 2 ^ 24 → s < limit → ShowsHolders limit word holds shares → IsFreeToShare word → shares s ≡ false
    → ShowsHolders limit (shared_word word) holds (set_at shares s true)
ShowsHolders-shared limit word holds shares s few below shows free none = record {
  held_is_shown = λ k held. absurd (free_to_share-not_exclusive word free (shows.held_is_shown k held));
  shown_is_held = λ shown. absurd (free_to_share-not_exclusive word free (subst (λ n. n % 2 ≡ 1) (shared_word-exclusive word room) shown));
  by_one = λ k l held its. absurd (free_to_share-not_exclusive word free (shows.held_is_shown k held));
  shared = shared_word-shared word room ∙ ap (λ n. n + 1) shows.shared ∙ sym more;
  within = set_at-each (λ k b. b ≡ true → k < limit) shares s true (λ _. below) (λ k _ its. shows.within k its);
  never_both = λ k l held. absurd (free_to_share-not_exclusive word free (shows.held_is_shown k held));
} where
  more : how_many limit (set_at shares s true) ≡ how_many limit shares + 1
  more = one_more limit shares s below none

  room : shared_count word + 1 < 2 ^ 24
  room = shared-room limit word holds shares s few below shows none

-- A word that is shared is so by one less, once one of those who share it has put it.
pub ShowsHolders-unshared : (limit word : ℕ) (holds shares : ℕ → Bool) (s : ℕ) → ShowsHolders limit word holds shares → shares s ≡ true → ShowsHolders limit (unshared_word word) holds (set_at shares s false)
ShowsHolders-unshared limit word holds shares s shows some = record {
  held_is_shown = λ k held. absurd (false≢true (sym (shows.never_both k s held) ∙ some));
  shown_is_held = λ shown. shows.shown_is_held (subst (λ n. n % 2 ≡ 1) (unshared_word-exclusive word counts) shown);
  by_one = shows.by_one;
  shared = shared;
  within = set_at-each (λ k b. b ≡ true → k < limit) shares s false (λ e. absurd (false≢true e)) (λ k _ its. shows.within k its);
  never_both = λ k l held. absurd (false≢true (sym (shows.never_both k s held) ∙ some));
} where
  counted : shared_count word ≡ how_many limit shares
  counted = shows.shared

  counts : 0 < shared_count word
  counts = shared-some limit word holds shares s shows some

  shared : shared_count (unshared_word word) ≡ how_many limit (set_at shares s false)
  shared =
      let less = one_less limit shares s (shows.within s some) some in
      let down : shared_count (unshared_word word) + 1 ≡ shared_count word = unshared_word-shared word counts in
      omega (arith, less, down, counted)

-- A change of one word and of one session's holding of it.
pub WordsShowHolders-set : (limit : ℕ) (word : ℕ → ℕ) (holds shares : ℕ → ℕ → Bool) (s p : ℕ) (b : Bool) (shown : ℕ) → ShowsHolders limit shown (set_at (λ k. holds k p) s b) (λ k. shares k p)
    → WordsShowHolders limit word holds shares → WordsShowHolders limit (set_at word p shown) (set_at holds s (set_at (holds s) p b)) shares
WordsShowHolders-set limit word holds shares s p b shown here there q =
    elim (cases_eq q p) [
      | inl same ↦ subst (λ n. ShowsHolders limit n (λ k. set_at holds s (set_at (holds s) p b) k q) (λ k. shares k q)) (sym (set_at-here word p shown q same))
          (subst (λ h. ShowsHolders limit shown h (λ k. shares k q)) (sym (column-here_all holds s p b q same)) (subst (λ j. ShowsHolders limit shown (set_at (λ k. holds k j) s b) (λ k. shares k j)) (sym same) here))
      | inr other ↦ subst (λ n. ShowsHolders limit n (λ k. set_at holds s (set_at (holds s) p b) k q) (λ k. shares k q)) (sym (set_at-else word p shown q other))
          (subst (λ h. ShowsHolders limit (word q) h (λ k. shares k q)) (sym (column-else_all holds s p b q other)) (there q))
    ]

-- A change of one word and of one session's sharing of it.
pub WordsShowHolders-share : (limit : ℕ) (word : ℕ → ℕ) (holds shares : ℕ → ℕ → Bool) (s p : ℕ) (b : Bool) (shown : ℕ) → ShowsHolders limit shown (λ k. holds k p) (set_at (λ k. shares k p) s b)
    → WordsShowHolders limit word holds shares → WordsShowHolders limit (set_at word p shown) holds (set_at shares s (set_at (shares s) p b))
WordsShowHolders-share limit word holds shares s p b shown here there q =
    elim (cases_eq q p) [
      | inl same ↦ subst (λ n. ShowsHolders limit n (λ k. holds k q) (λ k. set_at shares s (set_at (shares s) p b) k q)) (sym (set_at-here word p shown q same))
          (subst (λ h. ShowsHolders limit shown (λ k. holds k q) h) (sym (column-here_all shares s p b q same)) (subst (λ j. ShowsHolders limit shown (λ k. holds k j) (set_at (λ k. shares k j) s b)) (sym same) here))
      | inr other ↦ subst (λ n. ShowsHolders limit n (λ k. holds k q) (λ k. set_at shares s (set_at (shares s) p b) k q)) (sym (set_at-else word p shown q other))
          (subst (λ h. ShowsHolders limit (word q) (λ k. holds k q) h) (sym (column-else_all shares s p b q other)) (there q))
    ]
