use Rattle.std.proofs.Common.{◌≡◌, ℕ, ◌+◌, ◌<◌, true, false, Some, None, refl, sym, ap, ◌∙◌, inl, inr, arith}
use Rattle.std.proofs.lemmas.Bool.{cases_eq}
use Rattle.lock_world.specs.World.{World, Numbers}
use Rattle.lock_table.specs.Put.{set_at}
use Rattle.lock_world.specs.Happens.Seats.{MayBeIssued, after_issuing, MayGoOn, after_going_on, MayBeKeptApart, after_keeping_apart, MayClose, after_closing}
use Rattle.lock_world.specs.Safe.{TableIsSafe, NumbersAreInOrder, SpentHaveNothing, WordsShowHolders}
use Rattle.lock_table.proofs.Lemmas.Put.{set_at-else, set_at-each}
use Rattle.lock_world.proofs.Lemmas.Table.Beside.{beside-table, same-table}

-- A World of which the session numbers alone have changed.
abbrev pub with_numbers : World → Numbers → World
with_numbers w numbers = record { words = w.words; contents = w.contents; sessions = w.sessions; numbers = numbers }

pub with_numbers-table : (w : World) (numbers : Numbers) → TableIsSafe w → WordsShowHolders numbers.limit w.words.partition w.sessions.holds_partition w.sessions.shares_partition
    → SpentHaveNothing numbers.live w.sessions.own w.sessions.awaited w.sessions.holds_partition → NumbersAreInOrder numbers → TableIsSafe (with_numbers w numbers)
with_numbers-table w numbers = beside-table w (with_numbers w numbers)

-- Issuing a number is safe.
pub issuing-table : (w : World) (s : ℕ) → TableIsSafe w → MayBeIssued w s → TableIsSafe (after_issuing w s)
issuing-table w s safe may = with_numbers-table w _ safe safe.promise.words
    (record {
      no_hold = λ k o n dead. safe.promise.spent.no_hold k o n (was_dead k dead);
      no_wait = λ k dead. safe.promise.spent.no_wait k (was_dead k dead);
      no_word = λ k p dead. safe.promise.spent.no_word k p (was_dead k dead);
    })
    (record {
      live_is_issued = set_at-each (λ k b. b ≡ true → k < s + 1) w.numbers.live s true (λ _. omega arith)
          (λ k _ alive. let below : k < w.numbers.issued = safe.carriers.numbers.live_is_issued k alive in let next : s ≡ w.numbers.issued = may.next in omega arith);
      within = let within : s < w.numbers.limit = may.within in omega arith;
      few = safe.carriers.numbers.few;
      kept_is_live = λ k j kept. set_at-each (λ k b. w.numbers.live k ≡ true → b ≡ true) w.numbers.live s true (λ _. refl) (λ _ _ alive. alive) k (safe.carriers.numbers.kept_is_live k j kept);
      joiner_is_live = λ k j kept. set_at-each (λ k b. w.numbers.live k ≡ true → b ≡ true) w.numbers.live s true (λ _. refl) (λ _ _ alive. alive) j (safe.carriers.numbers.joiner_is_live k j kept);
    }) where
      was_dead : (k : ℕ) → set_at w.numbers.live s true k ≡ false → w.numbers.live k ≡ false
      was_dead = set_at-each (λ k b. b ≡ false → w.numbers.live k ≡ false) w.numbers.live s true (λ e. absurd (cc)) (λ _ _ e. e)

-- Going on by itself is safe.
pub going_on-table : (w : World) (s : ℕ) → TableIsSafe w → MayGoOn w s → TableIsSafe (after_going_on w s)
going_on-table w s safe may = with_numbers-table w _ safe safe.promise.words safe.promise.spent (record {
  live_is_issued = safe.carriers.numbers.live_is_issued;
  within = safe.carriers.numbers.within;
  few = safe.carriers.numbers.few;
  kept_is_live = set_at-each (λ k o. (j : ℕ) → o ≡ Some j → w.numbers.live k ≡ true) w.numbers.kept_by s None (λ j e. absurd (cc)) (λ k _. safe.carriers.numbers.kept_is_live k);
  joiner_is_live = set_at-each (λ k o. (j : ℕ) → o ≡ Some j → w.numbers.live j ≡ true) w.numbers.kept_by s None (λ j e. absurd (cc)) (λ k _. safe.carriers.numbers.joiner_is_live k);
})

-- Being kept apart is safe.
pub keeping_apart-table : (w : World) (s joiner : ℕ) → TableIsSafe w → MayBeKeptApart w s joiner → TableIsSafe (after_keeping_apart w s joiner)
keeping_apart-table w s joiner safe may = with_numbers-table w _ safe safe.promise.words safe.promise.spent (record {
  live_is_issued = safe.carriers.numbers.live_is_issued;
  within = safe.carriers.numbers.within;
  few = safe.carriers.numbers.few;
  kept_is_live = set_at-each (λ k o. (j : ℕ) → o ≡ Some j → w.numbers.live k ≡ true) w.numbers.kept_by s (Some joiner) (λ j e. may.steps.live) (λ k _. safe.carriers.numbers.kept_is_live k);
  joiner_is_live = set_at-each (λ k o. (j : ℕ) → o ≡ Some j → w.numbers.live j ≡ true) w.numbers.kept_by s (Some joiner)
      (λ j e. let same : joiner ≡ j = cc in ap w.numbers.live (sym same) ∙ may.joiner_steps.live) (λ k _. safe.carriers.numbers.joiner_is_live k);
})

-- Closing is safe.
pub closing-table : (w : World) (s : ℕ) → TableIsSafe w → MayClose w s → TableIsSafe (after_closing w s)
closing-table w s safe may = same-table (with_numbers w (after_closing w s).numbers) (after_closing w s) closed where
  still_joiner : (k j : ℕ) → w.numbers.kept_by k ≡ Some j → set_at w.numbers.live s false j ≡ true
  still_joiner k j kept =
      elim (cases_eq j s) [
        | inl same ↦ absurd (may.keeps_nobody k (kept ∙ ap Some same))
        | inr other ↦ set_at-else w.numbers.live s false j other ∙ safe.carriers.numbers.joiner_is_live k j kept
      ]

  still_live : (k j : ℕ) → w.numbers.kept_by k ≡ Some j → set_at w.numbers.live s false k ≡ true
  still_live k j kept =
      elim (cases_eq k s) [
        | inl same ↦ let by_itself : w.numbers.kept_by s ≡ None = may.steps.by_itself in let kept_s : w.numbers.kept_by s ≡ Some j = ap w.numbers.kept_by (sym same) ∙ kept in absurd (cc)
        | inr other ↦ set_at-else w.numbers.live s false k other ∙ safe.carriers.numbers.kept_is_live k j kept
      ]

  closed : TableIsSafe (with_numbers w (after_closing w s).numbers)
  closed = with_numbers-table w _ safe safe.promise.words
      (record {
        no_hold = λ k o n. set_at-each (λ k b. b ≡ false → w.sessions.own k o n ≡ false) w.numbers.live s false (λ _. may.no_hold o n) (λ k _ dead. safe.promise.spent.no_hold k o n dead) k;
        no_wait = set_at-each (λ k b. b ≡ false → w.sessions.awaited k ≡ None) w.numbers.live s false (λ _. may.no_wait) (λ k _ dead. safe.promise.spent.no_wait k dead);
        no_word = λ k p. set_at-each (λ k b. b ≡ false → w.sessions.holds_partition k p ≡ false) w.numbers.live s false (λ _. may.no_word p) (λ k _ dead. safe.promise.spent.no_word k p dead) k;
      })
      (record {
        live_is_issued = set_at-each (λ k b. b ≡ true → k < w.numbers.issued) w.numbers.live s false (λ e. absurd (cc)) (λ k _. safe.carriers.numbers.live_is_issued k);
        within = safe.carriers.numbers.within;
        few = safe.carriers.numbers.few;
        kept_is_live = λ k j kept. still_live k j kept;
        joiner_is_live = λ k j kept. still_joiner k j kept;
      })
