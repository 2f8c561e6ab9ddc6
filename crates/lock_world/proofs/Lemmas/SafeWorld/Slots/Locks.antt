use Rattle.std.proofs.Common.{◌≡◌, ◌≢◌, ℕ, Bool, true, false, Option, Some, None, sym, ap, ◌∙◌, inl, inr}
use Rattle.std.specs.Prelude.{◌==◌}
use Rattle.std.proofs.lemmas.Bool.{cases_eq, cond-true, cond-false, eq-eqb, ne_eqb}
use Rattle.lock_table.specs.Put.{set_at}
use Rattle.lock_table.proofs.Lemmas.Put.{set_at-here, set_at-else, row-else}
use Rattle.lock_world.specs.World.{World}
use Rattle.lock_world.specs.Happens.Slots.{MayTakeFast, after_taking_fast, MayPutFast, zero_after_putting, after_putting_fast}
use Rattle.lock_world.specs.SafeWorld.{SafeWorld, tabled}
use Rattle.lw_word.specs.LightweightWord.{taken_word, put_word}
use Rattle.lw_word.proofs.Lemmas.Words.{taken_word-flags, put_word-flags}
use Rattle.lock_world.specs.Happens.Lists.{sleepers}
use Rattle.lock_world.proofs.Lemmas.ListWords.{flags-fast}
use Rattle.lock_world.proofs.Lemmas.Slots.Remembered.{remembered-seen}
use Rattle.lock_world.proofs.Lemmas.Safe.Slots.{taking_fast-safe, putting_fast-safe}
use Rattle.lock_world.proofs.Lemmas.SafeWorld.Beside.{beside-safe_world}

-- A session that takes one more lock has those it had.
holds-taken : (holds : ℕ → ℕ → Bool) (s o k : ℕ) → holds k k ≡ true → set_at holds s (set_at (holds s) o true) k k ≡ true
holds-taken holds s o k has =
    elim (cases_eq k s) [
      | inl same ↦ ap (λ row. row k) (set_at-here holds s (set_at (holds s) o true) k same) ∙ elim (cases_eq k o) [
        | inl here ↦ set_at-here (holds s) o true k here
        | inr other ↦ set_at-else (holds s) o true k other ∙ ap (λ j. holds j k) (sym same) ∙ has
      ]
      | inr other ↦ row-else holds s o true k k other ∙ has
    ]

-- Taking the lock of a session's fast-path slots is safe.
pub taking_fast-safe_world : (w : World) (s o : ℕ) → SafeWorld w → MayTakeFast w s o → SafeWorld (after_taking_fast w s o)
taking_fast-safe_world w s o safe may = beside-safe_world w (after_taking_fast w s o) safe
    (taking_fast-safe (tabled w) s o safe.but_slots (record { steps = may.steps; exists = may.exists; free = may.free }))
    (flags-fast w.words.partition w.words.fast (sleepers w) w.sessions.has_list w.numbers.live safe.lists o (taken_word (w.words.fast o)) (taken_word-flags (w.words.fast o) may.free))
    (record {
      holds = λ k index read. holds-taken w.sessions.holds_fast s o k (safe.zero.holds k index read);
      nobody_is_past = safe.zero.nobody_is_past;
    })
    (remembered-seen w.words.slot w.sessions.remembered s o safe.remembered)

-- A counter read as 0 is what was read before the lock was put, and it was not the reader's own lock.
pub zero-after : (zero : ℕ → Option ℕ) (s o k index : ℕ) → zero_after_putting zero s o k ≡ Some index → (zero k ≡ Some index) × ((k ≡ s) → k ≢ o)
zero-after zero s o k index read =
    elim (cases_eq o s) [
      | inl own ↦
          let set : zero_after_putting zero s o ≡ set_at zero s None = cond-true (o == s) (set_at zero s None) zero (eq-eqb o s own) in
          elim (cases_eq k s) [
            | inl same ↦ absurd (none (sym (ap (λ z. z k) set ∙ set_at-here zero s None k same) ∙ read))
            | inr other ↦ (sym (set_at-else zero s None k other) ∙ sym (ap (λ z. z k) set) ∙ read, λ same. absurd (other same))
          ]
      | inr other ↦
          (sym (ap (λ z. z k) (cond-false (o == s) (set_at zero s None) zero (ne_eqb o s other))) ∙ read, λ same here. other (sym here ∙ same))
    ] where
      none : None ≡ Some index → ⊥
      none e = absurd (cc)

-- Putting it is safe.
pub holds-put : (holds : ℕ → ℕ → Bool) (s o k : ℕ) → ((k ≡ s) → k ≢ o) → holds k k ≡ true → set_at holds s (set_at (holds s) o false) k k ≡ true
holds-put holds s o k another has =
    elim (cases_eq k s) [
      | inl same ↦ ap (λ row. row k) (set_at-here holds s (set_at (holds s) o false) k same) ∙ set_at-else (holds s) o false k (another same) ∙ ap (λ j. holds j k) (sym same) ∙ has
      | inr other ↦ row-else holds s o false k k other ∙ has
    ]

pub putting_fast-safe_world : (w : World) (s o : ℕ) → SafeWorld w → MayPutFast w s o → SafeWorld (after_putting_fast w s o)
putting_fast-safe_world w s o safe may = beside-safe_world w (after_putting_fast w s o) safe
    (putting_fast-safe (tabled w) s o safe.but_slots (record { steps = may.steps; holding = may.holding }))
    (flags-fast w.words.partition w.words.fast (sleepers w) w.sessions.has_list w.numbers.live safe.lists o (put_word (w.words.fast o))
    (put_word-flags (w.words.fast o) ((safe.but_slots.locks.fast_words o).held_is_shown s may.holding)))
    (record {
      holds = λ k index read. let before = zero-after w.sessions.zero s o k index read in holds-put w.sessions.holds_fast s o k before.1 (safe.zero.holds k index before.0);
      nobody_is_past = λ k j t read. safe.zero.nobody_is_past k j t (zero-after w.sessions.zero s o k _ read).0;
    })
    safe.remembered
