use Rattle.std.proofs.Common.{◌≡◌, ◌≢◌, ℕ, ◌<◌, true, false, ◌||◌, length, get_or, refl, sym, ap, ◌∙◌, inl}
use Rattle.std.specs.Prelude.{◌==◌}
use Rattle.std.proofs.Math.ListN.{set, length-set}
use Rattle.std.proofs.Math.Bool.{or-true, or-false}
use Rattle.std.proofs.lemmas.Bool.{eq-eqb, ne_eqb}
use Rattle.modes_core.specs.Sessions.{most_sessions}
use Rattle.lock_world.specs.declared.events.Step.TheVariants.{AskCancel, LoadWait}
use Rattle.lock_model.specs.declared.machine.state.Machine.{Machine}
use Rattle.lock_world.specs.WaitWord.{wait_state, asked_word}
use Rattle.lock_world.specs.World.{World}
use Rattle.lock_world.specs.Happens.{Next}
use Rattle.lock_world.specs.Happens.Waits.{after_asking, after_loading_wait}
use Rattle.lock_world.specs.SafeWorld.{SafeWorld}
use Rattle.lock_model.specs.Shows.{Shows, makes_steps}
use Rattle.lock_model.proofs.Lemmas.Follows.Skipped.{skipped}
use Rattle.lock_model.proofs.Lemmas.Shows.Changes.{wait_word-set}
use Rattle.lock_table.proofs.Lemmas.Put.{set_at-same, written-at}
use Rattle.lock_model.proofs.Lemmas.Shows.Looks.{steps_from, steps_not}
use Rattle.lock_model.proofs.Lemmas.Shows.Kept.{table_shown}

-- Asking to cancel, and loading one's own wait word.

module _ (m : Machine) (w : World) (safe : SafeWorld w) (shows : Shows m w) where
  pub was_asked : (s k : ℕ) → makes_steps m s ≡ true → k < most_sessions
      → (v : World) × Next w (record { session = s; step = AskCancel k }) v × Shows (record m { words = record (m.words) { waits = set m.words.waits k (asked_word (get_or m.words.waits k 0)) } }) v
  was_asked s k steps below = (
    after_asking w s k,
    inl (steps_from m w safe shows s steps, refl),
    table_shown shows (after_asking w s k)
        (wait_word-set m.words w.words k _ _ shows.words below (ap asked_word (shows.words.wait k)))
        shows.contents
        shows.waits,
  )

  pub ask_refused : (s k : ℕ) → makes_steps m s ≡ false → (v : World) × Next w (record { session = s; step = AskCancel k }) v × Shows m v
  ask_refused s k no_steps = skipped m w safe shows s (AskCancel k) (λ lawful. steps_not m w safe shows s no_steps lawful.1.0)

  -- A load by which the session sees that its wait was granted.
  pub was_seen : (s n : ℕ) → makes_steps m s ≡ true → n ≡ get_or m.words.waits s 0 → wait_state n ≡ 2 → s < length m.waits.seen
      → (v : World) × Next w (record { session = s; step = LoadWait n }) v × Shows (record m { waits = record (m.waits) { seen = set m.waits.seen s true } }) v
  was_seen s n steps is_word granted in_seen = (
    after_loading_wait w s n,
    inl (record { steps = steps_from m w safe shows s steps; is_word = is_word ∙ shows.words.wait s }, refl),
    table_shown shows (after_loading_wait w s n)
        shows.words
        shows.contents
        (record {
          sixty_four = shows.waits.sixty_four;
          sixty_four_seen = length-set m.waits.seen s true ∙ shows.waits.sixty_four_seen;
          awaited = shows.waits.awaited;
          seen = λ j. written-at (λ own its. own ≡ its) m.waits.seen s true false w.sessions.seen _ in_seen (sym sees) j (shows.waits.seen j);
        }),
  ) where
    sees : (w.sessions.seen s || (wait_state (w.words.wait s) == 2)) ≡ true
    sees = ap (λ b. w.sessions.seen s || b) (eq-eqb (wait_state (w.words.wait s)) 2 (sym (ap wait_state (is_word ∙ shows.words.wait s)) ∙ granted)) ∙ or-true (w.sessions.seen s)

  -- One by which it sees nothing.
  pub was_loaded : (s n : ℕ) → makes_steps m s ≡ true → n ≡ get_or m.words.waits s 0 → wait_state n ≢ 2 → (v : World) × Next w (record { session = s; step = LoadWait n }) v × Shows m v
  was_loaded s n steps is_word not_granted = (
    after_loading_wait w s n,
    inl (record { steps = steps_from m w safe shows s steps; is_word = is_word ∙ shows.words.wait s }, refl),
    table_shown shows (after_loading_wait w s n)
        shows.words
        shows.contents
        (record {
          sixty_four = shows.waits.sixty_four;
          sixty_four_seen = shows.waits.sixty_four_seen;
          awaited = shows.waits.awaited;
          seen = λ j. shows.waits.seen j ∙ ap (λ f. f j) (sym (set_at-same w.sessions.seen s _ sees));
        }),
  ) where
    sees : (w.sessions.seen s || (wait_state (w.words.wait s) == 2)) ≡ w.sessions.seen s
    sees =
        ap (λ b. w.sessions.seen s || b) (ne_eqb (wait_state (w.words.wait s)) 2 (λ e. not_granted (ap wait_state (is_word ∙ shows.words.wait s) ∙ e)))
        ∙ or-false (w.sessions.seen s)

  pub load_refused : (s n : ℕ) → makes_steps m s ≡ false → (v : World) × Next w (record { session = s; step = LoadWait n }) v × Shows m v
  load_refused s n no_steps = skipped m w safe shows s (LoadWait n) (λ lawful. steps_not m w safe shows s no_steps lawful.1.0.steps)

  pub load_of_another : (s n : ℕ) → n ≢ get_or m.words.waits s 0 → (v : World) × Next w (record { session = s; step = LoadWait n }) v × Shows m v
  load_of_another s n another = skipped m w safe shows s (LoadWait n) (λ lawful. another (lawful.1.0.is_word ∙ sym (shows.words.wait s)))
