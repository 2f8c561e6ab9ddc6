use Rattle.std.proofs.Common.{◌≡◌, ℕ, ◌<◌, ◌≤◌, true, ◌&&◌, Option, Some, refl, sym, ap, ◌∙◌, inl, inr, arith, subst}
use Rattle.std.specs.Prelude.{◌==◌}
use Rattle.std.proofs.lemmas.Bool.{cases_eq, cases_Bool, cond-true, cond-false, and_parts, eqb-true}
use Rattle.modes_core.specs.Tag.{index_of}
use Rattle.lock_table.specs.Put.{set_at}
use Rattle.lock_table.proofs.Lemmas.Put.{set_at-here, set_at-else}
use Rattle.lock_world.specs.Counted.{count_at}
use Rattle.lock_world.specs.World.{World, Loaded}
use Rattle.lock_world.specs.declared.events.Word.{Word}
use Rattle.lock_world.specs.declared.events.Word.TheVariants.{Strong}
use Rattle.lock_world.specs.Happens.Slots.{MayLoad, after_loading, zero_after_reading, after_reading_counter}
use Rattle.lock_world.specs.Safe.{TracesTell}
use Rattle.lock_world.specs.SafeWorld.{SafeWorld, ZeroIsAPermission, tabled}
use Rattle.lock_world.proofs.Lemmas.Safe.Partitions.{live-given}
use Rattle.lock_world.proofs.Lemmas.Traces.{TracesTell-entry}
use Rattle.lock_world.proofs.Lemmas.Counters.Sums.{counter-none, is_past-none}
use Rattle.lock_world.proofs.Lemmas.SafeWorld.Changes.{with_fast_path-safe}
use Rattle.lock_world.proofs.Lemmas.SafeWorld.Beside.{beside-safe_world}

-- A load joins the trace.
loaded-traces : (w : World) (s : ℕ) (word : Word) (n : ℕ) → SafeWorld w → w.numbers.live s ≡ true → TracesTell w.contents (after_loading w s word n).sessions.trace w.numbers.issued
loaded-traces w s word n safe alive =
    TracesTell-entry w.contents w.sessions.trace w.numbers.issued safe.but_slots.traces s (live-given (tabled w) s safe.but_slots alive) (Loaded word n) tt (λ q. refl)

-- Loading a word is safe.
pub loading-safe_world : (w : World) (s : ℕ) (word : Word) (n : ℕ) → SafeWorld w → MayLoad w s word n → SafeWorld (after_loading w s word n)
loading-safe_world w s word n safe may = beside-safe_world w (after_loading w s word n) safe
    (with_fast_path-safe (tabled w) w.words.database w.words.slot w.words.strong w.sessions.counted w.sessions.zero w.sessions.remembered (after_loading w s word n).sessions.trace safe.but_slots
    (loaded-traces w s word n safe may.steps.live))
    safe.lists safe.zero safe.remembered

-- Where a counter is 0 nobody, live or not, has counted anything at its index.
pub nothing-counted : (w : World) → SafeWorld w → (index k : ℕ) → w.words.strong index ≡ 0 → count_at index (w.sessions.counted k) ≡ 0
nothing-counted w safe index k none =
    elim (cases_Bool (w.numbers.live k)) [
      | inl alive ↦
          let given : k < w.numbers.issued = safe.but_slots.table.carriers.numbers.live_is_issued k alive in
          let all : w.numbers.issued ≤ w.numbers.limit = safe.but_slots.table.carriers.numbers.within in
          counter-none w.numbers.limit w.sessions.counted index k (sym (safe.counters.shown index) ∙ none) (omega (arith, given, all))
      | inr dead ↦ ap (count_at index) (safe.order.no_count k dead)
    ]

-- Reading a strong lock counter is safe.
pub reading_counter-safe_world : (w : World) (s index n : ℕ) → SafeWorld w → MayLoad w s (Strong index) n → SafeWorld (after_reading_counter w s index n)
reading_counter-safe_world w s index n safe may = beside-safe_world w (after_reading_counter w s index n) safe
    (with_fast_path-safe (tabled w) w.words.database w.words.slot w.words.strong w.sessions.counted zero' w.sessions.remembered (after_loading w s (Strong index) n).sessions.trace safe.but_slots
    (loaded-traces w s (Strong index) n safe may.steps.live))
    safe.lists
    (elim (cases_Bool ((n == 0) && w.sessions.holds_fast s s)) [
      | inl permits ↦ subst (λ zero. ZeroIsAPermission zero w.sessions.holds_fast w.sessions.counted) (sym (cond-true ((n == 0) && w.sessions.holds_fast s s) set w.sessions.zero permits)) (permitted permits)
      | inr not_permits ↦ subst (λ zero. ZeroIsAPermission zero w.sessions.holds_fast w.sessions.counted) (sym (cond-false ((n == 0) && w.sessions.holds_fast s s) set w.sessions.zero not_permits)) safe.zero
    ])
    safe.remembered where
      set : ℕ → Option ℕ
      set = set_at w.sessions.zero s (Some index)

      zero' : ℕ → Option ℕ
      zero' = zero_after_reading w.sessions.zero w.sessions.holds_fast s index n

      permitted : ((n == 0) && w.sessions.holds_fast s s) ≡ true → ZeroIsAPermission set w.sessions.holds_fast w.sessions.counted
      permitted both =
          let parts = and_parts (n == 0) (w.sessions.holds_fast s s) both in
          let none : w.words.strong index ≡ 0 = sym may.is_shown ∙ eqb-true n 0 parts.0 in
          record {
            holds = λ k i read. elim (cases_eq k s) [
              | inl same ↦ ap (λ j. w.sessions.holds_fast j j) same ∙ parts.1
              | inr other ↦ safe.zero.holds k i (sym (set_at-else w.sessions.zero s (Some index) k other) ∙ read)
            ];
            nobody_is_past = λ k j t read. elim (cases_eq k s) [
              | inl same ↦
                  let found : Some index ≡ Some (index_of t) = sym (set_at-here w.sessions.zero s (Some index) k same) ∙ read in
                  let at_it : index ≡ index_of t = cc in
                  is_past-none (w.sessions.counted j) t k (ap (λ i. count_at i (w.sessions.counted j)) (sym at_it) ∙ nothing-counted w safe index j none)
              | inr other ↦ safe.zero.nobody_is_past k j t (sym (set_at-else w.sessions.zero s (Some index) k other) ∙ read)
            ];
          }
