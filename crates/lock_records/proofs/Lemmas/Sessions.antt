use Rattle.std.proofs.Common.{◌≡◌, ◌≢◌, ℕ, ◌+◌, ◌<◌, ◌≤◌, Bool, true, false, ◌&&◌, ◌||◌, List, [], ◌∷◌, refl, sym, ap, ◌∙◌, inl, inr, arith}
use Rattle.std.specs.Prelude.{◌==◌, count_by, if◌then◌else◌}
use Rattle.std.proofs.lemmas.Bool.{cases_Bool, false_from_ne_true, and_parts, and_from, or_left, or_right, eq-eqb, eqb-true, cond-true, cond-false}
use Rattle.modes_core.specs.declared.modes.Mode.{Mode}
use Rattle.modes_core.specs.declared.tags.Tag.{Tag}
use Rattle.modes_core.specs.Mode.{mode_eq}
use Rattle.lock_table.specs.Content.{Wait, Content}
use Rattle.lock_table.specs.Queue.{waits_there, awaits_mode}
use Rattle.lock_table.proofs.Lemmas.HoldLists.{count_by-cons}
use Rattle.lock_table.proofs.Lemmas.Lists.{any_weaker, any-counted}
use Rattle.lock_records.specs.declared.counts.Counts.{Counts}
use Rattle.lock_records.specs.Counting.{sessions_below, granted_of, awaited_of}
use Rattle.lock_records.specs.Counts.{AreCountsOf, CountSessions}
use Rattle.lock_records.proofs.Lemmas.GrantedCounts.{below-same, below-more, below-none}
use Rattle.modes_core.specs.Sessions.{most_sessions}

-- As many sessions await a mode as there are waits for it, where each stands in the queue once at most.

neither : (b x : Bool) → ((b && false) || x) ≡ x
neither true x = refl
neither false x = refl

differs : (a b : ℕ) → (b ≢ a) → (a == b) ≡ false
differs a b other = false_from_ne_true (a == b) (λ same. other (sym (eqb-true a b same)))

pub awaited-sessions : (ws : List Wait) (m : Mode) → ((s : ℕ) → count_by (λ w. w.session == s) ws ≤ 1) → ((s : ℕ) → waits_there ws s ≡ true → s < most_sessions)
    → awaited_of ws m ≡ sessions_below most_sessions (λ s. awaits_mode ws s m)
awaited-sessions [] m once within = sym (below-none most_sessions (λ s. awaits_mode [] s m) (λ s _. refl))
awaited-sessions (w ∷ ws) m once within =
    let counted = count_by-cons (λ (x : Wait). mode_eq x.mode m) w ws in
    let rest : awaited_of ws m ≡ sessions_below most_sessions (λ s. awaits_mode ws s m) =
    awaited-sessions ws m
    (λ s. let all = count_by-cons (λ (x : Wait). x.session == s) w ws in let few = once s in omega (arith, all, few))
    (λ s there. within s (or_right (w.session == s) (waits_there ws s) there)) in
    elim (cases_Bool (mode_eq w.mode m)) [
      | inl is ↦
          let one : ◌≡◌ {A = ℕ} (if mode_eq w.mode m then 1 else 0) 1 = cond-true (mode_eq w.mode m) 1 0 is in
          let more : sessions_below most_sessions (λ s. awaits_mode (w ∷ ws) s m) ≡ sessions_below most_sessions (λ s. awaits_mode ws s m) + 1 =
          below-more most_sessions (λ s. awaits_mode ws s m) (λ s. awaits_mode (w ∷ ws) s m) w.session
          (within w.session (or_left (w.session == w.session) (waits_there ws w.session) (eq-eqb w.session w.session refl))) gone
          (or_left ((w.session == w.session) && mode_eq w.mode m) (awaits_mode ws w.session m) (and_from (w.session == w.session) (mode_eq w.mode m) (eq-eqb w.session w.session refl) is))
          (λ s other. sym (ap (λ b. (b && mode_eq w.mode m) || awaits_mode ws s m) (differs w.session s other))) in
          omega (arith, counted, rest, one, more)
      | inr fails ↦
          let zero_here : ◌≡◌ {A = ℕ} (if mode_eq w.mode m then 1 else 0) 0 = cond-false (mode_eq w.mode m) 1 0 fails in
          let same : sessions_below most_sessions (λ s. awaits_mode (w ∷ ws) s m) ≡ sessions_below most_sessions (λ s. awaits_mode ws s m) =
          below-same most_sessions (λ s. awaits_mode (w ∷ ws) s m) (λ s. awaits_mode ws s m)
          (λ s _. ap (λ b. ((w.session == s) && b) || awaits_mode ws s m) fails ∙ neither (w.session == s) (awaits_mode ws s m)) in
          omega (arith, counted, rest, zero_here, same)
    ] where
      gone : awaits_mode ws w.session m ≡ false
      gone = false_from_ne_true (awaits_mode ws w.session m) (λ awaits.
          let there : waits_there ws w.session ≡ true =
          any_weaker (λ (x : Wait). (x.session == w.session) && mode_eq x.mode m) (λ (x : Wait). x.session == w.session) ws (λ x its. (and_parts (x.session == w.session) (mode_eq x.mode m) its).0) awaits in
          let some : 0 < count_by (λ x. x.session == w.session) ws = any-counted (λ (x : Wait). x.session == w.session) ws there in
          let all = count_by-cons (λ (x : Wait). x.session == w.session) w ws in
          let first : ◌≡◌ {A = ℕ} (if w.session == w.session then 1 else 0) 1 = cond-true (w.session == w.session) 1 0 (eq-eqb w.session w.session refl) in
          let few = once w.session in
          absurd (omega (arith, some, all, first, few)))

-- So the counts of an object are how many sessions hold it, and hold or await it.
pub count-sessions : (content : Content) (t : Tag) (counts : Counts) → ((s : ℕ) → count_by (λ w. w.session == s) (content.waits t) ≤ 1)
    → ((s : ℕ) → waits_there (content.waits t) s ≡ true → s < most_sessions) → AreCountsOf content t counts → CountSessions content t counts
count-sessions content t counts once within are = record {
  granted = are.granted;
  requested = λ m. are.requested m ∙ ap (λ n. granted_of content.holds t m + n) (awaited-sessions (content.waits t) m once within);
}
