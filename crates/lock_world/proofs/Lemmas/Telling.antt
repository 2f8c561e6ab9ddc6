use Rattle.std.proofs.Common.{◌≡◌, ◌⊎◌, ℕ, zero, suc, List, [], ◌∷◌, ◌++◌, Some, refl, sym, ap, ◌∙◌, subst, inl, inr}
use Rattle.std.specs.Prelude.{slice_get}
use Rattle.std.proofs.lemmas.Bool.{cases_eq}
use Rattle.lock_world.specs.declared.events.Event.{Event}
use Rattle.lock_world.specs.declared.events.Step.{Step}
use Rattle.lock_world.specs.declared.events.Word.TheVariants.{Wait, Strong}
use Rattle.lock_world.specs.Happens.{Happens, Next, RunsThrough, last_of, HappensStep}
use Rattle.lock_world.specs.Happens.Partitions.{content_taken}
use Rattle.lock_world.specs.World.{World, TraceEntry, Took, Episode, AskedToCancel, Loaded, opening}
use Rattle.lock_world.specs.Telling.{TellsWhatIs}
use Rattle.lock_world.specs.SafeWorld.{SafeWorld}
use Rattle.lock_world.specs.Account.{Account}
use Rattle.lock_table.specs.Put.{set_at}
use Rattle.lock_table.proofs.Lemmas.Put.{set_at-here}
use Rattle.lock_world.proofs.Lemmas.Others.Events.{event-others}
use Rattle.lock_world.proofs.Lemmas.SafeWorld.Runs.{Next-safe}
use Rattle.lock_world.proofs.Lemmas.LawfulSteps.{LawfulStep, world_after, taking_partition, putting_partition, putting_recorded, closing, asking_to_cancel, loading_wait, reading_counter, loading, after_each}

-- What a step makes of the trace of its session: it adds nothing, or one entry, which tells what is; or the
-- session closes, and its trace is forgotten.
abbrev pub AddsAtMostWhatIs : World → ℕ → World → Type 0
AddsAtMostWhatIs w s v =
    (v.sessions.trace s ≡ w.sessions.trace s)
    ⊎ (((entry : TraceEntry) × (v.sessions.trace s ≡ w.sessions.trace s ++ entry ∷ []) × TellsWhatIs w v entry)
    ⊎ (v.sessions.trace s ≡ []))

-- An entry joins the trace of the session.
grown : (w : World) (s : ℕ) (entry : TraceEntry) → set_at w.sessions.trace s (w.sessions.trace s ++ entry ∷ []) s ≡ w.sessions.trace s ++ entry ∷ []
grown w s entry = set_at-here w.sessions.trace s (w.sessions.trace s ++ entry ∷ []) s refl

adds : (w : World) (s : ℕ) (it : LawfulStep w s) → AddsAtMostWhatIs w s (world_after it)
adds w s (taking_partition p may) = inr (inl (Took p (w.contents.now p), grown w s _, refl))
adds w s (putting_partition p done content may) =
    inr (inl (Episode p (content_taken (w.contents.now p) (w.contents.hand p)) content, grown w s _, sym (set_at-here w.contents.now p content p refl)))
adds w s (putting_recorded p done may) =
    inr (inl (Episode p (content_taken (w.contents.now p) (w.contents.hand p)) (w.contents.now p), grown w s _, sym (set_at-here w.contents.now p (w.contents.now p) p refl)))
adds w s (closing may) = inr (inr (set_at-here w.sessions.trace s [] s refl))
adds w s (asking_to_cancel o steps) = inr (inl (AskedToCancel o (w.words.wait o), grown w s _, refl))
adds w s (loading_wait n may) = inr (inl (Loaded (Wait s) n, grown w s _, may.is_word))
adds w s (reading_counter i n may) = inr (inl (Loaded (Strong i) n, grown w s _, may.is_shown))
adds w s (loading word n may) = inr (inl (Loaded word n, grown w s _, may.is_shown))
adds w s step = inl refl

adds-step : (w : World) (s : ℕ) (step : Step) (v : World) → HappensStep w s step v → AddsAtMostWhatIs w s v
adds-step w s = after_each w s (λ _ v. AddsAtMostWhatIs w s v) (adds w s)

pub not-none : {A : Type 0} (before : List A) (x : A) (after : List A) → [] ≡ before ++ x ∷ after → ⊥
not-none [] x after none = absurd (cc (none))
not-none (c ∷ before) x after none = absurd (cc (none))

-- Where a step adds an entry, that tells what is.
no-longer : {A : Type 0} (xs : List A) (x : A) → xs ≡ xs ++ x ∷ [] → ⊥
no-longer [] x e = absurd (cc (e))
no-longer (y ∷ xs) x e = let rest : xs ≡ xs ++ x ∷ [] = cc (e) in no-longer xs x rest

one-last : {A : Type 0} (xs : List A) (x y : A) → xs ++ x ∷ [] ≡ xs ++ y ∷ [] → x ≡ y
one-last [] x y e = cc (e)
one-last (z ∷ xs) x y e = let rest : xs ++ x ∷ [] ≡ xs ++ y ∷ [] = cc (e) in one-last xs x y rest

pub added-tells : (w v : World) (event : Event) (entry : TraceEntry) → Happens w event v
    → v.sessions.trace event.session ≡ w.sessions.trace event.session ++ entry ∷ [] → TellsWhatIs w v entry
added-tells w v event entry h grown =
    elim (adds-step w event.session event.step v h) [
      | inl same ↦ absurd (no-longer (w.sessions.trace event.session) entry (sym same ∙ grown))
      | inr (inl added) ↦ subst (TellsWhatIs w v) (one-last (w.sessions.trace event.session) added.0 entry (sym added.1 ∙ grown)) added.2
      | inr (inr gone) ↦ absurd (not-none (w.sessions.trace event.session) entry [] (sym gone ∙ grown))
    ]

-- What comes next adds as much to the trace of any session.
next-adds : (w : World) (event : Event) (v : World) (s : ℕ) → SafeWorld w → Next w event v → AddsAtMostWhatIs w s v
next-adds w event v s safe (inr h) = inl (ap (λ (z : World). z.sessions.trace s) h.1)
next-adds w event v s safe (inl h) =
    elim (cases_eq s event.session) [
      | inl same ↦ subst (λ k. AddsAtMostWhatIs w k v) (sym same) (adds-step w event.session event.step v h)
      | inr other ↦ inl (ap (λ (a : Account). a.trace) (event-others w v event s safe h other).account)
    ]

-- An entry in a list with one more at its end stands before that, or is it.
split-push : {A : Type 0} (xs : List A) (last : A) (before : List A) (x : A) (after : List A) → xs ++ last ∷ [] ≡ before ++ x ∷ after
    → ((xs ≡ before) × (last ≡ x)) ⊎ ((rest : List A) × (xs ≡ before ++ x ∷ rest))
split-push [] last [] x after e = inl (refl, cc (e))
split-push [] last (b ∷ before) x after e = absurd (not-none before x after (cc (e)))
split-push (y ∷ xs) last [] x after e = let same : y ≡ x = cc (e) in inr (xs, ap (λ z. z ∷ xs) same)
split-push (y ∷ xs) last (b ∷ before) x after e =
    let same : y ≡ b = cc (e) in
    let rest : xs ++ last ∷ [] ≡ before ++ x ∷ after = cc (e) in
    elim (split-push xs last before x after rest) [
      | inl here ↦ inl (ap (λ z. z ∷ xs) same ∙ ap (λ z. b ∷ z) here.0, here.1)
      | inr old ↦ inr (old.0, ap (λ z. z ∷ xs) same ∙ ap (λ z. b ∷ z) old.1)
    ]

-- The entry stood in the session's trace before the run, or tells what is in a World on the way, where the
-- trace was just what stands before the entry, and in the next one.
abbrev pub WasTold : World → List World → ℕ → List TraceEntry → TraceEntry → Type 0
WasTold w worlds s before entry =
    (place : ℕ) × (u : World) × (next : World) × (slice_get (w ∷ worlds) place ≡ Some u) × (slice_get worlds place ≡ Some next)
    × (u.sessions.trace s ≡ before) × TellsWhatIs u next entry

pub told-or-stood :
    (w : World) (events : List Event) (worlds : List World) (s : ℕ) (before after : List TraceEntry) (entry : TraceEntry) → SafeWorld w → RunsThrough w events worlds
    → (last_of w worlds).sessions.trace s ≡ before ++ entry ∷ after
    → ((rest : List TraceEntry) × (w.sessions.trace s ≡ before ++ entry ∷ rest)) ⊎ WasTold w worlds s before entry
told-or-stood w [] [] s before after entry safe run stands = inl (after, stands)
told-or-stood w [] (u ∷ worlds) s before after entry safe run stands = absurd run
told-or-stood w (event ∷ events) [] s before after entry safe run stands = absurd run
told-or-stood w (event ∷ events) (u ∷ worlds) s before after entry safe run stands =
    elim (told-or-stood u events worlds s before after entry (Next-safe w event u safe run.0) run.1 stands) [
      | inr later ↦ inr (suc later.0, later.1, later.2, later.3, later.4, later.5, later.6)
      | inl stood ↦ elim (next-adds w event u s safe run.0) [
        | inl same ↦ inl (stood.0, sym same ∙ stood.1)
        | inr (inl added) ↦ elim (split-push (w.sessions.trace s) added.0 before entry stood.0 (sym added.1 ∙ stood.1)) [
          | inl here ↦ inr (zero, w, u, refl, refl, here.0, subst (TellsWhatIs w u) here.1 added.2)
          | inr old ↦ inl old
        ]
        | inr (inr gone) ↦ absurd (not-none before entry stood.0 (sym gone ∙ stood.1))
      ]
    ]

pub each-told :
    (limit groups : ℕ) (events : List Event) (worlds : List World) (s : ℕ) (before after : List TraceEntry) (entry : TraceEntry) → SafeWorld (opening limit groups)
    → RunsThrough (opening limit groups) events worlds → (last_of (opening limit groups) worlds).sessions.trace s ≡ before ++ entry ∷ after
    → WasTold (opening limit groups) worlds s before entry
each-told limit groups events worlds s before after entry safe run stands =
    elim (told-or-stood (opening limit groups) events worlds s before after entry safe run stands) [
      | inl stood ↦ absurd (not-none before entry stood.0 stood.1)
      | inr told ↦ told
    ]
