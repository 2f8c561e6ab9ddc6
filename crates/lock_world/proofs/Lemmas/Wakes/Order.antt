use Rattle.std.proofs.Common.{◌≡◌, ◌≢◌, ◌⊎◌, ℕ, ◌<◌, Bool, true, false, Option, Some, refl, sym, ap, ◌∙◌, subst, inl, inr}
use Rattle.std.specs.Prelude.{◌==◌, if◌then◌else◌}
use Rattle.std.proofs.lemmas.Bool.{cases_eq, eq-eqb, ne_eqb, cond-true, cond-false}
use Rattle.lock_table.specs.Put.{set_at}
use Rattle.lock_table.proofs.Lemmas.Put.{set_at-here, set_at-else, row-else}
use Rattle.lock_world.specs.declared.events.Step.{Step}
use Rattle.lock_world.specs.World.{World}
use Rattle.lock_world.specs.WaitLists.{partition_lock, fast_lock, after_seeing_none}
use Rattle.lock_world.specs.Happens.{HappensStep}
use Rattle.lock_world.specs.Happens.Lists.{sleepers}
use Rattle.lock_world.specs.Wakes.Waking.{OrderIsKept, rank}
use Rattle.lock_world.specs.Wakes.Owing.{Duties, lock_row, waking, HasIn, IsEarlier, IsLatest, AsksInOrder}
use Rattle.lock_world.proofs.Lemmas.Wakes.Readings.{some-same, row-away, row-less, not-set}
use Rattle.lock_world.proofs.Lemmas.Wakes.Rows.{row-set_partition, row-set_fast}
use Rattle.lock_world.proofs.Lemmas.Wakes.Steps.{first, second, with_lock}
use Rattle.lock_world.proofs.Lemmas.LawfulSteps.{LawfulStep, step_of, world_after, taking_partition, taking_fast, sharing_partition, sharing_fast, putting_partition, putting_recorded, putting_fast, passing, unsharing_partition, unsharing_fast, joining_list, leaving_list, loading_sleep, after_each}

-- Each step that keeps to the order of lightweight locks leaves it kept.

-- Nobody stands for a lock that is not later than one it has: of accounts alone.
pub record IsKept (stands : ℕ → Option ℕ) (has : ℕ → ℕ → Type 0) : Type 0 where
  pub rising : (k l h : ℕ) → stands k ≡ Some l → has k h → (rank h < rank l) ⊎ (h ≡ l)
  pub bound : (k l : ℕ) → stands k ≡ Some l → rank l < 17

abbrev pub Kept : World → Type 0
Kept w = IsKept w.sessions.stands (HasIn w)

pub kept-order : (w : World) (x : Duties) → Kept w → OrderIsKept (waking w x)
kept-order w x kept = record { rising = kept.rising; bound = kept.bound }

-- The order stays kept where nobody is in another list, and nobody has another lock.
fewer : (w u : World) → Kept w → ((k l : ℕ) → u.sessions.stands k ≡ Some l → w.sessions.stands k ≡ Some l) → ((k l : ℕ) → HasIn u k l → HasIn w k l) → Kept u
fewer w u kept stood had = record {
  rising = λ k l h stands has. kept.rising k l h (stood k l stands) (had k h has);
  bound = λ k l stands. kept.bound k l (stood k l stands);
}

-- Or where one lock is had besides, which is earlier than what its session stands for.
more : (w u : World) (s lock : ℕ) → Kept w → IsEarlier w s lock → ((k l : ℕ) → u.sessions.stands k ≡ Some l → w.sessions.stands k ≡ Some l)
    → ((k l : ℕ) → HasIn u k l → HasIn w k l ⊎ ((k ≡ s) × (l ≡ lock))) → Kept u
more w u s lock kept earlier stood had = record {
  rising = λ k l h stands has. elim (had k h has) [
    | inl was ↦ kept.rising k l h (stood k l stands) was
    | inr new ↦ subst (λ j. (rank j < rank l) ⊎ (j ≡ l)) (sym new.1) (earlier l (ap w.sessions.stands (sym new.0) ∙ stood k l stands))
  ];
  bound = λ k l stands. kept.bound k l (stood k l stands);
}

with-one : (f : ℕ → ℕ → Bool) (s lock k l : ℕ) → with_lock f s lock true k l ≡ true → (f k l ≡ true) ⊎ ((k ≡ s) × (l ≡ lock))
with-one f s lock k l has = elim (cases_eq k s) [
  | inr other ↦ inl (sym (row-else f s lock true k l other) ∙ has)
  | inl same ↦ elim (cases_eq l lock) [
    | inl it ↦ inr (same, it)
    | inr away ↦ inl (sym (row-away f s lock true k l away) ∙ has)
  ]
]

first-or : (A B C D : Type 0) → (A → C ⊎ D) → A ⊎ B → (C ⊎ B) ⊎ D
first-or A B C D f (inr b) = inl (inr b)
first-or A B C D f (inl a) = elim (f a) [
  | inl c ↦ inl (inl c)
  | inr d ↦ inr d
]

second-or : (A B C D : Type 0) → (B → C ⊎ D) → A ⊎ B → (A ⊎ C) ⊎ D
second-or A B C D f (inl a) = inl (inl a)
second-or A B C D f (inr b) = elim (f b) [
  | inl c ↦ inl (inr c)
  | inr d ↦ inr d
]

less-partition : (p f : ℕ → ℕ → Bool) (s q k l : ℕ) → lock_row (set_at p s (set_at (p s) q false)) f k l ≡ true → lock_row p f k l ≡ true
less-partition p f s q k l has = row-less (lock_row p f) s (partition_lock q) k l (sym (ap (λ r. r k l) (row-set_partition p f s q false)) ∙ has)

less-fast : (p f : ℕ → ℕ → Bool) (s o k l : ℕ) → lock_row p (set_at f s (set_at (f s) o false)) k l ≡ true → lock_row p f k l ≡ true
less-fast p f s o k l has = row-less (lock_row p f) s (fast_lock o) k l (sym (ap (λ r. r k l) (row-set_fast p f s o false)) ∙ has)

more-partition : (p f : ℕ → ℕ → Bool) (s q k l : ℕ) → lock_row (set_at p s (set_at (p s) q true)) f k l ≡ true → (lock_row p f k l ≡ true) ⊎ ((k ≡ s) × (l ≡ partition_lock q))
more-partition p f s q k l has = with-one (lock_row p f) s (partition_lock q) k l (sym (ap (λ r. r k l) (row-set_partition p f s q true)) ∙ has)

more-fast : (p f : ℕ → ℕ → Bool) (s o k l : ℕ) → lock_row p (set_at f s (set_at (f s) o true)) k l ≡ true → (lock_row p f k l ≡ true) ⊎ ((k ≡ s) × (l ≡ fast_lock o))
more-fast p f s o k l has = with-one (lock_row p f) s (fast_lock o) k l (sym (ap (λ r. r k l) (row-set_fast p f s o true)) ∙ has)

module _ (w : World) (s : ℕ) (kept : Kept w) where
  -- a session that looks whether it is told of its wait stands in no other list
  stands-after_looking : (n k l : ℕ) → (if n == 0 then after_seeing_none (sleepers w) s else sleepers w).stands k ≡ Some l → w.sessions.stands k ≡ Some l
  stands-after_looking n k l e = elim (cases_eq n 0) [
    | inl none ↦ not-set w.sessions.stands s k l (ap (λ a. a.stands k) (sym (cond-true (n == 0) (after_seeing_none (sleepers w) s) (sleepers w) (eq-eqb n 0 none))) ∙ e)
    | inr some ↦ ap (λ a. a.stands k) (sym (cond-false (n == 0) (after_seeing_none (sleepers w) s) (sleepers w) (ne_eqb n 0 some))) ∙ e
  ]

  -- Most steps leave each session in the list where it stands, with no more locks.
  less : (it : LawfulStep w s) → ((k l : ℕ) → (world_after it).sessions.stands k ≡ Some l → w.sessions.stands k ≡ Some l) → ((k l : ℕ) → HasIn (world_after it) k l → HasIn w k l)
      → Kept (world_after it)
  less it stood had = fewer w (world_after it) kept stood had

  -- One lock more, which is earlier than what the session stands for.
  taken : (it : LawfulStep w s) (lock : ℕ) → IsEarlier w s lock → ((k l : ℕ) → (world_after it).sessions.stands k ≡ Some l → w.sessions.stands k ≡ Some l)
      → ((k l : ℕ) → HasIn (world_after it) k l → HasIn w k l ⊎ ((k ≡ s) × (l ≡ lock))) → Kept (world_after it)
  taken it lock earlier stood had = more w (world_after it) s lock kept earlier stood had

  -- Joining a list with earlier locks alone.
  joining-order : (lock : ℕ) → IsLatest w s lock → (u : World) → ((k : ℕ) → u.sessions.stands k ≡ set_at w.sessions.stands s (Some lock) k)
      → ((k l : ℕ) → HasIn u k l → HasIn w k l) → Kept u
  joining-order lock latest u stood had = record {
    rising = λ k l h stands has. elim (cases_eq k s) [
      | inl it ↦ inl (subst (λ j. rank h < rank j) (its k l it stands) (latest.earlier h (subst (λ j. HasIn w j h) it (had k h has))))
      | inr other ↦ kept.rising k l h (before k l other stands) (had k h has)
    ];
    bound = λ k l stands. elim (cases_eq k s) [
      | inl it ↦ subst (λ j. rank j < 17) (its k l it stands) latest.bound
      | inr other ↦ kept.bound k l (before k l other stands)
    ];
  } where
    its : (k l : ℕ) → k ≡ s → u.sessions.stands k ≡ Some l → lock ≡ l
    its k l it stands = some-same lock l (sym (set_at-here w.sessions.stands s (Some lock) k it) ∙ sym (stood k) ∙ stands)

    before : (k l : ℕ) → k ≢ s → u.sessions.stands k ≡ Some l → w.sessions.stands k ≡ Some l
    before k l other stands = sym (set_at-else w.sessions.stands s (Some lock) k other) ∙ sym (stood k) ∙ stands

  order : (it : LawfulStep w s) → AsksInOrder w s (step_of it) → Kept (world_after it)
  order (taking_partition p may) earlier = taken (taking_partition p may) (partition_lock p) earlier (λ k l e. e)
      (λ k l has. first-or _ _ _ _ (more-partition w.sessions.holds_partition w.sessions.holds_fast s p k l) has)
  order (taking_fast o may) earlier = taken (taking_fast o may) (fast_lock o) earlier (λ k l e. e)
      (λ k l has. first-or _ _ _ _ (more-fast w.sessions.holds_partition w.sessions.holds_fast s o k l) has)
  order (sharing_partition p exists may) earlier = taken (sharing_partition p exists may) (partition_lock p) earlier (λ k l e. e)
      (λ k l has. second-or _ _ _ _ (more-partition w.sessions.shares_partition w.sessions.shares_fast s p k l) has)
  order (sharing_fast o exists may) earlier = taken (sharing_fast o exists may) (fast_lock o) earlier (λ k l e. e)
      (λ k l has. second-or _ _ _ _ (more-fast w.sessions.shares_partition w.sessions.shares_fast s o k l) has)
  order (putting_partition p done content may) asks = less (putting_partition p done content may) (λ k l e. e) (λ k l has. first _ _ _ (less-partition w.sessions.holds_partition w.sessions.holds_fast s p k l) has)
  order (putting_recorded p done may) asks = less (putting_recorded p done may) (λ k l e. e) (λ k l has. first _ _ _ (less-partition w.sessions.holds_partition w.sessions.holds_fast s p k l) has)
  order (putting_fast o may) asks = less (putting_fast o may) (λ k l e. e) (λ k l has. first _ _ _ (less-fast w.sessions.holds_partition w.sessions.holds_fast s o k l) has)
  order (passing o t m may) asks = less (passing o t m may) (λ k l e. e) (λ k l has. first _ _ _ (less-fast w.sessions.holds_partition w.sessions.holds_fast s o k l) has)
  order (unsharing_partition p may) asks = less (unsharing_partition p may) (λ k l e. e) (λ k l has. second _ _ _ (less-partition w.sessions.shares_partition w.sessions.shares_fast s p k l) has)
  order (unsharing_fast o may) asks = less (unsharing_fast o may) (λ k l e. e) (λ k l has. second _ _ _ (less-fast w.sessions.shares_partition w.sessions.shares_fast s o k l) has)
  order (joining_list mode lock may) asks = joining-order lock (asks lock may.has.in_hand) (world_after (joining_list mode lock may)) (λ k. refl) (λ k l has. has)
  order (leaving_list lock may) asks = less (leaving_list lock may) (λ k l e. not-set w.sessions.stands s k l e) (λ k l has. has)
  order (loading_sleep n may) asks = less (loading_sleep n may) (stands-after_looking n) (λ k l has. has)
  order step asks = kept

  pub step-order : (step : Step) (v : World) → HappensStep w s step v → AsksInOrder w s step → Kept v
  step-order = after_each w s (λ step v. AsksInOrder w s step → Kept v) order
