-- Which kept line is the next one to run.
use Rattle.std.proofs.Common.{◌≡◌, ◌≢◌, ◌∙◌, ℕ, ◌+◌, ◌≤◌, ◌<◌, suc, zero, Bool, true, false, cond, List, [], ◌∷◌, length, get_or, set, refl, sym, subst, arith, Option, Some, None, below_more, inl, inr}
use Rattle.std.specs.Prelude.{IfNone, IfSome}
use Rattle.std.specs.List.{HoldsAt}
use Rattle.std.specs.Str.{bytes_eq}
use Rattle.std.proofs.lemmas.List.{get_or_default}
use Rattle.std.proofs.lemmas.Slice.Eq.{bytes_eq-Decides}
use Rattle.lock_script.specs.Kept.{AreFirstReady, HaveOneQueue, IsEarlier, IsFirstReady, IsLowest, NoneReady, first_number, lines_of}
use Rattle.lock_script.specs.Names.{IsFree}
use Rattle.lock_script.specs.declared.kept.KeptLine.{KeptLine}
use Rattle.lock_script.specs.declared.kept.KeptQueue.{KeptQueue}
use Rattle.lock_script.specs.declared.sessions.Named.{Named}
use Rattle.lock_script.proofs.Lemmas.Kept.{lines-at}

-- What holds of no lines, and of those of each queue of this session, holds of the session's.
pub of-lines :
    (P : List KeptLine → Type 0) (queues : List KeptQueue) (session : List ℕ) → P [] →
    ((k : ℕ) (d : KeptQueue) → k < length queues → (get_or queues k d).session.bytes ≡ session → P (get_or queues k d).lines.items) → P (lines_of queues session)
of-lines P [] session none each = none
of-lines P (x ∷ queues) session none each =
    go (bytes_eq x.session.bytes session) refl
    (of-lines P queues session none (λ k d within. each (suc k) d (omega (arith, within)))) where
      go : (b : Bool) → bytes_eq x.session.bytes session ≡ b → P (lines_of queues session) → P (cond b x.lines.items (lines_of queues session))
      go true is rest = each 0 x (omega arith) ((bytes_eq-Decides x.session.bytes session).0 is)
      go false is rest = rest

-- No queue is of the session.
pub none-of-free :
    (queues : List KeptQueue) (session : List ℕ) → ((k : ℕ) (d : KeptQueue) → k < length queues → (get_or queues k d).session.bytes ≢ session) →
    lines_of queues session ≡ []
none-of-free queues session free = of-lines (λ lines. lines ≡ []) queues session refl (λ k d within is. absurd (free k d within is))

first-none : (lines : List KeptLine) → first_number lines ≡ None → lines ≡ []
first-none [] none = refl
first-none (x ∷ lines) none = let never : ⊥ = cc in absurd never

first-some : (lines : List KeptLine) (number : ℕ) → first_number lines ≡ Some number → lines ≢ []
first-some [] number first is = let never : ⊥ = cc in never
first-some (x ∷ lines) number first is = let never : ⊥ = cc in never

-- The names of the queues stay where one queue is replaced by another one of its session.
same-name :
    (queues : List KeptQueue) (place i : ℕ) (queue d e : KeptQueue) → place < length queues → queue.session.bytes ≡ (get_or queues place d).session.bytes →
    (get_or (set queues place queue) i e).session.bytes ≡ (get_or queues i e).session.bytes
same-name [] place i queue d e within same = absurd (omega (arith, within))
same-name (x ∷ queues) zero zero queue d e within same = same
same-name (x ∷ queues) zero (suc i) queue d e within same = refl
same-name (x ∷ queues) (suc place) zero queue d e within same = refl
same-name (x ∷ queues) (suc place) (suc i) queue d e within same = same-name queues place i queue d e (omega (arith, within)) same

same-length : (queues : List KeptQueue) (place : ℕ) (queue : KeptQueue) → length (set queues place queue) ≡ length queues
same-length [] place queue = refl
same-length (x ∷ queues) zero queue = refl
same-length (x ∷ queues) (suc place) queue = let rest = same-length queues place queue in omega (arith, rest)

pub one-queue-set :
    (queues : List KeptQueue) (place : ℕ) (queue d : KeptQueue) → place < length queues → queue.session.bytes ≡ (get_or queues place d).session.bytes →
    HaveOneQueue queues → HaveOneQueue (set queues place queue)
one-queue-set queues place queue d within same one i j e before inside is =
    one i j e before (let count = same-length queues place queue in omega (arith, inside, count))
    (sym (same-name queues place i queue d e within same) ∙ (is ∙ same-name queues place j queue d e within same))

pub always-none : {T : Type 0} (P : Type 0) (o : Option T) → P → IfNone o P
always-none P None p = p
always-none P (Some x) p = tt

module _ {W : Type 0} (waiting : List (Named W)) (queues : List KeptQueue) where
  -- Of the first queues, as many as this, the one that was found is the first that is ready.
  abbrev pub IsFirstOf : ℕ → Option (ℕ × ℕ) → Type 0
  IsFirstOf n None =
      (k : ℕ) → k < n → (d : KeptQueue) → IsFree waiting (get_or queues k d).session.bytes → first_number (get_or queues k d).lines.items ≡ None
  IsFirstOf n (Some (place, number)) =
      (place < n) × ((d : KeptQueue) → IsFree waiting (get_or queues place d).session.bytes)
      × ((d : KeptQueue) → first_number (get_or queues place d).lines.items ≡ Some number)
      × ((k : ℕ) → k < n → (d : KeptQueue) → IsFree waiting (get_or queues k d).session.bytes →
      IfSome (first_number (get_or queues k d).lines.items) (λ other. number ≤ other))

  at-place : (n : ℕ) (queue d : KeptQueue) → n < length queues → queue ≡ get_or queues n queue → queue ≡ get_or queues n d
  at-place n queue d within is = is ∙ get_or_default queues n queue d within

  at-least : (number lower : ℕ) (first : Option ℕ) → first ≡ Some number → lower ≤ number → IfSome first (λ other. lower ≤ other)
  at-least number lower first is le = subst (λ (it : Option ℕ). IfSome it (λ other. lower ≤ other)) (sym is) le

  -- The next queue is not ready.
  pub first-skip :
      (n : ℕ) (found : Option (ℕ × ℕ)) (queue : KeptQueue) → n < length queues → queue ≡ get_or queues n queue →
      (IsFree waiting queue.session.bytes → first_number queue.lines.items ≡ None) → IsFirstOf n found → IsFirstOf (n + 1) found
  first-skip n None queue within is none before =
      below_more _ n before (λ (d : KeptQueue). subst (λ (it : KeptQueue). IsFree waiting it.session.bytes → first_number it.lines.items ≡ None)
      (at-place n queue d within is) none)
  first-skip n (Some (place, number)) queue within is none (inside, free, first, lower) = (
    omega (arith, inside),
    free,
    first,
    below_more _ n lower (λ (d : KeptQueue). subst
        (λ (it : KeptQueue). IsFree waiting it.session.bytes → IfSome (first_number it.lines.items) (λ other. number ≤ other))
        (at-place n queue d within is)
        (λ rests. subst (λ (it : Option ℕ). IfSome it (λ other. number ≤ other)) (sym (none rests)) tt)),
  )

  first-here :
      (n number : ℕ) (queue : KeptQueue) → n < length queues → queue ≡ get_or queues n queue → IsFree waiting queue.session.bytes →
      first_number queue.lines.items ≡ Some number →
      ((k : ℕ) → k < n → (d : KeptQueue) → IsFree waiting (get_or queues k d).session.bytes →
      IfSome (first_number (get_or queues k d).lines.items) (λ other. number ≤ other)) → IsFirstOf (n + 1) (Some (n, number))
  first-here n number queue within is free first lower =
      let same : number ≤ number = omega arith in (
        omega arith,
        (λ d. subst (λ (it : KeptQueue). IsFree waiting it.session.bytes) (at-place n queue d within is) free),
        (λ d. subst (λ (it : KeptQueue). first_number it.lines.items ≡ Some number) (at-place n queue d within is) first),
        below_more _ n lower (λ (d : KeptQueue). subst
            (λ (it : KeptQueue). IsFree waiting it.session.bytes → IfSome (first_number it.lines.items) (λ other. number ≤ other))
            (at-place n queue d within is) (λ rests. at-least number number (first_number queue.lines.items) first same)),
      )

  less-than : (number lower : ℕ) (first : Option ℕ) → number ≤ lower → IfSome first (λ other. lower ≤ other) → IfSome first (λ other. number ≤ other)
  less-than number lower None le is = tt
  less-than number lower (Some other) le is = omega (arith, le, is)

  not-some : (number : ℕ) (first : Option ℕ) → first ≡ None → IfSome first (λ other. number ≤ other)
  not-some number first none = subst (λ (it : Option ℕ). IfSome it (λ other. number ≤ other)) (sym none) tt

  -- The next queue is ready.
  pub first-next :
      (n number : ℕ) (found : Option (ℕ × ℕ)) (it : ℕ × ℕ) (queue : KeptQueue) → n < length queues → queue ≡ get_or queues n queue →
      IsFree waiting queue.session.bytes → first_number queue.lines.items ≡ Some number → IsFirstOf n found → IsEarlier found n number it →
      IsFirstOf (n + 1) (Some it)
  first-next n number None it queue within is free first before earlier =
      subst (λ (those : ℕ × ℕ). IsFirstOf (n + 1) (Some those)) (sym earlier)
      (first-here n number queue within is free first (λ k inside d rests. not-some number _ (before k inside d rests)))
  first-next n number (Some (place, lowest)) it queue within is free first (inside, free_, first_, lower) (inl (same, le)) =
      subst (λ (those : ℕ × ℕ). IsFirstOf (n + 1) (Some those)) (sym same) (
        omega (arith, inside),
        free_,
        first_,
        below_more _ n lower (λ (d : KeptQueue). subst
            (λ (it : KeptQueue). IsFree waiting it.session.bytes → IfSome (first_number it.lines.items) (λ other. lowest ≤ other))
            (at-place n queue d within is) (λ rests. at-least number lowest (first_number queue.lines.items) first le)),
      )
  first-next n number (Some (place, lowest)) it queue within is free first (inside, free_, first_, lower) (inr (same, le)) =
      subst (λ (those : ℕ × ℕ). IsFirstOf (n + 1) (Some those)) (sym same)
      (first-here n number queue within is free first (λ k inside_ d rests. less-than number lowest _ le (lower k inside_ d rests)))

  -- All queues were looked at.
  pub first-found : (n place number : ℕ) → length queues ≤ n → IsFirstOf n (Some (place, number)) → AreFirstReady waiting queues (Some place)
  first-found n place number all (inside, free, first, lower) =
      (number, λ d. (free d, first d, λ k e within. lower k (omega (arith, within, all)) e))

  pub none-found : (n : ℕ) → length queues ≤ n → IsFirstOf n None → AreFirstReady waiting queues None
  none-found n all none k e within = none k (omega (arith, within, all)) e

  -- what is so of the lines of each session
  pub lowest-of : (place number : ℕ) (d : KeptQueue) → IsFirstReady waiting queues number (get_or queues place d) → IsLowest queues waiting number
  lowest-of place number d (free, first, each) session rests =
      of-lines (λ lines. IfSome (first_number lines) (λ other. number ≤ other)) queues session tt
      (λ k e within is. each k e within (subst (λ name. IsFree waiting name) (sym is) rests))

  pub none-of : AreFirstReady waiting queues None → NoneReady queues waiting
  none-of none session rests =
      of-lines (λ lines. lines ≡ []) queues session refl
      (λ k e within is. first-none _ (none k e within (subst (λ name. IsFree waiting name) (sym is) rests)))

  -- The lines of the session of the queue that was found are that queue's.
  pub lines-found : (place : ℕ) (d : KeptQueue) → place < length queues → HaveOneQueue queues →
      lines_of queues (get_or queues place d).session.bytes ≡ (get_or queues place d).lines.items
  lines-found place d within one =
      let name = (get_or queues place d).session.bytes in
      lines-at queues place d name name within
      (λ e. subst (λ (it : KeptQueue). it.session.bytes ≡ name) (get_or_default queues place d e within) refl)
      (λ k e before is. one k place e before within (is ∙ subst (λ (it : KeptQueue). name ≡ it.session.bytes) (get_or_default queues place d e within) refl))
      ((bytes_eq-Decides name name).1 refl)

  pub ready-found : (place number : ℕ) (queue : KeptQueue) → place < length queues → HaveOneQueue queues → queue ≡ get_or queues place queue →
      HoldsAt (IsFirstReady waiting queues number) queues place →
      IsFree waiting queue.session.bytes × (first_number (lines_of queues queue.session.bytes) ≡ Some number) × IsLowest queues waiting number
  ready-found place number queue within one is ready =
      let it : IsFirstReady waiting queues number (get_or queues place queue) = ready queue in (
        subst (λ (those : KeptQueue). IsFree waiting those.session.bytes) (sym is) it.0,
        subst (λ (those : KeptQueue). first_number (lines_of queues those.session.bytes) ≡ Some number) (sym is)
            (subst (λ (lines : List KeptLine). first_number lines ≡ Some number) (sym (lines-found place queue within one)) it.1),
        lowest-of place number queue it,
      )

  pub lowest-found : (place number : ℕ) (queue : KeptQueue) → place < length queues → HaveOneQueue queues → queue ≡ get_or queues place queue →
      HoldsAt (IsFirstReady waiting queues number) queues place → IfSome (first_number (lines_of queues queue.session.bytes)) (IsLowest queues waiting)
  lowest-found place number queue within one is ready =
      let found = ready-found place number queue within one is ready in
      subst (λ (it : Option ℕ). IfSome it (IsLowest queues waiting)) (sym found.1) found.2

  pub some-found : (place number : ℕ) (queue : KeptQueue) → place < length queues → HaveOneQueue queues → queue ≡ get_or queues place queue →
      HoldsAt (IsFirstReady waiting queues number) queues place → lines_of queues queue.session.bytes ≢ []
  some-found place number queue within one is ready = first-some _ number (ready-found place number queue within one is ready).1
