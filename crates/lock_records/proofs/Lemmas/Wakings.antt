use Rattle.std.proofs.Common.{◌≡◌, ℕ, ◌+◌, ◌<◌, ◌≤◌, Bool, true, false, not, ◌&&◌, ◌==◌, List, [], ◌∷◌, ◌++◌, length, Some, None, slice_get, arith, refl, sym, ap, ◌∙◌, subst, inl, inr, append_assoc}
use Rattle.std.specs.Prelude.{map, count_by, if◌then◌else◌}
use Rattle.std.proofs.lemmas.Bool.{cases_Bool, false_from_ne_true, eq-eqb, and_from, or_left, or_right, cond-true, cond-false}
use Rattle.std.proofs.lemmas.List.{append-nil, map-append}
use Rattle.std.proofs.lemmas.List.Folds.{list_any-append}
use Rattle.modes_core.specs.declared.modes.Mode.{Mode}
use Rattle.modes_core.specs.declared.tags.Tag.{Tag}
use Rattle.modes_core.specs.Mode.{mode_eq}
use Rattle.modes_core.specs.Tag.{tag_eq}
use Rattle.modes_core.proofs.Lemmas.Conflicts.{mode_eq-refl, tag_eq-refl, tag_eq-same}
use Rattle.lock_table.specs.Put.{put}
use Rattle.lock_table.specs.Content.{Holds, Wait, Content, set_hold, add_hold}
use Rattle.lock_table.specs.Clash.{NoConflictingHolder}
use Rattle.lock_table.specs.Queue.{IsFree, SplitsBehind, hold_all, Wakes, waits_there, awaits_mode, queue_without, remove_wait, conflicts_with_some}
use Rattle.lock_table.specs.Waiter.{whose_and_mode}
use Rattle.lock_table.specs.Walk.{StandFor}
use Rattle.lock_table.proofs.Lemmas.Put.{put_here, put_else}
use Rattle.lock_table.proofs.Lemmas.HoldLists.{count_by-cons, count_by-append}
use Rattle.lock_table.proofs.Lemmas.Lists.{any-counted}
use Rattle.lock_records.proofs.Lemmas.Queues.{OneEach, without-nobody}

-- The holds with one wait more among those that became holds.
hold_all-push : (granted : List Wait) (holds : Holds) (t : Tag) (w : Wait) → hold_all holds t (granted ++ w ∷ []) ≡ set_hold (hold_all holds t granted) w.session t w.mode true
hold_all-push [] holds t w = refl
hold_all-push (v ∷ granted) holds t w = hold_all-push granted (set_hold holds v.session t v.mode true) t w

-- How far a wakeup of an object has come from a content: what it is now, which waits of the queue were passed
-- and which are still to come, and whom it woke.
pub record WakingTo (before : Content) (t : Tag) (now : Content) (done todo : List Wait) (woken : List (ℕ × Mode)) : Type 0 where
  pub granted : List Wait
  pub told : woken ≡ map whose_and_mode granted
  pub holds : now.holds ≡ hold_all before.holds t granted
  pub here : now.waits t ≡ done ++ todo
  pub others : (o : Tag) → tag_eq o t ≡ false → now.waits o ≡ before.waits o
  pub queue : (more left : List Wait) → SplitsBehind done now.holds t todo more left → SplitsBehind [] before.holds t (before.waits t) (granted ++ more) (done ++ left)
  pub each : (s : ℕ) → count_by (λ wait. wait.session == s) granted + count_by (λ wait. wait.session == s) (done ++ todo) ≤ 1

pub waking-start : (before : Content) (t : Tag) (woken : List (ℕ × Mode)) → woken ≡ [] → OneEach (before.waits t) → WakingTo before t before [] (before.waits t) woken
waking-start before t woken none each = record {
  granted = [];
  told = none;
  holds = refl;
  here = refl;
  others = λ o other. refl;
  queue = λ more left split. split;
  each = λ s. omega (arith, each s);
}

-- A wait that is not free is passed.
pub waking-stay : (before : Content) (t : Tag) (now : Content) (done todo : List Wait) (w : Wait) (woken : List (ℕ × Mode)) → (IsFree now.holds w.session t w.mode done → ⊥) →
    WakingTo before t now done (w ∷ todo) woken → WakingTo before t now (done ++ w ∷ []) todo woken
waking-stay before t now done todo w woken not_free so_far =
    let all : (done ++ w ∷ []) ++ todo ≡ done ++ w ∷ todo = append_assoc done (w ∷ []) todo in
    record {
      granted = so_far.granted;
      told = so_far.told;
      holds = so_far.holds;
      here = so_far.here ∙ sym all;
      others = so_far.others;
      queue = λ more left split.
          subst (λ stay. SplitsBehind [] before.holds t (before.waits t) (so_far.granted ++ more) stay) (sym (append_assoc done (w ∷ []) left))
          (so_far.queue more (w ∷ left) (inr (not_free, (left, refl, split))));
      each = λ s. rw all (so_far.each s);
    }

-- A queue without the wait between others of other sessions.
without-append : (xs ys : List Wait) (s : ℕ) → queue_without (xs ++ ys) s ≡ queue_without xs s ++ queue_without ys s
without-append [] ys s = refl
without-append (x ∷ xs) ys s =
    elim (cases_Bool (x.session == s)) [
      | inl own ↦
          cond-false (not (x.session == s)) (x ∷ queue_without (xs ++ ys) s) (queue_without (xs ++ ys) s) (ap not own) ∙ without-append xs ys s
          ∙ ap (λ ws. ws ++ queue_without ys s) (sym (cond-false (not (x.session == s)) (x ∷ queue_without xs s) (queue_without xs s) (ap not own)))
      | inr other ↦
          cond-true (not (x.session == s)) (x ∷ queue_without (xs ++ ys) s) (queue_without (xs ++ ys) s) (ap not other) ∙ ap (λ ws. x ∷ ws) (without-append xs ys s)
          ∙ ap (λ ws. ws ++ queue_without ys s) (sym (cond-true (not (x.session == s)) (x ∷ queue_without xs s) (queue_without xs s) (ap not other)))
    ]

module _ (done todo : List Wait) (w : Wait) (one : count_by (λ wait. wait.session == w.session) (done ++ w ∷ todo) ≤ 1) where
  sums : count_by (λ (wait : Wait). wait.session == w.session) done + (1 + count_by (λ (wait : Wait). wait.session == w.session) todo) ≤ 1
  sums =
      let all : count_by (λ (wait : Wait). wait.session == w.session) (done ++ w ∷ todo) ≡ count_by (λ (wait : Wait). wait.session == w.session) done + count_by (λ (wait : Wait). wait.session == w.session) (w ∷ todo) =
      count_by-append (λ (wait : Wait). wait.session == w.session) done (w ∷ todo) in
      let rest : count_by (λ (wait : Wait). wait.session == w.session) (w ∷ todo) ≡ (if w.session == w.session then 1 else 0) + count_by (λ (wait : Wait). wait.session == w.session) todo =
      count_by-cons (λ (wait : Wait). wait.session == w.session) w todo in
      let own : ◌≡◌ {A = ℕ} (if w.session == w.session then 1 else 0) 1 = ap (λ b. if b then 1 else 0) (eq-eqb w.session w.session refl) in
      omega (arith, one)

  alone : (ws : List Wait) → count_by (λ wait. wait.session == w.session) ws ≡ 0 → waits_there ws w.session ≡ false
  alone ws none = false_from_ne_true _ (λ some. let more : 0 < count_by (λ (wait : Wait). wait.session == w.session) ws = any-counted (λ (wait : Wait). wait.session == w.session) ws some in omega arith)

  pub without-middle : queue_without (done ++ w ∷ todo) w.session ≡ done ++ todo
  without-middle =
      let all = sums in
      let front : count_by (λ (wait : Wait). wait.session == w.session) done ≡ 0 = omega arith in
      let back : count_by (λ (wait : Wait). wait.session == w.session) todo ≡ 0 = omega arith in
      without-append done (w ∷ todo) w.session
      ∙ ap (λ ws. ws ++ queue_without (w ∷ todo) w.session) (without-nobody done w.session (alone done front))
      ∙ ap (λ ws. done ++ ws)
      (cond-false (not (w.session == w.session)) (w ∷ queue_without todo w.session) (queue_without todo w.session) (ap not (eq-eqb w.session w.session refl))
      ∙ without-nobody todo w.session (alone todo back))

-- A wait that is free becomes a hold.
pub waking-go : (before : Content) (t : Tag) (now next : Content) (done todo : List Wait) (w : Wait) (woken : List (ℕ × Mode)) → IsFree now.holds w.session t w.mode done →
    next ≡ add_hold (remove_wait now w.session t) w.session t w.mode → WakingTo before t now done (w ∷ todo) woken → WakingTo before t next done todo (woken ++ (w.session, w.mode) ∷ [])
waking-go before t now next done todo w woken free is so_far = record {
  granted = so_far.granted ++ w ∷ [];
  told = ap (λ ones. ones ++ (w.session, w.mode) ∷ []) so_far.told ∙ sym (map-append whose_and_mode so_far.granted (w ∷ []));
  holds = held ∙ ap (λ holds. set_hold holds w.session t w.mode true) so_far.holds ∙ sym (hold_all-push so_far.granted before.holds t w);
  here =
      waits t ∙ put_here tag_eq now.waits t (queue_without (now.waits t) w.session) t (tag_eq-refl t) ∙ ap (λ queue. queue_without queue w.session) so_far.here
      ∙ without-middle done todo w (let all = so_far.each w.session in omega arith);
  others = λ o other. waits o ∙ put_else tag_eq now.waits t (queue_without (now.waits t) w.session) o other ∙ so_far.others o other;
  queue = λ more left split.
      subst (λ granted. SplitsBehind [] before.holds t (before.waits t) granted (done ++ left)) (sym (append_assoc so_far.granted (w ∷ []) more))
      (so_far.queue (w ∷ more) left (inl (free, (more, refl, subst (λ holds. SplitsBehind done holds t todo more left) held split))));
  each = λ s. each s;
} where
  held : next.holds ≡ set_hold now.holds w.session t w.mode true
  held = ap (λ (content : Content). content.holds) is

  waits : (o : Tag) → next.waits o ≡ put tag_eq now.waits t (queue_without (now.waits t) w.session) o
  waits o = ap (λ (content : Content). content.waits o) is

  each : (s : ℕ) → count_by (λ (wait : Wait). wait.session == s) (so_far.granted ++ w ∷ []) + count_by (λ (wait : Wait). wait.session == s) (done ++ todo) ≤ 1
  each s =
      let told : count_by (λ (wait : Wait). wait.session == s) (so_far.granted ++ w ∷ []) ≡ count_by (λ (wait : Wait). wait.session == s) so_far.granted + count_by (λ (wait : Wait). wait.session == s) (w ∷ []) =
      count_by-append (λ (wait : Wait). wait.session == s) so_far.granted (w ∷ []) in
      let its : count_by (λ (wait : Wait). wait.session == s) (w ∷ []) ≡ (if w.session == s then 1 else 0) + 0 = count_by-cons (λ (wait : Wait). wait.session == s) w [] in
      let was : count_by (λ (wait : Wait). wait.session == s) (done ++ w ∷ todo) ≡ count_by (λ (wait : Wait). wait.session == s) done + count_by (λ (wait : Wait). wait.session == s) (w ∷ todo) =
      count_by-append (λ (wait : Wait). wait.session == s) done (w ∷ todo) in
      let rest : count_by (λ (wait : Wait). wait.session == s) (w ∷ todo) ≡ (if w.session == s then 1 else 0) + count_by (λ (wait : Wait). wait.session == s) todo =
      count_by-cons (λ (wait : Wait). wait.session == s) w todo in
      let left : count_by (λ (wait : Wait). wait.session == s) (done ++ todo) ≡ count_by (λ (wait : Wait). wait.session == s) done + count_by (λ (wait : Wait). wait.session == s) todo =
      count_by-append (λ (wait : Wait). wait.session == s) done todo in
      omega (arith, so_far.each s)

-- At the end of the queue the wakeup is whole.
pub waking-end : (before : Content) (t : Tag) (now : Content) (done : List Wait) (woken : List (ℕ × Mode)) → WakingTo before t now done [] woken →
    (granted : List Wait) × Wakes before t granted now × (woken ≡ map whose_and_mode granted)
waking-end before t now done woken all = (
  all.granted,
  record {
    left = done;
    split =
        subst (λ granted. SplitsBehind [] before.holds t (before.waits t) granted done) (append-nil all.granted)
        (subst (λ left. SplitsBehind [] before.holds t (before.waits t) (all.granted ++ []) left) (append-nil done) (all.queue [] [] (refl, refl)));
    holds = all.holds;
    waits = λ i o. at o i;
  },
  all.told,
) where
  at : (o : Tag) → now.waits o ≡ put tag_eq before.waits t done o
  at o =
      elim (cases_Bool (tag_eq o t)) [
        | inl same ↦ ap now.waits (tag_eq-same o t same) ∙ all.here ∙ append-nil done ∙ sym (put_here tag_eq before.waits t done o same)
        | inr other ↦ all.others o other ∙ sym (put_else tag_eq before.waits t done o other)
      ]

-- What stands behind those that were passed.
pub seam : (done todo : List Wait) → slice_get (done ++ todo) (length done) ≡ slice_get todo 0
seam [] todo = refl
seam (w ∷ done) todo = seam done todo

pub behind-some : (todo : List Wait) (w : Wait) → slice_get todo 0 ≡ Some w → (rest : List Wait) × (todo ≡ w ∷ rest)
behind-some [] w is = let no_way : ⊥ = cc in absurd no_way
behind-some (v ∷ rest) w is = (rest, let same : v ≡ w = cc in ap (λ x. x ∷ rest) same)

pub behind-none : (todo : List Wait) → slice_get todo 0 ≡ None → todo ≡ []
behind-none [] is = refl
behind-none (v ∷ rest) is = let no_way : ⊥ = cc in absurd no_way

-- Free by the modes of those that were passed.
pub free-from : (holds : Holds) (s : ℕ) (t : Tag) (m : Mode) (set : Mode → Bool) (done : List Wait) → StandFor set done → (conflicts_with_some m set ≡ false) × NoConflictingHolder holds s t m → IsFree holds s t m done
free-from holds s t m set done stands free = record { beside_holders = free.1; behind_waiters = sym (stands m) ∙ free.0 }

pub not-free-from : (holds : Holds) (s : ℕ) (t : Tag) (m : Mode) (set : Mode → Bool) (done : List Wait) → StandFor set done → (conflicts_with_some m set ≡ false → NoConflictingHolder holds s t m → ⊥) → IsFree holds s t m done → ⊥
not-free-from holds s t m set done stands taken free = taken (stands m ∙ free.behind_waiters) free.beside_holders

pub awaits-middle : (done rest : List Wait) (w : Wait) → awaits_mode (done ++ w ∷ rest) w.session w.mode ≡ true
awaits-middle done rest w =
    list_any-append (λ (wait : Wait). (wait.session == w.session) && mode_eq wait.mode w.mode) done (w ∷ rest)
    ∙ or_right _ _ (or_left _ _ (and_from _ _ (eq-eqb w.session w.session refl) (mode_eq-refl w.mode)))
