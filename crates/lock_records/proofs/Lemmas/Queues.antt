use Rattle.std.proofs.Common.{◌≡◌, ◌≢◌, ◌⊎◌, ℕ, ◌+◌, ◌-◌, ◌<◌, ◌≤◌, Bool, true, false, not, ◌&&◌, ◌||◌, ◌==◌, eqb, List, [], ◌∷◌, ◌++◌, length, take, drop, map, Some, None, arith, refl, sym, ap, ◌∙◌, inl, inr}
use Rattle.std.specs.Prelude.{filter, count_by, option_map, if◌then◌else◌}
use Rattle.std.specs.List.{list_any, IsDistinct, AllByRecursion}
use Rattle.std.proofs.lemmas.Bool.{cases_Bool, false≢true, both_ways, eqb-true, eq-eqb, ne_eqb, false_from_ne_true, or_cases, and_parts, and_from, cond-true, cond-false}
use Rattle.std.proofs.lemmas.List.{length-map, take-append-drop}
use Rattle.std.proofs.lemmas.List.Sums.{count_by-le-length}
use Rattle.std.proofs.lemmas.Map.Steps.{length-le_from_distinct_below}
use Rattle.modes_core.specs.declared.modes.Mode.{Mode}
use Rattle.modes_core.specs.Mode.{mode_eq}
use Rattle.modes_core.proofs.Lemmas.Conflicts.{mode_eq-same, mode_eq-refl}
use Rattle.lock_table.specs.Content.{Wait}
use Rattle.modes_core.specs.Conflict.{conflict}
use Rattle.lock_table.specs.Queue.{waits_there, awaits_mode, wait_in, queue_without, joined, some_awaits_conflict}
use Rattle.lock_table.proofs.Lemmas.Put.{put_here, put_else}
use Rattle.lock_table.proofs.Lemmas.Lists.{any-counted, counted-any, any_weaker}
use Rattle.lock_table.proofs.Lemmas.HoldLists.{count_by-cons, count_by-filter, count_by-none}
use Rattle.lock_table.proofs.Lemmas.WaitLists.{count_by-insert}
use Rattle.lock_records.specs.Tally.{one_more, one_less}
use Rattle.lock_records.specs.Counting.{awaited_of}
use Rattle.modes_core.specs.Sessions.{most_sessions}

-- Each session waits once at most.
abbrev pub OneEach : List Wait → Type 0
OneEach queue = (s : ℕ) → count_by (λ wait. wait.session == s) queue ≤ 1

-- A queue in which sessions wait once has no more waits than there are sessions.
none_alike : (x : ℕ) (queue : List Wait) → list_any (λ wait. wait.session == x) queue ≡ false → AllByRecursion (λ y. eqb x y ≡ false) (map (λ wait. wait.session) queue)
none_alike x [] none = tt
none_alike x (w ∷ queue) none =
    elim (cases_Bool (w.session == x)) [
      | inl same ↦ absurd (false≢true (sym none ∙ ap (λ b. b || list_any (λ (wait : Wait). wait.session == x) queue) same))
      | inr other ↦ (
        ne_eqb x w.session (λ e. both_ways _ other (eq-eqb w.session x (sym e))),
        none_alike x queue (sym (ap (λ b. b || list_any (λ (wait : Wait). wait.session == x) queue) other) ∙ none),
      )
    ]

distinct : (queue : List Wait) → OneEach queue → IsDistinct eqb (map (λ wait. wait.session) queue)
unfolding IsDistinct
distinct [] one = tt
distinct (w ∷ queue) one = (none_alike w.session queue none, distinct queue fewer) where
  none : list_any (λ (wait : Wait). wait.session == w.session) queue ≡ false
  none = false_from_ne_true _ (λ any.
      let more : 0 < count_by (λ (wait : Wait). wait.session == w.session) queue = any-counted (λ (wait : Wait). wait.session == w.session) queue any in
      let sum : count_by (λ (wait : Wait). wait.session == w.session) (w ∷ queue) ≡ (if w.session == w.session then 1 else 0) + count_by (λ (wait : Wait). wait.session == w.session) queue =
      count_by-cons (λ (wait : Wait). wait.session == w.session) w queue in
      let own : ◌≡◌ {A = ℕ} (if w.session == w.session then 1 else 0) 1 = rw (eq-eqb w.session w.session refl) refl in
      omega (arith, one w.session))

  fewer : OneEach queue
  fewer s =
      let sum : count_by (λ (wait : Wait). wait.session == s) (w ∷ queue) ≡ (if w.session == s then 1 else 0) + count_by (λ (wait : Wait). wait.session == s) queue =
      count_by-cons (λ (wait : Wait). wait.session == s) w queue in
      omega (arith, one s)

any-sessions : (s : ℕ) (queue : List Wait) → list_any (eqb s) (map (λ wait. wait.session) queue) ≡ true → waits_there queue s ≡ true
any-sessions s [] any = any
any-sessions s (w ∷ queue) any =
    elim (or_cases _ _ any) [
      | inl it ↦ ap (λ b. b || waits_there queue s) (eq-eqb w.session s (sym (eqb-true _ _ it)))
      | inr later ↦ elim (cases_Bool (w.session == s)) [
        | inl own ↦ ap (λ b. b || waits_there queue s) own
        | inr other ↦ ap (λ b. b || waits_there queue s) other ∙ any-sessions s queue later
      ]
    ]

pub queue-short : (queue : List Wait) → OneEach queue → ((s : ℕ) → waits_there queue s ≡ true → s < most_sessions) → length queue ≤ most_sessions
queue-short queue one below =
    let fit = length-le_from_distinct_below (map (λ (wait : Wait). wait.session) queue) most_sessions (distinct queue one) (λ s any. below s (any-sessions s queue any)) in
    let same : length (map (λ (wait : Wait). wait.session) queue) ≡ length queue = length-map queue (λ (wait : Wait). wait.session) in
    omega arith

-- So few wait for a mode that one more can be counted.
pub awaited-few : (queue : List Wait) (m : Mode) → OneEach queue → ((s : ℕ) → waits_there queue s ≡ true → s < most_sessions) → awaited_of queue m ≤ most_sessions
awaited-few queue m one below = omega (arith, count_by-le-length (λ (wait : Wait). mode_eq wait.mode m) queue, queue-short queue one below)

-- A session that awaits a mode waits.
pub awaits-there : (queue : List Wait) (s : ℕ) (m : Mode) → awaits_mode queue s m ≡ true → waits_there queue s ≡ true
awaits-there queue s m any = any_weaker (λ (wait : Wait). (wait.session == s) && mode_eq wait.mode m) (λ (wait : Wait). wait.session == s) queue (λ w both. (and_parts _ _ both).0) any

-- A queue around the session's wait.
pub record IsAround (queue : List Wait) (s : ℕ) (m : Mode) : Type 0 where
  pub front : List Wait
  pub wait : Wait
  pub back : List Wait
  pub parts : queue ≡ front ++ wait ∷ back
  pub left : queue_without queue s ≡ front ++ back
  pub its : wait.session ≡ s
  pub mode : wait.mode ≡ m

without-none : (queue : List Wait) (s : ℕ) → waits_there queue s ≡ false → queue_without queue s ≡ queue
without-none [] s none = refl
without-none (w ∷ queue) s none =
    elim (cases_Bool (w.session == s)) [
      | inl own ↦ absurd (false≢true (sym none ∙ ap (λ b. b || waits_there queue s) own))
      | inr other ↦
          cond-true (not (w.session == s)) (w ∷ queue_without queue s) (queue_without queue s) (ap not other)
          ∙ ap (λ ws. w ∷ ws) (without-none queue s (sym (ap (λ b. b || waits_there queue s) other) ∙ none))
    ]

pub without-nobody : (queue : List Wait) (s : ℕ) → waits_there queue s ≡ false → queue_without queue s ≡ queue
without-nobody = without-none

pub around : (queue : List Wait) (s : ℕ) (m : Mode) → OneEach queue → awaits_mode queue s m ≡ true → IsAround queue s m
around [] s m one any = absurd (false≢true any)
around (w ∷ queue) s m one any =
    elim (cases_Bool (w.session == s)) [
      | inl own ↦ record {
        front = [];
        wait = w;
        back = queue;
        parts = refl;
        left = cond-false (not (w.session == s)) (w ∷ queue_without queue s) (queue_without queue s) (ap not own) ∙ without-none queue s (alone own);
        its = eqb-true _ _ own;
        mode = its own (or_cases _ _ any);
      }
      | inr other ↦
          let later = around queue s m fewer (behind other (or_cases _ _ any)) in
          record {
            front = w ∷ later.front;
            wait = later.wait;
            back = later.back;
            parts = ap (λ ws. w ∷ ws) later.parts;
            left = cond-true (not (w.session == s)) (w ∷ queue_without queue s) (queue_without queue s) (ap not other) ∙ ap (λ ws. w ∷ ws) later.left;
            its = later.its;
            mode = later.mode;
          }
    ] where
      sum : count_by (λ (wait : Wait). wait.session == s) (w ∷ queue) ≡ (if w.session == s then 1 else 0) + count_by (λ (wait : Wait). wait.session == s) queue
      sum = count_by-cons (λ (wait : Wait). wait.session == s) w queue

      alone : (w.session == s) ≡ true → waits_there queue s ≡ false
      alone own = false_from_ne_true _ (λ some.
          let more : 0 < count_by (λ (wait : Wait). wait.session == s) queue = any-counted (λ (wait : Wait). wait.session == s) queue some in
          let one_here : ◌≡◌ {A = ℕ} (if w.session == s then 1 else 0) 1 = rw own refl in
          omega (arith, one s, sum))

      behind : (w.session == s) ≡ false → ((((w.session == s) && mode_eq w.mode m) ≡ true) ⊎ (awaits_mode queue s m ≡ true)) → awaits_mode queue s m ≡ true
      behind other (inl it) = absurd (both_ways _ other (and_parts _ _ it).0)
      behind other (inr later) = later

      its : (w.session == s) ≡ true → ((((w.session == s) && mode_eq w.mode m) ≡ true) ⊎ (awaits_mode queue s m ≡ true)) → w.mode ≡ m
      its own (inl it) = mode_eq-same w.mode m (and_parts _ _ it).1
      its own (inr later) = absurd (both_ways _ (alone own) (awaits-there queue s m later))

      fewer : OneEach queue
      fewer k =
          let all : count_by (λ (wait : Wait). wait.session == k) (w ∷ queue) ≡ (if w.session == k then 1 else 0) + count_by (λ (wait : Wait). wait.session == k) queue =
          count_by-cons (λ (wait : Wait). wait.session == k) w queue in
          omega (arith, one k)

-- The counts of waits by mode, with a wait less and with one more.
pub awaited-without : (queue : List Wait) (s : ℕ) (m : Mode) → IsAround queue s m → (n : Mode) → awaited_of (queue_without queue s) n ≡ one_less (awaited_of queue) m n
awaited-without queue s m at n =
    let all : awaited_of queue n ≡ awaited_of (queue_without queue s) n + (if mode_eq at.wait.mode n then 1 else 0) =
    ap (λ ws. awaited_of ws n) at.parts ∙ count_by-insert (λ (wait : Wait). mode_eq wait.mode n) at.wait at.front at.back
    ∙ ap (λ ws. awaited_of ws n + (if mode_eq at.wait.mode n then 1 else 0)) (sym at.left) in
    elim (cases_Bool (mode_eq n m)) [
      | inl same ↦
          let e : n ≡ m = mode_eq-same n m same in
          let one : ◌≡◌ {A = ℕ} (if mode_eq at.wait.mode n then 1 else 0) 1 =
          ap (λ b. if b then 1 else 0) (ap (λ k. mode_eq k n) (at.mode ∙ sym e) ∙ mode_eq-refl n) in
          let less : awaited_of (queue_without queue s) n ≡ awaited_of queue n - 1 = omega arith in
          less ∙ ap (λ k. awaited_of queue k - 1) e ∙ sym (put_here mode_eq (awaited_of queue) m (awaited_of queue m - 1) n same)
      | inr other ↦
          let none : ◌≡◌ {A = ℕ} (if mode_eq at.wait.mode n then 1 else 0) 0 =
          ap (λ b. if b then 1 else 0) (false_from_ne_true _ (λ it. both_ways _ other (ap (λ k. mode_eq k m) (sym (mode_eq-same at.wait.mode n it) ∙ at.mode) ∙ mode_eq-refl m))) in
          let kept : awaited_of (queue_without queue s) n ≡ awaited_of queue n = omega arith in
          kept ∙ sym (put_else mode_eq (awaited_of queue) m (awaited_of queue m - 1) n other)
    ]

pub awaited-some : (queue : List Wait) (s : ℕ) (m : Mode) → IsAround queue s m → 0 < awaited_of queue m
awaited-some queue s m at =
    let all : awaited_of queue m ≡ awaited_of (at.front ++ at.back) m + (if mode_eq at.wait.mode m then 1 else 0) =
    ap (λ ws. awaited_of ws m) at.parts ∙ count_by-insert (λ (wait : Wait). mode_eq wait.mode m) at.wait at.front at.back in
    let one : ◌≡◌ {A = ℕ} (if mode_eq at.wait.mode m then 1 else 0) 1 = ap (λ b. if b then 1 else 0) (ap (λ k. mode_eq k m) at.mode ∙ mode_eq-refl m) in
    omega arith

-- With none awaited of any mode, nobody waits.
pub queue-empty : (queue : List Wait) → ((m : Mode) → awaited_of queue m ≡ 0) → queue ≡ []
queue-empty [] none = refl
queue-empty (w ∷ queue) none =
    let sum : awaited_of (w ∷ queue) w.mode ≡ (if mode_eq w.mode w.mode then 1 else 0) + awaited_of queue w.mode = count_by-cons (λ (wait : Wait). mode_eq wait.mode w.mode) w queue in
    let one : ◌≡◌ {A = ℕ} (if mode_eq w.mode w.mode then 1 else 0) 1 = ap (λ b. if b then 1 else 0) (mode_eq-refl w.mode) in
    absurd (omega (arith, none w.mode))

pub queue-some : (queue : List Wait) (m : Mode) → 0 < awaited_of queue m → queue ≢ []
queue-some queue m some empty = let none : awaited_of queue m ≡ 0 = ap (λ ws. awaited_of ws m) empty in omega arith

-- What is left of a queue was there.
pub any-filter : (p q : Wait → Bool) (ws : List Wait) → list_any p (filter q ws) ≡ true → list_any p ws ≡ true
any-filter p q ws any =
    let some : 0 < count_by p (filter q ws) = any-counted p (filter q ws) any in
    let fewer : count_by p (filter q ws) ≤ count_by p ws = count_by-filter p q ws in
    counted-any p ws (omega arith)

pub one-each-without : (queue : List Wait) (s : ℕ) → OneEach queue → OneEach (queue_without queue s)
one-each-without queue s one k =
    let fewer : count_by (λ (wait : Wait). wait.session == k) (queue_without queue s) ≤ count_by (λ (wait : Wait). wait.session == k) queue =
    count_by-filter (λ (wait : Wait). wait.session == k) (λ (wait : Wait). not (wait.session == s)) queue in
    omega (arith, one k)

-- A session that left awaits nothing there.
pub awaits-left : (queue : List Wait) (s : ℕ) (m : Mode) → awaits_mode (queue_without queue s) s m ≡ false
awaits-left [] s m = refl
awaits-left (w ∷ queue) s m =
    elim (cases_Bool (w.session == s)) [
      | inl own ↦
          ap (λ ws. awaits_mode ws s m) (cond-false (not (w.session == s)) (w ∷ queue_without queue s) (queue_without queue s) (ap not own)) ∙ awaits-left queue s m
      | inr other ↦
          ap (λ ws. awaits_mode ws s m) (cond-true (not (w.session == s)) (w ∷ queue_without queue s) (queue_without queue s) (ap not other))
          ∙ ap (λ b. (b && mode_eq w.mode m) || awaits_mode (queue_without queue s) s m) other ∙ awaits-left queue s m
    ]

-- A wait that joins.
module _ (queue : List Wait) (place : ℕ) (w : Wait) where
  counted : (p : Wait → Bool) → count_by p (joined place w queue) ≡ count_by p queue + (if p w then 1 else 0)
  counted p = count_by-insert p w (take place queue) (drop place queue) ∙ ap (λ ws. count_by p ws + (if p w then 1 else 0)) (take-append-drop place queue)

  pub awaited-joined : (n : Mode) → awaited_of (joined place w queue) n ≡ one_more (awaited_of queue) w.mode n
  awaited-joined n =
      let all = counted (λ (wait : Wait). mode_eq wait.mode n) in
      elim (cases_Bool (mode_eq n w.mode)) [
        | inl same ↦
            let e : n ≡ w.mode = mode_eq-same n w.mode same in
            all ∙ ap (λ b. awaited_of queue n + (if b then 1 else 0)) (ap (λ k. mode_eq k n) (sym e) ∙ mode_eq-refl n)
            ∙ ap (λ k. awaited_of queue k + 1) e ∙ sym (put_here mode_eq (awaited_of queue) w.mode (awaited_of queue w.mode + 1) n same)
        | inr other ↦
            let none : ◌≡◌ {A = ℕ} (if mode_eq w.mode n then 1 else 0) 0 =
            ap (λ b. if b then 1 else 0) (false_from_ne_true _ (λ it. both_ways _ other (ap (λ k. mode_eq k w.mode) (sym (mode_eq-same w.mode n it)) ∙ mode_eq-refl w.mode))) in
            let kept : awaited_of (joined place w queue) n ≡ awaited_of queue n = omega arith in
            kept ∙ sym (put_else mode_eq (awaited_of queue) w.mode (awaited_of queue w.mode + 1) n other)
      ]

  pub one-each-joined : waits_there queue w.session ≡ false → OneEach queue → OneEach (joined place w queue)
  one-each-joined absent one k =
      let all = counted (λ (wait : Wait). wait.session == k) in
      elim (cases_Bool (w.session == k)) [
        | inl own ↦
            let none : count_by (λ (wait : Wait). wait.session == k) queue ≡ 0 =
            count_by-none (λ (wait : Wait). wait.session == k) queue (ap (waits_there queue) (sym (eqb-true _ _ own)) ∙ absent) in
            let it : ◌≡◌ {A = ℕ} (if w.session == k then 1 else 0) 1 = ap (λ b. if b then 1 else 0) own in
            omega arith
        | inr other ↦
            let it : ◌≡◌ {A = ℕ} (if w.session == k then 1 else 0) 0 = ap (λ b. if b then 1 else 0) other in
            omega (arith, one k)
      ]

  -- Who is there was there, or is the one who joined.
  pub any-joined : (p : Wait → Bool) → list_any p (joined place w queue) ≡ true → (list_any p queue ≡ true) ⊎ (p w ≡ true)
  any-joined p any =
      elim (cases_Bool (p w)) [
        | inl it ↦ inr it
        | inr not_it ↦
            let some : 0 < count_by p (joined place w queue) = any-counted p (joined place w queue) any in
            let all = counted p in
            let none : ◌≡◌ {A = ℕ} (if p w then 1 else 0) 0 = ap (λ b. if b then 1 else 0) not_it in
            inl (counted-any p queue (omega arith))
      ]

  pub joined-some : joined place w queue ≢ []
  joined-some e =
      let all = counted (λ (wait : Wait). true) in
      let none : count_by (λ (wait : Wait). true) (joined place w queue) ≡ 0 = ap (count_by (λ (wait : Wait). true)) e in
      omega arith

-- The session's wait, by its mode.
pub wait-mode : (queue : List Wait) (s : ℕ) (m : Mode) → option_map (λ wait. wait.mode) (wait_in queue s) ≡ Some m → awaits_mode queue s m ≡ true
wait-mode [] s m is = let no_way : ⊥ = cc in absurd no_way
wait-mode (w ∷ queue) s m is =
    elim (cases_Bool (w.session == s)) [
      | inl own ↦
          let found : wait_in (w ∷ queue) s ≡ Some w = cond-true (w.session == s) (Some w) (wait_in queue s) own in
          let mode : Some w.mode ≡ Some m = ap (option_map (λ (wait : Wait). wait.mode)) (sym found) ∙ is in
          let same : w.mode ≡ m = cc in
          ap (λ b. b || awaits_mode queue s m) (and_from _ _ own (ap (λ k. mode_eq k m) same ∙ mode_eq-refl m))
      | inr other ↦
          let found : wait_in (w ∷ queue) s ≡ wait_in queue s = cond-false (w.session == s) (Some w) (wait_in queue s) other in
          ap (λ b. (b && mode_eq w.mode m) || awaits_mode queue s m) other
          ∙ wait-mode queue s m (ap (option_map (λ (wait : Wait). wait.mode)) (sym found) ∙ is)
    ]

pub wait-none : (queue : List Wait) (s : ℕ) → option_map (λ wait. wait.mode) (wait_in queue s) ≡ None → waits_there queue s ≡ false
wait-none [] s is = refl
wait-none (w ∷ queue) s is =
    elim (cases_Bool (w.session == s)) [
      | inl own ↦
          let found : wait_in (w ∷ queue) s ≡ Some w = cond-true (w.session == s) (Some w) (wait_in queue s) own in
          let mode : Some w.mode ≡ None = ap (option_map (λ (wait : Wait). wait.mode)) (sym found) ∙ is in
          let no_way : ⊥ = cc in absurd no_way
      | inr other ↦
          let found : wait_in (w ∷ queue) s ≡ wait_in queue s = cond-false (w.session == s) (Some w) (wait_in queue s) other in
          ap (λ b. b || waits_there queue s) other ∙ wait-none queue s (ap (option_map (λ (wait : Wait). wait.mode)) (sym found) ∙ is)
    ]

-- Whether somebody awaits a mode in conflict, by the counts.
pub none-awaits : (queue : List Wait) (mode : Mode) → ((its : Mode) → conflict mode its ≡ true → awaited_of queue its ≡ 0) → some_awaits_conflict queue mode ≡ false
none-awaits [] mode none = refl
none-awaits (w ∷ queue) mode none =
    elim (cases_Bool (conflict mode w.mode)) [
      | inl hit ↦
          let sum : awaited_of (w ∷ queue) w.mode ≡ (if mode_eq w.mode w.mode then 1 else 0) + awaited_of queue w.mode = count_by-cons (λ (wait : Wait). mode_eq wait.mode w.mode) w queue in
          let one : ◌≡◌ {A = ℕ} (if mode_eq w.mode w.mode then 1 else 0) 1 = ap (λ b. if b then 1 else 0) (mode_eq-refl w.mode) in
          let no : awaited_of (w ∷ queue) w.mode ≡ 0 = none w.mode hit in
          absurd (omega arith)
      | inr free ↦
          ap (λ b. b || some_awaits_conflict queue mode) free
          ∙ none-awaits queue mode (λ its hit.
          let sum : awaited_of (w ∷ queue) its ≡ (if mode_eq w.mode its then 1 else 0) + awaited_of queue its = count_by-cons (λ (wait : Wait). mode_eq wait.mode its) w queue in
          let no : awaited_of (w ∷ queue) its ≡ 0 = none its hit in
          omega arith)
    ]

pub some-awaits : (queue : List Wait) (mode its : Mode) → conflict mode its ≡ true → 0 < awaited_of queue its → some_awaits_conflict queue mode ≡ true
some-awaits queue mode its hit some =
    any_weaker (λ (wait : Wait). mode_eq wait.mode its) (λ (wait : Wait). conflict mode wait.mode) queue (λ w same. ap (conflict mode) (mode_eq-same w.mode its same) ∙ hit) (counted-any (λ (wait : Wait). mode_eq wait.mode its) queue some)
