use Rattle.std.proofs.Common.{◌≡◌, ℕ, Bool, true, false, Option, Some, None, refl, sym, ap, ◌∙◌, inl, inr, ◌≢◌, List, subst}
use Rattle.std.proofs.lemmas.Bool.{cases_eq, both_ways, false_from_ne_true, eq-eqb, ne_eqb, and_parts}
use Rattle.lock_world.specs.World.{World, Hand, TraceEntry, recorded_in}
use Rattle.lock_table.specs.Put.{set_at}
use Rattle.lock_world.specs.Happens.Partitions.{MayTakePartition, after_taking_partition, MayPutPartition, after_putting_partition, WaitIsOver, MayPutRecorded, after_putting_recorded, own_after}
use Rattle.lock_world.specs.Safe.{TableIsSafe, is_hand_of, stage_by_hand, HandsAreHolders, is_leave_of}
use Rattle.lock_table.proofs.Lemmas.Put.{set_at-here, set_at-else, column-here, column-else, row-else, set_at-same}
use Rattle.lock_world.proofs.Lemmas.Words.Holders.{ShowsHolders-taken, WordsShowHolders-set, free-not_held, ShowsHolders-put}
use Rattle.lock_world.proofs.Lemmas.Waits.Stages.{hand-unrecorded, nobody's, hand-queued}
use Rattle.lock_world.proofs.Lemmas.Waits.Shown.{WaitsAreSafe, shows_from}
use Rattle.lock_world.proofs.Lemmas.Waits.Steps.{quiet_hand-safe, made_by_putting-safe}
use Rattle.lock_world.proofs.Lemmas.Waits.Group.{waits_of, SpentHaveNothing-own}
use Rattle.std.specs.Prelude.{◌&&◌}
use Rattle.modes_core.specs.declared.modes.Mode.{Mode}
use Rattle.modes_core.specs.declared.tags.Tag.{Tag}
use Rattle.modes_core.specs.Tag.{partition_of}
use Rattle.lock_table.specs.declared.moves.Move.{Move}
use Rattle.lock_table.specs.declared.moves.Move.TheVariants.{Keep, Grant, Join, Release, Leave, Adopt}
use Rattle.lock_table.specs.Content.{Holds, Content}
use Rattle.lock_table.specs.OwnWait.{OwnWait}
use Rattle.lw_word.specs.LightweightWord.{IsHeldByNobody, put_word}
use Rattle.lock_table.proofs.Lemmas.Holds.{set_hold-other_session}

-- A change of one hand and of one session's holding of that word.
pub HandsAreHolders-set : (hand : ℕ → Option Hand) (holds : ℕ → ℕ → Bool) (s p : ℕ) (b : Bool) (now : Option Hand) → ((k : ℕ) → set_at (λ k. holds k p) s b k ≡ is_hand_of now k) → HandsAreHolders hand holds → HandsAreHolders (set_at hand p now) (set_at holds s (set_at (holds s) p b))
HandsAreHolders-set hand holds s p b now here there q k =
    elim (cases_eq q p) [
      | inl same ↦ column-here holds s p b q same k ∙ ap (λ j. set_at (λ k. holds k j) s b k) same ∙ here k ∙ ap (λ h. is_hand_of h k) (sym (set_at-here hand p now q same))
      | inr other ↦ column-else holds s p b q other k ∙ there q k ∙ ap (λ h. is_hand_of h k) (sym (set_at-else hand p now q other))
    ]

-- A partition whose word is free is held by nobody, and its content is at home.
free-held_by_nobody : (w : World) (p : ℕ) → TableIsSafe w → IsHeldByNobody (w.words.partition p) → (k : ℕ) → w.sessions.holds_partition k p ≡ false
free-held_by_nobody w p safe free k =
    false_from_ne_true (w.sessions.holds_partition k p) (free-not_held w.numbers.limit (w.words.partition p) (λ j. w.sessions.holds_partition j p) (λ j. w.sessions.shares_partition j p) (safe.promise.words p) free k)

pub at_home-free : (w : World) (p : ℕ) → TableIsSafe w → IsHeldByNobody (w.words.partition p) → w.contents.hand p ≡ None
at_home-free w p safe free = nobody's (w.contents.hand p) (λ k. sym (safe.carriers.hands p k) ∙ free-held_by_nobody w p safe free k)

-- Taking a partition is safe: its content was at home.
pub taking_partition-table : (w : World) (s p : ℕ) → TableIsSafe w → MayTakePartition w s p → TableIsSafe (after_taking_partition w s p)
taking_partition-table w s p safe may = record {
  promise = record {
    no_conflict = waits.no_conflict;
    one_place = waits.one_place;
    none_free = waits.none_free;
    wait_words = shows_from w.contents.now w.sessions.own w.sessions.awaited w.sessions.seen w.words.wait (set_at w.contents.hand p taken) waits;
    words = WordsShowHolders-set w.numbers.limit w.words.partition holds shares s p true _
        (ShowsHolders-taken w.numbers.limit (w.words.partition p) (λ k. holds k p) (λ k. shares k p) s (safe.promise.words p) may.free) safe.promise.words;
    spent = record { no_hold = safe.promise.spent.no_hold; no_wait = safe.promise.spent.no_wait; no_word = no_word };
  };
  carriers = record {
    hands = HandsAreHolders-set w.contents.hand holds s p true taken hand safe.carriers.hands;
    numbers = safe.carriers.numbers;
    unmarked_by_move = waits.by_move;
  };
} where
  holds : ℕ → ℕ → Bool
  holds = w.sessions.holds_partition

  shares : ℕ → ℕ → Bool
  shares = w.sessions.shares_partition

  taken : Option Hand
  taken = Some (record { holder = s; taken = w.contents.now p; recorded = None; unmarked = λ _. false })

  not_held : (k : ℕ) → holds k p ≡ false
  not_held = free-held_by_nobody w p safe may.free

  at_home : w.contents.hand p ≡ None
  at_home = at_home-free w p safe may.free

  waits : WaitsAreSafe w.contents.now w.sessions.own w.sessions.awaited w.sessions.seen w.words.wait (set_at w.contents.hand p taken)
  waits = quiet_hand-safe w.contents.now w.sessions.own w.sessions.awaited w.sessions.seen w.words.wait w.contents.hand (waits_of w safe) p taken (λ _. refl)
      (λ k wait _ _. ap (λ h. stage_by_hand h k wait.tag) at_home ∙ sym (hand-unrecorded taken k wait.tag refl refl))

  no_word : (k q : ℕ) → w.numbers.live k ≡ false → set_at holds s (set_at (holds s) p true) k q ≡ false
  no_word k q dead =
      elim (cases_eq k s) [
        | inl same ↦ absurd (both_ways (w.numbers.live k) dead (ap w.numbers.live same ∙ may.steps.live))
        | inr other ↦ row-else holds s p true k q other ∙ safe.promise.spent.no_word k q dead
      ]

  hand : (k : ℕ) → set_at (λ k. holds k p) s true k ≡ is_hand_of taken k
  hand k =
      elim (cases_eq k s) [
        | inl same ↦ set_at-here (λ k. holds k p) s true k same ∙ sym (eq-eqb s k (sym same))
        | inr other ↦ set_at-else (λ k. holds k p) s true k other ∙ not_held k ∙ sym (ne_eqb s k (λ e. other (sym e)))
      ]

-- A move changes no own hold but the session's.
pub own_after-else : (own : Holds) (s : ℕ) (done : Move) (k : ℕ) (o : Tag) (n : Mode) → k ≢ s → own_after own s done k o n ≡ own k o n
own_after-else own s Keep k o n other = refl
own_after-else own s (Grant t m) k o n other = set_hold-other_session own s t m true k o n other
own_after-else own s (Join t m) k o n other = refl
own_after-else own s (Release t m) k o n other = set_hold-other_session own s t m false k o n other
own_after-else own s (Leave t) k o n other = refl
own_after-else own s (Adopt j i) k o n other = refl

-- A World of which a partition has gone home, and of which contents, own holds and traces may have changed.
abbrev with_put : World → ℕ → ℕ → (ℕ → Content) → Holds → (ℕ → List TraceEntry) → World
with_put w s p now own trace = record {
  words = record (w.words) { partition = set_at w.words.partition p (put_word (w.words.partition p)) };
  contents = record { now = now; hand = set_at w.contents.hand p None };
  sessions = record (w.sessions) {
    own = own;
    holds_partition = set_at w.sessions.holds_partition s (set_at (w.sessions.holds_partition s) p false);
    trace = trace;
  };
  numbers = w.numbers;
}

with_put-table :
    (w : World) (s p : ℕ) (now : ℕ → Content) (own : Holds) (trace : ℕ → List TraceEntry) → TableIsSafe w → w.numbers.live s ≡ true → w.sessions.holds_partition s p ≡ true
    → ((k : ℕ) (o : Tag) (n : Mode) → k ≢ s → own k o n ≡ w.sessions.own k o n)
    → WaitsAreSafe now own w.sessions.awaited w.sessions.seen w.words.wait (set_at w.contents.hand p None) → TableIsSafe (with_put w s p now own trace)
with_put-table w s p now own trace safe live holding same_own waits = record {
  promise = record {
    no_conflict = waits.no_conflict;
    one_place = waits.one_place;
    none_free = waits.none_free;
    wait_words = shows_from now own w.sessions.awaited w.sessions.seen w.words.wait (set_at w.contents.hand p None) waits;
    words = WordsShowHolders-set w.numbers.limit w.words.partition holds shares s p false _
        (ShowsHolders-put w.numbers.limit (w.words.partition p) (λ k. holds k p) (λ k. shares k p) s (safe.promise.words p) holding) safe.promise.words;
    spent = record {
      no_hold = (SpentHaveNothing-own w.numbers.live w.sessions.own own w.sessions.awaited w.sessions.awaited holds s live same_own (λ _ _. refl) safe.promise.spent).no_hold;
      no_wait = safe.promise.spent.no_wait;
      no_word = no_word;
    };
  };
  carriers = record {
    hands = HandsAreHolders-set w.contents.hand holds s p false None nobody safe.carriers.hands;
    numbers = safe.carriers.numbers;
    unmarked_by_move = waits.by_move;
  };
} where
  holds : ℕ → ℕ → Bool
  holds = w.sessions.holds_partition

  shares : ℕ → ℕ → Bool
  shares = w.sessions.shares_partition

  no_word : (k q : ℕ) → w.numbers.live k ≡ false → set_at holds s (set_at (holds s) p false) k q ≡ false
  no_word k q dead =
      elim (cases_eq k s) [
        | inl same ↦ absurd (both_ways (w.numbers.live k) dead (ap w.numbers.live same ∙ live))
        | inr other ↦ row-else holds s p false k q other ∙ safe.promise.spent.no_word k q dead
      ]

  nobody : (k : ℕ) → set_at (λ k. holds k p) s false k ≡ false
  nobody k =
      elim (cases_eq k s) [
        | inl same ↦ set_at-here (λ k. holds k p) s false k same
        | inr other ↦ set_at-else (λ k. holds k p) s false k other
            ∙ false_from_ne_true (holds k p) (λ held. other ((safe.promise.words p).by_one k s held holding))
      ]

-- Putting a partition by a move of the session's own is safe.
pub putting_partition-table : (w : World) (s p : ℕ) (done : Move) (content : Content) → TableIsSafe w → MayPutPartition w s p done content → TableIsSafe (after_putting_partition w s p done content)
putting_partition-table w s p done content safe may = with_put-table w s p (set_at w.contents.now p content) (own_after w.sessions.own s done) _ safe may.may_move.steps.live may.may_move.holding
    (own_after-else w.sessions.own s done)
    (quiet_hand-safe (set_at w.contents.now p content) (own_after w.sessions.own s done) w.sessions.awaited w.sessions.seen w.words.wait w.contents.hand made p None (λ _. refl)
    (λ k wait _ _. hand-unrecorded (w.contents.hand p) k wait.tag (safe.carriers.unmarked_by_move p may.may_move.unrecorded k) may.may_move.unrecorded)) where
      made : WaitsAreSafe (set_at w.contents.now p content) (own_after w.sessions.own s done) w.sessions.awaited w.sessions.seen w.words.wait w.contents.hand
      made = made_by_putting-safe w.contents.now w.sessions.own w.sessions.awaited w.sessions.seen w.words.wait w.contents.hand (waits_of w safe) p s done content
          may.by_putting may.may_move.object may.may_move.own may.may_move.moved

-- A session that has recorded a leave and whose wait is over has no wait on that object.
over-no_leave : (o : Option OwnWait) (p : ℕ) (done : Move) (wait : OwnWait) → WaitIsOver o p done → o ≡ Some wait → partition_of wait.tag ≡ p → is_leave_of (Some done) wait.tag ≡ false
over-no_leave o p Keep wait over is here = refl
over-no_leave o p (Grant t m) wait over is here = refl
over-no_leave o p (Join t m) wait over is here = refl
over-no_leave o p (Release t m) wait over is here = refl
over-no_leave o p (Leave t) wait over is here = absurd (over wait is here)
over-no_leave o p (Adopt k i) wait over is here = refl

-- Putting a partition with a move recorded is safe: nobody is unmarked, and no wait of it has left and is not
-- over.
pub putting_recorded-table : (w : World) (s p : ℕ) (done : Move) → TableIsSafe w → MayPutRecorded w s p done → TableIsSafe (after_putting_recorded w s p)
putting_recorded-table w s p done safe may = with_put-table w s p (set_at w.contents.now p (w.contents.now p)) w.sessions.own _ safe may.steps.live may.holding (λ _ _ _ _. refl)
    (subst (λ now. WaitsAreSafe now w.sessions.own w.sessions.awaited w.sessions.seen w.words.wait (set_at w.contents.hand p None)) (sym (set_at-same w.contents.now p (w.contents.now p) refl))
    (quiet_hand-safe w.contents.now w.sessions.own w.sessions.awaited w.sessions.seen w.words.wait w.contents.hand (waits_of w safe) p None (λ _. refl)
    (λ k wait is here. hand-queued (w.contents.hand p) k wait.tag (may.all_marked k) (false_from_ne_true _ (not_left k wait is here))))) where
      not_left : (k : ℕ) (wait : OwnWait) → w.sessions.awaited k ≡ Some wait → partition_of wait.tag ≡ p
          → (is_hand_of (w.contents.hand p) k && is_leave_of (recorded_in (w.contents.hand p)) wait.tag) ≡ true → ⊥
      not_left k wait is here left =
          let parts = and_parts (is_hand_of (w.contents.hand p) k) (is_leave_of (recorded_in (w.contents.hand p)) wait.tag) left in
          let same : k ≡ s = (safe.promise.words p).by_one k s (safe.carriers.hands p k ∙ parts.0) may.holding in
          both_ways (is_leave_of (Some done) wait.tag) (over-no_leave (w.sessions.awaited s) p done wait may.wait_is_over (ap w.sessions.awaited (sym same) ∙ is) here)
          (ap (λ made. is_leave_of made wait.tag) (sym may.recorded) ∙ parts.1)
