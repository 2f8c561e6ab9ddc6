use Rattle.std.proofs.Common.{[], ◌≡◌, ◌≢◌, ℕ, Bool, true, false, List, Option, Some, None, if◌then◌else◌, refl, sym, ap, ◌∙◌, subst, inl, inr, arith}
use Rattle.std.specs.Prelude.{◌==◌, ◌&&◌, not}
use Rattle.std.proofs.lemmas.Bool.{cases_Bool, cases_eq, both_ways, eq-eqb, ne_eqb, cond-true, cond-false, and_left, and_right, false≢true, false_from_ne_true}
use Rattle.modes_core.specs.declared.modes.Mode.{Mode}
use Rattle.modes_core.specs.declared.tags.Tag.{Tag}
use Rattle.modes_core.specs.Tag.{tag_eq, partition_of}
use Rattle.modes_core.proofs.Lemmas.Conflicts.{tag_eq-refl}
use Rattle.lock_table.specs.declared.moves.Move.{Move}
use Rattle.lock_table.specs.declared.moves.Move.TheVariants.{Keep, Grant, Join, Release, Leave, Adopt}
use Rattle.lock_table.specs.Content.{Holds, Wait, Content, set_hold}
use Rattle.lock_table.specs.Queue.{waits_there}
use Rattle.lock_table.specs.Moves.{Moves, IsInPartition, FitsOwn}
use Rattle.lock_table.specs.OwnWait.{OwnWait, Stage, InQueue, WasGranted, HasLeft}
use Rattle.lock_world.specs.WaitWord.{wait_state, granted_word}
use Rattle.lock_world.specs.World.{Hand, recorded_in, is_unmarked}
use Rattle.lock_table.specs.Put.{set_at}
use Rattle.lock_world.specs.Happens.Partitions.{own_after, IsMadeByPutting}
use Rattle.lock_world.specs.Happens.Waits.{recording, unmarked_but}
use Rattle.lock_world.specs.Safe.{is_hand_of, is_leave_of, stage_by_hand, stage_of, AreInOnePlace}
use Rattle.lock_table.proofs.Lemmas.Put.{set_at-here, set_at-else, set_at-each}
use Rattle.lock_world.proofs.Lemmas.Moves.Moved.{stage_by_move, stage_after, awaited_after, Moved, StoodInQueue, AreInOnePlace-stage, moved, granted-stood, granted-another, taken-one_place, left-one_place, queued-stood}
use Rattle.lock_world.proofs.Lemmas.Waits.Stages.{hand-left, hand-no_leave, hand-queued, hand-unrecorded, hand-same, stage-granted, stage-by_hand, stage-unmarked, queued-state, stage_of-set, is_hand_of-else, recording-hand, recording-recorded, recording-unmarked, recording-by_move}
use Rattle.lock_world.proofs.Lemmas.Waits.Shown.{MayBeUnmarked, MayBeUnmarked-else, ShowsWait, ShowsWait-set, UnmarkedWell, WaitsAreSafe, granted_word-state, one_wait, some_wait, without-else, without-parts}

-- A move that is made by steps on the words of those whom it grants.
abbrev pub GrantsOthers : Move → Type 0
GrantsOthers Keep = ⊥
GrantsOthers (Grant t m) = ⊥
GrantsOthers (Join t m) = ⊥
GrantsOthers (Release t m) = Unit {0}
GrantsOthers (Leave t) = Unit {0}
GrantsOthers (Adopt k i) = ⊥

module _ (now : ℕ → Content) (own : Holds) (awaited : ℕ → Option OwnWait) (seen : ℕ → Bool) (word : ℕ → ℕ) (hand : ℕ → Option Hand) (safe : WaitsAreSafe now own awaited seen word hand) where
  abbrev stage : ℕ → Stage
  stage k = stage_of (word k) hand k (awaited k)

  -- A wait that stands in the queue has not been marked of a grant.
  pub queued-waits : (k : ℕ) (wait : OwnWait) → awaited k ≡ Some wait → stage k ≡ InQueue → wait_state (word k) ≡ 1
  queued-waits k wait is in_queue =
      elim ((safe.showing k).waiting wait is) [
        | inl one ↦ one
        | inr two ↦ absurd (queued-state (word k) hand k wait (ap (stage_of (word k) hand k) (sym is) ∙ in_queue) two)
      ]

  -- No grant stands unmarked of a session that has the partition of its wait's object in its own hand.
  pub own_hand-not_unmarked : (s : ℕ) (wait : OwnWait) → awaited s ≡ Some wait → is_hand_of (hand (partition_of wait.tag)) s ≡ true → (q : ℕ) → is_unmarked (hand q) s ≡ false
  own_hand-not_unmarked s wait is its q = false_from_ne_true (is_unmarked (hand q) s) (λ stands_unmarked.
      let it = safe.owing q s stands_unmarked in
      let one : it.wait ≡ wait = one_wait (awaited s) it.wait wait it.is_wait is in
      let here : q ≡ partition_of wait.tag = sym it.in_partition ∙ ap (λ own_wait. partition_of own_wait.tag) one in
      both_ways (is_hand_of (hand q) s) it.by_another (ap (λ p. is_hand_of (hand p) s) here ∙ its))

  -- Nor to a session whose word shows that its wait was granted.
  pub granted-not_unmarked : (s : ℕ) → wait_state (word s) ≡ 2 → (q : ℕ) → is_unmarked (hand q) s ≡ false
  granted-not_unmarked s two q = false_from_ne_true (is_unmarked (hand q) s) (λ stands_unmarked. let one : wait_state (word s) ≡ 1 = (safe.owing q s stands_unmarked).shows_waiting in omega (arith, one, two))

  -- Changes of words and of what was seen that leave whether each session waits.
  pub same_states-safe : (word' : ℕ → ℕ) → ((k : ℕ) → wait_state (word' k) ≡ wait_state (word k)) → WaitsAreSafe now own awaited seen word' hand
  same_states-safe word' same = record {
    no_conflict = safe.no_conflict;
    one_place = AreInOnePlace-stage now own awaited stage (λ k. stage_of (word' k) hand k (awaited k)) (λ k wait is. stage_is k (awaited k)) safe.one_place;
    none_free = safe.none_free;
    showing = λ k. record {
      idle = λ none. same k ∙ (safe.showing k).idle none;
      waiting = λ wait is. elim ((safe.showing k).waiting wait is) [ inl one ↦ inl (same k ∙ one) | inr two ↦ inr (same k ∙ two) ];
      seen_is_shown = λ was_seen. same k ∙ (safe.showing k).seen_is_shown was_seen;
    };
    owing = λ p k stands_unmarked. let it = safe.owing p k stands_unmarked in
        record { wait = it.wait; is_wait = it.is_wait; in_partition = it.in_partition; shows_waiting = same k ∙ it.shows_waiting; by_another = it.by_another };
    by_move = safe.by_move;
  } where
    stage_is : (k : ℕ) (o : Option OwnWait) → stage_of (word k) hand k o ≡ stage_of (word' k) hand k o
    stage_is k None = refl
    stage_is k (Some wait) = ap (λ n. if n == 2 then WasGranted else stage_by_hand (hand (partition_of wait.tag)) k wait.tag) (sym (same k))

  pub seeing-safe : (s : ℕ) (b : Bool) → (b ≡ true → wait_state (word s) ≡ 2) → WaitsAreSafe now own awaited (set_at seen s b) word hand
  seeing-safe s b shown = record {
    no_conflict = safe.no_conflict;
    one_place = safe.one_place;
    none_free = safe.none_free;
    showing = set_at-each (λ k x. ShowsWait (word k) (awaited k) x) seen s b
        (record { idle = (safe.showing s).idle; waiting = (safe.showing s).waiting; seen_is_shown = shown }) (λ k _. safe.showing k);
    owing = safe.owing;
    by_move = safe.by_move;
  }

  -- A partition's hand changes for one in which nobody is unmarked and that tells the same of each wait.
  pub quiet_hand-safe :
      (p : ℕ) (new : Option Hand) → ((k : ℕ) → is_unmarked new k ≡ false)
      → ((k : ℕ) (wait : OwnWait) → awaited k ≡ Some wait → partition_of wait.tag ≡ p → stage_by_hand (hand p) k wait.tag ≡ stage_by_hand new k wait.tag)
      → WaitsAreSafe now own awaited seen word (set_at hand p new)
  quiet_hand-safe p new quiet same = record {
    no_conflict = safe.no_conflict;
    one_place = AreInOnePlace-stage now own awaited stage (λ k. stage_of (word k) (set_at hand p new) k (awaited k))
        (λ k wait is. stage_of-set (word k) hand p new k (awaited k) (same k)) safe.one_place;
    none_free = safe.none_free;
    showing = safe.showing;
    owing = set_at-each (λ q h. UnmarkedWell word awaited q h) hand p new (λ k stands_unmarked. absurd (both_ways (is_unmarked new k) (quiet k) stands_unmarked)) (λ q _. safe.owing q);
    by_move = set_at-each (λ _ h. recorded_in h ≡ None → (k : ℕ) → is_unmarked h k ≡ false) hand p new (λ _. quiet) (λ q _. safe.by_move q);
  }

  -- A move that is made by putting.
  pub made_by_putting-safe :
      (p s : ℕ) (done : Move) (content : Content) → IsMadeByPutting done → IsInPartition p done → FitsOwn own (awaited s) s done → Moves (now p) s done [] content
      → WaitsAreSafe (set_at now p content) (own_after own s done) awaited seen word hand
  made_by_putting-safe p s done content by_putting object fits moves = record {
    no_conflict = after.no_conflict;
    one_place = one done by_putting after.one_place;
    none_free = after.none_free;
    showing = safe.showing;
    owing = safe.owing;
    by_move = safe.by_move;
  } where
    after : Moved now own awaited stage p s done [] content
    after = moved now own awaited stage p s done [] content safe.one_place safe.none_free object fits moves safe.no_conflict

    one : (made : Move) → IsMadeByPutting made → AreInOnePlace (set_at now p content) (own_after own s made) (awaited_after (now p) awaited s made) (stage_after stage s made [])
        → AreInOnePlace (set_at now p content) (own_after own s made) awaited stage
    one Keep by_it it = it
    one (Grant t m) by_it it = it
    one (Join t m) by_it it = absurd by_it
    one (Release t m) by_it it = it
    one (Leave t) by_it it = absurd by_it
    one (Adopt k i) by_it it = absurd by_it

  -- A move of a release or a leave is recorded, and all whom it grants are unmarked.
  module _ (p s : ℕ) (done : Move) (granted : List Wait) (content : Content) (grants : GrantsOthers done) (unrecorded : recorded_in (hand p) ≡ None) (its : is_hand_of (hand p) s ≡ true)
      (object : IsInPartition p done) (fits : FitsOwn own (awaited s) s done) (moves : Moves (now p) s done granted content) where
    abbrev new : Option Hand
    new = recording (hand p) done (waits_there granted)

    after : Moved now own awaited stage p s done granted content
    after = moved now own awaited stage p s done granted content safe.one_place safe.none_free object fits moves safe.no_conflict

    stood : (k : ℕ) → waits_there granted k ≡ true → StoodInQueue awaited stage p k
    stood = granted-stood now own awaited stage p s done granted content safe.one_place safe.none_free object fits moves

    pub none_own : waits_there granted s ≡ false
    none_own = granted-another now own awaited stage p s done granted content safe.one_place safe.none_free object fits moves

    unmarked_by_new : (k : ℕ) → is_unmarked new k ≡ waits_there granted k
    unmarked_by_new = recording-unmarked (hand p) done (waits_there granted) s its

    tells_nothing : (k : ℕ) (t : Tag) → stage_by_hand (hand p) k t ≡ InQueue
    tells_nothing k t = hand-unrecorded (hand p) k t (safe.by_move p unrecorded k) unrecorded

    -- the stage of a session that was granted
    stage_granted : (k : ℕ) → waits_there granted k ≡ true → stage_of (word k) (set_at hand p new) k (awaited k) ≡ WasGranted
    stage_granted k among =
        let it = stood k among in
        let stands_unmarked : is_unmarked (set_at hand p new (partition_of it.wait.tag)) k ≡ true =
        ap (λ h. is_unmarked h k) (set_at-here hand p new (partition_of it.wait.tag) it.in_partition) ∙ unmarked_by_new k ∙ among in
        ap (stage_of (word k) (set_at hand p new) k) it.is_wait ∙ stage-unmarked (word k) (set_at hand p new) k it.wait stands_unmarked

    -- the stage of one that was not, and whose wait has not left
    stage_kept : (k : ℕ) → waits_there granted k ≡ false → ((t : Tag) → (is_hand_of new k && is_leave_of (recorded_in new) t) ≡ false) → stage k ≡ stage_of (word k) (set_at hand p new) k (awaited k)
    stage_kept k not_among not_left = stage_of-set (word k) hand p new k (awaited k)
        (λ wait is here. tells_nothing k wait.tag ∙ sym (hand-queued new k wait.tag (unmarked_by_new k ∙ not_among) (not_left wait.tag)))

    recorded : recorded_in new ≡ Some done
    recorded = recording-recorded (hand p) done (waits_there granted) s its

    -- the stage of its own wait that has left
    pub stage_left : (t : Tag) → done ≡ Leave t → stage_of (word s) (set_at hand p new) s (awaited s) ≡ HasLeft
    stage_left t is_leave =
        let in_p : partition_of t ≡ p = subst (λ made. IsInPartition p made) is_leave object in
        let left = subst (λ made. Moves (now p) s made granted content) is_leave moves in
        let it = queued-stood now own awaited stage p s safe.one_place t in_p left.0 in
        let not_two = queued-state (word s) hand s it.0 (ap (stage_of (word s) hand s) (sym it.1) ∙ it.3) in
        ap (stage_of (word s) (set_at hand p new) s) it.1 ∙ stage-by_hand (word s) (set_at hand p new) s it.0 not_two
        ∙ ap (λ h. stage_by_hand h s it.0.tag) (set_at-here hand p new (partition_of it.0.tag) (ap partition_of it.2 ∙ in_p))
        ∙ hand-left new s it.0.tag (unmarked_by_new s ∙ none_own) (recording-hand (hand p) done (waits_there granted) s ∙ its)
        (ap (λ made. is_leave_of made it.0.tag) (recorded ∙ ap Some is_leave) ∙ ap (tag_eq t) it.2 ∙ tag_eq-refl t)

    stage_by_made : (made : Move) → done ≡ made → GrantsOthers made → (k : ℕ) → waits_there granted k ≡ false → stage_by_move stage s made k ≡ stage_of (word k) (set_at hand p new) k (awaited k)
    stage_by_made Keep is by_it k not_among = absurd by_it
    stage_by_made (Grant t m) is by_it k not_among = absurd by_it
    stage_by_made (Join t m) is by_it k not_among = absurd by_it
    stage_by_made (Adopt k' i) is by_it k not_among = absurd by_it
    stage_by_made (Release t m) is by_it k not_among =
        stage_kept k not_among (λ o. and_right (is_hand_of new k) (is_leave_of (recorded_in new) o) (ap (λ made. is_leave_of made o) (recorded ∙ ap Some is)))
    stage_by_made (Leave t) is by_it k not_among =
        elim (cases_eq k s) [
          | inl same ↦ cond-true (k == s) HasLeft (stage k) (eq-eqb k s same) ∙ sym (stage_left t is)
              ∙ ap (λ j. stage_of (word j) (set_at hand p new) j (awaited j)) (sym same)
          | inr other ↦ cond-false (k == s) HasLeft (stage k) (ne_eqb k s other)
              ∙ stage_kept k not_among (λ o. and_left (is_hand_of new k) (is_leave_of (recorded_in new) o)
              (recording-hand (hand p) done (waits_there granted) k ∙ is_hand_of-else (hand p) s k its other))
        ]

    stage_moved : (k : ℕ) → stage_after stage s done granted k ≡ stage_of (word k) (set_at hand p new) k (awaited k)
    stage_moved k =
        elim (cases_Bool (waits_there granted k)) [
          | inl among ↦ cond-true (waits_there granted k) WasGranted (stage_by_move stage s done k) among ∙ sym (stage_granted k among)
          | inr not_among ↦ cond-false (waits_there granted k) WasGranted (stage_by_move stage s done k) not_among ∙ stage_by_made done refl grants k not_among
        ]

    same_waits : (made : Move) → GrantsOthers made → awaited_after (now p) awaited s made ≡ awaited
    same_waits Keep by_it = absurd by_it
    same_waits (Grant t m) by_it = absurd by_it
    same_waits (Join t m) by_it = absurd by_it
    same_waits (Release t m) by_it = refl
    same_waits (Leave t) by_it = refl
    same_waits (Adopt k i) by_it = absurd by_it

    unmarked_well : UnmarkedWell word awaited p new
    unmarked_well k stands_unmarked =
        let among : waits_there granted k ≡ true = sym (unmarked_by_new k) ∙ stands_unmarked in
        let it = stood k among in
        let other : k ≢ s = λ same. both_ways (waits_there granted k) (ap (waits_there granted) same ∙ none_own) among in
        record {
          wait = it.wait;
          is_wait = it.is_wait;
          in_partition = it.in_partition;
          shows_waiting = queued-waits k it.wait it.is_wait it.in_queue;
          by_another = recording-hand (hand p) done (waits_there granted) k ∙ is_hand_of-else (hand p) s k its other;
        }

    pub recording-safe : WaitsAreSafe (set_at now p content) (own_after own s done) awaited seen word (set_at hand p new)
    recording-safe = record {
      no_conflict = after.no_conflict;
      one_place = AreInOnePlace-stage (set_at now p content) (own_after own s done) awaited (stage_after stage s done granted) (λ k. stage_of (word k) (set_at hand p new) k (awaited k))
          (λ k wait is. stage_moved k)
          (subst (λ waits. AreInOnePlace (set_at now p content) (own_after own s done) waits (stage_after stage s done granted)) (same_waits done grants) after.one_place);
      none_free = after.none_free;
      showing = safe.showing;
      owing = set_at-each (λ q h. UnmarkedWell word awaited q h) hand p new unmarked_well (λ q _. safe.owing q);
      by_move = set_at-each (λ _ h. recorded_in h ≡ None → (k : ℕ) → is_unmarked h k ≡ false) hand p new (recording-by_move (hand p) done (waits_there granted)) (λ q _. safe.by_move q);
    }

  -- A session that is unmarked in a hand is marked.
  module _ (p k : ℕ) (marked : Option Hand) (stands_unmarked : is_unmarked (hand p) k ≡ true) (unmarked_less : (j : ℕ) → is_unmarked marked j ≡ unmarked_but (is_unmarked (hand p)) k j)
      (same_holder : (j : ℕ) → is_hand_of (hand p) j ≡ is_hand_of marked j) (same_move : recorded_in (hand p) ≡ recorded_in marked) where
    abbrev word_marked : ℕ → ℕ
    word_marked = set_at word k (granted_word (word k))

    was_unmarked : MayBeUnmarked (word k) (awaited k) (hand p) p k
    was_unmarked = safe.owing p k stands_unmarked

    is_told : wait_state (granted_word (word k)) ≡ 2
    is_told = granted_word-state (word k) was_unmarked.shows_waiting

    stage_marked : (j : ℕ) (wait : OwnWait) → awaited j ≡ Some wait → stage j ≡ stage_of (word_marked j) (set_at hand p marked) j (awaited j)
    stage_marked j wait is =
        elim (cases_eq j k) [
          | inl same ↦
              let one : was_unmarked.wait ≡ wait = one_wait (awaited k) was_unmarked.wait wait was_unmarked.is_wait (ap awaited (sym same) ∙ is) in
              let here : partition_of wait.tag ≡ p = ap (λ own_wait. partition_of own_wait.tag) (sym one) ∙ was_unmarked.in_partition in
              ap (stage_of (word j) hand j) is ∙ stage-unmarked (word j) hand j wait (ap (λ q. is_unmarked (hand q) j) here ∙ ap (is_unmarked (hand p)) same ∙ stands_unmarked)
              ∙ sym (ap (stage_of (word_marked j) (set_at hand p marked) j) is
              ∙ stage-granted (word_marked j) (set_at hand p marked) j wait (ap wait_state (set_at-here word k (granted_word (word k)) j same) ∙ is_told))
          | inr other ↦
              stage_of-set (word j) hand p marked j (awaited j)
              (λ its_wait _ _. hand-same (hand p) marked j its_wait.tag (sym (unmarked_less j ∙ without-else (is_unmarked (hand p)) k j other)) (same_holder j) (ap (λ made. is_leave_of made its_wait.tag) same_move))
              ∙ ap (λ n. stage_of n (set_at hand p marked) j (awaited j)) (sym (set_at-else word k (granted_word (word k)) j other))
        ]

    -- who else is unmarked in a hand
    still_unmarked : (q j : ℕ) (h : Option Hand) → j ≢ k → is_hand_of (hand q) j ≡ is_hand_of h j → is_unmarked (hand q) j ≡ true → MayBeUnmarked (word_marked j) (awaited j) h q j
    still_unmarked q j h other same old =
        let it = safe.owing q j old in
        record {
          wait = it.wait;
          is_wait = it.is_wait;
          in_partition = it.in_partition;
          shows_waiting = ap wait_state (set_at-else word k (granted_word (word k)) j other) ∙ it.shows_waiting;
          by_another = sym same ∙ it.by_another;
        }

    unmarked_by_marked : (j : ℕ) → is_unmarked marked j ≡ true → (j ≢ k) × (is_unmarked (hand p) j ≡ true)
    unmarked_by_marked j now_unmarked = without-parts (is_unmarked (hand p)) k j (sym (unmarked_less j) ∙ now_unmarked)

    elsewhere : (q j : ℕ) → q ≢ p → is_unmarked (hand q) j ≡ true → j ≢ k
    elsewhere q j other its same =
        let it = safe.owing q j its in
        let one : it.wait ≡ was_unmarked.wait = one_wait (awaited k) it.wait was_unmarked.wait (ap awaited (sym same) ∙ it.is_wait) was_unmarked.is_wait in
        other (sym it.in_partition ∙ ap (λ own_wait. partition_of own_wait.tag) one ∙ was_unmarked.in_partition)

    pub marking-safe : WaitsAreSafe now own awaited seen word_marked (set_at hand p marked)
    marking-safe = record {
      no_conflict = safe.no_conflict;
      one_place = AreInOnePlace-stage now own awaited stage (λ j. stage_of (word_marked j) (set_at hand p marked) j (awaited j)) stage_marked safe.one_place;
      none_free = safe.none_free;
      showing = set_at-each (λ j n. ShowsWait n (awaited j) (seen j)) word k (granted_word (word k))
          (record { idle = λ none. absurd (some_wait (awaited k) was_unmarked.wait was_unmarked.is_wait none); waiting = λ wait is. inr is_told; seen_is_shown = λ _. is_told })
          (λ j _. safe.showing j);
      owing = set_at-each (λ q h. UnmarkedWell word_marked awaited q h) hand p marked
          (λ j its. let parts = unmarked_by_marked j its in still_unmarked p j marked parts.0 (same_holder j) parts.1)
          (λ q other j its. still_unmarked q j (hand q) (elsewhere q j other its) refl its);
      by_move = set_at-each (λ _ h. recorded_in h ≡ None → (j : ℕ) → is_unmarked h j ≡ false) hand p marked
          (λ none j. false_from_ne_true (is_unmarked marked j) (λ its. both_ways (is_unmarked (hand p) j) (safe.by_move p (same_move ∙ none) j) (unmarked_by_marked j its).1))
          (λ q _. safe.by_move q);
    }

  -- A wait ends that is unmarked in no hand.
  module _ (s : ℕ) (not_unmarked : (q : ℕ) → is_unmarked (hand q) s ≡ false) where
    stage_else : (k : ℕ) → k ≢ s → stage k ≡ stage_of (set_at word s 0 k) hand k (set_at awaited s None k)
    stage_else k other = sym (λ i. stage_of (set_at-else word s 0 k other i) hand k (set_at-else awaited s None k other i))

    cleared-safe : (own' : Holds) → AreInOnePlace now own' (set_at awaited s None) (λ k. stage_of (set_at word s 0 k) hand k (set_at awaited s None k))
        → WaitsAreSafe now own' (set_at awaited s None) (set_at seen s false) (set_at word s 0) hand
    cleared-safe own' one = record {
      no_conflict = safe.no_conflict;
      one_place = one;
      none_free = safe.none_free;
      showing = ShowsWait-set word awaited seen s 0 None false
          (record { idle = λ _. refl; waiting = λ wait is. absurd (some_wait None wait is refl); seen_is_shown = λ e. absurd (false≢true e) }) safe.showing;
      owing = λ q k its. MayBeUnmarked-else word awaited s 0 None (hand q) q k (λ same. both_ways (is_unmarked (hand q) k) (ap (is_unmarked (hand q)) same ∙ not_unmarked q) its) (safe.owing q k its);
      by_move = safe.by_move;
    }

    -- What it was granted is the session's own from then on.
    pub taking_over-safe : (wait : OwnWait) → awaited s ≡ Some wait → stage s ≡ WasGranted
        → WaitsAreSafe now (set_hold own s wait.tag wait.mode true) (set_at awaited s None) (set_at seen s false) (set_at word s 0) hand
    taking_over-safe wait is granted = cleared-safe (set_hold own s wait.tag wait.mode true)
        (taken-one_place now own awaited stage s s safe.one_place wait (λ k. stage_of (set_at word s 0 k) hand k (set_at awaited s None k)) is granted stage_else)

    -- A wait that ends so had left the queue.
    pub ending-safe : (wait : OwnWait) → awaited s ≡ Some wait → stage s ≡ HasLeft
        → WaitsAreSafe now own (set_at awaited s None) (set_at seen s false) (set_at word s 0) hand
    ending-safe wait is left = cleared-safe own
        (left-one_place now own awaited stage s s safe.one_place wait (λ k. stage_of (set_at word s 0 k) hand k (set_at awaited s None k)) is left stage_else)

  -- A session joins the queue, and its wait stands recorded.
  module _ (p s : ℕ) (t : Tag) (m : Mode) (content : Content) (unrecorded : recorded_in (hand p) ≡ None) (its : is_hand_of (hand p) s ≡ true)
      (object : partition_of t ≡ p) (fits : (awaited s ≡ None) × (own s t m ≡ false)) (moves : Moves (now p) s (Join t m) [] content) where
    abbrev recorded_wait : OwnWait
    recorded_wait = record { tag = t; mode = m; held = (now p).holds s t }

    abbrev joined : Option Hand
    joined = recording (hand p) (Join t m) (λ _. false)

    none_unmarked : (k : ℕ) → is_unmarked joined k ≡ false
    none_unmarked = recording-unmarked (hand p) (Join t m) (λ _. false) s its

    tells_queued : (k : ℕ) (o : Tag) → stage_by_hand joined k o ≡ InQueue
    tells_queued k o = hand-no_leave joined k o (none_unmarked k) (ap (λ made. is_leave_of made o) (recording-recorded (hand p) (Join t m) (λ _. false) s its))

    stage_joined : (k : ℕ) → stage_after stage s (Join t m) [] k ≡ stage_of (set_at word s 1 k) (set_at hand p joined) k (set_at awaited s (Some recorded_wait) k)
    stage_joined k =
        elim (cases_eq k s) [
          | inl same ↦ cond-true (k == s) InQueue (stage k) (eq-eqb k s same)
              ∙ sym ((λ i. stage_of (set_at-here word s 1 k same i) (set_at hand p joined) k (set_at-here awaited s (Some recorded_wait) k same i))
              ∙ ap (λ h. stage_by_hand h k t) (set_at-here hand p joined (partition_of t) object) ∙ tells_queued k t)
          | inr other ↦ cond-false (k == s) InQueue (stage k) (ne_eqb k s other)
              ∙ stage_of-set (word k) hand p joined k (awaited k)
              (λ wait _ _. hand-unrecorded (hand p) k wait.tag (safe.by_move p unrecorded k) unrecorded ∙ sym (tells_queued k wait.tag))
              ∙ sym (λ i. stage_of (set_at-else word s 1 k other i) (set_at hand p joined) k (set_at-else awaited s (Some recorded_wait) k other i))
        ]

    moved_by_join : Moved now own awaited stage p s (Join t m) [] content
    moved_by_join = moved now own awaited stage p s (Join t m) [] content safe.one_place safe.none_free object fits moves safe.no_conflict

    pub joining_queue-safe : WaitsAreSafe (set_at now p content) own (set_at awaited s (Some recorded_wait)) (set_at seen s false) (set_at word s 1) (set_at hand p joined)
    joining_queue-safe = record {
      no_conflict = moved_by_join.no_conflict;
      one_place = AreInOnePlace-stage (set_at now p content) own (set_at awaited s (Some recorded_wait)) (stage_after stage s (Join t m) [])
          (λ k. stage_of (set_at word s 1 k) (set_at hand p joined) k (set_at awaited s (Some recorded_wait) k)) (λ k wait is. stage_joined k) moved_by_join.one_place;
      none_free = moved_by_join.none_free;
      showing = ShowsWait-set word awaited seen s 1 (Some recorded_wait) false
          (record { idle = λ none. absurd (some_wait (Some recorded_wait) recorded_wait refl none); waiting = λ wait is. inl refl; seen_is_shown = λ e. absurd (false≢true e) }) safe.showing;
      owing = set_at-each (λ q h. UnmarkedWell (set_at word s 1) (set_at awaited s (Some recorded_wait)) q h) hand p joined
          (λ k unmarked_one. absurd (both_ways (is_unmarked joined k) (none_unmarked k) unmarked_one))
          (λ q _ k unmarked_one. let it = safe.owing q k unmarked_one in
          MayBeUnmarked-else word awaited s 1 (Some recorded_wait) (hand q) q k (λ same. some_wait (awaited k) it.wait it.is_wait (ap awaited same ∙ fits.0)) it);
      by_move = set_at-each (λ _ h. recorded_in h ≡ None → (k : ℕ) → is_unmarked h k ≡ false) hand p joined (λ _. none_unmarked) (λ q _. safe.by_move q);
    }
