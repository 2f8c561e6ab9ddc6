use Rattle.std.proofs.Common.{◌≡◌, ℕ, ◌≤◌, ◌<◌, ◌+◌, Bool, true, false, ◌==◌, ◌&&◌, ◌||◌, not, List, [], ◌∷◌, take, drop, length, get_or, Some, None, arith, refl, sym, ap, ◌∙◌, subst, inl, inr}
use Rattle.std.specs.Prelude.{map, count_by, if◌then◌else◌}
use Rattle.std.specs.Bool.{MatchBool}
use Rattle.std.specs.List.{list_any}
use Rattle.std.proofs.lemmas.Bool.{cases_eq, eq-eqb, ne_eqb, false_from_ne_true}
use Rattle.std.proofs.lemmas.List.Folds.{list_any_at}
use Rattle.std.proofs.lemmas.List.{take-append-drop, drop_more, drop_all}
use Rattle.modes_core.specs.declared.modes.Mode.{Mode}
use Rattle.modes_core.specs.declared.tags.Tag.{Tag}
use Rattle.modes_core.specs.Tag.{tag_eq}
use Rattle.modes_core.proofs.Lemmas.Conflicts.{tag_eq-refl}
use Rattle.local_locks.proofs.Lemmas.Entries.{same_key}
use Rattle.lock_table.specs.declared.moves.Move.{Move}
use Rattle.lock_table.specs.declared.moves.Move.TheVariants.{Keep, Grant, Join, Release, Leave, Adopt}
use Rattle.lock_table.specs.Content.{Wait, Content, remove_hold}
use Rattle.lock_table.specs.Queue.{IsSplitOf, Wakes, waits_there, remove_wait, queue_without}
use Rattle.lock_table.specs.Moves.{Moves}
use Rattle.lock_table.specs.Put.{set_at}
use Rattle.lock_table.specs.Waiter.{whose_and_mode}
use Rattle.lock_table.proofs.Lemmas.HoldLists.{count_by-cons, count_by-append, count_by-filter}
use Rattle.lock_table.proofs.Lemmas.Lists.{any-counted, counted-any}
use Rattle.lock_table.proofs.Lemmas.Listing.{count_by-map}
use Rattle.lock_table.proofs.Lemmas.Put.{put_here, set_at-here, set_at-twice}
use Rattle.lock_table.proofs.Lemmas.QueueLaws.{wakes-split}
use Rattle.lock_world.specs.Account.{Account, InHand}
use Rattle.lock_world.specs.AccountSteps.{account_marking, account_putting, hand_recording, own_moved, own_with}
use Rattle.lock_world.specs.AccountLaw.{MayMoveBy, MayMarkNextBy, MayPutRecordedBy}
use Rattle.lock_world.specs.Happens.Partitions.{WaitIsOver}
use Rattle.lock_world.specs.Happens.Waits.{unmarked_but}
use Rattle.lock_world.proofs.Lemmas.Counters.Lists.{any-map}
use Rattle.shared_rule.specs.Boards.{Seated}
use Rattle.shared_rule.specs.History.{taken_of, is_among, in_hand, sessions_told, account_granting, account_granting_by}
use Rattle.shared_rule.specs.Lawful.{MayMarkBy, MayPutPart}
use Rattle.lock_manager.specs.Releases.{Wakens, Tells, account_marked, IsMarking}
use Rattle.lock_manager.proofs.Lemmas.Rest.Ends.{own_with-key}

-- Telling those whom a move lets go: the first mark makes the move, and once all are marked the partition is
-- put.

-- whether this is the session that was told
abbrev is_told : ℕ → ℕ × Mode → Bool
is_told session told = told.0 == session

-- ---- whom a move lets go

-- Those granted are some of the queue.
split-count : (p : Wait → Bool) (queue granted left : List Wait) → IsSplitOf queue granted left → count_by p granted ≤ count_by p queue
split-count p [] granted left split = rw (split.0) (omega arith)
split-count p (wait ∷ queue) granted left (inl front) =
    omega (arith, ap (count_by p) front.1, count_by-cons p wait front.0, count_by-cons p wait queue, split-count p queue front.0 left front.2)
split-count p (wait ∷ queue) granted left (inr back) =
    omega (arith, count_by-cons p wait queue, split-count p queue granted back.0 back.2)

-- So a release grants nobody more often than he waits there.
pub release-count :
    (p : Wait → Bool) (before after : Content) (number : ℕ) (tag : Tag) (mode : Mode) (granted : List Wait)
    → Moves before number (Release tag mode) granted after → count_by p granted ≤ count_by p (before.waits tag)
release-count p before after number tag mode granted moved = at _ moved.1 where
  at :
      (b : Bool)
      → MatchBool b (Wakes (remove_hold before number tag mode) tag granted after) ((granted ≡ []) × (after ≡ remove_hold before number tag mode))
      → count_by p granted ≤ count_by p (before.waits tag)
  at true wakes = split-count p (before.waits tag) granted wakes.left (wakes-split [] _ tag (before.waits tag) granted wakes.left wakes.split)
  at false none = omega (arith, ap (count_by p) none.0)

-- So is a leave.
pub leave-count :
    (p : Wait → Bool) (before after : Content) (number : ℕ) (tag : Tag) (granted : List Wait)
    → Moves before number (Leave tag) granted after → count_by p granted ≤ count_by p (before.waits tag)
leave-count p before after number tag granted moved =
    let queue : List Wait = (remove_wait before number tag).waits tag in
    let is : queue ≡ queue_without (before.waits tag) number =
    put_here tag_eq before.waits tag (queue_without (before.waits tag) number) tag (tag_eq-refl tag) in
    omega (
      arith,
      split-count p queue granted moved.1.left (wakes-split [] _ tag queue granted moved.1.left moved.1.split),
      ap (count_by p) is,
      count_by-filter p (λ wait. not (wait.session == number)) (before.waits tag),
    )

-- Whom it tells is told once, where nobody stands twice in the queue.
told-once :
    (granted queue : List Wait) (woken : List (ℕ × Mode)) (session : ℕ)
    → count_by (λ wait. wait.session == session) granted ≤ count_by (λ wait. wait.session == session) queue → woken ≡ map whose_and_mode granted
    → count_by (λ wait. wait.session == session) queue ≤ 1 → count_by (is_told session) woken ≤ 1
told-once granted queue woken session fewer whose once =
    omega (
      arith,
      ap (count_by (is_told session)) whose,
      count_by-map (is_told session) whose_and_mode granted,
      fewer,
    )

pub leave-once :
    (before after : Content) (number : ℕ) (tag : Tag) (granted : List Wait) (woken : List (ℕ × Mode)) (session : ℕ)
    → Moves before number (Leave tag) granted after → woken ≡ map whose_and_mode granted
    → count_by (λ wait. wait.session == session) (before.waits tag) ≤ 1 → count_by (is_told session) woken ≤ 1
leave-once before after number tag granted woken session moved whose once =
    told-once granted (before.waits tag) woken session
    (leave-count (λ wait. wait.session == session) before after number tag granted moved) whose once

pub release-once :
    (before after : Content) (number : ℕ) (tag : Tag) (mode : Mode) (granted : List Wait) (woken : List (ℕ × Mode)) (session : ℕ)
    → Moves before number (Release tag mode) granted after → woken ≡ map whose_and_mode granted
    → count_by (λ wait. wait.session == session) (before.waits tag) ≤ 1 → count_by (is_told session) woken ≤ 1
release-once before after number tag mode granted woken session moved whose once =
    told-once granted (before.waits tag) woken session
    (release-count (λ wait. wait.session == session) before after number tag mode granted moved) whose once

-- Whom it lets go stood in the queue.
pub leave-stood :
    (before after : Content) (number : ℕ) (tag : Tag) (granted : List Wait) → Moves before number (Leave tag) granted after
    → (session : ℕ) → waits_there granted session ≡ true → waits_there (before.waits tag) session ≡ true
leave-stood before after number tag granted moved session there =
    let some = any-counted (λ wait. wait.session == session) granted there in
    let more = leave-count (λ wait. wait.session == session) before after number tag granted moved in
    counted-any (λ wait. wait.session == session) (before.waits tag) (omega (arith, some, more))

pub release-stood :
    (before after : Content) (number : ℕ) (tag : Tag) (mode : Mode) (granted : List Wait) → Moves before number (Release tag mode) granted after
    → (session : ℕ) → waits_there granted session ≡ true → waits_there (before.waits tag) session ≡ true
release-stood before after number tag mode granted moved session there =
    let some = any-counted (λ wait. wait.session == session) granted there in
    let more = release-count (λ wait. wait.session == session) before after number tag mode granted moved in
    counted-any (λ wait. wait.session == session) (before.waits tag) (omega (arith, some, more))

-- ---- who is still unmarked

-- Whoever is the first of those left is among them,
first-among : (told : ℕ × Mode) (rest : List (ℕ × Mode)) → is_among (sessions_told (told ∷ rest)) told.0 ≡ true
first-among told rest = ap (λ b. b || is_among (sessions_told rest) told.0) (eq-eqb told.0 told.0 refl)

-- and, being there once, is not among the others,
first-apart :
    (told : ℕ × Mode) (rest : List (ℕ × Mode)) → count_by (is_told told.0) (told ∷ rest) ≤ 1
    → is_among (sessions_told rest) told.0 ≡ false
first-apart told rest once =
    any-map (λ (its : ℕ × Mode). its.0) (λ other. other == told.0) rest
    ∙ false_from_ne_true _ (λ any.
    let one : ℕ = 1 in
    let here : (if told.0 == told.0 then one else 0) ≡ one = ap (λ b. if b then one else 0) (eq-eqb told.0 told.0 refl) in
    omega (arith, once, here, count_by-cons (is_told told.0) told rest, any-counted (is_told told.0) rest any))

-- so that these are left once it is marked.
unmarked-next :
    (told : ℕ × Mode) (rest : List (ℕ × Mode)) → count_by (is_told told.0) (told ∷ rest) ≤ 1
    → unmarked_but (is_among (sessions_told (told ∷ rest))) told.0 ≡ is_among (sessions_told rest)
unmarked-next told rest once = λ i session. at session i where
  at : (session : ℕ) → unmarked_but (is_among (sessions_told (told ∷ rest))) told.0 session ≡ is_among (sessions_told rest) session
  at session =
      elim (cases_eq session told.0) [
        | inl same ↦
            ap (λ b. is_among (sessions_told (told ∷ rest)) session && not b) (eq-eqb session told.0 same)
            ∙ and_no (is_among (sessions_told (told ∷ rest)) session)
            ∙ sym (ap (is_among (sessions_told rest)) same ∙ first-apart told rest once)
        | inr other ↦
            ap (λ b. is_among (sessions_told (told ∷ rest)) session && not b) (ne_eqb session told.0 other)
            ∙ and_yes (is_among (sessions_told (told ∷ rest)) session)
            ∙ ap (λ b. b || is_among (sessions_told rest) session) (ne_eqb told.0 session (λ same. other (sym same)))
      ] where
        and_no : (b : Bool) → (b && false) ≡ false
        and_no true = refl
        and_no false = refl

        and_yes : (b : Bool) → (b && true) ≡ b
        and_yes true = refl
        and_yes false = refl

-- The first of those left, at a turn of a loop over the list,
next-left :
    (woken : List (ℕ × Mode)) (i : ℕ) (told : ℕ × Mode) → i < length woken → told ≡ get_or woken i told → drop i woken ≡ told ∷ drop (i + 1) woken
next-left woken i told within is = drop_more woken i told within ∙ ap (λ its. its ∷ drop (i + 1) woken) (sym is)

-- and it is there once if it is once in the whole list.
next-once :
    (p : ℕ × Mode → Bool) (woken : List (ℕ × Mode)) (i : ℕ) (told : ℕ × Mode) → drop i woken ≡ told ∷ drop (i + 1) woken
    → count_by p woken ≤ 1 → count_by p (told ∷ drop (i + 1) woken) ≤ 1
next-once p woken i told next once =
    omega (arith, once, ap (count_by p) next, ap (count_by p) (take-append-drop i woken), count_by-append p (take i woken) (drop i woken))

-- ---- the account in between

-- Own holds that have followed a move follow it to the same.
own_with-twice : (own : Tag → Mode → Bool) (tag : Tag) (mode : Mode) (there : Bool) → own_with own tag mode there ≡ own_with (own_with own tag mode there) tag mode there
own_with-twice own tag mode there = λ i t m. at t m i where
  at : (t : Tag) (m : Mode) → own_with own tag mode there t m ≡ own_with (own_with own tag mode there) tag mode there t m
  at t m =
      own_with-key own tag mode there t m
      ∙ both (same_key t m tag mode)
      ∙ ap (λ its. if same_key t m tag mode then there else its) (sym (own_with-key own tag mode there t m))
      ∙ sym (own_with-key (own_with own tag mode there) tag mode there t m) where
        both : (b : Bool) → (if b then there else own t m) ≡ (if b then there else (if b then there else own t m))
        both true = refl
        both false = refl

own_moved-twice : (own : Tag → Mode → Bool) (done : Move) → own_moved own done ≡ own_moved (own_moved own done) done
own_moved-twice own Keep = refl
own_moved-twice own (Grant tag mode) = own_with-twice own tag mode true
own_moved-twice own (Join tag mode) = refl
own_moved-twice own (Release tag mode) = own_with-twice own tag mode false
own_moved-twice own (Leave tag) = refl
own_moved-twice own (Adopt owner slot) = refl

-- a partition in hand once some are marked and these are left: the move stands recorded
abbrev hand_marked : Account → ℕ → Move → Content → List (ℕ × Mode) → InHand
hand_marked a p done now rest = hand_recording (in_hand (a.hand p)) now done (is_among (sessions_told rest))

-- The session may be marked, as one of those told.
abbrev MayTell : Seated → Account → ℕ → Move → List (ℕ × Mode) → Content → ℕ → Type 0
MayTell seat b p done woken now other =
    (mine : InHand) × (granted : List Wait) × (woken ≡ map whose_and_mode granted)
    × MayMarkBy seat.limit seat.number b p mine done granted now other

module _ (seat : Seated) (a : Account) (p : ℕ) (done : Move) (woken : List (ℕ × Mode)) (now : Content)
    (wakens : Wakens seat a p done woken now) where
  -- The partition is in hand, as taken,
  hand-known : in_hand (a.hand p) ≡ wakens.mine
  hand-known = ap in_hand wakens.may_move.in_hand

  -- and with the move once somebody is marked.
  marked-in_hand : (rest : List (ℕ × Mode)) → (account_marked a p done now rest).hand p ≡ Some (hand_marked a p done now rest)
  marked-in_hand rest = set_at-here a.hand p _ p refl

  -- A partition whose waits are marked was taken with the same content all the time.
  marked-taken : (rest : List (ℕ × Mode)) → taken_of ((account_marked a p done now rest).hand p) ≡ taken_of (a.hand p)
  marked-taken rest = ap taken_of (marked-in_hand rest) ∙ ap (λ (mine : InHand). mine.taken) hand-known ∙ ap taken_of (sym wakens.may_move.in_hand)

  -- The next of those left may be marked,
  may_mark :
      (told : ℕ × Mode) (rest : List (ℕ × Mode)) (b : Account) → IsMarking a p done now woken (told ∷ rest) b
      → MayTell seat b p done woken now told.0
  may_mark told rest b (inl none) =
      let there : waits_there wakens.granted told.0 ≡ true =
      sym (any-map whose_and_mode (is_told told.0) wakens.granted)
      ∙ ap (list_any (is_told told.0)) (sym (none.0 ∙ wakens.whose))
      ∙ ap (λ c. c || list_any (is_told told.0) rest) (eq-eqb told.0 told.0 refl) in (
        wakens.mine,
        wakens.granted,
        wakens.whose,
        inl (record {
          may_move = subst (λ v. MayMoveBy seat.limit seat.number v p wakens.mine done wakens.granted now) (sym none.2) wakens.may_move;
          among = there;
        }),
      )
  may_mark told rest b (inr some) = (
    hand_marked a p done now (told ∷ rest),
    wakens.granted,
    wakens.whose,
    inr (subst (λ v. MayMarkNextBy v p (hand_marked a p done now (told ∷ rest)) done told.0) (sym some)
        (record { in_hand = marked-in_hand (told ∷ rest); recorded = refl; still_unmarked = first-among told rest })),
  )

  -- and is one of the sessions that there can be.
  pub told-exists : (items : List (ℕ × Mode)) (i : ℕ) (told : ℕ × Mode) → items ≡ woken → i < length items → told ≡ get_or items i told → told.0 < seat.limit
  told-exists items i told same within is =
      wakens.exist told.0
      (sym (any-map whose_and_mode (is_told told.0) wakens.granted) ∙ ap (list_any (is_told told.0)) (sym (same ∙ wakens.whose))
      ∙ list_any_at (is_told told.0) items i told within (ap (is_told told.0) (sym is) ∙ eq-eqb told.0 told.0 refl))

  -- Then the others are left.
  marking-next :
      (told : ℕ × Mode) (rest : List (ℕ × Mode)) (b : Account)
      → count_by (is_told told.0) (told ∷ rest) ≤ 1 → IsMarking a p done now woken (told ∷ rest) b
      → IsMarking a p done now woken rest (account_granting b p (in_hand (b.hand p)) told.0 done (sessions_told woken) now)
  marking-next told rest b once (inl none) =
      let unrecorded : (in_hand (a.hand p)).recorded ≡ None = ap (λ (mine : InHand). mine.recorded) hand-known ∙ wakens.may_move.unrecorded in
      inr (
      ap (λ (v : Account). account_granting v p (in_hand (v.hand p)) told.0 done (sessions_told woken) now) none.2
      ∙ ap (λ made. account_granting_by made a p (in_hand (a.hand p)) told.0 done (sessions_told woken) now) unrecorded
      ∙ ap (λ its. account_marking a p (in_hand (a.hand p)) now done done (unmarked_but (is_among (sessions_told its)) told.0)) (sym none.0)
      ∙ ap (account_marking a p (in_hand (a.hand p)) now done done) (unmarked-next told rest once)
      )
  marking-next told rest b once (inr some) =
      let marked : Account = account_marked a p done now (told ∷ rest) in
      let mine : InHand = hand_marked a p done now (told ∷ rest) in
      let hand : set_at (set_at a.hand p (Some mine)) p (Some (hand_recording mine now done (unmarked_but mine.unmarked told.0)))
      ≡ set_at a.hand p (Some (hand_marked a p done now rest)) =
      set_at-twice a.hand p _ _ ∙ ap (λ unmarked. set_at a.hand p (Some (hand_recording (in_hand (a.hand p)) now done unmarked)))
      (unmarked-next told rest once) in
      inr (
      ap (λ (v : Account). account_granting v p (in_hand (v.hand p)) told.0 done (sessions_told woken) now) some
      ∙ ap (λ its. account_granting marked p (in_hand its) told.0 done (sessions_told woken) now) (marked-in_hand (told ∷ rest))
      ∙ (λ i. record a { own = own_moved a.own done; hand = hand i })
      )

  -- Both at a turn of a loop over the list, on a board of this seat.
  pub may_mark-at :
      (its : Seated) (b : Account) (items : List (ℕ × Mode)) (i : ℕ) (told : ℕ × Mode)
      → its ≡ seat → items ≡ woken → i < length items → told ≡ get_or items i told
      → IsMarking a p done now woken (drop i items) b
      → MayTell its b p done woken now told.0
  may_mark-at its b items i told same_seat same within is marking =
      subst (λ (v : Seated). MayTell v b p done woken now told.0)
      {x = seat} {y = its} (sym same_seat)
      (may_mark told (drop (i + 1) items) b
      (subst (λ left. IsMarking a p done now woken left b) {x = drop i items} {y = told ∷ drop (i + 1) items}
      (next-left items i told within is) marking))

  pub marking-next_at :
      (b after : Account) (items : List (ℕ × Mode)) (i : ℕ) (told : ℕ × Mode) → items ≡ woken → i < length items → told ≡ get_or items i told
      → IsMarking a p done now woken (drop i items) b → after ≡ account_granting b p (in_hand (b.hand p)) told.0 done (sessions_told woken) now
      → IsMarking a p done now woken (drop (i + 1) items) after
  marking-next_at b after items i told same within is marking marked =
      let next : drop i items ≡ told ∷ drop (i + 1) items = next-left items i told within is in
      let all_once : count_by (is_told told.0) items ≤ 1 =
      omega (arith, wakens.once told.0, ap (count_by (is_told told.0)) same) in
      subst (IsMarking a p done now woken (drop (i + 1) items))
      {x = account_granting b p (in_hand (b.hand p)) told.0 done (sessions_told woken) now} {y = after} (sym marked)
      (marking-next told (drop (i + 1) items) b (next-once (is_told told.0) items i told next all_once)
      (subst (λ left. IsMarking a p done now woken left b) {x = drop i items} {y = told ∷ drop (i + 1) items} next marking))

  -- Once nobody is left,
  pub all_marked :
      (b : Account) (items : List (ℕ × Mode)) (i : ℕ) → length items ≤ i → IsMarking a p done now woken (drop i items) b
      → b ≡ account_marked a p done now []
  all_marked b items i past (inl none) = absurd (none.1 (sym none.0 ∙ drop_all i items past))
  all_marked b items i past (inr marked) = marked ∙ ap (account_marked a p done now) (drop_all i items past)

  -- the partition may be put,
  pub may_put_marked :
      (its : Seated) (b : Account) → its ≡ seat → b ≡ account_marked a p done now [] → WaitIsOver a.awaited p done
      → (mine : InHand) × MayPutPart its.limit its.number b p mine Keep now
  may_put_marked its b same_seat marked over = (
    hand_marked a p done now [],
    inr (record {
      made = done;
      may_put = subst (λ (v : Account). MayPutRecordedBy v p (hand_marked a p done now []) done)
          {x = account_marked a p done now []} {y = b} (sym marked)
          (record { in_hand = marked-in_hand []; recorded = refl; all_marked = λ _. refl; wait_is_over = over });
      keeps = refl;
      same = refl;
    }),
  )

  -- and that is as if it were put by the move.
  marked-put :
      (b after : Account) → b ≡ account_marked a p done now [] → after ≡ account_putting b p (taken_of (b.hand p)) now Keep
      → after ≡ account_putting a p (taken_of (a.hand p)) now done
  marked-put b after marked put =
      let hand : set_at (account_marked a p done now []).hand p None ≡ set_at a.hand p None = set_at-twice a.hand p _ None in
      put
      ∙ ap (λ (v : Account). account_putting v p (taken_of (v.hand p)) now Keep) marked
      ∙ ap (λ content. account_putting (account_marked a p done now []) p content now Keep) (marked-taken [])
      ∙ (λ i. record (account_putting a p (taken_of (a.hand p)) now done) { hand = hand i })

  -- So it is by the account with which the telling began.
  begun-put : (begun : Account) → IsMarking a p done now woken woken begun
      → account_putting a p (taken_of (a.hand p)) now done ≡ account_putting begun p (taken_of (begun.hand p)) now done
  begun-put begun (inl none) = ap (λ (v : Account). account_putting v p (taken_of (v.hand p)) now done) (sym none.2)
  begun-put begun (inr recorded) =
      let hand : set_at a.hand p None ≡ set_at (account_marked a p done now woken).hand p None = sym (set_at-twice a.hand p _ None) in
      (λ i. record (account_putting a p (taken_of (a.hand p)) now done) { own = own_moved-twice a.own done i; hand = hand i })
      ∙ ap (λ content. account_putting (account_marked a p done now woken) p content now done) (sym (marked-taken woken))
      ∙ ap (λ (v : Account). account_putting v p (taken_of (v.hand p)) now done) (sym recorded)

  pub told-put :
      (begun b after : Account) → IsMarking a p done now woken woken begun → b ≡ account_marked a p done now []
      → after ≡ account_putting b p (taken_of (b.hand p)) now Keep → after ≡ account_putting begun p (taken_of (begun.hand p)) now done
  told-put begun b after so_far marked put = marked-put b after marked put ∙ begun-put begun so_far

  -- The telling leaves the session's own wait alone.
  pub wait-same : (begun : Account) → IsMarking a p done now woken woken begun → begun.awaited ≡ a.awaited
  wait-same begun (inl none) = ap (λ (v : Account). v.awaited) none.2
  wait-same begun (inr recorded) = ap (λ (v : Account). v.awaited) recorded

-- How far a loop over those told has come: these are left.
pub record IsTelling (seat : Seated) (begun : Account) (p : ℕ) (done : Move) (woken : List (ℕ × Mode)) (now : Content) (rest : List (ℕ × Mode)) (b : Account) : Type 0 where
  pub from : Account
  pub wakens : Wakens seat from p done woken now
  pub begun_so : IsMarking from p done now woken woken begun
  pub left : IsMarking from p done now woken rest b

pub telling-begins :
    (seat : Seated) (begun : Account) (p : ℕ) (done : Move) (woken items : List (ℕ × Mode)) (now : Content) → Tells seat begun p done woken now → items ≡ woken
    → IsTelling seat begun p done woken now items begun
telling-begins seat begun p done woken items now tells same = record {
  from = tells.from;
  wakens = tells.wakens;
  begun_so = tells.so_far;
  left = subst (λ rest. IsMarking tells.from p done now woken rest begun) {x = woken} {y = items} (sym same) tells.so_far;
}
