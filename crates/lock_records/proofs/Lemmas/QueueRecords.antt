use Rattle.std.proofs.Common.{◌≡◌, ◌≢◌, ℕ, zero, suc, ◌+◌, ◌<◌, ◌≤◌, true, false, not, ◌||◌, ◌==◌, List, [], ◌∷◌, ◌++◌, length, take, drop, map, Option, Some, None, arith, refl, sym, ap, ◌∙◌, subst, inl, inr}
use Rattle.std.specs.Prelude.{count_by, find, option_map, vec_len, vec_capacity, if◌then◌else◌}
use Rattle.std.specs.List.{list_any, insert, remove, HoldsAt}
use Rattle.std.proofs.lemmas.Bool.{cases_Bool, cases_eq, false_from_ne_true, cond-true, cond-false}
use Rattle.std.proofs.lemmas.List.{map-append, take-map, drop-map}
use Rattle.modes_core.specs.declared.tags.Tag.{Tag}
use Rattle.modes_core.specs.Tag.{tag_eq}
use Rattle.lock_table.specs.Put.{put}
use Rattle.lock_table.specs.Content.{Wait}
use Rattle.lock_table.specs.Queue.{joined, waits_there, wait_in, queue_without}
use Rattle.lock_table.specs.Waiter.{shown_wait}
use Rattle.lock_table.specs.declared.waits.Waiter.{Waiter}
use Rattle.lock_table.proofs.Lemmas.HoldLists.{count_by-cons}
use Rattle.lock_table.proofs.Lemmas.Lists.{any-counted}
use Rattle.lock_records.specs.declared.wait_queues.QueueRecord.{QueueRecord}
use Rattle.lock_records.specs.Queues.{queue_at, is_queue_of, waits_at, queue_on, waits_of, total_of, waiting_in, IsQueueAt, AreQueues, HasRoomInQueue}
use Rattle.lock_records.proofs.Lemmas.Queues.{without-nobody}
use Rattle.lock_records.proofs.Lemmas.QueueWrites.{queue-record, is_queue-at, queue-is, queue-absent, no-queue, somebody-there, its-alone, queue-put, waiting-written, queues-rewritten, queues-more, queues-less}

-- A wait more and a wait less in the list of a record.
pub shown-joined : (ws : List Waiter) (place : ℕ) (w : Waiter) → map shown_wait (insert ws place w) ≡ joined place (shown_wait w) (map shown_wait ws)
shown-joined ws place w =
    map-append shown_wait (take place ws) (w ∷ drop place ws)
    ∙ ap (λ xs. xs ++ shown_wait w ∷ map shown_wait (drop place ws)) (sym (take-map shown_wait place ws))
    ∙ ap (λ xs. take place (map shown_wait ws) ++ shown_wait w ∷ xs) (sym (drop-map shown_wait place ws))

pub shown-any : (ws : List Waiter) (s : ℕ) → waits_there (map shown_wait ws) s ≡ list_any (λ w. w.session == s) ws
shown-any [] s = refl
shown-any (w ∷ ws) s = ap (λ b. (w.session == s) || b) (shown-any ws s)

any-at : (ws : List Waiter) (s k : ℕ) → k < length ws → HoldsAt (λ w. (w.session == s) ≡ true) ws k → waits_there (map shown_wait ws) s ≡ true
any-at [] s k within its = absurd (omega arith)
any-at (w ∷ ws) s zero within its = ap (λ b. b || waits_there (map shown_wait ws) s) (its w)
any-at (w ∷ ws) s (suc k) within its =
    elim (cases_Bool (w.session == s)) [
      | inl own ↦ ap (λ b. b || waits_there (map shown_wait ws) s) own
      | inr other ↦ ap (λ b. b || waits_there (map shown_wait ws) s) other ∙ any-at ws s k (omega arith) its
    ]

pub shown-left : (ws : List Waiter) (s k : ℕ) → k < length ws → HoldsAt (λ w. (w.session == s) ≡ true) ws k → count_by (λ wait. wait.session == s) (map shown_wait ws) ≤ 1 →
    map shown_wait (remove ws k) ≡ queue_without (map shown_wait ws) s
shown-left [] s k within its one = absurd (omega arith)
shown-left (w ∷ ws) s zero within its one =
    let own : (w.session == s) ≡ true = its w in
    let sum : count_by (λ (wait : Wait). wait.session == s) (shown_wait w ∷ map shown_wait ws) ≡ (if w.session == s then 1 else 0) + count_by (λ (wait : Wait). wait.session == s) (map shown_wait ws) =
    count_by-cons (λ (wait : Wait). wait.session == s) (shown_wait w) (map shown_wait ws) in
    let one_here : ◌≡◌ {A = ℕ} (if w.session == s then 1 else 0) 1 = ap (λ b. if b then 1 else 0) own in
    let none : waits_there (map shown_wait ws) s ≡ false =
    false_from_ne_true _ (λ some. let more : 0 < count_by (λ (wait : Wait). wait.session == s) (map shown_wait ws) = any-counted (λ (wait : Wait). wait.session == s) (map shown_wait ws) some in omega (arith, one, sum)) in
    sym (cond-false (not (w.session == s)) (shown_wait w ∷ queue_without (map shown_wait ws) s) (queue_without (map shown_wait ws) s) (ap not own) ∙ without-nobody (map shown_wait ws) s none)
shown-left (w ∷ ws) s (suc k) within its one =
    let sum : count_by (λ (wait : Wait). wait.session == s) (shown_wait w ∷ map shown_wait ws) ≡ (if w.session == s then 1 else 0) + count_by (λ (wait : Wait). wait.session == s) (map shown_wait ws) =
    count_by-cons (λ (wait : Wait). wait.session == s) (shown_wait w) (map shown_wait ws) in
    let there : 0 < count_by (λ (wait : Wait). wait.session == s) (map shown_wait ws) = any-counted (λ (wait : Wait). wait.session == s) (map shown_wait ws) (any-at ws s k (omega arith) its) in
    elim (cases_Bool (w.session == s)) [
      | inl own ↦ let one_here : ◌≡◌ {A = ℕ} (if w.session == s then 1 else 0) 1 = ap (λ b. if b then 1 else 0) own in absurd (omega (arith, one, sum))
      | inr other ↦
          ap (λ xs. shown_wait w ∷ xs) (shown-left ws s k (omega arith) its (omega (arith, one, sum)))
          ∙ sym (cond-true (not (w.session == s)) (shown_wait w ∷ queue_without (map shown_wait ws) s) (queue_without (map shown_wait ws) s) (ap not other))
    ]

pub shown-mode : (ws : List Waiter) (s : ℕ) → option_map (λ (w : Waiter). w.mode) (find (λ w. w.session == s) ws) ≡ option_map (λ wait. wait.mode) (wait_in (map shown_wait ws) s)
shown-mode [] s = refl
shown-mode (w ∷ ws) s =
    elim (cases_Bool (w.session == s)) [
      | inl own ↦
          ap (option_map (λ (x : Waiter). x.mode)) (cond-true (w.session == s) (Some w) (find (λ (x : Waiter). x.session == s) ws) own)
          ∙ sym (ap (option_map (λ (x : Wait). x.mode)) (cond-true (w.session == s) (Some (shown_wait w)) (wait_in (map shown_wait ws) s) own))
      | inr other ↦
          ap (option_map (λ (x : Waiter). x.mode)) (cond-false (w.session == s) (Some w) (find (λ (x : Waiter). x.session == s) ws) other)
          ∙ shown-mode ws s
          ∙ sym (ap (option_map (λ (x : Wait). x.mode)) (cond-false (w.session == s) (Some (shown_wait w)) (wait_in (map shown_wait ws) s) other))
    ]

-- What a place with a record and none at it counts.
pub counted-at : (slots : List (Option QueueRecord)) (k : ℕ) (q : QueueRecord) → queue_at slots k ≡ Some q → waits_of (queue_at slots k) ≡ length q.waiters.items
counted-at slots k q there = ap waits_of there

uncounted-at : (slots : List (Option QueueRecord)) (k : ℕ) → queue_at slots k ≡ None → waits_of (queue_at slots k) ≡ 0
uncounted-at slots k none = ap waits_of none

-- The record of an object was written at its place, with other waits, or was taken out.
module _ (old new : List (Option QueueRecord)) (t : Tag) (k : ℕ) (q r : QueueRecord) (are : AreQueues old) (there : queue_at old k ≡ Some q) (on : q.tag ≡ t) (others : (j : ℕ) → j ≢ k → queue_at new j ≡ queue_at old j) where
  its : IsQueueAt old t k
  its = record { queue = q; there = there; on = on }

  module _ (here : queue_at new k ≡ Some r) (still : r.tag ≡ t) (filled : r.waiters.items ≢ []) where
    pub requeued-are : AreQueues new
    requeued-are = queues-rewritten old new t k r are its here still filled others

    pub requeued-queue : (queue : List Wait) → map shown_wait r.waiters.items ≡ queue → queue_on new ≡ put tag_eq (queue_on old) t queue
    requeued-queue queue is =
        queue-put old new t k queue (record { others = others; was_its = its-alone old t k q there on; is_its = its-alone new t k r here still })
        (queue-is new t k requeued-are (record { queue = r; there = here; on = still }) ∙ is)

    pub requeued-total : waiting_in new + length q.waiters.items ≡ waiting_in old + length r.waiters.items
    requeued-total = let sum = waiting-written old new k others in let was = counted-at old k q there in let now = counted-at new k r here in omega arith

    is-it : (o : Tag) (j : ℕ) (i : IsQueueAt new o j) → j ≡ k → i.queue ≡ r
    is-it o j i e = queue-record new k i.queue r (ap (queue_at new) (sym e) ∙ i.there) here

    pub requeued-has-room : vec_len r.waiters < vec_capacity r.waiters → HasRoomInQueue new t
    requeued-has-room less some j i =
        subst (λ (x : QueueRecord). vec_len x.waiters < vec_capacity x.waiters)
        (sym (is-it t j i (requeued-are.once t j k i (record { queue = r; there = here; on = still })))) less

    pub requeued-room : vec_capacity r.waiters ≡ vec_capacity q.waiters → vec_len r.waiters ≤ vec_len q.waiters → (o : Tag) → HasRoomInQueue old o → HasRoomInQueue new o
    requeued-room same fewer o room some j i =
        elim (cases_eq j k) [
          | inl e ↦
              let was : IsQueueAt old o k = record { queue = q; there = there; on = on ∙ sym still ∙ ap (λ (x : QueueRecord). x.tag) (sym (is-it o j i e)) ∙ i.on } in
              let less : vec_len q.waiters < vec_capacity q.waiters = room (somebody-there old o k are was) k was in
              let now : vec_len r.waiters < vec_capacity r.waiters = omega arith in
              subst (λ (x : QueueRecord). vec_len x.waiters < vec_capacity x.waiters) (sym (is-it o j i e)) now
          | inr apart ↦
              let was : IsQueueAt old o j = record { queue = i.queue; there = sym (others j apart) ∙ i.there; on = i.on } in
              room (somebody-there old o j are was) j was
        ]

  module _ (gone : queue_at new k ≡ None) where
    pub dropped-are : AreQueues new
    dropped-are = queues-less old new k are gone others

    not-there : (j : ℕ) → is_queue_of t (queue_at new j) ≡ false
    not-there j =
        elim (cases_eq j k) [
          | inl e ↦ ap (is_queue_of t) (ap (queue_at new) e ∙ gone)
          | inr apart ↦ false_from_ne_true _ (λ is.
              let at = is_queue-at new t j is in
              apart (are.once t j k (record { queue = at.queue; there = sym (others j apart) ∙ at.there; on = at.on }) its))
        ]

    pub dropped-queue : queue_on new ≡ put tag_eq (queue_on old) t []
    dropped-queue =
        queue-put old new t k [] (record { others = others; was_its = its-alone old t k q there on; is_its = λ o other. ap (waits_at o) gone }) (queue-absent new t not-there)

    pub dropped-room : (o : Tag) → HasRoomInQueue old o → HasRoomInQueue new o
    dropped-room o room some j i =
        elim (cases_eq j k) [
          | inl e ↦ let none : queue_at new j ≡ None = ap (queue_at new) e ∙ gone in let there_is = i.there in let no_way : ⊥ = cc in absurd no_way
          | inr apart ↦
              let was : IsQueueAt old o j = record { queue = i.queue; there = sym (others j apart) ∙ i.there; on = i.on } in
              room (somebody-there old o j are was) j was
        ]

    pub dropped-total : waiting_in new + length q.waiters.items ≡ waiting_in old
    dropped-total = let sum = waiting-written old new k others in let was = counted-at old k q there in let now = uncounted-at new k gone in omega arith

-- The first record of an object.
module _ (old new : List (Option QueueRecord)) (t : Tag) (k : ℕ) (r : QueueRecord) (are : AreQueues old) (none : queue_on old t ≡ []) (vacant : queue_at old k ≡ None) (here : queue_at new k ≡ Some r) (on : r.tag ≡ t) (filled : r.waiters.items ≢ []) (others : (j : ℕ) → j ≢ k → queue_at new j ≡ queue_at old j) where
  pub started-are : AreQueues new
  started-are = queues-more old new t k r are (no-queue old t are none) here on filled others

  pub started-queue : (queue : List Wait) → map shown_wait r.waiters.items ≡ queue → queue_on new ≡ put tag_eq (queue_on old) t queue
  started-queue queue is =
      queue-put old new t k queue (record { others = others; was_its = λ o other. ap (waits_at o) vacant; is_its = its-alone new t k r here on })
      (queue-is new t k started-are (record { queue = r; there = here; on = on }) ∙ is)

  pub started-total : waiting_in new ≡ waiting_in old + length r.waiters.items
  started-total = let sum = waiting-written old new k others in let was = uncounted-at old k vacant in let now = counted-at new k r here in omega arith

-- The queue that is left without a session's wait.
pub left-shown : (old : List (Option QueueRecord)) (t : Tag) (k : ℕ) (q : QueueRecord) (ws : List Waiter) (s place : ℕ) → AreQueues old → queue_at old k ≡ Some q → q.tag ≡ t → ws ≡ remove q.waiters.items place →
    place < length q.waiters.items → HoldsAt (λ w. (w.session == s) ≡ true) q.waiters.items place → count_by (λ wait. wait.session == s) (queue_on old t) ≤ 1 →
    map shown_wait ws ≡ queue_without (queue_on old t) s
left-shown old t k q ws s place are there on removed within at once =
    let was = queue-is old t k are (record { queue = q; there = there; on = on }) in
    let one : count_by (λ (wait : Wait). wait.session == s) (map shown_wait q.waiters.items) ≡ count_by (λ (wait : Wait). wait.session == s) (queue_on old t) = ap (count_by (λ (wait : Wait). wait.session == s)) (sym was) in
    ap (map shown_wait) removed ∙ shown-left q.waiters.items s place within at (omega arith) ∙ ap (λ queue. queue_without queue s) (sym was)

-- Where nobody waits, no queue has a wait.
shown-none : (t : Tag) (slot : Option QueueRecord) → waits_of slot ≡ 0 → waits_at t slot ≡ []
shown-none t None none = refl
shown-none t (Some q) none =
    elim (cases_Bool (tag_eq t q.tag)) [
      | inl its ↦ cond-true (tag_eq t q.tag) (map shown_wait q.waiters.items) [] its ∙ nothing q.waiters.items none
      | inr other ↦ cond-false (tag_eq t q.tag) (map shown_wait q.waiters.items) [] other
    ] where
      nothing : (ws : List Waiter) → length ws ≡ 0 → map shown_wait ws ≡ []
      nothing [] none = refl
      nothing (w ∷ ws) none = absurd (omega arith)

pub nobody-waits : (slots : List (Option QueueRecord)) (t : Tag) → waiting_in slots ≡ 0 → queue_on slots t ≡ []
unfolding total_of queue_on
nobody-waits [] t none = refl
nobody-waits (s ∷ slots) t none =
    ap (λ ws. ws ++ queue_on slots t) (shown-none t s (let here : waits_of s ≡ 0 = omega arith in here)) ∙ nobody-waits slots t (let rest : waiting_in slots ≡ 0 = omega arith in rest)
