use Rattle.std.proofs.Common.{◌≡◌, ◌≢◌, ℕ, zero, suc, ◌+◌, ◌<◌, vec_capacity, true, false, List, [], ◌∷◌, ◌++◌, length, map, Option, Some, None, arith, refl, sym, ap, ◌∙◌, inl, inr}
use Rattle.std.proofs.Math.ListN.{set}
use Rattle.std.specs.Prelude.{count_by, is_some, if◌then◌else◌}
use Rattle.std.proofs.lemmas.Bool.{cases_Bool, cases_eq, cases_lt, false≢true, false_from_ne_true, cond-true, cond-false}
use Rattle.std.proofs.lemmas.List.{append-nil, get_or-set_same, get_or-set_other, get_or_past}
use Rattle.modes_core.specs.declared.tags.Tag.{Tag}
use Rattle.modes_core.specs.Tag.{tag_eq}
use Rattle.modes_core.proofs.Lemmas.Conflicts.{tag_eq-same, tag_eq-refl}
use Rattle.lock_table.specs.Put.{put}
use Rattle.lock_table.specs.Content.{Wait}
use Rattle.lock_table.specs.Waiter.{shown_wait}
use Rattle.lock_table.specs.declared.waits.Waiter.{Waiter}
use Rattle.lock_table.proofs.Lemmas.Options.{one_some}
use Rattle.lock_table.proofs.Lemmas.Put.{put_here, put_else}
use Rattle.lock_table.proofs.Lemmas.HoldLists.{count_by-cons}
use Rattle.lock_records.specs.declared.wait_queues.QueueRecord.{QueueRecord}
use Rattle.lock_records.specs.Queues.{queue_at, is_queue_of, waits_at, queue_on, waits_of, room_of, total_of, waiting_in, room_in, IsQueueAt, AreQueues, QueuesView, HasSameQueues}

-- Lists of places that show the same waits of an object.
pub queue-same : (old new : List (Option QueueRecord)) (t : Tag) → ((j : ℕ) → waits_at t (queue_at new j) ≡ waits_at t (queue_at old j)) → queue_on new t ≡ queue_on old t
unfolding queue_on
queue-same [] [] t same = refl
queue-same [] (s ∷ new) t same = ap (λ ws. ws ++ queue_on new t) (same 0) ∙ queue-same [] new t (λ j. same (suc j))
queue-same (s ∷ old) [] t same = sym (ap (λ ws. ws ++ queue_on old t) (sym (same 0)) ∙ sym (queue-same old [] t (λ j. same (suc j))))
queue-same (s ∷ old) (s' ∷ new) t same = ap (λ ws. ws ++ queue_on new t) (same 0) ∙ ap (λ ws. waits_at t s ++ ws) (queue-same old new t (λ j. same (suc j)))

queue-none : (slots : List (Option QueueRecord)) (t : Tag) → ((j : ℕ) → waits_at t (queue_at slots j) ≡ []) → queue_on slots t ≡ []
unfolding queue_on
queue-none slots t none = queue-same [] slots t none

-- The only place that shows waits of an object has its queue.
queue-there : (slots : List (Option QueueRecord)) (t : Tag) (k : ℕ) → ((j : ℕ) → j ≢ k → waits_at t (queue_at slots j) ≡ []) → queue_on slots t ≡ waits_at t (queue_at slots k)
unfolding queue_on
queue-there [] t k alone = refl
queue-there (s ∷ slots) t zero alone = ap (λ ws. waits_at t s ++ ws) (queue-none slots t (λ j. alone (suc j) (λ e. omega arith))) ∙ append-nil (waits_at t s)
queue-there (s ∷ slots) t (suc k) alone =
    ap (λ ws. ws ++ queue_on slots t) (alone 0 (λ e. omega arith)) ∙ queue-there slots t k (λ j other. alone (suc j) (λ e. other (omega arith)))

-- What a place shows of an object.
pub queue-record : (slots : List (Option QueueRecord)) (k : ℕ) (q r : QueueRecord) → queue_at slots k ≡ Some q → queue_at slots k ≡ Some r → q ≡ r
queue-record slots k q r one two = one_some (queue_at slots k) q r one two

waits-there : (slots : List (Option QueueRecord)) (t : Tag) (k : ℕ) (i : IsQueueAt slots t k) → waits_at t (queue_at slots k) ≡ map shown_wait i.queue.waiters.items
waits-there slots t k i =
    ap (waits_at t) i.there ∙ cond-true (tag_eq t i.queue.tag) (map shown_wait i.queue.waiters.items) [] (ap (tag_eq t) i.on ∙ tag_eq-refl t)

waits-off : (slot : Option QueueRecord) (o : Tag) → is_queue_of o slot ≡ false → waits_at o slot ≡ []
waits-off None o off = refl
waits-off (Some q) o off = cond-false (tag_eq o q.tag) (map shown_wait q.waiters.items) [] off

pub is_queue-at : (slots : List (Option QueueRecord)) (t : Tag) (k : ℕ) → is_queue_of t (queue_at slots k) ≡ true → IsQueueAt slots t k
is_queue-at slots t k is = at (queue_at slots k) refl is where
  at : (slot : Option QueueRecord) → queue_at slots k ≡ slot → is_queue_of t slot ≡ true → IsQueueAt slots t k
  at None there e = absurd (false≢true e)
  at (Some q) there e = record { queue = q; there = there; on = sym (tag_eq-same t q.tag e) }

waits-else : (slots : List (Option QueueRecord)) (t : Tag) (j : ℕ) → (IsQueueAt slots t j → ⊥) → waits_at t (queue_at slots j) ≡ []
waits-else slots t j not_its = waits-off (queue_at slots j) t (false_from_ne_true _ (λ is. not_its (is_queue-at slots t j is)))

-- The queue of an object is that of its record, and an object with no record has none.
pub queue-is : (slots : List (Option QueueRecord)) (t : Tag) (k : ℕ) → AreQueues slots → (i : IsQueueAt slots t k) → queue_on slots t ≡ map shown_wait i.queue.waiters.items
queue-is slots t k are i = queue-there slots t k (λ j other. waits-else slots t j (λ at. other (are.once t j k at i))) ∙ waits-there slots t k i

pub queue-absent : (slots : List (Option QueueRecord)) (t : Tag) → ((j : ℕ) → is_queue_of t (queue_at slots j) ≡ false) → queue_on slots t ≡ []
queue-absent slots t none = queue-none slots t (λ j. waits-off (queue_at slots j) t (none j))

-- An object with an empty queue has no record.
pub no-queue : (slots : List (Option QueueRecord)) (t : Tag) → AreQueues slots → queue_on slots t ≡ [] → (j : ℕ) → IsQueueAt slots t j → ⊥
no-queue slots t are none j i = are.some t j i (nothing-shown i.queue.waiters.items (sym (queue-is slots t j are i) ∙ none)) where
  nothing-shown : (ws : List Waiter) → map shown_wait ws ≡ [] → ws ≡ []
  nothing-shown [] e = refl
  nothing-shown (w ∷ ws) e = let no_way : ⊥ = cc in absurd no_way

-- So somebody awaits an object that has one.
pub somebody-there : (slots : List (Option QueueRecord)) (t : Tag) (k : ℕ) → AreQueues slots → IsQueueAt slots t k → queue_on slots t ≢ []
somebody-there slots t k are i none = no-queue slots t are none k i

-- A place was written, at which the object alone had waits and has some.
pub record IsWritten (old new : List (Option QueueRecord)) (t : Tag) (k : ℕ) : Type 0 where
  pub others : (j : ℕ) → j ≢ k → queue_at new j ≡ queue_at old j
  pub was_its : (o : Tag) → tag_eq o t ≡ false → waits_at o (queue_at old k) ≡ []
  pub is_its : (o : Tag) → tag_eq o t ≡ false → waits_at o (queue_at new k) ≡ []

pub its-alone : (slots : List (Option QueueRecord)) (t : Tag) (k : ℕ) (q : QueueRecord) → queue_at slots k ≡ Some q → q.tag ≡ t → (o : Tag) → tag_eq o t ≡ false → waits_at o (queue_at slots k) ≡ []
its-alone slots t k q there on o other = ap (waits_at o) there ∙ waits-off (Some q) o (ap (tag_eq o) on ∙ other)

pub queue-put : (old new : List (Option QueueRecord)) (t : Tag) (k : ℕ) (queue : List Wait) → IsWritten old new t k → queue_on new t ≡ queue → queue_on new ≡ put tag_eq (queue_on old) t queue
queue-put old new t k queue written is = λ i o. at o i where
  at : (o : Tag) → queue_on new o ≡ put tag_eq (queue_on old) t queue o
  at o =
      elim (cases_Bool (tag_eq o t)) [
        | inl same ↦ ap (queue_on new) (tag_eq-same o t same) ∙ is ∙ sym (put_here tag_eq (queue_on old) t queue o same)
        | inr other ↦ queue-same old new o (λ j. elim (cases_eq j k) [
          | inl e ↦ ap (λ x. waits_at o (queue_at new x)) e ∙ written.is_its o other ∙ sym (ap (λ x. waits_at o (queue_at old x)) e ∙ written.was_its o other)
          | inr apart ↦ ap (waits_at o) (written.others j apart)
        ]) ∙ sym (put_else tag_eq (queue_on old) t queue o other)
      ]

-- What all places have together, after a write.
module _ (one : Option QueueRecord → ℕ) (nothing : one None ≡ 0) where
  total-same : (old new : List (Option QueueRecord)) → ((j : ℕ) → queue_at new j ≡ queue_at old j) → total_of one new ≡ total_of one old
  unfolding total_of
  total-same [] [] same = refl
  total-same [] (s ∷ new) same =
      let here : one s ≡ 0 = ap one (same 0) ∙ nothing in
      let rest : total_of one new ≡ 0 = total-same [] new (λ j. same (suc j)) in
      omega arith
  total-same (s ∷ old) [] same =
      let here : 0 ≡ one s = sym nothing ∙ ap one (same 0) in
      let rest : 0 ≡ total_of one old = total-same old [] (λ j. same (suc j)) in
      omega arith
  total-same (s ∷ old) (s' ∷ new) same =
      let here : one s' ≡ one s = ap one (same 0) in
      let rest : total_of one new ≡ total_of one old = total-same old new (λ j. same (suc j)) in
      omega arith

  pub total-written : (old new : List (Option QueueRecord)) (k : ℕ) → ((j : ℕ) → j ≢ k → queue_at new j ≡ queue_at old j) → total_of one new + one (queue_at old k) ≡ total_of one old + one (queue_at new k)
  unfolding total_of
  total-written [] [] k others = refl
  total-written [] (s ∷ new) zero others =
      let rest : total_of one new ≡ 0 = total-same [] new (λ j. others (suc j) (λ e. omega arith)) in
      let sum : one s + total_of one new + one None ≡ 0 + one s = omega (arith, nothing) in
      sum
  total-written [] (s ∷ new) (suc k) others =
      let here : one s ≡ 0 = ap one (others 0 (λ e. omega arith)) ∙ nothing in
      let rest : total_of one new + one None ≡ 0 + one (queue_at new k) = total-written [] new k (λ j other. others (suc j) (λ e. other (omega arith))) in
      let sum : one s + total_of one new + one None ≡ 0 + one (queue_at new k) = omega arith in
      sum
  total-written (s ∷ old) [] zero others =
      let rest : 0 ≡ total_of one old = total-same old [] (λ j. others (suc j) (λ e. omega arith)) in
      let sum : 0 + one s ≡ one s + total_of one old + one None = omega (arith, nothing) in
      sum
  total-written (s ∷ old) [] (suc k) others =
      let here : 0 ≡ one s = sym nothing ∙ ap one (others 0 (λ e. omega arith)) in
      let rest : 0 + one (queue_at old k) ≡ total_of one old + one None = total-written old [] k (λ j other. others (suc j) (λ e. other (omega arith))) in
      let sum : 0 + one (queue_at old k) ≡ one s + total_of one old + one None = omega arith in
      sum
  total-written (s ∷ old) (s' ∷ new) zero others =
      let rest : total_of one new ≡ total_of one old = total-same old new (λ j. others (suc j) (λ e. omega arith)) in
      let sum : one s' + total_of one new + one s ≡ one s + total_of one old + one s' = omega arith in
      sum
  total-written (s ∷ old) (s' ∷ new) (suc k) others =
      let here : one s' ≡ one s = ap one (others 0 (λ e. omega arith)) in
      let rest : total_of one new + one (queue_at old k) ≡ total_of one old + one (queue_at new k) = total-written old new k (λ j other. others (suc j) (λ e. other (omega arith))) in
      let sum : one s' + total_of one new + one (queue_at old k) ≡ one s + total_of one old + one (queue_at new k) = omega arith in
      sum

pub waiting-none : waiting_in [] ≡ 0
unfolding total_of
waiting-none = refl

-- How many waits there are, and for how many there is room, after a write.
pub waiting-written : (old new : List (Option QueueRecord)) (k : ℕ) → ((j : ℕ) → j ≢ k → queue_at new j ≡ queue_at old j) → waiting_in new + waits_of (queue_at old k) ≡ waiting_in old + waits_of (queue_at new k)
waiting-written = total-written waits_of refl

room-written : (old new : List (Option QueueRecord)) (k : ℕ) → ((j : ℕ) → j ≢ k → queue_at new j ≡ queue_at old j) → room_in new + room_of (queue_at old k) ≡ room_in old + room_of (queue_at new k)
room-written = total-written room_of refl

module _ (old new : List (Option QueueRecord)) (k : ℕ) (others : (j : ℕ) → j ≢ k → queue_at new j ≡ queue_at old j) where
  pub room-rewritten : (q r : QueueRecord) → queue_at old k ≡ Some q → queue_at new k ≡ Some r → vec_capacity r.waiters ≡ vec_capacity q.waiters → room_in new ≡ room_in old
  room-rewritten q r there here same =
      let sum = room-written old new k others in
      let was : room_of (queue_at old k) ≡ vec_capacity q.waiters = ap room_of there in
      let now : room_of (queue_at new k) ≡ vec_capacity r.waiters = ap room_of here in
      omega arith

  pub room-started : (r : QueueRecord) → queue_at old k ≡ None → queue_at new k ≡ Some r → room_in new ≡ room_in old + vec_capacity r.waiters
  room-started r vacant here =
      let sum = room-written old new k others in
      let was : room_of (queue_at old k) ≡ 0 = ap room_of vacant in
      let now : room_of (queue_at new k) ≡ vec_capacity r.waiters = ap room_of here in
      omega arith

  pub room-dropped : (q : QueueRecord) → queue_at old k ≡ Some q → queue_at new k ≡ None → room_in new + vec_capacity q.waiters ≡ room_in old
  room-dropped q there gone =
      let sum = room-written old new k others in
      let was : room_of (queue_at old k) ≡ vec_capacity q.waiters = ap room_of there in
      let now : room_of (queue_at new k) ≡ 0 = ap room_of gone in
      omega arith

pub queues-none : AreQueues []
queues-none = record {
  once = λ t k j one two. let there = one.there in let no_way : ⊥ = cc in absurd no_way;
  some = λ t k i. let there = i.there in let no_way : ⊥ = cc in absurd no_way;
}

-- A record written in place.
queue-within : (slots : List (Option QueueRecord)) (k : ℕ) (q : QueueRecord) → queue_at slots k ≡ Some q → k < length slots
queue-within slots k q there =
    elim (cases_lt k (length slots)) [
      | inl it ↦ it
      | inr past ↦ let none : queue_at slots k ≡ None = get_or_past slots k None past in let no_way : ⊥ = cc in absurd no_way
    ]

pub set-here : (slots : List (Option QueueRecord)) (k : ℕ) (q r : QueueRecord) → queue_at slots k ≡ Some q → queue_at (set slots k (Some r)) k ≡ Some r
set-here slots k q r there = get_or-set_same slots k (Some r) None (queue-within slots k q there)

pub set-else : (slots : List (Option QueueRecord)) (k : ℕ) (r : QueueRecord) → (j : ℕ) → j ≢ k → queue_at (set slots k (Some r)) j ≡ queue_at slots j
set-else slots k r j other = get_or-set_other slots k j (Some r) None other

-- A record in place of another one leaves as many.
pub count-set : (slots : List (Option QueueRecord)) (k : ℕ) (q r : QueueRecord) → queue_at slots k ≡ Some q → count_by is_some (set slots k (Some r)) ≡ count_by is_some slots
count-set [] k q r there = let no_way : ⊥ = cc in absurd no_way
count-set (s ∷ slots) zero q r there =
    let old : count_by is_some (s ∷ slots) ≡ (if is_some s then 1 else 0) + count_by is_some slots = count_by-cons is_some s slots in
    let new : count_by is_some (Some r ∷ slots) ≡ 1 + count_by is_some slots = count_by-cons is_some (Some r) slots in
    let was : ◌≡◌ {A = ℕ} (if is_some s then 1 else 0) 1 = ap (λ (x : Option QueueRecord). if is_some x then 1 else 0) there in
    new ∙ (let sum : 1 + count_by is_some slots ≡ count_by is_some (s ∷ slots) = omega arith in sum)
count-set (s ∷ slots) (suc k) q r there =
    let old : count_by is_some (s ∷ slots) ≡ (if is_some s then 1 else 0) + count_by is_some slots = count_by-cons is_some s slots in
    let new : count_by is_some (s ∷ set slots k (Some r)) ≡ (if is_some s then 1 else 0) + count_by is_some (set slots k (Some r)) = count_by-cons is_some s (set slots k (Some r)) in
    let rest : count_by is_some (set slots k (Some r)) ≡ count_by is_some slots = count-set slots k q r there in
    new ∙ (let sum : (if is_some s then 1 else 0) + count_by is_some (set slots k (Some r)) ≡ count_by is_some (s ∷ slots) = omega arith in sum)

-- A record with the same waits in place of another one leaves all waits.
pub waits-same :
    (old : List (Option QueueRecord)) (k : ℕ) (q r : QueueRecord) → queue_at old k ≡ Some q → r.tag ≡ q.tag → r.waiters.items ≡ q.waiters.items → queue_on (set old k (Some r)) ≡ queue_on old
waits-same old k q r there tags items = λ i o. at o i where
  alike : (o : Tag) → waits_at o (Some r) ≡ waits_at o (Some q)
  alike o = λ i. if tag_eq o (tags i) then map shown_wait (items i) else []

  at : (o : Tag) → queue_on (set old k (Some r)) o ≡ queue_on old o
  at o =
      queue-same old (set old k (Some r)) o (λ j. elim (cases_eq j k) [
        | inl e ↦
            ap (λ x. waits_at o (queue_at (set old k (Some r)) x)) e ∙ ap (waits_at o) (set-here old k q r there) ∙ alike o
            ∙ sym (ap (λ x. waits_at o (queue_at old x)) e ∙ ap (waits_at o) there)
        | inr apart ↦ ap (waits_at o) (set-else old k r j apart)
      ])

pub queues-unchanged : (queues : QueuesView) → HasSameQueues queues queues
queues-unchanged queues = record { waits = refl; total = refl; count = refl; capacity = refl; spare = refl }

-- The records, with another one of the same object at a place.
pub queues-rewritten :
    (old new : List (Option QueueRecord)) (t : Tag) (k : ℕ) (r : QueueRecord) → AreQueues old → IsQueueAt old t k → queue_at new k ≡ Some r → r.tag ≡ t → r.waiters.items ≢ [] →
    ((j : ℕ) → j ≢ k → queue_at new j ≡ queue_at old j) → AreQueues new
queues-rewritten old new t k r are i here on filled others = record {
  once = λ o a b one two. are.once o a b (was o a one) (was o b two);
  some = λ o j at. elim (cases_eq j k) [
    | inl e ↦ λ none. filled (ap (λ (q : QueueRecord). q.waiters.items) (queue-record new k r at.queue here (ap (queue_at new) (sym e) ∙ at.there)) ∙ none)
    | inr apart ↦ are.some o j (record { queue = at.queue; there = sym (others j apart) ∙ at.there; on = at.on })
  ];
} where
  was : (o : Tag) (j : ℕ) → IsQueueAt new o j → IsQueueAt old o j
  was o j at =
      elim (cases_eq j k) [
        | inl e ↦ record {
          queue = i.queue;
          there = ap (queue_at old) e ∙ i.there;
          on = i.on ∙ sym on ∙ ap (λ (q : QueueRecord). q.tag) (queue-record new k r at.queue here (ap (queue_at new) (sym e) ∙ at.there)) ∙ at.on;
        }
        | inr apart ↦ record { queue = at.queue; there = sym (others j apart) ∙ at.there; on = at.on }
      ]

-- With one more, of an object that had none.
pub queues-more :
    (old new : List (Option QueueRecord)) (t : Tag) (k : ℕ) (r : QueueRecord) → AreQueues old → ((j : ℕ) → IsQueueAt old t j → ⊥) → queue_at new k ≡ Some r → r.tag ≡ t → r.waiters.items ≢ [] →
    ((j : ℕ) → j ≢ k → queue_at new j ≡ queue_at old j) → AreQueues new
queues-more old new t k r are none here on filled others = record {
  once = λ o a b one two. elim (cases_eq a k) [
    | inl e ↦ elim (cases_eq b k) [
      | inl f ↦ e ∙ sym f
      | inr apart ↦ absurd (none b (at-else o b apart (its o a e one) two))
    ]
    | inr apart ↦ elim (cases_eq b k) [
      | inl f ↦ absurd (none a (at-else o a apart (its o b f two) one))
      | inr other ↦ are.once o a b (was o a apart one) (was o b other two)
    ]
  ];
  some = λ o j at. elim (cases_eq j k) [
    | inl e ↦ λ empty. filled (ap (λ (q : QueueRecord). q.waiters.items) (queue-record new k r at.queue here (ap (queue_at new) (sym e) ∙ at.there)) ∙ empty)
    | inr apart ↦ are.some o j (was o j apart at)
  ];
} where
  was : (o : Tag) (j : ℕ) → j ≢ k → (at : IsQueueAt new o j) → IsQueueAt old o j
  was o j apart at = record { queue = at.queue; there = sym (others j apart) ∙ at.there; on = at.on }

  its : (o : Tag) (j : ℕ) → j ≡ k → IsQueueAt new o j → o ≡ t
  its o j e at = sym at.on ∙ ap (λ (q : QueueRecord). q.tag) (sym (queue-record new k r at.queue here (ap (queue_at new) (sym e) ∙ at.there))) ∙ on

  at-else : (o : Tag) (j : ℕ) → j ≢ k → o ≡ t → IsQueueAt new o j → IsQueueAt old t j
  at-else o j apart same at = record { queue = at.queue; there = sym (others j apart) ∙ at.there; on = at.on ∙ same }

-- With one less.
pub queues-less : (old new : List (Option QueueRecord)) (k : ℕ) → AreQueues old → queue_at new k ≡ None → ((j : ℕ) → j ≢ k → queue_at new j ≡ queue_at old j) → AreQueues new
queues-less old new k are gone others = record {
  once = λ o a b one two. are.once o a b (was o a one (apart o a one)) (was o b two (apart o b two));
  some = λ o j at. are.some o j (was o j at (apart o j at));
} where
  apart : (o : Tag) (j : ℕ) → IsQueueAt new o j → j ≢ k
  apart o j at e = let none : queue_at new j ≡ None = ap (queue_at new) e ∙ gone in let there = at.there in let no_way : ⊥ = cc in no_way

  was : (o : Tag) (j : ℕ) (at : IsQueueAt new o j) → j ≢ k → IsQueueAt old o j
  was o j at other = record { queue = at.queue; there = sym (others j other) ∙ at.there; on = at.on }
