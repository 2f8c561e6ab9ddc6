use Rattle.std.proofs.Common.{◌≡◌, ℕ, ◌<◌, true, false, List, Option, refl, sym, ap, ◌∙◌, subst, inl, inr}
use Rattle.std.proofs.lemmas.Bool.{both_ways, eqb-true, and_parts}
use Rattle.modes_core.specs.declared.modes.Mode.{Mode}
use Rattle.modes_core.specs.declared.tags.Tag.{Tag}
use Rattle.modes_core.specs.Tag.{tag_eq}
use Rattle.modes_core.proofs.Lemmas.Conflicts.{mode_eq-same, tag_eq-refl}
use Rattle.place_index.specs.Notes.{Notes}
use Rattle.lock_table.specs.Put.{put}
use Rattle.lock_table.specs.Content.{Wait, set_hold}
use Rattle.lock_table.specs.Queue.{awaits_mode, waits_there, queue_without, joined}
use Rattle.lock_records.specs.declared.wait_queues.QueueRecord.{QueueRecord}
use Rattle.lock_records.specs.Queues.{queue_on}
use Rattle.lock_table.proofs.Lemmas.Put.{put_here, put_else}
use Rattle.lock_table.proofs.Lemmas.Holds.{set_hold-at, here, elsewhere, set_hold-here}
use Rattle.lock_records.specs.Tally.{counts_in, one_more, one_less}
use Rattle.lock_records.specs.Counting.{awaited_of}
use Rattle.lock_records.specs.declared.holders.HolderRecord.{HolderRecord}
use Rattle.lock_records.specs.declared.locks.LockRecord.{LockRecord}
use Rattle.lock_records.specs.Holders.{holds_in, AreHolders, HasSameElse, SetsHold}
use Rattle.lock_records.specs.Locks.{IsLockAt, AreNoted, HasMadeLock, IsRelocked, IsDropped}
use Rattle.lock_records.specs.Objects.{IsHeldLock, IsLock, IsQueue, IsObject, AreObjects}
use Rattle.lock_records.proofs.Lemmas.Indexes.{same-lock, same-then, same-relocked, noted-relocked}
use Rattle.lock_records.proofs.Lemmas.Queues.{IsAround, around, awaited-without, awaited-joined, one-each-without, one-each-joined, any-filter, any-joined, joined-some, awaits-left}
use Rattle.lock_records.proofs.Lemmas.Objects.{object-at, object-none, made-lock, objects-close, used-counted, unused-holder, unused-queue}
use Rattle.modes_core.specs.Sessions.{most_sessions}

pub same-holders : (slots : List (Option HolderRecord)) (tag : Tag) → HasSameElse slots slots tag
same-holders slots tag = record { kept = λ k h there other. there; no_more = λ k h there other. there }

-- A queue stays right as its object is held in one mode more that its session doesn't await, or in one less.
pub queue-more :
    (holders holders' : List (Option HolderRecord)) (queue : List Wait) (s : ℕ) (t : Tag) (m : Mode) → holds_in holders' ≡ set_hold (holds_in holders) s t m true → awaits_mode queue s m ≡ false →
    IsQueue holders queue t → IsQueue holders' queue t
queue-more holders holders' queue s t m is not_awaited waiting = record {
  one_each = waiting.one_each;
  below = waiting.below;
  apart = λ k n awaits. ap (λ holds. holds k t n) is ∙ at k n awaits;
} where
  at : (k : ℕ) (n : Mode) → awaits_mode queue k n ≡ true → set_hold (holds_in holders) s t m true k t n ≡ false
  at k n awaits =
      elim (set_hold-at (holds_in holders) s t m true k t n) [
        | here it e ↦ absurd (both_ways _ not_awaited (subst (λ x. awaits_mode queue s x ≡ true) it.mode (subst (λ x. awaits_mode queue x n ≡ true) it.session awaits)))
        | elsewhere not_it e ↦ e ∙ waiting.apart k n awaits
      ]

pub queue-less :
    (holders holders' : List (Option HolderRecord)) (queue : List Wait) (s : ℕ) (t : Tag) (m : Mode) → holds_in holders' ≡ set_hold (holds_in holders) s t m false →
    IsQueue holders queue t → IsQueue holders' queue t
queue-less holders holders' queue s t m is waiting = record {
  one_each = waiting.one_each;
  below = waiting.below;
  apart = λ k n awaits. ap (λ holds. holds k t n) is ∙ at k n awaits;
} where
  at : (k : ℕ) (n : Mode) → awaits_mode queue k n ≡ true → set_hold (holds_in holders) s t m false k t n ≡ false
  at k n awaits =
      elim (set_hold-at (holds_in holders) s t m false k t n) [
        | here it e ↦ e
        | elsewhere not_it e ↦ e ∙ waiting.apart k n awaits
      ]

-- A queue stays right without a wait, and with one of a session that doesn't wait there, for a mode that it
-- doesn't hold.
pub queue-without : (holders : List (Option HolderRecord)) (queue : List Wait) (s : ℕ) (t : Tag) → IsQueue holders queue t → IsQueue holders (queue_without queue s) t
queue-without holders queue s t waiting = record {
  one_each = one-each-without queue s waiting.one_each;
  below = λ k there. waiting.below k (any-filter _ _ queue there);
  apart = λ k n awaits. waiting.apart k n (any-filter _ _ queue awaits);
}

pub queue-joined :
    (holders : List (Option HolderRecord)) (queue : List Wait) (place : ℕ) (w : Wait) (t : Tag) → w.session < most_sessions → waits_there queue w.session ≡ false → holds_in holders w.session t w.mode ≡ false →
    IsQueue holders queue t → IsQueue holders (joined place w queue) t
queue-joined holders queue place w t small absent not_held waiting = record {
  one_each = one-each-joined queue place w absent waiting.one_each;
  below = λ k there. elim (any-joined queue place w _ there) [
    | inl was ↦ waiting.below k was
    | inr its ↦ subst (λ x. x < most_sessions) (eqb-true _ _ its) small
  ];
  apart = λ k n awaits. elim (any-joined queue place w _ awaits) [
    | inl was ↦ waiting.apart k n was
    | inr its ↦
        let both = and_parts _ _ its in
        subst (λ x. holds_in holders x t n ≡ false) (eqb-true _ _ both.0) (subst (λ x. holds_in holders w.session t x ≡ false) (mode_eq-same w.mode n both.1) not_held)
  ];
}

-- A hold is granted at the record that was found or made.
pub objects-granted :
    (locks mid locks' : List (Option LockRecord)) (holders holders' : List (Option HolderRecord)) (waits : List (Option QueueRecord)) (s : ℕ) (t : Tag) (m : Mode) (place : ℕ) (index : Notes) →
    AreObjects locks holders waits → HasMadeLock locks mid t place → AreNoted mid index → (r : IsRelocked mid locks' t place) → IsHeldLock holders' t r.is.lock →
    ((n : Mode) → counts_in r.is.lock.awaited n ≡ counts_in r.was.lock.awaited n) → SetsHold holders holders' s t m true → awaits_mode (queue_on waits t) s m ≡ false → AreObjects locks' holders' waits
objects-granted locks mid locks' holders holders' waits s t m place index are made noted r held awaited sets not_awaited =
    objects-close locks locks' holders holders' waits waits t (same-then locks mid locks' t made.same (same-relocked mid locks' t place r)) sets.same (λ o apart. refl) are
    (object-at locks' holders' (queue_on waits t) t place r.is ((noted-relocked mid locks' index t place r noted).once t) is
    (inl (s, m, ap (λ holds. holds s t m) sets.holds ∙ set_hold-here (holds_in holders) s t m true)) sets.are
    (queue-more holders holders' (queue_on waits t) s t m sets.holds not_awaited (are t).waiting)) where
      is : IsLock holders' (queue_on waits t) t r.is.lock
      is = record {
        held = held;
        awaited = λ n.
            let was = made-lock locks mid holders (queue_on waits t) t place (are t) made in
            awaited n ∙ ap (λ (l : LockRecord). counts_in l.awaited n) (same-lock mid place r.was.lock made.at.lock r.was.there made.at.there) ∙ was.awaited n;
      }

-- What the record of an object shows after a step, where it may be gone then.
pub object-dropped :
    (mid locks' : List (Option LockRecord)) (holders : List (Option HolderRecord)) (queue : List Wait) (t : Tag) (place : ℕ) (i : IsLockAt mid t place) →
    ((k j : ℕ) → IsLockAt mid t k → IsLockAt mid t j → k ≡ j) → IsLock holders queue t i.lock → AreHolders holders t → IsQueue holders queue t → IsDropped mid locks' t place → IsObject locks' holders queue t
object-dropped mid locks' holders queue t place i once is are waiting dropped =
    elim dropped.either [
      | inl kept ↦
          subst (λ slots. IsObject slots holders queue t) (sym kept.0)
          (object-at mid holders queue t place i once is (used-counted holders queue t i.lock are is (kept.1 i)) are waiting)
      | inr gone ↦
          let idle = gone.1 i in
          object-none locks' holders queue t gone.0 (unused-holder holders queue t i.lock is idle.0) (unused-queue holders queue t i.lock is idle.1)
    ]

-- A hold is taken out.
pub objects-ungranted :
    (locks mid locks' : List (Option LockRecord)) (holders holders' : List (Option HolderRecord)) (waits : List (Option QueueRecord)) (s : ℕ) (t : Tag) (m : Mode) (place : ℕ) (index : Notes) →
    AreObjects locks holders waits → AreNoted locks index → (r : IsRelocked locks mid t place) → IsHeldLock holders' t r.is.lock →
    ((n : Mode) → counts_in r.is.lock.awaited n ≡ counts_in r.was.lock.awaited n) → SetsHold holders holders' s t m false → IsDropped mid locks' t place → AreObjects locks' holders' waits
objects-ungranted locks mid locks' holders holders' waits s t m place index are noted r held awaited sets dropped =
    objects-close locks locks' holders holders' waits waits t (same-then locks mid locks' t (same-relocked locks mid t place r) dropped.same) sets.same (λ o apart. refl) are
    (object-dropped mid locks' holders' (queue_on waits t) t place r.is ((noted-relocked locks mid index t place r noted).once t)
    (record { held = held; awaited = λ n. awaited n ∙ ((are t).lock place r.was).awaited n }) sets.are
    (queue-less holders holders' (queue_on waits t) s t m sets.holds (are t).waiting) dropped)

-- The record of an object that only waits more or less for it.
pub held-awaited : (holders : List (Option HolderRecord)) (t : Tag) (l l' : LockRecord) → IsHeldLock holders t l → l'.holders ≡ l.holders → l'.granted ≡ l.granted → IsHeldLock holders t l'
held-awaited holders t l l' held same_holders same_granted = record {
  chain = rw same_holders held.chain;
  granted = λ n. ap (λ counts. counts_in counts n) same_granted ∙ held.granted n;
}

-- The record of an object that waits more or less for it, with the counts of its waits.
pub is-awaited :
    (holders : List (Option HolderRecord)) (queue queue' : List Wait) (t : Tag) (l l' : LockRecord) → IsLock holders queue t l → l'.holders ≡ l.holders → l'.granted ≡ l.granted →
    ((n : Mode) → counts_in l'.awaited n ≡ awaited_of queue' n) → IsLock holders queue' t l'
is-awaited holders queue queue' t l l' is same_holders same_granted awaited = record {
  held = held-awaited holders t l l' is.held same_holders same_granted;
  awaited = awaited;
}

-- Queues of which one changed.
pub queues-put : (waits waits' : List (Option QueueRecord)) (t : Tag) (queue : List Wait) → queue_on waits' ≡ put tag_eq (queue_on waits) t queue → queue_on waits' t ≡ queue
queues-put waits waits' t queue is = ap (λ f. f t) is ∙ put_here tag_eq (queue_on waits) t queue t (tag_eq-refl t)

pub queues-else : (waits waits' : List (Option QueueRecord)) (t : Tag) (queue : List Wait) → queue_on waits' ≡ put tag_eq (queue_on waits) t queue → (o : Tag) → tag_eq o t ≡ false → queue_on waits' o ≡ queue_on waits o
queues-else waits waits' t queue is o other = ap (λ f. f o) is ∙ put_else tag_eq (queue_on waits) t queue o other

-- A wait joins at the record that was found or made.
pub objects-joined :
    (locks mid locks' : List (Option LockRecord)) (holders : List (Option HolderRecord)) (waits waits' : List (Option QueueRecord)) (w : Wait) (t : Tag) (at place : ℕ) (index : Notes) →
    AreObjects locks holders waits → HasMadeLock locks mid t place → AreNoted mid index → (r : IsRelocked mid locks' t place) → r.is.lock.holders ≡ r.was.lock.holders → r.is.lock.granted ≡ r.was.lock.granted →
    counts_in r.is.lock.awaited ≡ one_more (counts_in r.was.lock.awaited) w.mode → queue_on waits' ≡ put tag_eq (queue_on waits) t (joined at w (queue_on waits t)) →
    w.session < most_sessions → waits_there (queue_on waits t) w.session ≡ false → holds_in holders w.session t w.mode ≡ false → AreObjects locks' holders waits'
objects-joined locks mid locks' holders waits waits' w t at place index are made noted r same_holders same_granted raised queues small absent not_held =
    objects-close locks locks' holders holders waits waits' t (same-then locks mid locks' t made.same (same-relocked mid locks' t place r)) (same-holders holders t)
    (queues-else waits waits' t (joined at w (queue_on waits t)) queues) are
    (subst (λ queue. IsObject locks' holders queue t) (sym (queues-put waits waits' t (joined at w (queue_on waits t)) queues))
    (object-at locks' holders (joined at w (queue_on waits t)) t place r.is ((noted-relocked mid locks' index t place r noted).once t) is (inr (joined-some (queue_on waits t) at w)) (are t).are
    (queue-joined holders (queue_on waits t) at w t small absent not_held (are t).waiting))) where
      same : r.was.lock ≡ made.at.lock
      same = same-lock mid place r.was.lock made.at.lock r.was.there made.at.there

      was : IsLock holders (queue_on waits t) t r.was.lock
      was = subst (IsLock holders (queue_on waits t) t) (sym same) (made-lock locks mid holders (queue_on waits t) t place (are t) made)

      is : IsLock holders (joined at w (queue_on waits t)) t r.is.lock
      is =
          is-awaited holders (queue_on waits t) (joined at w (queue_on waits t)) t r.was.lock r.is.lock was same_holders same_granted
          (λ n. ap (λ f. f n) raised ∙ ap (λ (counts : Mode → ℕ). one_more counts w.mode n) (λ i k. was.awaited k i) ∙ sym (awaited-joined (queue_on waits t) at w n))

-- A wait leaves.
pub objects-left :
    (locks mid locks' : List (Option LockRecord)) (holders : List (Option HolderRecord)) (waits waits' : List (Option QueueRecord)) (s : ℕ) (m : Mode) (t : Tag) (place : ℕ) (index : Notes) →
    AreObjects locks holders waits → AreNoted locks index → (r : IsRelocked locks mid t place) → r.is.lock.holders ≡ r.was.lock.holders → r.is.lock.granted ≡ r.was.lock.granted →
    counts_in r.is.lock.awaited ≡ one_less (counts_in r.was.lock.awaited) m → queue_on waits' ≡ put tag_eq (queue_on waits) t (queue_without (queue_on waits t) s) →
    awaits_mode (queue_on waits t) s m ≡ true → IsDropped mid locks' t place → AreObjects locks' holders waits'
objects-left locks mid locks' holders waits waits' s m t place index are noted r same_holders same_granted lowered queues awaits dropped =
    objects-close locks locks' holders holders waits waits' t (same-then locks mid locks' t (same-relocked locks mid t place r) dropped.same) (same-holders holders t)
    (queues-else waits waits' t (queue_without (queue_on waits t) s) queues) are
    (subst (λ queue. IsObject locks' holders queue t) (sym (queues-put waits waits' t (queue_without (queue_on waits t) s) queues))
    (object-dropped mid locks' holders (queue_without (queue_on waits t) s) t place r.is ((noted-relocked locks mid index t place r noted).once t)
    (is-less holders (queue_on waits t) s m t r.was.lock r.is.lock ((are t).lock place r.was) same_holders same_granted lowered (around (queue_on waits t) s m (are t).waiting.one_each awaits)) (are t).are
    (queue-without holders (queue_on waits t) s t (are t).waiting) dropped)) where
      is-less : (holders : List (Option HolderRecord)) (queue : List Wait) (s : ℕ) (m : Mode) (t : Tag) (l l' : LockRecord) → IsLock holders queue t l → l'.holders ≡ l.holders → l'.granted ≡ l.granted →
          counts_in l'.awaited ≡ one_less (counts_in l.awaited) m → IsAround queue s m → IsLock holders (queue_without queue s) t l'
      is-less holders queue s m t l l' was same_holders same_granted lowered at =
          is-awaited holders queue (queue_without queue s) t l l' was same_holders same_granted
          (λ n. ap (λ f. f n) lowered ∙ ap (λ (counts : Mode → ℕ). one_less counts m n) (λ i k. was.awaited k i) ∙ sym (awaited-without queue s m at n))

-- A wait becomes a hold.
pub objects-woken :
    (locks mid locks' : List (Option LockRecord)) (holders holders' : List (Option HolderRecord)) (waits waits' : List (Option QueueRecord)) (s : ℕ) (m : Mode) (t : Tag) (place : ℕ) (index : Notes) →
    AreObjects locks holders waits → AreNoted locks index → (r : IsRelocked locks mid t place) →
    counts_in r.is.lock.awaited ≡ one_less (counts_in r.was.lock.awaited) m → queue_on waits' ≡ put tag_eq (queue_on waits) t (queue_without (queue_on waits t) s) →
    awaits_mode (queue_on waits t) s m ≡ true → (q : IsRelocked mid locks' t place) → IsHeldLock holders' t q.is.lock →
    ((n : Mode) → counts_in q.is.lock.awaited n ≡ counts_in q.was.lock.awaited n) → SetsHold holders holders' s t m true → AreObjects locks' holders' waits'
objects-woken locks mid locks' holders holders' waits waits' s m t place index are noted r lowered queues awaits q held same_awaited sets =
    objects-close locks locks' holders holders' waits waits' t (same-then locks mid locks' t (same-relocked locks mid t place r) (same-relocked mid locks' t place q)) sets.same
    (queues-else waits waits' t (queue_without (queue_on waits t) s) queues) are
    (subst (λ queue. IsObject locks' holders' queue t) (sym (queues-put waits waits' t (queue_without (queue_on waits t) s) queues))
    (object-at locks' holders' (queue_without (queue_on waits t) s) t place q.is ((noted-relocked mid locks' index t place q (noted-relocked locks mid index t place r noted)).once t) is
    (inl (s, m, ap (λ holds. holds s t m) sets.holds ∙ set_hold-here (holds_in holders) s t m true)) sets.are
    (queue-more holders holders' (queue_without (queue_on waits t) s) s t m sets.holds (awaits-left (queue_on waits t) s m) (queue-without holders (queue_on waits t) s t (are t).waiting)))) where
      is : IsLock holders' (queue_without (queue_on waits t) s) t q.is.lock
      is = record {
        held = held;
        awaited = λ n.
            same_awaited n ∙ ap (λ (l : LockRecord). counts_in l.awaited n) (same-lock mid place q.was.lock r.is.lock q.was.there r.is.there)
            ∙ ap (λ f. f n) lowered ∙ ap (λ (counts : Mode → ℕ). one_less counts m n) (λ i k. ((are t).lock place r.was).awaited k i)
            ∙ sym (awaited-without (queue_on waits t) s m (around (queue_on waits t) s m (are t).waiting.one_each awaits) n);
      }
