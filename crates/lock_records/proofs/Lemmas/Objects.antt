use Rattle.std.proofs.Common.{◌≡◌, ◌≢◌, ◌⊎◌, ℕ, ◌<◌, false, List, [], ◌∷◌, Option, arith, refl, sym, ap, ◌∙◌, subst, inl, inr}
use Rattle.std.proofs.lemmas.Bool.{cases_Bool, both_ways, false≢true}
use Rattle.modes_core.specs.declared.modes.Mode.{Mode}
use Rattle.modes_core.specs.declared.tags.Tag.{Tag}
use Rattle.modes_core.specs.Tag.{tag_eq}
use Rattle.modes_core.proofs.Lemmas.Conflicts.{tag_eq-same, tag_eq-refl}
use Rattle.lock_table.specs.Content.{Wait}
use Rattle.lock_records.specs.declared.wait_queues.QueueRecord.{QueueRecord}
use Rattle.lock_records.specs.Queues.{queue_on}
use Rattle.lock_records.specs.Tally.{counts_in}
use Rattle.lock_records.specs.Counting.{awaited_of}
use Rattle.lock_records.specs.declared.holders.HolderRecord.{HolderRecord}
use Rattle.lock_records.specs.declared.locks.LockRecord.{LockRecord}
use Rattle.lock_records.specs.Holders.{holds_in, HasNoHolder, AreHolders, HasSameElse}
use Rattle.lock_records.specs.Locks.{lock_at, IsLockAt, HasLock, HasNoLock, HasSameLocks, HasMadeLock, IsNewLock}
use Rattle.lock_records.specs.Objects.{IsLock, IsUsed, IsQueue, IsObject, AreObjects}
use Rattle.lock_records.proofs.Lemmas.GrantedCounts.{granted-same, below-none}
use Rattle.lock_records.proofs.Lemmas.Held.{holds-else, holders-else, at-else, swap-else, holds-none}
use Rattle.lock_records.proofs.Lemmas.Chains.{chain-else, in-nothing, goes-on}
use Rattle.lock_records.proofs.Lemmas.Indexes.{same-lock}
use Rattle.lock_records.proofs.Lemmas.Queues.{queue-empty, queue-some}
use Rattle.modes_core.specs.Sessions.{most_sessions}

-- The records of another object are as right as they were.
module _
    (locks locks' : List (Option LockRecord)) (holders holders' : List (Option HolderRecord)) (tag t : Tag) (other : t ≢ tag)
    (same_locks : HasSameLocks locks locks' tag) (same : HasSameElse holders holders' tag) (queue : List Wait) where
  lock-was : (k : ℕ) (i : IsLockAt locks' t k) → IsLockAt locks t k
  lock-was k i = record { lock = i.lock; there = same_locks.no_more k i.lock i.there (λ e. other (sym i.on ∙ e)); on = i.on }

  lock-is : HasLock locks t → HasLock locks' t
  lock-is has = let i = has.1 in (has.0, record { lock = i.lock; there = same_locks.kept has.0 i.lock i.there (λ e. other (sym i.on ∙ e)); on = i.on })

  held-still : (l : LockRecord) → IsLock holders queue t l → IsLock holders' queue t l
  held-still l is = record {
    held = record {
      chain = chain-else holders holders' tag same t l.holders.first l.holders.count other is.held.chain;
      granted = λ m. is.held.granted m ∙ sym (granted-same (holds_in holders) (holds_in holders') t m (λ s. holds-else holders holders' tag same s t m other));
    };
    awaited = is.awaited;
  }

  used-still : IsUsed holders queue t → IsUsed holders' queue t
  used-still (inl held) = inl (held.0, held.1, holds-else holders holders' tag same held.0 t held.1 other ∙ held.2)
  used-still (inr waits) = inr waits

  pub object-else : IsObject locks holders queue t → IsObject locks' holders' queue t
  object-else is = record {
    lock = λ k i. held-still i.lock (is.lock k (record { lock = i.lock; there = same_locks.no_more k i.lock i.there (λ e. other (sym i.on ∙ e)); on = i.on }));
    used = λ k i. used-still (is.used k (lock-was k i));
    are = holders-else holders holders' tag same t other is.are;
    waiting = record {
      one_each = is.waiting.one_each;
      below = is.waiting.below;
      apart = λ s m awaits. holds-else holders holders' tag same s t m other ∙ is.waiting.apart s m awaits;
    };
    held_locked = λ s k i. lock-is (is.held_locked s k (at-else holders' holders tag (swap-else holders holders' tag same) s k t other i));
    awaited_locked = λ some. lock-is (is.awaited_locked some);
  }

-- The records of an object whose lock record is known.
pub object-at :
    (locks : List (Option LockRecord)) (holders : List (Option HolderRecord)) (queue : List Wait) (t : Tag) (p : ℕ) (i : IsLockAt locks t p) →
    ((k j : ℕ) → IsLockAt locks t k → IsLockAt locks t j → k ≡ j) → IsLock holders queue t i.lock → IsUsed holders queue t → AreHolders holders t → IsQueue holders queue t →
    IsObject locks holders queue t
object-at locks holders queue t p i once is used are waiting = record {
  lock = λ k j.
      let e : k ≡ p = once k p j i in
      subst (IsLock holders queue t) (same-lock locks p i.lock j.lock i.there (ap (lock_at locks) (sym e) ∙ j.there)) is;
  used = λ k j. used;
  are = are;
  waiting = waiting;
  held_locked = λ s k j. (p, i);
  awaited_locked = λ some. (p, i);
}

-- The records of an object that has none.
pub object-none :
    (locks : List (Option LockRecord)) (holders : List (Option HolderRecord)) (queue : List Wait) (t : Tag) → HasNoLock locks t → ((s : ℕ) → HasNoHolder holders s t) → queue ≡ [] →
    IsObject locks holders queue t
object-none locks holders queue t no_lock no_holder none = record {
  lock = λ k i. absurd (no_lock k i);
  used = λ k i. absurd (no_lock k i);
  are = record { once = λ s k j one two. absurd (no_holder s k one); below = λ s k one. absurd (no_holder s k one); some = λ s k one. absurd (no_holder s k one) };
  waiting = subst (λ ws. IsQueue holders ws t) (sym none) (record { one_each = λ s. omega arith; below = λ s any. absurd (false≢true any); apart = λ s m any. absurd (false≢true any) });
  held_locked = λ s k i. absurd (no_holder s k i);
  awaited_locked = λ some. absurd (some none);
}

-- What there is of an object with no lock record: nothing.
pub no-holder : (locks : List (Option LockRecord)) (holders : List (Option HolderRecord)) (queue : List Wait) (t : Tag) → IsObject locks holders queue t → HasNoLock locks t → (s : ℕ) → HasNoHolder holders s t
no-holder locks holders queue t is no_lock s k i = let has = is.held_locked s k i in no_lock has.0 has.1

pub no-wait : (locks : List (Option LockRecord)) (holders : List (Option HolderRecord)) (queue : List Wait) (t : Tag) → IsObject locks holders queue t → HasNoLock locks t → queue ≡ []
no-wait locks holders [] t is no_lock = refl
no-wait locks holders (w ∷ ws) t is no_lock =
    let has = is.awaited_locked (λ e. let no_way : ⊥ = cc in no_way) in absurd (no_lock has.0 has.1)

-- The record that was found or made is right.
pub made-lock :
    (old new : List (Option LockRecord)) (holders : List (Option HolderRecord)) (queue : List Wait) (tag : Tag) (place : ℕ) → IsObject old holders queue tag →
    (made : HasMadeLock old new tag place) → IsLock holders queue tag made.at.lock
made-lock old new holders queue tag place is made =
    elim made.was [
      | inl was ↦ is.lock place (record { lock = made.at.lock; there = was; on = made.at.on })
      | inr fresh ↦ fresh_lock fresh.0 fresh.1
    ] where
      fresh_lock : IsNewLock made.at.lock tag → HasNoLock old tag → IsLock holders queue tag made.at.lock
      fresh_lock fresh no_lock = record {
        held = record {
          chain = record {
            places = [];
            linked = tt;
            number = fresh.none;
            all = λ k h there on. absurd (no-holder old holders queue tag is no_lock h.session k (record { holder = h; there = there; its = refl; on = on }));
          };
          granted = λ m. fresh.granted m ∙ sym (below-none most_sessions (λ s. holds_in holders s tag m) (λ s h. holds-none holders s tag (no-holder old holders queue tag is no_lock s) m));
        };
        awaited = λ m. fresh.awaited m ∙ sym (ap (λ ws. awaited_of ws m) (no-wait old holders queue tag is no_lock));
      }

-- The records of all objects, after a change of one.
pub objects-close :
    (locks locks' : List (Option LockRecord)) (holders holders' : List (Option HolderRecord)) (waits waits' : List (Option QueueRecord)) (tag : Tag) →
    HasSameLocks locks locks' tag → HasSameElse holders holders' tag → ((t : Tag) → tag_eq t tag ≡ false → queue_on waits' t ≡ queue_on waits t) →
    AreObjects locks holders waits → IsObject locks' holders' (queue_on waits' tag) tag → AreObjects locks' holders' waits'
objects-close locks locks' holders holders' waits waits' tag same_locks same same_queues are here t =
    elim (cases_Bool (tag_eq t tag)) [
      | inl e ↦ let it : t ≡ tag = tag_eq-same t tag e in subst (λ x. IsObject locks' holders' (queue_on waits' x) x) (sym it) here
      | inr apart ↦
          subst (λ ws. IsObject locks' holders' ws t) (sym (same_queues t apart))
          (object-else locks locks' holders holders' tag t (λ e. both_ways _ apart (ap (λ x. tag_eq x tag) e ∙ tag_eq-refl tag)) same_locks same (queue_on waits t) (are t))
    ]

-- A lock record that counts somebody is used, and one that counts nobody is of an object that nobody holds or
-- awaits.
pub used-counted :
    (holders : List (Option HolderRecord)) (queue : List Wait) (t : Tag) (l : LockRecord) → AreHolders holders t → IsLock holders queue t l →
    (0 < l.holders.count) ⊎ ((m : Mode) × (0 < counts_in l.awaited m)) → IsUsed holders queue t
used-counted holders queue t l are is (inl some) =
    let head = goes-on holders t l.holders.first is.held.chain.places is.held.chain.linked (omega (arith, is.held.chain.number)) in
    let it = are.some head.holder.session l.holders.first (record { holder = head.holder; there = head.there; its = refl; on = head.on }) in
    inl (head.holder.session, it.0, it.1)
used-counted holders queue t l are is (inr some) = let counted = is.awaited some.0 in inr (queue-some queue some.0 (omega (arith, some.1)))

pub unused-holder :
    (holders : List (Option HolderRecord)) (queue : List Wait) (t : Tag) (l : LockRecord) → IsLock holders queue t l → l.holders.count ≡ 0 → (s : ℕ) → HasNoHolder holders s t
unused-holder holders queue t l is none s k i =
    in-nothing k is.held.chain.places (omega (arith, is.held.chain.number)) (is.held.chain.all k i.holder i.there i.on)

pub unused-queue :
    (holders : List (Option HolderRecord)) (queue : List Wait) (t : Tag) (l : LockRecord) → IsLock holders queue t l → ((m : Mode) → counts_in l.awaited m ≡ 0) → queue ≡ []
unused-queue holders queue t l is none = queue-empty queue (λ m. sym (is.awaited m) ∙ none m)
