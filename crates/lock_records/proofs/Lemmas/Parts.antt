use Rattle.std.proofs.Common.{◌≡◌, ℕ, ◌<◌, ◌≤◌, true, false, not, List, [], Option, Some, None, arith, refl, sym, ap, ◌∙◌, subst, inl, inr}
use Rattle.std.proofs.lemmas.Bool.{cases_Bool, both_ways, false≢true, false_from_ne_true}
use Rattle.modes_core.specs.declared.modes.Mode.{Mode}
use Rattle.modes_core.specs.declared.tags.Tag.{Tag}
use Rattle.place_index.specs.Notes.{Notes, times, HasSameNotes}
use Rattle.lock_table.specs.Content.{Holds, Wait, set_hold}
use Rattle.lock_table.specs.Queue.{awaits_mode}
use Rattle.lock_records.specs.declared.wait_queues.QueueRecord.{QueueRecord}
use Rattle.lock_records.specs.Queues.{queue_on}
use Rattle.lock_table.proofs.Lemmas.Holds.{set_hold-at, here, elsewhere}
use Rattle.lock_records.specs.declared.holders.HolderRecord.{HolderRecord}
use Rattle.lock_records.specs.declared.locks.LockRecord.{LockRecord}
use Rattle.lock_records.specs.Holders.{holds_in}
use Rattle.lock_records.specs.Locks.{IsLockAt, HasNoLock, AreNoted, HasMadeLock}
use Rattle.lock_records.specs.Objects.{IsLock, AreObjects}
use Rattle.lock_records.proofs.Lemmas.Held.{held-from, holds-none}
use Rattle.lock_records.proofs.Lemmas.Indexes.{same-lock, nothing-there}
use Rattle.lock_records.proofs.Lemmas.Objects.{object-none, made-lock, no-holder, no-wait}
use Rattle.lock_records.proofs.Lemmas.Queues.{any-filter, around, awaited-some, awaited-few, without-nobody, wait-none}
use Rattle.std.specs.Prelude.{option_map}
use Rattle.lock_table.specs.Queue.{wait_in}
use Rattle.lock_table.proofs.Lemmas.Put.{put_here, put_else}
use Rattle.lock_records.proofs.Lemmas.Changes.{queues-put, queues-else}
use Rattle.std.specs.Option.{ForSome}
use Rattle.lock_table.proofs.Lemmas.Options.{ForSome-some}
use Rattle.lock_records.specs.Tally.{counts_in, most_tallied}
use Rattle.modes_core.specs.Tag.{tag_eq}
use Rattle.modes_core.specs.Mode.{mode_eq}
use Rattle.modes_core.proofs.Lemmas.Conflicts.{tag_eq-same}
use Rattle.lock_table.specs.Put.{put}
use Rattle.lock_table.specs.Queue.{queue_without}
use Rattle.std.proofs.Common.{◌==◌, ◌&&◌}

-- The index finds the same with more room.
pub noted-grown : (slots : List (Option LockRecord)) (index index' : Notes) → HasSameNotes index index' → index.places ≤ index'.places → AreNoted slots index → AreNoted slots index'
noted-grown slots index index' same more are = record {
  noted = λ place key. same key place ∙ are.noted place key;
  once = are.once;
  within = λ tag place i. let w = are.within tag place i in omega arith;
}

-- An object that is held has a record, and one that is awaited.
pub held-has : (locks : List (Option LockRecord)) (holders : List (Option HolderRecord)) (waits : List (Option QueueRecord)) (s : ℕ) (t : Tag) (m : Mode) →
    AreObjects locks holders waits → holds_in holders s t m ≡ true → HasNoLock locks t → ⊥
held-has locks holders waits s t m are has no_lock =
    let shows = held-from holders s t m has in
    no-holder locks holders (queue_on waits t) t (are t) no_lock s shows.place shows.at

pub awaited-has : (locks : List (Option LockRecord)) (holders : List (Option HolderRecord)) (waits : List (Option QueueRecord)) (s : ℕ) (t : Tag) (m : Mode) →
    AreObjects locks holders waits → awaits_mode (queue_on waits t) s m ≡ true → HasNoLock locks t → ⊥
awaited-has locks holders waits s t m are awaits no_lock =
    false≢true (ap (λ queue. awaits_mode queue s m) (sym (no-wait locks holders (queue_on waits t) t (are t) no_lock)) ∙ awaits)

-- The record that was found or made counts the holds.
pub made-held :
    (locks mid : List (Option LockRecord)) (holders : List (Option HolderRecord)) (waits : List (Option QueueRecord)) (t : Tag) (place : ℕ) → AreObjects locks holders waits → HasMadeLock locks mid t place →
    (i : IsLockAt mid t place) → IsLock holders (queue_on waits t) t i.lock
made-held locks mid holders waits t place are made i =
    subst (IsLock holders (queue_on waits t) t) (same-lock mid place made.at.lock i.lock made.at.there i.there) (made-lock locks mid holders (queue_on waits t) t place (are t) made)

-- A hold that isn't there is not there with one less, nor with another one more.
pub not-held-less : (holds : Holds) (s : ℕ) (t : Tag) (m : Mode) (k : ℕ) (o : Tag) (n : Mode) → holds k o n ≡ false → set_hold holds s t m false k o n ≡ false
not-held-less holds s t m k o n none =
    elim (set_hold-at holds s t m false k o n) [
      | here it is ↦ is
      | elsewhere not_it is ↦ is ∙ none
    ]

pub not-held-more : (holds : Holds) (s : ℕ) (t : Tag) (m : Mode) (k : ℕ) (o : Tag) (n : Mode) → ((k ≡ s) × (o ≡ t) × (n ≡ m) → ⊥) → holds k o n ≡ false → set_hold holds s t m true k o n ≡ false
not-held-more holds s t m k o n apart none =
    elim (set_hold-at holds s t m true k o n) [
      | here it is ↦ absurd (apart (it.session, it.tag, it.mode))
      | elsewhere not_it is ↦ is ∙ none
    ]

-- What nobody awaits is not awaited after a wait has left.
pub not-awaited-left : (waits waits' : List (Option QueueRecord)) (s : ℕ) (t : Tag) → queue_on waits' ≡ put tag_eq (queue_on waits) t (queue_without (queue_on waits t) s) → (k : ℕ) (o : Tag) (n : Mode) →
    awaits_mode (queue_on waits o) k n ≡ false → awaits_mode (queue_on waits' o) k n ≡ false
not-awaited-left waits waits' s t left k o n none =
    elim (cases_Bool (tag_eq o t)) [
      | inl same ↦
          let e : o ≡ t = tag_eq-same o t same in
          false_from_ne_true _ (λ awaits.
          both_ways _ none (ap (λ x. awaits_mode (queue_on waits x) k n) e
          ∙ any-filter (λ (wait : Wait). (wait.session == k) && mode_eq wait.mode n) (λ (wait : Wait). not (wait.session == s)) (queue_on waits t)
          (ap (λ queue. awaits_mode queue k n) (sym (ap (queue_on waits') e ∙ queues-put waits waits' t (queue_without (queue_on waits t) s) left)) ∙ awaits)))
      | inr other ↦ ap (λ queue. awaits_mode queue k n) (queues-else waits waits' t (queue_without (queue_on waits t) s) left o other) ∙ none
    ]

-- The record of an object that somebody awaits counts it.
pub counts-awaited : (locks : List (Option LockRecord)) (holders : List (Option HolderRecord)) (waits : List (Option QueueRecord)) (s : ℕ) (t : Tag) (m : Mode) (place : ℕ) → AreObjects locks holders waits →
    awaits_mode (queue_on waits t) s m ≡ true → (i : IsLockAt locks t place) → 0 < counts_in i.lock.awaited m
counts-awaited locks holders waits s t m place are awaits i =
    let is = ((are t).lock place i).awaited m in
    let some = awaited-some (queue_on waits t) s m (around (queue_on waits t) s m (are t).waiting.one_each awaits) in
    omega arith

-- Where a session doesn't wait, nothing changes as it leaves.
pub unchanged-left : (waits : List (Option QueueRecord)) (s : ℕ) (t : Tag) → option_map (λ wait. wait.mode) (wait_in (queue_on waits t) s) ≡ None →
    queue_on waits ≡ put tag_eq (queue_on waits) t (queue_without (queue_on waits t) s)
unchanged-left waits s t none = λ i o. at o i where
  at : (o : Tag) → queue_on waits o ≡ put tag_eq (queue_on waits) t (queue_without (queue_on waits t) s) o
  at o =
      elim (cases_Bool (tag_eq o t)) [
        | inl same ↦
            ap (queue_on waits) (tag_eq-same o t same) ∙ sym (without-nobody (queue_on waits t) s (wait-none (queue_on waits t) s none))
            ∙ sym (put_here tag_eq (queue_on waits) t (queue_without (queue_on waits t) s) o same)
        | inr other ↦ sym (put_else tag_eq (queue_on waits) t (queue_without (queue_on waits t) s) o other)
      ]

-- An object with no record is held by nobody.
pub nothing-held : (locks : List (Option LockRecord)) (holders : List (Option HolderRecord)) (waits : List (Option QueueRecord)) (s : ℕ) (t : Tag) (m : Mode) → AreObjects locks holders waits → HasNoLock locks t → holds_in holders s t m ≡ false
nothing-held locks holders waits s t m are no_lock = holds-none holders s t (no-holder locks holders (queue_on waits t) t (are t) no_lock s) m

-- The record of an object that is awaited by few counts few.
pub counts-few : (locks mid : List (Option LockRecord)) (holders : List (Option HolderRecord)) (waits : List (Option QueueRecord)) (t : Tag) (m : Mode) (place : ℕ) → AreObjects locks holders waits → HasMadeLock locks mid t place →
    (i : IsLockAt mid t place) → counts_in i.lock.awaited m < most_tallied
counts-few locks mid holders waits t m place are made i =
    let is = (made-held locks mid holders waits t place are made i).awaited m in
    let few = awaited-few (queue_on waits t) m (are t).waiting.one_each (are t).waiting.below in
    omega arith

-- The records with more room are the same.
pub objects-same : (locks locks' : List (Option LockRecord)) (holders holders' : List (Option HolderRecord)) (waits waits' : List (Option QueueRecord)) → locks' ≡ locks → holders' ≡ holders → waits' ≡ waits →
    AreObjects locks holders waits → AreObjects locks' holders' waits'
objects-same locks locks' holders holders' waits waits' a b e are =
    subst (λ x. AreObjects x holders' waits') (sym a) (subst (λ y. AreObjects locks y waits') (sym b) (subst (λ z. AreObjects locks holders z) (sym e) are))

-- With no record there is nothing right or wrong.
pub objects-none : AreObjects [] [] []
unfolding holds_in queue_on
objects-none t = object-none [] [] [] t (λ k i. nothing-there [] k ⊥ i.lock refl i.there) (λ s k i. let there = i.there in let no_way : ⊥ = cc in no_way) refl

pub noted-none : (index : Notes) → ((h p : ℕ) → times index h p ≡ 0) → AreNoted [] index
noted-none index none = record {
  noted = λ place key. none key place;
  once = λ t k j one two. nothing-there [] k (k ≡ j) one.lock refl one.there;
  within = λ t k i. nothing-there [] k (k < index.places) i.lock refl i.there;
}

-- There is nothing to say where there is nothing, and one fact of what is there.
pub nothing-said : {X : Type 0} (P : X → Type 0) (o : Option X) → o ≡ None → ForSome o P
nothing-said P o none = λ x is. let no_way : ⊥ = cc in absurd no_way

pub one-said : {X : Type 0} (P : X → Type 0) (o : Option X) (x : X) → o ≡ Some x → P x → ForSome o P
one-said {X = X} P o x is fact = subst (λ (it : Option X). ForSome it P) (sym is) (ForSome-some P x fact)
