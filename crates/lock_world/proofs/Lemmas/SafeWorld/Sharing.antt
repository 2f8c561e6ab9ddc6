use Rattle.std.proofs.Common.{ℕ}
use Rattle.lock_world.specs.World.{World}
use Rattle.lock_world.specs.Happens.Sharing.{MayShare, MayUnshare, after_sharing_partition, after_unsharing_partition, after_sharing_fast, after_unsharing_fast}
use Rattle.lock_world.specs.SafeWorld.{SafeWorld, tabled}
use Rattle.lw_word.specs.LightweightWord.{shared_word, unshared_word}
use Rattle.lw_word.proofs.Lemmas.Words.{shared_word-flags, unshared_word-flags}
use Rattle.lock_world.specs.Happens.Lists.{sleepers}
use Rattle.lock_world.proofs.Lemmas.ListWords.{flags-partition, flags-fast}
use Rattle.lock_world.proofs.Lemmas.Slots.Remembered.{remembered-seen}
use Rattle.lock_world.proofs.Lemmas.Words.Holders.{shared-room, shared-some}
use Rattle.lock_world.proofs.Lemmas.Safe.Sharing.{live-within, sharing_partition-safe, unsharing_partition-safe, sharing_fast-safe, unsharing_fast-safe}
use Rattle.lock_world.proofs.Lemmas.SafeWorld.Beside.{beside-safe_world}

-- Sharing a word is safe, and so is giving it back.
pub sharing_partition-safe_world :
    (w : World) (s p : ℕ) → SafeWorld w → MayShare w.numbers (w.words.partition p) w.sessions.shares_partition s p → SafeWorld (after_sharing_partition w s p)
sharing_partition-safe_world w s p safe may = beside-safe_world w (after_sharing_partition w s p) safe
    (sharing_partition-safe (tabled w) s p safe.but_slots may)
    (flags-partition w.words.partition w.words.fast (sleepers w) w.sessions.has_list w.numbers.live safe.lists p (shared_word (w.words.partition p))
    (shared_word-flags (w.words.partition p) (shared-room w.numbers.limit (w.words.partition p) (λ k. w.sessions.holds_partition k p) (λ k. w.sessions.shares_partition k p) s
    safe.but_slots.table.carriers.numbers.few (live-within (tabled w) s safe.but_slots may.steps.live) (safe.but_slots.table.promise.words p) may.new))) safe.zero safe.remembered

pub unsharing_partition-safe_world : (w : World) (s p : ℕ) → SafeWorld w → MayUnshare w.numbers w.sessions.shares_partition s p → SafeWorld (after_unsharing_partition w s p)
unsharing_partition-safe_world w s p safe may = beside-safe_world w (after_unsharing_partition w s p) safe
    (unsharing_partition-safe (tabled w) s p safe.but_slots may)
    (flags-partition w.words.partition w.words.fast (sleepers w) w.sessions.has_list w.numbers.live safe.lists p (unshared_word (w.words.partition p))
    (unshared_word-flags (w.words.partition p) (shared-some w.numbers.limit (w.words.partition p) (λ k. w.sessions.holds_partition k p) (λ k. w.sessions.shares_partition k p) s
    (safe.but_slots.table.promise.words p) may.sharing))) safe.zero safe.remembered

pub sharing_fast-safe_world : (w : World) (s o : ℕ) → SafeWorld w → MayShare w.numbers (w.words.fast o) w.sessions.shares_fast s o → SafeWorld (after_sharing_fast w s o)
sharing_fast-safe_world w s o safe may = beside-safe_world w (after_sharing_fast w s o) safe
    (sharing_fast-safe (tabled w) s o safe.but_slots may)
    (flags-fast w.words.partition w.words.fast (sleepers w) w.sessions.has_list w.numbers.live safe.lists o (shared_word (w.words.fast o))
    (shared_word-flags (w.words.fast o) (shared-room w.numbers.limit (w.words.fast o) (λ k. w.sessions.holds_fast k o) (λ k. w.sessions.shares_fast k o) s
    safe.but_slots.table.carriers.numbers.few (live-within (tabled w) s safe.but_slots may.steps.live) (safe.but_slots.locks.fast_words o) may.new)))
    safe.zero
    (remembered-seen w.words.slot w.sessions.remembered s o safe.remembered)

pub unsharing_fast-safe_world : (w : World) (s o : ℕ) → SafeWorld w → MayUnshare w.numbers w.sessions.shares_fast s o → SafeWorld (after_unsharing_fast w s o)
unsharing_fast-safe_world w s o safe may = beside-safe_world w (after_unsharing_fast w s o) safe
    (unsharing_fast-safe (tabled w) s o safe.but_slots may)
    (flags-fast w.words.partition w.words.fast (sleepers w) w.sessions.has_list w.numbers.live safe.lists o (unshared_word (w.words.fast o))
    (unshared_word-flags (w.words.fast o) (shared-some w.numbers.limit (w.words.fast o) (λ k. w.sessions.holds_fast k o) (λ k. w.sessions.shares_fast k o) s
    (safe.but_slots.locks.fast_words o) may.sharing))) safe.zero safe.remembered
