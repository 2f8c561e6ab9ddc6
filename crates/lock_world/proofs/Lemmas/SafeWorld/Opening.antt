use Rattle.std.proofs.Common.{◌≡◌, ℕ, ◌^◌, ◌%◌, ◌<◌, Bool, true, false, None, refl, sym, ◌∙◌, arith}
use Rattle.std.specs.Prelude.{◌==◌, if◌then◌else◌}
use Rattle.std.proofs.lemmas.Bool.{false≢true}
use Rattle.modes_core.specs.declared.modes.Mode.{Mode}
use Rattle.modes_core.specs.declared.tags.Tag.{Tag}
use Rattle.lw_word.specs.LightweightWord.{free_word, IsListLocked}
use Rattle.lock_world.specs.World.{opening}
use Rattle.lock_world.specs.WaitLists.{lock_word, ShowsList}
use Rattle.lock_world.specs.Safe.{SafeButSlots, ShowsHolders}
use Rattle.lock_world.specs.SafeWorld.{SafeWorld, slots_of, tabled}
use Rattle.lock_table.proofs.Lemmas.Totals.{none_pass}
use Rattle.lock_world.proofs.Lemmas.Slots.Databases.{slot_holds-unused}

-- A free word shows that nobody holds it.
shows_nobody : (limit : ℕ) → ShowsHolders limit free_word (λ k. false) (λ k. false)
shows_nobody limit = record {
  held_is_shown = λ k held. absurd (false≢true held);
  shown_is_held = λ shown. let none : ◌≡◌ {A = ℕ} 0 1 = shown in absurd (omega arith);
  by_one = λ k l held its. absurd (false≢true held);
  shared = sym (none_pass limit (λ k. false) (λ k. refl));
  within = λ k its. absurd (false≢true its);
  never_both = λ k l held. refl;
}

-- Of the opening World partitions, waits and locks are safe,
but_slots : (limit groups : ℕ) → limit < 2 ^ 24 → SafeButSlots (tabled (opening limit groups))
but_slots limit groups few = record {
  table = record {
    promise = record {
      no_conflict = λ p k l o m n apart has its. absurd (false≢true has);
      one_place = record {
        on_object = λ o. record { held = λ k n. refl; in_queue = λ k. refl };
        no_hold_elsewhere = λ p k o n has. absurd (false≢true has);
        no_wait_elsewhere = λ p o other. refl;
        awaited_is_not_own = λ k o n awaits. absurd (false≢true awaits);
      };
      none_free = λ p o. tt;
      wait_words = record {
        idle = λ k none. refl;
        waiting = λ k wait is. absurd (cc);
        seen_is_shown = λ k seen. absurd (false≢true seen);
        unmarked_waits = λ p k stands_unmarked. absurd (false≢true stands_unmarked);
        unmarked_shows_waiting = λ p k stands_unmarked. absurd (false≢true stands_unmarked);
        unmarked_of_another = λ p k stands_unmarked. absurd (false≢true stands_unmarked);
      };
      words = λ p. shows_nobody limit;
      spent = record { no_hold = λ k o n dead. refl; no_wait = λ k dead. refl; no_word = λ k p dead. refl };
    };
    carriers = record {
      hands = λ p k. refl;
      numbers = record {
        live_is_issued = λ k alive. absurd (false≢true alive);
        within = omega arith;
        few = few;
        kept_is_live = λ k j kept. absurd (cc);
        joiner_is_live = λ k j kept. absurd (cc);
      };
      unmarked_by_move = λ p none k. refl;
    };
  };
  locks = record {
    fast_words = λ o. shows_nobody limit;
    no_fast = λ k o dead. refl;
    no_shared_fast = λ k o dead. refl;
    no_shared_partition = λ k p dead. refl;
  };
  traces = record { one_move = λ p. tt; in_hand = λ k p. refl; episodes = λ k. tt; new = λ k past. refl };
}

-- and so are slots and counters: no slot is in use, and nothing is counted.
no_slots : slots_of (λ _. 0) (λ _ _. 0) ≡ (λ _ _ _. false)
no_slots = λ i k. slot_holds-unused 0 (λ _. 0) (λ place within. refl) i

none_shown : (k : ℕ) (t : Tag) (m : Mode) → slots_of (λ _. 0) (λ _ _. 0) k t m ≡ true → ⊥
none_shown k t m shown = false≢true (sym (λ i. no_slots i k t m) ∙ shown)

-- No word shows a list locked.
no_list_shown : (lock : ℕ) → ShowsList (lock_word (λ _. free_word) (λ _. free_word) lock) lock (λ _. None)
no_list_shown lock = record {
  had_is_shown = λ k had. absurd (cc);
  shown_is_had = λ locked. absurd (unlocked (lock % 2 == 0) locked);
  by_one = λ j k had its. absurd (cc);
} where
  unlocked : (even : Bool) → IsListLocked (if even then free_word else free_word) → ⊥
  unlocked true locked = omega (arith, locked)
  unlocked false locked = omega (arith, locked)

-- The opening World is safe.
pub opening-safe : (limit groups : ℕ) → limit < 2 ^ 24 → SafeWorld (opening limit groups)
opening-safe limit groups few = record {
  but_slots = but_slots limit groups few;
  lists = record {
    shown = λ lock. no_list_shown lock;
    sleepers = record {
      named = λ lock k there. absurd (false≢true there);
      waiting = λ lock k there. absurd (false≢true there);
      once = λ lock k. omega arith;
      idle = λ k none. refl;
      taken_off = λ k j off. absurd (false≢true off);
      by_one = λ i j k off its. absurd (false≢true off);
    };
    no_list = λ k dead. refl;
    no_stand = λ k dead. refl;
  };
  slots = record {
    are_own = λ k t m shown. absurd (none_shown k t m shown);
    one_each = λ k relation place other within its used too. absurd (false≢true used);
    has_database = λ k place within used. absurd (false≢true used);
    in_groups = λ k place within used. absurd (false≢true used);
  };
  order = record { awaited_is_not_own = λ k t m awaits. refl; no_hold = λ k t m dead. refl; no_count = λ k dead. refl };
  counters = record { shown = λ index. sym (none_pass limit (λ k. false) (λ k. refl)); once = λ k t m. omega arith };
  past = λ k j t m gone. absurd (false≢true gone);
  done = record { held = λ k t m strong has. absurd (false≢true has); awaits = λ k t m strong waits. absurd (false≢true waits) };
  zero = record { holds = λ k index read. absurd (cc); nobody_is_past = λ k j t read. absurd (cc) };
  remembered = λ k place relation mode within shown. shown;
}
