use Rattle.std.proofs.Common.{◌≡◌, ◌≢◌, ℕ, Bool, true, false, List, Option, sym, ap, ◌∙◌}
use Rattle.std.proofs.lemmas.Bool.{both_ways}
use Rattle.modes_core.specs.declared.modes.Mode.{Mode}
use Rattle.modes_core.specs.declared.tags.Tag.{Tag}
use Rattle.lock_table.specs.Content.{Holds, Content}
use Rattle.lock_table.specs.OwnWait.{OwnWait}
use Rattle.lock_world.specs.World.{World, Hand, TraceEntry}
use Rattle.lock_world.specs.Safe.{TableIsSafe, is_hand_of, SpentHaveNothing}
use Rattle.lock_world.proofs.Lemmas.Waits.Shown.{WaitsAreSafe, safe_from, shows_from}

-- What is safe of the waits of a World.
pub waits_of : (w : World) → TableIsSafe w → WaitsAreSafe w.contents.now w.sessions.own w.sessions.awaited w.sessions.seen w.words.wait w.contents.hand
waits_of w safe = safe_from w.contents.now w.sessions.own w.sessions.awaited w.sessions.seen w.words.wait w.contents.hand
    safe.promise.no_conflict safe.promise.one_place safe.promise.none_free safe.promise.wait_words safe.carriers.unmarked_by_move

-- A step of one live session on own holds and waits leaves those who are not live with nothing.
pub SpentHaveNothing-own :
    (live : ℕ → Bool) (own own' : Holds) (awaited awaited' : ℕ → Option OwnWait) (holds : ℕ → ℕ → Bool) (s : ℕ) → live s ≡ true
    → ((k : ℕ) (o : Tag) (n : Mode) → k ≢ s → own' k o n ≡ own k o n) → ((k : ℕ) → k ≢ s → awaited' k ≡ awaited k)
    → SpentHaveNothing live own awaited holds → SpentHaveNothing live own' awaited' holds
SpentHaveNothing-own live own own' awaited awaited' holds s alive same_own same_wait spent = record {
  no_hold = λ k o n dead. same_own k o n (another k dead) ∙ spent.no_hold k o n dead;
  no_wait = λ k dead. same_wait k (another k dead) ∙ spent.no_wait k dead;
  no_word = spent.no_word;
} where
  another : (k : ℕ) → live k ≡ false → k ≢ s
  another k dead same = both_ways (live k) dead (ap live same ∙ alive)

-- A World of which contents, hands, wait words, own holds, waits and traces alone have changed.
abbrev pub with_waits : World → (ℕ → Content) → Holds → (ℕ → Option OwnWait) → (ℕ → Bool) → (ℕ → ℕ) → (ℕ → Option Hand) → (ℕ → List TraceEntry) → World
with_waits w now own awaited seen word hand trace = record {
  words = record (w.words) { wait = word };
  contents = record { now = now; hand = hand };
  sessions = record (w.sessions) { own = own; awaited = awaited; seen = seen; trace = trace };
  numbers = w.numbers;
}

-- A World with these waits is safe where the waits are, where numbers that are not live have nothing, and
-- where each hand is whose it was.
pub with_waits-table :
    (w : World) (now : ℕ → Content) (own : Holds) (awaited : ℕ → Option OwnWait) (seen : ℕ → Bool) (word : ℕ → ℕ) (hand : ℕ → Option Hand) (trace : ℕ → List TraceEntry)
    → TableIsSafe w → WaitsAreSafe now own awaited seen word hand → SpentHaveNothing w.numbers.live own awaited w.sessions.holds_partition
    → ((p k : ℕ) → is_hand_of (hand p) k ≡ is_hand_of (w.contents.hand p) k) → TableIsSafe (with_waits w now own awaited seen word hand trace)
with_waits-table w now own awaited seen word hand trace safe waits spent same = record {
  promise = record {
    no_conflict = waits.no_conflict;
    one_place = waits.one_place;
    none_free = waits.none_free;
    wait_words = shows_from now own awaited seen word hand waits;
    words = safe.promise.words;
    spent = spent;
  };
  carriers = record {
    hands = λ p k. safe.carriers.hands p k ∙ sym (same p k);
    numbers = safe.carriers.numbers;
    unmarked_by_move = waits.by_move;
  };
}
