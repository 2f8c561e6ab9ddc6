use Rattle.std.proofs.Common.{◌≡◌, ℕ, Bool, true, false, List, [], ◌∷◌, ◌++◌, Some, None, refl}
use Rattle.std.specs.Prelude.{◌==◌, ◌||◌, if◌then◌else◌}
use Rattle.modes_core.specs.declared.modes.Mode.{Mode}
use Rattle.modes_core.specs.declared.tags.Tag.{Tag}
use Rattle.modes_core.specs.Tag.{partition_of}
use Rattle.lock_table.specs.declared.moves.Move.{Move}
use Rattle.lock_table.specs.declared.moves.Move.TheVariants.{Keep, Join, Leave}
use Rattle.lock_table.specs.Content.{Wait, Content, set_hold}
use Rattle.lock_table.specs.OwnWait.{OwnWait}
use Rattle.lock_table.specs.Queue.{waits_there}
use Rattle.lock_table.proofs.Lemmas.Put.{set_at-here}
use Rattle.lock_world.specs.declared.events.Word.TheVariants as word
use Rattle.lock_world.specs.WaitWord.{wait_state}
use Rattle.lock_world.specs.World.{World, Hand, AskedToCancel, Loaded, is_unmarked}
use Rattle.lock_world.specs.Account.{account}
use Rattle.lock_world.specs.AccountSteps.{own_with, account_tracing, account_waiting, account_marking, account_clearing, account_leaving}
use Rattle.lock_world.specs.Happens.Waits.{after_asking, after_loading_wait, unmarked_but, after_setting_waiting, after_marking_first, after_marking_next, after_clearing, after_leaving}
use Rattle.lock_world.proofs.Lemmas.Accounts.Parts.{account-by, mine, hands-recorded, hands-moved, own-set, own-moved}

-- Asking a session to cancel.
pub account-asking : (w : World) (s k : ℕ) → account (after_asking w s k) s ≡ account_tracing (account w s) (AskedToCancel k (w.words.wait k))
account-asking w s k =
    account-by (after_asking w s k) s (account_tracing (account w s) (AskedToCancel k (w.words.wait k))) refl refl refl refl refl refl refl
    (set_at-here w.sessions.trace s (w.sessions.trace s ++ AskedToCancel k (w.words.wait k) ∷ []) s refl)

-- Loading one's own wait word: the session has seen what the word shows.
pub account-loading_wait :
    (w : World) (s n : ℕ)
    → account (after_loading_wait w s n) s ≡ record (account_tracing (account w s) (Loaded (word.Wait s) n)) { seen = (account w s).seen || (wait_state (w.words.wait s) == 2) }
account-loading_wait w s n =
    account-by (after_loading_wait w s n) s (record (account_tracing (account w s) (Loaded (word.Wait s) n)) { seen = (account w s).seen || (wait_state (w.words.wait s) == 2) }) refl refl refl
    (set_at-here w.sessions.seen s (w.sessions.seen s || (wait_state (w.words.wait s) == 2)) s refl) refl refl refl
    (set_at-here w.sessions.trace s (w.sessions.trace s ++ Loaded (word.Wait s) n ∷ []) s refl)

-- Setting one's own wait word to waiting, with the partition in its own hand.
pub account-waiting :
    (w : World) (s : ℕ) (t : Tag) (m : Mode) (content : Content) (hand : Hand) → w.contents.hand (partition_of t) ≡ Some hand → hand.holder ≡ s
    → account (after_setting_waiting w s t m content) s
    ≡ account_waiting (account w s) (mine hand (w.contents.now (partition_of t))) t m content ((w.contents.now (partition_of t)).holds s t)
account-waiting w s t m content hand is whose =
    account-by (after_setting_waiting w s t m content) s
    (account_waiting (account w s) (mine hand (w.contents.now (partition_of t))) t m content ((w.contents.now (partition_of t)).holds s t)) refl refl
    (set_at-here w.sessions.awaited s _ s refl) (set_at-here w.sessions.seen s false s refl)
    (hands-moved w.contents.hand w.contents.now (partition_of t) hand (Join t m) content (λ _. false) s is whose) refl refl refl

-- Marking somebody granted: the first of those whom the move grants, and each further one.
pub account-marking_first :
    (w : World) (s k p : ℕ) (done : Move) (granted : List Wait) (content : Content) (hand : Hand) → w.contents.hand p ≡ Some hand → hand.holder ≡ s
    → account (after_marking_first w s k p done granted content) s
    ≡ account_marking (account w s) p (mine hand (w.contents.now p)) content done done (unmarked_but (waits_there granted) k)
account-marking_first w s k p done granted content hand is whose =
    account-by (after_marking_first w s k p done granted content) s
    (account_marking (account w s) p (mine hand (w.contents.now p)) content done done (unmarked_but (waits_there granted) k)) refl
    (own-moved w.sessions.own s done) refl refl
    (hands-moved w.contents.hand w.contents.now p hand done content (unmarked_but (waits_there granted) k) s is whose) refl refl refl

pub account-marking_next :
    (w : World) (s k p : ℕ) (done : Move) (hand : Hand) → w.contents.hand p ≡ Some hand → hand.holder ≡ s
    → account (after_marking_next w k p done) s
    ≡ account_marking (account w s) p (mine hand (w.contents.now p)) (w.contents.now p) Keep done (unmarked_but (is_unmarked (w.contents.hand p)) k)
account-marking_next w s k p done hand is whose =
    account-by (after_marking_next w k p done) s
    (account_marking (account w s) p (mine hand (w.contents.now p)) (w.contents.now p) Keep done (unmarked_but (is_unmarked (w.contents.hand p)) k)) refl refl refl refl
    (hands-recorded w.contents.hand w.contents.now w.contents.now p hand done (unmarked_but (is_unmarked (w.contents.hand p)) k) s is whose (λ q _. refl)) refl refl refl

-- Clearing one's own wait word.
pub account-clearing :
    (w : World) (s : ℕ) (wait : OwnWait)
    → account (after_clearing w s wait) s ≡ account_clearing (account w s) wait (w.sessions.seen s || (w.contents.now (partition_of wait.tag)).holds s wait.tag wait.mode)
account-clearing w s wait =
    account-by (after_clearing w s wait) s
    (account_clearing (account w s) wait (w.sessions.seen s || (w.contents.now (partition_of wait.tag)).holds s wait.tag wait.mode)) refl
    (over (w.sessions.seen s || (w.contents.now (partition_of wait.tag)).holds s wait.tag wait.mode))
    (set_at-here w.sessions.awaited s None s refl) (set_at-here w.sessions.seen s false s refl) refl refl refl refl where
      over : (b : Bool) → (if b then set_hold w.sessions.own s wait.tag wait.mode true else w.sessions.own) s ≡ (if b then own_with (w.sessions.own s) wait.tag wait.mode true else w.sessions.own s)
      over true = own-set w.sessions.own s wait.tag wait.mode true
      over false = refl

-- Clearing one's own wait word by a step that takes the wait out of the queue itself.
pub account-leaving :
    (w : World) (s : ℕ) (wait : OwnWait) (granted : List Wait) (content : Content) (hand : Hand) → w.contents.hand (partition_of wait.tag) ≡ Some hand → hand.holder ≡ s
    → account (after_leaving w s wait granted content) s
    ≡ account_leaving (account w s) (mine hand (w.contents.now (partition_of wait.tag))) wait content (waits_there granted)
account-leaving w s wait granted content hand is whose =
    account-by (after_leaving w s wait granted content) s
    (account_leaving (account w s) (mine hand (w.contents.now (partition_of wait.tag))) wait content (waits_there granted)) refl refl
    (set_at-here w.sessions.awaited s None s refl) (set_at-here w.sessions.seen s false s refl)
    (hands-moved w.contents.hand w.contents.now (partition_of wait.tag) hand (Leave wait.tag) content (waits_there granted) s is whose) refl refl refl
