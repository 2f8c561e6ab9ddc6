use Rattle.std.proofs.Common.{◌≡◌, ◌≢◌, ◌⊎◌, ℕ, ◌+◌, ◌%◌, ◌^◌, ◌<◌, Bool, true, false, ◌||◌, List, [], ◌∷◌, map, Some, None, refl, sym, ap, ◌∙◌, subst, inl, inr, arith}
use Rattle.std.specs.Prelude.{bit_or, ◌==◌}
use Rattle.std.proofs.lemmas.Bool.{cases_eq}
use Rattle.modes_core.specs.declared.modes.Mode.{Mode}
use Rattle.modes_core.specs.declared.tags.Tag.{Tag}
use Rattle.modes_core.specs.Tag.{partition_of}
use Rattle.lock_table.specs.declared.moves.Move.{Move}
use Rattle.lock_table.specs.declared.moves.Move.TheVariants.{Keep, Grant, Join, Release, Leave, Adopt}
use Rattle.lock_table.specs.Content.{Wait, Content}
use Rattle.lock_table.specs.Put.{set_at}
use Rattle.lock_table.proofs.Lemmas.Put.{set_at-here, set_at-else, set_at-same}
use Rattle.lock_world.specs.declared.events.Word.TheVariants as word
use Rattle.lock_world.specs.declared.events.Step.TheVariants as step
use Rattle.lock_table.specs.Queue.{waits_there}
use Rattle.lock_table.specs.Waiter.{whose_and_mode}
use Rattle.lock_world.specs.World.{World, Contents, MakesSteps, is_unmarked}
use Rattle.lock_world.specs.SafeWorld.{SafeWorld}
use Rattle.lock_table.specs.OwnWait.{OwnWait}
use Rattle.lock_world.specs.Happens.Waits.{recording, unmarked_but, after_asking, after_loading_wait, after_setting_waiting, after_marking_first, after_marking_next, HappensMarkingIn, HappensMarking, MayClearSeen, MayClearInHand, after_clearing, after_leaving}
use Rattle.lock_world.specs.Account.{Account, InHand, account}
use Rattle.lock_world.specs.AccountSteps.{account_tracing, account_waiting, account_marking, account_clearing, account_leaving}
use Rattle.lock_world.specs.AccountLaw.{MayMoveBy, MayMarkFirstBy, MayMarkNextBy, MayLeaveBy}
use Rattle.lock_world.specs.WaitWord.{wait_state, asked_word, granted_word}
use Rattle.lock_world.specs.World.{Loaded, AskedToCancel}
use Rattle.lock_world.proofs.Lemmas.Accounts.Lawful.{IsMine, hand-known, move-lawful, clear_seen-lawful, clear_in_hand-lawful, leave-lawful}
use Rattle.lock_world.proofs.Lemmas.Accounts.Parts.{mine}
use Rattle.lock_world.proofs.Lemmas.Accounts.Waits.{account-asking, account-loading_wait, account-waiting, account-marking_first, account-marking_next, account-clearing, account-leaving}
use Rattle.lock_world.proofs.Lemmas.Accounts.Marks.{mark_first-lawful, mark_next-lawful}
use Rattle.lock_world.proofs.Lemmas.Counters.Lists.{any-map}
use Rattle.shared_rule.specs.Marks as mark
use Rattle.shared_rule.specs.declared.rule.TableSizes.{TableSizes}
use Rattle.shared_rule.specs.declared.history.History.{History}
use Rattle.shared_rule.specs.Shown.{set_word}
use Rattle.shared_rule.specs.History.{told, in_hand, is_among, sessions_told, account_granting, account_granting_by, is_granted, account_cleared, account_left}
use Rattle.shared_rule.specs.Lawful.{IsGrantingIn, MayMarkBy, MayClearBy}
use Rattle.shared_rule.proofs.Lemmas.Events.Words.{IsAlwaysLawful, KeepsHome}

-- Steps on wait words.

-- A partition in a session's own hand is not at home, before a step that records a move there nor after it.
pub home-recorded : (contents : Contents) (p s : ℕ) (its : InHand) (own : IsMine (contents.hand p) (contents.now p) s
    its) (now : ℕ → Content) (done : Move) (unmarked : ℕ → Bool)
    → ((q : ℕ) → q ≢ p → now q ≡ contents.now q)
    → KeepsHome contents (record { now = now; hand = set_at contents.hand p (recording (contents.hand p) done unmarked) })
home-recorded contents p s its own now done unmarked elsewhere q none =
    elim (cases_eq q p) [
      | inl same ↦
          let some = ap (λ h. recording h done unmarked) own.is_hand in
          absurd (cc (sym none ∙ (set_at-here contents.hand p (recording (contents.hand p) done unmarked) q same ∙ some)))
      | inr other ↦ (sym (set_at-else contents.hand p (recording (contents.hand p) done unmarked) q other) ∙ none, elsewhere q other)
    ]

module _ {T : Type 0} (content : T → Content) (sizes : TableSizes) (x : History T) where
  -- Loading its own wait word.
  pub loading_wait-lawful : IsAlwaysLawful content sizes x (word.Wait x.number) (λ _. Unit {0}) (λ n. n) mark.LoadedWait
  loading_wait-lawful w steps n below shown _ =
      let same : w.words ≡ set_word w.words (word.Wait x.number) n = ap (λ f. record (w.words) { wait = f }) (sym (set_at-same w.words.wait x.number n shown)) in
      record {
        list = w.words.list;
        noted = record {
          step = step.LoadWait n;
          tells = refl;
          after = after_loading_wait w x.number n;
          happens = (record { steps = steps.makes; is_word = shown }, refl);
          numbers = refl;
          account = (λ i. record (account_tracing (steps.account i) (Loaded (word.Wait x.number) n)) { seen = (steps.account i).seen || (wait_state (shown i) == 2) })
              ∙ sym (account-loading_wait w x.number n);
          words = same;
          none_beyond = steps.none_beyond;
          few_counted = steps.few_counted x.number;
          keeps = record { in_order = tt; asks = λ d is was. tt; todo_ = λ d is. is; flagged_ = λ d was. was };
        };
        home = λ p none. (none, refl);
        lists = λ lock nobody. (nobody, refl);
      }

  -- Asking a session to cancel.
  pub asking-lawful : (other : ℕ) → IsAlwaysLawful content sizes x (word.Wait other) (λ _. Unit {0}) (λ n. bit_or n 4) (mark.Asked other)
  asking-lawful other w steps n below shown _ = record {
    list = w.words.list;
    noted = record {
      step = step.AskCancel other;
      tells = refl;
      after = after_asking w x.number other;
      happens = (steps.makes, refl);
      numbers = refl;
      account = (λ i. account_tracing (steps.account i) (AskedToCancel other (shown i))) ∙ sym (account-asking w x.number other);
      words = ap (λ k. set_word w.words (word.Wait other) (asked_word k)) (sym shown);
      none_beyond = steps.none_beyond;
      few_counted = steps.few_counted x.number;
      keeps = record { in_order = tt; asks = λ d is was. tt; todo_ = λ d is. is; flagged_ = λ d was. was };
    };
    home = λ p none. (none, refl);
    lists = λ lock nobody. (nobody, refl);
  }

  -- Setting its own wait word to waiting.
  pub setting_waiting-lawful : (its : InHand) (tag : Tag) (mode : Mode) (now : T) → MayMoveBy sizes.sessions x.number (told content x.number x.marks) (partition_of tag) its (Join tag mode) [] (content now)
      → IsAlwaysLawful content sizes x (word.Wait x.number) (λ _. Unit {0}) (λ _. 1) (λ _. mark.SetWaiting tag mode now)
  setting_waiting-lawful its tag mode now may w steps n below shown _ =
      let p : ℕ = partition_of tag in
      let may' : MayMoveBy w.numbers.limit x.number (account w x.number) p its (Join tag mode) [] (content now) =
      subst (λ k. MayMoveBy k x.number (account w x.number) p its (Join tag mode) [] (content now)) (sym steps.is_limit)
      (subst (λ a. MayMoveBy sizes.sessions x.number a p its (Join tag mode) [] (content now)) steps.account may) in
      let own = hand-known (w.contents.hand p) (w.contents.now p) x.number its may'.in_hand in
      let known : in_hand ((told content x.number x.marks).hand p) ≡ mine own.hand_of (w.contents.now p) = ap in_hand may.in_hand ∙ own.as_known in
      record {
        list = w.words.list;
        noted = record {
          step = step.SetWaiting tag mode;
          tells = refl;
          after = after_setting_waiting w x.number tag mode (content now);
          happens = (content now, move-lawful w steps.safe x.number steps.makes p its (Join tag mode) [] (content now) may', refl);
          numbers = refl;
          account = (λ i. account_waiting (steps.account i) (known i) tag mode (content now) ((known i).now.holds x.number tag))
              ∙ sym (account-waiting w x.number tag mode (content now) own.hand_of own.is_hand own.whose);
          words = refl;
          none_beyond = steps.none_beyond;
          few_counted = steps.few_counted x.number;
          keeps = record { in_order = tt; asks = λ d is was. tt; todo_ = λ d is. is; flagged_ = λ d was. was };
        };
        home = home-recorded w.contents p x.number its own (set_at w.contents.now p (content now)) (Join tag mode) (λ _. false) (set_at-else w.contents.now p (content now));
        lists = λ lock nobody. (nobody, refl);
      }

-- Marking granted.

-- The sessions of these waits are among their numbers.
among-granted : (granted : List Wait) → is_among (map (λ (wait : Wait). wait.session) granted) ≡ waits_there granted
among-granted granted = λ i session. any-map (λ (wait : Wait). wait.session) (λ other. other == session) granted i

-- What a wakeup tells of the waits that it grants has these numbers.
pub told-granted : (told : List (ℕ × Mode)) (granted : List Wait) → told ≡ map whose_and_mode granted → sessions_told told ≡ map (λ (wait : Wait). wait.session) granted
told-granted told granted is = ap sessions_told is ∙ again granted where
  again : (waits : List Wait) → sessions_told (map whose_and_mode waits) ≡ map (λ (wait : Wait). wait.session) waits
  again [] = refl
  again (wait ∷ waits) = ap (λ rest. wait.session ∷ rest) (again waits)

-- A mark is the event of its move.
marking-happens : (w : World) (s other p : ℕ) (done : Move) (v : World) → IsGrantingIn p done → HappensMarkingIn w s other p done v → HappensMarking w s other done v
marking-happens w s other p Keep v grants h = absurd grants
marking-happens w s other p (Grant t m) v grants h = absurd grants
marking-happens w s other p (Join t m) v grants h = absurd grants
marking-happens w s other p (Release t m) v grants h = subst (λ q. HappensMarkingIn w s other q (Release t m) v) (sym grants) h
marking-happens w s other p (Leave t) v grants h = subst (λ q. HappensMarkingIn w s other q (Leave t) v) (sym grants) h
marking-happens w s other p (Adopt k i) v grants h = absurd grants

-- What the fetch-and-add makes of the word of a session that waits.
granted_word-wraps : (n : ℕ) → n < 2 ^ 64 → wait_state n ≡ 1 → granted_word n ≡ (n + 1) % 2 ^ 64
granted_word-wraps n below waits = omega (arith, below, waits)

module _ {T : Type 0} (content : T → Content) (sizes : TableSizes) (x : History T) (p : ℕ) (its : InHand) (done : Move) (granted : List Wait) (now : T) (other : ℕ) (grants : IsGrantingIn p done) where
  abbrev a : Account
  a = told content x.number x.marks

  abbrev woken : List ℕ
  woken = map (λ (wait : Wait). wait.session) granted

  marking_first-lawful : MayMarkFirstBy sizes.sessions x.number a p its done granted (content now) other
      → IsAlwaysLawful content sizes x (word.Wait other) (λ _. Unit {0}) (λ n. (n + 1) % 2 ^ 64) (λ _. mark.MarkedGranted p other done woken now)
  marking_first-lawful may w steps n below shown _ =
      let may' : MayMarkFirstBy w.numbers.limit x.number (account w x.number) p its done granted (content now) other =
      subst (λ k. MayMarkFirstBy k x.number (account w x.number) p its done granted (content now) other) (sym steps.is_limit)
      (subst (λ b. MayMarkFirstBy sizes.sessions x.number b p its done granted (content now) other) steps.account may) in
      let lawful = mark_first-lawful w steps.safe x.number steps.makes p its done granted (content now) other may' in
      let own = hand-known (w.contents.hand p) (w.contents.now p) x.number its may'.may_move.in_hand in
      let known : in_hand (a.hand p) ≡ mine own.hand_of (w.contents.now p) = ap in_hand may.may_move.in_hand ∙ own.as_known in
      let unrecorded : (mine own.hand_of (w.contents.now p)).recorded ≡ None = ap (λ (k : InHand). k.recorded) (sym own.as_known) ∙ may.may_move.unrecorded in
      let waits : wait_state n ≡ 1 = ap wait_state shown ∙ lawful.may_mark.waiting in
      record {
        list = w.words.list;
        noted = record {
          step = step.MarkGranted other done;
          tells = refl;
          after = after_marking_first w x.number other p done granted (content now);
          happens = marking-happens w x.number other p done _ grants (inl (granted, content now, lawful, refl));
          numbers = refl;
          account = (λ i. account_granting (steps.account i) p (known i) other done woken (content now))
              ∙ ((λ i. account_granting_by (unrecorded i) (account w x.number) p (mine own.hand_of (w.contents.now p)) other done woken (content now))
              ∙ ((λ i. account_marking (account w x.number) p (mine own.hand_of (w.contents.now p)) (content now) done done (unmarked_but (among-granted granted i) other))
              ∙ sym (account-marking_first w x.number other p done granted (content now) own.hand_of own.is_hand own.whose)));
          words = ap (λ k. set_word w.words (word.Wait other) (granted_word k)) (sym shown) ∙ ap (set_word w.words (word.Wait other)) (granted_word-wraps n below waits);
          none_beyond = steps.none_beyond;
          few_counted = steps.few_counted x.number;
          keeps = record { in_order = tt; asks = λ d is was. tt; todo_ = λ d is. is; flagged_ = λ d was. was };
        };
        home = home-recorded w.contents p x.number its own (set_at w.contents.now p (content now)) done (unmarked_but (waits_there granted) other) (set_at-else w.contents.now p (content now));
        lists = λ lock nobody. (nobody, refl);
      }

  marking_next-lawful : MayMarkNextBy a p its done other
      → IsAlwaysLawful content sizes x (word.Wait other) (λ _. Unit {0}) (λ n. (n + 1) % 2 ^ 64) (λ _. mark.MarkedGranted p other done woken now)
  marking_next-lawful may w steps n below shown _ =
      let may' : MayMarkNextBy (account w x.number) p its done other = subst (λ b. MayMarkNextBy b p its done other) steps.account may in
      let lawful = mark_next-lawful w steps.safe x.number steps.makes p its done other may' in
      let own = hand-known (w.contents.hand p) (w.contents.now p) x.number its may'.in_hand in
      let known : in_hand (a.hand p) ≡ mine own.hand_of (w.contents.now p) = ap in_hand may.in_hand ∙ own.as_known in
      let recorded : (mine own.hand_of (w.contents.now p)).recorded ≡ Some done = ap (λ (k : InHand). k.recorded) (sym own.as_known) ∙ may.recorded in
      let unmarked : own.hand_of.unmarked ≡ is_unmarked (w.contents.hand p) = sym (ap is_unmarked own.is_hand) in
      let waits : wait_state n ≡ 1 = ap wait_state shown ∙ lawful.may_mark.waiting in
      record {
        list = w.words.list;
        noted = record {
          step = step.MarkGranted other done;
          tells = refl;
          after = after_marking_next w other p done;
          happens = marking-happens w x.number other p done _ grants (inr (lawful, refl));
          numbers = refl;
          account = (λ i. account_granting (steps.account i) p (known i) other done woken (content now))
              ∙ ((λ i. account_granting_by (recorded i) (account w x.number) p (mine own.hand_of (w.contents.now p)) other done woken (content now))
              ∙ ((λ i. account_marking (account w x.number) p (mine own.hand_of (w.contents.now p)) (w.contents.now p) Keep done (unmarked_but (unmarked i) other))
              ∙ sym (account-marking_next w x.number other p done own.hand_of own.is_hand own.whose)));
          words = ap (λ k. set_word w.words (word.Wait other) (granted_word k)) (sym shown) ∙ ap (set_word w.words (word.Wait other)) (granted_word-wraps n below waits);
          none_beyond = steps.none_beyond;
          few_counted = steps.few_counted x.number;
          keeps = record { in_order = tt; asks = λ d is was. tt; todo_ = λ d is. is; flagged_ = λ d was. was };
        };
        home = home-recorded w.contents p x.number its own w.contents.now done (unmarked_but (is_unmarked (w.contents.hand p)) other) (λ q _. refl);
        lists = λ lock nobody. (nobody, refl);
      }

  pub marking-lawful : MayMarkBy sizes.sessions x.number a p its done granted (content now) other
      → IsAlwaysLawful content sizes x (word.Wait other) (λ _. Unit {0}) (λ n. (n + 1) % 2 ^ 64) (λ _. mark.MarkedGranted p other done woken now)
  marking-lawful (inl may) = marking_first-lawful may
  marking-lawful (inr may) = marking_next-lawful may

-- Clearing its own wait word.

-- Whether the wait was granted, as the session can tell, is so in the World: it has seen it, or has the
-- content in hand.
granted-known : (w : World) (s : ℕ) (wait : OwnWait) → MayClearBy s (account w s) wait
    → is_granted s (account w s) wait ≡ (w.sessions.seen s || (w.contents.now (partition_of wait.tag)).holds s wait.tag wait.mode)
granted-known w s wait (inl seen) =
    ap (λ b. b || (in_hand ((account w s).hand (partition_of wait.tag))).now.holds s wait.tag wait.mode) seen.has_seen
    ∙ sym (ap (λ b. b || (w.contents.now (partition_of wait.tag)).holds s wait.tag wait.mode) seen.has_seen)
granted-known w s wait (inr gone) =
    let own = hand-known (w.contents.hand (partition_of wait.tag)) (w.contents.now (partition_of wait.tag)) s gone.0 gone.1.in_hand in
    ap (λ (k : InHand). w.sessions.seen s || k.now.holds s wait.tag wait.mode) (ap in_hand gone.1.in_hand ∙ own.as_known)

-- Whoever may clear it waits.
may_clear-waits : (s : ℕ) (b : Account) (wait : OwnWait) → MayClearBy s b wait → b.awaited ≡ Some wait
may_clear-waits s b wait (inl seen) = seen.is_wait
may_clear-waits s b wait (inr gone) = gone.1.is_wait

clearing-happens : (w : World) → SafeWorld w → (s : ℕ) → MakesSteps w.numbers s → (wait : OwnWait) → MayClearBy s (account w s) wait → MayClearSeen w s wait ⊎ MayClearInHand w s wait
clearing-happens w safe s makes wait (inl seen) = inl (clear_seen-lawful w safe s makes wait seen)
clearing-happens w safe s makes wait (inr gone) = inr (clear_in_hand-lawful w safe s makes wait gone.0 gone.1)

module _ {T : Type 0} (content : T → Content) (sizes : TableSizes) (x : History T) (wait : OwnWait) where
  pub clearing-lawful : MayClearBy x.number (told content x.number x.marks) wait
      → IsAlwaysLawful content sizes x (word.Wait x.number) (λ _. Unit {0}) (λ _. 0) (λ _. mark.ClearedWait)
  clearing-lawful may w steps n below shown _ =
      let may' : MayClearBy x.number (account w x.number) wait = subst (λ b. MayClearBy x.number b wait) steps.account may in
      let waits : (account w x.number).awaited ≡ Some wait = may_clear-waits x.number (account w x.number) wait may' in
      record {
        list = w.words.list;
        noted = record {
          step = step.ClearWait false;
          tells = refl;
          after = after_clearing w x.number wait;
          happens = (wait, clearing-happens w steps.safe x.number steps.makes wait may', refl);
          numbers = refl;
          account = (λ i. account_cleared x.number (steps.account i) (steps.account i).awaited)
              ∙ (ap (account_cleared x.number (account w x.number)) waits
              ∙ (ap (account_clearing (account w x.number) wait) (granted-known w x.number wait may')
              ∙ sym (account-clearing w x.number wait)));
          words = refl;
          none_beyond = steps.none_beyond;
          few_counted = steps.few_counted x.number;
          keeps = record { in_order = tt; asks = λ d is was. tt; todo_ = λ d is. is; flagged_ = λ d was. was };
        };
        home = λ p none. (none, refl);
        lists = λ lock nobody. (nobody, refl);
      }

  -- Leaving the queue by it.
  pub leaving-lawful : (its : InHand) (granted : List Wait) (now : T) → MayLeaveBy sizes.sessions x.number (told content x.number x.marks) wait its granted (content now)
      → IsAlwaysLawful content sizes x (word.Wait x.number) (λ _. Unit {0}) (λ _. 0) (λ _. mark.LeftQueue (map (λ (w : Wait). w.session) granted) now)
  leaving-lawful its granted now may w steps n below shown _ =
      let p : ℕ = partition_of wait.tag in
      let may' : MayLeaveBy w.numbers.limit x.number (account w x.number) wait its granted (content now) =
      subst (λ k. MayLeaveBy k x.number (account w x.number) wait its granted (content now)) (sym steps.is_limit)
      (subst (λ b. MayLeaveBy sizes.sessions x.number b wait its granted (content now)) steps.account may) in
      let own = hand-known (w.contents.hand p) (w.contents.now p) x.number its may'.may_move.in_hand in
      let known : in_hand ((account w x.number).hand p) ≡ mine own.hand_of (w.contents.now p) = ap in_hand may'.may_move.in_hand ∙ own.as_known in
      let sessions : List ℕ = map (λ (z : Wait). z.session) granted in
      record {
        list = w.words.list;
        noted = record {
          step = step.ClearWait true;
          tells = refl;
          after = after_leaving w x.number wait granted (content now);
          happens = inl (wait, granted, content now, leave-lawful w steps.safe x.number steps.makes wait its granted (content now) may', refl);
          numbers = refl;
          account = (λ i. account_left (steps.account i) (steps.account i).awaited (content now) sessions)
              ∙ (ap (λ found. account_left (account w x.number) found (content now) sessions) may'.is_wait
              ∙ ((λ i. account_leaving (account w x.number) (known i) wait (content now) (among-granted granted i))
              ∙ sym (account-leaving w x.number wait granted (content now) own.hand_of own.is_hand own.whose)));
          words = refl;
          none_beyond = steps.none_beyond;
          few_counted = steps.few_counted x.number;
          keeps = record { in_order = tt; asks = λ d is was. tt; todo_ = λ d is. is; flagged_ = λ d was. was };
        };
        home = home-recorded w.contents p x.number its own (set_at w.contents.now p (content now)) (Leave wait.tag) (waits_there granted) (set_at-else w.contents.now p (content now));
        lists = λ lock nobody. (nobody, refl);
      }
