use Rattle.std.proofs.Common.{◌≡◌, ◌≢◌, ℕ, ◌+◌, ◌-◌, ◌%◌, ◌^◌, ◌<◌, ◌==◌, List, ◌∷◌, length}
use Rattle.std.proofs.Common.{Option, Some, None, refl, sym, ap, ◌∙◌, subst, inl, inr, arith}
use Rattle.std.specs.Prelude.{slice_set, slice_index}
use Rattle.std.proofs.lemmas.Bool.{cases_eq}
use mathlib.Core.Option.{some, none}
use mathlib.Core.Option as maybe
use lib.ListN.{get_elem?}
use prog.Atomic.{either}
use Rattle.atomic_table.specs.Table.{State, Step, step, Act, takes, gives, keeps, Valid, stepped, carried_after, rest}
use Rattle.atomic_table.proofs.Lists.{set_here, set_else, exchanged}
use Rattle.lw_word.specs.LightweightWord.{IsHeldByNobody, IsHeldExclusively, taken_word, put_word}
use Rattle.lw_word.specs.declared.wait_lists.LwWaiter.{LwWaiter}
use Rattle.lock_table.specs.declared.request.Request.{Request}
use Rattle.lock_table.specs.declared.moves.Move.{Move}
use Rattle.lock_table.specs.Content.{Content}
use Rattle.lock_table.proofs.Lemmas.Put.{set_at-here, set_at-else}
use Rattle.lock_table.specs.Put.{set_at}
use Rattle.lock_world.specs.declared.events.Word.TheVariants.{Partition}
use Rattle.lock_world.specs.declared.events.Step.TheVariants.{TakeExclusive, PutExclusive}
use Rattle.lock_world.specs.declared.events.Step as event
use Rattle.lock_world.specs.World.{World, Contents, Hand, MakesSteps}
use Rattle.lock_world.specs.Safe.{is_hand_of}
use Rattle.lock_world.specs.SafeWorld.{SafeWorld}
use Rattle.lock_world.specs.Happens.Partitions.{after_taking_partition, after_putting_partition, content_taken}
use Rattle.lock_world.specs.Account.{Account, InHand, account}
use Rattle.lock_world.specs.AccountSteps.{account_taking, account_putting}
use Rattle.lock_world.specs.AccountLaw.{MayPutBy}
use Rattle.lock_world.specs.Happens.{HappensStep}
use Rattle.shared_rule.specs.Allowed.{RuledNext, AllowsStep}
use Rattle.shared_rule.specs.Lawful.{MayPutPart}
use Rattle.lock_world.specs.AccountFacts.{KnowsContent}
use Rattle.lock_world.proofs.Lemmas.Words.Holders.{free-not_held}
use Rattle.lock_world.proofs.Lemmas.Accounts.Lawful.{put-lawful, put_recorded-lawful, hand-known}
use Rattle.lock_world.proofs.Lemmas.Accounts.Partitions.{account-taking, account-putting}
use Rattle.lock_world.proofs.Lemmas.Accounts.Facts.{content-known}
use Rattle.shared_rule.specs.Todos.{todo_told_by, flagged_told_by}
use Rattle.shared_rule.specs.Todos.{todo_putting}
use Rattle.lock_world.specs.WaitLists.{partition_lock}
use Rattle.lw_word.specs.declared.words.LwMode.TheVariants.{Exclusive}
use Rattle.lw_word.specs.LockState.{state_of, put_in}
use Rattle.shared_rule.proofs.Lemmas.Orders.{MayAttempt, earlier-by}
use Rattle.shared_rule.proofs.Lemmas.StepsOwed.{KeepsOwed, keeps-taking, keeps-putting, put-exclusive}
use Rattle.shared_rule.specs.Marks.{TookPart, PutPart}
use Rattle.shared_rule.specs.declared.history.Mark.{Mark}
use Rattle.shared_rule.specs.declared.history.History.{History}
use Rattle.shared_rule.specs.declared.rule.TableSizes.{TableSizes}
use Rattle.shared_rule.specs.declared.history.View.{View}
use Rattle.shared_rule.specs.declared.kept.Kept.{Kept}
use Rattle.shared_rule.specs.declared.kept.Kept.TheVariants.{Part}
use Rattle.shared_rule.specs.Layout.{index_of_word, content_shelf_of, list_shelf_of, shelves_of}
use Rattle.shared_rule.specs.Tells.{Puts}
use Rattle.shared_rule.specs.Shown.{set_word}
use Rattle.shared_rule.specs.History.{told, noting, taken_of, first_account, first_number}
use Rattle.shared_rule.specs.Ruled.{IsAtHome, IsHomeUnlessInHand, ContentsAreHome, ListIsAtHome, ListsAreHome, Ruled}
use Rattle.shared_rule.specs.Plays.{Side, WentHome, TookContent, TookPartition}
use Rattle.lock_table.specs.Queue.{waits_there}
use Rattle.shared_rule.proofs.Lemmas.Waiters.{waits-below}
use Rattle.shared_rule.proofs.Lemmas.Shown.{words-set}
use Rattle.shared_rule.proofs.Lemmas.Frame.{Stepper, IsNoted, ruled-steps, ruled-noted}
use Rattle.shared_rule.proofs.Lemmas.Events.Words.{nothing-changes}
use Rattle.shared_rule.proofs.Lemmas.Events.Locks.{put_word-wraps}

-- Taking a partition in hand with its content, and putting it home.

-- Two partitions' contents have shelves of their own.
slots-apart : (p q : ℕ) → q ≢ p → content_shelf_of q ≢ content_shelf_of p
slots-apart p q other same = other (omega (arith, same))

-- A partition whose word is free is in nobody's hand.
free-in_no_hand : (w : World) → SafeWorld w → (p : ℕ) → IsHeldByNobody (w.words.partition p) → w.contents.hand p ≡ None
free-in_no_hand w safe p free = go (w.contents.hand p) refl where
  go : (hand : Option Hand) → w.contents.hand p ≡ hand → hand ≡ None
  go None is = refl
  go (Some hand) is =
      let held = safe.but_slots.table.carriers.hands p hand.holder ∙ ap (λ h. is_hand_of h hand.holder) is ∙ Rattle.std.proofs.Common.eq-eqb hand.holder hand.holder refl in
      absurd (free-not_held w.numbers.limit (w.words.partition p) (λ s. w.sessions.holds_partition s p) (λ s. w.sessions.shares_partition s p)
      (safe.but_slots.table.promise.words p) free hand.holder held)

-- A shelf keeps one part.
pub part-same : {T : Type 0} (one other : T) → ◌≡◌ {A = Kept T} (Part one) (Part other) → one ≡ other
part-same one other same = cc (same)

-- A list has another shelf than each content,
list-apart : (p lock : ℕ) → p < 16 → list_shelf_of lock ≢ content_shelf_of p
list-apart p lock exists same = omega (arith, same, exists)

-- so lists stay at home where a content comes or goes.
lists-beside :
    {T : Type 0} (sessions : ℕ) (homes : List (maybe.Option (Kept T))) (p : ℕ) (there : maybe.Option (Kept T))
    (has_list : ℕ → Option ℕ) (list : ℕ → List LwWaiter) → p < 16 → ListsAreHome sessions homes has_list list
    → ListsAreHome sessions (slice_set homes (content_shelf_of p) there) has_list list
lists-beside sessions homes p there has_list list exists home lock within nobody =
    subst (ListIsAtHome sessions (list lock))
    (sym (set_else homes (content_shelf_of p) (list_shelf_of lock) there (list-apart p lock exists)))
    (home lock within nobody)

module _ {T : Type 0} (content : T → Content) (begun : T → Option Request) where
  -- What is at home stays so where one content is taken in hand,
  home-taken :
      (homes : List (maybe.Option (Kept T))) (contents : Contents) (p : ℕ) (hand : Hand) → ContentsAreHome content begun homes contents
      → ContentsAreHome content begun (slice_set homes (content_shelf_of p) none) (record { now = contents.now; hand = set_at contents.hand p (Some hand) })
  home-taken homes contents p hand home q within =
      elim (cases_eq q p) [
        | inl same ↦ subst (λ h. IsHomeUnlessInHand content begun h (contents.now q) (get_elem? (slice_set homes (content_shelf_of p) none) (content_shelf_of q)))
            (sym (set_at-here contents.hand p (Some hand) q same)) tt
        | inr other ↦ subst (λ h. IsHomeUnlessInHand content begun h (contents.now q) (get_elem? (slice_set homes (content_shelf_of p) none) (content_shelf_of q)))
            (sym (set_at-else contents.hand p (Some hand) q other))
            (subst (IsHomeUnlessInHand content begun (contents.hand q) (contents.now q)) (sym (set_else homes (content_shelf_of p) (content_shelf_of q) none (slots-apart p q other))) (home q within))
      ]

  -- and where one goes home.
  home-put :
      (sessions : ℕ) (homes : List (maybe.Option (Kept T))) (contents : Contents) (p : ℕ) (part : T) → length homes ≡ shelves_of sessions → p < 16 → begun part ≡ None → ContentsAreHome content begun homes contents
      → ContentsAreHome content begun (slice_set homes (content_shelf_of p) (some (Part part))) (record { now = set_at contents.now p (content part); hand = set_at contents.hand p None })
  home-put sessions homes contents p part many exists none_begun home q within =
      elim (cases_eq q p) [
        | inl same ↦
            subst (λ h. IsHomeUnlessInHand content begun h (set_at contents.now p (content part) q) (get_elem? (slice_set homes (content_shelf_of p) (some (Part part))) (content_shelf_of q)))
            (sym (set_at-here contents.hand p None q same)) (record {
              part = part;
              at_home = ap (λ j. get_elem? (slice_set homes (content_shelf_of p) (some (Part part))) (content_shelf_of j)) same
                  ∙ set_here homes (content_shelf_of p) (some (Part part)) (omega (arith, many, exists));
              is_content = sym (set_at-here contents.now p (content part) q same);
              none_begun = none_begun;
            })
        | inr other ↦
            subst (λ h. IsHomeUnlessInHand content begun h (set_at contents.now p (content part) q) (get_elem? (slice_set homes (content_shelf_of p) (some (Part part))) (content_shelf_of q)))
            (sym (set_at-else contents.hand p None q other))
            (subst (λ now. IsHomeUnlessInHand content begun (contents.hand q) now (get_elem? (slice_set homes (content_shelf_of p) (some (Part part))) (content_shelf_of q)))
            (sym (set_at-else contents.now p (content part) q other))
            (subst (IsHomeUnlessInHand content begun (contents.hand q) (contents.now q))
            (sym (set_else homes (content_shelf_of p) (content_shelf_of q) (some (Part part)) (slots-apart p q other))) (home q within)))
      ]

module _ {T : Type 0} (content : T → Content) (begun : T → Option Request) (sizes : TableSizes) (id : ℕ) (me : Side T) (x : History T) (others : List (History T)) (is : me.0.sessions ≡ x ∷ others)
    (p : ℕ) (exists : p < 16) where
  -- What is at home in a partition that is free.
  at_home : (s : State (Kept T) (View T)) (r : Ruled content begun sizes s) → IsHeldByNobody (r.world.words.partition p)
      → IsAtHome content begun (r.world.contents.now p) (get_elem? s.homes (content_shelf_of p))
  at_home s r free = subst (λ h. IsHomeUnlessInHand content begun h (r.world.contents.now p) (get_elem? s.homes (content_shelf_of p))) (free-in_no_hand r.world r.safe p free) (r.shown.of_contents p exists)

  -- Taking it is noted so.
  abbrev taking-noted : (w : World) → Stepper sizes w x.number (told content x.number x.marks) → IsHeldByNobody (w.words.partition p) → MayAttempt (told content x.number x.marks) (todo_told_by x.number x.marks) (partition_lock p) → (part : T) → content part ≡ w.contents.now p
      → IsNoted content sizes.groups w x.number (told content x.number x.marks) (todo_told_by x.number x.marks) (flagged_told_by x.marks) (TookPart p part) (set_word w.words (Partition p) (taken_word (w.words.partition p)))
  taking-noted w steps free tries part is_content = record {
    step = TakeExclusive (Partition p);
    tells = refl;
    after = after_taking_partition w x.number p;
    happens = (record { steps = steps.makes; exists = exists; free = free }, refl);
    numbers = refl;
    account = (λ i. account_taking (steps.account i) p (is_content i)) ∙ sym (account-taking w x.number p);
    words = refl;
    none_beyond = steps.none_beyond;
    few_counted = steps.few_counted x.number;
    keeps = keeps-taking w x.number (todo_told_by x.number x.marks) (flagged_told_by x.marks) (Partition p) tries.0 (earlier-by w x.number (told content x.number x.marks) steps.account (partition_lock p) tries.1);
  }

  -- The exchange takes it where it finds the number of a free word.
  pub takes_part : (old new : ℕ) (step : Step (Kept T)) → step.first ≡ old → step.word ≡ index_of_word sizes.sessions (Partition p) → IsHeldByNobody old → new ≡ taken_word old
      → MayAttempt (told content x.number x.marks) (todo_told_by x.number x.marks) (partition_lock p)
      → AllowsStep content begun sizes (shelves_of sizes.sessions) id me (index_of_word sizes.sessions (Partition p)) (λ n. either (n == old) new n) (TookPartition content begun sizes.sessions step me)
  takes_part old new step first word free is_new tries s r many at below =
      exchanged n old new (λ m. (view : View T) × (act : Act (Kept T)) × Valid s.homes me.1 act
      × RuledNext content begun sizes r.events me.0 view (stepped s (index_of_word sizes.sessions (Partition p)) m id me.1 view act)
      × TookPartition content begun sizes.sessions step me n (view, carried_after me.1 act))
      (λ hit.
      let shown : r.world.words.partition p ≡ old = sym (r.shown.of_words.word (Partition p) (exists, tt)) ∙ hit in
      let is_free : IsHeldByNobody (r.world.words.partition p) = subst IsHeldByNobody (sym shown) free in
      let home = at_home s r is_free in
      let steps = ruled-steps content begun sizes s r id me.0 x others at is in
      let noted = taking-noted r.world steps is_free tries home.part home.is_content in
      let next : taken_word (r.world.words.partition p) ≡ new = ap taken_word shown ∙ sym is_new in (
        noting me.0 (TookPart p home.part),
        takes (content_shelf_of p) (Part home.part),
        home.at_home,
        ruled-noted content begun sizes s r id me.0 x others at is (TookPart p home.part)
            (set_word r.world.words (Partition p) (taken_word (r.world.words.partition p))) (slice_set s.words (index_of_word sizes.sessions (Partition p)) new)
            (slice_set s.homes (content_shelf_of p) none) noted
            (subst (λ k. Rattle.shared_rule.specs.Shown.WordsAreShown sizes (slice_set s.words (index_of_word sizes.sessions (Partition p)) k) (set_word r.world.words (Partition p) (taken_word (r.world.words.partition p)))) next
            (words-set sizes r.shown.some_groups s.words r.world.words (Partition p) (taken_word (r.world.words.partition p)) r.shown.of_words (exists, tt)))
            (home-taken content begun s.homes r.world.contents p
            (record { holder = x.number; taken = r.world.contents.now p; recorded = None; unmarked = λ _. Rattle.std.proofs.Common.false }) r.shown.of_contents)
            (lists-beside sizes.sessions s.homes p none r.world.sessions.has_list r.world.words.list exists r.shown.of_lists),
        (
          (λ _ q within same.
              let one : p ≡ q = omega (arith, same, word) in
              subst (λ k. TookContent content begun sizes.sessions k me (noting me.0 (TookPart p home.part), (content_shelf_of p, Part home.part) ∷ me.1)) one (record {
                part = home.part;
                side = refl;
                none_begun = home.none_begun;
                knows = subst (λ (sessions : List (History T)). KnowsContent (first_number sessions) (first_account content sessions) p (content home.part)) (sym is)
                    (subst (λ a. KnowsContent x.number a p (content home.part)) (sym steps.account)
                    (subst (KnowsContent x.number (account r.world x.number) p) (sym home.is_content) (content-known r.world r.safe x.number p (free-in_no_hand r.world r.safe p is_free))));
                waiters = λ k tag there.
                    subst (λ n. k < n) r.is_limit (waits-below r.world r.safe p k tag
                    (ap (λ (now : Content). waits_there (now.waits tag) k) (sym home.is_content) ∙ there));
              })),
          (λ miss. absurd (miss (hit ∙ sym first))),
        ),
      ))
      (λ miss. (me.0, keeps, tt, nothing-changes content begun sizes id (index_of_word sizes.sessions (Partition p)) me.0 s r at, ((λ hit. absurd (miss (hit ∙ first))), λ _. refl)))
    where
      n : ℕ
      n = slice_index s.words (index_of_word sizes.sessions (Partition p))

  -- Whoever may put it has it in hand.
  may_put-in_hand : (a : Account) (its : InHand) (done : Move) (now : Content) → MayPutPart sizes.sessions x.number a p its done now → a.hand p ≡ Some its
  may_put-in_hand a its done now (inl may) = may.may_move.in_hand
  may_put-in_hand a its done now (inr may) = may.may_put.in_hand

  -- Putting it is an event.
  put-happens : (w : World) → SafeWorld w → MakesSteps w.numbers x.number → w.numbers.limit ≡ sizes.sessions → (its : InHand) (done : Move) (part : T)
      → MayPutPart sizes.sessions x.number (account w x.number) p its done (content part) → (step : event.Step) × Puts p done step × HappensStep w x.number step (after_putting_partition w x.number p done (content part))
  put-happens w safe makes is_limit its done part (inl may) =
      let may' : MayPutBy w.numbers.limit x.number (account w x.number) p its done (content part) =
      subst (λ k. MayPutBy k x.number (account w x.number) p its done (content part)) (sym is_limit) may in
      (PutExclusive (Partition p) done, (done, refl, inl refl), inl (content part, put-lawful w safe x.number makes p its done (content part) may', refl))
  put-happens w safe makes is_limit its done part (inr may) =
      let own = hand-known (w.contents.hand p) (w.contents.now p) x.number its may.may_put.in_hand in
      let same : content part ≡ w.contents.now p = may.same ∙ ap (λ (k : InHand). k.now) own.as_known in (
        PutExclusive (Partition p) may.made,
        (may.made, refl, inr may.keeps),
        inr (put_recorded-lawful w safe x.number makes p its may.made may.may_put, λ i. after_putting_partition w x.number p (may.keeps i) (same i)),
      )

  -- Putting it is noted so.
  abbrev putting-noted : (w : World) → Stepper sizes w x.number (told content x.number x.marks) → (its : InHand) (done : Move) (part : T) (found : ℕ)
      → MayPutPart sizes.sessions x.number (told content x.number x.marks) p its done (content part)
      → found ≡ w.words.partition p → IsHeldExclusively (w.words.partition p) → (todo_told_by x.number x.marks).due ≡ None
      → IsNoted content sizes.groups w x.number (told content x.number x.marks) (todo_told_by x.number x.marks) (flagged_told_by x.marks) (PutPart p done part found) (set_word w.words (Partition p) (put_word (w.words.partition p)))
  putting-noted w steps its done part found may shown held undue =
      let may' : MayPutPart sizes.sessions x.number (account w x.number) p its done (content part) = subst (λ a. MayPutPart sizes.sessions x.number a p its done (content part)) steps.account may in
      let had = may_put-in_hand (told content x.number x.marks) its done (content part) may in
      let made = put-happens w steps.safe steps.makes steps.is_limit its done part may' in
      let own = hand-known (w.contents.hand p) (w.contents.now p) x.number its (may_put-in_hand (account w x.number) its done (content part) may') in
      let taken : taken_of ((told content x.number x.marks).hand p) ≡ content_taken (w.contents.now p) (w.contents.hand p) =
      ap taken_of had ∙ (ap (λ (k : InHand). k.taken) own.as_known ∙ sym (ap (content_taken (w.contents.now p)) own.is_hand)) in
      record {
        step = made.0;
        tells = made.1;
        after = after_putting_partition w x.number p done (content part);
        happens = made.2;
        numbers = refl;
        account = (λ i. account_putting (steps.account i) p (taken i) (content part) done) ∙ sym (account-putting w x.number p done (content part));
        words = refl;
        none_beyond = steps.none_beyond;
        few_counted = steps.few_counted x.number;
        keeps = subst (λ (k : event.Step). KeepsOwed w x.number (todo_told_by x.number x.marks) (flagged_told_by x.marks) (todo_putting (todo_told_by x.number x.marks) (partition_lock p) (put_in Exclusive (state_of found))) (flagged_told_by x.marks) k) (sym made.1.1)
            (keeps-putting w x.number (todo_told_by x.number x.marks) (flagged_told_by x.marks) (Partition p) made.1.0 (put_in Exclusive (state_of found)) (put-exclusive (w.words.partition p) found shown held) undue);
      }

  pub puts_part : (step : Step (Kept T)) (its : InHand) (done : Move) (part : T) → MayPutPart sizes.sessions x.number (told content x.number x.marks) p its done (content part)
      → begun part ≡ None → me.1 ≡ (content_shelf_of p, Part part) ∷ rest me.1 → (todo_told_by x.number x.marks).due ≡ None
      → AllowsStep content begun sizes (shelves_of sizes.sessions) id me (index_of_word sizes.sessions (Partition p)) (λ n. (n + (2 ^ 64 - 2 ^ 24)) % 2 ^ 64) (WentHome (PutPart p done part) step me)
  puts_part step its done part may none_begun carried undue s r many at below =
      let steps = ruled-steps content begun sizes s r id me.0 x others at is in
      let own = hand-known (r.world.contents.hand p) (r.world.contents.now p) x.number its (subst (λ (a : Account). a.hand p ≡ Some its) steps.account (may_put-in_hand (told content x.number x.marks) its done (content part) may)) in
      let holds : r.world.sessions.holds_partition x.number p ≡ Rattle.std.proofs.Common.true =
      r.safe.but_slots.table.carriers.hands p x.number ∙ ap (λ h. is_hand_of h x.number) own.is_hand ∙ Rattle.std.proofs.Common.eq-eqb own.hand_of.holder x.number own.whose in
      let shown = r.shown.of_words.word (Partition p) (exists, tt) in
      let held : IsHeldExclusively (slice_index s.words (index_of_word sizes.sessions (Partition p))) =
      subst IsHeldExclusively (sym shown) ((r.safe.but_slots.table.promise.words p).held_is_shown x.number holds) in
      let held_there : IsHeldExclusively (r.world.words.partition p) = (r.safe.but_slots.table.promise.words p).held_is_shown x.number holds in
      let noted = putting-noted r.world steps its done part (slice_index s.words (index_of_word sizes.sessions (Partition p))) may shown held_there undue in
      let next : put_word (r.world.words.partition p) ≡ (slice_index s.words (index_of_word sizes.sessions (Partition p)) + (2 ^ 64 - 2 ^ 24)) % 2 ^ 64 =
      ap put_word (sym shown) ∙ put_word-wraps (slice_index s.words (index_of_word sizes.sessions (Partition p))) below held in (
        noting me.0 (PutPart p done part (slice_index s.words (index_of_word sizes.sessions (Partition p)))),
        gives,
        tt,
        ruled-noted content begun sizes s r id me.0 x others at is (PutPart p done part (slice_index s.words (index_of_word sizes.sessions (Partition p))))
            (set_word r.world.words (Partition p) (put_word (r.world.words.partition p))) (slice_set s.words (index_of_word sizes.sessions (Partition p)) ((slice_index s.words (index_of_word sizes.sessions (Partition p)) + (2 ^ 64 - 2 ^ 24)) % 2 ^ 64))
            (Rattle.atomic_table.specs.Table.put_back s.homes me.1) noted
            (subst (λ k. Rattle.shared_rule.specs.Shown.WordsAreShown sizes (slice_set s.words (index_of_word sizes.sessions (Partition p)) k) (set_word r.world.words (Partition p) (put_word (r.world.words.partition p)))) next
            (words-set sizes r.shown.some_groups s.words r.world.words (Partition p) (put_word (r.world.words.partition p)) r.shown.of_words (exists, tt)))
            (subst (λ (homes : List (maybe.Option (Kept T))). ContentsAreHome content begun homes noted.after.contents) (sym (ap (Rattle.atomic_table.specs.Table.put_back s.homes) carried))
            (home-put content begun sizes.sessions s.homes r.world.contents p part many exists none_begun r.shown.of_contents))
            (subst (λ (homes : List (maybe.Option (Kept T))). ListsAreHome sizes.sessions homes r.world.sessions.has_list r.world.words.list) (sym (ap (Rattle.atomic_table.specs.Table.put_back s.homes) carried))
            (lists-beside sizes.sessions s.homes p (some (Part part)) r.world.sessions.has_list r.world.words.list exists r.shown.of_lists)),
        refl,
      )

-- What is lawful of a partition's word is so of the word at its index, in a table with this many shelves.
module _ {T : Type 0} (content : T → Content) (begun : T → Option Request) (sizes : TableSizes) (id : ℕ) (me : Side T) (x : History T) (others : List (History T)) (is : me.0.sessions ≡ x ∷ others)
    (p : ℕ) (exists : p < 16) (slots i : ℕ) (many : slots ≡ shelves_of sizes.sessions) (at : i ≡ index_of_word sizes.sessions (Partition p)) where
  pub takes_part_at : (known old new : ℕ) → known ≡ sizes.sessions → IsHeldByNobody old → new ≡ taken_word old → MayAttempt (told content x.number x.marks) (todo_told_by x.number x.marks) (partition_lock p)
      → AllowsStep content begun sizes slots id me i (λ n. either (n == old) new n) (TookPartition content begun known (step slots i old new none) me)
  takes_part_at known old new same free is_new tries =
      subst (λ j. AllowsStep content begun sizes slots id me i (λ n. either (n == old) new n) (TookPartition content begun j (step slots i old new none) me)) (sym same)
      (subst (λ n. AllowsStep content begun sizes n id me i (λ n. either (n == old) new n) (TookPartition content begun sizes.sessions (step n i old new none) me)) (sym many)
      (subst (λ k. AllowsStep content begun sizes (shelves_of sizes.sessions) id me k (λ n. either (n == old) new n) (TookPartition content begun sizes.sessions (step (shelves_of sizes.sessions) k old new none) me)) (sym at)
      (takes_part content begun sizes id me x others is p exists old new (step (shelves_of sizes.sessions) (index_of_word sizes.sessions (Partition p)) old new none) refl refl free is_new tries)))

  pub puts_part_at : (its : InHand) (done : Move) (part : T) → MayPutPart sizes.sessions x.number (told content x.number x.marks) p its done (content part)
      → begun part ≡ None → me.1 ≡ (content_shelf_of p, Part part) ∷ rest me.1 → (todo_told_by x.number x.marks).due ≡ None → (mark : ℕ → Mark T) → mark ≡ PutPart p done part
      → AllowsStep content begun sizes slots id me i (λ n. (n + (2 ^ 64 - 16777216)) % 2 ^ 64) (WentHome mark (step slots i 16777216 0 none) me)
  puts_part_at its done part may none_begun carried undue mark marked =
      subst (λ n. AllowsStep content begun sizes n id me i (λ n. (n + (2 ^ 64 - 16777216)) % 2 ^ 64) (WentHome mark (step n i 16777216 0 none) me)) (sym many)
      (subst (λ k. AllowsStep content begun sizes (shelves_of sizes.sessions) id me k (λ n. (n + (2 ^ 64 - 16777216)) % 2 ^ 64) (WentHome mark (step (shelves_of sizes.sessions) k 16777216 0 none) me)) (sym at)
      (subst (λ (m : ℕ → Mark T). AllowsStep content begun sizes (shelves_of sizes.sessions) id me (index_of_word sizes.sessions (Partition p)) (λ n. (n + (2 ^ 64 - 16777216)) % 2 ^ 64) (WentHome m (step (shelves_of sizes.sessions) (index_of_word sizes.sessions (Partition p)) 16777216 0 none) me)) (sym marked)
      (puts_part content begun sizes id me x others is p exists (step (shelves_of sizes.sessions) (index_of_word sizes.sessions (Partition p)) 16777216 0 none) its done part may none_begun carried undue)))
