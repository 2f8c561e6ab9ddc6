use Rattle.std.proofs.Common.{◌≡◌, ℕ, zero, suc, ◌+◌, ◌-◌, ◌*◌, ◌%◌, ◌^◌, ◌<◌, ◌≤◌, ◌==◌, List, [], ◌∷◌, length}
use Rattle.std.proofs.Common.{Option, None, refl, sym, ap, ◌∙◌, subst, arith}
use Rattle.std.specs.Prelude.{slice_set, slice_index, slice_index_or}
use mathlib.Core.Option.{some, none}
use lib.ListN.{get_elem?}
use prog.Atomic.{either}
use Rattle.atomic_table.specs.Table.{State, step, Act, keeps, Valid, stepped, carried_after}
use Rattle.atomic_table.proofs.Lists.{exchanged}
use Rattle.modes_core.specs.declared.modes.Mode.{Mode}
use Rattle.modes_core.specs.declared.tags.Tag.{Tag}
use Rattle.lw_word.specs.LightweightWord.{IsHeldByNobody, IsHeldExclusively, IsFreeToShare, taken_word, put_word}
use Rattle.lw_word.specs.LightweightWord.{shared_count, shared_word, unshared_word}
use Rattle.lock_table.specs.declared.request.Request.{Request}
use Rattle.lock_table.specs.declared.moves.Move.TheVariants.{Keep}
use Rattle.lock_table.specs.Content.{Content}
use Rattle.lock_table.proofs.Lemmas.Put.{set_at-here}
use Rattle.lock_world.specs.declared.events.Word.TheVariants.{Fast}
use Rattle.lock_world.specs.declared.events.Step.TheVariants.{TakeExclusive, PutExclusive, TakeShared, PutShared, PutPassing}
use Rattle.lock_world.specs.SlotHolds.{group_size, most_groups, slot_count, slot_holds}
use Rattle.lock_world.specs.World.{World}
use Rattle.lock_world.specs.Counted.{passing, passed}
use Rattle.lock_world.specs.Happens.Slots.{after_taking_fast, after_putting_fast}
use Rattle.lock_world.specs.Happens.Sharing.{after_sharing_fast, after_unsharing_fast}
use Rattle.lock_world.specs.Happens.Counters.{most_counted, after_passing}
use Rattle.lock_world.specs.Account.{SlotsInHand, account}
use Rattle.lock_world.specs.AccountSteps.{account_taking_fast, account_putting_fast, account_passing}
use Rattle.lock_world.specs.AccountSteps.{account_sharing_fast, account_unsharing_fast}
use Rattle.lock_world.specs.AccountLaw.{MayPutFastBy, MayPassBy, MayShareFastBy, MayUnshareFastBy}
use Rattle.lock_world.proofs.Lemmas.Accounts.Lawful.{put_fast-lawful, pass-lawful, slots-known}
use Rattle.lock_world.proofs.Lemmas.Accounts.Lawful.{share_fast-lawful, unshare_fast-lawful}
use Rattle.lock_world.proofs.Lemmas.Words.Holders.{shared-some}
use Rattle.lock_world.specs.AccountFacts.{KnowsSlots}
use Rattle.lock_world.proofs.Lemmas.Accounts.Facts.{slots-told}
use Rattle.lock_world.proofs.Lemmas.Accounts.Slots.{slots_now, account-taking_fast, account-putting_fast, account-passing}
use Rattle.lock_world.proofs.Lemmas.Accounts.Slots.{account-sharing_fast, account-unsharing_fast}
use Rattle.shared_rule.specs.Allowed.{RuledNext, AllowsStep}
use Rattle.shared_rule.specs.declared.history.Mark.{Mark}
use Rattle.shared_rule.specs.Todos.{todo_told_by, flagged_told_by}
use Rattle.lock_world.specs.WaitLists.{fast_lock}
use Rattle.lw_word.specs.declared.words.LwMode.TheVariants.{Exclusive, Shared}
use Rattle.lw_word.specs.LockState.{state_of, put_in}
use Rattle.shared_rule.proofs.Lemmas.Orders.{MayAttempt, earlier-by}
use Rattle.shared_rule.proofs.Lemmas.StepsOwed.{keeps-taking, keeps-sharing, keeps-putting, keeps-unsharing, keeps-passing, put-exclusive, put-shared}
use Rattle.shared_rule.specs.Marks as mark
use Rattle.shared_rule.specs.declared.history.History.{History}
use Rattle.shared_rule.specs.declared.rule.TableSizes.{TableSizes}
use Rattle.shared_rule.specs.declared.history.View.{View}
use Rattle.shared_rule.specs.declared.kept.Kept.{Kept}
use Rattle.shared_rule.specs.Layout.{index_of_word}
use Rattle.shared_rule.specs.Shown.{set_word}
use Rattle.shared_rule.specs.History.{told, noting, first_account, first_number, slots_shown}
use Rattle.shared_rule.specs.Ruled.{ContentsAreHome, Ruled}
use Rattle.shared_rule.specs.Plays.{Side, SeesSlots, SeesSlotsOr, TookSlotsOr, SharedSlotsOr, unnoted, noted_load}
use Rattle.shared_rule.proofs.Lemmas.Shown.{words-set}
use Rattle.shared_rule.proofs.Lemmas.Frame.{Stepper, IsNoted, ruled-steps, ruled-noted}
use Rattle.shared_rule.proofs.Lemmas.Events.Words.{IsAlwaysLawful, KeepsLists, lists-kept, rule-after, nothing-changes}
use Rattle.shared_rule.proofs.Lemmas.Events.Loads.{loading_fast-lawful}

-- Taking the lock of a session's fast-path slots, and putting it, with that session passed or not; and
-- sharing it.

-- What the fetch-and-subtract of an exclusive holder makes of a word.
pub put_word-wraps : (n : ℕ) → n < 2 ^ 64 → IsHeldExclusively n → put_word n ≡ (n + (2 ^ 64 - 2 ^ 24)) % 2 ^ 64
put_word-wraps n below held = omega (arith, below, held)

unshared_word-wraps : (n : ℕ) → n < 2 ^ 64 → 0 < shared_count n → unshared_word n ≡ (n + (2 ^ 64 - 1)) % 2 ^ 64
unshared_word-wraps n below many = omega (arith, below, many)

-- The first words of a session's slots, as a list.
abbrev pub listed : ℕ → (ℕ → ℕ) → List ℕ
listed zero slot = []
listed (suc n) slot = slot 0 ∷ listed n (λ k. slot (suc k))

-- Where there are no more, the list has all of them.
read-listed : (n : ℕ) (slot : ℕ → ℕ) (k : ℕ) → ((j : ℕ) → n ≤ j → slot j ≡ 0)
    → slice_index_or (listed n slot) k 0 ≡ slot k
read-listed zero slot k rest = sym (rest k (omega arith))
read-listed (suc n) slot zero rest = refl
read-listed (suc n) slot (suc k) rest = read-listed n (λ j. slot (suc j)) k
    (λ j later. rest (suc j) (omega (arith, later)))

slots-listed : (database : ℕ) (slot : ℕ → ℕ) → ((j : ℕ) → slot_count ≤ j → slot j ≡ 0)
    → slots_shown database (listed slot_count slot) ≡ record { word = slot; holds = slot_holds database slot }
slots-listed database slot rest =
    let same : (λ k. slice_index_or (listed slot_count slot) k 0) ≡ slot = λ i k. read-listed slot_count slot
    k rest i in
    λ i. record { word = same i; holds = slot_holds database (same i) }

-- What is beyond all slots is beyond those of the first `groups` groups.
beyond-all : (groups : ℕ) → groups ≤ most_groups → (slot : ℕ → ℕ) → ((j : ℕ) → group_size * groups ≤ j → slot j ≡ 0)
    → (j : ℕ) → slot_count ≤ j → slot j ≡ 0
beyond-all groups few slot rest j later = rest j (omega (arith, few, later))

-- Taking it is noted so, with what the slots show.
abbrev taking_fast-noted :
    {T : Type 0} (content : T → Content) (sizes : TableSizes) (x : History T) (owner : ℕ) (w : World)
    → Stepper sizes w x.number (told content x.number x.marks) → owner < w.numbers.limit
    → IsHeldByNobody (w.words.fast owner) → MayAttempt (told content x.number x.marks) (todo_told_by x.number x.marks) (fast_lock owner)
    → IsNoted content sizes.groups w x.number (told content x.number x.marks) (todo_told_by x.number x.marks) (flagged_told_by x.marks) (mark.TookFast owner (w.words.database owner)
    (listed slot_count (w.words.slot owner))) (set_word w.words (Fast owner) (taken_word (w.words.fast owner)))
taking_fast-noted content sizes x owner w steps exists free tries = record {
  step = TakeExclusive (Fast owner);
  tells = refl;
  after = after_taking_fast w x.number owner;
  happens = (record { steps = steps.makes; exists = exists; free = free }, refl);
  numbers = refl;
  account = (λ i. account_taking_fast x.number (steps.account i) owner (slots-listed (w.words.database owner)
      (w.words.slot owner) (beyond-all sizes.groups steps.few_groups (w.words.slot owner) (steps.none_beyond owner)) i))
      ∙ sym (account-taking_fast w x.number owner);
  words = refl;
  none_beyond = steps.none_beyond;
  few_counted = steps.few_counted x.number;
  keeps = keeps-taking w x.number (todo_told_by x.number x.marks) (flagged_told_by x.marks) (Fast owner) tries.0 (earlier-by w x.number (told content x.number x.marks) steps.account (fast_lock owner) tries.1);
}

-- So is sharing it.
abbrev sharing_fast-noted :
    {T : Type 0} (content : T → Content) (sizes : TableSizes) (x : History T) (owner : ℕ) (w : World)
    → Stepper sizes w x.number (told content x.number x.marks) → owner < w.numbers.limit
    → IsFreeToShare (w.words.fast owner) → MayShareFastBy (told content x.number x.marks) owner → MayAttempt (told content x.number x.marks) (todo_told_by x.number x.marks) (fast_lock owner)
    → IsNoted content sizes.groups w x.number (told content x.number x.marks) (todo_told_by x.number x.marks) (flagged_told_by x.marks) (mark.SharedFast owner (w.words.database owner)
    (listed slot_count (w.words.slot owner))) (set_word w.words (Fast owner) (shared_word (w.words.fast owner)))
sharing_fast-noted content sizes x owner w steps exists free may tries = record {
  step = TakeShared (Fast owner);
  tells = refl;
  after = after_sharing_fast w x.number owner;
  happens = (
    exists,
    share_fast-lawful w steps.safe x.number steps.makes owner free (subst (λ a. MayShareFastBy a owner) steps.account may),
    refl,
  );
  numbers = refl;
  account = (λ i. account_sharing_fast x.number (steps.account i) owner (slots-listed (w.words.database owner)
      (w.words.slot owner) (beyond-all sizes.groups steps.few_groups (w.words.slot owner) (steps.none_beyond owner)) i))
      ∙ sym (account-sharing_fast w x.number owner);
  words = refl;
  none_beyond = steps.none_beyond;
  few_counted = steps.few_counted x.number;
  keeps = keeps-sharing w x.number (todo_told_by x.number x.marks) (flagged_told_by x.marks) (Fast owner) tries.0 (earlier-by w x.number (told content x.number x.marks) steps.account (fast_lock owner) tries.1);
}

-- Whatever is so noted, with the word next, leaves the contents as they are.
record Sees {T : Type 0} (content : T → Content) (groups : ℕ) (x : History T) (owner : ℕ) (w : World)
    (mark : ℕ → ℕ → List ℕ → Mark T) (next : ℕ) : Type 0 where
  noted :
      IsNoted content groups w x.number (told content x.number x.marks) (todo_told_by x.number x.marks) (flagged_told_by x.marks) (mark owner (w.words.database owner)
      (listed slot_count (w.words.slot owner))) (set_word w.words (Fast owner) next)
  contents : noted.after.contents ≡ w.contents
  lists : KeepsLists w noted.after

module _ {T : Type 0} (content : T → Content) (begun : T → Option Request) (sizes : TableSizes) (slots id : ℕ) (me : Side T)
    (x : History T) (others : List (History T)) (is : me.0.sessions ≡ x ∷ others)
    (owner : ℕ) (inside : owner < sizes.sessions) where
  -- where the word stands
  abbrev at_word : ℕ
  at_word = index_of_word sizes.sessions (Fast owner)

  -- The exchange takes it, or shares it, where it finds the number that it expects, and makes this mark. A
  -- lost one is a step that keeps the rule.
  sees_slots_or :
      (mark : ℕ → ℕ → List ℕ → Mark T) (lost : ℕ → View T → View T) (old new : ℕ)
      → ((w : World) → Stepper sizes w x.number (told content x.number x.marks) → w.words.fast owner ≡ old
      → Sees content sizes.groups x owner w mark new)
      → ((s : State (Kept T) (View T)) (r : Ruled content begun sizes s) → get_elem? s.views id ≡ some me.0
      → slice_index s.words at_word < 2 ^ 64
      → RuledNext content begun sizes r.events me.0 (lost (slice_index s.words at_word) me.0) (record {
        words = slice_set s.words at_word (slice_index s.words at_word);
        homes =
            s.homes;
        views = slice_set s.views id (lost (slice_index s.words at_word) me.0);
      }))
      → (i : ℕ) → i ≡ at_word
      → AllowsStep content begun sizes slots id me i (λ n. either (n == old) new n)
      (SeesSlotsOr content sizes.groups mark lost (step slots i old new none) me)
  sees_slots_or mark lost old new makes stays i at =
      subst (λ k. AllowsStep content begun sizes slots id me k (λ n. either (n == old) new n)
      (SeesSlotsOr content sizes.groups mark lost (step slots k old new none) me)) (sym at) here where
        here : AllowsStep content begun sizes slots id me at_word (λ n. either (n == old) new n)
            (SeesSlotsOr content sizes.groups mark lost (step slots at_word old new none) me)
        here s r many at_view below =
            exchanged (slice_index s.words at_word) old new (λ m. (view : View T) × (act : Act (Kept T))
            × Valid s.homes me.1 act
            × RuledNext content begun sizes r.events me.0 view (stepped s at_word m id me.1 view act)
            × SeesSlotsOr content sizes.groups mark lost (step slots at_word old new none) me (slice_index s.words at_word)
            (view, carried_after me.1 act))
            (λ hit.
            let w : World = r.world in
            let shown : w.words.fast owner ≡ old = sym (r.shown.of_words.word (Fast owner) (tt, inside)) ∙ hit in
            let steps = ruled-steps content begun sizes s r id me.0 x others at_view is in
            let sees = makes w steps shown in
            let database : ℕ = w.words.database owner in
            let words : List ℕ = listed slot_count (w.words.slot owner) in (
              noting me.0 (mark owner database words),
              keeps,
              tt,
              ruled-noted content begun sizes s r id me.0 x others at_view is (mark owner database words)
                  (set_word w.words (Fast owner) new) (slice_set s.words at_word new) s.homes sees.noted
                  (words-set sizes r.shown.some_groups s.words w.words (Fast owner) new r.shown.of_words (tt, inside))
                  (subst (ContentsAreHome content begun s.homes) (sym sees.contents) r.shown.of_contents)
                  (lists-kept sizes.sessions s.homes w sees.noted.after sees.lists r.shown.of_lists),
              (
                (λ _ sessions k same.
                    let one : owner ≡ k = omega (arith, same) in
                    subst (λ k. SeesSlots content sizes.groups mark k me (noting me.0 (mark owner database words), me.1)) one
                    (record {
                      database = database;
                      words = words;
                      side = refl;
                      knows = subst (λ (sessions : List (History T)). KnowsSlots sizes.groups (first_number sessions)
                          (first_account content sessions) owner (slots_shown database words)) (sym is)
                          (subst (λ a. KnowsSlots sizes.groups x.number a owner (slots_shown database words)) (sym steps.account)
                          (subst (KnowsSlots sizes.groups x.number (account w x.number) owner)
                          (sym (slots-listed database (w.words.slot owner) (beyond-all sizes.groups steps.few_groups (w.words.slot owner) (steps.none_beyond owner))))
                          (subst (λ n. KnowsSlots n x.number (account w x.number) owner (slots_now w owner)) steps.are_groups
                          (slots-told w steps.safe x.number owner))));
                    })),
                (λ miss. absurd (miss hit)),
              ),
            ))
            (λ miss. (
              lost (slice_index s.words at_word) me.0,
              keeps,
              tt,
              stays s r at_view below,
              ((λ hit. absurd (miss hit)), λ _. refl),
            ))

  -- Taking it,
  taking-sees :
      (old new : ℕ) → ((w : World) → Stepper sizes w x.number (told content x.number x.marks) → owner < w.numbers.limit)
      → IsHeldByNobody old → new ≡ taken_word old → MayAttempt (told content x.number x.marks) (todo_told_by x.number x.marks) (fast_lock owner)
      → (w : World) → Stepper sizes w x.number (told content x.number x.marks) → w.words.fast owner ≡ old
      → Sees content sizes.groups x owner w mark.TookFast new
  taking-sees old new there free is_new tries w steps shown =
      subst (Sees content sizes.groups x owner w mark.TookFast) (ap taken_word shown ∙ sym is_new)
      (record {
        noted = taking_fast-noted content sizes x owner w steps (there w steps) (subst IsHeldByNobody (sym shown) free) tries;
        contents = refl;
        lists = λ lock nobody. (nobody, refl);
      })

  -- of a session that there can be
  pub takes_fast_at : (groups old new : ℕ) → groups ≡ sizes.groups → IsHeldByNobody old → new ≡ taken_word old
      → MayAttempt (told content x.number x.marks) (todo_told_by x.number x.marks) (fast_lock owner) → (i : ℕ) → i ≡ at_word
      → AllowsStep content begun sizes slots id me i (λ n. either (n == old) new n)
      (TookSlotsOr content groups unnoted (step slots i old new none) me)
  takes_fast_at groups old new same free is_new tries i at =
      subst (λ k. AllowsStep content begun sizes slots id me i (λ n. either (n == old) new n)
      (TookSlotsOr content k unnoted (step slots i old new none) me)) (sym same)
      (sees_slots_or mark.TookFast unnoted old new
      (taking-sees old new (λ w steps. subst (λ n. owner < n) (sym steps.is_limit) inside) free is_new tries)
      (λ s r at_view below. nothing-changes content begun sizes id at_word me.0 s r at_view) i at)

  -- of the session's own slots
  pub tries_fast_at : (groups old new : ℕ) → groups ≡ sizes.groups → owner ≡ x.number → IsHeldByNobody old → new ≡ taken_word old
      → MayAttempt (told content x.number x.marks) (todo_told_by x.number x.marks) (fast_lock owner) → (i : ℕ)
      → i ≡ at_word
      → AllowsStep content begun sizes slots id me i (λ n. either (n == old) new n)
      (TookSlotsOr content groups noted_load (step slots i old new none) me)
  tries_fast_at groups old new same own free is_new tries i at =
      subst (λ k. AllowsStep content begun sizes slots id me i (λ n. either (n == old) new n)
      (TookSlotsOr content k noted_load (step slots i old new none) me)) (sym same)
      (sees_slots_or mark.TookFast noted_load old new
      (taking-sees old new
      (λ w steps.
      let numbers = steps.safe.but_slots.table.carriers.numbers in
      let issued = numbers.live_is_issued x.number steps.makes.live in
      let all = numbers.within in
      omega (arith, issued, all, own))
      free is_new tries)
      (λ s r at_view below. rule-after content begun sizes slots id me x others is (Fast owner) (tt, inside) (λ n. n)
      mark.LoadedFast (λ _. Unit {0})
      (subst (λ k. IsAlwaysLawful content sizes x (Fast k) (λ _. Unit {0}) (λ n. n) mark.LoadedFast) (sym own)
      (loading_fast-lawful content sizes x (λ _. Unit {0})))
      s r at_view (slice_index s.words at_word) below refl tt) i at)

  -- and sharing it.
  pub shares_fast_at :
      (groups old new : ℕ) → groups ≡ sizes.groups → IsFreeToShare old → new ≡ shared_word old
      → MayShareFastBy (told content x.number x.marks) owner → MayAttempt (told content x.number x.marks) (todo_told_by x.number x.marks) (fast_lock owner) → (i : ℕ) → i ≡ at_word
      → AllowsStep content begun sizes slots id me i (λ n. either (n == old) new n)
      (SharedSlotsOr content groups unnoted (step slots i old new none) me)
  shares_fast_at groups old new same free is_new may tries i at =
      subst (λ k. AllowsStep content begun sizes slots id me i (λ n. either (n == old) new n)
      (SharedSlotsOr content k unnoted (step slots i old new none) me)) (sym same)
      (sees_slots_or mark.SharedFast unnoted old new
      (λ w steps shown.
      subst (Sees content sizes.groups x owner w mark.SharedFast) (ap shared_word shown ∙ sym is_new)
      (record {
        noted = sharing_fast-noted content sizes x owner w steps (subst (λ n. owner < n) (sym steps.is_limit) inside)
            (subst IsFreeToShare (sym shown) free) may tries;
        contents = refl;
        lists = λ lock nobody. (nobody, refl);
      }))
      (λ s r at_view below. nothing-changes content begun sizes id at_word me.0 s r at_view) i at)

module _ {T : Type 0} (content : T → Content) (sizes : TableSizes) (x : History T) (owner : ℕ) (exists : owner < sizes.sessions) where
  there : (w : World) → Stepper sizes w x.number (told content x.number x.marks) → owner < w.numbers.limit
  there w steps = subst (λ n. owner < n) (sym steps.is_limit) exists

  -- whoever knows the slots holds the word
  shows-held : (w : World) → Stepper sizes w x.number (told content x.number x.marks) → (slots : SlotsInHand) → (account w x.number).fast.slots owner ≡ Rattle.std.proofs.Common.Some slots
      → IsHeldExclusively (w.words.fast owner)
  shows-held w steps slots known =
      (steps.safe.but_slots.locks.fast_words owner).held_is_shown x.number
      (slots-known (w.sessions.holds_fast x.number owner) (w.words.database owner) (w.words.slot owner) slots known).0

  pub putting_fast-lawful : (slots : SlotsInHand) → MayPutFastBy (told content x.number x.marks) owner slots → (todo_told_by x.number x.marks).due ≡ None
      → IsAlwaysLawful content sizes x (Fast owner) (λ _. Unit {0}) (λ n. (n + (2 ^ 64 - 2 ^ 24)) % 2 ^ 64) (mark.PutFast owner)
  putting_fast-lawful slots may undue w steps n below shown _ =
      let may' = subst (λ a. MayPutFastBy a owner slots) steps.account may in
      let held = subst IsHeldExclusively (sym shown) (shows-held w steps slots may'.in_hand) in
      record {
        list = w.words.list;
        noted = record {
          step = PutExclusive (Fast owner) Keep;
          tells = refl;
          after = after_putting_fast w x.number owner;
          happens = (refl, (put_fast-lawful w steps.safe x.number steps.makes owner slots may', refl));
          numbers = refl;
          account = ap (λ a. account_putting_fast x.number a owner) steps.account ∙ sym (account-putting_fast w x.number owner);
          words = ap (λ k. set_word w.words (Fast owner) (put_word k)) (sym shown) ∙ ap (set_word w.words (Fast owner)) (put_word-wraps n below held);
          none_beyond = steps.none_beyond;
          few_counted = steps.few_counted x.number;
          keeps = keeps-putting w x.number (todo_told_by x.number x.marks) (flagged_told_by x.marks) (Fast owner) Keep (put_in Exclusive (state_of n)) (put-exclusive (w.words.fast owner) n shown (shows-held w steps slots may'.in_hand)) undue;
        };
        home = λ p none. (none, refl);
        lists = λ lock nobody. (nobody, refl);
      }

  -- Whoever knows slots that it shares is counted in the word.
  pub unsharing_fast-lawful : (slots : SlotsInHand) → MayUnshareFastBy (told content x.number x.marks) owner slots → (todo_told_by x.number x.marks).due ≡ None
      → IsAlwaysLawful content sizes x (Fast owner) (λ _. Unit {0}) (λ n. (n + (2 ^ 64 - 1)) % 2 ^ 64) (mark.UnsharedFast owner)
  unsharing_fast-lawful slots may undue w steps n below shown _ =
      let may' = unshare_fast-lawful w steps.safe x.number steps.makes owner slots
      (subst (λ a. MayUnshareFastBy a owner slots) steps.account may) in
      let some : 0 < shared_count (w.words.fast owner) =
      shared-some w.numbers.limit (w.words.fast owner) (λ k. w.sessions.holds_fast k owner)
      (λ k. w.sessions.shares_fast k owner) x.number (steps.safe.but_slots.locks.fast_words owner) may'.sharing in
      let some_shown : 0 < shared_count n = subst (λ k. 0 < shared_count k) (sym shown) some in
      record {
        list = w.words.list;
        noted = record {
          step = PutShared (Fast owner);
          tells = refl;
          after = after_unsharing_fast w x.number owner;
          happens = (may', refl);
          numbers = refl;
          account = ap (λ a. account_unsharing_fast a owner) steps.account ∙ sym (account-unsharing_fast w x.number owner);
          words = ap (λ k. set_word w.words (Fast owner) (unshared_word k)) (sym shown)
              ∙ ap (set_word w.words (Fast owner)) (unshared_word-wraps n below some_shown);
          none_beyond = steps.none_beyond;
          few_counted = steps.few_counted x.number;
          keeps = keeps-unsharing w x.number (todo_told_by x.number x.marks) (flagged_told_by x.marks) (Fast owner) (put_in Shared (state_of n)) (put-shared (w.words.fast owner) n shown some) undue;
        };
        home = λ p none. (none, refl);
        lists = λ lock nobody. (nobody, refl);
      }

  pub passing-lawful : (slots : SlotsInHand) (tag : Tag) (mode : Mode) → MayPassBy (told content x.number x.marks) owner slots tag mode → (todo_told_by x.number x.marks).due ≡ None
      → IsAlwaysLawful content sizes x (Fast owner) (λ _. Unit {0}) (λ n. (n + (2 ^ 64 - 2 ^ 24)) % 2 ^ 64) (mark.Passed owner tag mode)
  passing-lawful slots tag mode may undue w steps n below shown _ =
      let may' = subst (λ a. MayPassBy a owner slots tag mode) steps.account may in
      let held = subst IsHeldExclusively (sym shown) (shows-held w steps slots may'.in_hand) in
      record {
        list = w.words.list;
        noted = record {
          step = PutPassing owner tag mode;
          tells = refl;
          after = after_passing w x.number owner tag mode;
          happens = (pass-lawful w steps.safe x.number steps.makes owner slots tag mode (there w steps) may', refl);
          numbers = refl;
          account = ap (λ a. account_passing x.number a owner tag mode) steps.account ∙ sym (account-passing w x.number owner tag mode);
          words = ap (λ k. set_word w.words (Fast owner) (put_word k)) (sym shown) ∙ ap (set_word w.words (Fast owner)) (put_word-wraps n below held);
          none_beyond = steps.none_beyond;
          few_counted = subst (λ list. length list ≤ most_counted) (sym (set_at-here w.sessions.counted x.number (passing (w.sessions.counted x.number) tag mode owner) x.number refl))
              (subst (λ k. k ≤ most_counted) (sym (lib.ListN.length-map (w.sessions.counted x.number) (passed tag mode owner))) (steps.few_counted x.number));
          keeps = keeps-passing w x.number (todo_told_by x.number x.marks) (flagged_told_by x.marks) owner tag mode (put_in Exclusive (state_of n)) (put-exclusive (w.words.fast owner) n shown (shows-held w steps slots may'.in_hand)) undue;
        };
        home = λ p none. (none, refl);
        lists = λ lock nobody. (nobody, refl);
      }
