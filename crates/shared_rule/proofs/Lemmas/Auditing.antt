use Rattle.std.proofs.Common.{◌≡◌, ℕ, suc, ◌+◌, ◌*◌, ◌<◌, ◌≤◌, false, ◌&&◌, List, [], ◌∷◌, ◌++◌, Some, None, refl, sym, ap, ◌∙◌, subst, inl, inr, arith, append_assoc, append-nil}
use Rattle.std.specs.Prelude.{◌==◌, is_some, count_by, if◌then◌else◌, Result, Ok, OnOk}
use Rattle.std.proofs.lemmas.Bool.{cases_eq, cond-false, and_right}
use Rattle.lock_table.specs.Put.{set_at}
use Rattle.lock_table.specs.Content.{Content}
use Rattle.lock_table.specs.Total.{total}
use Rattle.lock_table.specs.declared.moves.Move.TheVariants.{Keep}
use Rattle.lock_table.specs.declared.no_memory.NoMemory.{NoMemory}
use Rattle.lock_table.specs.declared.rows.TableRow.{TableRow}
use Rattle.lock_table.specs.Listing.{row_eq}
use Rattle.lock_table.specs.WholeContent.{times_had}
use Rattle.lock_table.proofs.Lemmas.Put.{set_at-here, set_at-else}
use Rattle.lock_table.proofs.Lemmas.Totals.{total-same}
use Rattle.lock_world.specs.declared.events.Word.TheVariants.{Slot, Strong}
use Rattle.lock_world.specs.Account.{Account}
use Rattle.lock_world.specs.AccountSteps.{account_taking, account_putting, account_tracing, account_reading}
use Rattle.lock_world.specs.AccountFacts.{KnowsContent}
use Rattle.lock_world.specs.SlotHolds.{group_size}
use Rattle.lock_world.specs.Tallies.{joined, modes_shown, shown_in_slots, ShowsLeft}
use Rattle.lock_world.specs.World.{TraceEntry, Loaded}
use Rattle.lock_world.proofs.Lemmas.Tallies.Lists.{joined-more, joined-same}
use Rattle.lock_world.proofs.Lemmas.Tallies.Sums.{total-more}
use Rattle.shared_rule.specs.declared.history.View.{View}
use Rattle.shared_rule.specs.History.{noting, taken_of, first_account, first_number}
use Rattle.shared_rule.specs.Marks.{LoadedSlot, LoadedStrong}
use Rattle.shared_rule.specs.Plays.{HasSession}
use Rattle.shared_rule.specs.Lawful.{IsAboveHand}
use Rattle.shared_rule.specs.Gatherings.{most_shown, account_among, counted_at, HasAllInHand, AreAll, gathered_in, KnowsOfAll, KnowsAll}
use Rattle.shared_rule.specs.Audits.{account_after, counter_loads, CountersSeen, slot_loads_of, all_slot_loads, IsFurther, HasPartInHand, holding_steps, SeesSlots, SeesAllSlots, Finds, CountsFrom}
use Rattle.shared_rule.proofs.Lemmas.Episodes.{fresh_hand, taken-in_hand, kept-since}
use Rattle.shared_rule.proofs.Lemmas.FurtherViews.{noting-further, further-itself, further-then, further-all, account-noting, number, distinct-before, none_waits-after, stand-before, left-before, counted-before}

-- ---- slots

-- One more load joins the trace.
one-more : (a b c : Account) (steps : List TraceEntry) (entry : TraceEntry) → b ≡ account_after a steps → c ≡ account_tracing b entry → c ≡ account_after a (steps ++ entry ∷ [])
one-more a b c steps entry so_far more =
    more ∙ ap (λ (x : Account). account_tracing x entry) so_far ∙ (λ i. record a { trace = append_assoc a.trace steps (entry ∷ []) i })

pub after-none : (a : Account) (steps : List TraceEntry) → steps ≡ [] → a ≡ account_after a steps
after-none a steps none = (λ i. record a { trace = sym (append-nil a.trace) i }) ∙ ap (account_after a) (sym none)

pub after-both : (a b c : Account) (first second : List TraceEntry) → b ≡ account_after a first → c ≡ account_after b second → c ≡ account_after a (first ++ second)
after-both a b c first second one two =
    two ∙ ap (λ (x : Account). account_after x second) one ∙ (λ i. record a { trace = append_assoc a.trace first second i })

joined-none : {X : Type 0} (lists : ℕ → List X) → joined 0 lists ≡ []
unfolding joined
joined-none lists = refl

total-none : (f : ℕ → ℕ) → total 0 f ≡ 0
unfolding total
total-none f = refl

module _ {T : Type 0} (content : T → Content) where
  pub sees-none : (owner : ℕ) (view : View T) → HasSession view → SeesSlots content owner 0 view view 0
  sees-none owner view has = record {
    word = λ _. 0;
    further = further-itself view has;
    account = after-none (first_account content view.sessions) (slot_loads_of owner 0 (λ _. 0)) (joined-none (λ slot. Loaded (Slot owner slot) 0 ∷ []));
    sum_ = sym (total-none (λ slot. modes_shown 0));
    left = λ issued are contents in_hand slot below. absurd (omega (arith, below));
  }

  pub sees-more : (owner count : ℕ) (before mid after : View T) (sum more shown : ℕ) → HasSession before → SeesSlots content owner count before mid sum → IsFurther mid after
      → first_account content after.sessions ≡ account_tracing (first_account content mid.sessions) (Loaded (Slot owner count) shown)
      → ((issued : ℕ) → AreAll issued mid → KnowsOfAll content mid (Slot owner count) shown) → more ≡ sum + modes_shown shown
      → SeesSlots content owner (count + 1) before after more
  sees-more owner count before mid after sum more shown has so_far further loaded knows added =
      let word : ℕ → ℕ = set_at so_far.word count shown in
      let here : word count ≡ shown = set_at-here so_far.word count shown count refl in
      let old : (k : ℕ) → k < count → word k ≡ so_far.word k = λ k below.
      set_at-else so_far.word count shown k (λ e. let same : ◌≡◌ {A = ℕ} k count = e in omega (arith, below, same)) in
      record {
        word = word;
        further = further-then before mid after so_far.further further;
        account =
            one-more (first_account content before.sessions) (first_account content mid.sessions) (first_account content after.sessions)
            (slot_loads_of owner count so_far.word) (Loaded (Slot owner count) shown) so_far.account loaded
            ∙ ap (account_after (first_account content before.sessions))
            ((λ i. joined-same count (λ k. Loaded (Slot owner k) (so_far.word k) ∷ []) (λ k. Loaded (Slot owner k) (word k) ∷ [])
            (λ k below. ap (λ n. Loaded (Slot owner k) n ∷ []) (sym (old k below))) i ++ Loaded (Slot owner count) (sym here i) ∷ [])
            ∙ sym (joined-more count (λ k. Loaded (Slot owner k) (word k) ∷ [])));
        sum_ =
            let total_more = total-more count (λ k. modes_shown (word k)) in
            let same : total count (λ k. modes_shown (word k)) ≡ total count (λ k. modes_shown (so_far.word k)) = total-same count _ _ (λ k below. ap modes_shown (old k below)) in
            let last : modes_shown (word count) ≡ modes_shown shown = ap modes_shown here in
            let sum_before = so_far.sum_ in
            omega (arith, added, total_more, same, last, sum_before);
        left = λ issued are contents in_hand slot below.
            elim (cases_eq slot count) [
              | inl same ↦
                  subst (λ k. ShowsLeft owner (account_among (gathered_in content before.sessions) owner) contents k (word k)) (sym same)
                  (subst (ShowsLeft owner (account_among (gathered_in content before.sessions) owner) contents count) (sym here)
                  (left-before content before mid has so_far.further (ap (λ (a : Account). a.own) so_far.account) (ap (λ (a : Account). a.fast) so_far.account) owner contents count shown
                  (knows issued (further-all before mid issued has so_far.further are) contents
                  (subst (λ (a : Account). HasAllInHand a contents) (sym so_far.account) in_hand))))
              | inr other ↦
                  let less : slot < count = omega (arith, below, other) in
                  subst (ShowsLeft owner (account_among (gathered_in content before.sessions) owner) contents slot) (sym (old slot less)) (so_far.left issued are contents in_hand slot less)
            ];
      }

  -- the same of a load that is noted
  pub sees-load : (owner count : ℕ) (before mid after : View T) (sum more shown : ℕ) → HasSession before → SeesSlots content owner count before mid sum
      → after ≡ noting mid (LoadedSlot owner count shown) → ((issued : ℕ) → AreAll issued mid → KnowsOfAll content mid (Slot owner count) shown)
      → more ≡ sum + modes_shown shown → SeesSlots content owner (count + 1) before after more
  sees-load owner count before mid after sum more shown has so_far is knows added =
      sees-more owner count before mid after sum more shown has so_far
      (subst (IsFurther mid) (sym is) (noting-further mid (LoadedSlot owner count shown) (λ before. refl) (λ number lists. refl) (λ owed i. owed) so_far.further.some))
      (ap (λ (v : View T). first_account content v.sessions) is ∙ account-noting content mid (LoadedSlot owner count shown) so_far.further.some)
      knows added

  pub sees-no_session : (groups : ℕ) (view : View T) → HasSession view → SeesAllSlots content groups 0 view view 0
  sees-no_session groups view has = record {
    word = λ _ _. 0;
    further = further-itself view has;
    account = after-none (first_account content view.sessions) (all_slot_loads 0 groups (λ _ _. 0)) (joined-none (λ owner. slot_loads_of owner (group_size * groups) (λ _. 0)));
    sum_ = sym (total-none (λ owner. total (group_size * groups) (λ slot. modes_shown 0)));
    left = λ issued are contents in_hand owner slot below within. absurd (omega (arith, below));
  }

  pub sees-session : (groups count : ℕ) (before mid after : View T) (sum more one : ℕ) → HasSession before → SeesAllSlots content groups count before mid sum → SeesSlots content count (group_size * groups) mid after one
      → more ≡ sum + one → SeesAllSlots content groups (count + 1) before after more
  sees-session groups count before mid after sum more one has so_far sees added =
      let word : ℕ → ℕ → ℕ = set_at so_far.word count sees.word in
      let here : word count ≡ sees.word = set_at-here so_far.word count sees.word count refl in
      let old : (k : ℕ) → k < count → word k ≡ so_far.word k = λ k below.
      set_at-else so_far.word count sees.word k (λ e. let same : ◌≡◌ {A = ℕ} k count = e in omega (arith, below, same)) in
      record {
        word = word;
        further = further-then before mid after so_far.further sees.further;
        account =
            after-both (first_account content before.sessions) (first_account content mid.sessions) (first_account content after.sessions)
            (all_slot_loads count groups so_far.word) (slot_loads_of count (group_size * groups) sees.word) so_far.account sees.account
            ∙ ap (account_after (first_account content before.sessions))
            ((λ i. joined-same count (λ k. slot_loads_of k (group_size * groups) (so_far.word k)) (λ k. slot_loads_of k (group_size * groups) (word k))
            (λ k below. ap (slot_loads_of k (group_size * groups)) (sym (old k below))) i ++ slot_loads_of count (group_size * groups) (sym here i))
            ∙ sym (joined-more count (λ k. slot_loads_of k (group_size * groups) (word k))));
        sum_ =
            let total_more = total-more count (λ k. total (group_size * groups) (λ slot. modes_shown (word k slot))) in
            let same : shown_in_slots count groups word ≡ shown_in_slots count groups so_far.word =
            total-same count _ _ (λ k below. ap (λ (row : ℕ → ℕ). total (group_size * groups) (λ slot. modes_shown (row slot))) (old k below)) in
            let last : total (group_size * groups) (λ slot. modes_shown (word count slot)) ≡ total (group_size * groups) (λ slot. modes_shown (sees.word slot)) =
            ap (λ (row : ℕ → ℕ). total (group_size * groups) (λ slot. modes_shown (row slot))) here in
            let sum_before = so_far.sum_ in
            let sum_here = sees.sum_ in
            omega (arith, added, total_more, same, last, sum_before, sum_here);
        left = λ issued are contents in_hand owner slot below within.
            elim (cases_eq owner count) [
              | inl same ↦
                  subst (λ k. ShowsLeft k (account_among (gathered_in content before.sessions) k) contents slot (word k slot)) (sym same)
                  (subst (λ (row : ℕ → ℕ). ShowsLeft count (account_among (gathered_in content before.sessions) count) contents slot (row slot)) (sym here)
                  (left-before content before mid has so_far.further (ap (λ (a : Account). a.own) so_far.account) (ap (λ (a : Account). a.fast) so_far.account) count contents slot (sees.word slot)
                  (sees.left issued (further-all before mid issued has so_far.further are) contents
                  (subst (λ (a : Account). HasAllInHand a contents) (sym so_far.account) in_hand) slot within)))
              | inr other ↦
                  let less : owner < count = omega (arith, below, other) in
                  subst (λ (row : ℕ → ℕ). ShowsLeft owner (account_among (gathered_in content before.sessions) owner) contents slot (row slot)) (sym (old owner less))
                  (so_far.left issued are contents in_hand owner slot less within)
            ];
      }

-- ---- counters

-- Where its own slots are not in hand a counter that is read joins the trace alone.
reading-traces : (number : ℕ) (a : Account) (index shown : ℕ) → a.fast.slots number ≡ None → account_reading number a index shown ≡ account_tracing a (Loaded (Strong index) shown)
reading-traces number a index shown none =
    let off : ((shown == 0) && is_some (a.fast.slots number)) ≡ false = and_right (shown == 0) (is_some (a.fast.slots number)) (ap is_some none) in
    let zero : (if (shown == 0) && is_some (a.fast.slots number) then Some index else a.fast.zero) ≡ a.fast.zero =
    cond-false ((shown == 0) && is_some (a.fast.slots number)) (Some index) a.fast.zero off in
    λ i. record a { fast = record (a.fast) { zero = zero i }; trace = a.trace ++ Loaded (Strong index) shown ∷ [] }

module _ {T : Type 0} (content : T → Content) where
  pub counters-none : (view : View T) → HasSession view → CountersSeen content 0 view view 0
  counters-none view has = record {
    further = further-itself view has;
    account = after-none (first_account content view.sessions) (counter_loads 0 (λ index. counted_at index (gathered_in content view.sessions)))
        (joined-none (λ index. Loaded (Strong index) (counted_at index (gathered_in content view.sessions)) ∷ []));
    sum_ = sym (total-none (λ index. counted_at index (gathered_in content view.sessions)));
    few = omega arith;
  }

  pub counters-more : (count issued : ℕ) (before mid after : View T) (sum more shown : ℕ) → HasSession before → CountersSeen content count before mid sum → AreAll issued before
      → (first_account content before.sessions).fast.slots (first_number before.sessions) ≡ None → IsFurther mid after
      → first_account content after.sessions ≡ account_reading (first_number mid.sessions) (first_account content mid.sessions) count shown
      → ((issued : ℕ) → AreAll issued mid → KnowsOfAll content mid (Strong count) shown) → more ≡ sum + shown → CountersSeen content (count + 1) before after more
  counters-more count issued before mid after sum more shown has so_far are no_slots further loaded knows added =
      let f : ℕ → ℕ = λ index. counted_at index (gathered_in content before.sessions) in
      let fast = ap (λ (a : Account). a.fast) so_far.account in
      let none : (first_account content mid.sessions).fast.slots (first_number mid.sessions) ≡ None =
      (λ i. (fast i).slots (so_far.further.number i)) ∙ no_slots in
      let known = knows issued (further-all before mid issued has so_far.further are) in
      let here : f count ≡ shown = sym (known.0 ∙ counted-before content before mid has so_far.further fast count) in
      record {
        further = further-then before mid after so_far.further further;
        account =
            one-more (first_account content before.sessions) (first_account content mid.sessions) (first_account content after.sessions)
            (counter_loads count f) (Loaded (Strong count) shown) so_far.account
            (loaded ∙ reading-traces (first_number mid.sessions) (first_account content mid.sessions) count shown none)
            ∙ ap (account_after (first_account content before.sessions))
            ((λ i. counter_loads count f ++ Loaded (Strong count) (sym here i) ∷ []) ∙ sym (joined-more count (λ index. Loaded (Strong index) (f index) ∷ [])));
        sum_ =
            let total_more = total-more count f in
            let sum_before = so_far.sum_ in
            omega (arith, added, total_more, here, sum_before);
        few =
            let most : shown ≤ most_shown = known.1 in
            let few_before = so_far.few in
            omega (arith, added, most, few_before);
      }

  -- the same of a load that is noted
  pub counters-load : (count issued : ℕ) (before mid after : View T) (sum shown : ℕ) → HasSession before → CountersSeen content count before mid sum → AreAll issued before
      → (first_account content before.sessions).fast.slots (first_number before.sessions) ≡ None → after ≡ noting mid (LoadedStrong count shown)
      → ((issued : ℕ) → AreAll issued mid → KnowsOfAll content mid (Strong count) shown) → CountersSeen content (count + 1) before after (sum + shown)
  counters-load count issued before mid after sum shown has so_far are no_slots is knows =
      counters-more count issued before mid after sum (sum + shown) shown has so_far are no_slots
      (subst (IsFurther mid) (sym is) (noting-further mid (LoadedStrong count shown) (λ before. refl) (λ number lists. refl) (λ owed i. owed) so_far.further.some))
      (ap (λ (v : View T). first_account content v.sessions) is ∙ account-noting content mid (LoadedStrong count shown) so_far.further.some)
      knows refl

-- ---- partitions

-- With all in hand, what is told is what was found.
module _ {T : Type 0} (content : T → Content) where
  pub finds-all : (groups issued limit sum : ℕ) (before after : View T) (contents : ℕ → Content) (sees : SeesAllSlots content groups limit before after sum) → AreAll issued before → KnowsAll content groups issued before
      → HasAllInHand (first_account content before.sessions) contents → Finds content groups issued limit before contents sees.word
  finds-all groups issued limit sum before after contents sees are known in_hand = record {
    distinct = known.distinct;
    stand = λ nobody number. known.stand contents nobody in_hand number;
    left = λ owner slot below within. sees.left issued are contents in_hand owner slot below within;
  }

-- What was found with one partition more in hand was found.
module _ {T : Type 0} (content : T → Content) (groups issued limit p : ℕ) (before mid : View T) (has : HasSession before) (further : IsFurther before mid) (taken : Content)
    (took : first_account content mid.sessions ≡ account_taking (first_account content before.sessions) p taken) (all : ℕ → Content) (word : ℕ → ℕ → ℕ) where
  pub finds-before : Finds content groups issued limit mid all word → Finds content groups issued limit before all word
  finds-before found = record {
    distinct = distinct-before content before mid has further issued found.distinct;
    stand = λ nobody number.
        stand-before content before mid has further (ap (λ (a : Account). a.own) took) (ap (λ (a : Account). a.fast) took) groups number all
        (found.stand (none_waits-after content before mid has further (sym (ap (λ (a : Account). a.awaited) took)) nobody) number);
    left = λ owner slot below within.
        left-before content before mid has further (ap (λ (a : Account). a.own) took) (ap (λ (a : Account). a.fast) took) owner all slot (word owner slot)
        (found.left owner slot below within);
  }

  -- Those in hand before are still, and this one with what was taken.
  pub in_hand-more : ((k : ℕ) → k < p → HasPartInHand (first_account content before.sessions) k (all k)) → all p ≡ taken
      → (k : ℕ) → k < p + 1 → HasPartInHand (first_account content mid.sessions) k (all k)
  in_hand-more old is k below =
      subst (λ (a : Account). HasPartInHand a k (all k)) (sym took)
      (elim (cases_eq k p) [
        | inl same ↦
            subst (λ j. HasPartInHand (account_taking (first_account content before.sessions) p taken) j (all j)) (sym same)
            (fresh_hand taken, taken-in_hand (first_account content before.sessions) p taken, sym is)
        | inr other ↦
            let there = old k (omega (arith, below, other)) in
            (there.0, set_at-else (first_account content before.sessions).hand p (Some (fresh_hand taken)) k other ∙ there.1, there.2)
      ])

-- After a partition was taken the session has none above in hand.
pub took-above : (p : ℕ) (a b : Account) (taken : Content) → b ≡ account_taking a p taken → IsAboveHand a p → IsAboveHand b (p + 1)
took-above p a b taken is above =
    subst (λ (c : Account). IsAboveHand c (p + 1)) (sym is)
    (λ k later. set_at-else a.hand p (Some (fresh_hand taken)) k (λ e. let same : ◌≡◌ {A = ℕ} k p = e in omega (arith, later, same)) ∙ above k (omega (arith, later)))

-- One partition more: it was taken, the others after it, and it was put back as it was.
module _ {T : Type 0} (content : T → Content) (groups limit p : ℕ) (before mid later after : View T) (old new most : List TableRow) (first result : Result (Unit {0}) NoMemory) (fast : ℕ)
    (has : HasSession before) (part : T) (mid_further : IsFurther before mid)
    (mid_account : first_account content mid.sessions ≡ account_taking (first_account content before.sessions) p (content part)) (counts : CountsFrom content groups (p + 1) limit mid old first fast later new)
    (put : IsFurther later after)
    (last-account : first_account content after.sessions
    ≡ account_putting (first_account content later.sessions) p (taken_of ((first_account content later.sessions).hand p)) (content part) Keep)
    (none : (first_account content before.sessions).hand p ≡ None) where
  pub counts-more :
      KnowsContent (first_number before.sessions) (first_account content before.sessions) p (content part)
      → OnOk result ((row : TableRow) → count_by (row_eq row) most ≡ count_by (row_eq row) old + times_had (content part ∷ counts.contents) row)
      → CountsFrom content groups p limit before old result fast after most
  counts-more knows rows = record {
    contents = content part ∷ counts.contents;
    last = let last = counts.last in omega (arith, last);
    of_partitions = (record { holds = knows.holds_of_it; waits = knows.waits_of_it }, counts.of_partitions);
    word = counts.word;
    further =
        further-then before mid after mid_further
        (further-then mid later after counts.further put);
    account =
        kept-since (first_account content before.sessions) (first_account content mid.sessions) (first_account content later.sessions) (first_account content after.sessions) p (content part)
        (holding_steps (p + 1) counts.contents (all_slot_loads limit groups counts.word)) none mid_account counts.account last-account;
    fast_ = counts.fast_;
    rows = rows;
    finds = λ issued are all in_hand is.
        let zeroth : p ≡ p + 0 = omega arith in
        let here : all p ≡ content part = ap all zeroth ∙ is 0 (omega arith) in
        finds-before content groups issued limit p before mid has mid_further (content part) mid_account all counts.word
        (counts.finds issued (further-all before mid issued has mid_further are) all
        (in_hand-more content groups issued limit p before mid has mid_further (content part) mid_account all counts.word in_hand here)
        (λ k below.
        let next : p + 1 + k ≡ p + suc k = omega arith in
        ap all next ∙ is (suc k) (omega (arith, below))));
  }

-- With all sixteen in hand the slots are loaded.
module _ {T : Type 0} (content : T → Content) where
  pub counts-slots : (groups limit p : ℕ) (before told_ after : View T) (rows : List TableRow) (fast : ℕ) → p ≡ 16 → told_ ≡ before
      → ((issued : ℕ) → AreAll issued before → KnowsAll content groups issued before) → SeesAllSlots content groups limit told_ after fast → CountsFrom content groups p limit before rows (Ok tt) fast after rows
  counts-slots groups limit p before told_ after rows fast all same knows sees_ =
      let sees : SeesAllSlots content groups limit before after fast = subst (λ (v : View T). SeesAllSlots content groups limit v after fast) same sees_ in
      record {
        contents = [];
        last = omega (arith, all);
        of_partitions = tt;
        word = sees.word;
        further = sees.further;
        account = sees.account;
        fast_ = sees.sum_;
        rows = λ row. omega arith;
        finds = λ issued are contents in_hand is.
            finds-all content groups issued limit fast before after contents sees are (knows issued are) (λ q below. in_hand q (omega (arith, below, all)));
      }

-- What was found after steps that only joined the trace was found.
pub finds-traced : {T : Type 0} (content : T → Content) (groups issued limit : ℕ) (before mid : View T) (steps : List TraceEntry) (has : HasSession before) (further : IsFurther before mid)
    → first_account content mid.sessions ≡ account_after (first_account content before.sessions) steps → (contents : ℕ → Content) (word : ℕ → ℕ → ℕ)
    → Finds content groups issued limit mid contents word → Finds content groups issued limit before contents word
finds-traced {T} content groups issued limit before mid steps has further account contents word found = record {
  distinct = distinct-before content before mid has further issued found.distinct;
  stand = λ nobody number.
      stand-before content before mid has further (ap (λ (a : Account). a.own) account) (ap (λ (a : Account). a.fast) account) groups number contents
      (found.stand (none_waits-after content before mid has further (sym (ap (λ (a : Account). a.awaited) account)) nobody) number);
  left = λ owner slot below within.
      left-before content before mid has further (ap (λ (a : Account). a.own) account) (ap (λ (a : Account). a.fast) account) owner contents slot (word owner slot)
      (found.left owner slot below within);
}
