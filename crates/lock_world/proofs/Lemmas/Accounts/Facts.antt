use Rattle.std.proofs.Common.{◌≡◌, ◌⊎◌, ℕ, true, false, Some, None, refl, sym, ap, ◌∙◌, inl, inr}
use Rattle.std.proofs.lemmas.Bool.{false_from_ne_true, both_ways}
use Rattle.modes_core.specs.declared.modes.Mode.{Mode}
use Rattle.modes_core.specs.declared.tags.Tag.{Tag}
use Rattle.modes_core.specs.Tag.{partition_of}
use Rattle.lock_table.specs.OwnWait.{OwnWait, is_for}
use Rattle.lock_table.specs.Queue.{waits_there, awaits_mode}
use Rattle.lock_world.specs.Account.{SlotsInHand, account}
use Rattle.lock_world.specs.AccountFacts.{OwnHoldsStand, KnowsContent, KnowsSlots}
use Rattle.lw_word.specs.SlotWord.{shows}
use Rattle.lock_world.specs.Counted.{is_past}
use Rattle.lock_world.specs.SlotHolds.{slot_holds}
use Rattle.lock_world.specs.WaitWord.{wait_state}
use Rattle.lock_world.specs.World.{World}
use Rattle.lock_world.specs.SafeWorld.{SafeWorld, tabled}
use Rattle.lock_world.proofs.Lemmas.Slots.Remembered.{slot_holds-fewer}
use Rattle.lock_world.proofs.Lemmas.FromSafe.{session-stands, stands-once, awaits-for, waiting-stands}
use Rattle.lock_world.proofs.Lemmas.FromSafeWorld.{held-in_table, shown-in_no_content}
use Rattle.lock_world.proofs.Lemmas.SafeWorld.OneSession.{is_for-itself}
use Rattle.lock_world.proofs.Lemmas.Accounts.Lawful.{slots-known}
use Rattle.lock_world.proofs.Lemmas.Accounts.Slots.{slots_now}

-- What a session knows of a content that nobody has in hand is so.
module _ (w : World) (safe : SafeWorld w) (s p : ℕ) where
  its : (t : Tag) (m : Mode) → (w.contents.now p).holds s t m ≡ true → (w.sessions.own s t m ≡ true) ⊎ (is_for (w.sessions.awaited s) t m ≡ true)
  its t m has = elim ((held-in_table w safe p s t m).0 has).1 [
    | inl own ↦ inl own.0
    | inr pending ↦ inr pending.0
  ]

  own : (mine : SlotsInHand) (t : Tag) (m : Mode) → (account w s).fast.slots s ≡ Some mine → partition_of t ≡ p
      → w.sessions.own s t m ≡ true → mine.holds t m ≡ false → (w.contents.now p).holds s t m ≡ true
  own mine t m known home has not_shown =
      let is = (slots-known (w.sessions.holds_fast s s) (w.words.database s) (w.words.slot s) mine known).1 in
      (held-in_table w safe p s t m).1 (home, inl (has, ap (λ slots. slots.holds t m) (sym is) ∙ not_shown))

  tabled_own :
      (t : Tag) (m : Mode) → slot_holds (w.words.database s) (w.sessions.remembered s) t m ≡ false → partition_of t ≡ p
      → w.sessions.own s t m ≡ true → (w.contents.now p).holds s t m ≡ true
  tabled_own t m not_remembered home has =
      let no_slot : slot_holds (w.words.database s) (w.words.slot s) t m ≡ false =
      slot_holds-fewer (w.words.database s) (w.words.slot s) (w.sessions.remembered s) t m (safe.remembered s)
      not_remembered in
      (held-in_table w safe p s t m).1 (home, inl (has, no_slot))

  -- Where something that it has counted is past itself, its slots don't have the object.
  past_own :
      (t : Tag) (m : Mode) → is_past (w.sessions.counted s) t s ≡ true → partition_of t ≡ p
      → w.sessions.own s t m ≡ true → (w.contents.now p).holds s t m ≡ true
  past_own t m past home has = (held-in_table w safe p s t m).1 (home, inl (has, safe.past s s t m past))

  -- The words of its slots as they are say where each own hold stands.
  stand : OwnHoldsStand s (w.sessions.own s) (w.words.database s) (w.sessions.remembered s) p (w.contents.now p)
  stand = record {
    slot = w.words.slot s;
    no_more = safe.remembered s;
    in_slot = λ t m shown. (safe.slots.are_own s t m shown, shown-in_no_content w safe p s t m shown);
    in_content = λ t m home has not_shown. (held-in_table w safe p s t m).1 (home, inl (has, not_shown));
  }

  -- What shows in a slot is its session's own hold, so it is nowhere else.
  shown_elsewhere :
      (o : ℕ) (slots : SlotsInHand) (t : Tag) (m : Mode) → (account w s).fast.slots o ≡ Some slots → slots.holds t m ≡ true
      → ((w.contents.now p).holds o t m ≡ false) × (awaits_mode ((w.contents.now p).waits t) o m ≡ false)
  shown_elsewhere o slots t m known shown = (
    shown-in_no_content w safe p o t m is,
    false_from_ne_true (awaits_mode ((w.contents.now p).waits t) o m) (λ awaits.
        let awaited = awaits-for (tabled w) safe.but_slots p o t m awaits in
        both_ways (w.sessions.own o t m) (safe.order.awaited_is_not_own o t m awaited) (safe.slots.are_own o t m is)),
  ) where
    is : slot_holds (w.words.database o) (w.words.slot o) t m ≡ true
    is =
        ap (λ (s : SlotsInHand). s.holds t m)
        (sym (slots-known (w.sessions.holds_fast s o) (w.words.database o) (w.words.slot o) slots known).1)
        ∙ shown

  -- A wait that stands in no queue while nobody has the partition in hand was granted.
  granted :
      w.contents.hand p ≡ None → (wait : OwnWait) → w.sessions.awaited s ≡ Some wait → partition_of wait.tag ≡ p
      → waits_there ((w.contents.now p).waits wait.tag) s ≡ false → (w.contents.now p).holds s wait.tag wait.mode ≡ true
  granted free wait is home gone = at (safe.but_slots.table.promise.wait_words.waiting s wait is) where
    at : (wait_state (w.words.wait s) ≡ 1) ⊎ (wait_state (w.words.wait s) ≡ 2) → (w.contents.now p).holds s wait.tag wait.mode ≡ true
    at (inl one) =
        let there : waits_there ((w.contents.now (partition_of wait.tag)).waits wait.tag) s ≡ true =
        waiting-stands (tabled w) safe.but_slots s wait is (ap w.contents.hand home ∙ free) one in
        absurd (both_ways _ gone (ap (λ q. waits_there ((w.contents.now q).waits wait.tag) s) (sym home) ∙ there))
    at (inr two) =
        let awaits : is_for (w.sessions.awaited s) wait.tag wait.mode ≡ true = ap (λ a. is_for a wait.tag wait.mode) is ∙ is_for-itself wait in
        (held-in_table w safe p s wait.tag wait.mode).1 (home, inr (awaits, inl two))

  pub content-known : w.contents.hand p ≡ None → KnowsContent s (account w s) p (w.contents.now p)
  content-known free = record {
    holds_of_it = λ k t m has. ((held-in_table w safe p k t m).0 has).0;
    waits_of_it = λ k t there. (session-stands (tabled w) safe.but_slots p k t there).0;
    its_holds = its;
    own_holds = own;
    tabled_holds = tabled_own;
    past = past_own;
    own_stand = stand;
    in_slots = shown_elsewhere;
    no_wait = λ t none. false_from_ne_true (waits_there ((w.contents.now p).waits t) s) (λ there.
        let stands = session-stands (tabled w) safe.but_slots p s t there in
        let some : w.sessions.awaited s ≡ Some stands.1.1.wait = stands.1.1.is_wait in cc);
    once = λ k t. stands-once (tabled w) safe.but_slots p k t;
    granted_hold = granted free;
  }

-- What a session knows of the slots of any session, its own too, is so.
pub slots-told : (w : World) → SafeWorld w → (s o : ℕ) → KnowsSlots w.numbers.groups s (account w s) o (slots_now w o)
slots-told w safe s o = record {
  database = w.words.database o;
  holds = refl;
  one_each = safe.slots.one_each o;
  in_use = safe.slots.has_database o;
  in_groups = safe.slots.in_groups o;
  own_database = λ its. ap w.words.database its;
  own = λ its t m shown. ap (λ k. w.sessions.own k t m) (sym its) ∙ safe.slots.are_own o t m shown;
  as_remembered = λ its place relation mode within shown.
      ap (λ k. shows (w.sessions.remembered k place) relation mode) (sym its)
      ∙ safe.remembered o place relation mode within shown;
}
