use Rattle.std.proofs.Common.{◌≡◌, ◌⊎◌, ℕ, Bool, true, false, List, [], ◌∷◌, Option, Some, None, refl, sym, ap, ◌∙◌, subst, inl, inr}
use Rattle.std.proofs.lemmas.Bool.{both_ways, cases_eq}
use Rattle.modes_core.specs.declared.modes.Mode.{Mode}
use Rattle.modes_core.specs.declared.tags.Tag.{Tag}
use Rattle.modes_core.specs.Tag.{partition_of}
use Rattle.lock_table.specs.declared.moves.Move.{Move}
use Rattle.lock_table.specs.declared.moves.Move.TheVariants.{Keep, Grant, Join, Release, Leave, Adopt}
use Rattle.lock_table.specs.Content.{Content, add_hold}
use Rattle.lock_table.specs.Put.{set_at}
use Rattle.lock_table.proofs.Lemmas.Holds.{SetHoldAt, here, elsewhere, set_hold-at}
use Rattle.lock_table.proofs.Lemmas.Put.{set_at-here, set_at-else}
use Rattle.lock_world.specs.declared.events.Event.{Event}
use Rattle.lock_world.specs.declared.events.Step.{Step}
use Rattle.lock_world.specs.declared.events.Step.TheVariants.{TakeExclusive, PutExclusive, TakeShared, PutShared, SplitSeat, JoinSeat, AskCancel, LoadWait, SetWaiting, MarkGranted, ClearWait, PutPassing, LoadStrong, LoadWord, SetSlot, ClearSlot, StoreDatabase, Count, Uncount, TransferSlot, LockList, UnlockList, JoinList, LeaveList, TakeOff, Tell, LoadSleep, SetReleaseOk, SetHasWaiters}
use Rattle.lock_world.specs.declared.events.Word.{Word}
use Rattle.lock_world.specs.declared.events.Word.TheVariants.{Partition, Fast, Database, Slot, Wait, Strong, Sleep}
use Rattle.lock_world.specs.SlotHolds.{IsHeldIn}
use Rattle.lock_world.specs.World.{World, Contents, Hand, recorded_in, opening}
use Rattle.lock_world.specs.Happens.{HappensStep, HappensTaking, HappensPutting, HappensSharing, HappensUnsharing, HappensLoading, HappensLockingList, HappensUnlockingList, HappensSettingReleaseOk, HappensSettingHasWaiters}
use Rattle.lock_world.specs.Happens.Seats.{HappensJoining}
use Rattle.lock_world.specs.Happens.Transfers.{MayAdopt}
use Rattle.lock_world.specs.Happens.Waits.{HappensMarking, HappensMarkingIn, HappensClearing, recording}
use Rattle.shared_rule.specs.Tells.{Leads}
use Rattle.shared_rule.specs.WasSo.{WasInSlot}

-- What an adopt adds to a content was in the slot that it names.

module _ (p owner slot : ℕ) (o : Tag) (m : Mode) (taken : Content) (had_not : taken.holds owner o m ≡ false) where
  -- The partition is in hand with that content taken, no move is recorded or the adopt, and the content has
  -- the hold.
  record IsAdopted (hand : Option Hand) (now : Content) : Type 0 where
    mine : Hand
    in_hand : hand ≡ Some mine
    taken_is : mine.taken ≡ taken
    may : MayAdopt mine.recorded owner slot
    has : now.holds owner o m ≡ true

  abbrev IsIn : World → Type 0
  IsIn w = IsAdopted (w.contents.hand p) (w.contents.now p)

  -- The slot shows it, with the partition in hand so.
  abbrev InSlot : World → Type 0
  InSlot w = (mine : Hand) × (w.contents.hand p ≡ Some mine) × (mine.taken ≡ taken) × IsHeldIn (w.words.database owner) (w.words.slot owner) o m slot

  abbrev WasIn : World → Type 0
  WasIn w = IsIn w ⊎ InSlot w

  -- Most steps leave the contents,
  keeps : (w u v : World) → v ≡ u → u.contents ≡ w.contents → IsIn v → WasIn w
  keeps w u v is same there = inl (subst (λ (c : Contents). IsAdopted (c.hand p) (c.now p)) ((λ i. (is i).contents) ∙ same) there)

  -- and the others change one partition, in hand and as it is,
  changes :
      (P : Type 0) (hands : ℕ → Option Hand) (nows : ℕ → Content) (q : ℕ) (hand : Option Hand) (now : Content)
      → (q ≡ p → IsAdopted hand now → P) → (IsAdopted (hands p) (nows p) → P) → IsAdopted (set_at hands q hand p) (set_at nows q now p) → P
  changes P hands nows q hand now at_it else there = elim (cases_eq p q) [
    | inl same ↦ at_it (sym same)
        (subst (λ h. IsAdopted h now) (set_at-here hands q hand p same)
        (subst (IsAdopted (set_at hands q hand p)) (set_at-here nows q now p same) there))
    | inr other ↦ else
        (subst (λ h. IsAdopted h (nows p)) (set_at-else hands q hand p other)
        (subst (IsAdopted (set_at hands q hand p)) (set_at-else nows q now p other) there))
  ]

  -- or in hand alone.
  changes-hand :
      (P : Type 0) (hands : ℕ → Option Hand) (now : Content) (q : ℕ) (hand : Option Hand)
      → (q ≡ p → IsAdopted hand now → P) → (IsAdopted (hands p) now → P) → IsAdopted (set_at hands q hand p) now → P
  changes-hand P hands now q hand at_it else there = elim (cases_eq p q) [
    | inl same ↦ at_it (sym same) (subst (λ h. IsAdopted h now) (set_at-here hands q hand p same) there)
    | inr other ↦ else (subst (λ h. IsAdopted h now) (set_at-else hands q hand p other) there)
  ]

  -- A partition at home isn't in hand, and one with another move recorded has none of this.
  at-home : (now : Content) → IsAdopted None now → ⊥
  at-home now there = let never : None ≡ Some there.mine = there.in_hand in cc (never)

  recorded-else : (hand : Option Hand) (done : Move) (unmarked : ℕ → Bool) (now : Content) → (done ≡ Adopt owner slot → ⊥) → IsAdopted (recording hand done unmarked) now → ⊥
  recorded-else None done unmarked now never there = at-home now there
  recorded-else (Some hand) done unmarked now never there =
      let is : Some (record hand { recorded = Some done; unmarked = unmarked }) ≡ Some there.mine = there.in_hand in
      let same : record hand { recorded = Some done; unmarked = unmarked } ≡ there.mine = cc (is) in
      never (subst (λ (h : Hand). MayAdopt h.recorded owner slot) (sym same) there.may)

  taking : (w : World) (s : ℕ) (its : Word) (v : World) → HappensTaking w s its v → IsIn v → WasIn w
  taking w s (Partition q) v h there =
      changes-hand (WasIn w) w.contents.hand (w.contents.now p) q _
      (λ same fresh.
      let is : Some (record { holder = s; taken = w.contents.now q; recorded = None; unmarked = λ _. false }) ≡ Some fresh.mine = fresh.in_hand in
      let its : record { holder = s; taken = w.contents.now q; recorded = None; unmarked = λ _. false } ≡ fresh.mine = cc (is) in
      let same_content : w.contents.now p ≡ taken = ap w.contents.now (sym same) ∙ ap (λ (x : Hand). x.taken) its ∙ fresh.taken_is in
      absurd (both_ways (taken.holds owner o m) had_not (sym (ap (λ (c : Content). c.holds owner o m) same_content) ∙ fresh.has)))
      inl
      (subst (λ (z : World). IsIn z) h.1 there)
  taking w s (Fast q) v h there = keeps w _ v h.1 refl there
  taking w s (Database q) v h there = absurd h
  taking w s (Slot q i) v h there = absurd h
  taking w s (Wait q) v h there = absurd h
  taking w s (Strong i) v h there = absurd h
  taking w s (Sleep q) v h there = absurd h

  putting : (w : World) (s : ℕ) (its : Word) (done : Move) (v : World) → HappensPutting w s its done v → IsIn v → WasIn w
  putting w s (Partition q) done v (inl h) there =
      changes (WasIn w) w.contents.hand w.contents.now q None h.0 (λ same home. absurd (at-home h.0 home)) inl (subst (λ (z : World). IsIn z) h.2 there)
  putting w s (Partition q) done v (inr h) there =
      changes (WasIn w) w.contents.hand w.contents.now q None (w.contents.now q) (λ same home. absurd (at-home (w.contents.now q) home)) inl
      (subst (λ (z : World). IsIn z) h.1 there)
  putting w s (Fast q) done v h there = keeps w _ v h.1.1 refl there
  putting w s (Database q) done v h there = absurd h
  putting w s (Slot q i) done v h there = absurd h
  putting w s (Wait q) done v h there = absurd h
  putting w s (Strong i) done v h there = absurd h
  putting w s (Sleep q) done v h there = absurd h

  sharing : (w : World) (s : ℕ) (its : Word) (v : World) → HappensSharing w s its v → IsIn v → WasIn w
  sharing w s (Partition q) v h there = keeps w _ v h.2 refl there
  sharing w s (Fast q) v h there = keeps w _ v h.2 refl there
  sharing w s (Database q) v h there = absurd h
  sharing w s (Slot q i) v h there = absurd h
  sharing w s (Wait q) v h there = absurd h
  sharing w s (Strong i) v h there = absurd h
  sharing w s (Sleep q) v h there = absurd h

  unsharing : (w : World) (s : ℕ) (its : Word) (v : World) → HappensUnsharing w s its v → IsIn v → WasIn w
  unsharing w s (Partition q) v h there = keeps w _ v h.1 refl there
  unsharing w s (Fast q) v h there = keeps w _ v h.1 refl there
  unsharing w s (Database q) v h there = absurd h
  unsharing w s (Slot q i) v h there = absurd h
  unsharing w s (Wait q) v h there = absurd h
  unsharing w s (Strong i) v h there = absurd h
  unsharing w s (Sleep q) v h there = absurd h

  loading : (w : World) (s : ℕ) (its : Word) (n : ℕ) (v : World) → HappensLoading w s its n v → IsIn v → WasIn w
  loading w s (Partition q) n v h there = absurd h
  loading w s (Fast q) n v h there = keeps w _ v h.2 refl there
  loading w s (Database q) n v h there = keeps w _ v h.1 refl there
  loading w s (Slot q i) n v h there = keeps w _ v h.1 refl there
  loading w s (Wait q) n v h there = absurd h
  loading w s (Strong i) n v h there = absurd h
  loading w s (Sleep q) n v h there = absurd h

  joining : (w : World) (s : ℕ) (joiner : Option ℕ) (v : World) → HappensJoining w s joiner v → IsIn v → WasIn w
  joining w s (Some j) v h there = keeps w _ v h.1 refl there
  joining w s None v h there = keeps w _ v h.1 refl there

  marking-in : (w : World) (s marked q : ℕ) (done : Move) (v : World) → (done ≡ Adopt owner slot → ⊥) → HappensMarkingIn w s marked q done v → IsIn v → WasIn w
  marking-in w s marked q done v never (inl h) there =
      changes (WasIn w) w.contents.hand w.contents.now q _ h.1 (λ same its. absurd (recorded-else (w.contents.hand q) done _ h.1 never its)) inl
      (subst (λ (z : World). IsIn z) h.3 there)
  marking-in w s marked q done v never (inr h) there =
      changes-hand (WasIn w) w.contents.hand (w.contents.now p) q _ (λ same its. absurd (recorded-else (w.contents.hand q) done _ (w.contents.now p) never its)) inl
      (subst (λ (z : World). IsIn z) h.1 there)

  marking : (w : World) (s marked : ℕ) (done : Move) (v : World) → HappensMarking w s marked done v → IsIn v → WasIn w
  marking w s marked Keep v h there = absurd h
  marking w s marked (Grant t n) v h there = absurd h
  marking w s marked (Join t n) v h there = absurd h
  marking w s marked (Release t n) v h there = marking-in w s marked (partition_of t) (Release t n) v (λ e. cc (e)) h there
  marking w s marked (Leave t) v h there = marking-in w s marked (partition_of t) (Leave t) v (λ e. cc (e)) h there
  marking w s marked (Adopt q i) v h there = absurd h

  clearing : (w : World) (s : ℕ) (leaving : Bool) (v : World) → HappensClearing w s leaving v → IsIn v → WasIn w
  clearing w s false v h there = keeps w _ v h.2 refl there
  clearing w s true v (inl h) there =
      changes (WasIn w) w.contents.hand w.contents.now (partition_of h.0.tag) _ h.2
      (λ same its. absurd (recorded-else (w.contents.hand (partition_of h.0.tag)) (Leave h.0.tag) _ h.2 (λ e. cc (e)) its)) inl
      (subst (λ (z : World). IsIn z) h.4 there)
  clearing w s true v (inr h) there = keeps w _ v h.3 refl there

  waiting : (w : World) (s : ℕ) (t : Tag) (n : Mode) (v : World) → HappensStep w s (SetWaiting t n) v → IsIn v → WasIn w
  waiting w s t n v h there =
      changes (WasIn w) w.contents.hand w.contents.now (partition_of t) _ h.0
      (λ same its. absurd (recorded-else (w.contents.hand (partition_of t)) (Join t n) _ h.0 (λ e. cc (e)) its)) inl
      (subst (λ (z : World). IsIn z) h.2 there)

  locking_list : (w : World) (s : ℕ) (its : Word) (v : World) → HappensLockingList w s its v → IsIn v → WasIn w
  locking_list w s (Partition q) v h there = keeps w _ v h.2 refl there
  locking_list w s (Fast q) v h there = keeps w _ v h.2 refl there
  locking_list w s (Database q) v h there = absurd h
  locking_list w s (Slot q i) v h there = absurd h
  locking_list w s (Wait q) v h there = absurd h
  locking_list w s (Strong i) v h there = absurd h
  locking_list w s (Sleep q) v h there = absurd h

  unlocking_list : (w : World) (s : ℕ) (its : Word) (waiters release : Bool) (v : World) → HappensUnlockingList w s its waiters release v → IsIn v → WasIn w
  unlocking_list w s (Partition q) waiters release v h there = keeps w _ v h.1 refl there
  unlocking_list w s (Fast q) waiters release v h there = keeps w _ v h.1 refl there
  unlocking_list w s (Database q) waiters release v h there = absurd h
  unlocking_list w s (Slot q i) waiters release v h there = absurd h
  unlocking_list w s (Wait q) waiters release v h there = absurd h
  unlocking_list w s (Strong i) waiters release v h there = absurd h
  unlocking_list w s (Sleep q) waiters release v h there = absurd h

  setting_release_ok : (w : World) (s : ℕ) (its : Word) (n : ℕ) (v : World) → HappensSettingReleaseOk w s its n v → IsIn v → WasIn w
  setting_release_ok w s (Partition q) n v h there = keeps w _ v h.2 refl there
  setting_release_ok w s (Fast q) n v h there = keeps w _ v h.2 refl there
  setting_release_ok w s (Database q) n v h there = absurd h
  setting_release_ok w s (Slot q i) n v h there = absurd h
  setting_release_ok w s (Wait q) n v h there = absurd h
  setting_release_ok w s (Strong i) n v h there = absurd h
  setting_release_ok w s (Sleep q) n v h there = absurd h

  setting_has_waiters : (w : World) (s : ℕ) (its : Word) (n : ℕ) (v : World) → HappensSettingHasWaiters w s its n v → IsIn v → WasIn w
  setting_has_waiters w s (Partition q) n v h there = keeps w _ v h.1 refl there
  setting_has_waiters w s (Fast q) n v h there = keeps w _ v h.1 refl there
  setting_has_waiters w s (Database q) n v h there = absurd h
  setting_has_waiters w s (Slot q i) n v h there = absurd h
  setting_has_waiters w s (Wait q) n v h there = absurd h
  setting_has_waiters w s (Strong i) n v h there = absurd h
  setting_has_waiters w s (Sleep q) n v h there = absurd h

  -- A mode moved from a slot is the one, and was there, or leaves it as it was.
  moved :
      (w : World) (q i k : ℕ) (t : Tag) (n : Mode) (unmarked : ℕ → Bool) (hand : Option Hand) → MayAdopt (recorded_in hand) q i
      → IsHeldIn (w.words.database q) (w.words.slot q) t n i → w.contents.hand k ≡ hand
      → IsAdopted (recording hand (Adopt q i) unmarked) (add_hold (w.contents.now k) q t n)
      → IsAdopted (w.contents.hand k) (w.contents.now k)
      ⊎ ((mine : Hand) × (w.contents.hand k ≡ Some mine) × (mine.taken ≡ taken) × IsHeldIn (w.words.database owner) (w.words.slot owner) o m slot)
  moved w q i k t n unmarked None may held had there = absurd (at-home (add_hold (w.contents.now k) q t n) there)
  moved w q i k t n unmarked (Some hand) may held had there = at (set_hold-at (w.contents.now k).holds q t n true owner o m) where
    is : Some (record hand { recorded = Some (Adopt q i); unmarked = unmarked }) ≡ Some there.mine
    is = there.in_hand

    same : record hand { recorded = Some (Adopt q i); unmarked = unmarked } ≡ there.mine
    same = cc (is)

    taken_so : hand.taken ≡ taken
    taken_so = ap (λ (x : Hand). x.taken) same ∙ there.taken_is

    adopt : Adopt q i ≡ Adopt owner slot
    adopt = subst (λ (x : Hand). MayAdopt x.recorded owner slot) (sym same) there.may

    whose : q ≡ owner
    whose = cc (adopt)

    same_slot : i ≡ slot
    same_slot = cc (adopt)

    at : SetHoldAt (w.contents.now k).holds q t n true owner o m
        → IsAdopted (w.contents.hand k) (w.contents.now k)
        ⊎ ((mine : Hand) × (w.contents.hand k ≡ Some mine) × (mine.taken ≡ taken) × IsHeldIn (w.words.database owner) (w.words.slot owner) o m slot)
    at (here it e) = inr (
      hand,
      had,
      taken_so,
      subst (λ at. IsHeldIn (w.words.database owner) (w.words.slot owner) o m at) same_slot
          (subst (λ mode. IsHeldIn (w.words.database owner) (w.words.slot owner) o mode i) (sym it.mode)
          (subst (λ tag. IsHeldIn (w.words.database owner) (w.words.slot owner) tag n i) (sym it.tag)
          (subst (λ (j : ℕ). IsHeldIn (w.words.database j) (w.words.slot j) t n i) whose held))),
    )
    at (elsewhere other e) = inl (record {
      mine = hand;
      in_hand = had;
      taken_is = taken_so;
      may = subst (λ (at : ℕ). MayAdopt hand.recorded owner at) same_slot (subst (λ (j : ℕ). MayAdopt hand.recorded j i) whose may);
      has = sym e ∙ there.has;
    })

  moving : (w : World) (s q i : ℕ) (t : Tag) (n strong : Mode) (v : World) → HappensStep w s (TransferSlot q i t n strong) v → IsIn v → WasIn w
  moving w s q i t n strong v h there =
      changes (WasIn w) w.contents.hand w.contents.now (partition_of t) _ _
      (λ same its. subst (λ (k : ℕ). IsAdopted (w.contents.hand k) (w.contents.now k)
      ⊎ ((mine : Hand) × (w.contents.hand k ≡ Some mine) × (mine.taken ≡ taken) × IsHeldIn (w.words.database owner) (w.words.slot owner) o m slot)) same
      (moved w q i (partition_of t) t n _ (w.contents.hand (partition_of t)) h.0.may_adopt h.0.held_in refl its))
      inl
      (subst (λ (z : World). IsIn z) h.1 there)

  step : (w : World) (s : ℕ) (made : Step) (v : World) → HappensStep w s made v → IsIn v → WasIn w
  step w s (TakeExclusive its) v h there = taking w s its v h there
  step w s (PutExclusive its done) v h there = putting w s its done v h there
  step w s (TakeShared its) v h there = sharing w s its v h there
  step w s (PutShared its) v h there = unsharing w s its v h there
  step w s SplitSeat v (inl h) there = keeps w _ v h.1 refl there
  step w s SplitSeat v (inr h) there = keeps w _ v h.1 refl there
  step w s (JoinSeat joiner) v h there = joining w s joiner v h there
  step w s (AskCancel q) v h there = keeps w _ v h.1 refl there
  step w s (LoadWait n) v h there = keeps w _ v h.1 refl there
  step w s (SetWaiting t n) v h there = waiting w s t n v h there
  step w s (MarkGranted marked done) v h there = marking w s marked done v h there
  step w s (ClearWait leaving) v h there = clearing w s leaving v h there
  step w s (PutPassing q t n) v h there = keeps w _ v h.1 refl there
  step w s (LoadStrong i n) v h there = keeps w _ v h.1 refl there
  step w s (LoadWord its n) v h there = loading w s its n v h there
  step w s (SetSlot i t n) v h there = keeps w _ v h.1 refl there
  step w s (ClearSlot i t n) v h there = keeps w _ v h.1 refl there
  step w s (StoreDatabase d) v h there = keeps w _ v h.1 refl there
  step w s (Count t n) v h there = keeps w _ v h.1 refl there
  step w s (Uncount t n) v h there = keeps w _ v h.1 refl there
  step w s (TransferSlot q i t n x) v h there = moving w s q i t n x v h there
  step w s (LockList its) v h there = locking_list w s its v h there
  step w s (UnlockList its waiters release) v h there = unlocking_list w s its waiters release v h there
  step w s (JoinList mode) v h there = keeps w _ v h.2 refl there
  step w s LeaveList v h there = keeps w _ v h.2 refl there
  step w s (TakeOff q) v h there = keeps w _ v h.2 refl there
  step w s (Tell q) v h there = keeps w _ v h.1 refl there
  step w s (LoadSleep n) v h there = keeps w _ v h.1 refl there
  step w s (SetReleaseOk its n) v h there = setting_release_ok w s its n v h there
  step w s (SetHasWaiters its n) v h there = setting_has_waiters w s its n v h there

  -- So it was in the slot on the way, unless it was there so at first.
  on-the-way : (w : World) (events : List Event) (v : World) → Leads w events v → IsIn v → IsIn w ⊎ WasInSlot w v events p owner slot o m taken
  on-the-way w [] v run there = inl (subst (λ (z : World). IsIn z) run there)
  on-the-way w (event ∷ events) v run there = elim (on-the-way run.0 events v run.2 there) [
    | inl then ↦ elim (step w event.session event.step run.0 run.1 then) [
      | inl before ↦ inl before
      | inr shown ↦ inr (record {
        before = [];
        after = event ∷ events;
        all = refl;
        world = w;
        run = refl;
        rest = run;
        mine = shown.0;
        in_hand = shown.1;
        taken_so = shown.2;
        shown = shown.3;
      })
    ]
    | inr found ↦ inr (record {
      before = event ∷ found.before;
      after = found.after;
      all = ap (λ rest. event ∷ rest) found.all;
      world = found.world;
      run = (run.0, run.1, found.run);
      rest = found.rest;
      mine = found.mine;
      in_hand = found.in_hand;
      taken_so = found.taken_so;
      shown = found.shown;
    })
  ]

  pub was-in_slot :
      (limit groups : ℕ) (events : List Event) (v : World) (hand : Hand) → Leads (opening limit groups) events v → v.contents.hand p ≡ Some hand
      → hand.taken ≡ taken → hand.recorded ≡ Some (Adopt owner slot) → (v.contents.now p).holds owner o m ≡ true
      → WasInSlot (opening limit groups) v events p owner slot o m taken
  was-in_slot limit groups events v hand run in_hand same recorded has =
      elim (on-the-way (opening limit groups) events v run (record {
        mine = hand;
        in_hand = in_hand;
        taken_is = same;
        may = subst (λ done. MayAdopt done owner slot) (sym recorded) refl;
        has = has;
      })) [
        | inl first ↦ absurd (at-home ((opening limit groups).contents.now p) first)
        | inr found ↦ found
      ]
