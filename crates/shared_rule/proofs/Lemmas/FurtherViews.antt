use Rattle.std.proofs.Common.{◌≡◌, ℕ, ◌+◌, Bool, true, ◌&&◌, List, ◌∷◌, length, refl, sym, ap, ◌∙◌, subst, inl, inr, arith}
use Rattle.std.specs.Prelude.{◌==◌}
use Rattle.std.proofs.lemmas.Bool.{cases_Bool, cond-true, cond-false}
use Rattle.std.proofs.lemmas.List.Sums.{sum_by-cons}
use Rattle.modes_core.specs.declared.modes.Mode.{Mode}
use Rattle.modes_core.specs.declared.tags.Tag.{Tag}
use Rattle.modes_core.specs.declared.tags.Tag.TheVariants.{Relation}
use Rattle.lw_word.specs.SlotWord.{shows}
use Rattle.lock_table.specs.Content.{Content}
use Rattle.lock_world.specs.Account.{Account, FastAccount}
use Rattle.lock_world.specs.Counted.{count_at}
use Rattle.lock_world.specs.SlotHolds.{slot_holds, OneSlotEach, AreInGroups}
use Rattle.lock_world.specs.Tallies.{left_in_slots, OwnStand, ShowsLeft}
use Rattle.shared_rule.specs.declared.history.Mark.{Mark}
use Rattle.shared_rule.specs.declared.history.PlacedView.{PlacedView}
use Rattle.shared_rule.specs.declared.history.View.{View}
use Rattle.shared_rule.specs.declared.kept.Kept.{Kept}
use Rattle.shared_rule.specs.History.{noted, noting, noting_first, first_account, first_number}
use Rattle.atomic_table.specs.declared.shared.Seat.{Seat}
use Rattle.shared_rule.specs.Plays.{HasSession, IsSameSeat}
use Rattle.shared_rule.specs.Seats.{behind_of}
use Rattle.shared_rule.specs.Quiet.{Quiet, first_quiet, quiet_told, quiet_noted}
use Rattle.shared_rule.specs.Gatherings.{Gathered, account_among, AreDistinct, NoneWaits, counted_at, AreAll, gathered_in}
use Rattle.shared_rule.specs.Audits.{IsFurther}
use Rattle.lock_world.specs.Account.{ListAccount}
use Rattle.shared_rule.specs.Boards.{lists_told}
use Rattle.shared_rule.specs.Todos.{nothing_to_do, todo_noted}
use Rattle.shared_rule.specs.Owed.{first_owed, owed_noted}
use Rattle.shared_rule.proofs.Lemmas.Taken.{todo-noted, owed-noted}

-- What a seat at which all sessions are knows stays as its first session makes steps that change neither its
-- own holds nor what it knows of slots and counters.

-- ---- steps at a seat

pub same-seat : {T : Type 0} (seat : Seat (Kept T) (PlacedView T)) → IsSameSeat seat seat
same-seat seat = record { table_id = refl; id = refl }

pub same-seat_then : {T : Type 0} (a b c : Seat (Kept T) (PlacedView T)) → IsSameSeat a b → IsSameSeat b c → IsSameSeat a c
same-seat_then a b c first second = record { table_id = second.table_id ∙ first.table_id; id = second.id ∙ first.id }

module _ {T : Type 0} where
  -- There is a session still after one made a step,
  abbrev pub noting-some : (view : View T) (mark : Mark T) → HasSession view → HasSession (noting view mark)
  noting-some view mark has = record {
    history = record { number = has.history.number; marks = mark ∷ has.history.marks };
    others = has.others;
    sessions = ap (λ xs. noting_first xs mark) has.sessions;
  }

  -- and it is the same seat where that step isn't a quiet one, and leaves nothing to do.
  pub noting-further :
      (view : View T) (mark : Mark T) → ((before : List Quiet) → quiet_noted before mark ≡ before)
      → ((number : ℕ) (lists : ListAccount) → todo_noted number lists nothing_to_do mark ≡ nothing_to_do) → ((owed : List ℕ) → owed_noted owed mark ≡ owed) → HasSession view
      → IsFurther view (noting view mark)
  noting-further view mark silent nothing wakes has =
      let is : (noting view mark).sessions ≡ record { number = has.history.number; marks = mark ∷ has.history.marks } ∷ has.others = ap (λ xs. noting_first xs mark) has.sessions in
      record {
        next = refl;
        closed = refl;
        behind = ap behind_of is ∙ sym (ap behind_of has.sessions);
        number = ap first_number is ∙ sym (ap first_number has.sessions);
        quiet = ap first_quiet is ∙ silent (quiet_told has.history.marks) ∙ sym (ap first_quiet has.sessions);
        some = noting-some view mark has;
        free = λ was. todo-noted view mark has ∙ ap (λ todo. todo_noted (first_number view.sessions) (lists_told view.sessions) todo mark) was ∙ nothing (first_number view.sessions) (lists_told view.sessions);
        owed = owed-noted view mark has ∙ wakes (first_owed view.sessions);
      }

  pub further-itself : (view : View T) → HasSession view → IsFurther view view
  further-itself view has = record { next = refl; closed = refl; behind = refl; number = refl; quiet = refl; some = has; free = λ was. was; owed = refl }

  pub further-then : (a b c : View T) → IsFurther a b → IsFurther b c → IsFurther a c
  further-then a b c first second = record {
    next = second.next ∙ first.next;
    closed = second.closed ∙ first.closed;
    behind = second.behind ∙ first.behind;
    number = second.number ∙ first.number;
    quiet = second.quiet ∙ first.quiet;
    some = second.some;
    free = λ was. second.free (first.free was);
    owed = second.owed ∙ first.owed;
  }

  -- the sessions at a seat, the first and those behind it
  pub sessions-split : (view : View T) (has : HasSession view) → view.sessions ≡ has.history ∷ behind_of view.sessions
  sessions-split view has = has.sessions ∙ ap (λ xs. has.history ∷ xs) (sym (ap behind_of has.sessions))

  pub further-all : (a b : View T) (issued : ℕ) → HasSession a → IsFurther a b → AreAll issued a → AreAll issued b
  further-all a b issued has further are = record {
    next = further.next ∙ are.next;
    all =
        let mine : length a.sessions ≡ length (has.history ∷ behind_of a.sessions) = ap length (sessions-split a has) in
        let its : length b.sessions ≡ length (further.some.history ∷ behind_of b.sessions) = ap length (sessions-split b further.some) in
        let rest : length (behind_of b.sessions) ≡ length (behind_of a.sessions) = ap length further.behind in
        let closed : length b.closed ≡ length a.closed = ap length further.closed in
        let old = are.all in
        omega (arith, mine, its, rest, closed, old);
  }

module _ {T : Type 0} (content : T → Content) where
  pub account-noting : (view : View T) (mark : Mark T) → HasSession view
      → first_account content (noting view mark).sessions ≡ noted content (first_number view.sessions) (first_account content view.sessions) mark
  account-noting view mark has =
      ap (λ xs. first_account content (noting_first xs mark)) has.sessions
      ∙ sym (λ i. noted content (first_number (has.sessions i)) (first_account content (has.sessions i)) mark)

  -- who is at the seat
  pub gathered-split : (view : View T) → HasSession view
      → gathered_in content view.sessions ≡ record { number = first_number view.sessions; account = first_account content view.sessions } ∷ gathered_in content (behind_of view.sessions)
  gathered-split view has =
      ap (gathered_in content) has.sessions
      ∙ sym (λ i. record { number = first_number (has.sessions i); account = first_account content (has.sessions i) } ∷ gathered_in content (behind_of (has.sessions i)))

-- ---- what is known of the first by another account of it that owns the same and knows the same of slots

stand-as : (groups k : ℕ) (a b : Account) (contents : ℕ → Content) → a.own ≡ b.own → a.fast ≡ b.fast → OwnStand groups k a contents → OwnStand groups k b contents
stand-as groups k a b contents own fast stand = record {
  one_each = subst (λ (f : FastAccount). OneSlotEach f.remembered) fast stand.one_each;
  in_groups = subst (λ (f : FastAccount). AreInGroups groups f.remembered) fast stand.in_groups;
  in_slots = λ t m is.
      subst (λ (f : FastAccount). slot_holds f.database f.remembered t m ≡ true) fast
      (stand.in_slots t m (ap (λ (o : Tag → Mode → Bool). left_in_slots o contents k t m) own ∙ is));
  in_contents = λ t m has. ap (λ (o : Tag → Mode → Bool). o t m) (sym own) ∙ stand.in_contents t m has;
}

left-as : (k : ℕ) (a b : Account) (contents : ℕ → Content) (slot word : ℕ) → a.own ≡ b.own → a.fast ≡ b.fast → ShowsLeft k a contents slot word → ShowsLeft k b contents slot word
left-as k a b contents slot word own fast left relation mode =
    left relation mode
    ∙ (λ i. shows ((fast i).remembered slot) relation mode && left_in_slots (own i) contents k (Relation (fast i).database relation) mode)

-- the first of a list by two accounts
among-as : (P : Account → Type 0) (n : ℕ) (a b : Account) (others : List Gathered) (k : ℕ) → (P a → P b)
    → P (account_among (record { number = n; account = a } ∷ others) k) → P (account_among (record { number = n; account = b } ∷ others) k)
among-as P n a b others k same p =
    elim (cases_Bool (n == k)) [
      | inl its ↦
          subst P (sym (cond-true (n == k) b (account_among others k) its)) (same (subst P (cond-true (n == k) a (account_among others k) its) p))
      | inr other ↦
          subst P (sym (cond-false (n == k) b (account_among others k) other)) (subst P (cond-false (n == k) a (account_among others k) other) p)
    ]

module _ {T : Type 0} (content : T → Content) (a b : View T) (has : HasSession a) (further : IsFurther a b) where
  abbrev mine : Account
  mine = first_account content a.sessions

  abbrev pub its : Account
  its = first_account content b.sessions

  abbrev rest : List Gathered
  rest = gathered_in content (behind_of a.sessions)

  abbrev pub number : ℕ
  number = first_number a.sessions

  before-is : gathered_in content a.sessions ≡ record { number = number; account = mine } ∷ rest
  before-is = gathered-split content a has

  after-is : gathered_in content b.sessions ≡ record { number = number; account = its } ∷ rest
  after-is =
      gathered-split content b further.some
      ∙ (λ i. record { number = further.number i; account = its } ∷ gathered_in content (further.behind i))

  pub distinct-before : (limit : ℕ) → AreDistinct limit (gathered_in content b.sessions) → AreDistinct limit (gathered_in content a.sessions)
  distinct-before limit are =
      let split : AreDistinct limit (record { number = number; account = its } ∷ rest) = subst (AreDistinct limit) after-is are in
      subst (AreDistinct limit) (sym before-is) (split.0, split.1, split.2)

  pub none_waits-after : mine.awaited ≡ its.awaited → NoneWaits (gathered_in content a.sessions) → NoneWaits (gathered_in content b.sessions)
  none_waits-after same nobody =
      let split : NoneWaits (record { number = number; account = mine } ∷ rest) = subst NoneWaits before-is nobody in
      subst NoneWaits (sym after-is) (sym same ∙ split.0, split.1)

  pub stand-before : its.own ≡ mine.own → its.fast ≡ mine.fast → (groups k : ℕ) (contents : ℕ → Content)
      → OwnStand groups k (account_among (gathered_in content b.sessions) k) contents → OwnStand groups k (account_among (gathered_in content a.sessions) k) contents
  stand-before own fast groups k contents stand =
      subst (λ xs. OwnStand groups k (account_among xs k) contents) (sym before-is)
      (among-as (λ c. OwnStand groups k c contents) number its mine rest k (stand-as groups k its mine contents own fast)
      (subst (λ xs. OwnStand groups k (account_among xs k) contents) after-is stand))

  pub left-before : its.own ≡ mine.own → its.fast ≡ mine.fast → (k : ℕ) (contents : ℕ → Content) (slot word : ℕ)
      → ShowsLeft k (account_among (gathered_in content b.sessions) k) contents slot word → ShowsLeft k (account_among (gathered_in content a.sessions) k) contents slot word
  left-before own fast k contents slot word left =
      subst (λ xs. ShowsLeft k (account_among xs k) contents slot word) (sym before-is)
      (among-as (λ c. ShowsLeft k c contents slot word) number its mine rest k (left-as k its mine contents slot word own fast)
      (subst (λ xs. ShowsLeft k (account_among xs k) contents slot word) after-is left))

  pub counted-before : its.fast ≡ mine.fast → (index : ℕ) → counted_at index (gathered_in content b.sessions) ≡ counted_at index (gathered_in content a.sessions)
  counted-before fast index =
      ap (counted_at index) after-is
      ∙ sum_by-cons (λ (g : Gathered). count_at index g.account.fast.counted) (record { number = number; account = its }) rest
      ∙ ap (λ (f : FastAccount). count_at index f.counted + counted_at index rest) fast
      ∙ sym (sum_by-cons (λ (g : Gathered). count_at index g.account.fast.counted) (record { number = number; account = mine }) rest)
      ∙ sym (ap (counted_at index) before-is)
