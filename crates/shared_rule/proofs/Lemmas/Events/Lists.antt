use Rattle.std.proofs.Common.{◌≡◌, ◌⊎◌, arith, ℕ, ◌/◌, ◌%◌, ◌^◌, Bool, true, false, List, [], ◌∷◌}
use Rattle.std.proofs.Common.{Option, Some, None, refl, sym, ap, ◌∙◌, subst, inl, inr, bit_and, bit_or}
use Rattle.std.specs.Prelude.{slice_set, slice_index}
use Rattle.std.specs.Global.{Box}
use Rattle.std.proofs.lemmas.Bool.{cases_eq}
use mathlib.Core.Option.{some, none}
use mathlib.Core.Option as maybe
use Rattle.atomic_table.specs.Table.{Step, step, takes, gives, keeps, rest, put_back}
use Rattle.lw_word.specs.LightweightWord.{list_locked_word, list_unlocked_word, kept_bits}
use Rattle.lw_word.specs.WaitList.{Waiting, stands_in}
use Rattle.lock_table.specs.declared.request.Request.{Request}
use Rattle.lock_table.specs.Content.{Content}
use Rattle.lock_table.specs.Put.{set_at}
use Rattle.lock_world.specs.World.{World, word_in}
use Rattle.lock_world.specs.Account.{Account, ListInHand, account}
use Rattle.lock_world.specs.AccountLaw.{MayLockListBy}
use Rattle.lock_world.proofs.Lemmas.Accounts.Lists.{has_list-lawful}
use Rattle.shared_rule.specs.Allowed.{RuledNext, AllowsStep}
use Rattle.shared_rule.specs.declared.history.Mark.{Mark}
use Rattle.lock_world.specs.Wakes.Waking.{NoneOr}
use Rattle.shared_rule.specs.Todos.{todo_told_by}
use Rattle.shared_rule.specs.Todos.{TellsNobodyBy, IsLeftWellBy}
use Rattle.shared_rule.specs.Marks as mark
use Rattle.shared_rule.specs.declared.history.History.{History}
use Rattle.shared_rule.specs.declared.rule.TableSizes.{TableSizes}
use Rattle.shared_rule.specs.declared.kept.Kept.{Kept}
use Rattle.shared_rule.specs.declared.kept.Kept.TheVariants as kept
use Rattle.shared_rule.specs.declared.lw_locks.LwLock.{LwLock}
use Rattle.shared_rule.specs.Layout.{index_of_word, list_shelf_of, shelves_of}
use Rattle.lw_word.specs.declared.words.LwMode.{LwMode}
use Rattle.lw_word.specs.declared.words.LwMode.TheVariants.{Exclusive, Shared}
use Rattle.lw_word.specs.LightweightWord.{IsHeldByNobody}
use Rattle.shared_rule.specs.LwLocks.{word_of_lock, lock_number, LockExists, IsFreeFor}
use Rattle.shared_rule.specs.Waiters.{WaitersExist}
use Rattle.shared_rule.proofs.Lemmas.Waiters.{listed-below}
use Rattle.shared_rule.specs.Shown.{WordsAreShown, set_word}
use Rattle.shared_rule.specs.History.{told, noting, first_account, first_number}
use Rattle.shared_rule.specs.Ruled.{ContentsAreHome, ListsAreHome}
use Rattle.shared_rule.specs.Plays.{Side, WentHome, TookList, LockedListOr, SawHeldOr}
use Rattle.shared_rule.proofs.Lemmas.Shown.{words-set}
use Rattle.shared_rule.proofs.Lemmas.Frame.{sees_list_locked, sees_held, ruled-steps, ruled-noted}
use Rattle.shared_rule.proofs.Lemmas.Events.Words.{nothing-changes, looks-only}
use Rattle.shared_rule.proofs.Lemmas.Events.ListShelves.{or-locked, lock-below, lock-word_there, same-lock, shown-locked, shown-held, unlocked-in_no_hand, known-list, no_list-known, contents-beside, list-taken, list-put}
use Rattle.shared_rule.proofs.Lemmas.Events.ListSteps.{locking-noted, unlocking-noted}

-- A lock's word either lets a session have the lock in a mode, or shows somebody in the way, who has it.
free-or : (mode : LwMode) (shown : ℕ) → IsFreeFor mode shown ⊎ (IsFreeFor mode shown → ⊥)
free-or Exclusive shown = cases_eq (shown % 2 ^ 25) 0
free-or Shared shown = cases_eq (shown / 2 ^ 24 % 2) 0

nobody-there : (shown : ℕ) → shown % 2 ^ 25 ≡ 0 → shown / 2 ^ 24 % 2 ≡ 0
nobody-there shown nobody = omega (arith, nobody)

in-the-way : (mode : LwMode) (shown : ℕ) → (IsFreeFor mode shown → ⊥) → IsHeldByNobody shown → ⊥
in-the-way Exclusive shown held nobody = held nobody
in-the-way Shared shown held nobody = held (nobody-there shown nobody)

module _ {T : Type 0} (content : T → Content) (begun : T → Option Request) (sizes : TableSizes) (slots id : ℕ) (me : Side T) (x : History T) (others : List (History T)) (is : me.0.sessions ≡ x ∷ others)
    (lock : LwLock) (there : LockExists sizes.sessions lock) where
  abbrev at_word : ℕ
  at_word = index_of_word sizes.sessions (word_of_lock lock)

  -- The fetch-or takes the list in hand where it finds its bit not set.
  locks_list : MayLockListBy (told content x.number x.marks) → NoneOr (todo_told_by x.number x.marks).due (lock_number lock)
      → TellsNobodyBy (told content x.number x.marks)
      → AllowsStep content begun sizes slots id me at_word (λ n. bit_or n (2 ^ 28)) (LockedListOr content sizes.sessions (step slots at_word (2 ^ 28) 0 none) me)
  locks_list may fits nobody s r many at_view below = elim (cases_eq (n / 2 ^ 28 % 2) 0) [
    | inl unlocked ↦
        let w : World = r.world in
        let steps = ruled-steps content begun sizes s r id me.0 x others at_view is in
        let shown : word_in w.words (word_of_lock lock) ≡ n = sym (r.shown.of_words.word (word_of_lock lock) (lock-word_there sizes lock there)) in
        let free : word_in w.words (word_of_lock lock) / 2 ^ 28 % 2 ≡ 0 = ap (λ k. k / 2 ^ 28 % 2) shown ∙ unlocked in
        let home = r.shown.of_lists (lock_number lock) (lock-below sizes.sessions lock there) (unlocked-in_no_hand w r.safe lock free) in
        let changes = locking-noted content sizes x lock w steps there may free fits nobody home.list.value.waiters home.is_list in
        let none_had : w.sessions.has_list x.number ≡ None = no_list-known (w.sessions.has_list x.number) w.words.list
        (ap (λ (b : Account). b.lists.in_hand) (sym steps.account) ∙ may.no_list) in (
          noting me.0 (mark.LockedList (lock_number lock) home.list.value.waiters),
          takes (list_shelf_of (lock_number lock)) (kept.List home.list),
          home.at_home,
          ruled-noted content begun sizes s r id me.0 x others at_view is (mark.LockedList (lock_number lock) home.list.value.waiters)
              (set_word w.words (word_of_lock lock) (list_locked_word (word_in w.words (word_of_lock lock)))) (slice_set s.words at_word (bit_or n (2 ^ 28)))
              (slice_set s.homes (list_shelf_of (lock_number lock)) none) changes.noted
              (subst (λ k. WordsAreShown sizes (slice_set s.words at_word (list_locked_word k)) (set_word w.words (word_of_lock lock) (list_locked_word (word_in w.words (word_of_lock lock))))) shown
              (words-set sizes r.shown.some_groups s.words w.words (word_of_lock lock) (list_locked_word (word_in w.words (word_of_lock lock))) r.shown.of_words (lock-word_there sizes lock there)))
              (subst (ContentsAreHome content begun (slice_set s.homes (list_shelf_of (lock_number lock)) none)) (sym changes.contents)
              (contents-beside content begun s.homes (lock_number lock) none w.contents r.shown.of_contents))
              (subst (λ has. ListsAreHome sizes.sessions (slice_set s.homes (list_shelf_of (lock_number lock)) none) has changes.noted.after.words.list) (sym changes.has_list)
              (subst (ListsAreHome sizes.sessions (slice_set s.homes (list_shelf_of (lock_number lock)) none) (set_at w.sessions.has_list x.number (Some (lock_number lock)))) (sym changes.list)
              (list-taken sizes.sessions s.homes w.sessions.has_list w.words.list (lock_number lock) x.number none_had r.shown.of_lists))),
          (
            (λ _ other also same.
                let one : lock ≡ other = same-lock sizes.sessions sizes.sessions lock other there also same in
                subst (λ l. TookList content sizes.sessions l me (noting me.0 (mark.LockedList (lock_number lock) home.list.value.waiters), (list_shelf_of (lock_number lock), kept.List home.list) ∷ me.1)) one (record {
                  list = home.list;
                  side = refl;
                  room = home.has_room;
                  stands = λ stood.
                      let stood' : stands_in x.number (w.words.list (lock_number lock)) ≡ true =
                      ap (λ ws. stands_in x.number ws) (sym home.is_list) ∙ ap (λ (sessions : List (History T)). stands_in (first_number sessions) home.list.value.waiters) (sym is) ∙ stood in
                      ap (λ (sessions : List (History T)). (first_account content sessions).lists.stands) is
                      ∙ ap (λ (b : Account). b.lists.stands) steps.account
                      ∙ r.safe.lists.sleepers.named (lock_number lock) x.number stood';
                  exist = subst (λ n. WaitersExist n home.list.value.waiters) r.is_limit (listed-below w r.safe (lock_number lock) home.list.value.waiters home.is_list);
                })),
            (λ locked. absurd (locked unlocked)),
          ),
        )
    | inr locked ↦ (
      noting me.0 (mark.SawListLocked (lock_number lock)),
      keeps,
      tt,
      subst (λ k. RuledNext content begun sizes r.events me.0 (noting me.0 (mark.SawListLocked (lock_number lock))) (record { words = slice_set s.words at_word k; homes = s.homes; views = slice_set s.views id (noting me.0 (mark.SawListLocked (lock_number lock))) })) (sym (or-locked n locked))
          (looks-only content begun sizes id at_word me.0 x others is s r at_view (mark.SawListLocked (lock_number lock))
          (sees_list_locked (lock_number lock) refl (shown-locked r.world lock n (sym (r.shown.of_words.word (word_of_lock lock) (lock-word_there sizes lock there))) locked) fits)),
      (
        (λ unlocked. absurd (locked unlocked)),
        (λ _ other also same.
            let one : lock ≡ other = same-lock sizes.sessions sizes.sessions lock other there also same in
            λ i. (noting me.0 (mark.SawListLocked (lock_number (one i))), me.1)),
      ),
    )
  ] where
    n : ℕ
    n = slice_index s.words at_word

  -- The fetch-and puts the list home that came last.
  unlocks_list :
      (has_waiters release_ok : Bool) (list : Box Waiting) → list.value.room ≡ sizes.sessions → slots ≡ shelves_of sizes.sessions
      → (told content x.number x.marks).lists.in_hand ≡ Some (record { lock = lock_number lock; waiters = list.value.waiters })
      → me.1 ≡ (list_shelf_of (lock_number lock), kept.List list) ∷ rest me.1 → (has_waiters ≡ false → list.value.waiters ≡ [])
      → (release_ok ≡ false → (other : ℕ) × ((told content x.number x.marks).lists.off other ≡ true))
      → IsLeftWellBy (told content x.number x.marks) (todo_told_by x.number x.marks) lock list.value.waiters → (step : Step (Kept T))
      → AllowsStep content begun sizes slots id me at_word (λ n. bit_and n (kept_bits has_waiters release_ok)) (WentHome (λ _. mark.UnlockedList) step me)
  unlocks_list has_waiters release_ok list room sized known carried waiters_stay release_stays well step s r many at_view below =
      let w : World = r.world in
      let n : ℕ = slice_index s.words at_word in
      let number : ℕ = lock_number lock in
      let steps = ruled-steps content begun sizes s r id me.0 x others at_view is in
      let shown : word_in w.words (word_of_lock lock) ≡ n = sym (r.shown.of_words.word (word_of_lock lock) (lock-word_there sizes lock there)) in
      let mine : ListInHand = record { lock = number; waiters = list.value.waiters } in
      let known' : (account w x.number).lists.in_hand ≡ Some mine = ap (λ (b : Account). b.lists.in_hand) (sym steps.account) ∙ known in
      let its = known-list (w.sessions.has_list x.number) w.words.list mine known' in
      let has = has_list-lawful w steps.safe x.number steps.makes mine known' in
      let changes = unlocking-noted content sizes x lock has_waiters release_ok w steps has list.value.waiters its.1 waiters_stay release_stays well in
      let homes : List (maybe.Option (Kept T)) = slice_set s.homes (list_shelf_of number) (some (kept.List list)) in
      let back : put_back s.homes me.1 ≡ homes = ap (put_back s.homes) carried in (
        noting me.0 mark.UnlockedList,
        gives,
        tt,
        ruled-noted content begun sizes s r id me.0 x others at_view is mark.UnlockedList
            (set_word w.words (word_of_lock lock) (list_unlocked_word (word_in w.words (word_of_lock lock)) has_waiters release_ok)) (slice_set s.words at_word (bit_and n (kept_bits has_waiters release_ok)))
            (put_back s.homes me.1) changes.noted
            (subst (λ k. WordsAreShown sizes (slice_set s.words at_word (list_unlocked_word k has_waiters release_ok))
            (set_word w.words (word_of_lock lock) (list_unlocked_word (word_in w.words (word_of_lock lock)) has_waiters release_ok))) shown
            (words-set sizes r.shown.some_groups s.words w.words (word_of_lock lock) (list_unlocked_word (word_in w.words (word_of_lock lock)) has_waiters release_ok) r.shown.of_words (lock-word_there sizes lock there)))
            (subst (λ (h : List (maybe.Option (Kept T))). ContentsAreHome content begun h changes.noted.after.contents) (sym back)
            (subst (ContentsAreHome content begun homes) (sym changes.contents) (contents-beside content begun s.homes number (some (kept.List list)) w.contents r.shown.of_contents)))
            (subst (λ (h : List (maybe.Option (Kept T))). ListsAreHome sizes.sessions h changes.noted.after.sessions.has_list changes.noted.after.words.list) (sym back)
            (subst (λ had. ListsAreHome sizes.sessions homes had changes.noted.after.words.list) (sym changes.has_list)
            (subst (ListsAreHome sizes.sessions homes (set_at w.sessions.has_list x.number None)) (sym changes.list)
            (list-put sizes.sessions s.homes w.sessions.has_list w.words.list number x.number list (many ∙ sized) (lock-below sizes.sessions lock there) its.0 (sym its.1) room r.shown.of_lists)))),
        refl,
      )

  -- What is lawful of a lightweight word is so of the word at its index.
  pub locks_list_at : MayLockListBy (told content x.number x.marks) → NoneOr (todo_told_by x.number x.marks).due (lock_number lock)
      → TellsNobodyBy (told content x.number x.marks) → (known : ℕ) → known ≡ sizes.sessions → (i : ℕ) → i ≡ at_word
      → AllowsStep content begun sizes slots id me i (λ n. bit_or n (2 ^ 28)) (LockedListOr content known (step slots i (2 ^ 28) 0 none) me)
  locks_list_at may fits nobody known same i at =
      subst (λ j. AllowsStep content begun sizes slots id me i (λ n. bit_or n (2 ^ 28)) (LockedListOr content j (step slots i (2 ^ 28) 0 none) me)) (sym same)
      (subst (λ k. AllowsStep content begun sizes slots id me k (λ n. bit_or n (2 ^ 28)) (LockedListOr content sizes.sessions (step slots k (2 ^ 28) 0 none) me)) (sym at) (locks_list may fits nobody))

  pub unlocks_list_at :
      (has_waiters release_ok : Bool) (list : Box Waiting) → list.value.room ≡ sizes.sessions → slots ≡ shelves_of sizes.sessions
      → (told content x.number x.marks).lists.in_hand ≡ Some (record { lock = lock_number lock; waiters = list.value.waiters })
      → me.1 ≡ (list_shelf_of (lock_number lock), kept.List list) ∷ rest me.1 → (has_waiters ≡ false → list.value.waiters ≡ [])
      → (release_ok ≡ false → (other : ℕ) × ((told content x.number x.marks).lists.off other ≡ true))
      → IsLeftWellBy (told content x.number x.marks) (todo_told_by x.number x.marks) lock list.value.waiters → (i : ℕ) → i ≡ at_word → (mask : ℕ) → mask ≡ kept_bits has_waiters release_ok
      → (mark' : ℕ → Mark T) → mark' ≡ (λ _. mark.UnlockedList)
      → AllowsStep content begun sizes slots id me i (λ n. bit_and n mask) (WentHome mark' (step slots i mask 0 none) me)
  unlocks_list_at has_waiters release_ok list room sized known carried waiters_stay release_stays well i at mask is_mask mark' marked =
      subst (λ k. AllowsStep content begun sizes slots id me i (λ n. bit_and n k) (WentHome mark' (step slots i k 0 none) me)) (sym is_mask)
      (subst (λ k. AllowsStep content begun sizes slots id me k (λ n. bit_and n (kept_bits has_waiters release_ok)) (WentHome mark' (step slots k (kept_bits has_waiters release_ok) 0 none) me)) (sym at)
      (subst (λ (m : ℕ → Mark T). AllowsStep content begun sizes slots id me at_word (λ n. bit_and n (kept_bits has_waiters release_ok)) (WentHome m (step slots at_word (kept_bits has_waiters release_ok) 0 none) me)) (sym marked)
      (unlocks_list has_waiters release_ok list room sized known carried waiters_stay release_stays well (step slots at_word (kept_bits has_waiters release_ok) 0 none))))

  -- A load sees whether somebody is in the way.
  sees_it_held : (mode : LwMode) → NoneOr (todo_told_by x.number x.marks).tries (lock_number lock) → (its : Step (Kept T)) → its.word ≡ at_word → AllowsStep content begun sizes slots id me at_word (λ n. n) (SawHeldOr mode its me)
  sees_it_held mode fits its word s r many at_view below = elim (free-or mode n) [
    | inl free ↦ (
      me.0,
      keeps,
      tt,
      nothing-changes content begun sizes id at_word me.0 s r at_view,
      ((λ _. refl), λ held. absurd (held free)),
    )
    | inr held ↦ (
      noting me.0 (mark.SawHeld (lock_number lock) n),
      keeps,
      tt,
      looks-only content begun sizes id at_word me.0 x others is s r at_view (mark.SawHeld (lock_number lock) n)
          (sees_held (lock_number lock) n refl (shown-held r.world lock n (sym (r.shown.of_words.word (word_of_lock lock) (lock-word_there sizes lock there))) (in-the-way mode n held)) fits),
      (
        (λ free. absurd (held free)),
        (λ _ sessions other also same.
            let one : lock ≡ other = same-lock sizes.sessions sessions lock other there also (sym word ∙ same) in
            λ i. (noting me.0 (mark.SawHeld (lock_number (one i)) n), me.1)),
      ),
    )
  ] where
    n : ℕ
    n = slice_index s.words at_word

  pub sees_held_at : (mode : LwMode) → NoneOr (todo_told_by x.number x.marks).tries (lock_number lock) → (i : ℕ) → i ≡ at_word → AllowsStep content begun sizes slots id me i (λ n. n) (SawHeldOr mode (step slots i 0 0 none) me)
  sees_held_at mode fits i at =
      subst (λ k. AllowsStep content begun sizes slots id me k (λ n. n) (SawHeldOr mode (step slots k 0 0 none) me)) (sym at) (sees_it_held mode fits (step slots at_word 0 0 none) refl)
