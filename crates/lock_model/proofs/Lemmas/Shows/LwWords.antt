use Rattle.std.proofs.Common.{◌≡◌, ◌↔◌, ℕ, ◌+◌, ◌-◌, ◌/◌, ◌%◌, ◌^◌, ◌<◌, ◌≤◌, Bool, true, false, ◌&&◌, nat_eq, refl, sym, ap, ◌∙◌, subst, arith}
use Rattle.std.proofs.lemmas.Bool.{eqb-false, ne_eqb}
use Rattle.lw_word.specs.declared.words.LwMode.{LwMode}
use Rattle.lw_word.specs.declared.words.LwMode.TheVariants.{Exclusive, Shared}
use Rattle.lw_word.specs.LightweightWord.{IsHeldByNobody, IsFreeToShare, free_word, list_locked_word, list_unlocked_word, release_ok_word, has_waiters_word, kept_bits}
use Rattle.lw_word.specs.LockState.{LockState, opening_state, word_of, state_of, amount_of, IsFreeFor, HasRoomFor, IsHeldIn, taken_in, put_in}
use Rattle.lw_word.specs.Packing.{word_of-state_of}
use Rattle.lw_word.proofs.Lemmas.Words.{holders-shared, holders-exclusive}
use Rattle.lw_word.proofs.Lemmas.Flags.{list_unlocked_word-list_locked, list_unlocked_word-holders, list_unlocked_word-release_ok, list_unlocked_word-not_release_ok, list_unlocked_word-has_waiters, list_unlocked_word-no_waiters, IsLightweightWord-list_locked, IsLightweightWord-release_ok, IsLightweightWord-has_waiters, IsLightweightWord-and}
use Rattle.lw_word.proofs.Lemmas.States.{IsFreeFor-exclusive, IsFreeFor-shared, bit_is_set, state_of-taken, state_of-put, IsLightweightWord-taken, IsLightweightWord-put, state_of-list_locked, state_of-release_ok, state_of-has_waiters}
use Rattle.lock_table.specs.Total.{how_many}
use Rattle.lock_world.specs.Safe.{ShowsHolders}
use Rattle.lock_table.proofs.Lemmas.Totals.{some_pass, how_many-most}
use Rattle.lock_model.specs.Shows.{ShowsLock}
use Rattle.lock_model.specs.ListWords.{unlocked_in}

-- The words of lightweight locks, which the machine keeps by what they say and the World by their numbers.

pub opening-word_shown : ShowsLock opening_state free_word
opening-word_shown = record { says = refl; is_word = record { below = omega arith; none_between = refl } }

-- What the World's word shows of who holds it.
module _ (limit word : ℕ) (holds shares : ℕ → Bool) (shown : ShowsHolders limit word holds shares) where
  pub holder_shown : (s : ℕ) → holds s ≡ true → IsHeldIn Exclusive (state_of word)
  holder_shown s its = (bit_is_set (word / 2 ^ 24 % 2)).1 (shown.held_is_shown s its)

  pub sharer_shown : (s : ℕ) → shares s ≡ true → IsHeldIn Shared (state_of word)
  sharer_shown s its = subst (λ n. 0 < n) (sym shown.shared) (some_pass limit shares s (shown.within s its) its)

  pub sharers_shown : limit ≡ 64 → (state_of word).shared ≤ 64
  sharers_shown sixty_four = let most : how_many limit shares ≤ limit = how_many-most limit shares in omega (arith, shown.shared, most, sixty_four)

-- What unlocking a wait list makes of what a word says.
state_of-list_unlocked : (word : ℕ) (waiters release : Bool)
    → state_of (list_unlocked_word word waiters release) ≡ unlocked_in (state_of word) waiters release
state_of-list_unlocked word waiters release = λ i. record {
  shared = holders-shared word (list_unlocked_word word waiters release) (list_unlocked_word-holders word waiters release) i;
  exclusive = nat_eq (holders-exclusive word (list_unlocked_word word waiters release) (list_unlocked_word-holders word waiters release) i) 1;
  list_locked = nat_eq (list_unlocked_word-list_locked word waiters release i) 1;
  release_ok = its_release waiters release i;
  has_waiters = its_waiters waiters release i;
} where
  its_release : (w r : Bool) → nat_eq (list_unlocked_word word w r / 2 ^ 29 % 2) 1 ≡ (r && nat_eq (word / 2 ^ 29 % 2) 1)
  its_release w true = ap (λ n. nat_eq n 1) (list_unlocked_word-release_ok word w)
  its_release w false = ap (λ n. nat_eq n 1) (list_unlocked_word-not_release_ok word w)

  its_waiters : (w r : Bool) → nat_eq (list_unlocked_word word w r / 2 ^ 30 % 2) 1 ≡ (w && nat_eq (word / 2 ^ 30 % 2) 1)
  its_waiters true r = ap (λ n. nat_eq n 1) (list_unlocked_word-has_waiters word r)
  its_waiters false r = ap (λ n. nat_eq n 1) (list_unlocked_word-no_waiters word r)

-- The word that a step has made of another.
pub made_shown : {number : ℕ} (word after : LockState) → word ≡ after → ShowsLock after number → ShowsLock word number
made_shown {number} word after is says = subst (λ state. ShowsLock state number) (sym is) says

-- What the machine's word says, and what each step makes of both.
module _ (shown : LockState) (word : ℕ) (is : ShowsLock shown word) where
  pub number_shown : word_of shown ≡ word
  number_shown = ap word_of is.says ∙ word_of-state_of word is.is_word

  pub free_shown : IsFreeFor Exclusive shown ↔ IsHeldByNobody word
  free_shown = subst (λ state. IsFreeFor Exclusive state ↔ IsHeldByNobody word) (sym is.says) (IsFreeFor-exclusive word)

  pub free_to_share_shown : IsFreeFor Shared shown ↔ IsFreeToShare word
  free_to_share_shown = subst (λ state. IsFreeFor Shared state ↔ IsFreeToShare word) (sym is.says) (IsFreeFor-shared word)

  pub list_free_shown : (shown.list_locked ≡ false) ↔ (word / 2 ^ 28 % 2 ≡ 0)
  list_free_shown = subst (λ (state : LockState). (state.list_locked ≡ false) ↔ (word / 2 ^ 28 % 2 ≡ 0)) (sym is.says) (
    λ e. let other = eqb-false (word / 2 ^ 28 % 2) 1 e in omega (arith, other),
    λ e. ne_eqb (word / 2 ^ 28 % 2) 1 (λ one. absurd (omega (arith, e, one))),
  )

  pub taken_shown : (mode : LwMode) → HasRoomFor mode shown → IsFreeFor mode shown → ShowsLock (taken_in mode shown) (word + amount_of mode)
  taken_shown mode room free =
      let has_room = subst (HasRoomFor mode) is.says room in
      let is_free = subst (IsFreeFor mode) is.says free in
      record {
        says = ap (taken_in mode) is.says ∙ sym (state_of-taken mode word has_room is_free);
        is_word = IsLightweightWord-taken mode word has_room is_free is.is_word;
      }

  pub put_shown : (mode : LwMode) → IsHeldIn mode (state_of word) → ShowsLock (put_in mode shown) (word - amount_of mode)
  put_shown mode held = record {
    says = ap (put_in mode) is.says ∙ sym (state_of-put mode word held);
    is_word = IsLightweightWord-put mode word held is.is_word;
  }

  pub list_locked_shown : ShowsLock (record shown { list_locked = true }) (list_locked_word word)
  list_locked_shown = record {
    says = ap (λ (state : LockState). record state { list_locked = true }) is.says ∙ sym (state_of-list_locked word);
    is_word = IsLightweightWord-list_locked word is.is_word;
  }

  pub list_unlocked_shown : (waiters release : Bool) → ShowsLock (unlocked_in shown waiters release) (list_unlocked_word word waiters release)
  list_unlocked_shown waiters release = record {
    says = ap (λ state. unlocked_in state waiters release) is.says ∙ sym (state_of-list_unlocked word waiters release);
    is_word = IsLightweightWord-and word (kept_bits waiters release) is.is_word;
  }

  pub release_ok_shown : ShowsLock (record shown { release_ok = true }) (release_ok_word word)
  release_ok_shown = record {
    says = ap (λ (state : LockState). record state { release_ok = true }) is.says ∙ sym (state_of-release_ok word);
    is_word = IsLightweightWord-release_ok word is.is_word;
  }

  pub has_waiters_shown : ShowsLock (record shown { has_waiters = true }) (has_waiters_word word)
  has_waiters_shown = record {
    says = ap (λ (state : LockState). record state { has_waiters = true }) is.says ∙ sym (state_of-has_waiters word);
    is_word = IsLightweightWord-has_waiters word is.is_word;
  }
