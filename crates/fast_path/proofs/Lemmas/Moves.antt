use Rattle.std.proofs.Common.{◌≡◌, ℕ, ◌+◌, ◌<◌, ◌≤◌, Bool, true, false, not, ◌&&◌, ◌||◌, nat_eq, Some}
use Rattle.std.proofs.Common.{None, refl, sym, ap, ◌∙◌, subst, inl, inr, arith}
use Rattle.std.specs.Prelude.{nat_lt, ◌==◌, if◌then◌else◌}
use Rattle.std.proofs.lemmas.Bool.{cases_eq, false≢true, false_from_ne_true, and_parts}
use Rattle.std.proofs.lemmas.Bool.{and_from, eqb-true, eq-eqb, ne_eqb}
use Rattle.std.proofs.lemmas.Option.{same_Some}
use Rattle.modes_core.specs.declared.modes.Mode.{Mode}
use Rattle.modes_core.specs.declared.tags.Tag.{Tag}
use Rattle.modes_core.specs.Mode.{number_of, mode_eq}
use Rattle.modes_core.specs.Tag.{tag_eq, partition_of, is_strong_on}
use Rattle.modes_core.proofs.Lemmas.Conflicts.{tag_eq-refl, tag_eq-same, number_of-same}
use Rattle.lw_word.specs.SlotWord.{relation_in, has_mode, shows, word_without}
use Rattle.lw_word.proofs.Lemmas.Slots.{shows-word_without}
use Rattle.lock_table.specs.declared.moves.Move.TheVariants.{Adopt}
use Rattle.lock_table.specs.Content.{Content, add_hold}
use Rattle.lock_table.specs.Put.{put, set_at}
use Rattle.lock_table.specs.Queue.{awaits_mode}
use Rattle.lock_table.proofs.Lemmas.Put.{put_here, set_at-here, set_at-same, set_at-twice}
use Rattle.lock_table.proofs.Lemmas.Holds.{IsTheHold, here, elsewhere, set_hold-at}
use Rattle.lock_world.specs.SlotHolds.{relation_of}
use Rattle.lock_world.specs.Counted.{is_at}
use Rattle.lock_world.specs.Account.{Account, InHand, SlotsInHand}
use Rattle.lock_world.specs.AccountSteps.{account_transferring, own_with, hand_recording}
use Rattle.lock_world.specs.AccountLaw.{MayTransferBy}
use Rattle.shared_rule.specs.History.{slots_here, in_hand}
use Rattle.fast_path.specs.Transfers.{adopting}
use Rattle.fast_path.specs.Turns.{HasSlotsAndPart, MovesBelow, MovesSome, hand_moving}
use Rattle.fast_path.proofs.Lemmas.Shows.{none_below_one, below-next, not_below, below-itself, held-shown, ShowsFrom}
use Rattle.fast_path.proofs.Lemmas.Shows.{left-shows, left-was, left-not}

-- Moving the modes of a slot into the content in hand, one per step.

-- ---- the content

-- Nothing is adopted below 1,
pub adopting-none : (content : Content) (owner : ℕ) (tag : Tag) (word : ℕ) → adopting content owner tag word 1 ≡ content
adopting-none content owner tag word = λ i. record { holds = λ s o n. at s o n i; waits = content.waits } where
  drop : (a b c d e : Bool) → e ≡ false → (a || b && (c && (d && e))) ≡ a
  drop true b c d e none = refl
  drop false false c d e none = refl
  drop false true false d e none = refl
  drop false true true false e none = refl
  drop false true true true e none = none

  at : (s : ℕ) (o : Tag) (n : Mode) → (adopting content owner tag word 1).holds s o n ≡ content.holds s o n
  at s o n = drop (content.holds s o n) (s == owner) (tag_eq o tag) (has_mode word n) (nat_lt (number_of n) 1)
      (none_below_one n)

-- and of the mode of the next number nothing yet.
pub adopting-not_yet :
    (content : Content) (owner : ℕ) (tag : Tag) (word below session : ℕ) (object : Tag) (mode : Mode)
    → number_of mode ≡ below
    → (adopting content owner tag word below).holds session object mode ≡ content.holds session object mode
adopting-not_yet content owner tag word below session object mode next =
    drop (content.holds session object mode) (session == owner) (tag_eq object tag) (has_mode word mode)
    (nat_lt (number_of mode) below)
    (ap (nat_lt (number_of mode)) (sym next) ∙ not_below (number_of mode)) where
      drop : (a b c d e : Bool) → e ≡ false → (a || b && (c && (d && e))) ≡ a
      drop true b c d e none = refl
      drop false false c d e none = refl
      drop false true false d e none = refl
      drop false true true false e none = refl
      drop false true true true e none = none

-- A mode that the word hasn't adds nothing,
pub adopting-skips :
    (content : Content) (owner : ℕ) (tag : Tag) (word below : ℕ) (mode : Mode) → number_of mode ≡ below
    → has_mode word mode ≡ false
    → adopting content owner tag word (below + 1) ≡ adopting content owner tag word below
adopting-skips content owner tag word below mode next hidden = λ i.
    record {
      holds = λ s o n. content.holds s o n || (s == owner) && (tag_eq o tag && at n i);
      waits =
          content.waits;
    } where
      at : (n : Mode) → (has_mode word n && nat_lt (number_of n) (below + 1))
          ≡ (has_mode word n && nat_lt (number_of n) below)
      at n =
          elim (cases_eq (number_of n) below) [
            | inl same ↦
                let none : has_mode word n ≡ false = ap (has_mode word) (number_of-same n mode (same ∙ sym next))
                ∙ hidden in
                ap (λ b. b && nat_lt (number_of n) (below + 1)) none ∙ sym (ap (λ b. b && nat_lt (number_of n) below) none)
            | inr other ↦ ap (λ b. has_mode word n && b) (below-next (number_of n) below other)
          ]

-- and one that it has adds its hold.
pub adopting-next :
    (content : Content) (owner : ℕ) (tag : Tag) (word below : ℕ) (mode : Mode) → number_of mode ≡ below
    → has_mode word mode ≡ true
    → add_hold (adopting content owner tag word below) owner tag mode ≡ adopting content owner tag word (below + 1)
adopting-next content owner tag word below mode next shown = λ i.
    record { holds = λ s o n. at s o n i; waits = content.waits } where
      all : (a b c d e : Bool) → b ≡ true → c ≡ true → d ≡ true → e ≡ true → (a || b && (c && (d && e))) ≡ true
      all true b c d e b_is c_is d_is e_is = refl
      all false b c d e b_is c_is d_is e_is = and_from b (c && (d && e)) b_is
          (and_from c (d && e) c_is (and_from d e d_is e_is))

      now_there : (s : ℕ) (o : Tag) (n : Mode) → IsTheHold owner tag mode s o n
          → (adopting content owner tag word (below + 1)).holds s o n ≡ true
      now_there s o n it =
          all (content.holds s o n) (s == owner) (tag_eq o tag) (has_mode word n) (nat_lt (number_of n) (below + 1))
          (eq-eqb s owner it.session) (ap (λ t. tag_eq t tag) it.tag ∙ tag_eq-refl tag) (ap (has_mode word) it.mode ∙ shown)
          (ap (λ k. nat_lt k (below + 1)) (ap number_of it.mode ∙ next) ∙ below-itself below)

      another : (b c d e f : Bool) → (b && c) ≡ false → (b && (c && (d && e))) ≡ (b && (c && (d && f)))
      another false c d e f not_both = refl
      another true false d e f not_both = refl
      another true true d e f not_both = absurd (false≢true (sym not_both))

      as_before : (s : ℕ) (o : Tag) (n : Mode) → (IsTheHold owner tag mode s o n → ⊥)
          → (adopting content owner tag word below).holds s o n ≡ (adopting content owner tag word (below + 1)).holds s o n
      as_before s o n not_it =
          elim (cases_eq (number_of n) below) [
            | inr other ↦ ap (λ b. content.holds s o n || (s == owner) && (tag_eq o tag && (has_mode word n && b)))
                (sym (below-next (number_of n) below other))
            | inl same ↦
                ap (λ b. content.holds s o n || b)
                (another (s == owner) (tag_eq o tag) (has_mode word n) (nat_lt (number_of n) below)
                (nat_lt (number_of n) (below + 1))
                (false_from_ne_true ((s == owner) && tag_eq o tag) (λ both.
                let parts = and_parts (s == owner) (tag_eq o tag) both in
                not_it (record {
                  session = eqb-true s owner parts.0;
                  tag = tag_eq-same o tag parts.1;
                  mode =
                      number_of-same n mode (same ∙ sym next);
                }))))
          ]

      at : (s : ℕ) (o : Tag) (n : Mode) → (add_hold (adopting content owner tag word below) owner tag mode).holds s o n
          ≡ (adopting content owner tag word (below + 1)).holds s o n
      at s o n =
          elim (set_hold-at (adopting content owner tag word below).holds owner tag mode true s o n) [
            | here it is ↦ is ∙ sym (now_there s o n it)
            | elsewhere not_it is ↦ is ∙ as_before s o n not_it
          ]

-- ---- the slots

-- Clearing a mode takes its hold out of those of the object.
holds-clear :
    (holds : Tag → Mode → Bool) (tag : Tag) (mode its : Mode)
    → own_with holds tag mode false tag its ≡ (not (mode_eq its mode) && holds tag its)
holds-clear holds tag mode its =
    ap (λ row. row its) (put_here tag_eq holds tag (put mode_eq (holds tag) mode false) tag (tag_eq-refl tag))
    ∙ at (mode_eq its mode) where
      at : (b : Bool) → (if b then false else holds tag its) ≡ (not b && holds tag its)
      at true = refl
      at false = refl

-- One more mode is gone, of those from a number on.
gone-next :
    (n m : Mode) (below : ℕ) (b : Bool) → number_of m ≡ below
    → (not (mode_eq n m) && (not (nat_lt (number_of n) below) && b)) ≡ (not (nat_lt (number_of n) (below + 1)) && b)
gone-next n m below b next =
    elim (cases_eq (number_of n) below) [
      | inl same ↦
          ap (λ e. not e && (not (nat_lt (number_of n) below) && b))
          (eq-eqb (number_of n) (number_of m) (same ∙ sym next))
          ∙ sym (ap (λ e. not e && b) (ap (λ k. nat_lt k (below + 1)) same ∙ below-itself below))
      | inr other ↦
          ap (λ e. not e && (not (nat_lt (number_of n) below) && b))
          (ne_eqb (number_of n) (number_of m) (λ same. other (same ∙ next)))
          ∙ ap (λ e. not e && b) (sym (below-next (number_of n) below other))
    ]

-- Where the mode of the next number isn't there anyway none more is gone.
gone-skips :
    (n m : Mode) (below : ℕ) (b : Mode → Bool) → number_of m ≡ below → b m ≡ false
    → (not (nat_lt (number_of n) below) && b n) ≡ (not (nat_lt (number_of n) (below + 1)) && b n)
gone-skips n m below b next none =
    elim (cases_eq (number_of n) below) [
      | inl same ↦
          let gone : b n ≡ false = ap b (number_of-same n m (same ∙ sym next)) ∙ none in
          ap (λ e. not (nat_lt (number_of n) below) && e) gone
          ∙ both (not (nat_lt (number_of n) below)) (not (nat_lt (number_of n) (below + 1)))
          ∙ sym (ap (λ e. not (nat_lt (number_of n) (below + 1)) && e) gone)
      | inr other ↦ ap (λ e. not e && b n) (sym (below-next (number_of n) below other))
    ] where
      both : (x y : Bool) → (x && false) ≡ (y && false)
      both true true = refl
      both true false = refl
      both false true = refl
      both false false = refl

-- ---- a turn of the loop

-- How far the loop over the modes has come: those below this number are moved, and the slot shows the word
-- that is left.
pub record IsMoving (a : Account) (owner slot word : ℕ) (tag : Tag) (taken : Content) (below left : ℕ)
    (now : Content) (b : Account) : Type 0 where
  pub moves : MovesBelow a owner slot word tag taken below now b
  pub is_left : left ≡ moves.rest.word slot
  pub still : ShowsFrom below word left

-- Other names for what it came to.
pub moving-same :
    (a : Account) (owner slot word : ℕ) (tag : Tag) (taken : Content) (below left left_too : ℕ)
    (now now_too : Content) (b b_too : Account)
    → left_too ≡ left → now_too ≡ now → b_too ≡ b
    → IsMoving a owner slot word tag taken below left now b
    → IsMoving a owner slot word tag taken below left_too now_too b_too
moving-same a owner slot word tag taken below left left_too now now_too b b_too same_left same_now same so_far =
    subst (λ x. IsMoving a owner slot word tag taken below left_too now_too x) (sym same)
    (subst (λ x. IsMoving a owner slot word tag taken below left_too x b) (sym same_now)
    (subst (λ x. IsMoving a owner slot word tag taken below x now b) (sym same_left) so_far))

module _ (a : Account) (owner slot word : ℕ) (tag : Tag) (taken : Content)
    (has : HasSlotsAndPart a owner slot word tag taken) where
  -- A move of a slot begins with nothing moved,
  pub moving-begun : IsMoving a owner slot word tag taken 1 word taken a
  moving-begun = record {
    moves = record {
      rest = has.slots;
      without = λ slots is mode.
          ap (λ (its : SlotsInHand). its.holds tag mode) (same_Some has.slots slots (sym has.in_hand ∙ is))
          ∙ sym (ap (λ b. not b && slots.holds tag mode) (none_below_one mode));
      content = sym (adopting-none taken owner tag word);
      recorded = None;
      adopt = tt;
      account = sym (λ i. record a {
        fast = record (a.fast) { slots = set_at-same a.fast.slots owner (Some has.slots) (sym has.in_hand) i };
        hand = set_at-same a.hand (partition_of tag) (Some (hand_moving taken taken None)) (sym has.part_in_hand) i;
      });
    };
    is_left = has.has.is_word;
    still = λ relation mode. sym (ap (λ b. not b && shows word relation mode) (none_below_one mode));
  }

  module _ (below left : ℕ) (now : Content) (b : Account) (mode strong : Mode)
      (strong_is : is_strong_on tag strong ≡ true) (next : number_of mode ≡ below) (weak : below ≤ 3)
      (so_far : IsMoving a owner slot word tag taken below left now b) where
    -- goes past a mode that the slot hasn't,
    pub moving-skips : has_mode left mode ≡ false → IsMoving a owner slot word tag taken (below + 1) left now b
    moving-skips hidden =
        let moves = so_far.moves in
        let none : has_mode word mode ≡ false = left-not below word left
        (relation_of tag) mode has.has.its so_far.still next hidden in
        record {
          moves = record {
            rest = moves.rest;
            without = λ slots is n.
                moves.without slots is n
                ∙ gone-skips n mode below (slots.holds tag) next
                (ap (λ (its : SlotsInHand). its.holds tag mode) (same_Some slots has.slots (sym is ∙ has.in_hand))
                ∙ held-shown has.slots slot word tag mode strong has.has strong_is (omega (arith, next, weak)) ∙ none);
            content = moves.content ∙ sym (adopting-skips taken owner tag word below mode next none);
            recorded = moves.recorded;
            adopt = moves.adopt;
            account = moves.account;
          };
          is_left = so_far.is_left;
          still = λ relation n.
              so_far.still relation n
              ∙ gone-skips n mode below (shows word relation) next
              (ap (λ e. e && nat_eq (relation_in word) relation) none);
        }

    -- finds a mode that it has neither there nor awaited there,
    pub not_there-yet : has_mode left mode ≡ true → now.holds owner tag mode ≡ false
    not_there-yet shown =
        (λ i. (so_far.moves.content i).holds owner tag mode)
        ∙ adopting-not_yet taken owner tag word below owner tag mode next
        ∙ has.not_there mode (held-shown has.slots slot word tag mode strong has.has strong_is
        (omega (arith, next, weak))
        ∙ left-was below word left (relation_of tag) mode has.has.its so_far.still shown)

    pub not_awaited-yet : has_mode left mode ≡ true → awaits_mode (now.waits tag) owner mode ≡ false
    not_awaited-yet shown =
        (λ i. awaits_mode ((so_far.moves.content i).waits tag) owner mode)
        ∙ has.not_awaited mode
        (held-shown has.slots slot word tag mode strong has.has strong_is (omega (arith, next, weak))
        ∙ left-was below word left (relation_of tag) mode has.has.its so_far.still shown)

    -- stops there where memory runs out,
    pub moving-stops : has_mode left mode ≡ true → MovesSome a owner slot word tag taken now b
    moving-stops shown = record {
      refused = mode;
      in_slot = left-was below word left (relation_of tag) mode has.has.its so_far.still shown;
      moves = subst (λ k. MovesBelow a owner slot word tag taken k now b) (sym next) so_far.moves;
    }

    -- the slots and the content in hand by then
    moved_slots : b.fast.slots owner ≡ Some so_far.moves.rest
    moved_slots = (λ i. (so_far.moves.account i).fast.slots owner)
        ∙ set_at-here a.fast.slots owner (Some so_far.moves.rest) owner refl

    moved_hand : b.hand (partition_of tag) ≡ Some (hand_moving taken now so_far.moves.recorded)
    moved_hand = (λ i. (so_far.moves.account i).hand (partition_of tag))
        ∙ set_at-here a.hand (partition_of tag) (Some (hand_moving taken now so_far.moves.recorded))
        (partition_of tag) refl

    -- may move it,
    pub may_transfer :
        (limit : ℕ) (later : Content) → owner < limit → is_at owner a.fast.counted tag strong ≡ true
        → has_mode left mode ≡ true → later ≡ add_hold now owner tag mode
        → (its : SlotsInHand) × (mine : InHand) × MayTransferBy limit b owner slot its mine tag mode strong
        × (left ≡ its.word slot) × (later ≡ add_hold mine.now owner tag mode)
    may_transfer limit later exists at shown is = (
      so_far.moves.rest,
      hand_moving taken now so_far.moves.recorded,
      record {
        its_slots = moved_slots;
        in_hand = moved_hand;
        exists = exists;
        next = (λ i. is_at owner (so_far.moves.account i).fast.counted tag strong) ∙ at;
        may_adopt = so_far.moves.adopt;
        held = so_far.moves.without has.slots has.in_hand mode
            ∙ and_from (not (nat_lt (number_of mode) below)) (has.slots.holds tag mode)
            (ap not (ap (nat_lt (number_of mode)) (sym next) ∙ not_below (number_of mode)))
            (held-shown has.slots slot word tag mode strong has.has strong_is (omega (arith, next, weak))
            ∙ left-was below word left (relation_of tag) mode has.has.its so_far.still shown);
        within = has.has.within;
        shown = ap (λ w. shows w (relation_of tag) mode) (sym so_far.is_left)
            ∙ left-shows below word left (relation_of tag) mode has.has.its so_far.still shown;
      },
      so_far.is_left,
      is,
    )

    -- and goes on with the others.
    pub moving-next :
        (later : Content) (after : Account) (word_left : ℕ) → has_mode left mode ≡ true
        → later ≡ add_hold now owner tag mode
        → after ≡ account_transferring b owner slot (slots_here (b.fast.slots owner))
        (in_hand (b.hand (partition_of tag))) tag mode
        → word_left ≡ word_without left mode → IsMoving a owner slot word tag taken (below + 1) word_left later after
    moving-next later after word_left shown added moved cleared =
        let moves = so_far.moves in
        let rest : SlotsInHand =
        record {
          word = set_at moves.rest.word slot (word_without (moves.rest.word slot) mode);
          holds =
              own_with moves.rest.holds tag mode false;
        } in
        let fewer : number_of mode ≤ 3 = omega (arith, next, weak) in
        let was : has_mode word mode ≡ true = left-was below word left
        (relation_of tag) mode has.has.its so_far.still shown in
        let mine : InHand = hand_moving taken now moves.recorded in
        let adopted : InHand = hand_recording mine (add_hold now owner tag mode) (Adopt owner slot) mine.unmarked in
        record {
          moves = record {
            rest = rest;
            without = λ slots is n.
                holds-clear moves.rest.holds tag mode n
                ∙ ap (λ e. not (mode_eq n mode) && e) (moves.without slots is n)
                ∙ gone-next n mode below (slots.holds tag n) next;
            content = added ∙ (λ i. add_hold (moves.content i) owner tag mode)
                ∙ adopting-next taken owner tag word below mode next was;
            recorded = Some (Adopt owner slot);
            adopt = refl;
            account = moved
                ∙ (λ i. account_transferring b owner slot (slots_here (moved_slots i))
                (in_hand (moved_hand i)) tag mode)
                ∙ (λ i. account_transferring (moves.account i) owner slot moves.rest mine tag mode)
                ∙ (λ i. record a {
                  fast = record (a.fast) { slots = set_at-twice a.fast.slots owner (Some moves.rest) (Some rest) i };
                  hand = set_at-twice a.hand (partition_of tag) (Some mine) (Some adopted) i;
                })
                ∙ (λ i. record a {
                  fast = record (a.fast) { slots = set_at a.fast.slots owner (Some rest) };
                  hand = set_at a.hand (partition_of tag)
                      (Some (hand_moving taken (sym added i) (Some (Adopt owner slot))));
                });
          };
          is_left = cleared ∙ ap (λ w. word_without w mode) so_far.is_left
              ∙ sym (set_at-here moves.rest.word slot (word_without (moves.rest.word slot) mode) slot refl);
          still = λ relation n.
              ap (λ w. shows w relation n) cleared
              ∙ shows-word_without left mode fewer relation n
              ∙ ap (λ e. not (mode_eq n mode) && e) (so_far.still relation n)
              ∙ gone-next n mode below (shows word relation n) next;
        }
