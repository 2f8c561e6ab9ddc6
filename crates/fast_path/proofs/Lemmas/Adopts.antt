use Rattle.std.proofs.Common.{◌≡◌, ℕ, [], ◌∷◌, ◌++◌, Option, Some, None, Result, Ok, Err}
use Rattle.std.proofs.Common.{inl, inr, refl, sym, ap, ◌∙◌, subst, append_assoc}
use Rattle.modes_core.specs.declared.tags.Tag.{Tag}
use Rattle.modes_core.specs.Mode.{number_of}
use Rattle.modes_core.specs.Tag.{partition_of}
use Rattle.lock_table.specs.declared.moves.Move.{Move}
use Rattle.lock_table.specs.declared.moves.Move.TheVariants.{Keep, Adopt}
use Rattle.lock_table.specs.declared.no_memory.NoMemory.{NoMemory}
use Rattle.lock_table.specs.Content.{Content}
use Rattle.lock_table.specs.Put.{set_at}
use Rattle.lock_table.proofs.Lemmas.Put.{set_at-here, set_at-same, set_at-twice}
use Rattle.lock_world.specs.World.{Took, Episode}
use Rattle.lock_world.specs.Account.{Account, InHand}
use Rattle.lock_world.specs.AccountFacts.{KnowsContent}
use Rattle.lock_world.specs.AccountSteps.{account_taking, account_putting}
use Rattle.lock_world.specs.Happens.Transfers.{MayAdopt}
use Rattle.shared_rule.specs.History.{taken_of}
use Rattle.shared_rule.specs.Lawful.{MayPutPart}
use Rattle.fast_path.specs.Transfers.{adopting}
use Rattle.fast_path.specs.Turns.{HasSlots, HasSlotsAndPart, MovesBelow, MovesOrNot, AdoptsBelow, AdoptsOrNot}
use Rattle.fast_path.specs.Turns.{hand_moving}

-- The episode in which modes of a slot are moved.

-- The slots and the content in hand, as they come.
pub has-both :
    (number : ℕ) (a b : Account) (owner slot word p : ℕ) (tag : Tag) (taken : Content)
    → HasSlots a owner slot word tag → p ≡ partition_of tag
    → b ≡ account_taking a p taken → KnowsContent number a p taken → HasSlotsAndPart b owner slot word tag taken
has-both number a b owner slot word p tag taken has part is knows =
    subst (λ (v : Account). HasSlotsAndPart v owner slot word tag taken)
    (sym (is ∙ (λ i. account_taking a (part i) taken))) (record {
      slots = has.slots;
      in_hand = shown;
      part_in_hand = set_at-here a.hand (partition_of tag) (Some (hand_moving taken taken None))
          (partition_of tag) refl;
      has = has.has;
      not_there = λ mode held. (knows.in_slots owner has.slots tag mode shown held).0;
      not_awaited = λ mode held. (knows.in_slots owner has.slots tag mode shown held).1;
    }) where
      shown : a.fast.slots owner ≡ Some has.slots
      shown = (λ i. has.in_hand i owner) ∙ set_at-here (λ _. None) owner (Some has.slots) owner refl

module _ (b c : Account) (owner slot word p below : ℕ) (tag : Tag) (taken now : Content) (part : p ≡ partition_of tag)
    (moves : MovesBelow b owner slot word tag taken below now c) where
  moved_hand : c.hand p ≡ Some (hand_moving taken now moves.recorded)
  moved_hand =
      (λ i. (moves.account i).hand (part i)) ∙ set_at-here b.hand (partition_of tag)
      (Some (hand_moving taken now moves.recorded)) (partition_of tag) refl

  -- A partition may be put with the adopt recorded, or as it was where nothing was moved.
  may_put-below : (limit number : ℕ) → (mine : InHand) × MayPutPart limit number c p mine Keep now
  may_put-below limit number = (hand_moving taken now moves.recorded, at moves.recorded moved_hand moves.adopt) where
    at : (recorded : Option Move) → c.hand p ≡ Some (hand_moving taken now recorded) → MayAdopt recorded owner slot
        → MayPutPart limit number c p (hand_moving taken now recorded) Keep now
    at None in_hand may = inl (record {
      may_move = record {
        in_hand = in_hand;
        unrecorded = refl;
        object = tt;
        fits = tt;
        counted = tt;
        moved =
            (refl, refl);
      };
      by_putting = tt;
    })
    at (Some done) in_hand may = inr (record {
      made = Adopt owner slot;
      may_put = record { in_hand = in_hand; recorded = ap Some may; all_marked = λ _. refl; wait_is_over = tt };
      keeps = refl;
      same = refl;
    })

-- Then it is one episode.
adopts-put :
    (a b c after : Account) (owner slot word below : ℕ) (tag : Tag) (taken now : Content)
    → HasSlots a owner slot word tag
    → b ≡ account_taking a (partition_of tag) taken → MovesBelow b owner slot word tag taken below now c
    → after ≡ account_putting c (partition_of tag) (taken_of (c.hand (partition_of tag))) now Keep
    → AdoptsBelow a owner word tag below after
adopts-put a b c after owner slot word below tag taken now has took moves put = record {
  taken = taken;
  rest = moves.rest;
  without = λ slots is. moves.without slots ((λ i. (took i).fast.slots owner) ∙ is);
  account =
      put
      ∙ (λ i. account_putting c p (taken_of (moved_hand b c owner slot word p below tag taken now refl moves i)) now
      Keep)
      ∙ (λ i. account_putting (moves.account i) p taken now Keep)
      ∙ (λ i. record (took i) {
        fast = record ((took i).fast) { slots = set_at (took i).fast.slots owner (Some moves.rest) };
        hand = set_at (set_at (took i).hand p (Some mine)) p None;
        trace = (took i).trace ++ Episode p taken now ∷ [];
      })
      ∙ (λ i. record a {
        fast = record (a.fast) { slots = set_at a.fast.slots owner (Some moves.rest) };
        hand = hand i;
        trace = trace i;
      });
} where
  p : ℕ
  p = partition_of tag

  fresh : InHand
  fresh = hand_moving taken taken None

  mine : InHand
  mine = hand_moving taken now moves.recorded

  hand : set_at (set_at (set_at a.hand p (Some fresh)) p (Some mine)) p None ≡ a.hand
  hand = set_at-twice (set_at a.hand p (Some fresh)) p (Some mine) None ∙ set_at-twice a.hand p (Some fresh) None
      ∙ set_at-same a.hand p None (sym (λ i. has.no_content i p))

  trace : (a.trace ++ Took p taken ∷ []) ++ Episode p taken now ∷ []
      ≡ a.trace ++ Took p taken ∷ Episode p taken (adopting taken owner tag word below) ∷ []
  trace = append_assoc a.trace (Took p taken ∷ []) (Episode p taken now ∷ [])
      ∙ (λ i. a.trace ++ Took p taken ∷ Episode p taken (moves.content i) ∷ [])

-- Both, by how far the moves came.
pub may_put-moved :
    (limit number : ℕ) (b c : Account) (owner slot word p : ℕ) (tag : Tag) (taken now : Content)
    (result : Result (Unit {0}) NoMemory) → p ≡ partition_of tag
    → MovesOrNot b owner slot word tag taken result now c → (mine : InHand) × MayPutPart limit number c p mine Keep now
may_put-moved limit number b c owner slot word p tag taken now (Ok done) part moves =
    may_put-below b c owner slot word p 4 tag taken now part moves limit number
may_put-moved limit number b c owner slot word p tag taken now (Err refusal) part some =
    may_put-below b c owner slot word p (number_of some.refused) tag taken now part some.moves limit number

pub adopts-moved :
    (a b c after : Account) (owner slot word p : ℕ) (tag : Tag) (taken now : Content)
    (result : Result (Unit {0}) NoMemory) → p ≡ partition_of tag
    → HasSlots a owner slot word tag → b ≡ account_taking a p taken
    → MovesOrNot b owner slot word tag taken result now c
    → after ≡ account_putting c p (taken_of (c.hand p)) now Keep → AdoptsOrNot a owner word tag result after
adopts-moved a b c after owner slot word p tag taken now (Ok done) part has took moves put =
    adopts-put a b c after owner slot word 4 tag taken now has (took ∙ (λ i. account_taking a (part i) taken)) moves
    (put ∙ (λ i. account_putting c (part i) (taken_of (c.hand (part i))) now Keep))
adopts-moved a b c after owner slot word p tag taken now (Err refusal) part has took some put = record {
  refused = some.refused;
  in_slot = some.in_slot;
  adopts = adopts-put a b c after owner slot word (number_of some.refused) tag taken now has
      (took ∙ (λ i. account_taking a (part i) taken)) some.moves
      (put ∙ (λ i. account_putting c (part i) (taken_of (c.hand (part i))) now Keep));
}
