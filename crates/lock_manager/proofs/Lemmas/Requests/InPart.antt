use Rattle.std.proofs.Common.{◌≡◌, ℕ, ◌++◌, append_assoc, true, false, [], ◌∷◌, Ok, Some, None, refl, sym, ap, ◌∙◌, subst, inl, inr}
use Rattle.modes_core.specs.declared.modes.Mode.{Mode}
use Rattle.modes_core.specs.declared.tags.Tag.{Tag}
use Rattle.modes_core.specs.Tag.{partition_of, is_strong_on}
use Rattle.lock_table.specs.declared.moves.Move.TheVariants.{Keep, Grant, Join}
use Rattle.lock_table.specs.Content.{Content}
use Rattle.lock_table.specs.Moves.{Moves}
use Rattle.lock_table.specs.Put.{set_at}
use Rattle.lock_table.specs.Queue.{waits_there}
use Rattle.lock_table.proofs.Lemmas.Put.{set_at-here, set_at-same, set_at-twice}
use Rattle.wait_queue.specs.declared.requests.Decision.TheVariants.{Granted, Queued}
use Rattle.wait_queue.specs.declared.requests.Kind.{Kind}
use Rattle.wait_queue.specs.declared.requests.Kind.TheVariants.{Conditional, Waiting}
use Rattle.wait_queue.specs.Decide.{IsDecided}
use Rattle.lock_world.specs.Account.{Account, InHand}
use Rattle.lock_world.specs.AccountFacts.{OwnHoldsStand}
use Rattle.lock_world.specs.AccountSteps.{account_taking, account_putting, account_waiting, hand_recording}
use Rattle.lock_world.specs.AccountLaw.{MayMoveBy, MayPutBy, MayPutRecordedBy}
use Rattle.lock_world.specs.Counted.{is_done}
use Rattle.lock_world.specs.World.{Took, Episode}
use Rattle.shared_rule.specs.History.{taken_of, in_hand}
use Rattle.shared_rule.specs.Lawful.{MayPutPart}
use Rattle.shared_rule.proofs.Lemmas.Episodes.{fresh_hand, taken-in_hand, may_keep}
use Rattle.shared_rule.specs.Boards.{Stack}
use Rattle.lock_manager.specs.Rest.{IsIdle}
use Rattle.lock_manager.specs.Requests.{DecidesInPart, account_awaiting}
use Rattle.lock_manager.proofs.Lemmas.Moves.{may_make}

-- Deciding a request in its partition.

-- A grant that is decided is a move of that content, of whichever kind the request is,
pub granted-moves :
    (kind : Kind) (taken put : Content) (number : ℕ) (tag : Tag) (mode : Mode) → IsDecided kind taken number tag mode Granted put
    → Moves taken number (Grant tag mode) [] put
granted-moves Conditional taken put number tag mode decided = ((None, decided.0, refl), refl, decided.1)
granted-moves Waiting taken put number tag mode decided = (decided.0, refl, decided.1)

-- and so is a wait.
pub queued-moves :
    (kind : Kind) (taken put : Content) (number : ℕ) (tag : Tag) (mode : Mode) → IsDecided kind taken number tag mode Queued put
    → Moves taken number (Join tag mode) [] put
queued-moves Conditional taken put number tag mode decided = absurd decided.1
queued-moves Waiting taken put number tag mode decided = (decided.0, decided.1, refl, decided.2)

-- ---- the partition may be put

module _ (limit number : ℕ) (a : Account) (stack : Stack) (p : ℕ) (tag : Tag) (mode : Mode) (taken put : Content) (idle : IsIdle a stack) (home : p ≡ partition_of tag)
    (new : a.own tag mode ≡ false) (counted : is_strong_on tag mode ≡ true → is_done limit a.fast.counted tag mode ≡ true) where
  -- with the hold where the request is granted,
  may_grant : Moves taken number (Grant tag mode) [] put → MayPutBy limit number (account_taking a p taken) p (fresh_hand taken) (Grant tag mode) put
  may_grant moved = record {
    may_move = may_make limit number (account_taking a p taken) p taken put (Grant tag mode) [] (taken-in_hand a p taken) (sym home) (idle.no_wait, new) counted moved;
    by_putting = tt;
  }

  pub may_put-granted :
      (b : Account) → b ≡ account_taking a p taken → Moves taken number (Grant tag mode) [] put → (mine : InHand) × MayPutPart limit number b p mine (Grant tag mode) put
  may_put-granted b took moved = (
    fresh_hand taken,
    subst (λ (x : Account). MayPutPart limit number x p (fresh_hand taken) (Grant tag mode) put) (sym took) (inl (may_grant moved)),
  )

  -- or with the wait, once the wait word says so,
  may_join : Moves taken number (Join tag mode) [] put → MayMoveBy limit number (account_taking a p taken) p (fresh_hand taken) (Join tag mode) [] put
  may_join moved = may_make limit number (account_taking a p taken) p taken put (Join tag mode) [] (taken-in_hand a p taken) (sym home) (idle.no_wait, new) counted moved

  pub may_wait :
      (b : Account) → b ≡ account_taking a p taken → Moves taken number (Join tag mode) [] put
      → (mine : InHand) × MayMoveBy limit number b (partition_of tag) mine (Join tag mode) [] put
  may_wait b took moved = (
    fresh_hand taken,
    subst (λ (x : Account). MayMoveBy limit number x (partition_of tag) (fresh_hand taken) (Join tag mode) [] put) (sym took)
        (subst (λ (q : ℕ). MayMoveBy limit number (account_taking a p taken) q (fresh_hand taken) (Join tag mode) [] put) home (may_join moved)),
  )

pub may_put-kept :
    (limit number : ℕ) (a b : Account) (p : ℕ) (taken put : Content) → b ≡ account_taking a p taken → put ≡ taken → (mine : InHand) × MayPutPart limit number b p mine Keep put
may_put-kept limit number a b p taken put took same = (
  fresh_hand taken,
  subst (λ (x : Account). MayPutPart limit number x p (fresh_hand taken) Keep put) (sym took)
      (subst (λ (c : Content). MayPutPart limit number (account_taking a p taken) p (fresh_hand taken) Keep c) (sym same) (inl (may_keep limit number a p taken))),
)

-- or as it was after a refusal.
module _ (limit number : ℕ) (a b : Account) (stack : Stack) (p : ℕ) (tag : Tag) (mode : Mode) (taken put : Content) (idle : IsIdle a stack) (home : p ≡ partition_of tag)
    (took : b ≡ account_taking a p taken) where
  -- The account in between, once the wait word says that the session waits.
  abbrev hand_waiting : InHand
  hand_waiting = hand_recording (fresh_hand taken) put (Join tag mode) (λ _. false)

  abbrev account_joined : Account
  account_joined = account_waiting (account_taking a p taken) (fresh_hand taken) tag mode put (taken.holds number tag)

  joined-is : (c : Account) → c ≡ account_waiting b (in_hand (b.hand (partition_of tag))) tag mode put ((in_hand (b.hand (partition_of tag))).now.holds number tag) → c ≡ account_joined
  joined-is c waits =
      waits
      ∙ ap (λ (x : Account). account_waiting x (in_hand (x.hand (partition_of tag))) tag mode put ((in_hand (x.hand (partition_of tag))).now.holds number tag)) took
      ∙ ap (λ (mine : InHand). account_waiting (account_taking a p taken) mine tag mode put (mine.now.holds number tag))
      (ap in_hand (ap (λ q. (account_taking a p taken).hand q) (sym home) ∙ taken-in_hand a p taken))

  joined-in_hand : account_joined.hand p ≡ Some hand_waiting
  joined-in_hand = set_at-here (account_taking a p taken).hand (partition_of tag) (Some hand_waiting) p home

  pub may_put-joined :
      (c : Account) → c ≡ account_waiting b (in_hand (b.hand (partition_of tag))) tag mode put ((in_hand (b.hand (partition_of tag))).now.holds number tag)
      → (mine : InHand) × MayPutPart limit number c p mine Keep put
  may_put-joined c waits = (
    hand_waiting,
    inr (record {
      made = Join tag mode;
      may_put = subst (λ (x : Account). MayPutRecordedBy x p hand_waiting (Join tag mode)) (sym (joined-is c waits))
          (record { in_hand = joined-in_hand; recorded = refl; all_marked = λ _. refl; wait_is_over = tt });
      keeps = refl;
      same = refl;
    }),
  )

  -- ---- the account after it

  stand-home : OwnHoldsStand number a.own a.fast.database a.fast.remembered p taken → OwnHoldsStand number a.own a.fast.database a.fast.remembered (partition_of tag) taken
  stand-home stand = subst (λ (q : ℕ). OwnHoldsStand number a.own a.fast.database a.fast.remembered q taken) home stand

  -- Whoever takes a partition and puts it with one more wait has made an episode, which queues the request.
  pub queues-in_part :
      (kind : Kind) (c d : Account) → OwnHoldsStand number a.own a.fast.database a.fast.remembered p taken
      → waits_there (taken.waits tag) number ≡ false
      → c ≡ account_waiting b (in_hand (b.hand (partition_of tag))) tag mode put ((in_hand (b.hand (partition_of tag))).now.holds number tag)
      → d ≡ account_putting c p (taken_of (c.hand p)) put Keep → IsDecided kind taken number tag mode Queued put
      → DecidesInPart kind number a tag mode (Ok Queued) d
  queues-in_part kind c d stand no_own_wait waits was_put decided = record {
    taken = taken;
    put = put;
    own_stand = stand-home stand;
    no_own_wait = no_own_wait;
    decided = decided;
    refused = tt;
    kept = tt;
    account =
        was_put
        ∙ ap (λ (x : Account). account_putting x p (taken_of (x.hand p)) put Keep) (joined-is c waits)
        ∙ ap (λ content. account_putting account_joined p content put Keep) (ap taken_of joined-in_hand)
        ∙ (λ i. record (account_awaiting a tag mode (taken.holds number tag)) {
          hand = hand i;
          trace = trace i;
        });
  } where
    hand : set_at account_joined.hand p None ≡ a.hand
    hand =
        ap (λ q. set_at (set_at (set_at a.hand p (Some (fresh_hand taken))) q (Some hand_waiting)) p None) (sym home)
        ∙ set_at-twice (set_at a.hand p (Some (fresh_hand taken))) p (Some hand_waiting) None
        ∙ set_at-twice a.hand p (Some (fresh_hand taken)) None
        ∙ set_at-same a.hand p None (sym (λ i. idle.no_content i p))

    trace : (a.trace ++ Took p taken ∷ []) ++ Episode p taken put ∷ []
        ≡ a.trace ++ Took (partition_of tag) taken ∷ Episode (partition_of tag) taken put ∷ []
    trace =
        append_assoc a.trace (Took p taken ∷ []) (Episode p taken put ∷ [])
        ∙ ap (λ q. a.trace ++ Took q taken ∷ Episode q taken put ∷ []) home
