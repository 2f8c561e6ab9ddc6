use Rattle.std.proofs.Common.{◌≡◌, ℕ, Bool, true, false, ◌||◌, List, [], ◌∷◌, ◌++◌, Option, Some, None, refl, sym, ap, ◌∙◌, subst, append_assoc, inl, inr}
use Rattle.std.specs.Prelude.{map, not}
use Rattle.std.specs.Bool.{OnTrue, OnFalse}
use Rattle.std.proofs.lemmas.Bool.{not-true}
use Rattle.modes_core.specs.declared.modes.Mode.{Mode}
use Rattle.modes_core.specs.declared.tags.Tag.{Tag}
use Rattle.modes_core.specs.Tag.{partition_of}
use Rattle.lock_table.specs.declared.moves.Move.TheVariants.{Keep, Leave}
use Rattle.lock_table.specs.Content.{Wait, Content}
use Rattle.lock_table.specs.Moves.{Moves}
use Rattle.lock_table.specs.OwnWait.{OwnWait}
use Rattle.lock_table.specs.Put.{set_at}
use Rattle.lock_table.specs.Queue.{waits_there, remove_wait, Wakes}
use Rattle.lock_table.specs.Waiter.{whose_and_mode}
use Rattle.lock_table.proofs.Lemmas.Put.{set_at-same, set_at-twice}
use Rattle.lock_world.specs.Account.{Account, InHand}
use Rattle.lock_world.specs.AccountFacts.{KnowsContent}
use Rattle.lock_world.specs.AccountLaw.{MayLeaveBy}
use Rattle.lock_world.specs.AccountSteps.{account_taking, account_putting, account_clearing, hand_recording, own_with}
use Rattle.lock_world.specs.World.{Took, Episode}
use Rattle.shared_rule.specs.Boards.{Seated, Stack}
use Rattle.shared_rule.specs.Waiters.{WaitsExist}
use Rattle.shared_rule.specs.History.{taken_of, in_hand, is_among, sessions_told, is_granted, account_cleared, account_left}
use Rattle.shared_rule.specs.Lawful.{MayPutPart, MayClearBy}
use Rattle.shared_rule.proofs.Lemmas.Episodes.{fresh_hand, taken-in_hand}
use Rattle.lock_manager.specs.Releases.{Wakens, Tells, account_marked}
use Rattle.lock_manager.specs.Waiting.{IsInWait, FindsGrant, account_cancelled}
use Rattle.lock_manager.proofs.Lemmas.Moves.{may_make}
use Rattle.lock_manager.proofs.Lemmas.Releases.Marks.{leave-once, leave-stood}

-- The end of a wait in its partition: it is taken out of the queue, or it was granted.

-- What a removal tells, by the number of the session that makes it: the wait was not there, and nothing has
-- changed,
pub removal-found :
    (taken put : Content) (tag : Tag) (k number : ℕ) (was_granted : Bool) → k ≡ number → was_granted ≡ not (waits_there (taken.waits tag) k)
    → OnTrue was_granted (put ≡ taken) → was_granted ≡ true → (waits_there (taken.waits tag) number ≡ false) × (put ≡ taken)
removal-found taken put tag k number was_granted same found unchanged granted = (
  subst (λ n. waits_there (taken.waits tag) n ≡ false) {x = k} {y = number} same (not-true (waits_there (taken.waits tag) k) (sym found ∙ granted)),
  subst (λ b. OnTrue b (put ≡ taken)) {x = was_granted} {y = true} granted unchanged,
)

-- or it was, and has left the queue.
pub removal-left :
    (taken put : Content) (tag : Tag) (k number : ℕ) (was_granted : Bool) (woken : List (ℕ × Mode)) → k ≡ number → was_granted ≡ not (waits_there (taken.waits tag) k)
    → OnFalse was_granted ((granted : List Wait) × Wakes (remove_wait taken k tag) tag granted put × (woken ≡ map whose_and_mode granted)) → was_granted ≡ false
    → (granted : List Wait) × Moves taken number (Leave tag) granted put × (woken ≡ map whose_and_mode granted)
removal-left taken put tag k number was_granted woken same found removed waits =
    let out = subst (λ b. OnFalse b ((granted : List Wait) × Wakes (remove_wait taken k tag) tag granted put × (woken ≡ map whose_and_mode granted))) {x = was_granted} {y = false} waits removed in
    (out.0, subst (λ n. Moves taken n (Leave tag) out.0 put) {x = k} {y = number} same (there (waits_there (taken.waits tag) k) found, out.1), out.2) where
      there : (is_there : Bool) → was_granted ≡ not is_there → is_there ≡ true
      there true is = refl
      there false is = sym waits ∙ is

-- Clearing the wait word, on a board of the same seat.
pub cleared-same :
    (seat its : Seated) (b c : Account) → its ≡ seat → c ≡ account_cleared its.number b b.awaited → c ≡ account_cleared seat.number b b.awaited
cleared-same seat its b c same clears = subst (λ (s : Seated). c ≡ account_cleared s.number b b.awaited) {x = its} {y = seat} same clears

module _ (number : ℕ) (a : Account) (stack : Stack) (p : ℕ) (tag : Tag) (mode : Mode) (taken : Content) (waits : IsInWait a stack tag mode) (home : p ≡ partition_of tag) where
  -- the wait by the session's account
  abbrev wait : OwnWait
  wait = record { tag = tag; mode = mode; held = waits.held }

  -- the account with the partition in hand
  abbrev account_taken : Account
  account_taken = account_taking a p taken

  taken-here : account_taken.hand (partition_of tag) ≡ Some (fresh_hand taken)
  taken-here = ap account_taken.hand (sym home) ∙ taken-in_hand a p taken

  -- The trace of the episode.
  episode : (put : Content) → (a.trace ++ Took p taken ∷ []) ++ Episode p taken put ∷ [] ≡ a.trace ++ Took (partition_of tag) taken ∷ Episode (partition_of tag) taken put ∷ []
  episode put =
      append_assoc a.trace (Took p taken ∷ []) (Episode p taken put ∷ [])
      ∙ ap (λ q. a.trace ++ Took q taken ∷ Episode q taken put ∷ []) home

  -- ---- it was granted

  module _ (b : Account) (took : b ≡ account_taking a p taken) (knows : KnowsContent number a p taken) (gone : waits_there (taken.waits tag) number ≡ false) where
    held : taken.holds number tag mode ≡ true
    held = knows.granted_hold wait waits.waits (sym home) gone

    -- The wait word may be cleared,
    pub may_clear_gone : (its : OwnWait) × MayClearBy number b its
    may_clear_gone = (
      wait,
      subst (λ (x : Account). MayClearBy number x wait) {x = account_taken} {y = b} (sym took)
          (inr (fresh_hand taken, record { is_wait = waits.waits; in_hand = taken-here; gone = gone })),
    )

    -- and then the hold is the session's own,
    abbrev account_over : Account
    account_over = record account_taken { own = own_with a.own tag mode true; awaited = None; seen = false }

    is_over : (c : Account) → c ≡ account_cleared number b b.awaited → c ≡ account_over
    is_over c clears =
        let granted : is_granted number account_taken wait ≡ true =
        ap (λ seen. seen || (in_hand (account_taken.hand (partition_of tag))).now.holds number tag mode) waits.unseen
        ∙ ap (λ (hand : Option InHand). (in_hand hand).now.holds number tag mode) taken-here ∙ held in
        clears
        ∙ ap (λ (x : Account). account_cleared number x x.awaited) took
        ∙ ap (account_cleared number account_taken) waits.waits
        ∙ ap (account_clearing account_taken wait) granted

    -- the partition may be put as it was,
    pub may_put-over :
        (limit its : ℕ) (c : Account) (put : Content) → c ≡ account_cleared number b b.awaited → put ≡ taken
        → (mine : InHand) × MayPutPart limit its c p mine Keep put
    may_put-over limit its c put clears same = (
      fresh_hand taken,
      subst (λ (x : Account). MayPutPart limit its x p (fresh_hand taken) Keep put) {x = account_over} {y = c} (sym (is_over c clears))
          (inl (record { may_move = may_make limit its account_over p taken put Keep [] (taken-in_hand a p taken) tt tt tt (refl, same); by_putting = tt })),
    )

    -- and the wait is over.
    over-put :
        (c d : Account) (put : Content) → c ≡ account_cleared number b b.awaited → put ≡ taken → d ≡ account_putting c p (taken_of (c.hand p)) put Keep
        → d ≡ record account_over { hand = a.hand; trace = a.trace ++ Took (partition_of tag) taken ∷ Episode (partition_of tag) taken taken ∷ [] }
    over-put c d put clears same was_put =
        let hand : set_at account_over.hand p None ≡ a.hand =
        set_at-twice a.hand p (Some (fresh_hand taken)) None ∙ set_at-same a.hand p None (sym (λ i. waits.no_content i p)) in
        was_put
        ∙ ap (λ (x : Account). account_putting x p (taken_of (x.hand p)) put Keep) (is_over c clears)
        ∙ ap (λ content. account_putting account_over p content put Keep) (ap taken_of (taken-in_hand a p taken))
        ∙ ap (λ content. account_putting account_over p taken content Keep) same
        ∙ (λ i. record account_over { hand = hand i; trace = episode taken i })

    pub over-steps :
        (c d : Account) (put : Content) → c ≡ account_cleared number b b.awaited → put ≡ taken → d ≡ account_putting c p (taken_of (c.hand p)) put Keep
        → FindsGrant number a.trace tag mode d.trace
    over-steps c d put clears same was_put = record {
      taken = taken;
      gone = gone;
      held = held;
      trace = ap (λ (x : Account). x.trace) (over-put c d put clears same was_put);
    }

    pub over-account :
        (c d : Account) (put : Content) → c ≡ account_cleared number b b.awaited → put ≡ taken → d ≡ account_putting c p (taken_of (c.hand p)) put Keep
        → d ≡ account_cancelled a tag mode true d.trace
    over-account c d put clears same was_put =
        let is = over-put c d put clears same was_put in
        is ∙ (λ i. account_cancelled a tag mode true (sym (ap (λ (x : Account). x.trace) is) i))

  -- ---- it is taken out

  module _ (put : Content) (granted : List Wait) (woken : List (ℕ × Mode)) (moved : Moves taken number (Leave tag) granted put) (whose : woken ≡ map whose_and_mode granted)
      (b : Account) (took : b ≡ account_taking a p taken) where
    -- A session that waits may leave the queue,
    pub may_leave :
        (limit : ℕ) → (its : OwnWait) × (mine : InHand) × (others : List Wait) × (woken ≡ map whose_and_mode others) × MayLeaveBy limit number b its mine others put
    may_leave limit = (
      wait,
      fresh_hand taken,
      granted,
      whose,
      subst (λ (x : Account). MayLeaveBy limit number x wait (fresh_hand taken) granted put) {x = account_taken} {y = b} (sym took) (record {
        is_wait = waits.waits;
        may_move = may_make limit number account_taken (partition_of tag) taken put (Leave tag) granted taken-here refl tt tt moved;
      }),
    )

    -- and then those whom that lets go may be told,
    abbrev account_out : Account
    account_out = record account_taken { awaited = None; seen = false }

    left-is : (c : Account) → c ≡ account_left b b.awaited put (sessions_told woken) → c ≡ account_marked account_out p (Leave tag) put woken
    left-is c leaves =
        leaves
        ∙ ap (λ (x : Account). account_left x x.awaited put (sessions_told woken)) took
        ∙ ap (λ its. account_left account_taken its put (sessions_told woken)) waits.waits
        ∙ ap (λ q. record account_out {
          hand = set_at account_taken.hand q (Some (hand_recording (in_hand (account_taken.hand q)) put (Leave tag) (is_among (sessions_told woken))));
        }) (sym home)

    pub leave-tells :
        (seat its : Seated) (c : Account) → seat.number ≡ number → its ≡ seat → KnowsContent number a p taken
        → WaitsExist seat.limit taken → c ≡ account_left b b.awaited put (sessions_told woken) → Tells its c p (Leave tag) woken put
    leave-tells seat its c same_number same_seat knows exist leaves = record {
      from = account_out;
      wakens = subst (λ v. Wakens v account_out p (Leave tag) woken put) {x = seat} {y = its} (sym same_seat) (record {
        mine = fresh_hand taken;
        granted = granted;
        whose = whose;
        may_move = may_make seat.limit seat.number account_out p taken put (Leave tag) granted (taken-in_hand a p taken) (sym home) tt tt
            (subst (λ k. Moves taken k (Leave tag) granted put) (sym same_number) moved);
        once = λ session. leave-once taken put number tag granted woken session moved whose (knows.once session tag);
        exist = λ session there. exist session tag (leave-stood taken put number tag granted moved session there);
      });
      so_far = inr (left-is c leaves);
    }
