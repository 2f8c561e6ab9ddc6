use Rattle.std.proofs.Common.{◌≡◌, ℕ, ◌==◌, Bool, true, false, List, Some, refl, sym, ap, ◌∙◌, inl}
use Rattle.std.proofs.lemmas.Bool.{false≢true, eq-eqb}
use Rattle.modes_core.specs.declared.modes.Mode.{Mode}
use Rattle.modes_core.specs.declared.tags.Tag.{Tag}
use Rattle.modes_core.specs.declared.sessions.Owner.{Owner}
use Rattle.local_locks.specs.declared.records.Entry.{Entry}
use Rattle.local_locks.specs.Owned.{has_entry, with_one_more}
use Rattle.lock_table.specs.OwnWait.{OwnWait}
use Rattle.lock_world.specs.WaitWord.{wait_state}
use Rattle.lock_world.specs.World.{TraceEntry}
use Rattle.lock_world.specs.Account.{Account}
use Rattle.shared_rule.specs.History.{account_cleared}
use Rattle.shared_rule.specs.Lawful.{MayClearBy}
use Rattle.shared_rule.specs.Boards.{Stack, nothing_due}
use Rattle.fast_path.specs.declared.use_counts.UseCounts.{UseCounts}
use Rattle.lock_manager.specs.Rest.{account_at_rest, IsUseCount, IsAtRest}
use Rattle.lock_manager.specs.Requests.{account_granted}
use Rattle.lock_manager.specs.Waiting.{account_in_wait, HasLooked}
use Rattle.lock_manager.proofs.Lemmas.Rest.Acquires.{use_count-same, rest-granted}

-- What a session that waits sees in its wait word.

-- the wait by the session's account
abbrev pub own_wait : Tag → Mode → (Mode → Bool) → OwnWait
own_wait tag mode held = record { tag = tag; mode = mode; held = held }

-- A wait that ends granted leaves the session with what it waited for.
pub rest-taken_over :
    (groups limit database : ℕ) (uses : UseCounts) (remembered : ℕ → ℕ) (b : Account) (its : Stack) (old new : List Entry) (tag : Tag) (mode : Mode) (owner : Owner) (trace : List TraceEntry) (stack : Stack)
    → has_entry old tag mode ≡ false → b ≡ account_granted limit (account_at_rest limit database remembered old trace) tag mode b.fast.remembered b.trace
    → IsUseCount groups b uses → IsUseCount groups (account_at_rest limit database remembered old trace) uses
    → its ≡ stack → stack ≡ nothing_due → new ≡ with_one_more old tag mode owner → IsAtRest groups limit database uses b its new
rest-taken_over groups limit database uses remembered b its old new tag mode owner trace stack none granted now before same empty more =
    rest-granted groups limit database uses uses (account_at_rest limit database remembered old trace) b stack its old new tag mode owner none granted now same more
    (record { account = refl; use_count = before; nothing_left = empty })

module _ (groups limit database : ℕ) (uses : UseCounts) (number : ℕ) (a : Account) (stack : Stack) (entries : List Entry) (tag : Tag) (mode : Mode) (shown : ℕ)
    (looked : HasLooked groups limit database uses a stack entries tag mode shown) (two : wait_state shown ≡ 2) where
  -- Where the word shows the grant it may be cleared,
  pub may_clear_seen : (wait : OwnWait) × MayClearBy number a wait
  may_clear_seen = (
    own_wait tag mode looked.held,
    inl (record {
      is_wait = ap (λ (x : Account). x.awaited) looked.account;
      has_seen = ap (λ (x : Account). x.seen) looked.account ∙ eq-eqb (wait_state shown) 2 two;
    }),
  )

  -- and then the hold is the session's own.
  abbrev rested : Account
  rested = account_at_rest limit database a.fast.remembered entries a.trace

  cleared : (b : Account) → b ≡ account_cleared number a a.awaited → b ≡ account_granted limit rested tag mode a.fast.remembered a.trace
  cleared b clears =
      clears ∙ ap (λ (x : Account). account_cleared number x x.awaited) looked.account ∙ at (wait_state shown == 2) (eq-eqb (wait_state shown) 2 two) where
        at : (seen : Bool) → seen ≡ true
            → account_cleared number (record (account_in_wait limit database a.fast.remembered entries tag mode looked.held a.trace) { seen = seen }) (Some (own_wait tag mode looked.held))
            ≡ account_granted limit rested tag mode a.fast.remembered a.trace
        at true is = refl
        at false is = absurd (false≢true is)

  pub rest-seen :
      (b : Account) (its : Stack) (new : List Entry) (owner : Owner) → b ≡ account_cleared number a a.awaited → its ≡ stack
      → new ≡ with_one_more entries tag mode owner → IsAtRest groups limit database uses b its new
  rest-seen b its new owner clears same more =
      let granted : b ≡ account_granted limit rested tag mode a.fast.remembered a.trace = cleared b clears in
      let use_count : IsUseCount groups b uses = use_count-same groups a b uses (sym (ap (λ (x : Account). x.fast.remembered) granted)) looked.use_count in
      rest-taken_over groups limit database uses a.fast.remembered b its entries new tag mode owner a.trace stack looked.no_entry
      (granted ∙ (λ i. account_granted limit rested tag mode (sym (ap (λ (x : Account). x.fast.remembered) granted) i) (sym (ap (λ (x : Account). x.trace) granted) i)))
      use_count (use_count-same groups a rested uses refl looked.use_count) same looked.nothing_left more
