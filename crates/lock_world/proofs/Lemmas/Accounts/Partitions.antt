use Rattle.std.proofs.Common.{◌≡◌, ℕ, false, ◌++◌, ◌∷◌, [], None, refl}
use Rattle.lock_table.specs.declared.moves.Move.{Move}
use Rattle.lock_table.specs.Content.{Content}
use Rattle.lock_table.proofs.Lemmas.Put.{set_at-here, set_at-else}
use Rattle.lock_world.specs.World.{World, Took, Episode}
use Rattle.lock_world.specs.Account.{account}
use Rattle.lock_world.specs.AccountSteps.{account_taking, account_putting}
use Rattle.lock_world.specs.Happens.Partitions.{after_taking_partition, after_putting_partition, content_taken}
use Rattle.lock_world.proofs.Lemmas.Accounts.Parts.{account-by, hands-taken, hands-home, own-moved}

-- Taking a partition.
pub account-taking : (w : World) (s p : ℕ) → account (after_taking_partition w s p) s ≡ account_taking (account w s) p (w.contents.now p)
account-taking w s p =
    account-by (after_taking_partition w s p) s (account_taking (account w s) p (w.contents.now p)) refl refl refl refl
    (hands-taken w.contents.hand w.contents.now p (record { holder = s; taken = w.contents.now p; recorded = None; unmarked = λ _. false }) s refl)
    refl refl (set_at-here w.sessions.trace s (w.sessions.trace s ++ Took p (w.contents.now p) ∷ []) s refl)

-- Putting a partition, with a move made as it is put, or, with nothing changed, with the one recorded.
pub account-putting :
    (w : World) (s p : ℕ) (done : Move) (content : Content)
    → account (after_putting_partition w s p done content) s ≡ account_putting (account w s) p (content_taken (w.contents.now p) (w.contents.hand p)) content done
account-putting w s p done content =
    account-by (after_putting_partition w s p done content) s (account_putting (account w s) p (content_taken (w.contents.now p) (w.contents.hand p)) content done) refl
    (own-moved w.sessions.own s done) refl refl
    (hands-home w.contents.hand w.contents.now _ p s (set_at-else w.contents.now p content))
    refl refl (set_at-here w.sessions.trace s (w.sessions.trace s ++ Episode p (content_taken (w.contents.now p) (w.contents.hand p)) content ∷ []) s refl)
