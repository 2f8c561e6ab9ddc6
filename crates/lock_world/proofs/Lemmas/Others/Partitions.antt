use Rattle.std.proofs.Common.{◌≡◌, ◌≢◌, ℕ, true, None, refl, sym, ap, inl, inr}
use Rattle.std.specs.Prelude.{◌==◌}
use Rattle.std.proofs.lemmas.Bool.{cond-false, ne_eqb}
use Rattle.lock_table.specs.declared.moves.Move.{Move}
use Rattle.lock_table.specs.declared.moves.Move.TheVariants.{Keep}
use Rattle.lock_table.specs.Content.{Holds, Content}
use Rattle.lock_table.specs.Put.{set_at}
use Rattle.lock_world.specs.World.{World}
use Rattle.lock_world.specs.Account.{own_hand, IsLeftAlone}
use Rattle.lock_world.specs.Happens.Partitions.{HappensTakingPartition, HappensPuttingPartition, own_after, after_putting_partition}
use Rattle.lock_world.specs.SafeWorld.{SafeWorld, tabled}
use Rattle.lock_table.proofs.Lemmas.Put.{set_at-else}
use Rattle.lock_world.proofs.Lemmas.Table.Partitions.{own_after-else, at_home-free}
use Rattle.lock_world.proofs.Lemmas.Safe.Partitions.{holding-hand}
use Rattle.lock_world.proofs.Lemmas.Others.Hands.{another's, own_hand-set, IsLeftAlone-same, IsLeftAlone-by}

-- own holds of another session, as a function
pub own_after-others : (own : Holds) (s : ℕ) (done : Move) (k : ℕ) → k ≢ s → own_after own s done k ≡ own k
own_after-others own s done k other = λ i t m. own_after-else own s done k t m other i

-- A partition that is at home, or in the stepping session's hand, is in no other's.
pub taking_partition-others : (w : World) (s p : ℕ) (v : World) (k : ℕ) → SafeWorld w → k ≢ s → HappensTakingPartition w s p v → IsLeftAlone w v k
taking_partition-others w s p v k safe other h =
    IsLeftAlone-same k w _ v h.1
    (IsLeftAlone-by w _ k refl refl refl refl
    (own_hand-set w.contents.hand w.contents.now w.contents.now p _ k (λ q _. refl) (ap (λ hand. own_hand hand (w.contents.now p) k) (at_home-free (tabled w) p safe.but_slots.table h.0.free))
    (cond-false (s == k) _ None (ne_eqb s k (λ same. other (sym same)))))
    refl refl (set_at-else w.sessions.trace s _ k other) refl refl)

put-others : (w : World) (s p : ℕ) (done : Move) (content : Content) (k : ℕ) → SafeWorld w → k ≢ s → w.sessions.holds_partition s p ≡ true → IsLeftAlone w (after_putting_partition w s p done content) k
put-others w s p done content k safe other holding =
    IsLeftAlone-by w _ k refl (own_after-others w.sessions.own s done k other) refl refl
    (own_hand-set w.contents.hand w.contents.now (set_at w.contents.now p content) p None k (set_at-else w.contents.now p content)
    (another's (w.contents.hand p) (w.contents.now p) s k (holding-hand (tabled w) s p safe.but_slots holding) other) refl)
    refl refl (set_at-else w.sessions.trace s _ k other) refl refl

pub putting_partition-others : (w : World) (s p : ℕ) (done : Move) (v : World) (k : ℕ) → SafeWorld w → k ≢ s → HappensPuttingPartition w s p done v → IsLeftAlone w v k
putting_partition-others w s p done v k safe other (inl h) = IsLeftAlone-same k w _ v h.2 (put-others w s p done h.0 k safe other h.1.may_move.holding)
putting_partition-others w s p done v k safe other (inr h) = IsLeftAlone-same k w _ v h.1 (put-others w s p Keep (w.contents.now p) k safe other h.0.holding)
