use Rattle.std.proofs.Common.{◌≡◌, ◌≢◌, ℕ, Bool, true, false, None, refl, ◌∙◌, inl, inr}
use Rattle.std.specs.Prelude.{if◌then◌else◌}
use Rattle.modes_core.specs.declared.modes.Mode.{Mode}
use Rattle.modes_core.specs.declared.tags.Tag.{Tag}
use Rattle.modes_core.specs.Tag.{partition_of}
use Rattle.lock_table.specs.declared.moves.Move.{Move}
use Rattle.lock_table.specs.declared.moves.Move.TheVariants.{Keep, Grant, Join, Release, Leave, Adopt}
use Rattle.lock_table.specs.Content.{Holds, Content, set_hold}
use Rattle.lock_table.specs.Put.{set_at}
use Rattle.lock_table.specs.OwnWait.{OwnWait}
use Rattle.lock_world.specs.World.{World}
use Rattle.lock_world.specs.Account.{own_hands, IsLeftAlone}
use Rattle.lock_world.specs.Happens.Waits.{recording, after_clearing, HappensSetting, HappensMarking, HappensMarkingIn, HappensClearing}
use Rattle.lock_world.specs.Safe.{is_hand_of}
use Rattle.lock_world.specs.SafeWorld.{SafeWorld, tabled}
use Rattle.lock_table.proofs.Lemmas.Holds.{set_hold-other_session}
use Rattle.lock_table.proofs.Lemmas.Put.{set_at-else}
use Rattle.lock_world.proofs.Lemmas.Safe.Partitions.{holding-hand}
use Rattle.lock_world.proofs.Lemmas.Waits.Stages.{recording-hand}
use Rattle.lock_world.proofs.Lemmas.Others.Hands.{another's, own_hand-set, IsLeftAlone-same, IsLeftAlone-by}
use Rattle.lock_world.proofs.Lemmas.Others.Partitions.{own_after-others}

-- A move recorded in the stepping session's hand leaves the hands of others.
pub recorded-others : (w : World) (s p : ℕ) (done : Move) (unmarked : ℕ → Bool) (now' : ℕ → Content) (k : ℕ) → SafeWorld w → k ≢ s → w.sessions.holds_partition s p ≡ true → ((q : ℕ) → q ≢ p → now' q ≡ w.contents.now q)
    → own_hands (set_at w.contents.hand p (recording (w.contents.hand p) done unmarked)) now' k ≡ own_hands w.contents.hand w.contents.now k
recorded-others w s p done unmarked now' k safe other holding elsewhere =
    own_hand-set w.contents.hand w.contents.now now' p (recording (w.contents.hand p) done unmarked) k elsewhere
    (another's (w.contents.hand p) (w.contents.now p) s k holds other)
    (another's (recording (w.contents.hand p) done unmarked) (now' p) s k (recording-hand (w.contents.hand p) done unmarked s ∙ holds) other) where
      holds : is_hand_of (w.contents.hand p) s ≡ true
      holds = holding-hand (tabled w) s p safe.but_slots holding

pub setting-others : (w : World) (s : ℕ) (t : Tag) (m : Mode) (v : World) (k : ℕ) → SafeWorld w → k ≢ s → HappensSetting w s t m v → IsLeftAlone w v k
setting-others w s t m v k safe other h =
    IsLeftAlone-same k w _ v h.2
    (IsLeftAlone-by w _ k refl refl (set_at-else w.sessions.awaited s _ k other) (set_at-else w.sessions.seen s false k other)
    (recorded-others w s (partition_of t) (Join t m) (λ _. false) _ k safe other h.1.holding (set_at-else w.contents.now (partition_of t) h.0)) refl refl refl refl refl)

marking_in-others : (w : World) (s marked p : ℕ) (done : Move) (v : World) (k : ℕ) → SafeWorld w → k ≢ s → HappensMarkingIn w s marked p done v → IsLeftAlone w v k
marking_in-others w s marked p done v k safe other (inl h) =
    IsLeftAlone-same k w _ v h.3
    (IsLeftAlone-by w _ k refl (own_after-others w.sessions.own s done k other) refl refl
    (recorded-others w s p done _ _ k safe other h.2.may_move.holding (set_at-else w.contents.now p h.1)) refl refl refl refl refl)
marking_in-others w s marked p done v k safe other (inr h) =
    IsLeftAlone-same k w _ v h.1
    (IsLeftAlone-by w _ k refl refl refl refl (recorded-others w s p done _ w.contents.now k safe other h.0.holding (λ q _. refl)) refl refl refl refl refl)

pub marking-others : (w : World) (s marked : ℕ) (done : Move) (v : World) (k : ℕ) → SafeWorld w → k ≢ s → HappensMarking w s marked done v → IsLeftAlone w v k
marking-others w s marked Keep v k safe other h = absurd h
marking-others w s marked (Grant t m) v k safe other h = absurd h
marking-others w s marked (Join t m) v k safe other h = absurd h
marking-others w s marked (Release t m) v k safe other h = marking_in-others w s marked (partition_of t) (Release t m) v k safe other h
marking-others w s marked (Leave t) v k safe other h = marking_in-others w s marked (partition_of t) (Leave t) v k safe other h
marking-others w s marked (Adopt j i) v k safe other h = absurd h

-- What a session takes over leaves the holds that others own.
taken_stays : (own : Holds) (s : ℕ) (o : Tag) (n : Mode) (taken : Bool) (k : ℕ) → k ≢ s → (if taken then set_hold own s o n true else own) k ≡ own k
taken_stays own s o n true k other = λ i t m. set_hold-other_session own s o n true k t m other i
taken_stays own s o n false k other = refl

cleared-others : (w : World) (s : ℕ) (wait : OwnWait) (v : World) (k : ℕ) → k ≢ s → v ≡ after_clearing w s wait → IsLeftAlone w v k
cleared-others w s wait v k other e =
    IsLeftAlone-same k w _ v e
    (IsLeftAlone-by w _ k refl (taken_stays w.sessions.own s wait.tag wait.mode _ k other) (set_at-else w.sessions.awaited s None k other) (set_at-else w.sessions.seen s false k other)
    refl refl refl refl refl refl)

pub clearing-others : (w : World) (s : ℕ) (leaving : Bool) (v : World) (k : ℕ) → SafeWorld w → k ≢ s → HappensClearing w s leaving v → IsLeftAlone w v k
clearing-others w s false v k safe other h = cleared-others w s h.0 v k other h.2
clearing-others w s true v k safe other (inl h) =
    IsLeftAlone-same k w _ v h.4
    (IsLeftAlone-by w _ k refl refl (set_at-else w.sessions.awaited s None k other) (set_at-else w.sessions.seen s false k other)
    (recorded-others w s (partition_of h.0.tag) (Leave h.0.tag) _ _ k safe other h.3.may_move.holding (set_at-else w.contents.now (partition_of h.0.tag) h.2)) refl refl refl refl refl)
clearing-others w s true v k safe other (inr h) = cleared-others w s h.0 v k other h.3
