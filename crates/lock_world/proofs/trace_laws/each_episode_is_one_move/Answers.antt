use Rattle.std.proofs.Common.{None, subst, inl, inr}
use Rattle.lock_world.specs.World.{Episode}
use Rattle.lock_world.specs.Safe.{EpisodesAreMoves}
use Rattle.lock_world.proofs.Lemmas.Traces.{episode-sound, was_taken}
use Rattle.lock_world.proofs.trace_laws.each_episode_is_one_move.Goals as goal

pub returns-clause-moved : goal.returns-clause-moved
returns-clause-moved c =
    λ w safe s p taken put_back before after is.
    episode-sound s (λ _. None) before after (Episode p taken put_back) (subst (EpisodesAreMoves s (λ _. None)) is (safe.but_slots.traces.episodes s))

pub returns-clause-was_taken : goal.returns-clause-was_taken
returns-clause-was_taken c =
    λ p taken before is.
    elim (was_taken (λ _. None) before p taken is) [
      | inl nothing ↦ absurd (cc)
      | inr found ↦ found
    ]
