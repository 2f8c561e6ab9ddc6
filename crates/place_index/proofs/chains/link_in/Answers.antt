use Rattle.std.proofs.Common.{◌≢◌, ℕ, ◌<◌, subst}
use Rattle.place_index.specs.Chains.{end_of_chain, head_at}
use Rattle.place_index.proofs.chains.link_in.Goals as goal
use Rattle.place_index.proofs.chains.link_in.Goals.{then-head-via-then-head, then-head-via-else-head+then-head-place}

pub link_first-requires-clause-first : goal.link_first-requires-clause-first
link_first-requires-clause-first c =
    let heads = c.args.heads.now in
    subst (λ (s : ℕ). head_at heads s ≢ end_of_chain → head_at heads s < c.args.place) c.start_of.ensures.is (λ goes. elim c.then-head.branch [
      | then-head-via-then-head w ↦ absurd (goes w.if-head.true)
      | then-head-via-else-head+then-head-place w ↦ w.if-head-place.true
    ])
