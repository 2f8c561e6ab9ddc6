use Rattle.std.proofs.Common.{ℕ, ◌*◌, ◌<◌, ◌≤◌, ◌∙◌, subst, arith}
use Rattle.lock_world.specs.Account.{account}
use Rattle.lock_table.specs.Total.{total}
use Rattle.lock_world.specs.World.{opening}
use Rattle.lock_world.specs.SlotHolds.{group_size, most_groups, slot_count}
use Rattle.lock_world.specs.Tallies.{OwnStand}
use Rattle.lock_world.proofs.Lemmas.FromSafeWorld.{holder-within}
use Rattle.lock_world.proofs.Lemmas.SafeWorld.Opening.{opening-safe}
use Rattle.lock_world.proofs.Lemmas.SafeWorld.Runs.{Runs-safe}
use Rattle.lock_world.proofs.Lemmas.Remembered.{remembered-once, groups-of_run}
use Rattle.lock_world.proofs.Lemmas.OwnStand.{own-stand, shows-left}
use Rattle.lock_world.proofs.Lemmas.Tallies.Counters.{counters-sum}
use Rattle.lock_world.proofs.Lemmas.Tallies.Sessions.{all-sum}
use Rattle.lock_world.proofs.laws.what_all_sessions_own_adds_up.Goals as goal

within-all : (groups place : ℕ) → groups ≤ most_groups → place < group_size * groups → place < slot_count
within-all groups place few within = omega (arith, few, within)

pub returns-clause-holds : goal.returns-clause-holds
returns-clause-holds c =
    λ limit groups events w rows many few some few_groups run no_wait listing owned.
    let safe = Runs-safe (opening limit groups) events w (opening-safe limit groups few) run in
    let once = remembered-once limit groups events w few run in
    let as_many = groups-of_run limit groups events w run in
    all-sum w.numbers.limit groups some few_groups (account w) w.contents.now w.words.slot many
    (λ k. subst (λ n. OwnStand n k (account w k) w.contents.now) as_many (own-stand w safe k (once k).0 (once k).1 (no_wait k)))
    (λ k place below within. shows-left w safe k (once k).0 place (within-all groups place few_groups within))
    owned (holder-within w safe) rows listing.each_once

pub returns-clause-counters : goal.returns-clause-counters
returns-clause-counters c =
    λ w safe.
    (λ i. total 1024 (λ index. safe.counters.shown index i)) ∙ counters-sum w.numbers.limit w.sessions.counted
