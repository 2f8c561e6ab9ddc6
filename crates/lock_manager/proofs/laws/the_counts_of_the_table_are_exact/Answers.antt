use Rattle.std.proofs.Common.{◌≡◌, ℕ, ◌<◌, ◌≤◌, true, Option, Some, None, subst, inl, inr, arith}
use Rattle.std.proofs.lemmas.Bool.{cases_Bool}
use lib.ListN.{get_elem?}
use Rattle.lock_table.specs.Content.{Content}
use Rattle.lock_table.specs.Queue.{waits_there}
use Rattle.lock_world.specs.World.{World, Hand}
use Rattle.lock_world.specs.SafeWorld.{SafeWorld, tabled}
use Rattle.lock_world.proofs.Lemmas.FromSafe.{session-stands, stands-once}
use Rattle.lock_world.proofs.Lemmas.FromSafeWorld.{live-within}
use Rattle.lock_records.specs.Counts.{AreCountsOf, IsUntouched}
use Rattle.lock_records.specs.View.{RecordView, content_of}
use Rattle.lock_records.proofs.Lemmas.Sessions.{count-sessions}
use Rattle.modes_core.specs.declared.tags.Tag.{Tag}
use Rattle.shared_rule.specs.Layout.{content_shelf_of}
use Rattle.shared_rule.specs.Ruled.{IsHomeUnlessInHand, IsAtHome}
use Rattle.lock_manager.proofs.laws.the_counts_of_the_table_are_exact.Goals as goal
use Rattle.modes_core.specs.Sessions.{most_sessions}

-- Whoever stands in a queue has a number below the limit.
waiter-within : (w : World) → SafeWorld w → (p s : ℕ) (t : Tag) → waits_there ((w.contents.now p).waits t) s ≡ true → s < w.numbers.limit
waiter-within w safe p s t there =
    elim (cases_Bool (w.numbers.live s)) [
      | inl alive ↦ live-within w safe s alive
      | inr dead ↦
          let none : w.sessions.awaited s ≡ None = safe.but_slots.table.promise.spent.no_wait s dead in
          let found = session-stands (tabled w) safe.but_slots p s t there in
          let some : w.sessions.awaited s ≡ Some found.1.1.wait = found.1.1.is_wait in
          absurd (cc (none, some))
    ]

pub returns : goal.returns
returns c = λ sizes state rule p below at_home.
    let w = rule.world in
    let home : IsAtHome content_of (λ (part : RecordView). part.begun) (w.contents.now p) (get_elem? state.homes (content_shelf_of p)) =
    subst (λ (h : Option Hand). IsHomeUnlessInHand content_of (λ (part : RecordView). part.begun) h (w.contents.now p) (get_elem? state.homes (content_shelf_of p))) at_home
    (rule.shown.of_contents p below) in
    let few : sizes.sessions ≤ most_sessions = rule.shown.few in
    let limit : w.numbers.limit ≡ sizes.sessions = rule.is_limit in (
      home.part,
      home.at_home,
      λ tag counts are.
          count-sessions (w.contents.now p) tag counts (λ s. stands-once (tabled w) rule.safe.but_slots p s tag)
          (λ s there. let within = waiter-within w rule.safe p s tag there in omega (arith, within, few, limit))
          (subst (λ (k : Content). AreCountsOf k tag counts) home.is_content are),
      λ tag none. subst (λ (k : Content). IsUntouched k tag) home.is_content none,
    )
