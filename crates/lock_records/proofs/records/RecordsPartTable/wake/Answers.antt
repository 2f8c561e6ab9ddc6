use Rattle.std.proofs.Common.{◌≡◌, ◌<◌, ◌≤◌, ◌+◌, ◌-◌, ◌∷◌, [], ◌++◌, length, List, Some, None, slice_get, refl, sym, ap, ◌∙◌, subst, arith, length-append}
use Rattle.std.proofs.lemmas.List.{length_push}
use Rattle.modes_core.specs.ModeSet.{set_has}
use Rattle.lock_table.specs.Content.{Wait}
use Rattle.lock_table.specs.Queue.{awaits_mode}
use Rattle.lock_records.specs.Queues.{queue_on, waiting_in}
use Rattle.lock_table.specs.Waiter.{shown_wait}
use Rattle.lock_table.proofs.Lemmas.Capacities.{not_above-same, not_above-then}
use Rattle.lock_table.proofs.Lemmas.Walk.{StandFor-none, StandFor-more}
use Rattle.lock_records.specs.View.{RecordView, content_of}
use Rattle.lock_records.proofs.Lemmas.Wakings.{WakingTo, waking-start, waking-stay, waking-go, waking-end, seam, behind-some, behind-none, free-from, not-free-from, awaits-middle}
use Rattle.lock_records.proofs.records.RecordsPartTable.wake.Goals as goal
use Rattle.lock_records.proofs.records.RecordsPartTable.wake.Goals.{In-Some, After-grant_wait}

pub loop-waiter-init : goal.loop-waiter-init
loop-waiter-init c = (
  [],
  queue_on c.args.self.now.queues c.args.tag.now,
  rw c.forget_woken.ensures
      (waking-start (content_of c.args.self.now) c.args.tag.now [] refl
      (λ session. rw (← c.self.view_is) ((c.self.invariant.objects c.args.tag.now).waiting.one_each session))),
  refl,
  StandFor-none (set_has c.empty-ahead.result) c.empty-ahead.ensures,
  ap (λ (part : RecordView). part.begun) c.forget_woken.ensures,
  rw c.forget_woken.ensures (rw (← c.self.view_is) (omega (arith, c.self.invariant.woken_room))),
  not_above-same _ _ (ap (λ (part : RecordView). part.capacity) c.forget_woken.ensures),
)

-- the waiter stands behind those that were passed
next : (c : In-Some) → (rest : List Wait) × (c.loop-waiter.invariant.1 ≡ shown_wait c.in-Some.waiter ∷ rest)
next c =
    let so_far = c.loop-waiter.invariant in
    let at : slice_get (queue_on c.loop-waiter.self.queues c.args.tag.now) c.loop-waiter.place ≡ Some (shown_wait c.in-Some.waiter) = sym (c.in-Some.ensures {u = tt}).wait in
    behind-some so_far.1 (shown_wait c.in-Some.waiter)
    (sym (seam so_far.0 so_far.1) ∙ ap (slice_get (so_far.0 ++ so_far.1)) so_far.3 ∙ ap (λ queue. slice_get queue c.loop-waiter.place) (sym so_far.2.here) ∙ at)

-- so far, with it first of those to come
waking : (c : In-Some) → (rest : List Wait) → c.loop-waiter.invariant.1 ≡ shown_wait c.in-Some.waiter ∷ rest →
    WakingTo (content_of c.args.self.now) c.args.tag.now (content_of c.loop-waiter.self) c.loop-waiter.invariant.0 (shown_wait c.in-Some.waiter ∷ rest) c.loop-waiter.self.woken
waking c rest parts = subst (λ todo. WakingTo (content_of c.args.self.now) c.args.tag.now (content_of c.loop-waiter.self) c.loop-waiter.invariant.0 todo c.loop-waiter.self.woken) parts c.loop-waiter.invariant.2

pub grant_wait-requires : goal.grant_wait-requires
grant_wait-requires c =
    let at = (goal.at.grant_wait-requires c).In-Some in
    let behind = next at in
    ap (λ queue. awaits_mode queue c.in-Some.waiter.session c.in-Some.waiter.mode) (waking at behind.0 behind.1).here ∙ awaits-middle c.loop-waiter.invariant.0 behind.0 (shown_wait c.in-Some.waiter)

-- with it among those that became holds
gone : (c : After-grant_wait) → (at : In-Some) → (rest : List Wait) →
    WakingTo (content_of c.args.self.now) c.args.tag.now (content_of c.loop-waiter.self) c.loop-waiter.invariant.0 (shown_wait c.in-Some.waiter ∷ rest) c.loop-waiter.self.woken →
    WakingTo (content_of c.args.self.now) c.args.tag.now (content_of c.grant_wait.new.self) c.loop-waiter.invariant.0 rest (c.loop-waiter.self.woken ++ (c.in-Some.waiter.session, c.in-Some.waiter.mode) ∷ [])
gone c at rest so_far =
    waking-go (content_of c.args.self.now) c.args.tag.now (content_of c.loop-waiter.self) (content_of c.grant_wait.new.self) c.loop-waiter.invariant.0 rest (shown_wait c.in-Some.waiter) c.loop-waiter.self.woken
    (free-from (content_of c.loop-waiter.self).holds c.in-Some.waiter.session c.args.tag.now c.in-Some.waiter.mode (set_has c.loop-waiter.ahead) c.loop-waiter.invariant.0 c.loop-waiter.invariant.4
    (c.is_free.ensures.free c.if-is_free.true)) c.grant_wait.ensures.content so_far

-- there is room for its name
named : (c : After-grant_wait) → length c.grant_wait.new.self.woken + (waiting_in c.grant_wait.new.self.queues + 1) ≤ c.grant_wait.new.self.capacity.woken
named c = omega (arith, c.loop-waiter.invariant.6, ap length c.grant_wait.ensures.woken, c.grant_wait.ensures.one_less, c.grant_wait.ensures.woken_room)

pub note_woken-requires : goal.note_woken-requires
note_woken-requires c = let room = named (goal.at.note_woken-requires c).After-grant_wait in omega (arith, room)

pub loop-waiter-preserved-then-is_free : goal.loop-waiter-preserved-then-is_free
loop-waiter-preserved-then-is_free c =
    let at = (goal.at.loop-waiter-preserved-then-is_free c).In-Some in
    let behind = next at in
    let at_grant = (goal.at.loop-waiter-preserved-then-is_free c).After-grant_wait in
    let all = gone at_grant at behind.0 (waking at behind.0 behind.1) in (
      c.loop-waiter.invariant.0,
      behind.0,
      rw (c.note_woken.ensures, c.grant_wait.ensures.woken) all,
      c.loop-waiter.invariant.3,
      c.loop-waiter.invariant.4,
      ap (λ (part : RecordView). part.begun) c.note_woken.ensures ∙ c.grant_wait.ensures.begun ∙ c.loop-waiter.invariant.5,
      rw c.note_woken.ensures (omega (arith, named at_grant, length_push c.grant_wait.new.self.woken (c.in-Some.waiter.session, c.in-Some.waiter.mode))),
      rw c.note_woken.ensures (not_above-then _ _ _ c.loop-waiter.invariant.7 c.grant_wait.ensures.no_memory_taken),
    )

pub loop-waiter-smaller-then-is_free : goal.loop-waiter-smaller-then-is_free
loop-waiter-smaller-then-is_free c =
    let at = (goal.at.loop-waiter-smaller-then-is_free c).In-Some in
    let behind = next at in
    let was = waking at behind.0 behind.1 in
    let now = gone (goal.at.loop-waiter-smaller-then-is_free c).After-grant_wait at behind.0 was in
    let before : length (queue_on c.loop-waiter.self.queues c.args.tag.now) ≡ length c.loop-waiter.invariant.0 + (length behind.0 + 1) =
    ap length was.here ∙ length-append c.loop-waiter.invariant.0 (shown_wait c.in-Some.waiter ∷ behind.0) ∙ (let e : length c.loop-waiter.invariant.0 + length (shown_wait c.in-Some.waiter ∷ behind.0) ≡ length c.loop-waiter.invariant.0 + (length behind.0 + 1) = omega arith in e) in
    let after : length (queue_on c.grant_wait.new.self.queues c.args.tag.now) ≡ length c.loop-waiter.invariant.0 + length behind.0 =
    ap length now.here ∙ length-append c.loop-waiter.invariant.0 behind.0 in
    rw c.note_woken.ensures
    (let less : length (queue_on c.grant_wait.new.self.queues c.args.tag.now) - c.loop-waiter.place < length (queue_on c.loop-waiter.self.queues c.args.tag.now) - c.loop-waiter.place =
    omega (arith, before, after, c.loop-waiter.invariant.3) in less)

-- how long the queue is
behind-place : (c : In-Some) → (rest : List Wait) →
    WakingTo (content_of c.args.self.now) c.args.tag.now (content_of c.loop-waiter.self) c.loop-waiter.invariant.0 (shown_wait c.in-Some.waiter ∷ rest) c.loop-waiter.self.woken →
    c.loop-waiter.place + 1 ≤ length (queue_on c.loop-waiter.self.queues c.args.tag.now)
behind-place c rest so_far =
    let before : length (queue_on c.loop-waiter.self.queues c.args.tag.now) ≡ length c.loop-waiter.invariant.0 + (length rest + 1) =
    ap length so_far.here ∙ length-append c.loop-waiter.invariant.0 (shown_wait c.in-Some.waiter ∷ rest) ∙ (let e : length c.loop-waiter.invariant.0 + length (shown_wait c.in-Some.waiter ∷ rest) ≡ length c.loop-waiter.invariant.0 + (length rest + 1) = omega arith in e) in
    omega (arith, before, c.loop-waiter.invariant.3)

pub overflow_add-place : goal.overflow_add-place
overflow_add-place c =
    let at = (goal.at.overflow_add-place c).In-Some in
    let behind = next at in
    omega (arith, behind-place at behind.0 (waking at behind.0 behind.1), c.waiter.ensures.countable)

pub loop-waiter-smaller : goal.loop-waiter-smaller
loop-waiter-smaller c =
    let at = (goal.at.loop-waiter-smaller c).In-Some in
    let behind = next at in
    let within = behind-place at behind.0 (waking at behind.0 behind.1) in
    let less : length (queue_on c.loop-waiter.self.queues c.args.tag.now) - (c.loop-waiter.place + 1) < length (queue_on c.loop-waiter.self.queues c.args.tag.now) - c.loop-waiter.place = omega (arith, within) in
    less

pub loop-waiter-preserved : goal.loop-waiter-preserved
loop-waiter-preserved c =
    let at = (goal.at.loop-waiter-preserved c).In-Some in
    let behind = next at in (
      c.loop-waiter.invariant.0 ++ shown_wait c.in-Some.waiter ∷ [],
      behind.0,
      waking-stay (content_of c.args.self.now) c.args.tag.now (content_of c.loop-waiter.self) c.loop-waiter.invariant.0 behind.0 (shown_wait c.in-Some.waiter) c.loop-waiter.self.woken
          (not-free-from (content_of c.loop-waiter.self).holds c.in-Some.waiter.session c.args.tag.now c.in-Some.waiter.mode (set_has c.loop-waiter.ahead) c.loop-waiter.invariant.0 c.loop-waiter.invariant.4
          (c.is_free.ensures.taken c.if-is_free.false)) (waking at behind.0 behind.1),
      omega (arith, length_push c.loop-waiter.invariant.0 (shown_wait c.in-Some.waiter), c.loop-waiter.invariant.3),
      StandFor-more (set_has c.loop-waiter.ahead) (set_has c.with-ahead.result) c.loop-waiter.invariant.0 (shown_wait c.in-Some.waiter) c.loop-waiter.invariant.4 c.with-ahead.ensures,
      c.loop-waiter.invariant.5,
      c.loop-waiter.invariant.6,
      c.loop-waiter.invariant.7,
    )

pub returns-clause-woken : goal.returns-clause-woken
returns-clause-woken c =
    let so_far = c.loop-waiter.invariant in
    let at : slice_get (queue_on c.loop-waiter.self.queues c.args.tag.now) c.loop-waiter.place ≡ None = sym (c.in_default.ensures {u = tt}).wait in
    let none = behind-none so_far.1 (sym (seam so_far.0 so_far.1) ∙ ap (slice_get (so_far.0 ++ so_far.1)) so_far.3 ∙ ap (λ queue. slice_get queue c.loop-waiter.place) (sym so_far.2.here) ∙ at) in
    waking-end (content_of c.args.self.now) c.args.tag.now (content_of c.loop-waiter.self) so_far.0 c.loop-waiter.self.woken
    (subst (λ todo. WakingTo (content_of c.args.self.now) c.args.tag.now (content_of c.loop-waiter.self) so_far.0 todo c.loop-waiter.self.woken) none so_far.2)

pub returns-clause-begun : goal.returns-clause-begun
returns-clause-begun c = c.loop-waiter.invariant.5

pub returns-clause-no_memory_taken : goal.returns-clause-no_memory_taken
returns-clause-no_memory_taken c = c.loop-waiter.invariant.7
