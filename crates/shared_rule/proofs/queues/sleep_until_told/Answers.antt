use Rattle.std.proofs.Common.{◌∙◌}
use Rattle.lock_world.specs.AccountSteps.{account_loading_sleep}
use Rattle.shared_rule.specs.Plays.{account_at}
use Rattle.shared_rule.proofs.Lemmas.Led.{led-as, led-then, slept-told, slept-on}
use Rattle.shared_rule.proofs.Lemmas.Parks.{may-still}
use Rattle.shared_rule.proofs.queues.sleep_until_told.Goals as goal

pub returns-then-shown-clause-led : goal.returns-then-shown-clause-led
returns-then-shown-clause-led g c =
    let content = g.T.PartTable.content in
    let seat = c.args.seat.now in
    let shown = c.load_sleep-shown.result in
    led-as content seat c.load_sleep-shown.new.seat _ _
    (led-then content seat c.loop.seat c.load_sleep-shown.new.seat (account_at content seat)
    (λ a. account_loading_sleep a shown) c.loop.invariant.led c.load_sleep-shown.ensures.led)
    (slept-told (account_at content seat) shown c.if-shown.true)

pub park_asleep-requires-clause-may : goal.park_asleep-requires-clause-may
park_asleep-requires-clause-may g c =
    let content = g.T.PartTable.content in
    let seat = c.args.seat.now in
    let shown = c.load_sleep-shown.result in
    may-still content seat c.load_sleep-shown.new.seat
    (led-as content seat c.load_sleep-shown.new.seat _ _
    (led-then content seat c.loop.seat c.load_sleep-shown.new.seat (account_at content seat)
    (λ a. account_loading_sleep a shown) c.loop.invariant.led c.load_sleep-shown.ensures.led)
    (slept-on (account_at content seat) shown c.if-shown.false)) c.requires.may

pub loop-preserved : goal.loop-preserved
loop-preserved g c =
    let content = g.T.PartTable.content in
    let seat = c.args.seat.now in
    let shown = c.load_sleep-shown.result in
    record {
      led = led-then content seat c.load_sleep-shown.new.seat c.park_asleep.new.seat (account_at content seat) (λ a. a)
          (led-as content seat c.load_sleep-shown.new.seat _ _
          (led-then content seat c.loop.seat c.load_sleep-shown.new.seat (account_at content seat)
          (λ a. account_loading_sleep a shown) c.loop.invariant.led c.load_sleep-shown.ensures.led)
          (slept-on (account_at content seat) shown c.if-shown.false)) c.park_asleep.ensures.led;
      shelves = c.park_asleep.ensures.shelves ∙ c.load_sleep-shown.ensures.shelves ∙ c.loop.invariant.shelves;
    }
