use Rattle.std.proofs.Common.{◌≤◌, List, ◌∷◌, ◌++◌, None, sym, ap, ◌∙◌, subst, arith}
use Rattle.lock_world.specs.Account.{Account}
use Rattle.lock_world.specs.declared.events.Event.{Event}
use Rattle.lock_world.specs.declared.events.Step.TheVariants.{JoinSeat}
use Rattle.lock_world.specs.Happens.{RunsThrough, last_of}
use Rattle.lock_world.specs.World.{World, opening}
use Rattle.lock_world.proofs.Lemmas.SafeWorld.Opening.{opening-safe}
use Rattle.lock_world.proofs.Lemmas.Telling.{each-told}
use Rattle.shared_rule.proofs.Lemmas.MetViews.{before-get}
use Rattle.shared_rule.proofs.Lemmas.Told.{leads-runs, through-both, last-both}
use Rattle.shared_rule.proofs.laws.what_an_account_tells_was_so.Goals as goal
use Rattle.modes_core.specs.Sessions.{most_sessions}

pub returns-clause-at_seat : goal.returns-clause-at_seat
returns-clause-at_seat g c =
    λ sizes state rule history stood before after entry told.
    let shown = rule.seats.history stood.seat stood.place stood.view history stood.there stood.stands in
    let few : sizes.sessions ≤ most_sessions = rule.shown.few in
    let run = leads-runs (opening sizes.sessions sizes.groups) rule.events rule.world rule.run in
    let was = each-told sizes.sessions sizes.groups rule.events run.0 history.number before after entry (opening-safe sizes.sessions sizes.groups (omega (arith, few))) run.1
    (ap (λ (w : World). w.sessions.trace history.number) (sym run.2) ∙ sym (ap (λ (a : Account). a.trace) shown.account) ∙ told) in
    record {
      events = rule.events;
      worlds = run.0;
      run = run.1;
      ends = run.2;
      place = was.0;
      world = was.1;
      on_the_way = was.3;
      next = was.2;
      then = was.4;
      trace = was.5;
      tells = was.6;
    }

pub returns-clause-closed : goal.returns-clause-closed
returns-clause-closed g c =
    λ sizes state rule history stood before after entry told.
    let so = rule.closed_so history stood in
    let few : sizes.sessions ≤ most_sessions = rule.shown.few in
    let first : World = opening sizes.sessions sizes.groups in
    let rest : List Event = record { session = history.number; step = JoinSeat None } ∷ so.after in
    let one = leads-runs first so.before so.world so.run in
    let two = leads-runs so.world rest rule.world so.rest in
    let was = each-told sizes.sessions sizes.groups so.before one.0 history.number before after entry (opening-safe sizes.sessions sizes.groups (omega (arith, few))) one.1
    (ap (λ (w : World). w.sessions.trace history.number) (sym one.2) ∙ sym (ap (λ (a : Account). a.trace) so.account) ∙ told) in
    record {
      events = so.before ++ rest;
      worlds = one.0 ++ two.0;
      run = through-both first so.before one.0 rest two.0 one.1 (subst (λ w. RunsThrough w rest two.0) one.2 two.1);
      ends = two.2 ∙ ap (λ w. last_of w two.0) one.2 ∙ sym (last-both first one.0 two.0);
      place = was.0;
      world = was.1;
      on_the_way = before-get (first ∷ one.0) two.0 was.0 was.1 was.3;
      next = was.2;
      then = before-get one.0 two.0 was.0 was.2 was.4;
      trace = was.5;
      tells = was.6;
    }
