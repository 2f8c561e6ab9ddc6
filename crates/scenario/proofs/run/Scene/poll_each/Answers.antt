use Rattle.std.proofs.Common.{◌<◌, ◌∙◌, Bool, arith, length, rules, subst}
use Rattle.scenario.specs.Played.{IsPollHeard}
use Rattle.scenario.proofs.Lemmas.Playing.{pass-goes, pass-stays}
use Rattle.scenario.proofs.run.Scene.poll_each.Goals as goal

pub places-preserved-then-branch : goal.places-preserved-then-branch
places-preserved-then-branch g c =
    let heard =
    subst (λ (went : Bool). IsPollHeard g.B.Board.seat g.B.Board.view g.B.Board.stack g.L.Listener.hears (record { sessions = c.places.self.state.sessions; names = c.places.self.state.names }) c.places.self.listener c.places.place went
    (record { sessions = c.poll.new.self.state.sessions; names = c.poll.new.self.state.names }) c.poll.new.self.listener) c.if-branch.true c.in_ok-poll.ensures.polled in
    let less : length c.poll.new.self.state.sessions.waiting < length c.places.self.state.sessions.waiting = search rules in
    record {
      no_more = omega (arith, c.poll.ensures.no_more, c.places.invariant.no_more);
      fewer = λ _. omega (arith, less, c.places.invariant.no_more);
      names = heard.3 ∙ c.places.invariant.names;
      pass = pass-goes g.B.Board.seat g.B.Board.view g.B.Board.stack g.L.Listener.hears (record { sessions = c.args.self.now.state.sessions; names = c.args.self.now.state.names }) (record { sessions = c.places.self.state.sessions; names = c.places.self.state.names }) (record { sessions = c.poll.new.self.state.sessions; names = c.poll.new.self.state.names }) c.args.self.now.listener c.places.self.listener
          c.poll.new.self.listener c.places.went_on c.places.place c.places.invariant.pass (search rules) c.places.invariant.names heard;
    }

pub places-preserved : goal.places-preserved
places-preserved g c =
    let heard =
    subst (λ (went : Bool). IsPollHeard g.B.Board.seat g.B.Board.view g.B.Board.stack g.L.Listener.hears (record { sessions = c.places.self.state.sessions; names = c.places.self.state.names }) c.places.self.listener c.places.place went
    (record { sessions = c.poll.new.self.state.sessions; names = c.poll.new.self.state.names }) c.poll.new.self.listener) c.if-branch.false c.in_ok-poll.ensures.polled in
    record {
      no_more = omega (arith, c.poll.ensures.no_more, c.places.invariant.no_more);
      fewer = λ e. omega (arith, c.poll.ensures.no_more, c.places.invariant.fewer e);
      names = heard.1 ∙ c.places.invariant.names;
      pass = pass-stays g.B.Board.seat g.B.Board.view g.B.Board.stack g.L.Listener.hears (record { sessions = c.args.self.now.state.sessions; names = c.args.self.now.state.names }) (record { sessions = c.places.self.state.sessions; names = c.places.self.state.names }) (record { sessions = c.poll.new.self.state.sessions; names = c.poll.new.self.state.names }) c.args.self.now.listener c.places.self.listener
          c.poll.new.self.listener c.places.went_on c.places.place c.places.invariant.pass (search rules) heard;
    }
