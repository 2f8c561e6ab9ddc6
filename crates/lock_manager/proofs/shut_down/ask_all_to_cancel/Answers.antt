use Rattle.std.proofs.Common.{rules, ◌≡◌, ℕ, ◌+◌, ◌<◌, ◌∙◌, subst, sym}
use Rattle.std.specs.Prelude.{IfSome}
use Rattle.shared_rule.specs.Boards.{Seated}
use Rattle.lock_manager.specs.Waiting.{Asks}
use Rattle.lock_manager.specs.ShutDown.{AsksAll}
use Rattle.lock_manager.proofs.Lemmas.ShutDown.{asks-waiting, asks-idle}
use Rattle.lock_manager.proofs.shut_down.ask_all_to_cancel.Goals as goal
use Rattle.lock_manager.proofs.shut_down.ask_all_to_cancel.Goals.{in-Waiting, in-NotWaiting}

pub loop-number-preserved : goal.loop-number-preserved
loop-number-preserved g c =
    let number = c.loop-number.number in
    let a = g.B.Board.view c.args.board.now in
    let b = g.B.Board.view c.loop-number.board in
    let new = g.B.Board.view c.ask_cancel.new.board in
    let other : c.unwrap-other.result ≡ number = subst (λ found. IfSome found (λ id. id ≡ number)) c.unwrap-other.ensures c.new.ensures.value in
    let asks : Asks b number c.ask_cancel.result new = subst (λ (n : ℕ). Asks b n c.ask_cancel.result new) other (c.ask_cancel.ensures.asked.one
    (subst (λ (n : ℕ). n < (g.B.Board.seat c.loop-number.board).limit) (sym other)
    (subst (λ (s : Seated). number < s.limit) (sym c.loop-number.invariant.seat) (search rules)))) in
    record {
      asked =
          elim c.match-ask_cancel.branch [
            | in-Waiting w ↦ subst (λ (n : ℕ). AsksAll (number + 1) a n new) (sym w.waited-is)
                (asks-waiting number c.loop-number.waited a b new c.loop-number.invariant.asked c.ask_cancel.result asks w.in-Waiting.is)
            | in-NotWaiting w ↦ subst (λ (n : ℕ). AsksAll (number + 1) a n new) (sym w.waited-is)
                (asks-idle number c.loop-number.waited a b new c.loop-number.invariant.asked c.ask_cancel.result asks w.in-NotWaiting.is)
          ];
      quiet = c.ask_cancel.ensures.quiet ∙ c.loop-number.invariant.quiet;
      stack = c.ask_cancel.ensures.stack ∙ c.loop-number.invariant.stack;
      seat = c.ask_cancel.ensures.seat ∙ c.loop-number.invariant.seat;
    }
