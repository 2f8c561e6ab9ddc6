use Rattle.std.proofs.Common.{◌++◌, ◌∷◌, ◌∙◌, ℕ, [], List, Result, Ok, Err, refl, sym, ap, subst}
use Rattle.modes_core.specs.declared.refusals.Refusal.{Refusal}
use Rattle.shared_rule.specs.Boards.{Seated}
use Rattle.fast_path.specs.Transfers.{Transfers, IsCutShort}
use Rattle.fast_path.specs.declared.use_counts.UseCounts.{UseCounts}
use Rattle.wait_queue.specs.declared.requests.Decision.{Decision}
use Rattle.lock_manager.specs.Rest.{IsUseCount}
use Rattle.lock_world.specs.Account.{Account}
use Rattle.lock_world.specs.World.{TraceEntry}
use Rattle.wait_queue.specs.Decide.{IsAfterRoom}
use Rattle.lock_manager.specs.Requests.{DecidesInPart, HadRoom}
use Rattle.fast_path.proofs.Lemmas.Counts.{counted_at}
use Rattle.lock_manager.proofs.Lemmas.Requests.Whole.{IsLed, led-transferred, led-decides, led-account, led-refused_steps, led-refused_strong, led-refused_use_count}
use Rattle.lock_manager.proofs.Lemmas.Requests.Whole.{strong-counted, requests-decided, transferred, cut_short, scanned-use_count, decided-use_count}
use Rattle.lock_manager.proofs.requests.request_strong.Given as given
use Rattle.lock_manager.proofs.requests.request_strong.Goals as goal
use Rattle.lock_manager.proofs.requests.request_strong.Goals.{After-decide_in_part}

-- some use counts, where it doesn't matter which
some_counts : UseCounts
some_counts = record { counts = [] }

pub returns-then-is_err-clause-use_count : goal.returns-then-is_err-clause-use_count
returns-then-is_err-clause-use_count g c uses its =
    let before = g.B.Board.view c.args.board.now in
    let after = g.B.Board.view c.transfer.new.board in
    let cut : IsCutShort (g.B.Board.seat c.args.board.now).groups (g.B.Board.seat c.args.board.now).limit before c.args.tag.now after =
    cut_short (g.B.Board.seat c.args.board.now).groups (g.B.Board.seat c.args.board.now).limit before c.args.tag.now c.args.mode c.transfer.result after c.is_err.result c.is_err.ensures.value c.if-is_err.true
    c.transfer.ensures.transferred in
    scanned-use_count (g.B.Board.seat c.args.board.now).groups before after before.fast.counted cut.steps uses cut.after its

-- Before the episode the strong mode was counted, and what was in its way in slots was moved.
past : (g : given.Over) (c : goal.After-decide_in_part g)
    → Transfers (g.B.Board.seat c.args.board.now).groups (g.B.Board.seat c.args.board.now).limit (g.B.Board.view c.args.board.now) c.args.tag.now c.args.mode
    (g.B.Board.view c.transfer.new.board)
past g c =
    let seat = g.B.Board.seat c.args.board.now in
    transferred seat.groups seat.limit (g.B.Board.view c.args.board.now) c.args.tag.now c.args.mode c.transfer.result (g.B.Board.view c.transfer.new.board)
    c.is_err.result c.is_err.ensures.value c.if-is_err.false c.transfer.ensures.transferred

led : (g : given.Over) (c : goal.After-decide_in_part g) (uses : UseCounts)
    → IsLed (g.B.Board.seat c.args.board.now).groups (g.B.Board.seat c.args.board.now).limit (g.B.Board.view c.args.board.now) uses c.args.tag.now c.args.mode
    ((g.B.Board.view c.args.board.now).fast.counted ++ counted_at c.args.tag.now c.args.mode (g.B.Board.seat c.args.board.now).limit ∷ [])
    (g.B.Board.view c.transfer.new.board) uses
led g c uses =
    led-transferred (g.B.Board.seat c.args.board.now).groups (g.B.Board.seat c.args.board.now).limit (g.B.Board.view c.args.board.now)
    (g.B.Board.view c.transfer.new.board) uses c.args.tag.now c.args.mode c.requires.strong (past g c)

-- The episode, by the number that the session had before.
decides : (g : given.Over) (c : goal.After-decide_in_part g) (result : Result Decision Refusal)
    → DecidesInPart c.args.kind (g.B.Board.seat c.transfer.new.board).number (g.B.Board.view c.transfer.new.board) c.args.tag.now c.args.mode result
    (g.B.Board.view c.decide_in_part.new.board)
    → DecidesInPart c.args.kind (g.B.Board.seat c.args.board.now).number (g.B.Board.view c.transfer.new.board) c.args.tag.now c.args.mode result
    (g.B.Board.view c.decide_in_part.new.board)
decides g c result decided =
    subst (λ (s : Seated). DecidesInPart c.args.kind s.number (g.B.Board.view c.transfer.new.board) c.args.tag.now c.args.mode result
    (g.B.Board.view c.decide_in_part.new.board)) c.transfer.ensures.seat decided

scanned : (g : given.Over) (c : goal.After-decide_in_part g) (uses : UseCounts)
    → IsUseCount (g.B.Board.seat c.args.board.now).groups (g.B.Board.view c.args.board.now) uses
    → IsUseCount (g.B.Board.seat c.args.board.now).groups (g.B.Board.view c.transfer.new.board) uses
scanned g c uses its =
    scanned-use_count (g.B.Board.seat c.args.board.now).groups (g.B.Board.view c.args.board.now) (g.B.Board.view c.transfer.new.board)
    ((g.B.Board.view c.args.board.now).fast.counted ++ counted_at c.args.tag.now c.args.mode (g.B.Board.seat c.args.board.now).limit ∷ [])
    (past g c).steps uses (past g c).after its

pub returns-in-Ok-clause-steps : goal.returns-in-Ok-clause-steps
returns-in-Ok-clause-steps g c uses =
    let at = (goal.at.returns-in-Ok-clause-steps g c).After-decide_in_part in
    let before = g.B.Board.view c.args.board.now in
    let after = g.B.Board.view c.decide_in_part.new.board in
    requests-decided c.args.kind (g.B.Board.seat c.args.board.now) before after uses uses c.args.tag.now c.args.mode (Ok c.in-Ok.decision)
    (led-decides c.args.kind (g.B.Board.seat c.args.board.now) before (g.B.Board.view c.transfer.new.board) after uses uses c.args.tag.now c.args.mode _
    (led g at uses) (Ok c.in-Ok.decision) (decides g at (Ok c.in-Ok.decision) c.in-Ok.ensures.decided))

pub returns-in-Ok-clause-account : goal.returns-in-Ok-clause-account
returns-in-Ok-clause-account g c =
    let at = (goal.at.returns-in-Ok-clause-account g c).After-decide_in_part in
    let before = g.B.Board.view c.args.board.now in
    led-account c.args.kind (g.B.Board.seat c.args.board.now) before (g.B.Board.view c.transfer.new.board) (g.B.Board.view c.decide_in_part.new.board)
    some_counts some_counts c.args.tag.now c.args.mode _ (led g at some_counts)
    (strong-counted (g.B.Board.seat c.args.board.now).limit before.fast.counted c.args.tag.now c.args.mode c.requires.strong) c.in-Ok.decision
    (decides g at (Ok c.in-Ok.decision) c.in-Ok.ensures.decided)

pub returns-in-Ok-clause-use_count : goal.returns-in-Ok-clause-use_count
returns-in-Ok-clause-use_count g c uses its =
    let at = (goal.at.returns-in-Ok-clause-use_count g c).After-decide_in_part in
    decided-use_count c.args.kind (g.B.Board.seat c.args.board.now).groups (g.B.Board.seat c.transfer.new.board).number (g.B.Board.view c.transfer.new.board)
    (g.B.Board.view c.decide_in_part.new.board) c.args.tag.now c.args.mode (Ok c.in-Ok.decision) uses c.in-Ok.ensures.decided (scanned g at uses its)

pub returns-in-Err-clause-steps : goal.returns-in-Err-clause-steps
returns-in-Err-clause-steps g c uses =
    let at = (goal.at.returns-in-Err-clause-steps g c).After-decide_in_part in
    let seat = g.B.Board.seat c.args.board.now in
    let before = g.B.Board.view c.args.board.now in
    requests-decided c.args.kind seat before (g.B.Board.view c.sub_strong.new.self) uses uses c.args.tag.now c.args.mode (Err c.in-Err.refusal)
    (led-refused_steps c.args.kind seat before (g.B.Board.view c.transfer.new.board) (g.B.Board.view c.decide_in_part.new.board) uses uses c.args.tag.now
    c.args.mode _ (led g at uses) c.in-Err.refusal (decides g at (Err c.in-Err.refusal) c.in-Err.ensures.decided)
    (g.B.Board.view c.sub_strong.new.self) c.sub_strong.ensures.view)

pub returns-in-Err-clause-account : goal.returns-in-Err-clause-account
returns-in-Err-clause-account g c =
    let at = (goal.at.returns-in-Err-clause-account g c).After-decide_in_part in
    led-refused_strong c.args.kind (g.B.Board.seat c.args.board.now) (g.B.Board.view c.args.board.now) (g.B.Board.view c.transfer.new.board)
    (g.B.Board.view c.decide_in_part.new.board) some_counts some_counts c.args.tag.now c.args.mode _ (led g at some_counts) c.in-Err.refusal
    (decides g at (Err c.in-Err.refusal) c.in-Err.ensures.decided) (g.B.Board.view c.sub_strong.new.self) c.sub_strong.ensures.view refl c.requires.not_counted

pub returns-in-Err-clause-use_count : goal.returns-in-Err-clause-use_count
returns-in-Err-clause-use_count g c uses its =
    let at = (goal.at.returns-in-Err-clause-use_count g c).After-decide_in_part in
    let seat = g.B.Board.seat c.args.board.now in
    led-refused_use_count c.args.kind seat (g.B.Board.view c.args.board.now) (g.B.Board.view c.transfer.new.board) (g.B.Board.view c.decide_in_part.new.board)
    some_counts some_counts c.args.tag.now c.args.mode _ (led g at some_counts) c.in-Err.refusal (decides g at (Err c.in-Err.refusal) c.in-Err.ensures.decided)
    (g.B.Board.view c.sub_strong.new.self) c.sub_strong.ensures.view seat.groups uses (scanned g at uses its)

-- Its quiet steps.

pub returns-then-is_err-clause-quiet : goal.returns-then-is_err-clause-quiet
returns-then-is_err-clause-quiet g c =
    let its = c.transfer.ensures.quiet in
    record { strong = c.requires.strong; reached = its.reached; within = its.within; quiet = its.quiet }

pub returns-in-Ok-clause-quiet : goal.returns-in-Ok-clause-quiet
returns-in-Ok-clause-quiet g c =
    let its = c.transfer.ensures.quiet in
    record { strong = c.requires.strong; reached = its.reached; within = its.within; quiet = c.decide_in_part.ensures.quiet ∙ its.quiet }

pub returns-in-Err-clause-quiet : goal.returns-in-Err-clause-quiet
returns-in-Err-clause-quiet g c =
    let its = c.transfer.ensures.quiet in
    record {
      strong = c.requires.strong;
      reached = its.reached;
      within = its.within;
      quiet = c.sub_strong.ensures.quiet ∙ c.decide_in_part.ensures.quiet ∙ its.quiet;
    }

-- The count goes back with no step that its trace has.
pub returns-in-Err-clause-room_first : goal.returns-in-Err-clause-room_first
returns-in-Err-clause-room_first g c =
    let had : ℕ → List TraceEntry → Type 0 = λ number trace.
    IsAfterRoom (HadRoom g.T.PartTable.content g.T.PartTable.prepared number c.args.tag.now c.args.mode trace) c.in-Err.refusal in
    let trace = ap (λ (a : Account). a.trace) c.sub_strong.ensures.view in
    subst (had (g.B.Board.seat c.args.board.now).number) (sym trace)
    (subst (λ (s : Seated). had s.number (g.B.Board.view c.decide_in_part.new.board).trace) c.transfer.ensures.seat c.in-Err.ensures.room_first)
