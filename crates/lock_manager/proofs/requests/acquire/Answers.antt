use Rattle.std.proofs.Common.{◌≡◌, ◌<◌, false, List, Ok, Err, length, arith, sym, ap, ◌∙◌, refl, subst, inr}
use Rattle.modes_core.specs.declared.refusals.Refusal.TheVariants.{CountFull}
use Rattle.local_locks.specs.declared.records.Entry.{Entry}
use Rattle.local_locks.specs.Owned.{has_entry, with_one_more}
use Rattle.lock_world.specs.Happens.Counters.{most_counted}
use Rattle.lock_manager.specs.Requests.{Requests, IsRequested}
use Rattle.lock_manager.specs.Quiet.{MakesNone, OfRequest}
use Rattle.local_locks.proofs.Lemmas.NewEntries.{reserved-new}
use Rattle.lock_manager.proofs.Lemmas.Rest.Acquires.{not_held_yet, rest-not_counted, rest-few, rest-granted, rest-again}
use Rattle.lock_manager.proofs.Lemmas.Requests.Whole.{never-queued, requested-not_own}
use Rattle.lock_manager.proofs.Lemmas.Requests.Answered.{begins-refused, answers-refused}
use Rattle.lock_manager.proofs.requests.acquire.Given as given
use Rattle.lock_manager.proofs.requests.acquire.Goals as goal
use Rattle.lock_manager.proofs.requests.acquire.Goals.{After-reserve_new}

-- The session had not the mode, and its entries were as before.
not_held : (g : given.Over) (c : goal.After-reserve_new g)
    → (has_entry c.args.own.now.locals.entries c.args.tag c.args.mode ≡ false) × (c.add_held.new.self.entries ≡ c.args.own.now.locals.entries)
not_held g c =
    not_held_yet c.args.own.now.locals c.add_held.new.self c.args.tag c.args.mode c.add_held.result c.in_ok-add_held.field-0 (c.in_ok-add_held.was {u = tt})
    c.if-branch.false c.add_held.ensures.not_held.0 c.add_held.ensures.same

pub returns-then-branch-clause-rest : goal.returns-then-branch-clause-rest
returns-then-branch-clause-rest g c other =
    rest-again (g.B.Board.seat c.args.board.now).groups (g.B.Board.seat c.args.board.now).limit c.args.own.now.database c.args.own.now.uses (g.B.Board.view c.args.board.now) (g.B.Board.stack c.args.board.now)
    c.args.own.now.locals c.add_held.new.self c.args.tag c.args.mode c.args.owner c.add_held.result c.in_ok-add_held.field-0 (c.in_ok-add_held.was {u = tt}) c.if-branch.true
    c.add_held.ensures.held.0 c.add_held.ensures.entries c.requires.rest

pub request-requires-clause-not_counted : goal.request-requires-clause-not_counted
request-requires-clause-not_counted g c =
    let yet = not_held g (goal.at.request-requires-clause-not_counted g c).After-reserve_new in
    rest-not_counted (g.B.Board.seat c.args.board.now).groups (g.B.Board.seat c.args.board.now).limit c.args.own.now.database c.args.own.now.uses (g.B.Board.view c.args.board.now) (g.B.Board.stack c.args.board.now) c.args.own.now.locals.entries
    c.args.tag c.args.mode c.requires.rest yet.0

pub request-requires-clause-countable : goal.request-requires-clause-countable
request-requires-clause-countable g c =
    let yet = not_held g (goal.at.request-requires-clause-countable g c).After-reserve_new in
    let entries = c.args.own.now.locals.entries in
    let same = c.reserve_new.ensures.entries ∙ yet.1 in
    let room : length c.reserve_new.new.self.entries < c.reserve_new.new.self.max_local = c.in_ok-reserve_new.ensures.allowed in
    let number : length c.reserve_new.new.self.entries ≡ length entries = ap (λ (es : List Entry). length es) same in
    let few : length entries < 65536 = omega (arith, room, number, c.reserve_new.ensures.max_local, c.add_held.ensures.max_local, c.requires.few_entries) in
    rest-few (g.B.Board.seat c.args.board.now).groups (g.B.Board.seat c.args.board.now).limit c.args.own.now.database c.args.own.now.uses most_counted (g.B.Board.view c.args.board.now) (g.B.Board.stack c.args.board.now) entries c.requires.rest few

pub add_new-requires-clause-new : goal.add_new-requires-clause-new
add_new-requires-clause-new g c =
    let yet = not_held g (goal.at.add_new-requires-clause-new g c).After-reserve_new in
    ap (λ (es : List Entry). has_entry es c.args.tag c.args.mode) (c.reserve_new.ensures.entries ∙ yet.1) ∙ yet.0

pub returns-in-Ok-Granted-clause-rest : goal.returns-in-Ok-Granted-clause-rest
returns-in-Ok-Granted-clause-rest g c other =
    let yet = not_held g (goal.at.returns-in-Ok-Granted-clause-rest g c).After-reserve_new in
    let entries = c.args.own.now.locals.entries in
    rest-granted (g.B.Board.seat c.args.board.now).groups (g.B.Board.seat c.args.board.now).limit c.args.own.now.database c.args.own.now.uses c.request.new.uses (g.B.Board.view c.args.board.now) (g.B.Board.view c.request.new.board) (g.B.Board.stack c.args.board.now) (g.B.Board.stack c.request.new.board)
    entries c.add_new.new.self.entries c.args.tag c.args.mode c.args.owner yet.0
    (subst (λ decision. IsRequested (g.B.Board.seat c.args.board.now).limit (g.B.Board.view c.args.board.now) c.args.tag c.args.mode (Ok decision) (g.B.Board.view c.request.new.board))
    c.in-Ok-Granted.field-0-is
    c.in-Ok-Granted.ensures.account) c.request.ensures.use_count c.request.ensures.stack
    (c.add_new.ensures.entries ∙ ap (λ (es : List Entry). with_one_more es c.args.tag c.args.mode c.args.owner) (c.reserve_new.ensures.entries ∙ yet.1)) c.requires.rest

pub returns-in-Ok-Queued-clause-reserved : goal.returns-in-Ok-Queued-clause-reserved
returns-in-Ok-Queued-clause-reserved g c queued =
    let yet = not_held g (goal.at.returns-in-Ok-Queued-clause-reserved g c).After-reserve_new in
    reserved-new c.reserve_new.new.self c.args.tag c.args.mode c.args.owner
    (ap (λ (es : List Entry). has_entry es c.args.tag c.args.mode) (c.reserve_new.ensures.entries ∙ yet.1) ∙ yet.0) c.in_ok-reserve_new.ensures.allowed c.in_ok-reserve_new.ensures.roomy

pub returns-in-Ok-Queued-clause-at_once : goal.returns-in-Ok-Queued-clause-at_once
returns-in-Ok-Queued-clause-at_once g c conditional queued =
    never-queued c.args.kind (g.B.Board.seat c.args.board.now) (g.B.Board.view c.args.board.now) (g.B.Board.view c.request.new.board) c.args.own.now.uses c.request.new.uses
    c.args.tag c.args.mode _ c.in-Ok-Queued.field-0-is conditional c.in-Ok-Queued.ensures.steps

pub returns-in-Err-clause-untouched : goal.returns-in-Err-clause-untouched
returns-in-Err-clause-untouched g c own = absurd
    (requested-not_own c.args.kind (g.B.Board.seat c.args.board.now) (g.B.Board.view c.args.board.now) (g.B.Board.view c.request.new.board) c.args.own.now.uses c.request.new.uses
    c.args.tag c.args.mode c.in-Err.refusal c.in-Err.ensures.steps own)

pub returns-in-Err-clause-no_memory : goal.returns-in-Err-clause-no_memory
returns-in-Err-clause-no_memory g c is = inr
    (subst (λ refusal. Requests c.args.kind (g.B.Board.seat c.args.board.now) (g.B.Board.view c.args.board.now) c.args.own.now.uses c.args.tag c.args.mode (Err refusal) (g.B.Board.view c.request.new.board) c.request.new.uses)
    is c.in-Err.ensures.steps)

pub returns-in-Err-clause-steps : goal.returns-in-Err-clause-steps
returns-in-Err-clause-steps g c =
    begins-refused c.args.kind (g.B.Board.seat c.args.board.now) c.args.own.now.locals (g.B.Board.view c.args.board.now) (g.B.Board.view c.request.new.board) c.args.own.now.uses c.request.new.uses
    c.args.tag c.args.mode c.in-Err.refusal c.in-Err.ensures.steps

pub returns-in-Err-clause-answers : goal.returns-in-Err-clause-answers
returns-in-Err-clause-answers g c =
    let owned = c.args.own.now.locals in
    let yet = not_held g (goal.at.returns-in-Err-clause-answers g c).After-reserve_new in
    let room : length c.reserve_new.new.self.entries < c.reserve_new.new.self.max_local = c.in_ok-reserve_new.ensures.allowed in
    let number : length c.reserve_new.new.self.entries ≡ length owned.entries = ap (λ (es : List Entry). length es) (c.reserve_new.ensures.entries ∙ yet.1) in
    let most : c.reserve_new.new.self.max_local ≡ owned.max_local = c.reserve_new.ensures.max_local ∙ c.add_held.ensures.max_local in
    answers-refused c.args.kind (g.B.Board.seat c.args.board.now) owned (g.B.Board.view c.args.board.now) (g.B.Board.view c.request.new.board) c.args.own.now.uses c.request.new.uses
    c.args.tag c.args.mode c.args.owner c.in-Err.refusal c.in-Err.ensures.steps yet.0
    (λ full.
    let refused : Ok c.in_ok-add_held.field-0 ≡ Err CountFull = sym (c.in_ok-add_held.was {u = tt}) ∙ c.add_held.ensures.count_full.1 full in
    cc (refused))
    (λ all. omega (arith, all, number, most, room))

-- Its quiet steps.

pub returns-then-branch-clause-quiet : goal.returns-then-branch-clause-quiet
returns-then-branch-clause-quiet g c = MakesNone refl

pub returns-in-Ok-Granted-clause-quiet : goal.returns-in-Ok-Granted-clause-quiet
returns-in-Ok-Granted-clause-quiet g c = OfRequest c.request.ensures.quiet

pub returns-in-Ok-Queued-clause-quiet : goal.returns-in-Ok-Queued-clause-quiet
returns-in-Ok-Queued-clause-quiet g c = OfRequest c.request.ensures.quiet

pub returns-in-Err-clause-quiet : goal.returns-in-Err-clause-quiet
returns-in-Err-clause-quiet g c = OfRequest c.request.ensures.quiet
