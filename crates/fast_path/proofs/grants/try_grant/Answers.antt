use Rattle.std.proofs.Common.{sym, refl, subst}
use Rattle.lock_world.specs.declared.events.Word.TheVariants.{Fast}
use Rattle.lock_world.specs.World.{Loaded}
use Rattle.lock_world.specs.AccountSteps.{account_tracing}
use Rattle.shared_rule.specs.Boards.{Seated}
use Rattle.fast_path.specs.Grants.{HasOwnSlots}
use Rattle.fast_path.proofs.Lemmas.GrantSlots.{has_own_slots}
use Rattle.fast_path.proofs.grants.try_grant.Goals as goal

pub grant_with_slots-requires-clause-in_hand : goal.grant_with_slots-requires-clause-in_hand
grant_with_slots-requires-clause-in_hand g c =
    let number = (g.B.Board.seat c.args.board.now).number in
    let tried = c.in-Ok.ensures.tried in
    let ready = c.requires.ready in
    subst (λ (s : Seated). HasOwnSlots s.groups s.number (g.B.Board.view c.try_take_fast.new.self) c.args.uses.now)
    (sym c.try_take_fast.ensures.seat)
    (has_own_slots (g.B.Board.seat c.args.board.now).groups number (account_tracing (g.B.Board.view c.args.board.now) (Loaded (Fast number) tried.shown))
    (g.B.Board.view c.try_take_fast.new.self)
    c.args.uses.now number refl
    (record {
      no_content = ready.no_content;
      no_slots = ready.no_slots;
      no_shared_slots = ready.no_shared_slots;
      no_zero = ready.no_zero;
      in_groups = ready.in_groups;
      enough = ready.enough;
      within = ready.within;
    })
    tried.takes)

pub returns-in-Ok-clause-quiet : goal.returns-in-Ok-clause-quiet
returns-in-Ok-clause-quiet g c =
    c.grant_with_slots.ensures.quiet (g.B.Board.seat c.args.board.now).number (g.B.Board.quiet c.args.board.now) c.in-Ok.ensures.quiet
