use Rattle.std.proofs.Common.{◌≡◌, refl, ◌∙◌, sym, subst}
use Rattle.shared_rule.specs.Boards.{Seated}
use Rattle.lock_manager.specs.Rest.{IsAtRest}
use Rattle.lock_manager.proofs.Lemmas.Rest.Entries.{MayCloseBy-rest, left_by-close}
use Rattle.lock_manager.proofs.Lemmas.Rest.Stored.{rest-stored}
use Rattle.lock_manager.proofs.reuse.begin_again.Goals as goal

pub store_database-requires : goal.store_database-requires
store_database-requires g c = record {
  no_hold = (MayCloseBy-rest _ _ _ _ _ _ _ c.end_all.ensures.rest
      (c.end_all.ensures.entries ∙ left_by-close c.args.own.now.locals.entries)).no_hold;
}

pub returns-clause-next : goal.returns-clause-next
returns-clause-next g c =
    let view = g.B.Board.view in
    let stack = g.B.Board.stack in
    let seat : g.B.Board.seat c.store_database.new.self ≡ g.B.Board.seat c.args.board.now =
    c.store_database.ensures.seat ∙ c.end_all.ensures.kept.seat_ in
    record {
      last = view c.end_all.new.board;
      released = c.end_all.ensures.steps;
      quiet_last = g.B.Board.quiet c.end_all.new.board;
      quiet_ = c.end_all.ensures.quiet;
      quiet_stored = c.store_database.ensures.quiet;
      stored = c.store_database.ensures.view;
      seat_ = seat;
      database_ = refl;
      nothing = c.end_all.ensures.entries ∙ left_by-close c.args.own.now.locals.entries;
      first_level = c.end_all.ensures.levels;
      max_local = c.end_all.ensures.kept.max_local;
      room = c.end_all.ensures.room;
      slots = c.end_all.ensures.slots;
      rest = subst (λ (s : Seated). IsAtRest s.groups s.limit c.args.database c.end_all.new.own.uses
          (view c.store_database.new.self) (stack c.store_database.new.self) c.end_all.new.own.locals.entries) (sym seat)
          (rest-stored _ _ _ c.args.database _ _ _ _ _ _ c.end_all.ensures.rest c.store_database.ensures.view c.store_database.ensures.stack);
    }
