use Rattle.shared_rule.specs.Plays.{TookSlotsOr, noted_load}
use Rattle.atomic_table.specs.Table.{step}
use mathlib.Core.Option.{none}
use prog.Atomic.{either}
use Rattle.std.specs.Prelude.{◌==◌}
use Rattle.std.proofs.Common.{rules, ◌≡◌, List, ap, ◌∙◌, subst}
use Rattle.shared_rule.specs.declared.history.History.{History}
use Rattle.shared_rule.specs.History.{first_number}
use Rattle.shared_rule.specs.Plays.{side_of, TookSlots}
use Rattle.lock_world.specs.WaitLists.{fast_lock}
use Rattle.shared_rule.proofs.Lemmas.Placed.{allowed}
use Rattle.shared_rule.proofs.Lemmas.Taken.{attempt-known}
use Rattle.shared_rule.proofs.Lemmas.Events.Locks.{tries_fast_at}
use Rattle.shared_rule.specs.declared.rule.TableSizes.{TableSizes}
use Rattle.shared_rule.proofs.locks.take_own_fast.Goals as goal

pub compare_exchange-requires : goal.compare_exchange-requires
compare_exchange-requires g c =
    let seat = c.args.seat.now in
    let session = c.requires.session in
    let own : c.args.number ≡ session.history.number = c.requires.own
    ∙ ap (λ (sessions : List (History g.row.T.Denot)). first_number sessions) session.sessions in (
      c.requires.table.at,
      search rules,
      allowed g.T.PartTable.content g.T.PartTable.begun c.args.words.now.key c.args.words.now.table_id.slots c.args.seat.now.id c.args.seat.now.me c.fast_word.result
          (λ n. either (n == c.args.shown) c.args.taken n) (TookSlotsOr g.T.PartTable.content g.G.Sizing.sizes.groups noted_load (step c.args.words.now.table_id.slots c.fast_word.result c.args.shown c.args.taken none) (side_of seat))
          (tries_fast_at g.T.PartTable.content g.T.PartTable.begun c.args.words.now.key c.args.words.now.table_id.slots
          seat.id (side_of seat) session.history session.others session.sessions
          c.args.number c.requires.among g.G.Sizing.sizes.groups c.args.shown c.args.taken (ap (λ (s : TableSizes). s.groups) c.requires.sizes) own c.requires.free.0 c.requires.free.1 (attempt-known g.T.PartTable.content (side_of seat).0 session (fast_lock c.args.number) c.requires.no_other_try c.requires.no_other_list)
          c.fast_word.result (c.fast_word.ensures.index c.args.words.now.key.sessions)),
    )

pub returns-clause-won : goal.returns-clause-won
returns-clause-won g c = λ same.
    subst (λ n. TookSlots g.T.PartTable.content n c.args.number (side_of c.args.seat.now) (side_of c.compare_exchange.new.seat)) (ap (λ (s : TableSizes). s.groups) c.requires.sizes)
    (c.compare_exchange.ensures.2.0 same c.args.words.now.key.sessions c.args.number (c.fast_word.ensures.index c.args.words.now.key.sessions))
