use Rattle.std.proofs.Common.{◌+◌, ap, ◌∙◌, sym, subst, arith}
use Rattle.lock_world.specs.Account.{Account}
use Rattle.shared_rule.proofs.Lemmas.Led.{led-further, led-further_by}
use Rattle.lock_table.specs.Content.{Content}
use Rattle.lock_table.proofs.Lemmas.PartitionRows.{rows-then, rows-refused}
use Rattle.shared_rule.specs.Audits.{holding_steps, all_slot_loads}
use Rattle.shared_rule.specs.declared.rule.TableSizes.{TableSizes}
use Rattle.shared_rule.specs.Gatherings.{KnowsAll}
use Rattle.shared_rule.specs.History.{first_account}
use Rattle.shared_rule.specs.Plays.{side_of, Side, todo_at}
use Rattle.shared_rule.specs.Todos.{todo_attempted}
use Rattle.shared_rule.proofs.Lemmas.Auditing.{counts-slots, counts-more}
use Rattle.shared_rule.proofs.Lemmas.Episodes.{may_keep-since}
use Rattle.shared_rule.proofs.audits.+count_from.Goals as goal
use Rattle.shared_rule.proofs.audits.+count_from.Goals.{then-is_ok, else-is_ok}

pub returns-then-from-eq-PARTITIONS-clause-counts : goal.returns-then-from-eq-PARTITIONS-clause-counts
returns-then-from-eq-PARTITIONS-clause-counts g t c =
    counts-slots g.T.PartTable.content c.args.sizes.now.groups c.args.sizes.now.sessions c.args.part (side_of c.args.seat.now).0 (side_of c.tell_all.new.seat).0 (side_of c.count_slots.new.seat).0 c.args.rows.now.items c.count_slots.result
    (omega arith) (ap (λ (m : Side g.row.T.Denot). m.0) c.tell_all.ensures.side) (λ issued are. subst (λ n. KnowsAll g.T.PartTable.content n issued (side_of c.args.seat.now).0) (ap (λ (sizes : TableSizes). sizes.groups) (sym c.requires.sizes)) (c.tell_all.ensures.knows issued are)) c.count_slots.ensures.sees

pub put_back-requires-clause-lawful : goal.put_back-requires-clause-lawful
put_back-requires-clause-lawful g t c =
    let content = g.T.PartTable.content in
    let counts = c.count_from-counted.ensures.counts in
    may_keep-since _ _ (first_account content (side_of c.args.seat.now).0.sessions) (first_account content (side_of c.take_next-content.new.seat).0.sessions) _ c.args.part (content c.take_next-content.result)
    (holding_steps (c.args.part + 1) counts.contents (all_slot_loads c.args.sizes.now.sessions c.args.sizes.now.groups counts.word))
    c.take_next-content.ensures.takes.led.account
    counts.account

pub returns-clause-counts : goal.returns-clause-counts
returns-clause-counts g t c =
    let content = g.T.PartTable.content in
    let counts = c.count_from-counted.ensures.counts in
    let taken : Content = content c.take_next-content.result in
    counts-more content c.args.sizes.now.groups c.args.sizes.now.sessions c.args.part (side_of c.args.seat.now).0 (side_of c.take_next-content.new.seat).0 (side_of c.count_from-counted.new.seat).0 (side_of c.put_back.new.seat).0
    c.args.rows.now.items c.count_from-counted.new.rows.items c.if-is_ok.rows.items c.count_from-counted.result c.if-is_ok.counted c.count_from-counted.new.fast
    c.requires.session c.take_next-content.result
    (led-further_by content c.args.seat.now c.take_next-content.new.seat _ (todo_attempted (todo_at c.args.seat.now)) c.take_next-content.ensures.takes.led (ap todo_attempted))
    c.take_next-content.ensures.takes.led.account counts
    (led-further content c.count_from-counted.new.seat c.put_back.new.seat _ c.put_back.ensures.led) c.put_back.ensures.led.account (c.requires.none_in_hand c.args.part (omega arith)) c.take_next-content.ensures.takes.knows
    (elim c.if-is_ok.branch [
      | then-is_ok w ↦
          rw w.rows-is
          (rows-then taken counts.contents c.args.rows.now.items c.count_from-counted.new.rows.items w.rows-counted.new.rows.items
          c.count_from-counted.result w.rows-counted.result c.if-is_ok.counted (sym w.if-is_ok.ensures.value) counts.rows w.counted-is w.rows-counted.ensures.ok)
      | else-is_ok w ↦ rows-refused c.count_from-counted.result c.if-is_ok.counted _ (sym w.if-is_ok.ensures.value) w.counted-is
    ])

pub put_back-requires-clause-idle : goal.put_back-requires-clause-idle
put_back-requires-clause-idle g t c = ap (λ (a : Account). a.lists) c.count_from-counted.ensures.counts.account ∙ c.take_next-content.ensures.lists ∙ c.requires.idle

pub put_back-requires-clause-todo : goal.put_back-requires-clause-todo
put_back-requires-clause-todo g t c = c.count_from-counted.ensures.counts.further.free c.take_next-content.ensures.todo
