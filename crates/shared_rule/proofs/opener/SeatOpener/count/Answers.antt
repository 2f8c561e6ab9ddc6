use Rattle.std.proofs.Common.{◌≡◌, ◌+◌, [], length, sym, ap, ◌∙◌, subst}
use Rattle.std.specs.Prelude.{count_by, Ok}
use Rattle.lock_table.specs.declared.rows.TableRow.{TableRow}
use Rattle.shared_rule.specs.Audits.{CountsAll, CountsFrom}
use Rattle.shared_rule.specs.Gatherings.{NoneWaits, AreAll, gathered_in}
use Rattle.shared_rule.specs.Openers.{OpenerState}
use Rattle.shared_rule.specs.Plays.{side_of, HasSession}
use Rattle.shared_rule.specs.Layout.{IsSized}
use Rattle.lock_world.specs.Account.{Account}
use Rattle.shared_rule.proofs.Lemmas.Idle.{free-further, first-idle, first-free, lists-told}
use Rattle.shared_rule.proofs.Lemmas.AuditSums.{counts-all, has-first, are-all}
use Rattle.shared_rule.proofs.opener.SeatOpener.count.Goals as goal

pub returns : goal.returns
returns g c =
    let content = g.T.PartTable.content in
    let v0 = (side_of c.self.inside.seat).0 in
    let v2 = (side_of c.count_from.new.seat).0 in
    let has : HasSession v0 = has-first v0 c.args.self.now.gathered (ap (λ (o : OpenerState g.row.T.Denot). o.gathered) c.self.view_is) c.requires.some in
    let are : AreAll c.self.inside.issued v0 = are-all v0 c.self.inside.issued c.self.invariant.0
    (subst (λ (o : OpenerState g.row.T.Denot). length o.gathered + length o.closed ≡ o.issued) (sym c.self.view_is) c.requires.all) in
    let nobody : NoneWaits (gathered_in content v0.sessions) =
    subst (λ (o : OpenerState g.row.T.Denot). NoneWaits (gathered_in content o.gathered)) (sym c.self.view_is) c.requires.nobody_waits in
    let after : OpenerState g.row.T.Denot = record {
      table = c.count_from.new.seat.table_id;
      issued = c.self.inside.issued;
      limit = c.self.inside.sizes.sessions;
      groups = c.self.inside.sizes.groups;
      closed = v2.closed;
      gathered = v2.sessions;
    } in
    let counts : CountsFrom content c.self.inside.sizes.groups 0 c.self.inside.sizes.sessions (side_of c.count_counters-strong.new.seat).0 [] c.count_from.result c.count_from.new.fast v2 c.count_from.new.rows.items =
    subst (λ rows. CountsFrom content c.self.inside.sizes.groups 0 c.self.inside.sizes.sessions (side_of c.count_counters-strong.new.seat).0 rows c.count_from.result c.count_from.new.fast v2 c.count_from.new.rows.items)
    c.requires.empty c.count_from.ensures.counts in
    subst
    (λ (o : OpenerState g.row.T.Denot).
    CountsAll content o after (Ok (record { fast = c.count_from.new.fast; table = c.granted_in.result; strong = c.count_counters-strong.result })))
    c.self.view_is
    (counts-all content c.self.inside.seat.table_id c.count_from.new.seat.table_id c.self.inside.sizes.sessions c.self.inside.sizes.groups c.self.inside.issued
    c.count_counters-strong.result c.count_from.new.fast c.self.invariant.3.some_groups c.self.invariant.3.few_groups v0 (side_of c.count_counters-strong.new.seat).0 v2 c.count_from.new.rows.items c.count_from.result
    (c.count_from.ensures.same_seat.table_id ∙ c.count_counters-strong.ensures.same_seat.table_id) has are c.self.invariant.1 nobody
    c.count_counters-strong.ensures.seen counts c.granted_in.result c.in_ok-count_from.was
    (c.granted_in.ensures ∙ ap (count_by (λ (row : TableRow). row.granted)) c.as_slice.ensures.value))

pub invariant_of-self : goal.invariant_of-self
invariant_of-self g c =
    let content = g.T.PartTable.content in
    let v0 = (side_of c.self.inside.seat).0 in
    let v1 = (side_of c.count_counters-strong.new.seat).0 in
    let v2 = (side_of c.count_from.new.seat).0 in
    let seen = c.count_counters-strong.ensures.seen in
    let counts = c.count_from.ensures.counts in (
      counts.further.next ∙ seen.further.next ∙ c.self.invariant.0,
      c.self.invariant.1,
      c.self.invariant.2,
      subst (IsSized c.self.inside.sizes) (sym (c.count_from.ensures.same_seat.table_id ∙ c.count_counters-strong.ensures.same_seat.table_id)) c.self.invariant.3,
      free-further content v1 v2 counts.further (ap (λ (a : Account). a.lists) counts.account)
          (free-further content v0 v1 seen.further (ap (λ (a : Account). a.lists) seen.account) c.self.invariant.4),
    )

pub invariant_of-self-2 : goal.invariant_of-self-2
invariant_of-self-2 g c =
    let content = g.T.PartTable.content in
    let v0 = (side_of c.self.inside.seat).0 in
    let v1 = (side_of c.count_counters-strong.new.seat).0 in
    let v2 = (side_of c.count_from.new.seat).0 in
    let seen = c.count_counters-strong.ensures.seen in
    let counts = c.count_from.ensures.counts in (
      counts.further.next ∙ seen.further.next ∙ c.self.invariant.0,
      c.self.invariant.1,
      c.self.invariant.2,
      subst (IsSized c.self.inside.sizes) (sym (c.count_from.ensures.same_seat.table_id ∙ c.count_counters-strong.ensures.same_seat.table_id)) c.self.invariant.3,
      free-further content v1 v2 counts.further (ap (λ (a : Account). a.lists) counts.account)
          (free-further content v0 v1 seen.further (ap (λ (a : Account). a.lists) seen.account) c.self.invariant.4),
    )

pub count_from-requires-clause-idle : goal.count_from-requires-clause-idle
count_from-requires-clause-idle g c =
    let content = g.T.PartTable.content in
    ap (λ (a : Account). a.lists) c.count_counters-strong.ensures.seen.account
    ∙ lists-told content (side_of c.self.inside.seat).0.sessions ∙ first-idle (side_of c.self.inside.seat).0.sessions c.self.invariant.4

pub count_from-requires-clause-todo : goal.count_from-requires-clause-todo
count_from-requires-clause-todo g c =
    c.count_counters-strong.ensures.seen.further.free (first-free (side_of c.self.inside.seat).0.sessions c.self.invariant.4)
