use Rattle.shared_rule.specs.Plays.{LockedListOr}
use Rattle.atomic_table.specs.Table.{step}
use mathlib.Core.Option.{none}
use Rattle.std.specs.Prelude.{bit_or, ◌^◌}
use Rattle.std.proofs.Common.{rules, ◌≡◌, List, None, sym, ap, ◌∙◌, subst}
use Rattle.std.proofs.lemmas.Bool.{false≢true}
use Rattle.lock_world.specs.AccountSteps.{account_locking_list}
use Rattle.shared_rule.specs.declared.history.History.{History}
use Rattle.shared_rule.specs.Marks.{LockedList, SawListLocked}
use Rattle.shared_rule.specs.declared.kept.Kept.TheVariants as kept
use Rattle.shared_rule.specs.declared.rule.TableSizes.{TableSizes}
use Rattle.shared_rule.specs.Layout.{list_shelf_of}
use Rattle.shared_rule.specs.LwLocks.{lock_number, LockExists}
use Rattle.shared_rule.specs.History.{noting, first_account}
use Rattle.shared_rule.specs.Todos.{TellsNobodyBy}
use Rattle.shared_rule.proofs.Lemmas.Placed.{allowed}
use Rattle.shared_rule.proofs.Lemmas.Taken.{look-known}
use Rattle.shared_rule.proofs.Lemmas.Events.Lists.{locks_list_at}
use Rattle.shared_rule.proofs.Lemmas.Events.ListShelves.{list-same}
use Rattle.std.specs.Global.{Box}
use Rattle.lw_word.specs.WaitList.{Waiting, stands_in}
use Rattle.shared_rule.specs.Plays.{side_in, side_of, Side, account_at, number_at}
use Rattle.shared_rule.proofs.Lemmas.Led.{led-noted, led_to-as}
use Rattle.shared_rule.proofs.Lemmas.Sides.{last-shelf, last-came, last-set}
use Rattle.shared_rule.specs.declared.rule.TableSizes.{TableSizes}
use Rattle.shared_rule.specs.Waiters.{WaitersExist}
use Rattle.shared_rule.proofs.lists.try_lock_list.Goals as goal

pub fetch_or-found-requires : goal.fetch_or-found-requires
fetch_or-found-requires g c =
    let content = g.T.PartTable.content in
    let seat = c.args.seat.now in
    let session = c.requires.session in
    let free = subst (λ (sessions : List (History g.row.T.Denot)). (first_account content sessions).lists.in_hand ≡ None)
    session.sessions c.requires.no_list in (
      c.requires.table.at,
      search rules,
      allowed g.T.PartTable.content g.T.PartTable.begun c.args.words.now.key c.args.words.now.table_id.slots seat.id seat.me c.word.result
          (λ n. bit_or n (2 ^ 28)) (LockedListOr content g.G.Sizing.sizes.sessions (step c.args.words.now.table_id.slots c.word.result (2 ^ 28) 0 none) (side_of seat))
          (locks_list_at content g.T.PartTable.begun c.args.words.now.key c.args.words.now.table_id.slots seat.id (side_of seat)
          session.history session.others session.sessions c.args.lock.now c.requires.exists
          (record { no_list = free }) (look-known (side_of seat).0 session (lock_number c.args.lock.now) c.requires.no_other_look)
          (subst (λ (sessions : List (History g.row.T.Denot)). TellsNobodyBy (first_account content sessions)) session.sessions c.requires.tells_nobody)
          g.G.Sizing.sizes.sessions (ap (λ (s : TableSizes). s.sessions) c.requires.sizes) c.word.result (c.word.ensures.index c.args.words.now.key.sessions)),
    )

pub exchange-kept-requires : goal.exchange-kept-requires
exchange-kept-requires g c =
    let n = lock_number c.args.lock.now in
    let took = c.fetch_or-found.ensures.2.0 (c.has_locked_list.ensures.0 c.if-has_locked_list.true) c.args.lock.now (subst (λ n. LockExists n c.args.lock.now) (sym (ap (λ (s : TableSizes). s.sessions) c.requires.sizes)) c.requires.exists) (c.word.ensures.index g.G.Sizing.sizes.sessions) in (
      c.fetch_or-found.ensures.0 ∙ c.requires.table.at,
      (
        kept.List took.list,
        last-shelf (side_of c.fetch_or-found.new.seat) (noting (side_of c.args.seat.now).0 (LockedList n took.list.value.waiters)) c.list_shelf.result
            (list_shelf_of n) (kept.List took.list) (side_of c.args.seat.now).1 took.side c.list_shelf.ensures.shelf,
      ),
    )

pub into_list-requires : goal.into_list-requires
into_list-requires g c =
    let n = lock_number c.args.lock.now in
    let took = c.fetch_or-found.ensures.2.0 (c.has_locked_list.ensures.0 c.if-has_locked_list.true) c.args.lock.now (subst (λ n. LockExists n c.args.lock.now) (sym (ap (λ (s : TableSizes). s.sessions) c.requires.sizes)) c.requires.exists) (c.word.ensures.index g.G.Sizing.sizes.sessions) in (
      took.list,
      last-came (side_of c.fetch_or-found.new.seat) (noting (side_of c.args.seat.now).0 (LockedList n took.list.value.waiters)) c.list_shelf.result
          (list_shelf_of n) (kept.List took.list) c.exchange-kept.result (side_of c.args.seat.now).1 took.side c.exchange-kept.ensures.2,
    )

pub returns-then-has_locked_list-clause-led : goal.returns-then-has_locked_list-clause-led
returns-then-has_locked_list-clause-led g c =
    let content = g.T.PartTable.content in
    let seat = c.args.seat.now in
    let n = lock_number c.args.lock.now in
    let took = c.fetch_or-found.ensures.2.0 (c.has_locked_list.ensures.0 c.if-has_locked_list.true) c.args.lock.now (subst (λ n. LockExists n c.args.lock.now) (sym (ap (λ (s : TableSizes). s.sessions) c.requires.sizes)) c.requires.exists) (c.word.ensures.index g.G.Sizing.sizes.sessions) in
    let came = last-came (side_of c.fetch_or-found.new.seat) (noting (side_of seat).0 (LockedList n took.list.value.waiters)) c.list_shelf.result
    (list_shelf_of n) (kept.List took.list) c.exchange-kept.result (side_of seat).1 took.side c.exchange-kept.ensures.2 in
    let same : took.list ≡ c.into_list.result = list-same took.list c.into_list.result (sym came ∙ c.into_list.ensures) in
    let set = last-set (side_of c.fetch_or-found.new.seat) (side_of c.exchange-kept.new.seat)
    (noting (side_of seat).0 (LockedList n took.list.value.waiters)) c.list_shelf.result (list_shelf_of n) (kept.List took.list) kept.Nothing
    (side_of seat).1 took.side c.list_shelf.ensures.shelf (ap side_in c.exchange-kept.ensures.3) in
    led_to-as content seat c.exchange-kept.new.seat _ _ _
    (led-noted content seat c.exchange-kept.new.seat (LockedList n took.list.value.waiters) c.requires.session
    (record {
      table_id = c.exchange-kept.ensures.0 ∙ c.fetch_or-found.ensures.0;
      id = c.exchange-kept.ensures.1 ∙ c.fetch_or-found.ensures.1;
    })
    (ap (λ (side : Side g.row.T.Denot). side.0) set) (λ owed i. owed))
    (ap (λ (list : Box Waiting). account_locking_list (account_at content seat) n list.value.waiters) same)

pub returns-then-has_locked_list-clause-shelves : goal.returns-then-has_locked_list-clause-shelves
returns-then-has_locked_list-clause-shelves g c =
    let seat = c.args.seat.now in
    let n = lock_number c.args.lock.now in
    let took = c.fetch_or-found.ensures.2.0 (c.has_locked_list.ensures.0 c.if-has_locked_list.true) c.args.lock.now (subst (λ n. LockExists n c.args.lock.now) (sym (ap (λ (s : TableSizes). s.sessions) c.requires.sizes)) c.requires.exists) (c.word.ensures.index g.G.Sizing.sizes.sessions) in
    ap (λ (side : Side g.row.T.Denot). side.1) (last-set (side_of c.fetch_or-found.new.seat) (side_of c.exchange-kept.new.seat)
    (noting (side_of seat).0 (LockedList n took.list.value.waiters)) c.list_shelf.result (list_shelf_of n) (kept.List took.list) kept.Nothing
    (side_of seat).1 took.side c.list_shelf.ensures.shelf (ap side_in c.exchange-kept.ensures.3))

pub returns-then-has_locked_list-clause-stands : goal.returns-then-has_locked_list-clause-stands
returns-then-has_locked_list-clause-stands g c = λ there.
    let seat = c.args.seat.now in
    let n = lock_number c.args.lock.now in
    let took = c.fetch_or-found.ensures.2.0 (c.has_locked_list.ensures.0 c.if-has_locked_list.true) c.args.lock.now (subst (λ n. LockExists n c.args.lock.now) (sym (ap (λ (s : TableSizes). s.sessions) c.requires.sizes)) c.requires.exists) (c.word.ensures.index g.G.Sizing.sizes.sessions) in
    let came = last-came (side_of c.fetch_or-found.new.seat) (noting (side_of seat).0 (LockedList n took.list.value.waiters)) c.list_shelf.result
    (list_shelf_of n) (kept.List took.list) c.exchange-kept.result (side_of seat).1 took.side c.exchange-kept.ensures.2 in
    let same : took.list ≡ c.into_list.result = list-same took.list c.into_list.result (sym came ∙ c.into_list.ensures) in
    took.stands (ap (λ (list : Box Waiting). stands_in (number_at seat) list.value.waiters) same ∙ there)

pub returns-then-has_locked_list-clause-exist : goal.returns-then-has_locked_list-clause-exist
returns-then-has_locked_list-clause-exist g c =
    let seat = c.args.seat.now in
    let n = lock_number c.args.lock.now in
    let took = c.fetch_or-found.ensures.2.0 (c.has_locked_list.ensures.0 c.if-has_locked_list.true) c.args.lock.now (subst (λ n. LockExists n c.args.lock.now) (sym (ap (λ (s : TableSizes). s.sessions) c.requires.sizes)) c.requires.exists) (c.word.ensures.index g.G.Sizing.sizes.sessions) in
    let came = last-came (side_of c.fetch_or-found.new.seat) (noting (side_of seat).0 (LockedList n took.list.value.waiters)) c.list_shelf.result
    (list_shelf_of n) (kept.List took.list) c.exchange-kept.result (side_of seat).1 took.side c.exchange-kept.ensures.2 in
    let same : took.list ≡ c.into_list.result = list-same took.list c.into_list.result (sym came ∙ c.into_list.ensures) in
    subst (λ (list : Box Waiting). WaitersExist c.args.words.now.key.sessions list.value.waiters) same
    (subst (λ n. WaitersExist n took.list.value.waiters) (ap (λ (s : TableSizes). s.sessions) c.requires.sizes) took.exist)

pub returns-else-has_locked_list-clause-none : goal.returns-else-has_locked_list-clause-none
returns-else-has_locked_list-clause-none g c =
    let seat = c.args.seat.now in
    let n = lock_number c.args.lock.now in
    let saw = c.fetch_or-found.ensures.2.1 (λ free. false≢true (sym c.if-has_locked_list.false ∙ c.has_locked_list.ensures.1 free)) c.args.lock.now (subst (λ n. LockExists n c.args.lock.now) (sym (ap (λ (s : TableSizes). s.sessions) c.requires.sizes)) c.requires.exists) (c.word.ensures.index g.G.Sizing.sizes.sessions) in
    record {
      led = led-noted g.T.PartTable.content seat c.fetch_or-found.new.seat (SawListLocked n) c.requires.session
          (record { table_id = c.fetch_or-found.ensures.0; id = c.fetch_or-found.ensures.1 }) (ap (λ (side : Side g.row.T.Denot). side.0) saw) (λ owed i. owed);
      shelves = ap (λ (side : Side g.row.T.Denot). side.1) saw;
    }
