use Rattle.std.proofs.Common.{◌≡◌, ℕ, true, false, List, Some, refl, sym, ap, ◌∙◌, subst}
use Rattle.atomic_table.specs.Table.{rest}
use Rattle.shared_rule.specs.declared.history.History.{History}
use Rattle.shared_rule.specs.Marks.{UnlockedList}
use Rattle.shared_rule.specs.declared.kept.Kept.TheVariants as kept
use Rattle.shared_rule.specs.Layout.{list_shelf_of}
use Rattle.shared_rule.specs.LwLocks.{lock_number}
use Rattle.shared_rule.specs.History.{first_account, noting}
use Rattle.shared_rule.specs.Plays.{side_in, side_of, Side}
use Rattle.shared_rule.specs.Todos.{IsLeftWellBy, first_todo}
use Rattle.shared_rule.proofs.Lemmas.Events.Lists.{unlocks_list_at}
use Rattle.shared_rule.proofs.Lemmas.Led.{led-noted}
use Rattle.shared_rule.proofs.Lemmas.Sides.{last-shelf}
use Rattle.shared_rule.proofs.lists.unlock_list.Goals as goal

pub unlock_as-requires-clause-allowed : goal.unlock_as-requires-clause-allowed
unlock_as-requires-clause-allowed g c =
    let content = g.T.PartTable.content in
    let seat = c.exchange.new.seat in
    let session = c.requires.session in
    let set = (ap side_in c.exchange.ensures.3) in
    let n = lock_number c.args.lock.now in
    let is = ap (λ (m : Side g.row.T.Denot). m.0.sessions) set ∙ session.sessions in
    let known = subst (λ (sessions : List (History g.row.T.Denot)). (first_account content sessions).lists.in_hand
    ≡ Some (record { lock = n; waiters = c.args.list.value.waiters })) session.sessions c.requires.in_hand in
    unlocks_list_at content g.T.PartTable.begun c.args.words.now.key c.args.words.now.table_id.slots seat.id (side_of seat)
    session.history session.others is c.args.lock.now c.requires.exists c.args.has_waiters c.args.release_ok c.args.list
    c.requires.room c.requires.table.sized.shelves known
    (last-shelf (side_of seat) (side_of c.args.seat.now).0 (list_shelf_of n) c.list_shelf.result (kept.List c.args.list)
    (rest (side_of c.args.seat.now).1) set (sym c.list_shelf.ensures.shelf)) c.requires.waiters_stay
    (subst (λ (sessions : List (History g.row.T.Denot)). c.args.release_ok ≡ false → (other : ℕ) × ((first_account content sessions).lists.off other ≡ true)) session.sessions c.requires.release_stays)
    (subst (λ (sessions : List (History g.row.T.Denot)). IsLeftWellBy (first_account content sessions) (first_todo sessions) c.args.lock.now c.args.list.value.waiters) session.sessions c.requires.left_well)
    c.word.result (c.word.ensures.index c.args.words.now.key.sessions) c.kept_bits.result c.kept_bits.ensures (λ _. UnlockedList) refl

pub returns-clause-led : goal.returns-clause-led
returns-clause-led g c =
    let set = (ap side_in c.exchange.ensures.3) in
    led-noted g.T.PartTable.content c.args.seat.now c.unlock_as.new.seat UnlockedList c.requires.session
    (record {
      table_id = c.unlock_as.ensures.same_seat.table_id ∙ c.exchange.ensures.0;
      id = c.unlock_as.ensures.same_seat.id ∙ c.exchange.ensures.1;
    })
    (ap (λ (side : Side g.row.T.Denot). side.0) c.unlock_as.ensures.side.1
    ∙ ap (λ (side : Side g.row.T.Denot). noting side.0 UnlockedList) set) (λ owed i. owed)
