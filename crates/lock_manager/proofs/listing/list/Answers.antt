use Rattle.std.proofs.Common.{rules, ◌≡◌, ℕ, ◌<◌, ◌^◌, ◌++◌, sym, ap, ◌∙◌, subst, inl}
use Rattle.lock_world.specs.Account.{Account}
use Rattle.lock_world.specs.SlotHolds.{OneSlotEach, AreInGroups}
use Rattle.shared_rule.specs.Boards.{Seated}
use Rattle.fast_path.specs.Rows.{rows_of_all, loads_of_all}
use Rattle.lock_manager.specs.declared.listing.Listing.{Listing}
use Rattle.lock_manager.specs.Rest.{IsAtRest}
use Rattle.lock_manager.specs.Listings.{listing_steps, AreOfCaller}
use Rattle.lock_table.proofs.Lemmas.PartitionRows.{rows-ok}
use Rattle.lock_manager.proofs.Lemmas.Listings.Own.{lists-own, misses-none}
use Rattle.lock_manager.proofs.Lemmas.Rest.Reads.{rest-read_slots, rest-read}
use Rattle.lock_manager.proofs.listing.list.Given as given
use Rattle.lock_manager.proofs.listing.list.Goals as goal
use Rattle.lock_manager.proofs.listing.list.Goals.{After-list_table}

pub returns-then-is_err-clause-rest : goal.returns-then-is_err-clause-rest
returns-then-is_err-clause-rest g c =
    let listed = c.slot_rows.ensures.listed in
    rest-read_slots (g.B.Board.seat c.args.board.now).groups (g.B.Board.seat c.args.board.now).limit c.args.own.now.database c.args.own.now.uses
    (g.B.Board.view c.args.board.now) (g.B.Board.view c.slot_rows.new.board)
    (g.B.Board.stack c.args.board.now) (g.B.Board.stack c.slot_rows.new.board) c.args.own.now.locals.entries
    c.slot_rows.ensures.stack c.requires.rest _ listed.no_more listed.account

-- Once the table is read too the session is in no call.
rest_table : (g : given.Over) (c : goal.After-list_table g)
    → IsAtRest (g.B.Board.seat c.args.board.now).groups (g.B.Board.seat c.args.board.now).limit c.args.own.now.database c.args.own.now.uses
    (g.B.Board.view c.list_table.new.board) (g.B.Board.stack c.list_table.new.board) c.args.own.now.locals.entries
rest_table g c =
    let listed = c.slot_rows.ensures.listed in
    rest-read (g.B.Board.seat c.args.board.now).groups (g.B.Board.seat c.args.board.now).limit c.args.own.now.database c.args.own.now.uses
    (g.B.Board.view c.slot_rows.new.board) (g.B.Board.view c.list_table.new.board)
    (g.B.Board.stack c.slot_rows.new.board) (g.B.Board.stack c.list_table.new.board) c.args.own.now.locals.entries
    c.list_table.ensures.stack
    (rest-read_slots (g.B.Board.seat c.args.board.now).groups (g.B.Board.seat c.args.board.now).limit c.args.own.now.database c.args.own.now.uses
    (g.B.Board.view c.args.board.now) (g.B.Board.view c.slot_rows.new.board)
    (g.B.Board.stack c.args.board.now) (g.B.Board.stack c.slot_rows.new.board) c.args.own.now.locals.entries
    c.slot_rows.ensures.stack c.requires.rest _ listed.no_more listed.account)
    c.list_table.ensures.account

pub returns-in-Ok-clause-rest : goal.returns-in-Ok-clause-rest
returns-in-Ok-clause-rest g c = rest_table g (goal.at.returns-in-Ok-clause-rest g c).After-list_table

pub returns-in-Err-clause-rest : goal.returns-in-Err-clause-rest
returns-in-Err-clause-rest g c = rest_table g (goal.at.returns-in-Err-clause-rest g c).After-list_table

pub returns-in-Ok-clause-listed : goal.returns-in-Ok-clause-listed
returns-in-Ok-clause-listed g c =
    let seat = g.B.Board.seat c.args.board.now in
    let a = g.B.Board.view c.args.board.now in
    let b = g.B.Board.view c.slot_rows.new.board in
    let slots = c.slot_rows.ensures.listed in
    let table = c.in-Ok.ensures.listed in
    let fast : c.slot_rows.new.rows.items ≡ rows_of_all seat.limit slots.database slots.word =
    rows-ok c.slot_rows.result _ (sym c.if-is_err.ensures.value) slots.listed
    ∙ ap (λ old. old ++ rows_of_all seat.limit slots.database slots.word) c.new-fast.ensures.items in
    let loaded : slots.loaded ≡ seat.limit = rows-ok c.slot_rows.result _ (sym c.if-is_err.ensures.value) slots.all_loaded in
    let exists : seat.number < seat.limit = subst (λ (n : ℕ). n < seat.limit) c.number.ensures.value c.number.ensures.exists in
    let own_loaded : seat.number < slots.loaded = subst (λ (n : ℕ). seat.number < n) (sym loaded) exists in
    let reads : b.trace ≡ a.trace ++ loads_of_all seat.groups seat.limit slots.database slots.word =
    ap (λ (x : Account). x.trace) slots.account ∙ ap (λ (n : ℕ). a.trace ++ loads_of_all seat.groups n slots.database slots.word) loaded in
    let trace = table.trace ∙ ap (λ entries. entries ++ listing_steps 0 table.contents) reads in
    let fits : a.fast.database < 2 ^ 32 =
    subst (λ (d : ℕ). d < 2 ^ 32) (sym (ap (λ (x : Account). x.fast.database) c.requires.rest.account)) (search rules) in
    let of_caller = subst (λ (s : Seated). AreOfCaller s.number b.own b.awaited b.fast.database b.fast.remembered 0 table.contents)
    c.slot_rows.ensures.seat table.of_caller in
    let listing : Listing = record { fast = c.slot_rows.new.rows; table = c.list_table.new.rows } in
    inl (record {
      database = slots.database;
      word = slots.word;
      one_each = λ session below.
          let its = slots.shared session (subst (λ (n : ℕ). session < n) (sym loaded) below) in
          subst (λ words. OneSlotEach words) its.words its.knows.one_each;
      in_groups = λ session below.
          let its = slots.shared session (subst (λ (n : ℕ). session < n) (sym loaded) below) in
          subst (λ words. AreInGroups seat.groups words) its.words its.knows.in_groups;
      fast = fast;
      contents = table.contents;
      sixteen = table.sixteen;
      trace = trace;
      table = table.table;
      own = lists-own seat.groups seat.limit seat.number a b slots.database slots.word table.contents listing exists fits
          (ap (λ (x : Account). x.awaited) c.requires.rest.account) (slots.shared seat.number own_loaded) (slots.own own_loaded)
          (slots.account ∙ (λ i. record a {
            fast = record (a.fast) { remembered = b.fast.remembered };
            trace = sym (ap (λ (x : Account). x.trace) slots.account) i;
          }))
          of_caller table.sixteen fast table.table;
      misses_none = misses-none seat.groups seat.limit seat.number a.trace (g.B.Board.view c.list_table.new.board).trace slots.database slots.word
          table.contents listing table.sixteen trace fast table.table;
    })

-- Its quiet steps are those of the slot rows.

pub returns-then-is_err-clause-quiet : goal.returns-then-is_err-clause-quiet
returns-then-is_err-clause-quiet g c =
    let its = c.slot_rows.ensures.quiet in
    record { reached = its.reached; within = its.within; all = tt; quiet = its.quiet }

pub returns-in-Ok-clause-quiet : goal.returns-in-Ok-clause-quiet
returns-in-Ok-clause-quiet g c =
    let its = c.slot_rows.ensures.quiet in
    record {
      reached = its.reached;
      within = its.within;
      all = rows-ok c.slot_rows.result _ (sym c.if-is_err.ensures.value) its.all;
      quiet = c.list_table.ensures.quiet ∙ its.quiet;
    }

pub returns-in-Err-clause-quiet : goal.returns-in-Err-clause-quiet
returns-in-Err-clause-quiet g c =
    let its = c.slot_rows.ensures.quiet in
    record { reached = its.reached; within = its.within; all = tt; quiet = c.list_table.ensures.quiet ∙ its.quiet }
