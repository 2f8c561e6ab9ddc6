use Rattle.std.proofs.Common.{◌≡◌, ℕ, ◌+◌, ◌++◌, List, [], OnOk, Result, Vec, Global, sym, ap, ◌∙◌, subst, append-nil, rules}
use Rattle.lock_table.specs.declared.no_memory.NoMemory.{NoMemory}
use Rattle.shared_rule.specs.History.{slots_here}
use Rattle.lock_table.specs.declared.rows.SlotRow.{SlotRow}
use Rattle.fast_path.specs.Rows.{rows_of_slot, rows_below, BeginsWith}
use Rattle.fast_path.proofs.Lemmas.Loads.{loading-begun, loading-next, loading-shows_shared}
use Rattle.fast_path.proofs.Lemmas.SlotRows.{rows_below-start, listed-next, listed-same, listed-out, behind-more}
use Rattle.fast_path.proofs.listing.append_slots.Goals as goal
use Rattle.fast_path.proofs.listing.append_slots.Goals.{then-is_ok, else-is_ok}

pub loop-slot-init : goal.loop-slot-init
loop-slot-init g c =
    let a = g.B.Board.view c.args.board.now in
    let word = (slots_here (a.fast.shared_slots c.args.owner)).word in
    record {
      loaded = loading-begun a c.args.owner (λ slot. slot) word;
      listed = rows_below-start c.args.rows.now.items (λ slot. rows_of_slot c.args.owner c.args.database slot (word slot));
      behind = ([], sym (append-nil c.args.rows.now.items));
      seat = search rules;
      stack = search rules;
      quiet = search rules;
    }

pub loop-slot-preserved : goal.loop-slot-preserved
loop-slot-preserved g c =
    let a = g.B.Board.view c.args.board.now in
    let word = (slots_here (a.fast.shared_slots c.args.owner)).word in
    let so_far = c.loop-slot.invariant in
    let old = c.args.rows.now.items in
    let shown = loading-shows_shared a (g.B.Board.view c.loop-slot.board) c.args.owner (λ slot. slot) word c.loop-slot.slot
    c.loop-slot.slot c.load_slot-word.result c.requires.shared.0 so_far.loaded c.requires.shared.1
    c.load_slot-word.ensures.of_shared_slots in
    let rows : ℕ → List SlotRow = λ slot. rows_of_slot c.args.owner c.args.database slot (word slot) in
    record {
      loaded = loading-next a (g.B.Board.view c.loop-slot.board) _ c.args.owner (λ slot. slot) word c.loop-slot.slot
          c.load_slot-word.result so_far.loaded shown c.load_slot-word.ensures.view;
      listed = elim c.if-is_ok.branch [
        | then-is_ok w ↦
            listed-same (old ++ rows_below (c.loop-slot.slot + 1) rows) c.if-is_ok.listed w.append_slot-listed.result c.if-is_ok.rows.items w.append_slot-listed.new.rows.items
            w.listed-is (ap (λ (v : Vec SlotRow Global). v.items) w.rows-is)
            (listed-next c.loop-slot.slot rows old c.loop-slot.rows.items w.append_slot-listed.new.rows.items
            c.loop-slot.listed w.append_slot-listed.result (sym c.is_ok.ensures.value ∙ w.if-is_ok.true) so_far.listed
            (subst (λ (n : ℕ). OnOk w.append_slot-listed.result (w.append_slot-listed.new.rows.items ≡ c.loop-slot.rows.items
            ++ rows_of_slot c.args.owner c.args.database c.loop-slot.slot n)) shown w.append_slot-listed.ensures.listed))
        | else-is_ok w ↦
            subst (λ (r : Result (Unit {0}) NoMemory). OnOk r (c.if-is_ok.rows.items ≡ old ++ rows_below (c.loop-slot.slot + 1) rows)) (sym w.listed-is)
            (listed-out _ c.loop-slot.listed (sym c.is_ok.ensures.value ∙ w.if-is_ok.false))
      ];
      behind = elim c.if-is_ok.branch [
        | then-is_ok w ↦
            subst (BeginsWith old) (sym (ap (λ (v : Vec SlotRow Global). v.items) w.rows-is))
            (behind-more old c.loop-slot.rows.items w.append_slot-listed.new.rows.items so_far.behind w.append_slot-listed.ensures.behind)
        | else-is_ok w ↦ subst (BeginsWith old) (sym (ap (λ (v : Vec SlotRow Global). v.items) w.rows-is)) so_far.behind
      ];
      seat = c.load_slot-word.ensures.seat ∙ so_far.seat;
      stack = c.load_slot-word.ensures.stack ∙ so_far.stack;
      quiet = c.load_slot-word.ensures.quiet ∙ so_far.quiet;
    }
