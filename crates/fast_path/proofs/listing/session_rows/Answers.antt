use Rattle.std.proofs.Common.{◌∙◌, ◌*◌, ℕ, sym, ap, rules}
use Rattle.shared_rule.specs.Boards.{Seated}
use Rattle.fast_path.proofs.Lemmas.Reads.{reads, slots-shared, may_unshare}
use Rattle.fast_path.proofs.Lemmas.SlotRows.{lists-session}
use Rattle.fast_path.proofs.listing.session_rows.Goals as goal

pub append_slots-listed-requires : goal.append_slots-listed-requires
append_slots-listed-requires g c =
    let groups = (g.B.Board.seat c.args.board.now).groups in
    let own = (g.B.Board.seat c.args.board.now).number in
    let a = g.B.Board.view c.args.board.now in
    let b = g.B.Board.view c.load_database-shown.new.self in
    let read = reads groups own a (g.B.Board.view c.share_fast.new.self) b c.args.owner c.load_database-shown.result
    c.share_fast.ensures.shared c.load_database-shown.ensures.of_shared_slots (λ same. c.load_database-shown.ensures.own (same ∙ sym (ap (λ (s : Seated). s.number) c.share_fast.ensures.seat)))
    c.load_database-shown.ensures.view in
    record {
      exists = search rules;
      there = search rules;
      shared = (read.slots, slots-shared groups own a b c.args.owner c.load_database-shown.result read);
    }

pub unshare_fast-requires-clause-lawful : goal.unshare_fast-requires-clause-lawful
unshare_fast-requires-clause-lawful g c =
    let groups = (g.B.Board.seat c.args.board.now).groups in
    let own = (g.B.Board.seat c.args.board.now).number in
    let a = g.B.Board.view c.args.board.now in
    let b = g.B.Board.view c.load_database-shown.new.self in
    let read = reads groups own a (g.B.Board.view c.share_fast.new.self) b c.args.owner c.load_database-shown.result
    c.share_fast.ensures.shared c.load_database-shown.ensures.of_shared_slots (λ same. c.load_database-shown.ensures.own (same ∙ sym (ap (λ (s : Seated). s.number) c.share_fast.ensures.seat)))
    c.load_database-shown.ensures.view in
    may_unshare groups own a b c.args.owner c.load_database-shown.result read (g.B.Board.view c.append_slots-listed.new.board) _
    (ap (λ (k : ℕ). 16 * k) c.groups-count.ensures.value)
    c.append_slots-listed.ensures.loaded

pub returns-clause-listed : goal.returns-clause-listed
returns-clause-listed g c =
    let groups = (g.B.Board.seat c.args.board.now).groups in
    let own = (g.B.Board.seat c.args.board.now).number in
    let a = g.B.Board.view c.args.board.now in
    let b = g.B.Board.view c.load_database-shown.new.self in
    let shown = c.load_database-shown.result in
    let read = reads groups own a (g.B.Board.view c.share_fast.new.self) b c.args.owner shown c.share_fast.ensures.shared
    c.load_database-shown.ensures.of_shared_slots (λ same. c.load_database-shown.ensures.own (same ∙ sym (ap (λ (s : Seated). s.number) c.share_fast.ensures.seat)))
    c.load_database-shown.ensures.view in
    lists-session groups own a b (g.B.Board.view c.append_slots-listed.new.board)
    (g.B.Board.view c.unshare_fast.new.self) c.args.owner shown c.database_in.result _
    c.args.rows.now.items c.append_slots-listed.new.rows.items c.append_slots-listed.result c.requires.unlocked
    c.groups-count.ensures.some c.groups-count.ensures.few (ap (λ (k : ℕ). 16 * k) c.groups-count.ensures.value) read
    c.append_slots-listed.ensures.loaded c.unshare_fast.ensures.view c.database_in.ensures
    c.append_slots-listed.ensures.listed
