use Rattle.std.proofs.Common.{◌≡◌, ◌∙◌, ℕ, ◌+◌, ◌≤◌, true, is_some, refl, sym, ap, subst, arith, rules}
use Rattle.std.specs.Prelude.{not}
use Rattle.lock_world.specs.SlotHolds.{group_size, used_in}
use Rattle.shared_rule.specs.History.{slots_here}
use Rattle.fast_path.specs.Slots.{slot_from_top, account_loading}
use Rattle.fast_path.proofs.Lemmas.Loads.{loading-begun, loading-next, loading-shows}
use Rattle.fast_path.proofs.Lemmas.SightsForGrant.{SeesFromTop, sees-none, sees-same, sees-other, sees-first, sees-later}
use Rattle.fast_path.proofs.Lemmas.SightsForGrant.{found-its, found-unused, found-end}
use Rattle.fast_path.proofs.slot_words.look_from_top.Goals as goal
use Rattle.fast_path.proofs.slot_words.look_from_top.Goals.{then-in_use+else-relation, else-in_use+else-used_count-use_count}
use Rattle.fast_path.proofs.slot_words.look_from_top.Goals.{then-is_none, else-is_none}

pub loop-step-init : goal.loop-step-init
loop-step-init g c =
    let a = g.B.Board.view c.args.board.now in
    let word = (slots_here (a.fast.slots c.args.owner)).word in
    record {
      loaded = loading-begun a c.args.owner (slot_from_top c.args.group) word;
      sees = sees-none c.args.group word c.args.relation;
      few = omega arith;
      seat = search rules;
      stack = search rules;
      quiet = search rules;
    }

pub returns-then-relation : goal.returns-then-relation
returns-then-relation g c =
    let a = g.B.Board.view c.args.board.now in
    let word = (slots_here (a.fast.slots c.args.owner)).word in
    let so_far = c.loop-step.invariant in
    let step : ℕ = c.loop-step.step in
    let shown : c.load_slot-word.result ≡ word (slot_from_top c.args.group step) =
    loading-shows a (g.B.Board.view c.loop-step.board) c.args.owner (slot_from_top c.args.group) word step _
    c.load_slot-word.result
    c.requires.in_hand.0 so_far.loaded c.requires.in_hand.1 c.load_slot-word.ensures.of_slots in
    let loaded : g.B.Board.view c.load_slot-word.new.self
    ≡ account_loading a c.args.owner (slot_from_top c.args.group) word (step + 1) =
    loading-next a (g.B.Board.view c.loop-step.board) _ c.args.owner (slot_from_top c.args.group) word step
    c.load_slot-word.result so_far.loaded shown c.load_slot-word.ensures.view in
    record {
      loaded = (step + 1, omega (arith, c.loop-step-test.true), loaded);
      sighted = found-its c.args.group word c.args.relation step c.loop-step.highest_unused c.loop-step.used_count so_far.sees
          (omega (arith, c.loop-step-test.true)) _ c.load_slot-word.result (omega (arith, c.loop-step-test.true)) refl shown
          (sym c.in_use.ensures ∙ c.if-in_use.true) (sym c.relation.ensures ∙ c.if-relation.true);
      seat = c.load_slot-word.ensures.seat ∙ so_far.seat;
      stack = c.load_slot-word.ensures.stack ∙ so_far.stack;
      quiet = c.load_slot-word.ensures.quiet ∙ so_far.quiet;
    }

pub returns-then-used_count-use_count : goal.returns-then-used_count-use_count
returns-then-used_count-use_count g c =
    let a = g.B.Board.view c.args.board.now in
    let word = (slots_here (a.fast.slots c.args.owner)).word in
    let so_far = c.loop-step.invariant in
    let step : ℕ = c.loop-step.step in
    let shown : c.load_slot-word.result ≡ word (slot_from_top c.args.group step) =
    loading-shows a (g.B.Board.view c.loop-step.board) c.args.owner (slot_from_top c.args.group) word step _
    c.load_slot-word.result
    c.requires.in_hand.0 so_far.loaded c.requires.in_hand.1 c.load_slot-word.ensures.of_slots in
    let loaded : g.B.Board.view c.load_slot-word.new.self
    ≡ account_loading a c.args.owner (slot_from_top c.args.group) word (step + 1) =
    loading-next a (g.B.Board.view c.loop-step.board) _ c.args.owner (slot_from_top c.args.group) word step
    c.load_slot-word.result so_far.loaded shown c.load_slot-word.ensures.view in
    let unused = sym c.in_use.ensures ∙ c.if-in_use.false in
    let some : is_some c.if-is_none.highest_unused ≡ true = elim c.if-is_none.branch [
      | then-is_none w ↦ ap is_some w.highest_unused-is
      | else-is_none w ↦ ap is_some w.highest_unused-is ∙ c.is_none.ensures ∙ ap not w.if-is_none.false
    ] in
    let sees : SeesFromTop c.args.group word c.args.relation (step + 1) c.if-is_none.highest_unused c.loop-step.used_count =
    elim c.if-is_none.branch [
      | then-is_none w ↦
          sees-same c.args.group word c.args.relation (step + 1) _ c.if-is_none.highest_unused _ c.loop-step.used_count
          w.highest_unused-is refl
          (sees-first c.args.group word c.args.relation step c.loop-step.highest_unused c.loop-step.used_count _
          c.load_slot-word.result so_far.sees refl shown unused (c.is_none.ensures ∙ ap not w.if-is_none.true))
      | else-is_none w ↦
          sees-same c.args.group word c.args.relation (step + 1) _ c.if-is_none.highest_unused _ c.loop-step.used_count
          w.highest_unused-is refl
          (sees-later c.args.group word c.args.relation step c.loop-step.highest_unused c.loop-step.used_count _
          c.load_slot-word.result so_far.sees refl shown unused (c.is_none.ensures ∙ ap not w.if-is_none.false))
    ] in
    let enough : used_in c.args.group word ≤ c.loop-step.used_count =
    subst (λ (n : ℕ). used_in c.args.group word ≤ n) (sym c.if-used_count-use_count.true) c.requires.enough in
    record {
      loaded = (step + 1, omega (arith, c.loop-step-test.true), loaded);
      sighted = found-unused c.args.group word c.args.relation (step + 1) c.if-is_none.highest_unused c.loop-step.used_count
          sees (omega (arith, c.loop-step-test.true)) enough some;
      seat = c.load_slot-word.ensures.seat ∙ so_far.seat;
      stack = c.load_slot-word.ensures.stack ∙ so_far.stack;
      quiet = c.load_slot-word.ensures.quiet ∙ so_far.quiet;
    }

pub loop-step-preserved : goal.loop-step-preserved
loop-step-preserved g c =
    let a = g.B.Board.view c.args.board.now in
    let word = (slots_here (a.fast.slots c.args.owner)).word in
    let so_far = c.loop-step.invariant in
    let step : ℕ = c.loop-step.step in
    let shown : c.load_slot-word.result ≡ word (slot_from_top c.args.group step) =
    loading-shows a (g.B.Board.view c.loop-step.board) c.args.owner (slot_from_top c.args.group) word step _
    c.load_slot-word.result
    c.requires.in_hand.0 so_far.loaded c.requires.in_hand.1 c.load_slot-word.ensures.of_slots in
    let loaded : g.B.Board.view c.load_slot-word.new.self
    ≡ account_loading a c.args.owner (slot_from_top c.args.group) word (step + 1) =
    loading-next a (g.B.Board.view c.loop-step.board) _ c.args.owner (slot_from_top c.args.group) word step
    c.load_slot-word.result so_far.loaded shown c.load_slot-word.ensures.view in
    record {
      loaded = loaded;
      sees = elim c.if-in_use.branch [
        | then-in_use+else-relation w ↦
            sees-same c.args.group word c.args.relation (step + 1) _ c.if-in_use.highest_unused _ c.if-in_use.used_count
            w.highest_unused-is w.used_count-is
            (sees-other c.args.group word c.args.relation step c.loop-step.highest_unused c.loop-step.used_count _
            c.load_slot-word.result so_far.sees refl shown
            (sym c.in_use.ensures ∙ w.if-in_use.true) (λ same. w.if-relation.false (w.relation.ensures ∙ same)))
        | else-in_use+else-used_count-use_count w ↦
            sees-same c.args.group word c.args.relation (step + 1) _ c.if-in_use.highest_unused _ c.if-in_use.used_count
            w.highest_unused-is w.used_count-is
            (elim w.if-is_none.branch [
              | then-is_none v ↦
                  sees-same c.args.group word c.args.relation (step + 1) _ w.if-is_none.highest_unused _ c.loop-step.used_count
                  v.highest_unused-is refl
                  (sees-first c.args.group word c.args.relation step c.loop-step.highest_unused c.loop-step.used_count _
                  c.load_slot-word.result so_far.sees refl shown (sym c.in_use.ensures ∙ w.if-in_use.false)
                  (w.is_none.ensures ∙ ap not v.if-is_none.true))
              | else-is_none v ↦
                  sees-same c.args.group word c.args.relation (step + 1) _ w.if-is_none.highest_unused _ c.loop-step.used_count
                  v.highest_unused-is refl
                  (sees-later c.args.group word c.args.relation step c.loop-step.highest_unused c.loop-step.used_count _
                  c.load_slot-word.result so_far.sees refl shown (sym c.in_use.ensures ∙ w.if-in_use.false)
                  (w.is_none.ensures ∙ ap not v.if-is_none.false))
            ])
      ];
      few = elim c.if-in_use.branch [
        | then-in_use+else-relation w ↦ omega (arith, w.used_count-is, so_far.few)
        | else-in_use+else-used_count-use_count w ↦ omega (arith, w.used_count-is, so_far.few)
      ];
      seat = c.load_slot-word.ensures.seat ∙ so_far.seat;
      stack = c.load_slot-word.ensures.stack ∙ so_far.stack;
      quiet = c.load_slot-word.ensures.quiet ∙ so_far.quiet;
    }

pub returns : goal.returns
returns g c =
    let a = g.B.Board.view c.args.board.now in
    let word = (slots_here (a.fast.slots c.args.owner)).word in
    let so_far = c.loop-step.invariant in
    let step : ℕ = c.loop-step.step in
    let last : step ≡ group_size = omega (arith, c.loop-step-test.false, c.loop-step.auto.step-end) in
    let few : step ≤ group_size = omega (arith, last) in
    record {
      loaded = (step, few, so_far.loaded);
      sighted = found-end c.args.group word c.args.relation step c.loop-step.highest_unused c.loop-step.used_count so_far.sees few
          last;
      seat = so_far.seat;
      stack = so_far.stack;
      quiet = so_far.quiet;
    }
