use Rattle.std.proofs.Common.{◌≡◌, ◌∙◌, ℕ, ◌+◌, refl, sym, subst, arith, rules}
use Rattle.lock_world.specs.SlotHolds.{group_size, place_in_group}
use Rattle.shared_rule.specs.History.{slots_here}
use Rattle.fast_path.proofs.Lemmas.Loads.{loading-begun, loading-next, loading-shows}
use Rattle.fast_path.proofs.Lemmas.Sights.{SightsBelow, sights-none, sights-its, sights-other, sights-unused, sights-same, sights-all}
use Rattle.fast_path.proofs.slot_words.look_at_each.Goals as goal
use Rattle.fast_path.proofs.slot_words.look_at_each.Goals.{then-in_use+then-relation, then-in_use+else-relation}
use Rattle.fast_path.proofs.slot_words.look_at_each.Goals.{else-in_use}

pub loop-index-init : goal.loop-index-init
loop-index-init g c =
    let a = g.B.Board.view c.args.board.now in
    let word = (slots_here (a.fast.slots c.args.owner)).word in
    record {
      loaded = loading-begun a c.args.owner (place_in_group c.args.group) word;
      sights = sights-none c.args.group word c.args.relation;
      few = omega arith;
      seat = search rules;
      stack = search rules;
      quiet = search rules;
    }

pub loop-index-preserved : goal.loop-index-preserved
loop-index-preserved g c =
    let a = g.B.Board.view c.args.board.now in
    let word = (slots_here (a.fast.slots c.args.owner)).word in
    let index : ℕ = c.loop-index.index in
    let so_far = c.loop-index.invariant in
    let shown : c.load_slot-word.result ≡ word (place_in_group c.args.group index) =
    loading-shows a (g.B.Board.view c.loop-index.board) c.args.owner (place_in_group c.args.group) word index _
    c.load_slot-word.result
    c.requires.in_hand.0 so_far.loaded c.requires.in_hand.1 c.load_slot-word.ensures.of_slots in
    record {
      loaded = loading-next a (g.B.Board.view c.loop-index.board) _ c.args.owner (place_in_group c.args.group) word index
          c.load_slot-word.result so_far.loaded shown c.load_slot-word.ensures.view;
      sights = elim c.if-in_use.branch [
        | then-in_use+then-relation w ↦
            sights-same c.args.group word c.args.relation (index + 1) _ c.if-in_use.of_relation _
            c.if-in_use.used_count w.of_relation-is w.used_count-is
            (sights-its c.args.group word c.args.relation index c.loop-index.of_relation c.loop-index.used_count _ c.load_slot-word.result so_far.sights refl shown
            (sym c.in_use.ensures ∙ w.if-in_use.true) (sym w.relation.ensures ∙ w.if-relation.true))
        | then-in_use+else-relation w ↦
            sights-same c.args.group word c.args.relation (index + 1) _ c.if-in_use.of_relation _
            c.if-in_use.used_count w.of_relation-is w.used_count-is
            (sights-other c.args.group word c.args.relation index c.loop-index.of_relation c.loop-index.used_count _ c.load_slot-word.result so_far.sights refl shown
            (sym c.in_use.ensures ∙ w.if-in_use.true) (λ same. w.if-relation.false (w.relation.ensures ∙ same)))
        | else-in_use w ↦
            sights-same c.args.group word c.args.relation (index + 1) _ c.if-in_use.of_relation _
            c.if-in_use.used_count w.of_relation-is w.used_count-is
            (sights-unused c.args.group word c.args.relation index c.loop-index.of_relation c.loop-index.used_count _ c.load_slot-word.result so_far.sights refl shown
            (sym c.in_use.ensures ∙ w.if-in_use.false))
      ];
      few = elim c.if-in_use.branch [
        | then-in_use+then-relation w ↦ omega (arith, w.used_count-is, so_far.few)
        | then-in_use+else-relation w ↦ omega (arith, w.used_count-is, so_far.few)
        | else-in_use w ↦ omega (arith, w.used_count-is, so_far.few)
      ];
      seat = c.load_slot-word.ensures.seat ∙ so_far.seat;
      stack = c.load_slot-word.ensures.stack ∙ so_far.stack;
      quiet = c.load_slot-word.ensures.quiet ∙ so_far.quiet;
    }

pub returns-clause-sighted : goal.returns-clause-sighted
returns-clause-sighted g c =
    let a = g.B.Board.view c.args.board.now in
    let last : c.loop-index.index ≡ group_size = omega (arith, c.loop-index-test.false, c.loop-index.auto.index-end) in
    sights-all c.args.group (slots_here (a.fast.slots c.args.owner)).word c.args.relation c.loop-index.of_relation
    c.loop-index.used_count
    (subst (λ k. SightsBelow c.args.group (slots_here (a.fast.slots c.args.owner)).word c.args.relation k
    c.loop-index.of_relation c.loop-index.used_count) last c.loop-index.invariant.sights)
