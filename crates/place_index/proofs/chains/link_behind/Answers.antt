use Rattle.std.proofs.Common.{◌≢◌, ℕ, ◌<◌, length, set, sym, ap, subst, ◌∙◌, arith}
use Rattle.std.proofs.lemmas.List.{get_or-set_other, length-set}
use Rattle.place_index.specs.declared.links.Link.{Link}
use Rattle.place_index.specs.Chains.{end_of_chain, free_link, note_at, next_at, chain, start_of}
use Rattle.std.proofs.lemmas.Bool.{false≢true}
use Rattle.place_index.proofs.Lemmas.Notes.{link_read}
use Rattle.place_index.proofs.Lemmas.Chains.{in_none}
use Rattle.place_index.proofs.Lemmas.Links.{read_behind, linked-between}
use Rattle.place_index.proofs.chains.link_behind.Goals as goal
use Rattle.place_index.proofs.chains.link_behind.Goals.{then-loop-next-test+else-next-place, else-loop-next-test}

pub overflow_cast-before-in-loop-next : goal.overflow_cast-before-in-loop-next
overflow_cast-before-in-loop-next c = omega (arith, (read_behind c.args.heads.now c.args.links.now (start_of (length c.args.heads.now) c.args.hash) c.loop-next.before c.loop-next.next c.requires.linked c.loop-next.invariant.within c.loop-next.invariant.there c.loop-next.invariant.next).within c.loop-next-test.true, c.loop-next.auto.before-fits)

pub offset_bounds-links-before-in-loop-next : goal.offset_bounds-links-before-in-loop-next
offset_bounds-links-before-in-loop-next c = omega (arith, (read_behind c.args.heads.now c.args.links.now (start_of (length c.args.heads.now) c.args.hash) c.loop-next.before c.loop-next.next c.requires.linked c.loop-next.invariant.within c.loop-next.invariant.there c.loop-next.invariant.next).within c.loop-next-test.true, c.loop-next.auto.before-fits)

pub slice_copy_out-next-in-loop-next : goal.slice_copy_out-next-in-loop-next
slice_copy_out-next-in-loop-next c = omega (arith, (read_behind c.args.heads.now c.args.links.now (start_of (length c.args.heads.now) c.args.hash) c.loop-next.before c.loop-next.next c.requires.linked c.loop-next.invariant.within c.loop-next.invariant.there c.loop-next.invariant.next).within c.loop-next-test.true, c.loop-next.invariant.within)

pub loop-next-smaller : goal.loop-next-smaller
loop-next-smaller c = (read_behind c.args.heads.now c.args.links.now (start_of (length c.args.heads.now) c.args.hash) c.loop-next.before c.loop-next.next c.requires.linked c.loop-next.invariant.within c.loop-next.invariant.there c.loop-next.invariant.next).within c.loop-next-test.true

pub loop-next-preserved : goal.loop-next-preserved
loop-next-preserved c =
    let last = (read_behind c.args.heads.now c.args.links.now (start_of (length c.args.heads.now) c.args.hash) c.loop-next.before c.loop-next.next c.requires.linked c.loop-next.invariant.within c.loop-next.invariant.there c.loop-next.invariant.next) in
    let within : c.loop-next.next < length c.args.links.now = omega (arith, last.within c.loop-next-test.true, c.loop-next.invariant.within) in
    record {
      within = within;
      behind = c.if-next-place.true;
      there = last.there c.loop-next-test.true;
      next = c.next-next-in-loop-next.ensures ∙ ap (λ (l : Link). l.next) (link_read c.args.links.now c.loop-next.next _ within);
    }

pub returns-clause-linked : goal.returns-clause-linked
returns-clause-linked c =
    let links = c.args.links.now in
    let within : c.loop-next.before < length (set links c.args.place c.noted.result) = omega (arith, c.loop-next.invariant.within, length-set links c.args.place c.noted.result) in
    let apart : c.loop-next.before ≢ c.args.place = λ same. omega (arith, c.loop-next.invariant.behind) in
    let place : c.args.place < length links = omega (arith, c.loop-next.invariant.behind, c.loop-next.invariant.within) in
    let before : next_at links c.loop-next.before ≢ end_of_chain → next_at links c.loop-next.before < c.args.place
    = subst (λ (p : ℕ). p ≢ end_of_chain → p < c.args.place) c.loop-next.invariant.next (λ goes. elim c.loop-next-test.branch [
      | then-loop-next-test+else-next-place w ↦
          let there = (read_behind c.args.heads.now links (start_of (length c.args.heads.now) c.args.hash) c.loop-next.before c.loop-next.next c.requires.linked c.loop-next.invariant.within c.loop-next.invariant.there c.loop-next.invariant.next).there goes in
          let unlike : c.loop-next.next ≢ c.args.place = λ same. false≢true (
          sym (in_none (length c.args.heads.now) (start_of (length c.args.heads.now) c.args.hash) c.args.place (note_at links) c.requires.free)
          ∙ (ap (chain (length c.args.heads.now) (note_at links) (start_of (length c.args.heads.now) c.args.hash)) (sym same) ∙ there)) in
          omega (arith, w.if-next-place.false)
      | else-loop-next-test w ↦ absurd (goes w.loop-next-test.false)
    ]) in
    linked-between c.args.heads.now links c.args.hash c.args.place c.loop-next.before c.noted.result c.set_next.new.self c.requires.linked c.requires.few place c.requires.free
    c.loop-next.invariant.within c.loop-next.invariant.behind c.loop-next.invariant.there before
    (c.noted.ensures ∙ ap (λ p. record { hash = c.args.hash; next = p }) c.loop-next.invariant.next)
    (c.set_next.ensures ∙ ap (λ (l : Link). record { hash = l.hash; next = c.args.place })
    (link_read (set links c.args.place c.noted.result) c.loop-next.before _ within ∙ get_or-set_other links c.args.place c.loop-next.before c.noted.result free_link apart))
