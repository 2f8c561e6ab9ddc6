use Rattle.std.proofs.Common.{◌≢◌, ◌<◌, length, set, sym, ap, subst, ◌∙◌, arith}
use Rattle.std.proofs.lemmas.List.{get_or-set_other, length-set}
use Rattle.place_index.specs.declared.links.Link.{Link}
use Rattle.place_index.specs.Chains.{free_link, link_at, note_at, IsLinked}
use Rattle.place_index.proofs.Lemmas.Notes.{link_read, under_of, noted_within}
use Rattle.place_index.proofs.Lemmas.Links.{read_before, unlinked-behind}
use Rattle.place_index.proofs.chains.unlink_behind.Goals as goal

pub overflow_cast-before-in-loop-next : goal.overflow_cast-before-in-loop-next
overflow_cast-before-in-loop-next c = omega (arith, (read_before c.args.heads.now c.args.links.now c.args.hash c.args.place c.loop-next.before c.loop-next.next c.requires.linked c.requires.there c.loop-next.invariant.within c.loop-next.invariant.there c.loop-next.invariant.next c.loop-next.invariant.behind).1, c.loop-next.auto.before-fits)

pub offset_bounds-links-before-in-loop-next : goal.offset_bounds-links-before-in-loop-next
offset_bounds-links-before-in-loop-next c = omega (arith, (read_before c.args.heads.now c.args.links.now c.args.hash c.args.place c.loop-next.before c.loop-next.next c.requires.linked c.requires.there c.loop-next.invariant.within c.loop-next.invariant.there c.loop-next.invariant.next c.loop-next.invariant.behind).1, c.loop-next.auto.before-fits)

pub slice_copy_out-next-in-loop-next : goal.slice_copy_out-next-in-loop-next
slice_copy_out-next-in-loop-next c = omega (arith, (read_before c.args.heads.now c.args.links.now c.args.hash c.args.place c.loop-next.before c.loop-next.next c.requires.linked c.requires.there c.loop-next.invariant.within c.loop-next.invariant.there c.loop-next.invariant.next c.loop-next.invariant.behind).1, c.loop-next.invariant.within)

pub loop-next-smaller : goal.loop-next-smaller
loop-next-smaller c = (read_before c.args.heads.now c.args.links.now c.args.hash c.args.place c.loop-next.before c.loop-next.next c.requires.linked c.requires.there c.loop-next.invariant.within c.loop-next.invariant.there c.loop-next.invariant.next c.loop-next.invariant.behind).1

pub loop-next-preserved : goal.loop-next-preserved
loop-next-preserved c =
    let far = (read_before c.args.heads.now c.args.links.now c.args.hash c.args.place c.loop-next.before c.loop-next.next c.requires.linked c.requires.there c.loop-next.invariant.within c.loop-next.invariant.there c.loop-next.invariant.next c.loop-next.invariant.behind) in
    let within : c.loop-next.next < length c.args.links.now = omega (arith, far.1, c.loop-next.invariant.within) in
    let apart : c.loop-next.next ≢ c.args.place = c.loop-next-test.true in
    record {
      within = within;
      behind = omega (arith, far.2);
      there = far.3;
      next = c.next-next-in-loop-next.ensures ∙ ap (λ (l : Link). l.next) (link_read c.args.links.now c.loop-next.next _ within);
    }

pub returns-clause-linked : goal.returns-clause-linked
returns-clause-linked c =
    let links = c.args.links.now in
    let within : c.loop-next.before < length (set links c.args.place c.free.result) = omega (arith, c.loop-next.invariant.within, length-set links c.args.place c.free.result) in
    let apart : c.loop-next.before ≢ c.args.place = λ same. omega (arith, c.loop-next.invariant.behind) in
    let place = noted_within links c.args.place c.args.hash (under_of c.args.hash (note_at links c.args.place) c.requires.there) in
    subst (λ (l : Link). IsLinked c.args.heads.now (set (set links c.args.place l) c.loop-next.before c.set_next.new.self)) (sym c.free.ensures)
    (unlinked-behind c.args.heads.now links c.args.hash c.args.place c.loop-next.before c.set_next.new.self c.requires.linked c.requires.few c.requires.there c.requires.behind
    c.loop-next.invariant.within c.loop-next.invariant.behind c.loop-next.invariant.there (sym c.loop-next.invariant.next ∙ c.loop-next-test.false)
    (c.set_next.ensures
    ∙ (ap (λ (l : Link). record { hash = l.hash; next = c.next-behind.result }) (link_read (set links c.args.place c.free.result) c.loop-next.before _ within ∙ get_or-set_other links c.args.place c.loop-next.before c.free.result free_link apart)
    ∙ ap (λ p. record { hash = (link_at links c.loop-next.before).hash; next = p }) (c.next-behind.ensures ∙ ap (λ (l : Link). l.next) (link_read links c.args.place _ place)))))
