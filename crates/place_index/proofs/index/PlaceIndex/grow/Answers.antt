use Rattle.std.proofs.Common.{◌≤◌, ◌++◌, length, take, drop, refl, sym, ap, subst, ◌∙◌, arith}
use Rattle.place_index.specs.Notes.{Notes}
use Rattle.std.proofs.lemmas.List.{take_at}
use Rattle.place_index.specs.Chains.{note_at, is_under}
use Rattle.place_index.proofs.Lemmas.Notes.{one_if, times-notes_in, times-view, note-more}
use Rattle.place_index.proofs.index.PlaceIndex.grow.Goals as goal

pub returns-clause-notes : goal.returns-clause-notes
returns-clause-notes c = λ h p.
    let links = c.self.inside.links in
    let beyond : length links.items ≤ c.args.place = subst (λ (v : Notes). v.places ≤ c.args.place) (sym c.self.view_is) c.requires.beyond in
    let was = times-view links.items _ c.args.self.now (sym c.self.view_is) h p in
    let is = take_at c.link_all.new.links (drop (length c.link_all.new.links) c.resize-2.new.self.items) c.resize-2.new.self.len (omega arith) in
    let now = times-notes_in h p (take c.resize-2.new.self.len (c.link_all.new.links ++ drop (length c.link_all.new.links) c.resize-2.new.self.items)) ∙ ap (λ ls. one_if (is_under h (note_at ls p))) is in
    let more = note-more links.items c.resize-2.new.self.items c.max-places.result c.free.result c.free.ensures
    (omega (arith, c.len.ensures, links.ok.0, c.max-places.ensures, beyond)) (omega (arith, c.in_ok-resize-2.ensures.len, c.resize-2.new.self.ok.0))
    (λ k d below within. c.in_ok-resize-2.ensures.by_index.0 k d below (omega (arith, links.ok.0)))
    (λ k d past below. c.in_ok-resize-2.ensures.by_index.1 k d refl (omega (arith, links.ok.0)) below) p in
    now ∙ (ap (λ n. one_if (is_under h n)) (c.link_all.ensures.notes p ∙ (ap (λ ls. note_at ls p) c.as_mut_slice-2.ensures.value ∙ more)) ∙ sym was)
