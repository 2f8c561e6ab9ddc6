use Rattle.std.proofs.Common.{◌≡◌, ◌++◌, length, take, drop, sym, ap, ◌∙◌, arith}
use Rattle.std.proofs.lemmas.List.{take_at}
use Rattle.place_index.specs.Notes.{times}
use Rattle.place_index.specs.Chains.{note_at, is_under}
use Rattle.place_index.proofs.Lemmas.Notes.{one_if, times-notes_in, times-view}
use Rattle.place_index.proofs.Lemmas.Index.{times-more, free_note}
use Rattle.place_index.proofs.index.PlaceIndex.insert.Goals as goal

pub link_in-requires-clause-free : goal.link_in-requires-clause-free
link_in-requires-clause-free c =
    free_note c.as_mut_slice-2.result.now c.args.place (λ h.
    ap (λ links. one_if (is_under h (note_at links c.args.place))) c.as_mut_slice-2.ensures.value
    ∙ (sym (times-view c.self.inside.links.items _ c.args.self.now (sym c.self.view_is) h c.args.place) ∙ c.requires.free h))

pub returns-clause-notes : goal.returns-clause-notes
returns-clause-notes c = λ h p.
    let free = free_note c.as_mut_slice-2.result.now c.args.place (λ k.
    ap (λ links. one_if (is_under k (note_at links c.args.place))) c.as_mut_slice-2.ensures.value
    ∙ (sym (times-view c.self.inside.links.items _ c.args.self.now (sym c.self.view_is) k c.args.place) ∙ c.requires.free k)) in
    let was : times c.args.self.now h p ≡ one_if (is_under h (note_at c.as_mut_slice-2.result.now p))
    = times-view c.self.inside.links.items _ c.args.self.now (sym c.self.view_is) h p ∙ ap (λ links. one_if (is_under h (note_at links p))) (sym c.as_mut_slice-2.ensures.value) in
    let is = take_at c.link_in.new.links (drop (length c.link_in.new.links) c.self.inside.links.items) c.self.inside.links.len (omega arith) in
    let now = times-notes_in h p (take c.self.inside.links.len (c.link_in.new.links ++ drop (length c.link_in.new.links) c.self.inside.links.items)) ∙ ap (λ links. one_if (is_under h (note_at links p))) is in
    omega (arith, was, now, times-more c.as_mut_slice-2.result.now c.link_in.new.links c.args.hash c.args.place c.link_in.ensures.notes free h p)
