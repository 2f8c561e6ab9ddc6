use Rattle.std.proofs.Common.{◌≡◌, ℕ, ◌<◌, ◌++◌, length, take, drop, sym, ap, subst, ◌∙◌, arith}
use Rattle.std.proofs.lemmas.List.{take_at}
use Rattle.place_index.specs.Notes.{times}
use Rattle.place_index.specs.Chains.{note_at, is_under}
use Rattle.place_index.proofs.Lemmas.Notes.{one_if, under_of, times-notes_in, times-view}
use Rattle.place_index.proofs.Lemmas.Index.{yes_of, times-less}
use Rattle.place_index.proofs.index.PlaceIndex.remove.Goals as goal

pub unlink-requires-clause-there : goal.unlink-requires-clause-there
unlink-requires-clause-there c =
    let was = times-view c.self.inside.links.items _ c.args.self.now (sym c.self.view_is) c.args.hash c.args.place in
    ap (λ links. is_under c.args.hash (note_at links c.args.place)) c.as_mut_slice-2.ensures.value ∙ yes_of _ (subst (λ (n : ℕ). 0 < n) was c.requires)

pub returns-clause-notes : goal.returns-clause-notes
returns-clause-notes c = λ h p.
    let seen = times-view c.self.inside.links.items _ c.args.self.now (sym c.self.view_is) c.args.hash c.args.place in
    let there = under_of c.args.hash (note_at c.as_mut_slice-2.result.now c.args.place) (ap (λ links. is_under c.args.hash (note_at links c.args.place)) c.as_mut_slice-2.ensures.value ∙ yes_of _ (subst (λ (n : ℕ). 0 < n) seen c.requires)) in
    let was : times c.args.self.now h p ≡ one_if (is_under h (note_at c.as_mut_slice-2.result.now p))
    = times-view c.self.inside.links.items _ c.args.self.now (sym c.self.view_is) h p ∙ ap (λ links. one_if (is_under h (note_at links p))) (sym c.as_mut_slice-2.ensures.value) in
    let is = take_at c.unlink.new.links (drop (length c.unlink.new.links) c.self.inside.links.items) c.self.inside.links.len (omega arith) in
    let now = times-notes_in h p (take c.self.inside.links.len (c.unlink.new.links ++ drop (length c.unlink.new.links) c.self.inside.links.items)) ∙ ap (λ links. one_if (is_under h (note_at links p))) is in
    omega (arith, was, now, times-less c.as_mut_slice-2.result.now c.unlink.new.links c.args.hash c.args.place c.unlink.ensures.notes there h p)
