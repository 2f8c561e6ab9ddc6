use Rattle.std.proofs.Common.{ℕ, ◌<◌, sym, ap, subst, ◌∙◌}
use Rattle.std.proofs.lemmas.Option.{IfSome_then}
use Rattle.place_index.specs.Chains.{note_at, is_under}
use Rattle.place_index.proofs.Lemmas.Notes.{times-view}
use Rattle.place_index.proofs.Lemmas.Index.{if_none, yes_of, some_of}
use Rattle.place_index.proofs.index.PlaceIndex.find.Goals as goal

pub find-requires-clause-callable : goal.find-requires-clause-callable
find-requires-clause-callable g c = λ p under.
    let was = times-view c.self.inside.links.items _ c.args.self.now (sym c.self.view_is) c.args.hash p in
    let here = ap (λ links. is_under c.args.hash (note_at links p)) (sym c.as_slice-2.ensures.value) ∙ under in
    c.requires p (subst (λ (n : ℕ). 0 < n) (sym was) (some_of _ here))

pub returns-clause-found : goal.returns-clause-found
returns-clause-found g c = IfSome_then c.find.result c.find.ensures.found (λ p both.
    let was = times-view c.self.inside.links.items _ c.args.self.now (sym c.self.view_is) c.args.hash p in
    let here = ap (λ links. is_under c.args.hash (note_at links p)) (sym c.as_slice-2.ensures.value) ∙ both.0 in
    (subst (λ (n : ℕ). 0 < n) (sym was) (some_of _ here), both.1))

pub returns-clause-absent : goal.returns-clause-absent
returns-clause-absent g c = if_none _ _ c.find.result c.find.ensures.absent (λ all p some.
    let was = times-view c.self.inside.links.items _ c.args.self.now (sym c.self.view_is) c.args.hash p in
    all p (ap (λ links. is_under c.args.hash (note_at links p)) c.as_slice-2.ensures.value ∙ yes_of _ (subst (λ (n : ℕ). 0 < n) was some)))
