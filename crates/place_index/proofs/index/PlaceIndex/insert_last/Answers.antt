use Rattle.std.proofs.Common.{◌≡◌, ◌≢◌, ℕ, ◌<◌, ◌++◌, List, length, take, drop, sym, ap, subst, ◌∙◌, inl, inr, arith}
use Rattle.std.proofs.lemmas.Bool.{cases_eq}
use Rattle.std.proofs.lemmas.List.{take_at}
use Rattle.place_index.specs.Notes.{times}
use Rattle.place_index.specs.Chains.{end_of_chain, note_at, head_at, is_under, start_of}
use Rattle.place_index.proofs.Lemmas.Notes.{one_if, is_under-some, times-notes_in, times-view}
use Rattle.place_index.proofs.Lemmas.Chains.{start_of-below}
use Rattle.place_index.proofs.Lemmas.Links.{some_first}
use Rattle.place_index.proofs.Lemmas.Index.{some_of, times-more, free_note}
use Rattle.place_index.proofs.index.PlaceIndex.insert_last.Goals as goal

pub link_first-requires-clause-free : goal.link_first-requires-clause-free
link_first-requires-clause-free c =
    let none : (q : ℕ) → times c.args.self.now q c.args.place ≡ 0 = λ q. elim (cases_eq (times c.args.self.now q c.args.place) 0) [ inl is ↦ is | inr some ↦ absurd (omega (arith, c.requires.last q c.args.place (omega arith))) ] in
    free_note c.as_mut_slice-2.result.now c.args.place (λ h.
    ap (λ links. one_if (is_under h (note_at links c.args.place))) c.as_mut_slice-2.ensures.value
    ∙ (sym (times-view c.self.inside.links.items _ c.args.self.now (sym c.self.view_is) h c.args.place) ∙ none h))

pub returns-clause-notes : goal.returns-clause-notes
returns-clause-notes c = λ h p.
    let none : (q : ℕ) → times c.args.self.now q c.args.place ≡ 0 = λ q. elim (cases_eq (times c.args.self.now q c.args.place) 0) [ inl is ↦ is | inr some ↦ absurd (omega (arith, c.requires.last q c.args.place (omega arith))) ] in
    let free = free_note c.as_mut_slice-2.result.now c.args.place (λ k.
    ap (λ links. one_if (is_under k (note_at links c.args.place))) c.as_mut_slice-2.ensures.value
    ∙ (sym (times-view c.self.inside.links.items _ c.args.self.now (sym c.self.view_is) k c.args.place) ∙ none k)) in
    let was : times c.args.self.now h p ≡ one_if (is_under h (note_at c.as_mut_slice-2.result.now p))
    = times-view c.self.inside.links.items _ c.args.self.now (sym c.self.view_is) h p ∙ ap (λ links. one_if (is_under h (note_at links p))) (sym c.as_mut_slice-2.ensures.value) in
    let is = take_at c.link_first.new.links (drop (length c.link_first.new.links) c.self.inside.links.items) c.self.inside.links.len (omega arith) in
    let now = times-notes_in h p (take c.self.inside.links.len (c.link_first.new.links ++ drop (length c.link_first.new.links) c.self.inside.links.items)) ∙ ap (λ links. one_if (is_under h (note_at links p))) is in
    omega (arith, was, now, times-more c.as_mut_slice-2.result.now c.link_first.new.links c.args.hash c.args.place c.link_first.ensures.notes free h p)

pub link_first-requires-clause-first : goal.link_first-requires-clause-first
link_first-requires-clause-first c =
    let heads = c.self.inside.heads.items in
    let links = c.self.inside.links.items in
    let first : head_at heads (start_of (length heads) c.args.hash) ≢ end_of_chain → head_at heads (start_of (length heads) c.args.hash) < c.args.place
    = λ goes.
    let begins = start_of-below (length heads) c.args.hash (omega (arith, c.ranges.hash)) c.self.invariant.starts.some in
    let found = some_first heads links (start_of (length heads) c.args.hash) c.self.invariant.linked begins goes in
    let was = times-view links _ c.args.self.now (sym c.self.view_is) found.0 (head_at heads (start_of (length heads) c.args.hash)) in
    c.requires.last found.0 (head_at heads (start_of (length heads) c.args.hash))
    (subst (λ (n : ℕ). 0 < n) (sym was) (some_of _ (is_under-some found.0 (note_at links (head_at heads (start_of (length heads) c.args.hash))) found.1))) in
    subst (λ (hs : List ℕ). head_at hs (start_of (length hs) c.args.hash) ≢ end_of_chain → head_at hs (start_of (length hs) c.args.hash) < c.args.place) (sym c.as_mut_slice.ensures.value) first
