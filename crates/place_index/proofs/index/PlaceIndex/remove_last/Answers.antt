use Rattle.std.proofs.Common.{◌≡◌, ◌++◌, length, take, drop, count_by, true, sym, ap, ◌∙◌, arith}
use Rattle.std.specs.Prelude.{Some}
use Rattle.std.proofs.lemmas.List.{take_at}
use Rattle.place_index.specs.Notes.{Notes}
use Rattle.place_index.specs.Chains.{head_at, is_noted, note_at, notes_in, is_under, start_of}
use Rattle.place_index.specs.declared.links.Link.{Link}
use Rattle.place_index.proofs.Lemmas.Notes.{one_if, link_read, is_under-some, times-notes_in, times-view, length-notes_in}
use Rattle.place_index.proofs.Lemmas.Links.{head_of_last}
use Rattle.place_index.proofs.Lemmas.Index.{some_of, times-less, noted_link}
use Rattle.place_index.proofs.Lemmas.Chains.{start_of-below}
use Rattle.place_index.proofs.index.PlaceIndex.remove_last.Goals as goal

pub index-requires : goal.index-requires
index-requires c = omega (arith, (noted_link c.self.inside.links.items _ c.args.self.now c.self.view_is c.requires.noted.0 c.args.place c.requires.noted.1).2, c.self.inside.links.ok.0)

-- the hash that is read is the one that the place is noted under
under : (c : goal.After-as_mut_slice-2) → is_under c.hash-hash.result (note_at c.self.inside.links.items c.args.place) ≡ true
under c =
    let links = c.self.inside.links.items in
    let own = noted_link links _ c.args.self.now c.self.view_is c.requires.noted.0 c.args.place c.requires.noted.1 in
    let read = c.hash-hash.ensures ∙ (ap (λ (l : Link). l.hash) (c.index.ensures ∙ link_read links c.args.place _ own.2) ∙ own.1) in
    is_under-some c.hash-hash.result _ (own.0 ∙ ap (λ n. Some n) (sym read))

pub unlink_first-requires-clause-there : goal.unlink_first-requires-clause-there
unlink_first-requires-clause-there c = ap (λ links. is_under c.hash-hash.result (note_at links c.args.place)) c.as_mut_slice-2.ensures.value ∙ under c

pub unlink_first-requires-clause-first : goal.unlink_first-requires-clause-first
unlink_first-requires-clause-first c =
    let heads = c.self.inside.heads.items in
    let links = c.self.inside.links.items in
    ap (λ l. head_at l (start_of (length l) c.hash-hash.result)) c.as_mut_slice.ensures.value
    ∙ head_of_last heads links c.hash-hash.result c.args.place c.self.invariant.linked (start_of-below (length heads) c.hash-hash.result (omega arith) c.self.invariant.starts.some) (under c)
    (λ h p noted. c.requires.last h p (omega (arith, times-view links _ c.args.self.now (sym c.self.view_is) h p, some_of _ (is_under-some h (note_at links p) noted))))

pub returns-clause-notes : goal.returns-clause-notes
returns-clause-notes c = λ hash some h p.
    let links = c.as_mut_slice-2.result.now in
    let there = ap (λ l. note_at l c.args.place) c.as_mut_slice-2.ensures.value ∙ (noted_link c.self.inside.links.items _ c.args.self.now c.self.view_is hash c.args.place some).0 in
    let was = times-view c.self.inside.links.items _ c.args.self.now (sym c.self.view_is) h p ∙ ap (λ l. one_if (is_under h (note_at l p))) (sym c.as_mut_slice-2.ensures.value) in
    let is = take_at c.unlink_first.new.links (drop (length c.unlink_first.new.links) c.self.inside.links.items) c.self.inside.links.len (omega arith) in
    let now = times-notes_in h p (take c.self.inside.links.len (c.unlink_first.new.links ++ drop (length c.unlink_first.new.links) c.self.inside.links.items)) ∙ ap (λ l. one_if (is_under h (note_at l p))) is in
    omega (arith, was, now, times-less links c.unlink_first.new.links hash c.args.place c.unlink_first.ensures.notes there h p)

pub returns-clause-number : goal.returns-clause-number
returns-clause-number c =
    let links = c.self.inside.links in
    let left = c.unlink_first.new.links in
    let is = take_at left (drop (length left) links.items) links.len (omega arith) in
    let now = ap (λ l. length (notes_in l)) is ∙ length-notes_in left in
    let was = ap (λ (v : Notes). length v.notes) (sym c.self.view_is) ∙ (length-notes_in links.items ∙ ap (count_by is_noted) (sym c.as_mut_slice-2.ensures.value)) in
    omega (arith, now, was, c.unlink_first.ensures.counted)
