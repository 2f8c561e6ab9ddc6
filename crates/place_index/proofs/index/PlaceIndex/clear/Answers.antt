use Rattle.std.proofs.Common.{◌≡◌, ◌++◌, List, length, take, drop, ap, ◌∙◌, arith}
use Rattle.std.proofs.lemmas.List.{take_at}
use Rattle.std.proofs.lemmas.List.Sums.{count_by-le-length}
use Rattle.place_index.specs.declared.links.Link.{Link}
use Rattle.place_index.specs.Notes.{Notes}
use Rattle.place_index.specs.Chains.{notes_in, is_noted, note_at, is_under}
use Rattle.place_index.proofs.Lemmas.Notes.{one_if, times-notes_in, length-notes_in, note-replicate}
use Rattle.place_index.proofs.index.PlaceIndex.clear.Goals as goal

pub returns-clause-empty : goal.returns-clause-empty
returns-clause-empty c = λ h p.
    let is = take_at c.free_all.new.links (drop (length c.free_all.new.links) c.self.inside.links.items) c.self.inside.links.len (omega arith) in
    times-notes_in h p (take c.self.inside.links.len (c.free_all.new.links ++ drop (length c.free_all.new.links) c.self.inside.links.items))
    ∙ (ap (λ links. one_if (is_under h (note_at links p))) (is ∙ c.free_all.ensures.links) ∙ ap (λ n. one_if (is_under h n)) (note-replicate (length c.as_mut_slice-2.result.now) p))

pub returns-clause-fits : goal.returns-clause-fits
returns-clause-fits c =
    let links = c.self.inside.links.items in
    let notes : length (notes_in links) ≡ length c.args.self.now.notes = ap (λ (v : Notes). length v.notes) c.self.view_is in
    let is = take_at c.free_all.new.links (drop (length c.free_all.new.links) links) c.self.inside.links.len (omega arith) in
    omega (
      arith,
      notes,
      ap (λ (ls : List Link). length ls) is,
      length-notes_in links,
      count_by-le-length is_noted links,
      c.self.inside.links.ok.0,
      c.free_all.auto.links,
      c.as_mut_slice-2.ensures.len,
    )
