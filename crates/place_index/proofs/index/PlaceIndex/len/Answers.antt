use Rattle.std.proofs.Common.{length, sym, ap, ◌∙◌}
use Rattle.place_index.specs.Notes.{Notes}
use Rattle.place_index.proofs.Lemmas.Notes.{length-notes_in}
use Rattle.place_index.proofs.index.PlaceIndex.len.Goals as goal

pub returns : goal.returns
returns c = c.self.invariant.counted ∙ (sym (length-notes_in c.self.inside.links.items) ∙ ap (λ (v : Notes). length v.notes) c.self.view_is)
