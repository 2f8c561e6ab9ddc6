use Rattle.std.proofs.Common.{sym, ap, ◌∙◌, ◌==◌, length}
use Rattle.std.proofs.lemmas.Bool.{false≢true}
use Rattle.lock_manager.proofs.releases.wake_and_put.Goals as goal

pub put_with_woken-requires-clause-lawful : goal.put_with_woken-requires-clause-lawful
put_with_woken-requires-clause-lawful g c =
    let woken = c.wake.ensures.woken in
    c.requires.lawful.some woken.0 (g.T.PartTable.woken c.wake.new.self) (g.T.PartTable.content c.wake.new.self) woken.1 woken.2
    (λ none. false≢true (sym c.if-is_empty.false ∙ c.is_empty.ensures ∙ ap (λ items. length items == 0) (c.woken.ensures ∙ none)))
