use Rattle.std.proofs.Common.{◌≡◌, ◌∙◌, sym, true}
use Rattle.std.specs.Prelude.{is_some}
use Rattle.lock_script.proofs.Lemmas.Defects.{found-not_free}
use Rattle.lock_script.proofs.kept.is_called.Goals as goal

pub returns-clause-called : goal.returns-clause-called
returns-clause-called g c called =
    let found : is_some c.place_called.result ≡ true = sym c.is_some.ensures ∙ called in
    found-not_free c.args.sessions.now c.args.name.now.bytes c.place_called.result c.place_called.ensures.called found
