use Rattle.std.proofs.Common.{◌≡◌, ◌++◌, [], ◌∷◌, rules}
use Rattle.lock_script.specs.Objects.{AreApart}
use Rattle.lock_script.specs.declared.objects.NamedObject.{NamedObject}
use Rattle.lock_script.proofs.Lemmas.Objects.{apart-push}
use Rattle.lock_script.proofs.objects.ObjectNames.push.Goals as goal

pub invariant_of-self-2 : goal.invariant_of-self-2
invariant_of-self-2 c =
    let apart : AreApart c.args.self.now = rw (← c.self.view_is) c.self.invariant in
    let one : NamedObject = record { name = c.args.name; tag = c.args.tag } in
    let pushed : c.push.new.self.items ≡ c.args.self.now ++ one ∷ [] = search rules in
    rw pushed (apart-push c.args.self.now one apart c.requires.free c.requires.unnamed)
