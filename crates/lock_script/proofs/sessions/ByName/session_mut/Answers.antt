use Rattle.std.proofs.Common.{◌≡◌, ◌<◌, ◌∙◌, refl, ap, sym, subst, List, length, get_or, set}
use Rattle.std.proofs.lemmas.List.{get_or_default}
use Rattle.lock_script.specs.declared.sessions.Named.{Named}
use Rattle.lock_script.specs.Lending.{with_session}
use Rattle.lock_script.proofs.Lemmas.Lending.{set-session}
use Rattle.lock_script.proofs.sessions.ByName.session_mut.Goals as goal

pub returns : goal.returns
returns g c =
    let inside : c.args.place < length c.self.inside.sessions.items = subst (λ (those : List (Named g.row.S.Denot)). c.args.place < length those) (sym c.self.view_is) c.requires in (
      (
        refl,
        λ w. subst (λ (those : List (Named g.row.S.Denot)). set c.self.inside.sessions.items c.args.place (record { name = c.index_mut.result.now.name; session = w }) ≡ with_session those c.args.place w)
            c.self.view_is (set-session c.self.inside.sessions.items c.args.place c.index_mut.result.now w c.index_mut.ensures.value),
      ),
      record {
        writes_back = tt;
        value = λ d.
            ap (λ (it : Named g.row.S.Denot). it.session) (
            c.index_mut.ensures.value ∙ get_or_default c.self.inside.sessions.items c.args.place c.index_mut.result.now d inside ∙
            ap (λ (those : List (Named g.row.S.Denot)). get_or those c.args.place d) c.self.view_is
            );
      },
    )
