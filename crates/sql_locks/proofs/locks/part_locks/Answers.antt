use Rattle.std.proofs.Common.{rules, ◌≡◌, Some, refl, subst}
use Rattle.sql_locks.specs.Reach.{start_of, edges_of, IsClosure}
use Rattle.sql_locks.specs.declared.forms.Along.{Along}
use Rattle.sql_locks.proofs.locks.part_locks.Goals as goal

pub returns : goal.returns
returns c =
    let begins : start_of c.args.part.now.path.start c.args.act.now ≡ Some c.in-Some.start = search rules in
    rw begins (
      c.in_ok-found.found.items,
      subst (λ (along : Along). IsClosure (edges_of along c.args.links.now) c.in-Some.start c.in_ok-found.found.items)
          c.along_gone-along.ensures c.in_ok-found.ensures,
      rw (c.in_ok-push_locks.ensures, c.new-locks.ensures.items, c.in_ok-reached.ensures) refl,
    )
