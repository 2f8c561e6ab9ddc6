use Rattle.std.proofs.Common.{◌≡◌, ◌++◌, [], ◌∷◌, None, refl, rules}
use Rattle.scenario.specs.declared.summary.WaitRow.{WaitRow}
use Rattle.scenario.proofs.summary.Summary.begin_wait.Goals as goal

pub returns-clause-begun : goal.returns-clause-begun
returns-clause-begun c =
    let row : WaitRow = record {
      session = c.name_of.result;
      from = c.args.self.now.line;
      ended = None;
      tag = c.args.blocked.now.tag;
      mode = c.args.blocked.now.mode;
      behind = c.in_ok-behind.behind;
    } in
    let last : c.push.new.self.items ≡ c.args.self.now.waits.items ++ row ∷ [] = search rules in
    record {
      row = row;
      session = c.name_of.ensures;
      from = refl;
      waits = refl;
      tag = refl;
      mode = refl;
      behind = search rules;
      last = last;
    }
