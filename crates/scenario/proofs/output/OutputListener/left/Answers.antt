use Rattle.std.proofs.Common.{ap, rules, ◌∷◌}
use Rattle.scenario.specs.Json.{left_data}
use Rattle.scenario.specs.Heard.{Left}
use Rattle.scenario.specs.Printed.{data_line, text_heard, text_line}
use Rattle.scenario.specs.Texts.{left_text}
use Rattle.scenario.specs.declared.style.Form.{Form}
use Rattle.scenario.proofs.Lemmas.Leaving.{always-ok, left-no-float, left-printed}
use Rattle.scenario.proofs.output.OutputListener.left.Goals as goal
use Rattle.scenario.proofs.output.OutputListener.left.Goals.{in-Text+in_ok-written-in-Text, in-Json+in_ok-write_object-in-Json}

pub returns-clause-heard : goal.returns-clause-heard
returns-clause-heard g c = always-ok c.flush.result (elim c.match-self.branch [
  | in-Text+in_ok-written-in-Text w ↦
      left-printed g.W.Write.contents c.args.self.now c.match-self.self c.flush.new.self c.args.waiting.now c.in-Some.first.now c.in-Some.others.now c.args.lines
      (text_line (left_text c.in-Some.first.now c.in-Some.others.now c.args.lines)) (search rules)
      (ap (λ (form : Form). text_heard form c.args.self.now.is_echoing c.args.self.now.line (Left (c.in-Some.first.now ∷ c.in-Some.others.now) c.args.lines)) w.in-Text.is)
      (search rules) c.flush.ensures.kept (search rules) (search rules) (search rules)
  | in-Json+in_ok-write_object-in-Json w ↦
      let floatless = left-no-float c.args.waiting.now c.args.lines in
      left-printed g.W.Write.contents c.args.self.now c.match-self.self c.flush.new.self c.args.waiting.now c.in-Some.first.now c.in-Some.others.now c.args.lines
      (data_line (left_data (c.in-Some.first.now ∷ c.in-Some.others.now) c.args.lines)) (search rules)
      (ap (λ (form : Form). text_heard form c.args.self.now.is_echoing c.args.self.now.line (Left (c.in-Some.first.now ∷ c.in-Some.others.now) c.args.lines)) w.in-Json.is)
      (search rules) c.flush.ensures.kept (search rules) (search rules) (search rules)
])
