use Rattle.std.proofs.Common.{List, ℕ, [], ◌++◌, append-nil, codes, rules, subst, sym, take, ◌∙◌}
use Rattle.std.specs.Fmt.{HasWritten, decimal}
use Rattle.std.proofs.Output.{has_written_append}
use Rattle.scenario.proofs.Lemmas.Leaving.{named, more-missed, named-all, named-more, none-missed, one-missed}
use Rattle.scenario.proofs.text.LeftTextDisplay.fmt.Goals as goal

pub others-preserved : goal.others-preserved
others-preserved g c = λ plain.
    let both : HasWritten g.W.Write.write_str_gives c.args.f.now (named c.args.self.now.first (take c.others.name-index c.args.self.now.others.now) ++ (codes ", " ++ c.name-item.result.bytes)) c.write-in-others.new.self =
    has_written_append _ _ _ _ _ _ (c.others.invariant plain) (search rules) in
    subst (λ (text : List ℕ). HasWritten g.W.Write.write_str_gives c.args.f.now text c.write-in-others.new.self)
    (named-more c.args.self.now.first c.args.self.now.others.now c.others.name-index c.name-item.result c.others-test.true c.name-item.is) both

pub returns-in-0-clause-writes : goal.returns-in-0-clause-writes
returns-in-0-clause-writes g c = λ plain ok.
    subst (λ (text : List ℕ). HasWritten g.W.Write.write_str_gives c.args.f.now text c.others.f)
    (sym (append-nil _) ∙ named-all c.args.self.now.first c.args.self.now.others.now c.others.name-index c.args.self.now.lines [] c.others-test.false
    (none-missed c.args.self.now.lines c.in-0.is)) (c.others.invariant plain)

pub returns-in-1-clause-writes : goal.returns-in-1-clause-writes
returns-in-1-clause-writes g c = λ plain ok.
    let both : HasWritten g.W.Write.write_str_gives c.args.f.now (named c.args.self.now.first (take c.others.name-index c.args.self.now.others.now) ++ codes "; not reached: 1 line") c.write-in-1.new.self =
    has_written_append _ _ _ _ _ _ (c.others.invariant plain) (search rules) in
    subst (λ (text : List ℕ). HasWritten g.W.Write.write_str_gives c.args.f.now text c.write-in-1.new.self)
    (named-all c.args.self.now.first c.args.self.now.others.now c.others.name-index c.args.self.now.lines (codes "; not reached: 1 line") c.others-test.false
    (one-missed c.args.self.now.lines c.in-1.is)) both

pub returns-in_default-clause-writes : goal.returns-in_default-clause-writes
returns-in_default-clause-writes g c = λ plain ok.
    let both : HasWritten g.W.Write.write_str_gives c.args.f.now
    (named c.args.self.now.first (take c.others.name-index c.args.self.now.others.now) ++ ((codes "; not reached: " ++ decimal c.args.self.now.lines) ++ codes " lines")) c.write-in_default.new.self =
    has_written_append _ _ _ _ _ _ (c.others.invariant plain) (search rules) in
    subst (λ (text : List ℕ). HasWritten g.W.Write.write_str_gives c.args.f.now text c.write-in_default.new.self)
    (named-all c.args.self.now.first c.args.self.now.others.now c.others.name-index c.args.self.now.lines ((codes "; not reached: " ++ decimal c.args.self.now.lines) ++ codes " lines") c.others-test.false
    (more-missed c.args.self.now.lines (search rules) (search rules))) both
