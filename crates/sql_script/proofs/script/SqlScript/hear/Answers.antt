use Rattle.std.proofs.Common.{◌≡◌, ◌∙◌, true, false, ap, sym}
use Rattle.sql_script.specs.Known.{Known}
use Rattle.sql_script.specs.Lines.{verb_of}
use Rattle.sql_script.specs.declared.verbs.Verb.TheVariants as verb
use Rattle.sql_script.proofs.Lemmas.Hearing.{end-heard, heard-as, statements-heard}
use Rattle.sql_script.proofs.script.SqlScript.hear.Goals as goal

pub returns-in-Do-clause-heard : goal.returns-in-Do-clause-heard
returns-in-Do-clause-heard c =
    let seen = ap (λ (known : Known). known.in_schema) c.self.view_is in
    let out : c.args.self.now.in_schema ≡ false = cc in
    heard-as c.args.self.now c.args.line.now verb.Do c.hear_statements.result out
    (sym c.in-Do.is ∙ (c.verb_of.ensures ∙ ap verb_of c.cut_word.ensures.word))
    (statements-heard c.args.self.now.sessions c.args.line.now c.cut_word.result.1.now c.cut_word-2.result.0.now c.cut_word-2.result.1.now false
    c.hear_statements.result c.cut_word.ensures.behind c.cut_word-2.ensures.word c.cut_word-2.ensures.behind c.hear_statements.ensures)

pub returns-in-Work-clause-heard : goal.returns-in-Work-clause-heard
returns-in-Work-clause-heard c =
    let seen = ap (λ (known : Known). known.in_schema) c.self.view_is in
    let out : c.args.self.now.in_schema ≡ false = cc in
    heard-as c.args.self.now c.args.line.now verb.Work c.hear_statements-in-Work.result out
    (sym c.in-Work.is ∙ (c.verb_of.ensures ∙ ap verb_of c.cut_word.ensures.word))
    (statements-heard c.args.self.now.sessions c.args.line.now c.cut_word.result.1.now c.cut_word-2.result.0.now c.cut_word-2.result.1.now true
    c.hear_statements-in-Work.result c.cut_word.ensures.behind c.cut_word-2.ensures.word c.cut_word-2.ensures.behind c.hear_statements-in-Work.ensures)

pub returns-in_ok-ends_there-in-Done-2-clause-heard : goal.returns-in_ok-ends_there-in-Done-2-clause-heard
returns-in_ok-ends_there-in-Done-2-clause-heard c =
    let seen = ap (λ (known : Known). known.in_schema) c.self.view_is in
    let out : c.args.self.now.in_schema ≡ false = cc in
    heard-as c.args.self.now c.args.line.now verb.Done c.hear_end.result out
    (sym c.in-Done.is ∙ (c.verb_of.ensures ∙ ap verb_of c.cut_word.ensures.word))
    (end-heard c.args.self.now.sessions c.args.line.now c.cut_word.result.1.now c.cut_word-2.result.0.now c.cut_at_semicolon.result.0.now
    c.hear_end.result c.cut_word.ensures.behind c.cut_word-2.ensures.word c.cut_at_semicolon.ensures.before c.hear_end.ensures)
