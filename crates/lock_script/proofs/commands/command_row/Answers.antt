use Rattle.std.proofs.Common.{◌∙◌, arith, sym}
use Rattle.std.proofs.lemmas.Slice.Eq.{bytes_eq-Decides}
use Rattle.lock_script.specs.Defects.{commands}
use Rattle.lock_script.proofs.Lemmas.Rows.{kinds-found, kinds-missing, none-so-far}
use Rattle.lock_script.proofs.commands.command_row.Goals as goal

pub returns-then-eq-clause-kinds : goal.returns-then-eq-clause-kinds
returns-then-eq-clause-kinds c =
    kinds-found c.args.verb.now commands c.command_rows-row-items.result.now c.command_rows-row-items.ensures.words c.rows.row-index _
    c.command_rows-row-items.ensures.none_else c.rows-test.true ((bytes_eq-Decides _ c.args.verb.now).0 (sym c.eq.ensures ∙ c.if-eq.true)) c.rows.invariant

pub rows-preserved : goal.rows-preserved
rows-preserved c =
    none-so-far c.args.verb.now c.command_rows-row-items.result.now c.rows.row-index _ c.rows-test.true (sym c.eq.ensures ∙ c.if-eq.false) c.rows.invariant

pub returns-clause-kinds : goal.returns-clause-kinds
returns-clause-kinds c =
    kinds-missing c.args.verb.now commands c.command_rows-row-items.result.now c.command_rows-row-items.ensures.words
    (λ i d within. c.rows.invariant i d (omega (arith, within, c.rows-test.false)))
