use Rattle.std.proofs.lemmas.Str.{IsCharBoundary-after_ascii, IsCharBoundary-before_ascii}
use Rattle.lock_script.specs.Words.{is_blank}
use Rattle.lock_script.proofs.Lemmas.Words.{no_parts, first_place, parts-round, first_blank-below}
use Rattle.lock_script.proofs.words.cut_at_blank.Goals as goal

pub returns-in-None-clause-parts : goal.returns-in-None-clause-parts
returns-in-None-clause-parts c = no_parts is_blank c.args.text.now c.in-None.ensures

pub range-requires-clause-end_boundary : goal.range-requires-clause-end_boundary
range-requires-clause-end_boundary c =
    IsCharBoundary-before_ascii c.args.text.now c.in-Some.end (first_place is_blank c.args.text.now c.in-Some.end c.in-Some.ensures).1 (first_blank-below c.args.text.now c.in-Some.end c.in-Some.ensures)

pub range_from-requires : goal.range_from-requires
range_from-requires c = λ _.
    IsCharBoundary-after_ascii c.args.text.now c.in-Some.end c.utf8.text (first_place is_blank c.args.text.now c.in-Some.end c.in-Some.ensures).1 (first_blank-below c.args.text.now c.in-Some.end c.in-Some.ensures)

pub returns-in-Some-clause-parts : goal.returns-in-Some-clause-parts
returns-in-Some-clause-parts c =
    parts-round is_blank c.args.text.now c.in-Some.end c.range.result.now c.range_from.result.now c.in-Some.ensures c.range.ensures.value c.range_from.ensures.value
