use Rattle.std.proofs.Common.{◌≡◌, true}
use Rattle.std.specs.Prelude.{is_some}
use Rattle.lock_script.specs.Words.{number_in}
use Rattle.lock_script.proofs.Lemmas.Words.{no_advisory-past}
use Rattle.lock_script.proofs.words.parse_advisory.Goals as goal

pub returns-then-is_some : goal.returns-then-is_some
returns-then-is_some c =
    let parted : is_some c.cut_at_slash-4.result ≡ true = cc in
    rw (c.in-Some.ensures, c.in-Some-cut_at_slash.ensures, c.in-Some-cut_at_slash-2.ensures)
    (no_advisory-past c.in-Some-cut_at_slash-2.sub.now c.cut_at_slash-4.result
    (number_in c.in-Some.database.now) (number_in c.in-Some-cut_at_slash.key1.now) (number_in c.in-Some-cut_at_slash-2.key2.now)
    parted c.cut_at_slash-4.ensures)
