use Rattle.std.proofs.Common.{◌≡◌, true}
use Rattle.std.specs.Prelude.{is_some}
use Rattle.lock_script.specs.Words.{number_in}
use Rattle.lock_script.proofs.Lemmas.Words.{no_tag-past}
use Rattle.lock_script.proofs.words.parse_catalogued.Goals as goal

pub returns-then-is_some : goal.returns-then-is_some
returns-then-is_some c =
    let parted : is_some c.cut_at_slash-3.result ≡ true = cc in
    rw (c.in-Some.ensures, c.in-Some-cut_at_slash.ensures)
    (no_tag-past c.in-Some-cut_at_slash.sub_object.now c.cut_at_slash-3.result
    (number_in c.args.database.now) (number_in c.in-Some.class.now) (number_in c.in-Some-cut_at_slash.object.now)
    parted c.cut_at_slash-3.ensures)
