use Rattle.std.proofs.lemmas.Bool.{or_left}
use Rattle.modes_core.specs.Tag.{partition_of}
use Rattle.lock_world.specs.SafeWorld.{slots_of}
use Rattle.lock_world.proofs.Lemmas.FromSafeWorld.{shown-in_no_content}
use Rattle.one_list.proofs.laws.a_wait_remembers_what_stands_in_the_table.Goals as goal

pub returns : goal.returns
returns c =
    λ w safe session tag mode its shown. (
      or_left (slots_of w.words.database w.words.slot session tag its) ((w.contents.now (partition_of tag)).holds session tag its) shown,
      shown-in_no_content w safe (partition_of tag) session tag its shown,
    )
