use Rattle.lw_word.specs.declared.words.LwMode.TheVariants.{Exclusive}
use Rattle.lock_world.specs.WaitLists.{partition_lock}
use Rattle.shared_rule.specs.Acquires.{IsTrying}
use Rattle.shared_rule.proofs.partitions.take_part_alone.Given as goal

abbrev pub invariant-loop : goal.invariant-loop
invariant-loop g l = IsTrying g.T.PartTable.content (partition_lock l.part) l.fn.seat l.seat

abbrev pub ghosts-look_at_lock : goal.ghosts-look_at_lock
ghosts-look_at_lock g a = record { mode = Exclusive }

abbrev pub ghosts-attempt_part : goal.ghosts-attempt_part
ghosts-attempt_part g a = record { sizes = a.words.now.key }
