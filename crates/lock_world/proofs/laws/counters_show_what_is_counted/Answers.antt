use Rattle.lock_world.specs.SafeWorld.{tabled}
use Rattle.lock_world.proofs.Lemmas.FromSafe.{awaits-for}
use Rattle.lock_world.proofs.Lemmas.Headline.{headline}
use Rattle.lock_world.specs.Headline.{InPartition}
use Rattle.lock_world.proofs.laws.counters_show_what_is_counted.Goals as goal

pub returns-clause-shown : goal.returns-clause-shown
returns-clause-shown c =
    λ w safe index. safe.counters.shown index

pub returns-clause-once : goal.returns-clause-once
returns-clause-once c =
    λ w safe s. safe.counters.once s

pub returns-clause-held : goal.returns-clause-held
returns-clause-held c =
    λ w safe s t m strong has. safe.done.held s t m strong has

pub returns-clause-awaited : goal.returns-clause-awaited
returns-clause-awaited c =
    λ w safe s t m strong awaits. safe.done.awaits s t m strong awaits

pub returns-clause-held_in_content : goal.returns-clause-held_in_content
returns-clause-held_in_content c =
    λ w safe p s t m strong has.
    (headline w safe).strong_is_counted s t m strong ((headline w safe).nowhere_else s t m (InPartition p) has)

pub returns-clause-awaited_in_content : goal.returns-clause-awaited_in_content
returns-clause-awaited_in_content c =
    λ w safe p s t m strong awaits.
    safe.done.awaits s t m strong (awaits-for (tabled w) safe.but_slots p s t m awaits)

pub returns-clause-past : goal.returns-clause-past
returns-clause-past c =
    λ w safe s o t m gone. safe.past s o t m gone
