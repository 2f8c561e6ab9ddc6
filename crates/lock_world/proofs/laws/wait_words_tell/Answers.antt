use Rattle.lock_world.specs.SafeWorld.{tabled}
use Rattle.lock_world.proofs.Lemmas.FromSafe.{idle-shows, queued-shows, waiting-stands}
use Rattle.lock_world.proofs.Lemmas.FromSafeWorld.{granted-held_world}
use Rattle.lock_world.proofs.laws.wait_words_tell.Goals as goal

pub returns-clause-idle : goal.returns-clause-idle
returns-clause-idle c =
    λ w safe s.
    idle-shows (tabled w) safe.but_slots s

pub returns-clause-queued : goal.returns-clause-queued
returns-clause-queued c =
    λ w safe p s t there.
    queued-shows (tabled w) safe.but_slots p s t there

pub returns-clause-waiting : goal.returns-clause-waiting
returns-clause-waiting c =
    λ w safe s wait is home shows.
    waiting-stands (tabled w) safe.but_slots s wait is home shows

pub returns-clause-granted : goal.returns-clause-granted
returns-clause-granted c =
    λ w safe s shown.
    granted-held_world w safe s shown
