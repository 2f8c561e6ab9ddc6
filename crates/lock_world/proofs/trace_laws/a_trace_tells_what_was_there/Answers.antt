use Rattle.lock_world.specs.World.{Loaded, AskedToCancel, Episode}
use Rattle.lock_world.proofs.Lemmas.Telling.{added-tells, each-told}
use Rattle.lock_world.proofs.Lemmas.SafeWorld.Opening.{opening-safe}
use Rattle.lock_world.proofs.trace_laws.a_trace_tells_what_was_there.Goals as goal

pub returns-clause-loaded : goal.returns-clause-loaded
returns-clause-loaded c =
    λ w v event word shown h grown. added-tells w v event (Loaded word shown) h grown

pub returns-clause-asked : goal.returns-clause-asked
returns-clause-asked c =
    λ w v event other before h grown. added-tells w v event (AskedToCancel other before) h grown

pub returns-clause-put : goal.returns-clause-put
returns-clause-put c =
    λ w v event partition taken put_back h grown. added-tells w v event (Episode partition taken put_back) h grown

pub returns-clause-on_the_way : goal.returns-clause-on_the_way
returns-clause-on_the_way c =
    λ limit groups events worlds session before after entry below run stands.
    each-told limit groups events worlds session before after entry (opening-safe limit groups below) run stands
