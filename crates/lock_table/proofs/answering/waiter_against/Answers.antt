use Rattle.std.proofs.Common.{◌≡◌, List, [], ◌∷◌, Option, Some, None, not, refl, sym, ap, ◌∙◌, false}
use Rattle.std.specs.Prelude.{slice_get, option_map, is_some}
use Rattle.std.proofs.lemmas.Bool.{true≢false}
use Rattle.modes_core.specs.declared.modes.Mode.{Mode}
use Rattle.modes_core.specs.Conflict.{conflict}
use Rattle.lock_table.specs.declared.waits.Waiter.{Waiter}
use Rattle.lock_table.specs.Content.{Wait}
use Rattle.lock_table.specs.Clash.{first_waiter}
use Rattle.lock_table.specs.Waiter.{shown_wait}
use Rattle.lock_table.proofs.Lemmas.Find.{find-none}
use Rattle.lock_table.proofs.answering.waiter_against.Goals as goal

-- where nobody waits at the front, nobody waits in conflict
nobody : (queue : List Wait) (mode : Mode) → None ≡ slice_get queue 0 → None ≡ first_waiter queue mode
nobody [] mode none = refl
nobody (wait ∷ waits) mode none = absurd (cc)

at-front : (front : Option Waiter) (queue : List Wait) (mode : Mode) → option_map shown_wait front ≡ slice_get queue 0 → is_some front ≡ false → None ≡ first_waiter queue mode
at-front None queue mode wait none = nobody queue mode wait
at-front (Some waiter) queue mode wait none = absurd (true≢false none)

pub returns-then-is_none : goal.returns-then-is_none
returns-then-is_none g c =
    at-front c.waiter.result ((g.P.PartTable.content c.args.part.now).waits c.args.tag.now) c.args.mode c.waiter.ensures.wait (c.is_none.ensures ∙ ap not c.if-is_none.true)

pub returns-then-not-may_conflict : goal.returns-then-not-may_conflict
returns-then-not-may_conflict g c =
    sym (find-none (λ (wait : Wait). conflict c.args.mode wait.mode) ((g.P.PartTable.content c.args.part.now).waits c.args.tag.now) (c.may_conflict.ensures.awaited c.if-not-may_conflict.true))
