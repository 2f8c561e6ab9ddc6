use Rattle.std.proofs.Common.{◌≡◌, ℕ, false, ◌||◌, ◌&&◌, List, [], ◌∷◌, refl, ap, ◌∙◌}
use Rattle.std.specs.Prelude.{◌==◌}
use Rattle.std.proofs.lemmas.Bool.{or_parts}
use Rattle.modes_core.specs.declared.modes.Mode.{Mode}
use Rattle.modes_core.specs.Mode.{mode_eq}
use Rattle.lock_table.specs.Content.{Wait}
use Rattle.lock_table.specs.Queue.{waits_there, awaits_mode}

-- A session that doesn't wait awaits no mode.
pub awaits_mode-none : (queue : List Wait) (session : ℕ) (mode : Mode) → waits_there queue session ≡ false → awaits_mode queue session mode ≡ false
awaits_mode-none [] session mode none = refl
awaits_mode-none (wait ∷ queue) session mode none =
    let parts = or_parts (wait.session == session) (waits_there queue session) none in
    ap (λ b. (b && mode_eq wait.mode mode) || awaits_mode queue session mode) parts.0 ∙ awaits_mode-none queue session mode parts.1
