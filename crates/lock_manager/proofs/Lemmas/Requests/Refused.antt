use Rattle.std.proofs.Common.{◌≡◌, ◌≢◌, ℕ, false, Some}
use Rattle.modes_core.specs.declared.modes.Mode.{Mode}
use Rattle.modes_core.specs.declared.tags.Tag.{Tag}
use Rattle.modes_core.specs.declared.refusals.How.{How}
use Rattle.modes_core.specs.declared.refusals.How.TheVariants.{Held, Awaited}
use Rattle.lock_table.specs.declared.answering.Clash.{Clash}
use Rattle.lock_table.specs.Content.{Content}
use Rattle.lock_table.specs.Clash.{ClashIs}
use Rattle.lock_table.specs.Queue.{waits_there}
use Rattle.lock_world.specs.Headline.{IsThereAs}
use Rattle.lock_world.proofs.Lemmas.Headline.{clash-in_the_way}

-- What a refused request names: what it clashes with is another session's where that which asks has no wait
-- there.
is_there-another :
    (how : How) (content : Content) (number : ℕ) (tag : Tag) (other : ℕ) (its : Mode) → waits_there (content.waits tag) number ≡ false
    → IsThereAs how content number tag other its → other ≢ number
is_there-another Held content number tag other its none there = there.1
is_there-another Awaited content number tag other its none there = there.1 none

pub clash-another :
    (content : Content) (number : ℕ) (tag : Tag) (mode : Mode) (clash : Clash) → waits_there (content.waits tag) number ≡ false
    → ClashIs content number tag mode (Some clash) → clash.session ≢ number
clash-another content number tag mode clash none is =
    is_there-another clash.how content number tag clash.session clash.mode none (clash-in_the_way content number tag mode clash is).there
