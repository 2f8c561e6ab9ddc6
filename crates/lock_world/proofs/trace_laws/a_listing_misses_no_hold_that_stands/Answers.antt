use Rattle.std.proofs.Common.{◌≡◌, [], ◌∷◌, ◌++◌, refl, subst, sym}
use Rattle.lock_table.proofs.Lemmas.Put.{set_at-here}
use Rattle.lock_world.specs.World.{World, Took}
use Rattle.lock_world.proofs.Lemmas.Listing.{stays-in_content, taken-has}
use Rattle.lock_world.proofs.trace_laws.a_listing_misses_no_hold_that_stands.Goals as goal

pub returns-clause-misses_none : goal.returns-clause-misses_none
returns-clause-misses_none c =
    λ w v u lister s i n taker t m events worlds safe loads unshown stands run throughout takes.
    taken-has w v u lister s i n taker t m events worlds safe loads unshown stands run throughout takes

pub returns-clause-stays_in_content : goal.returns-clause-stays_in_content
returns-clause-stays_in_content c =
    λ w events worlds session tag mode safe run there stands place u at.
    stays-in_content w events worlds session tag mode safe run there stands place u at

pub returns-clause-taken : goal.returns-clause-taken
returns-clause-taken c =
    λ w v s p h.
    subst (λ (z : World). z.sessions.trace s ≡ w.sessions.trace s ++ Took p (w.contents.now p) ∷ []) (sym h.1)
    (set_at-here w.sessions.trace s (w.sessions.trace s ++ Took p (w.contents.now p) ∷ []) s refl)
