use Rattle.std.specs.Prelude.{ℕ, zero, suc, List, [], ◌∷◌}
use Rattle.std.specs.Borrow.{Lends, Fml, RattleType, MutBor}
use Rattle.lock_script.specs.declared.sessions.Named.{Named}
use Rattle.lock_script.specs.contracts.sessions.ByName.{the_row}

-- What sessions end as, where a `&mut` to one of them is returned.

-- the sessions, with the one at this place as it is left
abbrev pub with_session : {S : Type 0} → List (Named S) → ℕ → S → List (Named S)
with_session [] place session = []
with_session (one ∷ others) zero session = record one { session = session } ∷ others
with_session (one ∷ others) (suc place) session = one ∷ with_session others place session

-- once the borrow r ends, the session at the place is the last value written through r
abbrev pub LendsSession : (S : RattleType) → MutBor (List (Named S.Denot)) → ℕ → MutBor S.Denot → Fml
LendsSession S those place r = Lends (the_row S) S those r (with_session those.now place)
