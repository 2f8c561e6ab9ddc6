use Rattle.std.proofs.Common.{◌≡◌, ℕ, ◌+◌, ◌<◌, ◌≤◌, List, Option, arith, ap, ◌∙◌, inl, inr}
use Rattle.std.proofs.lemmas.Bool.{cases_eq}
use Rattle.modes_core.specs.declared.modes.Mode.{Mode}
use Rattle.modes_core.specs.declared.modes.Mode.TheVariants.{AccessShare, RowShare, RowExclusive, ShareUpdateExclusive, Share, ShareRowExclusive, Exclusive, AccessExclusive}
use Rattle.modes_core.specs.declared.tags.Tag.{Tag}
use Rattle.lock_table.specs.Content.{Wait}
use Rattle.lock_records.specs.Tally.{counts_in}
use Rattle.lock_records.specs.Counting.{granted_of, awaited_of, total_of}
use Rattle.lock_records.specs.declared.holders.HolderRecord.{HolderRecord}
use Rattle.lock_records.specs.declared.locks.LockRecord.{LockRecord}
use Rattle.lock_records.specs.Holders.{holds_in, AreHolders}
use Rattle.lock_records.specs.Objects.{IsLock, IsUsed}
use Rattle.lock_records.proofs.Lemmas.GrantedCounts.{granted-some}
use Rattle.lock_records.proofs.Lemmas.Held.{held-from}
use Rattle.lock_records.proofs.Lemmas.Queues.{queue-empty}

-- Totals of counts: of equal ones, of sums, and no less than each.
pub total-same : (f g : Mode → ℕ) → ((m : Mode) → f m ≡ g m) → total_of f ≡ total_of g
total-same f g same = ap total_of (λ i m. same m i)

pub total-add : (f g : Mode → ℕ) → total_of f + total_of g ≡ total_of (λ m. f m + g m)
total-add f g = omega arith

pub total-least : (f : Mode → ℕ) (m : Mode) → f m ≤ total_of f
total-least f AccessShare = omega arith
total-least f RowShare = omega arith
total-least f RowExclusive = omega arith
total-least f ShareUpdateExclusive = omega arith
total-least f Share = omega arith
total-least f ShareRowExclusive = omega arith
total-least f Exclusive = omega arith
total-least f AccessExclusive = omega arith

module _ (holders : List (Option HolderRecord)) (queue : List Wait) (t : Tag) (l : LockRecord) (is : IsLock holders queue t l) where
  pub totals : total_of (counts_in l.granted) + total_of (counts_in l.awaited) ≡ total_of (λ m. granted_of (holds_in holders) t m + awaited_of queue m)
  totals =
      total-add (counts_in l.granted) (counts_in l.awaited)
      ∙ total-same (λ m. counts_in l.granted m + counts_in l.awaited m) (λ m. granted_of (holds_in holders) t m + awaited_of queue m)
      (λ m. let a = is.held.granted m in let b = is.awaited m in omega arith)

  -- Where somebody holds or awaits the object there is something to count.
  pub total-some : AreHolders holders t → IsUsed holders queue t → 0 < total_of (counts_in l.granted) + total_of (counts_in l.awaited)
  total-some are (inl held) =
      let shows = held-from holders held.0 t held.1 held.2 in
      let some : 0 < granted_of (holds_in holders) t held.1 = granted-some (holds_in holders) held.0 t held.1 (are.below held.0 shows.place shows.at) held.2 in
      let counted = is.held.granted held.1 in
      let least = total-least (counts_in l.granted) held.1 in
      omega arith
  total-some are (inr waits) =
      elim (cases_eq (total_of (counts_in l.awaited)) 0) [
        | inl none ↦ absurd (waits (queue-empty queue (λ m. let counted = is.awaited m in let least = total-least (counts_in l.awaited) m in omega arith)))
        | inr some ↦ omega (arith, some)
      ]
