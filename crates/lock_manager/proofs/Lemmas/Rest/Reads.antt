use Rattle.std.proofs.Common.{◌≡◌, ℕ, List, sym, ap, ◌∙◌}
use Rattle.local_locks.specs.declared.records.Entry.{Entry}
use Rattle.lock_world.specs.Account.{Account}
use Rattle.lock_world.specs.SlotHolds.{ShowsNoMore}
use Rattle.lock_world.specs.World.{TraceEntry}
use Rattle.shared_rule.specs.Boards.{Stack}
use Rattle.fast_path.specs.declared.use_counts.UseCounts.{UseCounts}
use Rattle.lock_manager.specs.Rest.{IsAtRest}
use Rattle.lock_manager.proofs.Lemmas.Rest.Acquires.{use_count-same, use_count-fewer}

-- A session at rest that reads is at rest after it.

module _ (groups limit database : ℕ) (uses : UseCounts) (a b : Account) (stack left : Stack) (entries : List Entry) (same : left ≡ stack) (rest : IsAtRest groups limit database uses a stack entries) where
  -- A session may remember less of its own slots than before, once it has read these,
  pub rest-read_slots : (trace : List TraceEntry) → ShowsNoMore b.fast.remembered a.fast.remembered
      → b ≡ record a { fast = record (a.fast) { remembered = b.fast.remembered }; trace = trace }
      → IsAtRest groups limit database uses b left entries
  rest-read_slots trace no_more is = record {
    account = is ∙ (λ i. record (rest.account i) {
      fast = record ((rest.account i).fast) { remembered = b.fast.remembered };
      trace = shown i;
    });
    use_count = use_count-fewer groups a b uses no_more rest.use_count;
    nothing_left = same ∙ rest.nothing_left;
  } where
    shown : trace ≡ b.trace
    shown = sym (ap (λ (x : Account). x.trace) is)

  -- and what it reads else joins the trace alone.
  pub rest-read : b ≡ record a { trace = b.trace } → IsAtRest groups limit database uses b left entries
  rest-read is = record {
    account = is ∙ (λ i. record (rest.account i) {
      fast = record ((rest.account i).fast) { remembered = remembered i };
      trace = b.trace;
    });
    use_count = use_count-same groups a b uses remembered rest.use_count;
    nothing_left = same ∙ rest.nothing_left;
  } where
    remembered : a.fast.remembered ≡ b.fast.remembered
    remembered = sym (ap (λ (x : Account). x.fast.remembered) is)
