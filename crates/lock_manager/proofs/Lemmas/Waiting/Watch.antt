use Rattle.std.proofs.Common.{◌≡◌, ℕ, ◌==◌, Bool, true, false, List, [], ◌∷◌, ◌++◌, refl, sym, ap, ◌∙◌, append_assoc}
use Rattle.std.specs.Prelude.{if◌then◌else◌}
use Rattle.std.proofs.lemmas.Bool.{false≢true, eq-eqb}
use Rattle.modes_core.specs.declared.modes.Mode.{Mode}
use Rattle.modes_core.specs.declared.tags.Tag.{Tag}
use Rattle.local_locks.specs.declared.records.Entry.{Entry}
use Rattle.lock_world.specs.declared.events.Word.TheVariants.{Wait}
use Rattle.lock_world.specs.WaitWord.{wait_state, is_asked}
use Rattle.lock_world.specs.World.{TraceEntry, Loaded}
use Rattle.lock_world.specs.Account.{Account}
use Rattle.shared_rule.specs.Lawful.{HasJustLooked}
use Rattle.shared_rule.specs.Boards.{Stack}
use Rattle.fast_path.specs.declared.use_counts.UseCounts.{UseCounts}
use Rattle.lock_manager.specs.declared.waiting.Looked.{Looked}
use Rattle.lock_manager.specs.declared.waiting.Looked.TheVariants.{Granted, Still, CancelAsked}
use Rattle.lock_manager.specs.Waiting.{polled_as, IsWaiting, IsWatch}
use Rattle.lock_manager.proofs.Lemmas.Waiting.Looks.{own_wait}

-- A session that looks at its wait word again and again.

-- So far it has seen neither a grant nor that it was asked to cancel.
pub record IsWatching (number : ℕ) (before after : List TraceEntry) : Type 0 where
  pub looks : List TraceEntry
  pub watch : IsWatch number looks
  pub trace : after ≡ before ++ looks

pub watch-more : (number : ℕ) (looks : List TraceEntry) (shown : ℕ) → IsWatch number looks → polled_as shown ≡ Still → IsWatch number (looks ++ Loaded (Wait number) shown ∷ [])
watch-more number [] shown watch still = (shown, refl, still, tt)
watch-more number (entry ∷ looks) shown watch still = (watch.0, watch.1, watch.2, watch-more number looks shown watch.3 still)

module _ (number : ℕ) (before now looked : List TraceEntry) (shown : ℕ) (so_far : IsWatching number before now) (loads : looked ≡ now ++ Loaded (Wait number) shown ∷ []) where
  grown : looked ≡ before ++ so_far.looks ++ Loaded (Wait number) shown ∷ []
  grown = loads ∙ ap (λ trace. trace ++ Loaded (Wait number) shown ∷ []) so_far.trace

  -- A session that waits looks once more and goes on,
  pub watching-next : (after : List TraceEntry) → after ≡ looked → polled_as shown ≡ Still → IsWatching number before after
  watching-next after same still = record {
    looks = so_far.looks ++ Loaded (Wait number) shown ∷ [];
    watch = watch-more number so_far.looks shown so_far.watch still;
    trace = same ∙ grown ∙ append_assoc before so_far.looks (Loaded (Wait number) shown ∷ []);
  }

-- Looking on is another answer than the grant.
pub still_not_granted : (◌≡◌ {A = Looked} Still Granted) → ⊥
still_not_granted e = cc

-- Whoever looks on has seen neither a grant nor that it was asked to cancel,
seen-neither : (granted asked : Bool) → ◌≡◌ {A = Looked} (if granted then Granted else (if asked then CancelAsked else Still)) Still → (granted ≡ false) × (asked ≡ false)
seen-neither true asked still = absurd (cc (still))
seen-neither false true still = absurd (cc (still))
seen-neither false false still = (refl, refl)

-- and may sleep on what it saw.
pub just_looked :
    (groups limit database : ℕ) (uses : UseCounts) (number : ℕ) (a : Account) (stack : Stack) (entries : List Entry) (tag : Tag) (mode : Mode) (shown : ℕ) (before : List TraceEntry)
    → IsWaiting groups limit database uses a stack entries tag mode → a.trace ≡ before ++ Loaded (Wait number) shown ∷ [] → polled_as shown ≡ Still → HasJustLooked number a shown
just_looked groups limit database uses number a stack entries tag mode shown before waiting looked still =
    let neither = seen-neither (wait_state shown == 2) (is_asked shown) still in
    record {
      wait = own_wait tag mode waiting.held;
      waits = ap (λ (x : Account). x.awaited) waiting.account;
      no_partition = ap (λ (x : Account). x.hand) waiting.account;
      no_slots = ap (λ (x : Account). x.fast.slots) waiting.account;
      no_shared_slots = ap (λ (x : Account). x.fast.shared_slots) waiting.account;
      before = before;
      looked = looked;
      not_granted = λ two. false≢true (sym neither.0 ∙ eq-eqb (wait_state shown) 2 two);
      not_asked = neither.1;
    }
