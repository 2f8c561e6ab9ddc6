use Rattle.std.proofs.Common.{◌≡◌, ℕ, Bool, true, List, ◌∷◌, [], ◌++◌, ap, ◌∙◌, append_assoc}
use Rattle.std.specs.List.{FoldsTo}
use Rattle.std.proofs.lemmas.Fn.{FoldsTo-push}
use Rattle.lock_world.specs.declared.events.Word.TheVariants.{Wait}
use Rattle.lock_world.specs.World.{TraceEntry, Loaded}
use Rattle.lock_manager.specs.declared.waiting.Looked.TheVariants.{Still}
use Rattle.lock_manager.specs.Waiting.{polled_as, IsWatch}
use Rattle.lock_manager.proofs.Lemmas.Waiting.Watch.{watch-more}

-- A session that looks at its wait word for as long as its caller says.

module _ {K : Type 0} (Says : K → Bool → K → Type 0) where
  -- So far it has seen neither a grant nor that it was asked to cancel, and its caller has said to go on
  -- after each look.
  pub record IsWatchingWhile (keep : K) (number : ℕ) (before after : List TraceEntry) (last : K) : Type 0 where
    pub looks : List TraceEntry
    pub watch : IsWatch number looks
    pub trace : after ≡ before ++ looks
    pub said : FoldsTo (λ now look next. Says now true next) keep looks last

  -- A session that waits looks once more, and goes on as its caller says.
  pub watching_while-next :
      (keep last next : K) (number : ℕ) (before now looked : List TraceEntry) (shown : ℕ)
      → IsWatchingWhile keep number before now last → looked ≡ now ++ Loaded (Wait number) shown ∷ [] → polled_as shown ≡ Still → Says last true next
      → IsWatchingWhile keep number before looked next
  watching_while-next keep last next number before now looked shown so_far loads still on = record {
    looks = so_far.looks ++ Loaded (Wait number) shown ∷ [];
    watch = watch-more number so_far.looks shown so_far.watch still;
    trace =
        loads
        ∙ ap (λ trace. trace ++ Loaded (Wait number) shown ∷ []) so_far.trace
        ∙ append_assoc before so_far.looks (Loaded (Wait number) shown ∷ []);
    said = FoldsTo-push (λ now look next. Says now true next) keep so_far.looks last (Loaded (Wait number) shown) next so_far.said on;
  }
