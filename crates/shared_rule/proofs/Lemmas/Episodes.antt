use Rattle.std.proofs.Common.{◌≡◌, ℕ, false, List, [], ◌∷◌, ◌++◌, Some, None, refl, sym, ap, ◌∙◌, subst, inl, append_assoc}
use Rattle.lock_table.specs.declared.moves.Move.{Move}
use Rattle.lock_table.specs.declared.moves.Move.TheVariants.{Keep}
use Rattle.lock_table.specs.Content.{Content}
use Rattle.lock_table.specs.Put.{set_at}
use Rattle.lock_table.proofs.Lemmas.Put.{set_at-here, set_at-same, set_at-twice}
use Rattle.lock_world.specs.World.{TraceEntry, Took, Episode}
use Rattle.lock_world.specs.Account.{Account, InHand}
use Rattle.lock_world.specs.AccountSteps.{account_taking, account_putting, own_moved}
use Rattle.lock_world.specs.AccountLaw.{MayPutBy}
use Rattle.shared_rule.specs.History.{taken_of}
use Rattle.shared_rule.specs.Lawful.{MayPutPart}
use Rattle.shared_rule.specs.Episodes.{account_episode}
use Rattle.shared_rule.specs.Seats.{MayCloseBy}

-- Taking a partition and putting it is an episode.

-- a partition as it comes into hand
abbrev pub fresh_hand : Content → InHand
fresh_hand content = record { taken = content; now = content; recorded = None; unmarked = λ _. false }

-- A partition that was taken is in hand,
pub taken-in_hand : (a : Account) (p : ℕ) (content : Content) → (account_taking a p content).hand p ≡ Some (fresh_hand content)
taken-in_hand a p content = set_at-here a.hand p (Some (fresh_hand content)) p refl

-- and once it is put the account has nothing of it but the move and the trace.
pub taken-put : (a : Account) (p : ℕ) (taken put : Content) (done : Move) → a.hand p ≡ None
    → account_putting (account_taking a p taken) p (taken_of ((account_taking a p taken).hand p)) put done ≡ account_episode a p taken put done
taken-put a p taken put done none =
    let was : taken_of ((account_taking a p taken).hand p) ≡ taken = ap taken_of (taken-in_hand a p taken) in
    let hand : set_at (set_at a.hand p (Some (fresh_hand taken))) p None ≡ a.hand = set_at-twice a.hand p (Some (fresh_hand taken)) None ∙ set_at-same a.hand p None (sym none) in
    let trace : (a.trace ++ Took p taken ∷ []) ++ Episode p taken put ∷ [] ≡ a.trace ++ Took p taken ∷ Episode p taken put ∷ [] = append_assoc a.trace (Took p taken ∷ []) (Episode p taken put ∷ []) in
    ap (λ content. account_putting (account_taking a p taken) p content put done) was
    ∙ (λ i. record a { own = own_moved a.own done; hand = hand i; trace = trace i })

-- A partition that was just taken may be put as it was.
pub may_keep : (limit number : ℕ) (a : Account) (p : ℕ) (content : Content) → MayPutBy limit number (account_taking a p content) p (fresh_hand content) Keep content
may_keep limit number a p content = record {
  may_move = record {
    in_hand = taken-in_hand a p content;
    unrecorded = refl;
    object = tt;
    fits = tt;
    counted = tt;
    moved = (refl, refl);
  };
  by_putting = tt;
}

-- Whoever has nothing has nothing after a partition was taken and put as it was.
pub kept-idle : (a : Account) (p : ℕ) (content : Content) → MayCloseBy a → MayCloseBy (account_episode a p content content Keep)
kept-idle a p content idle = record {
  no_hold = idle.no_hold;
  no_wait = idle.no_wait;
  no_partition = idle.no_partition;
  no_shared_partition = idle.no_shared_partition;
  no_fast_word = idle.no_fast_word;
  no_shared_fast_word = idle.no_shared_fast_word;
  no_count = idle.no_count;
  no_list = idle.no_list;
  no_stand = idle.no_stand;
  none_untold = idle.none_untold;
}

-- A partition that was taken, and put as it was after steps that left of the account all but the trace.

-- the account with a partition taken, and these steps made since
abbrev pub account_since : Account → ℕ → Content → List TraceEntry → Account
account_since a p content steps = record (account_taking a p content) { trace = (a.trace ++ Took p content ∷ []) ++ steps }

since-taking :
    (a taking later : Account) (p : ℕ) (content : Content) (steps : List TraceEntry) → taking ≡ account_taking a p content →
    later ≡ record taking { trace = taking.trace ++ steps } → later ≡ account_since a p content steps
since-taking a taking later p content steps took made = made ∙ ap (λ (b : Account). record b { trace = b.trace ++ steps }) took

-- The partition may then be put as it was,
pub may_keep-since :
    (limit number : ℕ) (a taking later : Account) (p : ℕ) (content : Content) (steps : List TraceEntry) → taking ≡ account_taking a p content →
    later ≡ record taking { trace = taking.trace ++ steps } → (mine : InHand) × MayPutPart limit number later p mine Keep content
may_keep-since limit number a taking later p content steps took made = (
  fresh_hand content,
  subst (λ (b : Account). MayPutPart limit number b p (fresh_hand content) Keep content) (sym (since-taking a taking later p content steps took made))
      (inl (record {
        may_move = record {
          in_hand = taken-in_hand a p content;
          unrecorded = refl;
          object = tt;
          fits = tt;
          counted = tt;
          moved = (refl, refl);
        };
        by_putting = tt;
      })),
)

-- and the account has nothing of it but the trace.
pub kept-since :
    (a taking later put : Account) (p : ℕ) (content : Content) (steps : List TraceEntry) → a.hand p ≡ None → taking ≡ account_taking a p content →
    later ≡ record taking { trace = taking.trace ++ steps } → put ≡ account_putting later p (taken_of (later.hand p)) content Keep →
    put ≡ record a { trace = a.trace ++ (Took p content ∷ steps ++ Episode p content content ∷ []) }
kept-since a taking later put p content steps none took made puts =
    let was : taken_of ((account_taking a p content).hand p) ≡ content = ap taken_of (taken-in_hand a p content) in
    let hand : set_at (set_at a.hand p (Some (fresh_hand content))) p None ≡ a.hand = set_at-twice a.hand p (Some (fresh_hand content)) None ∙ set_at-same a.hand p None (sym none) in
    let trace : ((a.trace ++ Took p content ∷ []) ++ steps) ++ Episode p content content ∷ [] ≡ a.trace ++ (Took p content ∷ steps ++ Episode p content content ∷ []) =
    append_assoc (a.trace ++ Took p content ∷ []) steps (Episode p content content ∷ []) ∙ append_assoc a.trace (Took p content ∷ []) (steps ++ Episode p content content ∷ []) in
    puts ∙
    ap (λ (b : Account). account_putting b p (taken_of (b.hand p)) content Keep) (since-taking a taking later p content steps took made) ∙
    ap (λ (taken : Content). account_putting (account_since a p content steps) p taken content Keep) was ∙
    (λ i. record a { hand = hand i; trace = trace i })
