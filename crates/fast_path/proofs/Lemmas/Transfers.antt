use Rattle.std.proofs.Common.{◌≡◌, ℕ, ◌+◌, ◌<◌, false, [], ◌∷◌, ◌++◌, None, refl, sym, ap, ◌∙◌}
use Rattle.std.proofs.Common.{subst, arith, append_assoc}
use Rattle.std.specs.Prelude.{suc}
use Rattle.modes_core.specs.declared.modes.Mode.{Mode}
use Rattle.modes_core.specs.declared.tags.Tag.{Tag}
use Rattle.lock_table.specs.OwnWait.{is_for}
use Rattle.lock_world.specs.Counted.{is_counted, passing}
use Rattle.lock_world.specs.Account.{Account}
use Rattle.lock_world.specs.AccountSteps.{account_uncounting}
use Rattle.lock_world.specs.AccountLaw.{MayUncountBy}
use Rattle.fast_path.specs.Transfers.{AreTurns, Transfers, IsCutShort, Passes, StopsAt}
use Rattle.fast_path.proofs.Lemmas.Counts.{counted_at, passing-last, is_counted-last, uncounting-last}
use Rattle.fast_path.proofs.Lemmas.Turns.{after-from}

-- One turn of a transfer after another.

-- A transfer goes on past one more session,
pub transfer-next :
    (groups position : ℕ) (a b c : Account) (tag : Tag) (mode : Mode) → is_counted a.fast.counted tag mode ≡ false
    → Transfers groups position a tag mode b → Passes groups b position tag mode c
    → Transfers groups (position + 1) a tag mode c
transfer-next groups position a b c tag mode new so_far passes =
    let next : position + 1 ≡ suc position = omega arith in
    record {
      steps = so_far.steps ++ passes.steps;
      turns = subst (λ (k : ℕ). AreTurns groups k tag (so_far.steps ++ passes.steps)) (sym next)
          (so_far.steps, passes.steps, so_far.turns, passes.turn, refl);
      after = record {
        no_more = λ slot relation its within shown.
            so_far.after.no_more slot relation its within (passes.after.no_more slot relation its within shown);
        account =
            passes.after.account
            ∙ ap (λ (x : Account). record x {
              fast = record (x.fast)
                  { remembered = c.fast.remembered; counted = passing x.fast.counted tag mode position };
              trace = x.trace ++ passes.steps;
            }) so_far.after.account
            ∙ (λ i. record a {
              fast = record (a.fast)
                  { remembered = c.fast.remembered; counted = passing-last a.fast.counted tag mode position new i };
              trace = append_assoc a.trace so_far.steps passes.steps i;
            });
      };
    }

-- Where it stops the strong lock may be counted no more,
module _ (groups position : ℕ) (a b c : Account) (tag : Tag) (mode : Mode)
    (so_far : Transfers groups position a tag mode b) (stops : StopsAt groups b position tag c) where
  stopped : c ≡ record a {
    fast = record (a.fast)
        { remembered = c.fast.remembered; counted = a.fast.counted ++ counted_at tag mode position ∷ [] };
    trace = a.trace ++ (so_far.steps ++ stops.steps);
  }
  stopped =
      stops.after.account
      ∙ ap (λ (x : Account).
      record x { fast = record (x.fast) { remembered = c.fast.remembered }; trace = x.trace ++ stops.steps })
      so_far.after.account
      ∙ (λ i. record a {
        fast = record (a.fast)
            { remembered = c.fast.remembered; counted = a.fast.counted ++ counted_at tag mode position ∷ [] };
        trace = append_assoc a.trace so_far.steps stops.steps i;
      })

  pub may_uncount : a.own tag mode ≡ false → a.awaited ≡ None → MayUncountBy c tag mode
  may_uncount not_own no_wait = record {
    is = (λ i. is_counted (stopped i).fast.counted tag mode) ∙ is_counted-last a.fast.counted tag mode position;
    not_own = (λ i. (stopped i).own tag mode) ∙ not_own;
    not_awaited = (λ i. is_for (stopped i).awaited tag mode) ∙ (λ i. is_for (no_wait i) tag mode);
  }

  -- and then it isn't.
  pub transfer-stops :
      (limit : ℕ) (d : Account) → position < limit → is_counted a.fast.counted tag mode ≡ false
      → d ≡ account_uncounting c tag mode → IsCutShort groups limit a tag d
  transfer-stops limit d exists new uncounted = record {
    steps = so_far.steps ++ stops.steps;
    cut = record {
      owner = position;
      exists = exists;
      before = so_far.steps;
      turn = stops.steps;
      turns = so_far.turns;
      stops = stops.turn;
      joined = refl;
    };
    after = after-from a d c.fast.remembered a.fast.counted (so_far.steps ++ stops.steps)
        (λ slot relation its within shown. so_far.after.no_more slot relation its within
        (stops.after.no_more slot relation its within shown))
        (uncounted ∙ (λ i. account_uncounting (stopped i) tag mode) ∙ (λ i. record a {
          fast = record (a.fast)
              { remembered = c.fast.remembered; counted = uncounting-last a.fast.counted tag mode position new i };
          trace = a.trace ++ (so_far.steps ++ stops.steps);
        }));
  }
