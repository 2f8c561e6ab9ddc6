use Rattle.std.proofs.Common.{◌≡◌, ◌+◌, not, Vec, Global, sym, ap, ◌∙◌, arith, refl}
use Rattle.std.proofs.lemmas.Bool.{cond-true}
use Rattle.modes_core.proofs.Lemmas.Conflicts.{number_of-same}
use Rattle.lock_table.specs.declared.rows.TableRow.{TableRow}
use Rattle.lock_records.proofs.Lemmas.Listings.{shown_under, under-first, under-last, under-skip, under-push, under-mode, appends-none, appends-like, appends-one}
use Rattle.lock_records.proofs.listing.push_modes.Goals as goal
use Rattle.lock_records.proofs.listing.push_modes.Goals.{in-Some+then-has+else-is_err, in-Some+else-has, in_default}

pub loop-number-init : goal.loop-number-init
loop-number-init c = appends-none c.args.rows.now.items (shown_under c.args.holder.now 1) (under-first c.args.holder.now)

pub returns-clause-ok : goal.returns-clause-ok
returns-clause-ok c =
    let e : c.loop-number.number ≡ 9 = omega arith in
    appends-like c.args.rows.now.items c.loop-number.rows.items c.loop-number.rows.items (shown_under c.args.holder.now c.loop-number.number) _ refl
    (λ row. ap (λ n. shown_under c.args.holder.now n row) e ∙ under-last c.args.holder.now row) c.loop-number.invariant

pub loop-number-preserved : goal.loop-number-preserved
loop-number-preserved c =
    let h = c.args.holder.now in
    let n = c.loop-number.number in
    elim c.match-from_number.branch [
      | in-Some+then-has+else-is_err w ↦
          appends-one c.args.rows.now.items c.loop-number.rows.items c.match-from_number.rows.items _ (shown_under h n) (shown_under h (n + 1))
          (ap (λ (rows : Vec TableRow Global). rows.items) w.rows-is ∙ w.push.ensures.items ∙ cond-true _ _ _ (w.is_err.ensures.negation ∙ ap not w.if-is_err.false))
          (λ row. under-push h n w.in-Some.mode row (w.in-Some.ensures {u = tt}).found (sym w.has.ensures ∙ w.if-has.true)) c.loop-number.invariant
      | in-Some+else-has w ↦
          appends-like c.args.rows.now.items c.loop-number.rows.items c.match-from_number.rows.items (shown_under h n) (shown_under h (n + 1)) (ap (λ (rows : Vec TableRow Global). rows.items) w.rows-is)
          (λ row. under-skip h n row (λ same. under-mode h w.in-Some.mode row (number_of-same row.mode w.in-Some.mode (same ∙ sym (w.in-Some.ensures {u = tt}).found)) (sym w.has.ensures ∙ w.if-has.false))) c.loop-number.invariant
      | in_default w ↦
          appends-like c.args.rows.now.items c.loop-number.rows.items c.match-from_number.rows.items (shown_under h n) (shown_under h (n + 1)) (ap (λ (rows : Vec TableRow Global). rows.items) w.rows-is)
          (λ row. under-skip h n row (λ same. absurd ((w.in_default.ensures {u = tt}).unknown row.mode same))) c.loop-number.invariant
    ]
