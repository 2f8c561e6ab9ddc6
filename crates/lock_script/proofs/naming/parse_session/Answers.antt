use Rattle.std.proofs.Common.{◌≡◌, arith, ◌∙◌, sym, subst, true, false, List, ℕ}
use Rattle.std.specs.Prelude.{is_some}
use Rattle.lock_script.specs.declared.commands.WordKind.TheVariants.{FreeName, Number}
use Rattle.lock_script.specs.Sessions.{IsUnknown}
use Rattle.lock_script.specs.declared.faults.Defect.TheVariants.{BadName, BadNumber}
use Rattle.lock_script.proofs.Lemmas.Defects.{of_err, no_value, some_value, name-is, free_in, first_taken, free-right, second_wrong}
use Rattle.lock_script.proofs.naming.parse_session.Goals as goal

pub returns-then-is_some-clause-refused : goal.returns-then-is_some-clause-refused
returns-then-is_some-clause-refused g c =
    let its = name-is c.parse_name.result c.in_ok-name.name _
    (some_value c.parse_name.result c.in_ok-name.name BadName c.in_ok-name.ensures.value) c.parse_name.ensures.variant c.parse_name.ensures.value in
    let found : is_some c.place_called.result ≡ true = cc in
    λ objects. first_taken c.args.sessions.now objects c.args.words.now _ c.in_ok-name.name.bytes c.place_called.result (omega arith) its.0 its.1 found c.place_called.ensures.called

pub returns-in_err-database-clause-refused : goal.returns-in_err-database-clause-refused
returns-in_err-database-clause-refused g c =
    let none = no_value c.parse_number.result c.in_err-database.field-0.0 BadNumber c.in_err-database.ensures.value in
    let its = name-is c.parse_name.result c.in_ok-name.name _
    (some_value c.parse_name.result c.in_ok-name.name BadName c.in_ok-name.ensures.value) c.parse_name.ensures.variant c.parse_name.ensures.value in
    let found : is_some c.place_called.result ≡ false = cc in
    let unknown = free_in c.args.sessions.now c.in_ok-name.name.bytes c.place_called.result found c.place_called.ensures.free in
    of_err _ c.from_residual-in_err-database.result c.in_err-database.field-0.0 c.from_residual-in_err-database.ensures.1
    (λ objects. second_wrong c.args.sessions.now objects FreeName Number c.args.words.now _ _ c.in_err-database.field-0.0 (λ _ _. tt) (omega arith)
    (free-right c.args.sessions.now _ its.0 (subst (λ (word : List ℕ). IsUnknown c.args.sessions.now word) its.1 unknown))
    (none.0, sym c.parse_number.ensures ∙ none.1))
