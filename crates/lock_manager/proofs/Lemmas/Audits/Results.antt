use Rattle.std.proofs.Common.{◌≡◌, ℕ, suc, ◌+◌, List, [], ◌∷◌, map, length, reverse, refl, sym, ap, ◌∙◌, subst}
use Rattle.std.specs.Prelude.{Result, Ok, Err, IfOk}
use Rattle.std.specs.List.{AllZip, AllByRecursion}
use Rattle.std.proofs.lemmas.List.{reverse-reverse}
use Rattle.modes_core.specs.declared.refusals.Refusal.{Refusal}
use Rattle.atomic_table.specs.Seated.{TableId}
use Rattle.local_locks.specs.Owned.{Owned}
use Rattle.lock_table.specs.declared.no_memory.NoMemory.{NoMemory}
use Rattle.lock_world.specs.Account.{Account}
use Rattle.lock_world.specs.World.{TraceEntry}
use Rattle.shared_rule.specs.declared.audits.Audit.{Audit}
use Rattle.shared_rule.specs.Audits.{Counts, CountsTo}
use Rattle.shared_rule.specs.Boards.{Seated, Stack}
use Rattle.shared_rule.specs.Quiet.{Quiet}
use Rattle.lock_manager.specs.Sessions.{SessionView, IsUnchanged}
use Rattle.lock_manager.specs.Audits.{Audits, AuditsBy, entries_owned, strong_owned}
use Rattle.lock_manager.proofs.Lemmas.Audits.Counts.{owned-entries}

module _ {B : Type 0} (seat : B → Seated) (view : B → Account) (stack : B → Stack) (quiet : B → List Quiet) where
  -- Of lists and a limit that are the same it says the same.
  pub audits-as : {E : Type 0} (limit limit' groups groups' : ℕ) (xs old ys new : List (SessionView B)) (result : Result Audit E)
      → limit ≡ limit' → groups ≡ groups' → xs ≡ old → ys ≡ new
      → Audits seat view stack quiet limit groups xs ys result → Audits seat view stack quiet limit' groups' old new result
  audits-as limit limit' groups groups' xs old ys new result same same_groups one two audits =
      subst (λ n. Audits seat view stack quiet n groups' old new result) same
      (subst (λ n. Audits seat view stack quiet limit n old new result) same_groups
      (subst (λ zs. Audits seat view stack quiet limit groups zs new result) one
      (subst (λ zs. Audits seat view stack quiet limit groups xs zs result) two audits)))

  -- So it is of lists that were turned round for the audit, and turned back.
  pub audits-turned :
      {E : Type 0} (limit limit' groups groups' : ℕ) (given turned left back : List (SessionView B)) (result : Result Audit E)
      → limit ≡ limit' → groups ≡ groups' → turned ≡ reverse given → back ≡ reverse left
      → Audits seat view stack quiet limit groups (reverse turned) (reverse left) result → Audits seat view stack quiet limit' groups' given back result
  audits-turned limit limit' groups groups' given turned left back result same same_groups before after audits =
      audits-as limit limit' groups groups' (reverse turned) given (reverse left) back result same same_groups
      (ap reverse before ∙ reverse-reverse given) (sym after) audits

  -- Where an audit answers so, another answer that says no more is one of the same counting,
  counts-answered :
      {E F : Type 0} (limit groups : ℕ) (before after : List TraceEntry) (result : Result Audit E) (answer : Result Audit F)
      → ((P : Audit → Type 0) → IfOk result P → IfOk answer P) → Counts limit groups before result after → Counts limit groups before answer after
  counts-answered limit groups before after result answer says its =
      let counted = says (CountsTo limit groups its.counters its.word its.contents) its.counted in
      record { counters = its.counters; word = its.word; contents = its.contents; sixteen = its.sixteen; trace = its.trace; counted = counted }

  -- and of the same audit.
  audits-answered :
      {E F : Type 0} (limit groups : ℕ) (first : SessionView B) (others new : List (SessionView B)) (result : Result Audit E) (answer : Result Audit F)
      → ((P : Audit → Type 0) → IfOk result P → IfOk answer P) → AuditsBy seat view stack quiet limit groups first others new result
      → AuditsBy seat view stack quiet limit groups first others new answer
  audits-answered limit groups first others new result answer says audits = record {
    first_after = audits.first_after;
    others_after = audits.others_after;
    sessions = audits.sessions;
    traced = audits.traced;
    unchanged = audits.unchanged;
    counts = counts-answered limit groups (view first.board).trace (view audits.first_after.board).trace result answer says audits.counts;
    holds = says (λ audit. audit.fast + audit.table ≡ entries_owned owned-entries (first ∷ others)) audits.holds;
    strong = says (λ audit. audit.strong ≡ strong_owned owned-entries (first ∷ others)) audits.strong;
  }

  -- The answer to the caller says the same of an audit that counted,
  pub audits-ok : (limit groups : ℕ) (old new : List (SessionView B)) (audit : Audit) → Audits seat view stack quiet {E = NoMemory} limit groups old new (Ok audit) → Audits seat view stack quiet {E = Refusal} limit groups old new (Ok audit)
  audits-ok limit groups [] new audit audits =
      let same : ◌≡◌ {A = Result Audit NoMemory} (Ok audit) (Ok (record { fast = 0; table = 0; strong = 0 })) = audits.1 in
      let is : audit ≡ record { fast = 0; table = 0; strong = 0 } = cc (same) in
      (audits.0, ap (λ (a : Audit). Ok a) is)
  audits-ok limit groups (s ∷ others) new audit audits = audits-answered {E = NoMemory} {F = Refusal} limit groups s others new (Ok audit) (Ok audit) (λ P its. its) audits

  -- and of one that memory ran out for.
  pub audits-err : (limit groups : ℕ) (old new : List (SessionView B)) (e : NoMemory) (refusal : Refusal) → Audits seat view stack quiet {E = NoMemory} limit groups old new (Err e)
      → Audits seat view stack quiet {E = Refusal} limit groups old new (Err refusal)
  audits-err limit groups [] new e refusal audits =
      let never : ◌≡◌ {A = Result Audit NoMemory} (Err e) (Ok (record { fast = 0; table = 0; strong = 0 })) = audits.1 in absurd (cc (never))
  audits-err limit groups (s ∷ others) new e refusal audits = audits-answered {E = NoMemory} {F = Refusal} limit groups s others new (Err e) (Err refusal) (λ P its. tt) audits

  -- They are at the same table, and as many.
  zip-tables : (table : TableId) (old new : List (SessionView B)) → AllZip (IsUnchanged seat view stack quiet) old new → AllByRecursion (λ s. (seat s.board).table ≡ table) old
      → AllByRecursion (λ s. (seat s.board).table ≡ table) new × (length new ≡ length old)
  zip-tables table [] [] same at = (tt, refl)
  zip-tables table [] (t ∷ new) same at = absurd same
  zip-tables table (s ∷ old) [] same at = absurd same
  zip-tables table (s ∷ old) (t ∷ new) same at =
      let rest = zip-tables table old new same.1 at.1 in
      ((ap (λ (x : Seated). x.table) same.0.seat_ ∙ at.0, rest.0), ap suc rest.1)

  pub audits-tables : {E : Type 0} (table : TableId) (limit groups : ℕ) (old new : List (SessionView B)) (result : Result Audit E) → Audits seat view stack quiet limit groups old new result
      → AllByRecursion (λ s. (seat s.board).table ≡ table) old → AllByRecursion (λ s. (seat s.board).table ≡ table) new × (length new ≡ length old)
  audits-tables table limit groups [] new result audits at = subst (λ xs. AllByRecursion (λ (s : SessionView B). (seat s.board).table ≡ table) xs × (length xs ≡ 0)) (sym audits.0) (tt, refl)
  audits-tables table limit groups (s ∷ others) new result audits at =
      let rest = zip-tables table others audits.others_after audits.unchanged at.1 in
      subst (λ xs. AllByRecursion (λ (s : SessionView B). (seat s.board).table ≡ table) xs × (length xs ≡ length (s ∷ others))) (sym audits.sessions)
      ((ap (λ (x : Seated). x.table) audits.traced.seat_ ∙ at.0, rest.0), ap suc rest.1)

  -- Each of them owns after it what it owned.
  zip-entries : (old new : List (SessionView B)) → AllZip (IsUnchanged seat view stack quiet) old new → map owned-entries new ≡ map owned-entries old
  zip-entries [] [] same = refl
  zip-entries [] (t ∷ new) same = absurd same
  zip-entries (s ∷ old) [] same = absurd same
  zip-entries (s ∷ old) (t ∷ new) same =
      let rest = zip-entries old new same.1 in
      let one = ap (λ (o : Owned). o.entries) same.0.owned in
      λ i. one i ∷ rest i

  pub audits-entries : {E : Type 0} (limit groups : ℕ) (old new : List (SessionView B)) (result : Result Audit E) → Audits seat view stack quiet limit groups old new result
      → map owned-entries new ≡ map owned-entries old
  audits-entries limit groups [] new result audits = ap (map owned-entries) audits.0
  audits-entries limit groups (s ∷ others) new result audits =
      let one = ap (λ (o : Owned). o.entries) audits.traced.owned in
      let rest = zip-entries others audits.others_after audits.unchanged in
      ap (map owned-entries) audits.sessions ∙ (λ i. one i ∷ rest i)

-- Sessions at one table are at another that is the same.
pub all-tables : {B : Type 0} (seat : B → Seated) (old new : TableId) (sessions : List (SessionView B)) → old ≡ new → AllByRecursion (λ s. (seat s.board).table ≡ old) sessions
    → AllByRecursion (λ s. (seat s.board).table ≡ new) sessions
all-tables seat old new sessions same at = subst (λ t. AllByRecursion (λ s. (seat s.board).table ≡ t) sessions) same at
