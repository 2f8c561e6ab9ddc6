-- Lines that do something in one place do it likewise in another.
use Rattle.std.proofs.Common.{◌≡◌, ℕ, ◌+◌, Bool, true, false, List, [], ◌∷◌, ap, refl, sym, subst, inl, inr}
use Rattle.std.specs.Prelude.{MatchBool, string_bytes}
use Rattle.lock_script.specs.Kept.{HasToWait, NoneReady}
use Rattle.lock_script.specs.declared.faults.Defect.{Defect}
use Rattle.lock_script.specs.declared.kept.KeptQueue.{KeptQueue}
use Rattle.sql_script.specs.Steps.{line_text, steps_in}
use Rattle.sql_script.specs.declared.lines.Heard.{Heard}
use Rattle.sql_script.specs.declared.lines.Heard.TheVariants.{Plain, Schema, Statements}
use Rattle.sql_script.specs.declared.turns.Table.{Table}
use Rattle.sql_script.specs.declared.turns.Turn.{Turn}
use Rattle.std.specs.Prelude.{map}
use Rattle.scenario.specs.InTurn.{DoesLine, DoesLines, FailsIn, FailsKept, FailsNow, FailsPlain, IsNext, NamesTable, NamesTables, Play, PlaysStatements, RunsEach, RunsKept, RunsNow, TakesIn, TakesInEach, lines_at, may_be_named, name_line, tables_in}
use Rattle.scenario.specs.Scripts.{ScriptLine}

module _
    {C D W : Type 0} (one : Play C W) (other : Play D W) (Like : C → D → Type 0)
    (runs : (c next : C) (d : D) (line : ScriptLine) → Like c d → one.Runs c line next → (e : D) × Like next e × other.Runs d line e)
    (keeps : (c next : C) (d : D) (line : ScriptLine) → Like c d → one.Keeps c line next → (e : D) × Like next e × other.Keeps d line e)
    (shows : (c next : C) (d : D) (line : ScriptLine) → Like c d → one.Shows c line next → (e : D) × Like next e × other.Shows d line e)
    (fails : (c next : C) (d : D) (line : ScriptLine) (what : Defect) → Like c d → one.Fails c line what next → (e : D) × Like next e × other.Fails d line what e)
    (waits : (c : C) (d : D) → Like c d → one.waiting c ≡ other.waiting d)
    (calls : (c : C) (d : D) → Like c d → one.objects c ≡ other.objects d) where
  each :
      (lines : List (List ℕ × ScriptLine)) (old new : C) (kept left : List KeptQueue) (d : D) → Like old d → RunsEach one old kept lines new left →
      (e : D) × Like new e × RunsEach other d kept lines e left
  each [] old new kept left d is (same, all) = (d, subst (λ c. Like c d) (sym same) is, (refl, all))
  each (it ∷ lines) old new kept left d is (next, some, first, ran, rest) =
      let here = runs old next d it.1 is ran in
      let later = each lines next new some left here.0 here.1 rest in
      (later.0, later.1, (here.0, some, subst (λ those. IsNext those kept it.0 it.1 some) (waits old d is) first, here.2, later.2))

  kept-ones :
      (old new : C) (kept left : List KeptQueue) (d : D) → Like old d → RunsKept one old kept new left →
      (e : D) × Like new e × RunsKept other d kept e left
  kept-ones old new kept left d is it =
      let all = each it.lines old new kept left d is it.runs in
      (all.0, all.1, record { lines = it.lines; runs = all.2; none = subst (λ those. NoneReady left those) (waits new all.0 all.1) it.none })

  at-once :
      (old new : C) (kept left : List KeptQueue) (line : ScriptLine) (d : D) → Like old d → RunsNow one old kept line new left →
      (e : D) × Like new e × RunsNow other d kept line e left
  at-once old new kept left line d is (next, ran, rest) =
      let here = runs old next d line is ran in
      let later = kept-ones next new kept left here.0 here.1 rest in (later.0, later.1, (here.0, here.2, later.2))

  takes :
      (old new : C) (kept left : List KeptQueue) (line : ScriptLine) (d : D) → Like old d → TakesIn one old kept line new left →
      (e : D) × Like new e × TakesIn other d kept line e left
  takes old new kept left line d is (inl (name, has, keeps-it, behind)) =
      let here = keeps old new d line is keeps-it in
      (here.0, here.1, inl (name, subst (λ those. HasToWait kept those line.text name) (waits old d is) has, here.2, behind))
  takes old new kept left line d is (inr (never, ran)) =
      let here = at-once old new kept left line d is ran in
      (here.0, here.1, inr (λ name has. never name (subst (λ those. HasToWait kept those line.text name) (sym (waits old d is)) has), here.2))

  takes-each :
      (lines : List ScriptLine) (old new : C) (kept left : List KeptQueue) (d : D) → Like old d → TakesInEach one old kept lines new left →
      (e : D) × Like new e × TakesInEach other d kept lines e left
  takes-each [] old new kept left d is (same, all) = (d, subst (λ c. Like c d) (sym same) is, (refl, all))
  takes-each (line ∷ lines) old new kept left d is (next, some, taken, rest) =
      let here = takes old next kept some line d is taken in
      let later = takes-each lines next new some left here.0 here.1 rest in (later.0, later.1, (here.0, some, here.2, later.2))

  names :
      (old new : C) (number : ℕ) (table : Table) (d : D) → Like old d → NamesTable one old number table new →
      (e : D) × Like new e × NamesTable other d number table e
  names old new number table d is named =
      go (may_be_named (one.objects old) table) (may_be_named (other.objects d) table) (ap (λ those. may_be_named those table) (calls old d is)) named where
        line : ScriptLine
        line = record { number = number; text = name_line table }

        go : (b c : Bool) → b ≡ c → MatchBool b (one.Runs old line new) (new ≡ old) → (e : D) × Like new e × MatchBool c (other.Runs d line e) (e ≡ d)
        go true true same ran = runs old new d line is ran
        go false false same stays = (d, subst (λ c. Like c d) (sym stays) is, refl)
        go true false same ran = let never : ⊥ = cc in absurd never
        go false true same stays = let never : ⊥ = cc in absurd never

  names-all :
      (tables : List Table) (old new : C) (number : ℕ) (d : D) → Like old d → NamesTables one old number tables new →
      (e : D) × Like new e × NamesTables other d number tables e
  names-all [] old new number d is same = (d, subst (λ c. Like c d) (sym same) is, refl)
  names-all (table ∷ tables) old new number d is (next, named, rest) =
      let here = names old next number table d is named in
      let later = names-all tables next new number here.0 here.1 rest in (later.0, later.1, (here.0, here.2, later.2))

  statements :
      (old new : C) (kept left : List KeptQueue) (number : ℕ) (session : List ℕ) (turns : List Turn) (d : D) → Like old d →
      PlaysStatements one old kept number session turns new left → (e : D) × Like new e × PlaysStatements other d kept number session turns e left
  statements old new kept left number session turns d is (mid, named, taken) =
      let here = names-all (tables_in turns) old mid number d is named in
      let later = takes-each (lines_at number (map (line_text session) (steps_in turns))) mid new kept left here.0 here.1 taken in
      (later.0, later.1, (here.0, here.2, later.2))

  does :
      (keeping : Bool) (old new : C) (kept left : List KeptQueue) (line : ScriptLine) (said : Heard) (d : D) → Like old d →
      DoesLine one keeping old kept line said new left → (e : D) × Like new e × DoesLine other keeping d kept line said e left
  does true old new kept left line Plain d is it = takes old new kept left line d is it
  does false old new kept left line Plain d is it = at-once old new kept left line d is it
  does keeping old new kept left line Schema d is (shown, same) =
      let here = shows old new d line is shown in (here.0, here.1, (here.2, same))
  does keeping old new kept left line (Statements said) d is (mid, shown, played) =
      let here = shows old mid d line is shown in
      let later = statements mid new kept left line.number (string_bytes said.session) said.turns.items here.0 here.1 played in
      (later.0, later.1, (here.0, here.2, later.2))

  pub does-all :
      (speaks keeping : Bool) (texts : List (List ℕ)) (number : ℕ) (old new : C) (kept left : List KeptQueue) (d : D) → Like old d →
      DoesLines one speaks keeping number old kept texts new left → (e : D) × Like new e × DoesLines other speaks keeping number d kept texts e left
  does-all speaks keeping [] number old new kept left d is (same, all) = (d, subst (λ c. Like c d) (sym same) is, (refl, all))
  does-all speaks keeping (text ∷ texts) number old new kept left d is (said, next, some, its, done, rest) =
      let here = does keeping old next kept some (record { number = number; text = text }) said d is done in
      let later = does-all speaks keeping texts (number + 1) next new some left here.0 here.1 rest in
      (later.0, later.1, (said, here.0, some, its, here.2, later.2))

  fails-kept :
      (old new : C) (kept : List KeptQueue) (bad : ScriptLine) (what : Defect) (d : D) → Like old d → FailsKept one old kept bad what new →
      (e : D) × Like new e × FailsKept other d kept bad what e
  fails-kept old new kept bad what d is it =
      let all = each it.lines old it.mid kept it.some d is it.runs in
      let last = fails it.mid new all.0 bad what all.1 it.fails in (
        last.0,
        last.1,
        record {
          lines = it.lines;
          mid = all.0;
          some = it.some;
          runs = all.2;
          name = it.name;
          left = it.left;
          next = subst (λ those. IsNext those it.some it.name bad it.left) (waits it.mid all.0 all.1) it.next;
          fails = last.2;
        },
      )

  fails-now :
      (old new : C) (kept : List KeptQueue) (line bad : ScriptLine) (what : Defect) (d : D) → Like old d → FailsNow one old kept line bad what new →
      (e : D) × Like new e × FailsNow other d kept line bad what e
  fails-now old new kept line bad what d is (inl (same, bad-it)) =
      let here = fails old new d line what is bad-it in (here.0, here.1, inl (same, here.2))
  fails-now old new kept line bad what d is (inr (next, ran, rest)) =
      let here = runs old next d line is ran in
      let later = fails-kept next new kept bad what here.0 here.1 rest in (later.0, later.1, inr (here.0, here.2, later.2))

  fails-in :
      (old new : C) (kept : List KeptQueue) (line bad : ScriptLine) (what : Defect) (d : D) → Like old d → FailsIn one old kept line bad what new →
      (e : D) × Like new e × FailsIn other d kept line bad what e
  fails-in old new kept line bad what d is (inl (name, has, same, keeps-it)) =
      let here = keeps old new d line is keeps-it in
      (here.0, here.1, inl (name, subst (λ those. HasToWait kept those line.text name) (waits old d is) has, same, here.2))
  fails-in old new kept line bad what d is (inr (never, failed)) =
      let here = fails-now old new kept line bad what d is failed in
      (here.0, here.1, inr (λ name has. never name (subst (λ those. HasToWait kept those line.text name) (sym (waits old d is)) has), here.2))

  pub fails-likewise :
      (keeping : Bool) (old new : C) (kept : List KeptQueue) (line bad : ScriptLine) (what : Defect) (d : D) → Like old d →
      FailsPlain one keeping old kept line bad what new → (e : D) × Like new e × FailsPlain other keeping d kept line bad what e
  fails-likewise true old new kept line bad what d is it = fails-in old new kept line bad what d is it
  fails-likewise false old new kept line bad what d is it = fails-now old new kept line bad what d is it
