-- Lines that are run and kept.
use Rattle.std.proofs.Common.{◌≡◌, ◌∙◌, ◌+◌, ◌<◌, ℕ, add-zero, arith, inl, length-append, Option, Some, IfSome, get_or, length, take, if◌then◌else◌, Bool, true, false, List, [], ◌∷◌, ◌++◌, append-nil, ap, map, refl, sym, subst, Ok, Err, OnOk, Result}
use Rattle.std.specs.Prelude.{MatchBool}
use Rattle.std.specs.Str.{bytes_eq}
use Rattle.std.proofs.lemmas.Grind.{flat_map-append}
use Rattle.std.proofs.lemmas.List.{map-append, take_more}
use Rattle.lock_script.specs.declared.kept.KeptLine.{KeptLine}
use Rattle.lock_script.specs.declared.kept.KeptQueue.{KeptQueue}
use Rattle.lock_script.specs.declared.faults.Fault.{Fault}
use Rattle.lock_script.specs.declared.sessions.Named.{Named}
use Rattle.lock_script.specs.Kept.{HasToWait, IsKeptOrder, IsLowest, NoneReady, line_of, lines_of}
use Rattle.lock_script.specs.Lines.{after_line, reading_of}
use Rattle.lock_script.specs.Names.{IsFree}
use Rattle.sql_script.specs.declared.turns.Table.{Table}
use Rattle.sql_script.specs.declared.turns.Turn.{Turn}
use Rattle.sql_script.specs.declared.lines.Heard.{Heard}
use Rattle.scenario.specs.InTurn.{DoesLine, DoesLines, IsKeptFor, IsNext, NamesTable, NamesTables, Play, RunsEach, RunsKept, TakesIn, TakesInEach, kept_of, lines_at, one_of, said_by, tables_in}
use Rattle.scenario.specs.Scripts.{AreFirstLines, ScriptLine}
use Rattle.scenario.specs.Spoken.{IsSaid}
use Rattle.scenario.proofs.Lemmas.Lines.{first-next, first-none, moved}

-- what one line of a session says
one-said : (name : List ℕ) (line : KeptLine) (session : List ℕ) → map said_by (line_of name line session) ≡ one_of name (said_by line) session
one-said name line session = go (bytes_eq name session) where
  go : (is : Bool) → map said_by (if is then line ∷ [] else []) ≡ (if is then said_by line ∷ [] else [])
  go true = refl
  go false = refl

-- Of each session, what is said by the lines that are run, and behind them by those that are left, is what
-- was kept.
pub said-order :
    (kept left : List KeptQueue) (name : List ℕ) (line : KeptLine) → IsKeptOrder (lines_of kept) (line_of name line) (lines_of left) → (session : List ℕ) →
    one_of name (said_by line) session ++ kept_of left session ≡ kept_of kept session
said-order kept left name line order session =
    ap (λ those. those ++ kept_of left session) (sym (one-said name line session))
    ∙ sym (map-append said_by (line_of name line session) (lines_of left session))
    ∙ ap (λ those. map said_by those) (order session)

-- A line was kept.
pub is-kept :
    (kept left : List KeptQueue) (name : List ℕ) (line : KeptLine) (it : ScriptLine) → said_by line ≡ it →
    IsKeptOrder (lines_of left) (lines_of kept) (line_of name line) → IsKeptFor name kept it left
is-kept kept left name line it says order session =
    sym (ap (λ those. map said_by those) (order session)) ∙ map-append said_by (lines_of kept session) (line_of name line session)
    ∙ ap (λ those. kept_of kept session ++ those) (one-said name line session ∙ ap (λ that. one_of name that session) says)

-- The kept line that is taken out is the next one to run.
pub is-next :
    {W : Type 0} (waiting : List (Named W)) (kept left : List KeptQueue) (name : List ℕ) (line : KeptLine) → IsFree waiting name →
    IsLowest kept waiting line.number → IsKeptOrder (lines_of kept) (line_of name line) (lines_of left) → IsNext waiting kept name (said_by line) left
is-next waiting kept left name line rests lowest order = record { rests = rests; lowest = lowest; order = said-order kept left name line order }

pub on-ok : {T E P Q : Type 0} (r : Result T E) → (P → Q) → OnOk r P → OnOk r Q
on-ok (Ok x) f p = f p
on-ok (Err e) f p = tt

-- what holds of each of the two truth values
pub match-true : (P Q : Type 0) (b : Bool) → b ≡ true → P → MatchBool b P Q
match-true P Q true is p = p
match-true P Q false is p = let never : ⊥ = cc in absurd never

pub match-false : (P Q : Type 0) (b : Bool) → b ≡ false → Q → MatchBool b P Q
match-false P Q false is q = q
match-false P Q true is q = let never : ⊥ = cc in absurd never

module _ {C W : Type 0} (play : Play C W) where
  -- kept lines that were run so far
  abbrev pub HaveRun : C → List KeptQueue → C → List KeptQueue → Type 0
  HaveRun old kept new left = (lines : List (List ℕ × ScriptLine)) × RunsEach play old kept lines new left

  pub have-run-none : (old : C) (kept : List KeptQueue) → HaveRun old kept old kept
  have-run-none old kept = ([], (refl, refl))

  runs-more :
      (old mid new : C) (kept some left : List KeptQueue) (lines : List (List ℕ × ScriptLine)) (name : List ℕ) (line : ScriptLine) →
      RunsEach play old kept lines mid some → IsNext (play.waiting mid) some name line left → play.Runs mid line new →
      RunsEach play old kept (lines ++ (name, line) ∷ []) new left
  runs-more old mid new kept some left [] name line (same, all) next runs = (
    new,
    left,
    subst (λ those. IsNext (play.waiting old) those name line left) all (subst (λ from. IsNext (play.waiting from) some name line left) same next),
    subst (λ from. play.Runs from line new) same runs,
    (refl, refl),
  )
  runs-more old mid new kept some left (it ∷ lines) name line (next, later, is, ran, rest) last runs =
      (next, later, is, ran, runs-more next mid new later some left lines name line rest last runs)

  -- one more kept line is run
  pub have-run-more :
      (old mid new : C) (kept some left : List KeptQueue) (name : List ℕ) (line : ScriptLine) → HaveRun old kept mid some →
      IsNext (play.waiting mid) some name line left → play.Runs mid line new → HaveRun old kept new left
  have-run-more old mid new kept some left name line (lines, before) next runs =
      (lines ++ (name, line) ∷ [], runs-more old mid new kept some left lines name line before next runs)

  -- No kept line is left that could be run.
  pub runs-all :
      (old new : C) (kept some left : List KeptQueue) → HaveRun old kept new some → left ≡ some → NoneReady some (play.waiting new) →
      RunsKept play old kept new left
  runs-all old new kept some left (lines, runs) same none = record {
    lines = lines;
    runs = subst (λ those. RunsEach play old kept lines new those) (sym same) runs;
    none = subst (λ those. NoneReady those (play.waiting new)) (sym same) none;
  }

  -- A line is kept, unless that failed.
  pub takes-kept :
      (told : Result (Unit {0}) Fault) (old new : C) (kept left : List KeptQueue) (line : ScriptLine) (name : List ℕ) →
      HasToWait kept (play.waiting old) line.text name → OnOk told (play.Keeps old line new) → OnOk told (IsKeptFor name kept line left) →
      OnOk told (TakesIn play old kept line new left)
  takes-kept (Ok done) old new kept left line name waits keeps behind = inl (name, waits, keeps, behind)
  takes-kept (Err fault) old new kept left line name waits keeps behind = tt

  -- one more line is taken in
  pub takes-next :
      (old mid new : C) (kept some left : List KeptQueue) (lines : List ScriptLine) (line : ScriptLine) → TakesInEach play old kept lines mid some →
      TakesIn play mid some line new left → TakesInEach play old kept (lines ++ line ∷ []) new left
  takes-next old mid new kept some left [] line (same, all) takes =
      (new, left, subst (λ those. TakesIn play old those line new left) all (subst (λ from. TakesIn play from some line new left) same takes), (refl, refl))
  takes-next old mid new kept some left (first ∷ lines) line (next, later, here, rest) takes =
      (next, later, here, takes-next next mid new later some left lines line rest takes)

  -- The line that is taken in is the next one of a list.
  pub takes-item :
      {X : Type 0} (old mid new : C) (kept some left : List KeptQueue) (number : ℕ) (say : X → List ℕ) (items : List X) (k : ℕ) (item : X) (text : List ℕ) →
      k < length items → item ≡ get_or items k item → text ≡ say item → TakesInEach play old kept (lines_at number (map say (take k items))) mid some →
      TakesIn play mid some (record { number = number; text = text }) new left →
      TakesInEach play old kept (lines_at number (map say (take (k + 1) items))) new left
  takes-item {X} old mid new kept some left number say items k item text within is says before takes =
      subst (λ lines. TakesInEach play old kept lines new left) (sym more)
      (takes-next old mid new kept some left (lines_at number (map say (take k items))) (record { number = number; text = say item }) before
      (subst (λ those. TakesIn play mid some (record { number = number; text = those }) new left) says takes)) where
        more : lines_at number (map say (take (k + 1) items)) ≡ lines_at number (map say (take k items)) ++ record { number = number; text = say item } ∷ []
        more =
            ap (λ those. lines_at number (map say those)) (take_more items k item within)
            ∙ ap (λ it. lines_at number (map say (take k items ++ it ∷ []))) (sym is)
            ∙ ap (λ those. lines_at number those) (map-append say (take k items) (item ∷ []))
            ∙ map-append (λ text. record { number = number; text = text }) (map say (take k items)) (say item ∷ [])

  -- more tables have their names after others
  pub names-both :
      (old mid new : C) (number : ℕ) (tables others : List Table) → NamesTables play old number tables mid →
      NamesTables play mid number others new → NamesTables play old number (tables ++ others) new
  names-both old mid new number [] others same names = subst (λ from. NamesTables play from number others new) same names
  names-both old mid new number (table ∷ tables) others (next, here, later) names =
      (next, here, names-both next mid new number tables others later names)

  -- the next one of a list has
  pub names-item :
      (old mid new : C) (number : ℕ) (tables : List Table) (k : ℕ) (table : Table) → k < length tables → table ≡ get_or tables k table →
      NamesTables play old number (take k tables) mid → NamesTable play mid number table new →
      NamesTables play old number (take (k + 1) tables) new
  names-item old mid new number tables k table within is before names =
      subst (λ those. NamesTables play old number those new)
      (ap (λ it. take k tables ++ it ∷ []) is ∙ sym (take_more tables k table within))
      (names-both old mid new number (take k tables) (table ∷ []) before (new, names, refl))

  -- those of the next turn have
  pub names-turn :
      (old mid new : C) (number : ℕ) (turns : List Turn) (k : ℕ) (turn : Turn) → k < length turns → turn ≡ get_or turns k turn →
      NamesTables play old number (tables_in (take k turns)) mid → NamesTables play mid number turn.named.items new →
      NamesTables play old number (tables_in (take (k + 1) turns)) new
  names-turn old mid new number turns k turn within is before names =
      subst (λ those. NamesTables play old number those new)
      (sym (ap (λ those. tables_in those) (take_more turns k turn within ∙ ap (λ it. take k turns ++ it ∷ []) (sym is))
      ∙ flat_map-append (λ turn. turn.named.items) (take k turns) (turn ∷ [])
      ∙ ap (λ those. tables_in (take k turns) ++ those) (append-nil turn.named.items)))
      (names-both old mid new number (tables_in (take k turns)) turn.named.items before names)

  does-more :
      (speaks keeps : Bool) (number : ℕ) (old mid new : C) (kept some left : List KeptQueue) (texts : List (List ℕ)) (text : List ℕ) (said : Heard) →
      DoesLines play speaks keeps number old kept texts mid some → IsSaid speaks text said →
      DoesLine play keeps mid some (record { number = number + length texts; text = text }) said new left →
      DoesLines play speaks keeps number old kept (texts ++ text ∷ []) new left
  does-more speaks keeps number old mid new kept some left [] text said (same, all) says does = (
    said,
    new,
    left,
    says,
    subst (λ (n : ℕ). DoesLine play keeps old kept (record { number = n; text = text }) said new left) (add-zero number)
        (subst (λ those. DoesLine play keeps old those (record { number = number + 0; text = text }) said new left) all
        (subst (λ from. DoesLine play keeps from some (record { number = number + 0; text = text }) said new left) same does)),
    (refl, refl),
  )
  does-more speaks keeps number old mid new kept some left (first ∷ texts) text said (it, next, later, its, here, rest) says does = (
    it,
    next,
    later,
    its,
    here,
    does-more speaks keeps (number + 1) next mid new later some left texts text said rest says
        (subst (λ (n : ℕ). DoesLine play keeps mid some (record { number = n; text = text }) said new left) (moved number (length texts)) does),
  )

  -- The lines of a script that are done so far.
  pub record HaveDone (speaks keeps : Bool) (script : Option (List ℕ)) (first : C) (number : ℕ) (unread : Option (List ℕ)) (new : C) (left : List KeptQueue) : Type 0 where
    pub texts : List (List ℕ)
    pub count : number ≡ length texts
    pub lines : AreFirstLines script texts unread
    pub does : DoesLines play speaks keeps 1 first [] texts new left

  pub done-none :
      (speaks keeps : Bool) (script unread : Option (List ℕ)) (first : C) → unread ≡ script → HaveDone speaks keeps script first 0 unread first []
  done-none speaks keeps script unread first same = record { texts = []; count = refl; lines = first-none script unread same; does = (refl, refl) }

  pub done-more :
      (speaks keeps : Bool) (script : Option (List ℕ)) (first old new : C) (number number' : ℕ) (unread unread' : Option (List ℕ)) (kept left : List KeptQueue)
      (text : List ℕ) (said : Heard) → HaveDone speaks keeps script first number unread old kept →
      IfSome unread (λ bytes. reading_of number bytes ≡ Ok (Some text)) → IfSome unread (λ bytes. unread' ≡ Some (after_line bytes)) →
      number' ≡ number + 1 → IsSaid speaks text said → DoesLine play keeps old kept (record { number = number'; text = text }) said new left →
      HaveDone speaks keeps script first number' unread' new left
  done-more speaks keeps script first old new number number' unread unread' kept left text said so_far reads rest next says does =
      let one : number' ≡ 1 + length so_far.texts = omega (arith, next, so_far.count) in
      record {
        texts = so_far.texts ++ text ∷ [];
        count = omega (arith, next, so_far.count, length-append so_far.texts (text ∷ []));
        lines = first-next script so_far.texts text unread unread' so_far.lines
            (subst (λ (n : ℕ). IfSome unread (λ bytes. reading_of n bytes ≡ Ok (Some text))) so_far.count reads) rest;
        does = does-more speaks keeps 1 first old new [] kept left so_far.texts text said so_far.does says
            (subst (λ (n : ℕ). DoesLine play keeps old kept (record { number = n; text = text }) said new left) one does);
      }
