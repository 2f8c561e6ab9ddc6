use Rattle.std.proofs.Common.{rules, ◌≡◌, ◌+◌, ◌++◌, ◌∷◌, [], ℕ, List, inl, inr, length, arith, ap, ◌∙◌}
use Rattle.std.proofs.lemmas.Bool.{cases_lt}
use Rattle.std.proofs.lemmas.List.Elements.{All-push}
use Rattle.std.proofs.lemmas.List.{get_or_append_left, get_or_push, length_push}
use Rattle.connections.specs.Shown.{AreNumberedFrom}
use Rattle.connections.proofs.desk.DeskOf.open_all.Goals as goal

numbered-push : {S : Type 0} (number : S → ℕ) (first : ℕ) (list : List S) (x : S)
    → AreNumberedFrom number first list → number x ≡ first + length list → AreNumberedFrom number first (list ++ x ∷ [])
numbered-push number first list x before next k other within =
    elim (cases_lt k (length list)) [
      | inl below ↦ ap number (get_or_append_left list (x ∷ []) other k below) ∙ before k other below
      | inr above ↦
          let long = length_push list x in
          let last : length list ≡ k = omega (arith, within, above, long) in
          ap number (get_or_push list x other k last) ∙ next ∙ ap (λ n. first + n) last
    ]

pub numbers-preserved : goal.numbers-preserved
numbers-preserved g c =
    let before = c.numbers.invariant in
    let list = c.numbers.opened.items in
    let all = before.all in
    let issued = before.issued in
    let number = c.in-Ok-open.ensures.number in
    record {
      all = search rules;
      room = search rules;
      nothing = rw c.push_reserved.ensures.items
          (All-push (λ its. its.session.owned.entries ≡ []) list c.in-Ok-open.connection before.nothing c.in-Ok-open.ensures.nothing);
      database = rw c.push_reserved.ensures.items
          (All-push (λ its. its.session.database ≡ c.args.database) list c.in-Ok-open.connection before.database
          c.in-Ok-open.ensures.database);
      numbers = rw c.push_reserved.ensures.items
          (numbered-push (λ its. (g.B.Board.seat its.session.board).number) (g.D.Desk.issued c.args.self.now.desk) list
          c.in-Ok-open.connection before.numbers (omega (arith, all, issued, number)));
      live = search rules;
      issued = search rules;
    }
