use Rattle.std.proofs.Common.{◌≡◌, ◌+◌, ◌∷◌, [], ℕ, List, IfOk, length, arith, refl, ap, ◌∙◌, subst}
use Rattle.std.specs.List.{sum_by, filter}
use Rattle.std.proofs.lemmas.List.Sums.{sum_by-cons}
use Rattle.modes_core.specs.Tag.{is_strong_on}
use Rattle.connections.proofs.desk.DeskOf.audit.Goals as goal

sum_by-same : {X : Type 0} (f h : X → ℕ) → ((x : X) → f x ≡ h x) → (xs : List X) → sum_by f xs ≡ sum_by h xs
sum_by-same f h same [] = refl
sum_by-same f h same (x ∷ xs) =
    let a = sum_by-cons f x xs in
    let b = sum_by-cons h x xs in
    let c = sum_by-same f h same xs in
    let d = same x in
    omega (arith, a, b, c, d)

pub returns-clause-holds : goal.returns-clause-holds
returns-clause-holds g c =
    let entries = c.args.self.now.shows.entries in
    subst (λ n. IfOk c.audit-counted.result (λ audit. audit.fast + audit.table ≡ n))
    (sum_by-same (λ its. length (g.D.Desk.entries its)) (λ its. length its.owned.entries)
    (λ its. ap (λ held. length held) (entries its)) c.in-Ok.lent.items ∙ c.in-Ok.ensures.entries)
    c.audit-counted.ensures.holds

pub returns-clause-strong : goal.returns-clause-strong
returns-clause-strong g c =
    let entries = c.args.self.now.shows.entries in
    subst (λ n. IfOk c.audit-counted.result (λ audit. audit.strong ≡ n))
    (sum_by-same (λ its. length (filter (λ entry. is_strong_on entry.tag entry.mode) (g.D.Desk.entries its)))
    (λ its. length (filter (λ entry. is_strong_on entry.tag entry.mode) its.owned.entries))
    (λ its. ap (λ held. length (filter (λ entry. is_strong_on entry.tag entry.mode) held)) (entries its))
    c.in-Ok.lent.items ∙ c.in-Ok.ensures.strong)
    c.audit-counted.ensures.strong
