use Rattle.std.proofs.Common.{not, refl, ap, ◌∙◌, inl, inr}
use Rattle.std.proofs.lemmas.Bool.{cases_Bool}
use Rattle.lock_table.proofs.Lemmas.Find.{same_any}
use Rattle.lock_model.proofs.machine.hands.InHand.none_unmarked.Goals as goal

pub returns : goal.returns
returns c = ap not (c.contains.ensures.value ∙ same_any _ (λ b. b) c.args.self.now.unmarked (λ b. elim (cases_Bool b) [ inl so ↦ rw so refl | inr not_so ↦ rw not_so refl ]))
