use Rattle.std.proofs.Common.{◌∙◌, ◌++◌, [], ◌∷◌, ℕ, ap, subst, sym}
use Rattle.std.specs.Prelude.{◌≡◌, map}
use Rattle.std.specs.Global.{Vec}
use Rattle.lock_table.specs.declared.waits.Waiter.{Waiter}
use Rattle.scenario.specs.declared.answers.Answer.{Answer}
use Rattle.scenario.specs.declared.answers.Answer.TheVariants as answer
use Rattle.std.proofs.lemmas.Result.{on_ok_weaker}
use Rattle.scenario.specs.Heard.{HearsAll, Listed, told_of}
use Rattle.scenario.specs.declared.answers.Row.TheVariants as row
use Rattle.scenario.proofs.Lemmas.Hearing.{hears-more}
use Rattle.scenario.proofs.listener.tell_answer.Goals as goal

queue-not_none : (it : Answer) (rows : Vec Waiter) → it ≡ answer.Queue rows → it ≡ answer.NoMemory → ⊥
queue-not_none it rows queue none = let never : ⊥ = cc in never

pub returns-in_ok-tell_waits-in-Queue : goal.returns-in_ok-tell_waits-in-Queue
returns-in_ok-tell_waits-in-Queue g c =
    let last = Listed c.args.names.now (row.Waits c.len.result) in
    let shown =
    ap (λ items. map (λ wait. Listed c.args.names.now (row.Wait wait)) items ++ last ∷ []) c.as_slice.ensures.value ∙
    ap (λ (n : ℕ). map (λ wait. Listed c.args.names.now (row.Wait wait)) c.in-Queue.rows.items ++ Listed c.args.names.now (row.Waits n) ∷ []) c.len.ensures ∙
    sym (ap (λ it. told_of c.args.names.now it) c.in-Queue.is) in
    record {
      heard = on_ok_weaker c.row-in-Queue.result
          (λ heard. subst (λ those. HearsAll g.L.Listener.hears c.args.listener.now those c.row-in-Queue.new.self) shown
          (hears-more g.L.Listener.hears c.args.listener.now c.tell_waits.new.listener c.row-in-Queue.new.self
          (map (λ wait. Listed c.args.names.now (row.Wait wait)) c.as_slice.result.now) last c.in_ok-tell_waits-in-Queue.ensures.heard heard))
          c.row-in-Queue.ensures.heard;
      unheard = c.row-in-Queue.ensures.unheard;
      no_memory = λ none. absurd (queue-not_none c.args.answer.now c.in-Queue.rows c.in-Queue.is none);
    }
