use Rattle.std.proofs.Common.{◌≡◌, ◌∙◌, ◌+◌, ◌-◌, ◌^◌, ◌++◌, [], ◌∷◌, ℕ, ap, rules, subst}
use Rattle.std.specs.Prelude.{map, min, vec_len}
use Rattle.std.proofs.lemmas.Result.{on_ok_weaker}
use Rattle.scenario.specs.Heard.{HearsAll, Listed}
use Rattle.scenario.specs.declared.answers.Row.TheVariants as row
use Rattle.scenario.proofs.Lemmas.Hearing.{hears-append, hears-more}
use Rattle.scenario.proofs.listener.tell_listing.Goals as goal

pub returns : goal.returns
returns g c =
    let count : c.saturating_add-rows.result ≡ min (vec_len c.args.listing.now.fast + vec_len c.args.listing.now.table) (2 ^ 64 - 1) = search rules in
    let shown =
    ap (λ items. map (λ slot. Listed c.args.names.now (row.Slot slot)) items ++ map (λ entry. Listed c.args.names.now (row.Table entry)) c.as_slice-2.result.now ++ Listed c.args.names.now (row.Rows c.saturating_add-rows.result) ∷ []) c.as_slice.ensures.value ∙
    ap (λ items. map (λ slot. Listed c.args.names.now (row.Slot slot)) c.args.listing.now.fast.items ++ map (λ entry. Listed c.args.names.now (row.Table entry)) items ++ Listed c.args.names.now (row.Rows c.saturating_add-rows.result) ∷ []) c.as_slice-2.ensures.value ∙
    ap (λ (n : ℕ). map (λ slot. Listed c.args.names.now (row.Slot slot)) c.args.listing.now.fast.items ++ map (λ entry. Listed c.args.names.now (row.Table entry)) c.args.listing.now.table.items ++ Listed c.args.names.now (row.Rows n) ∷ []) count in
    record {
      heard = on_ok_weaker c.row.result
          (λ heard. subst (λ those. HearsAll g.L.Listener.hears c.args.listener.now those c.row.new.self) shown
          (hears-more g.L.Listener.hears c.args.listener.now c.tell_table.new.listener c.row.new.self
          (map (λ slot. Listed c.args.names.now (row.Slot slot)) c.as_slice.result.now ++ map (λ entry. Listed c.args.names.now (row.Table entry)) c.as_slice-2.result.now) (Listed c.args.names.now (row.Rows c.saturating_add-rows.result))
          (hears-append g.L.Listener.hears c.args.listener.now c.tell_slots.new.listener c.tell_table.new.listener
          (map (λ slot. Listed c.args.names.now (row.Slot slot)) c.as_slice.result.now) (map (λ entry. Listed c.args.names.now (row.Table entry)) c.as_slice-2.result.now) c.in_ok-tell_slots.ensures.heard c.in_ok-tell_table.ensures.heard) heard))
          c.row.ensures.heard;
      unheard = c.row.ensures.unheard;
    }
