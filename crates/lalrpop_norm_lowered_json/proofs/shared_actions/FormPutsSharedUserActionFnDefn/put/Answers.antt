use Rattle.std.proofs.Common.{refl, ◌∙◌, ◌∷◌, []}
use Rattle.std.proofs.lemmas.Result.{on_ok_weaker}
use Rattle.json.specs.Token.{end_object}
use Rattle.lalrpop_norm_tree.specs.Symbols.{argument_pattern_view}
use Rattle.lalrpop_norm_shared_types.specs.Shared.{shared_view}
use Rattle.lalrpop_norm_json.specs.SymbolForms.{argument_pattern_form}
use Rattle.lalrpop_norm_lowered_json.specs.LoweredForms.{repr_form}
use Rattle.lalrpop_norm_lowered_json_tables.proofs.Steps.{back}
use Rattle.lalrpop_norm_lowered_json_tables.proofs.Fields.{field, list_seen}
use Rattle.lalrpop_norm_lowered_json.proofs.shared_actions.FormPutsSharedUserActionFnDefn.put.Goals as goal

pub returns : goal.returns
returns c =
    let d = c.args.value.now in
    let t0 = c.args.out.now.tokens in
    let t1 = c.begin_object.new.self.tokens in
    let t2 = c.put_list_field.new.out.tokens in
    let t3 = c.put_list_field-2.new.out.tokens in
    let t4 = c.put_field.new.out.tokens in
    record {
      ok = on_ok_weaker c.end_object.result (λ e. back t0 t1 _ _ _ c.in_ok-begin_object.ensures.ok (e
          ∙ field t3 t4 _ _ _ (end_object ∷ []) c.in_ok-put_field.ensures.ok refl
          ∙ field t2 t3 _ _ _ _ c.in_ok-put_list_field-2.ensures.ok (list_seen repr_form shared_view d.arg_types.items)
          ∙ field t1 t2 _ _ _ _ c.in_ok-put_list_field.ensures.ok (list_seen argument_pattern_form argument_pattern_view d.arg_patterns.items))) c.end_object.ensures.ok;
      before = c.end_object.ensures.room.0 ∙ c.put_field.ensures.before ∙ c.put_list_field-2.ensures.before ∙ c.put_list_field.ensures.before
          ∙ c.begin_object.ensures.room.0;
    }
