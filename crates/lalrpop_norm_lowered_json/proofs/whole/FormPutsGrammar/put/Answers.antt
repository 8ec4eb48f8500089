use Rattle.std.proofs.Common.{refl, ◌∙◌, ◌∷◌, []}
use Rattle.std.proofs.lemmas.Result.{on_ok_weaker}
use Rattle.json.specs.Token.{end_object}
use Rattle.lalrpop_norm_tree_parts.specs.Reprs.{lowered_where_clause_view}
use Rattle.lalrpop_norm_repr.specs.Actions.{action_defn_view}
use Rattle.lalrpop_norm_lowered_json_tables.proofs.Fields.{field, list_seen}
use Rattle.lalrpop_norm_lowered_json_tables.proofs.Steps.{back}
use Rattle.lalrpop_norm_lowered_json.specs.LoweredForms.{lowered_clause_form}
use Rattle.lalrpop_norm_lowered_json.specs.WholeForms.{action_defn_form}
use Rattle.lalrpop_norm_lowered_json.proofs.whole.FormPutsGrammar.put.Goals as goal

pub returns : goal.returns
returns c =
    let g = c.args.value.now in
    let t0 = c.args.out.now.tokens in
    let t1 = c.begin_object.new.self.tokens in
    let t2 = c.put_list_field.new.out.tokens in
    let t3 = c.put_to_type_parameters.new.out.tokens in
    let t4 = c.put_field.new.out.tokens in
    let t5 = c.put_uses.new.out.tokens in
    let t6 = c.put_list_field-2.new.out.tokens in
    record {
      ok = on_ok_weaker c.end_object.result (λ e. back t0 t1 _ _ _ c.in_ok-begin_object.ensures.ok (e
          ∙ field t5 t6 _ _ _ (end_object ∷ []) c.in_ok-put_list_field-2.ensures.ok (list_seen lowered_clause_form lowered_where_clause_view g.where_clauses.items)
          ∙ c.in_ok-put_uses.ensures.ok _ ∙ field t3 t4 _ _ _ _ c.in_ok-put_field.ensures.ok refl
          ∙ c.in_ok-put_to_type_parameters.ensures.ok _ ∙ c.in_ok-put_to_prefix.ensures.ok _ ∙ c.in_ok-put_to_intern_token.ensures.ok _
          ∙ field t1 t2 _ _ _ _ c.in_ok-put_list_field.ensures.ok (list_seen action_defn_form action_defn_view g.action_fn_defns.items))) c.end_object.ensures.ok;
      before = c.end_object.ensures.room.0 ∙ c.put_list_field-2.ensures.before ∙ c.put_uses.ensures.before ∙ c.put_field.ensures.before
          ∙ c.put_to_type_parameters.ensures.before ∙ c.put_to_prefix.ensures.before ∙ c.put_to_intern_token.ensures.before
          ∙ c.put_list_field.ensures.before ∙ c.begin_object.ensures.room.0;
    }
