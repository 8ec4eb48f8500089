use Rattle.std.proofs.Common.{refl, ◌∙◌, string_bytes}
use Rattle.std.proofs.lemmas.Result.{on_ok_weaker}
use Rattle.serde_json.specs.Data.{string}
use Rattle.lalrpop_norm_repr.specs.Lowered.{lowered_parameter_view}
use Rattle.lalrpop_norm_repr.specs.Productions.{nonterminal_data_view}
use Rattle.lalrpop_norm_json.specs.Forms.{nonterminal_form}
use Rattle.lalrpop_norm_lowered_json.specs.WholeForms.{entry_form, lowered_parameter_form}
use Rattle.lalrpop_norm_lowered_json_tables.proofs.Fields.{field, list_seen, rows_seen}
use Rattle.lalrpop_norm_lowered_json.proofs.whole.put_to_prefix.Goals as goal

pub returns : goal.returns
returns c =
    let g = c.args.grammar.now in
    let t0 = c.args.out.now.tokens in
    let t1 = c.put_list_field.new.out.tokens in
    let t2 = c.put_rows_field.new.out.tokens in
    let t3 = c.put_list_field-2.new.out.tokens in
    let t4 = c.put_field.new.out.tokens in
    record {
      ok = on_ok_weaker c.put_field.result (λ e rest. field t3 t4 _ _ _ _ e refl
          ∙ field t2 t3 _ _ _ _ c.in_ok-put_list_field-2.ensures.ok (list_seen lowered_parameter_form lowered_parameter_view g.parameters.items)
          ∙ field t1 t2 _ _ _ _ c.in_ok-put_rows_field.ensures.ok (rows_seen nonterminal_form entry_form nonterminal_data_view g.nonterminals)
          ∙ field t0 t1 _ _ _ _ c.in_ok-put_list_field.ensures.ok (list_seen string string_bytes g.module_attributes.items)) c.put_field.ensures.ok;
      before = c.put_field.ensures.before ∙ c.put_list_field-2.ensures.before ∙ c.put_rows_field.ensures.before ∙ c.put_list_field.ensures.before;
    }
