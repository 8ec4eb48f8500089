use Rattle.std.proofs.Common.{refl, ◌∙◌}
use Rattle.std.proofs.lemmas.Result.{on_ok_weaker}
use Rattle.lalrpop_norm_tree_parts.specs.Reprs.{repr_view}
use Rattle.lalrpop_norm_tree_patterns.specs.Patterns.{pattern_view}
use Rattle.lalrpop_norm_tree.specs.Items.{intern_token_view}
use Rattle.lalrpop_norm_json.specs.Forms.{terminal_form}
use Rattle.lalrpop_norm_lowered_json.specs.LoweredForms.{lowered_pattern_form}
use Rattle.lalrpop_norm_lowered_json.specs.WholeForms.{intern_token_form}
use Rattle.lalrpop_norm_lowered_json_tables.proofs.Fields.{field, maybe_seen, rows_seen}
use Rattle.lalrpop_norm_lowered_json.proofs.whole.put_to_intern_token.Goals as goal

pub returns : goal.returns
returns c =
    let g = c.args.grammar.now in
    let t0 = c.args.out.now.tokens in
    let t1 = c.put_field.new.out.tokens in
    let t2 = c.put_rows_field.new.out.tokens in
    let t3 = c.put_maybe_field.new.out.tokens in
    record {
      ok = on_ok_weaker c.put_maybe_field.result (λ e rest. field t2 t3 _ _ _ _ e (maybe_seen intern_token_form intern_token_view g.intern_token)
          ∙ field t1 t2 _ _ _ _ c.in_ok-put_rows_field.ensures.ok (rows_seen terminal_form lowered_pattern_form (pattern_view repr_view) g.conversions)
          ∙ field t0 t1 _ _ _ _ c.in_ok-put_field.ensures.ok refl) c.put_maybe_field.ensures.ok;
      before = c.put_maybe_field.ensures.before ∙ c.put_rows_field.ensures.before ∙ c.put_field.ensures.before;
    }
