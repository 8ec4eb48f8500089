use Rattle.std.proofs.Common.{◌++◌, ◌∙◌, ◌∷◌, [], Some, codes, ap, ap₂}
use Rattle.lalrpop_norm_tree_parts.proofs.KnownTextLemmas.{map_twice}
use Rattle.lalrpop_norm_origins.specs.Origins.{origin_view}
use Rattle.lalrpop_norm_explain.specs.TracedGrammars.{grammar_in, origins_in}
use Rattle.lalrpop_norm_json.specs.Json.{fields, row, list_form}
use Rattle.lalrpop_norm_lowered_json_tables.specs.Written.{data_tokens}
use Rattle.lalrpop_norm_lowered_json.specs.WholeForms.{lowered_form, origin_form, whole_form}
use Rattle.lalrpop_norm_lowered_json.proofs.Texts.{printed}
use Rattle.lalrpop_norm_lowered_json.proofs.whole.traced_json.Goals as goal

pub returns : goal.returns
returns c =
    printed (whole_form (Some (origins_in c.args.traced.now)) (grammar_in c.args.traced.now)) c.into_inner.result.items c.put_with_origins.new.out.before
    c.new-out.result.tokens c.put_with_origins.new.out.tokens c.into_inner.ensures.items
    (c.put_with_origins.ensures.before ∙ c.new-out.ensures.before ∙ c.in_ok-with_capacity.ensures.items)
    (c.in_ok-put_with_origins.ensures.ok
    ∙ ap₂ (λ g os. c.new-out.result.tokens ++ data_tokens (fields ((codes "grammar", lowered_form g) ∷ (codes "origins", os) ∷ []))) c.grammar.ensures
    (ap row (map_twice origin_form origin_view c.origins.result.now) ∙ ap (list_form origin_form) c.origins.ensures)) c.new-out.ensures.tokens
