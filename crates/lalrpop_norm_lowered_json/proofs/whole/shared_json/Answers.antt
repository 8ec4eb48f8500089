use Rattle.std.proofs.Common.{◌≡◌, List, ◌++◌, ◌∙◌, ◌∷◌, [], Option, Some, None, codes, ap, refl, option_map}
use Rattle.lalrpop_norm_tree_parts.proofs.KnownTextLemmas.{map_twice}
use Rattle.lalrpop_norm_origins.specs.declared.origin.Origin.{Origin}
use Rattle.lalrpop_norm_origins.specs.Origins.{origin_view, origins_view}
use Rattle.lalrpop_norm_json.specs.Json.{fields, row, list_form, maybe_form}
use Rattle.lalrpop_norm_lowered_json_tables.specs.Written.{data_tokens}
use Rattle.lalrpop_norm_shared_types.specs.Grammars.{shared_grammar_view}
use Rattle.lalrpop_norm_lowered_json.specs.WholeForms.{lowered_form, origin_form, whole_form}
use Rattle.lalrpop_norm_lowered_json.proofs.Texts.{printed}
use Rattle.lalrpop_norm_lowered_json.proofs.whole.shared_json.Goals as goal

origins_seen : {X : Type 0} (o : Option X) (items : X → List Origin)
    → maybe_form (λ os. list_form (λ o. origin_form (origin_view o)) (items os)) o ≡ maybe_form (list_form origin_form) (option_map (λ os. origins_view (items os)) o)
origins_seen None items = refl
origins_seen (Some os) items = ap row (map_twice origin_form origin_view (items os))

pub returns : goal.returns
returns c =
    let g = shared_grammar_view c.args.grammar.now in
    printed (whole_form (option_map (λ os. origins_view os.now) c.args.origins) g) c.into_inner.result.items c.put_with_origins.new.out.before
    c.new-out.result.tokens c.put_with_origins.new.out.tokens c.into_inner.ensures.items
    (c.put_with_origins.ensures.before ∙ c.new-out.ensures.before ∙ c.in_ok-with_capacity.ensures.items)
    (c.in_ok-put_with_origins.ensures.ok
    ∙ ap (λ os. c.new-out.result.tokens ++ data_tokens (fields ((codes "grammar", lowered_form g) ∷ (codes "origins", os) ∷ [])))
    (origins_seen c.args.origins (λ os. os.now))) c.new-out.ensures.tokens
