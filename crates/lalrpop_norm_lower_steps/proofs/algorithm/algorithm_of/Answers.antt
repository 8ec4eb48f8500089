use Rattle.std.proofs.Common.{◌≡◌, ◌∙◌, ◌||◌, ap, sym, bytes_eq, codes}
use Rattle.std.specs.Prelude.{fold, unwrap_or}
use Rattle.std.specs.List.{list_any}
use Rattle.std.proofs.lemmas.List.Elements.{All-from_recursion}
use Rattle.lalrpop_norm_tree_parts.specs.Accessors.{is_known_name, codegen_named}
use Rattle.lalrpop_norm_lower_steps.proofs.AttributeLemmas.{known_each, names_any, names_fold}
use Rattle.lalrpop_norm_lower_steps.proofs.algorithm.algorithm_of.Goals as goal

pub read_algorithm-requires : goal.read_algorithm-requires
read_algorithm-requires c = All-from_recursion (λ a. is_known_name a.id ≡ _) c.args.attributes.now (known_each c.args.attributes.now c.requires)

pub returns-clause-lalr : goal.returns-clause-lalr
returns-clause-lalr c =
    c.read_algorithm.ensures.lalr
    ∙ ap (λ b. b || list_any (λ a. bytes_eq a.id (codes "LALR")) c.args.attributes.now) c.default-algorithm.ensures.lalr
    ∙ sym (names_any (λ n. bytes_eq n (codes "LALR")) c.args.attributes.now)

pub returns-clause-codegen : goal.returns-clause-codegen
returns-clause-codegen c =
    c.read_algorithm.ensures.codegen
    ∙ ap (λ d. fold (λ code a. unwrap_or (codegen_named a.id) code) d c.args.attributes.now) c.default-algorithm.ensures.codegen
    ∙ sym (names_fold (λ code n. unwrap_or (codegen_named n) code) _ c.args.attributes.now)
