use Rattle.std.proofs.Common.{◌≡◌, ◌||◌, take, unwrap_or, bytes_eq, codes}
use Rattle.std.specs.List.{list_any, fold}
use Rattle.lalrpop_norm_tree_parts.specs.Accessors.{codegen_named}
use Rattle.lalrpop_norm_tree_parts.proofs.attribute.algorithm.read_algorithm.Given as goal

abbrev pub invariant-loop-attribute : goal.invariant-loop-attribute
invariant-loop-attribute l = record {
  lalr : l.algorithm.lalr ≡ (l.initial.algorithm.lalr || list_any (λ a. bytes_eq a.id (codes "LALR")) (take l.attribute-index l.attributes));
  codegen : l.algorithm.codegen ≡ fold (λ code a. unwrap_or (codegen_named a.id) code) l.initial.algorithm.codegen (take l.attribute-index l.attributes);
}
