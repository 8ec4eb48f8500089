-- What the attributes of a grammar ask for.
use Rattle.std.specs.Prelude.{ℕ, Bool, List, [], ◌∷◌, fold, unwrap_or, bytes_eq, codes}
use Rattle.std.specs.List.{list_any}
use Rattle.lalrpop_norm_tree_parts.specs.declared.lowered.LrCodeGeneration.{LrCodeGeneration}
use Rattle.lalrpop_norm_tree_parts.specs.declared.lowered.LrCodeGeneration.TheVariants.{TableDriven}
use Rattle.lalrpop_norm_tree_parts.specs.Accessors.{codegen_named}
use Rattle.lalrpop_norm_tree_parts.specs.Attributes.{Attributes, no_attributes, attribute_and, attribute}

abbrev pub attribute_names : Attributes → List (List ℕ)
attribute_names no_attributes = []
attribute_names (attribute_and (attribute s n a) rest) = n ∷ attribute_names rest

-- whether an attribute asks for LALR tables
abbrev pub asks_lalr : Attributes → Bool
asks_lalr as_written = list_any (λ n. bytes_eq n (codes "LALR")) (attribute_names as_written)

-- the parser code that the attributes ask for, the last one; by tables, if none does
abbrev pub asked_code : Attributes → LrCodeGeneration
asked_code as_written = fold (λ code n. unwrap_or (codegen_named n) code) TableDriven (attribute_names as_written)
