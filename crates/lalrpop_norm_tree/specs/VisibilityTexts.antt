-- The texts of visibilities, each with the blank behind it.
use Rattle.std.specs.Prelude.{ℕ, List, [], ◌++◌, Some, None, codes}
use Rattle.lalrpop_norm_tree.specs.Items.{VisibilityData, everywhere, within, private}
use Rattle.lalrpop_norm_tree_parts.specs.TypeTexts.{path_text}

abbrev pub visibility_text : VisibilityData → List ℕ
visibility_text (everywhere None) = codes "pub "
visibility_text (everywhere (Some p)) = codes "pub(" ++ path_text p ++ codes ") "
visibility_text (within p) = codes "pub(in " ++ path_text p ++ codes ") "
visibility_text private = []
