-- The lines of trees have the shape of lines.
use Rattle.std.specs.Prelude.{⊤}
use Rattle.std.proofs.Common.{◌≡◌, List, [], ◌∷◌, ◌++◌, true, false, refl, subst}
use Rattle.serde_json.specs.Data.{Data}
use Rattle.lalrpop_norm_theory.specs.Symbols.{Terminal, quoted, regex, bare, error_terminal}
use Rattle.lalrpop_norm_theory.specs.LoweredTrees.{LoweredTree, LoweredTrees, lowered_leaf, lowered_node, no_lowered, lowered_and}
use Rattle.lalrpop_norm_theory.specs.WrittenTrees.{WrittenTree, WrittenTrees, leaf, nothing, list, node, no_trees, tree_and}
use Rattle.lalrpop_norm_json.specs.Shapes.{Shape, fits}
use Rattle.lexplain_lines.specs.LineForms.{leaf_form, lowered_forms, all_lowered_forms, written_forms, all_written_forms}
use Rattle.lexplain_lines.specs.Lines.{lowered_line_shape, written_line_shape}

abbrev pub FitAll : Shape → List Data → Type 0
FitAll s [] = ⊤
FitAll s (d ∷ ds) = (fits s d ≡ true) × FitAll s ds

both_fit : (s : Shape) (ds es : List Data) → FitAll s ds → FitAll s es → FitAll s (ds ++ es)
both_fit s [] es f g = g
both_fit s (d ∷ ds) es f g = (f.0, both_fit s ds es f.1 g)

one_fits : (s : Shape) (before : List Data) (d : Data) (behind : List Data) → FitAll s (before ++ (d ∷ behind)) → fits s d ≡ true
one_fits s [] d behind f = f.0
one_fits s (e ∷ before) d behind f = one_fits s before d behind f.1

unfit : (s : Shape) (all before : List Data) (d : Data) (behind : List Data) → FitAll s all → all ≡ before ++ (d ∷ behind) → fits s d ≡ false → ⊥
unfit s all before d behind f e bad =
    let yes = one_fits s before d behind (subst (FitAll s) e f) in
    absurd (cc (yes, bad))

-- ---- lowered trees

lowered_leaf_fits : (a : Terminal) → fits lowered_line_shape (leaf_form a) ≡ true
lowered_leaf_fits (quoted s) = refl
lowered_leaf_fits (regex s) = refl
lowered_leaf_fits (bare s) = refl
lowered_leaf_fits error_terminal = refl

mutual
  lowered_fits : (u : LoweredTree) → FitAll lowered_line_shape (lowered_forms u)
  lowered_fits (lowered_leaf a) = (lowered_leaf_fits a, tt)
  lowered_fits (lowered_node n p us) = both_fit lowered_line_shape (all_lowered_forms us) _ (all_lowered_fit us) (refl, tt)

  all_lowered_fit : (us : LoweredTrees) → FitAll lowered_line_shape (all_lowered_forms us)
  all_lowered_fit no_lowered = tt
  all_lowered_fit (lowered_and u us) = both_fit lowered_line_shape (lowered_forms u) (all_lowered_forms us) (lowered_fits u) (all_lowered_fit us)

-- no trees have a line that has not the shape of one
pub lowered_unfit : (all us : LoweredTrees) (d : Data) (ds : List Data) → all_lowered_forms all ≡ all_lowered_forms us ++ (d ∷ ds) → fits lowered_line_shape d ≡ false → ⊥
lowered_unfit all us d ds e bad = unfit lowered_line_shape (all_lowered_forms all) (all_lowered_forms us) d ds (all_lowered_fit all) e bad

-- ---- written trees

written_leaf_fits : (a : Terminal) → fits written_line_shape (leaf_form a) ≡ true
written_leaf_fits (quoted s) = refl
written_leaf_fits (regex s) = refl
written_leaf_fits (bare s) = refl
written_leaf_fits error_terminal = refl

mutual
  written_fits : (t : WrittenTree) → FitAll written_line_shape (written_forms t)
  written_fits (leaf a) = (written_leaf_fits a, tt)
  written_fits nothing = (refl, tt)
  written_fits (list ts) = both_fit written_line_shape (all_written_forms ts) _ (all_written_fit ts) (refl, tt)
  written_fits (node n k ts) = both_fit written_line_shape (all_written_forms ts) _ (all_written_fit ts) (refl, tt)

  all_written_fit : (ts : WrittenTrees) → FitAll written_line_shape (all_written_forms ts)
  all_written_fit no_trees = tt
  all_written_fit (tree_and t ts) = both_fit written_line_shape (written_forms t) (all_written_forms ts) (written_fits t) (all_written_fit ts)

pub written_unfit : (t : WrittenTree) (ts : WrittenTrees) (d : Data) (ds : List Data) → written_forms t ≡ all_written_forms ts ++ (d ∷ ds) → fits written_line_shape d ≡ false → ⊥
written_unfit t ts d ds e bad = unfit written_line_shape (written_forms t) (all_written_forms ts) d ds (written_fits t) e bad
