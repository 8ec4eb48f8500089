-- What rejected lines are not: those of a tree.
use Rattle.std.proofs.Common.{◌≡◌, ◌≢◌, ◌<◌, ℕ, List, [], ◌∷◌, ◌++◌, Bor, false, length, Some, Result, Ok, Err, IfOk, refl, sym, ap, subst, ◌∙◌, arith}
use Rattle.std.specs.Str.Iter.{lines_steps}
use Rattle.std.specs.declared.str.Lines.{Lines}
use Rattle.std.proofs.lemmas.List.{append-nil}
use Rattle.serde_json.specs.Data.{Data}
use Rattle.serde_json.specs.Read.{read}
use Rattle.lalrpop_norm_tree_names.specs.declared.names.TerminalString.TheVariants.{Literal, Bare, Error}
use Rattle.lalrpop_norm_tree_names.specs.declared.names.TerminalLiteral.TheVariants.{Quoted, Regex}
use Rattle.lalrpop_norm_theory.specs.LoweredTrees as lowered
use Rattle.lalrpop_norm_theory.specs.WrittenTrees as written
use Rattle.lalrpop_norm_theory.specs.WrittenTrees.{tree_count}
use Rattle.lalrpop_norm_explain.specs.declared.trees.LoweredTree.{LoweredTree}
use Rattle.lalrpop_norm_explain.specs.declared.trees.WrittenTree.{WrittenTree}
use Rattle.lalrpop_norm_explain.specs.Trees.{lowered_view, lowered_views, written_view, written_views}
use Rattle.lalrpop_norm_json.specs.Shapes.{fits}
use Rattle.lexplain_lines.specs.declared.lowered.LoweredLine.{LoweredLine}
use Rattle.lexplain_lines.specs.declared.lowered.LoweredLine.TheVariants as lowered_line
use Rattle.lexplain_lines.specs.declared.written.WrittenLine.{WrittenLine}
use Rattle.lexplain_lines.specs.declared.written.WrittenLine.TheVariants as written_line
use Rattle.lexplain_lines.specs.TreeLines.{lowered_count}
use Rattle.lexplain_lines.specs.LineForms.{AreLines, lowered_forms, all_lowered_forms, written_forms, all_written_forms}
use Rattle.lexplain_lines.specs.Lines.{lowered_line_form, lowered_line_children, lowered_line_shape, written_line_form, written_line_children, written_line_shape}
use Rattle.lexplain_lines.proofs.LineLemmas.{lowered_counted, written_counted}
use Rattle.lexplain_lines.proofs.Counts.{lowered_taken, lowered_lacks, lowered_as_many, written_taken, written_lacks, written_is_one}
use Rattle.lexplain_lines.proofs.Fitting.{lowered_unfit, written_unfit}
use Rattle.lexplain_lines.proofs.SoFar.{AreSoFar, next_is, same_lines}

-- ---- lowered trees

lowered_takes : (l : LoweredLine) → lowered_taken (lowered_line_form l) ≡ lowered_line_children l
lowered_takes (lowered_line.Leaf (Literal (Quoted a))) = refl
lowered_takes (lowered_line.Leaf (Literal (Regex a))) = refl
lowered_takes (lowered_line.Leaf (Bare a)) = refl
lowered_takes (lowered_line.Leaf Error) = refl
lowered_takes (lowered_line.Node n p count) = refl

module _ (text : List ℕ) (from to : Lines) (xs : List LoweredTree) (x : Bor (List ℕ)) (before : AreSoFar text from (all_lowered_forms (lowered_views xs)))
    (step : lines_steps from (Some x) to) (us : lowered.LoweredTrees) (whole : AreLines text (all_lowered_forms us)) where
  -- the line is none of a tree
  pub lowered_line_refused : ((d : Data) → read x.now ≡ Some d → fits lowered_line_shape d ≡ false) → ⊥
  lowered_line_refused bad =
      let next = next_is text from to (all_lowered_forms (lowered_views xs)) (all_lowered_forms us) x before step whole in
      lowered_unfit us (lowered_views xs) next.0 next.1 next.3 (bad next.0 next.2)

  -- the line takes more trees than there are
  pub lowered_trees_lacking : (l : LoweredLine) → read x.now ≡ Some (lowered_line_form l) → length xs < lowered_line_children l → ⊥
  lowered_trees_lacking l is few =
      let next = next_is text from to (all_lowered_forms (lowered_views xs)) (all_lowered_forms us) x before step whole in
      let same : next.0 ≡ lowered_line_form l = cc (next.2, is) in
      lowered_lacks us (lowered_views xs) next.0 next.1 next.3 (omega (arith, lowered_counted xs, ap lowered_taken same, lowered_takes l))

module _ (text : List ℕ) where
  -- the lines of one tree, or of two, are those of some trees
  one_of_lowered : (u : lowered.LoweredTree) → AreLines text (lowered_forms u) → AreLines text (all_lowered_forms (lowered.lowered_and u lowered.no_lowered))
  one_of_lowered u = subst (AreLines text) (sym (append-nil (lowered_forms u)))

  two_of_lowered : (u v : lowered.LoweredTree) → AreLines text (lowered_forms u ++ lowered_forms v) →
      AreLines text (all_lowered_forms (lowered.lowered_and u (lowered.lowered_and v lowered.no_lowered)))
  two_of_lowered u v = subst (AreLines text) (ap (λ ds. lowered_forms u ++ ds) (sym (append-nil (lowered_forms v))))

  -- the lines are those of no trees at all
  pub no_lowered_tree : ((us : lowered.LoweredTrees) → AreLines text (all_lowered_forms us) → ⊥) → (u : lowered.LoweredTree) → AreLines text (lowered_forms u) → ⊥
  no_lowered_tree none u whole = none (lowered.lowered_and u lowered.no_lowered) (one_of_lowered u whole)

  pub no_lowered_trees : ((us : lowered.LoweredTrees) → AreLines text (all_lowered_forms us) → ⊥) →
      (u v : lowered.LoweredTree) → AreLines text (lowered_forms u ++ lowered_forms v) → ⊥
  no_lowered_trees none u v whole = none (lowered.lowered_and u (lowered.lowered_and v lowered.no_lowered)) (two_of_lowered u v whole)

  module _ (xs : List LoweredTree) (are : AreLines text (all_lowered_forms (lowered_views xs))) where
    as_many : (us : lowered.LoweredTrees) → AreLines text (all_lowered_forms us) → length xs ≡ lowered_count us
    as_many us whole =
        sym (lowered_counted xs) ∙ lowered_as_many (lowered_views xs) us (same_lines text (all_lowered_forms (lowered_views xs)) (all_lowered_forms us) are whole)

    -- the lines are those of several trees, or of none
    pub lowered_trees_not_one : (u : lowered.LoweredTree) → AreLines text (lowered_forms u) → length xs ≢ 1 → ⊥
    lowered_trees_not_one u whole other = other (as_many (lowered.lowered_and u lowered.no_lowered) (one_of_lowered u whole))

    -- the lines are those of other than two
    pub lowered_trees_not_two : (u v : lowered.LoweredTree) → AreLines text (lowered_forms u ++ lowered_forms v) → length xs ≢ 2 → ⊥
    lowered_trees_not_two u v whole other = other (as_many (lowered.lowered_and u (lowered.lowered_and v lowered.no_lowered)) (two_of_lowered u v whole))

    -- the tree is the one of the lines
    pub lowered_tree_one : {E : Type 0} (r : Result LoweredTree E) → IfOk r (λ t. xs ≡ t ∷ []) → IfOk r (λ t. AreLines text (lowered_forms (lowered_view t)))
    lowered_tree_one (Ok t) e = subst (AreLines text) (ap (λ us. all_lowered_forms (lowered_views us)) e ∙ append-nil (lowered_forms (lowered_view t))) are
    lowered_tree_one (Err x) e = tt

    -- the trees are the two of the lines
    pub lowered_trees_two : {E : Type 0} (r : Result (LoweredTree × LoweredTree) E) → IfOk r (λ two. xs ≡ two.0 ∷ two.1 ∷ []) →
        IfOk r (λ two. AreLines text (lowered_forms (lowered_view two.0) ++ lowered_forms (lowered_view two.1)))
    lowered_trees_two (Ok two) e =
        subst (AreLines text) (ap (λ us. all_lowered_forms (lowered_views us)) e
        ∙ ap (λ ds. lowered_forms (lowered_view two.0) ++ ds) (append-nil (lowered_forms (lowered_view two.1)))) are
    lowered_trees_two (Err x) e = tt

-- ---- written trees

written_takes : (l : WrittenLine) → written_taken (written_line_form l) ≡ written_line_children l
written_takes written_line.Nothing = refl
written_takes (written_line.Leaf (Literal (Quoted a))) = refl
written_takes (written_line.Leaf (Literal (Regex a))) = refl
written_takes (written_line.Leaf (Bare a)) = refl
written_takes (written_line.Leaf Error) = refl
written_takes (written_line.List count) = refl
written_takes (written_line.Node n k count) = refl

module _ (text : List ℕ) (from to : Lines) (xs : List WrittenTree) (x : Bor (List ℕ)) (before : AreSoFar text from (all_written_forms (written_views xs)))
    (step : lines_steps from (Some x) to) (t : written.WrittenTree) (whole : AreLines text (written_forms t)) where
  pub written_line_refused : ((d : Data) → read x.now ≡ Some d → fits written_line_shape d ≡ false) → ⊥
  written_line_refused bad =
      let next = next_is text from to (all_written_forms (written_views xs)) (written_forms t) x before step whole in
      written_unfit t (written_views xs) next.0 next.1 next.3 (bad next.0 next.2)

  pub written_trees_lacking : (l : WrittenLine) → read x.now ≡ Some (written_line_form l) → length xs < written_line_children l → ⊥
  written_trees_lacking l is few =
      let next = next_is text from to (all_written_forms (written_views xs)) (written_forms t) x before step whole in
      let same : next.0 ≡ written_line_form l = cc (next.2, is) in
      written_lacks t (written_views xs) next.0 next.1 next.3 (omega (arith, written_counted xs, ap written_taken same, written_takes l))

pub written_trees_not_one : (text : List ℕ) (xs : List WrittenTree) (t : written.WrittenTree) → AreLines text (all_written_forms (written_views xs)) → AreLines text (written_forms t) →
    length xs ≢ 1 → ⊥
written_trees_not_one text xs t are whole other =
    other (sym (written_counted xs) ∙ written_is_one t (written_views xs) (same_lines text (written_forms t) (all_written_forms (written_views xs)) whole are))

-- the tree is the one of the lines
pub written_tree_one : (text : List ℕ) (xs : List WrittenTree) {E : Type 0} (r : Result WrittenTree E) → AreLines text (all_written_forms (written_views xs)) → IfOk r (λ t. xs ≡ t ∷ []) →
    IfOk r (λ t. AreLines text (written_forms (written_view t)))
written_tree_one text xs (Ok t) are e = subst (AreLines text) (ap (λ ts. all_written_forms (written_views ts)) e ∙ append-nil (written_forms (written_view t))) are
written_tree_one text xs (Err x) are e = tt
