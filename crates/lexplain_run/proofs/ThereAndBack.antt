-- The answer for an answer, and two answers for one text.
use Rattle.std.proofs.Common.{◌≡◌, ℕ, List, Some, sym, ap, ap₂, subst, ◌∙◌}
use Rattle.std.specs.Prelude.{None}
use Rattle.serde_json.specs.Data.{Data}
use Rattle.lalrpop_norm_tree.specs.Items.{GrammarData}
use Rattle.lalrpop_norm_theory.specs.Symbols.{Name, reference}
use Rattle.lalrpop_norm_theory.specs.Meaning.{HasLevels}
use Rattle.lalrpop_norm_theory.specs.WrittenTrees.{WrittenTree}
use Rattle.lalrpop_norm_theory.specs.LoweredTrees.{LoweredTree}
use Rattle.lalrpop_norm_theory.specs.Pairs.{Pairs}
use Rattle.lalrpop_norm_conditions.specs.Conditions.{comparison}
use Rattle.lalrpop_norm_json.specs.ItemForms.{grammar_form}
use Rattle.lalrpop_norm_model.specs.Features.{Features}
use Rattle.lalrpop_norm_model.specs.WrittenRules.{written_rules}
use Rattle.lalrpop_norm_model.proofs.MeaningLemmas.{meaning_has_levels}
use Rattle.lalrpop_norm_ambiguity.specs.Differences.{tree_difference}
use Rattle.lalrpop_norm.specs.Faithful.{written_meaning, written_name}
use Rattle.lnorm_run.specs.Answers.{IsFormOf}
use Rattle.lexplain_lines.specs.Laws.{LoweredHasWords, WrittenHasWords}
use Rattle.lexplain_lines.specs.LineForms.{AreLines, lowered_forms, written_forms}
use Rattle.lexplain_lines.specs.TreeLines.{lowered_lines, written_lines}
use Rattle.lexplain_lines.proofs.LinesBack.{lowered_back, written_back}
use Rattle.lexplain_lines.proofs.TreesBack.{one_lowered, one_two_lowered, one_written}
use Rattle.lexplain_run.specs.Answers.{ExplainsTree, IsPairedIn, IsTranslationOver, LowersTree, ShowsAmbiguity, Translates}
use Rattle.lexplain_run.specs.Witnesses.{readings_text}
use Rattle.lexplain_run.specs.declared.words.Way.{Way}
use Rattle.lexplain_run.specs.declared.words.Way.TheVariants.{Explain, Lower, Ambiguous}
use Rattle.lexplain_run.proofs.OnePair.{one_lowered_tree, one_name, one_written_rule, one_written_tree}

-- two grammars of one form are the same
abbrev pub FormsAreOne : Type 0
FormsAreOne = (g h : GrammarData) (d : Data) → grammar_form g ≡ Some d → grammar_form h ≡ Some d → g ≡ h

module _ (fs : Features) (g : GrammarData) where
  levels : HasLevels (written_meaning fs g)
  levels = meaning_has_levels comparison (written_rules fs g)

  one_lowered_paired : (t : WrittenTree) (u v : LoweredTree) → IsPairedIn fs g t u → IsPairedIn fs g t v → u ≡ v
  one_lowered_paired t u v (n, is, h) (m, js, i) =
      let same : n ≡ m = one_written_rule (written_meaning fs g) (written_name fs g) levels t u v n m h i in
      one_lowered_tree (written_meaning fs g) (written_name fs g) levels
      (subst (λ (k : Name). Pairs (written_meaning fs g) (written_name fs g) (reference k None) t u) same h) i

  one_written_paired : (t r : WrittenTree) (u : LoweredTree) → IsPairedIn fs g t u → IsPairedIn fs g r u → t ≡ r
  one_written_paired t r u (n, is, h) (m, js, i) =
      let same : n ≡ m = one_name (written_meaning fs g) (written_name fs g) t r u n m h i in
      one_written_tree (written_meaning fs g) (written_name fs g)
      (subst (λ (k : Name). Pairs (written_meaning fs g) (written_name fs g) (reference k None) t u) same h) i

  -- ---- one answer

  one_explained : (u v : LoweredTree) (text other : List ℕ) → u ≡ v → ExplainsTree fs g u text → ExplainsTree fs g v other → text ≡ other
  one_explained u v text other same (t, h, is) (r, i, are) =
      let one : t ≡ r = one_written_paired t r v (subst (IsPairedIn fs g t) same h) i in
      is ∙ ap written_lines one ∙ sym are

  one_lowered_text : (t r : WrittenTree) (text other : List ℕ) → t ≡ r → LowersTree fs g t text → LowersTree fs g r other → text ≡ other
  one_lowered_text t r text other same (u, h, is) (v, i, are) =
      let one : u ≡ v = one_lowered_paired r u v (subst (λ s. IsPairedIn fs g s u) same h) i in
      is ∙ ap lowered_lines one ∙ sym are

  one_shown : (u v w x : LoweredTree) (text other : List ℕ) → u ≡ w → v ≡ x → ShowsAmbiguity fs g u v text → ShowsAmbiguity fs g w x other → text ≡ other
  one_shown u v w x text other same same_two a b =
      let first : a.first ≡ b.first = one_written_paired a.first b.first w (subst (IsPairedIn fs g a.first) same a.first_paired) b.first_paired in
      let second : a.second ≡ b.second = one_written_paired a.second b.second x (subst (IsPairedIn fs g a.second) same_two a.second_paired) b.second_paired in
      let differ : tree_difference a.first a.second ≡ tree_difference b.first b.second = ap₂ tree_difference first second in
      let a_differ = a.differ in
      let b_differ = b.differ in
      let path : a.path ≡ b.path = cc (differ, a_differ, b_differ) in
      a.text_is ∙ ap₂ (λ s t. readings_text s t a.path) first second ∙ ap (readings_text b.first b.second) path ∙ sym b.text_is

  one_translation : (way : Way) (lines text other : List ℕ) → Translates way fs g lines text → Translates way fs g lines other → text ≡ other
  one_translation Explain lines text other (u, are, h) (v, are_v, i) = one_explained u v text other (one_lowered lines u v are are_v) h i
  one_translation Lower lines text other (t, are, h) (r, are_r, i) = one_lowered_text t r text other (one_written lines t r are are_r) h i
  one_translation Ambiguous lines text other (u, v, are, h) (w, x, are_two, i) =
      let same = one_two_lowered lines u v w x are are_two in
      one_shown u v w x text other same.0 same.1 h i

  -- ---- there and back

  lowered_again : (lines text back : List ℕ) → Translates Explain fs g lines text → Translates Lower fs g text back →
      ((t : WrittenTree) → text ≡ written_lines t → WrittenHasWords t) → (u : LoweredTree) × AreLines lines (lowered_forms u) × (back ≡ lowered_lines u)
  lowered_again lines text back (u, are, (t, h, is)) (r, are_r, (v, i, back_is)) words =
      let written : AreLines text (written_forms t) = subst (λ l. AreLines l (written_forms t)) (sym is) (written_back t (words t is)) in
      let same : t ≡ r = one_written text t r written are_r in
      let one : u ≡ v = one_lowered_paired r u v (subst (λ s. IsPairedIn fs g s u) same h) i in
      (u, are, back_is ∙ ap lowered_lines (sym one))

  written_again : (lines text back : List ℕ) → Translates Lower fs g lines text → Translates Explain fs g text back →
      ((u : LoweredTree) → text ≡ lowered_lines u → LoweredHasWords u) → (t : WrittenTree) × AreLines lines (written_forms t) × (back ≡ written_lines t)
  written_again lines text back (t, are, (u, h, is)) (v, are_v, (r, i, back_is)) words =
      let lowered : AreLines text (lowered_forms u) = subst (λ l. AreLines l (lowered_forms u)) (sym is) (lowered_back u (words u is)) in
      let same : u ≡ v = one_lowered text u v lowered are_v in
      let one : t ≡ r = one_written_paired t r v (subst (IsPairedIn fs g t) same h) i in
      (t, are, back_is ∙ ap written_lines (sym one))

-- ---- over one text of a grammar

module _ (one_form : FormsAreOne) (fs : Features) (bytes : List ℕ) where
  one_grammar : (g h : GrammarData) → IsFormOf g bytes → IsFormOf h bytes → g ≡ h
  one_grammar g h a b =
      let a_read = a.is_read in
      let b_read = b.is_read in
      let same : b.value ≡ a.value = cc (a_read, b_read) in
      one_form g h a.value a.is_form (b.is_form ∙ ap (λ (d : Data). Some d) same)

  pub one_answer : (way : Way) (lines text other : List ℕ) → IsTranslationOver way fs bytes lines text → IsTranslationOver way fs bytes lines other → text ≡ other
  one_answer way lines text other a b =
      let same = one_grammar b.grammar a.grammar b.form a.form in
      one_translation fs a.grammar way lines text other a.right (subst (λ (g : GrammarData). Translates way fs g lines other) same b.right)

  pub lowered_back_again : (lines text back : List ℕ) → IsTranslationOver Explain fs bytes lines text → IsTranslationOver Lower fs bytes text back →
      ((t : WrittenTree) → text ≡ written_lines t → WrittenHasWords t) → (u : LoweredTree) × AreLines lines (lowered_forms u) × (back ≡ lowered_lines u)
  lowered_back_again lines text back a b words =
      let same = one_grammar b.grammar a.grammar b.form a.form in
      lowered_again fs a.grammar lines text back a.right (subst (λ (g : GrammarData). Translates Lower fs g text back) same b.right) words

  pub written_back_again : (lines text back : List ℕ) → IsTranslationOver Lower fs bytes lines text → IsTranslationOver Explain fs bytes text back →
      ((u : LoweredTree) → text ≡ lowered_lines u → LoweredHasWords u) → (t : WrittenTree) × AreLines lines (written_forms t) × (back ≡ written_lines t)
  written_back_again lines text back a b words =
      let same = one_grammar b.grammar a.grammar b.form a.form in
      written_again fs a.grammar lines text back a.right (subst (λ (g : GrammarData). Translates Explain fs g text back) same b.right) words
