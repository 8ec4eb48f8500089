-- The texts of patterns of each kind, and of lists of patterns, one after another.
use Rattle.std.proofs.Common.{true≢false, ◌≡◌, ℕ, List, [], ◌∷◌, ◌++◌, Bool, true, false, ◌==◌, Option, Some, String, Vec, Global, length, map, refl, ap, sym, ◌∙◌, codes}
use Rattle.std.specs.Prelude.{string_bytes}
use Rattle.std.specs.Fmt.{◌++?◌}
use Rattle.lalrpop_norm_tree_patterns.specs.declared.pattern.Pattern.{Pattern}
use Rattle.lalrpop_norm_tree_patterns.specs.declared.pattern.FieldPattern.{FieldPattern}
use Rattle.lalrpop_norm_tree_patterns.specs.declared.pattern.PatternKind.{PatternKind}
use Rattle.lalrpop_norm_tree_patterns.specs.declared.pattern.PatternKind.TheFolds.{fold-roll-PatternKind, fold-roll-FieldPattern, map-PatternKind}
use Rattle.lalrpop_norm_tree_patterns.specs.declared.pattern.PatternKind.TheOpen.{PatternKind-F, FieldPattern-F}
use Rattle.lalrpop_norm_tree_patterns.specs.declared.pattern.PatternKind.TheVariants as variant
use Rattle.lalrpop_norm_tree_patterns.specs.declared.pattern.PatternKind.TheViews.{roll-PatternKind, rolls-struct-FieldPattern, rolls-Enum, rolls-Struct, rolls-Path, rolls-Tuple, rolls-TupleStruct, rolls-Usize, rolls-Underscore, rolls-DotDot, rolls-Choose, rolls-CharLiteral, rolls-String}
use Rattle.lalrpop_norm_tree_parts.specs.declared.path.Path.{Path}
use Rattle.lalrpop_norm_tree_parts.specs.Paths.{path_view}
use Rattle.lalrpop_norm_tree_patterns.specs.Patterns.{PatternKindData, enumerated, structured, path, tuple, tuple_struct, number, underscore, dot_dot, chosen, character, text, FieldData, PatternData, pattern_kind_step, field_step, pattern_step, pattern_kind_view, pattern_view, patterns_view, field_view, fields_view}
use Rattle.lalrpop_norm_tree_patterns.specs.PatternTexts.{pattern_kind_text, pattern_text, pattern_texts, field_text, field_texts, rest_texts}
use Rattle.lalrpop_norm_tree_parts.specs.KnownTexts.{joined_known}
use Rattle.lalrpop_norm_tree_patterns.proofs.PatternViews.{pattern_seen}
use Rattle.lalrpop_norm_tree_parts.proofs.KnownTextLemmas.{known_assoc, each_after-end}

-- the texts of patterns and of fields, one by one
module _ {T : Type 0} (output : T → Option (List ℕ)) where
  pub texts_of_patterns : (ps : List (Pattern T)) → map (λ p. pattern_text (pattern_view output p)) ps ≡ pattern_texts (patterns_view output ps)
  texts_of_patterns [] = refl
  texts_of_patterns (p ∷ ps) = ap (λ ts. pattern_text (pattern_view output p) ∷ ts) (texts_of_patterns ps)

  pub texts_of_fields : (fs : List (FieldPattern T)) → map (λ f. field_text (field_view output f)) fs ≡ field_texts (fields_view output fs)
  texts_of_fields [] = refl
  texts_of_fields (f ∷ fs) = ap (λ ts. field_text (field_view output f) ∷ ts) (texts_of_fields fs)

-- the rest, behind the fields
pub rest_behind : {T : Type 0} (output : T → Option (List ℕ)) (fs : List (FieldPattern T)) (rest : Bool) → rest ≡ true → (length fs == 0) ≡ false
    → joined_known (codes ", ") (field_texts (fields_view output fs)) ++? Some (codes ", ..") ≡ joined_known (codes ", ") (field_texts (fields_view output fs) ++ rest_texts rest)
rest_behind output [] rest h n = absurd (true≢false n)
rest_behind output (f ∷ fs) rest h n =
    rw (h, each_after-end (codes ", ") (field_texts (fields_view output fs)) (Some (codes ".."))) (known_assoc (field_text (field_view output f)) _ _)

-- the text of a pattern, of a field, and of each kind of pattern, over what its parts are seen as
module _ {T : Type 0} (output : T → Option (List ℕ)) where
  pub text_of_pattern : (p : Pattern T) → pattern_kind_text (pattern_kind_view output p.kind) ≡ pattern_text (pattern_view output p)
  text_of_pattern p = ap pattern_text (sym (pattern_seen output p.span p.kind))

  pub text_of_field : (d : FieldPattern T) → Some d.field_name ++? Some (codes ": ") ++? pattern_text (pattern_view output d.pattern) ≡ field_text (field_view output d)
  text_of_field d =
      let x : FieldPattern-F T (PatternKind T) (FieldPattern T) (Pattern T) = record { field_span = d.field_span; field_name = d.field_name; pattern = d.pattern } in
      ap field_text (sym (ap (field_view output) (sym (rolls-struct-FieldPattern x)) ∙ fold-roll-FieldPattern T (PatternKindData (Option (List ℕ))) (FieldData (Option (List ℕ))) (PatternData (Option (List ℕ))) (pattern_kind_step output) (field_step output) (pattern_step output) x))

  module _ (k : PatternKind T) where
    text_of_kind : (y : PatternKind-F T (PatternKind T) (FieldPattern T) (Pattern T)) → k ≡ roll-PatternKind T y
        → pattern_kind_text (pattern_kind_step output (map-PatternKind T (PatternKind T) (FieldPattern T) (Pattern T) (PatternKindData (Option (List ℕ))) (FieldData (Option (List ℕ))) (PatternData (Option (List ℕ))) (pattern_kind_view output) (field_view output) (pattern_view output) y)) ≡ pattern_kind_text (pattern_kind_view output k)
    text_of_kind y is = ap pattern_kind_text (sym (ap (pattern_kind_view output) is ∙ fold-roll-PatternKind T (PatternKindData (Option (List ℕ))) (FieldData (Option (List ℕ))) (PatternData (Option (List ℕ))) (pattern_kind_step output) (field_step output) (pattern_step output) y))

    pub text_of_enum : (p : Path) (ps : Vec (Pattern T) Global) → k ≡ variant.Enum p ps → pattern_kind_text (enumerated (path_view p) (patterns_view output ps.items)) ≡ pattern_kind_text (pattern_kind_view output k)
    text_of_enum p ps is = text_of_kind (PatternKind-F.Enum p ps) (is ∙ sym (rolls-Enum p ps))

    pub text_of_struct : (p : Path) (fs : Vec (FieldPattern T) Global) (rest : Bool) → k ≡ variant.Struct p fs rest → pattern_kind_text (structured (path_view p) (fields_view output fs.items) rest) ≡ pattern_kind_text (pattern_kind_view output k)
    text_of_struct p fs rest is = text_of_kind (PatternKind-F.Struct p fs rest) (is ∙ sym (rolls-Struct p fs rest))

    pub text_of_path : (p : Path) → k ≡ variant.Path p → pattern_kind_text (path (path_view p)) ≡ pattern_kind_text (pattern_kind_view output k)
    text_of_path p is = text_of_kind (PatternKind-F.Path p) (is ∙ sym (rolls-Path p))

    pub text_of_tuple : (ps : Vec (Pattern T) Global) → k ≡ variant.Tuple ps → pattern_kind_text (tuple (patterns_view output ps.items)) ≡ pattern_kind_text (pattern_kind_view output k)
    text_of_tuple ps is = text_of_kind (PatternKind-F.Tuple ps) (is ∙ sym (rolls-Tuple ps))

    pub text_of_tuple_struct : (p : Path) (ps : Vec (Pattern T) Global) → k ≡ variant.TupleStruct p ps → pattern_kind_text (tuple_struct (path_view p) (patterns_view output ps.items)) ≡ pattern_kind_text (pattern_kind_view output k)
    text_of_tuple_struct p ps is = text_of_kind (PatternKind-F.TupleStruct p ps) (is ∙ sym (rolls-TupleStruct p ps))

    pub text_of_number : (n : ℕ) → k ≡ variant.Usize n → pattern_kind_text (number n) ≡ pattern_kind_text (pattern_kind_view output k)
    text_of_number n is = text_of_kind (PatternKind-F.Usize n) (is ∙ sym (rolls-Usize n))

    pub text_of_underscore : k ≡ variant.Underscore → pattern_kind_text (underscore) ≡ pattern_kind_text (pattern_kind_view output k)
    text_of_underscore is = text_of_kind PatternKind-F.Underscore (is ∙ sym rolls-Underscore)

    pub text_of_dot_dot : k ≡ variant.DotDot → pattern_kind_text (dot_dot) ≡ pattern_kind_text (pattern_kind_view output k)
    text_of_dot_dot is = text_of_kind PatternKind-F.DotDot (is ∙ sym rolls-DotDot)

    pub text_of_chosen : (t : T) → k ≡ variant.Choose t → pattern_kind_text (chosen (output t)) ≡ pattern_kind_text (pattern_kind_view output k)
    text_of_chosen t is = text_of_kind (PatternKind-F.Choose t) (is ∙ sym (rolls-Choose t))

    pub text_of_character : (a : List ℕ) → k ≡ variant.CharLiteral a → pattern_kind_text (character a) ≡ pattern_kind_text (pattern_kind_view output k)
    text_of_character a is = text_of_kind (PatternKind-F.CharLiteral a) (is ∙ sym (rolls-CharLiteral a))

    pub text_of_string : (s : String Global) (a : List ℕ) → k ≡ variant.String s → a ≡ string_bytes s → pattern_kind_text (text a) ≡ pattern_kind_text (pattern_kind_view output k)
    text_of_string s a is at = ap (λ b. pattern_kind_text (text b)) at ∙ text_of_kind (PatternKind-F.String s) (is ∙ sym (rolls-String s))
