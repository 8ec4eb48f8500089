-- Patterns back from their forms, over a function back for what they select; patterns of trees.
use Rattle.std.proofs.Common.{◌≡◌, ℕ, List, bytes_eq, if◌then◌else◌, codes, refl, ap, ap₂}
use Rattle.serde_json.specs.Data.{Data, string, array, object, Items, no_items, item, no_members, member}
use Rattle.lalrpop_norm_tree_parts.specs.Paths.{PathData}
use Rattle.lalrpop_norm_tree_patterns.specs.Patterns as pattern
use Rattle.lalrpop_norm_tree_patterns.specs.Patterns.{PatternKindData, PatternData, pattern_at, Patterns, no_patterns, pattern_and}
use Rattle.lalrpop_norm_tree_patterns.specs.Patterns.{Fields, no_fields, field_and}
use Rattle.lalrpop_norm_tree.specs.Types.{TypeData}
use Rattle.lalrpop_norm_json.specs.PatternForms.{pattern_kind_form, pattern_form, patterns_form, field_patterns_form}
use Rattle.lalrpop_norm_json.proofs.NameBack.{text_in, truth_in, path_in, path_back, number_in, span_in}
use Rattle.lalrpop_norm_json.proofs.TypeBack.{type_in, type_back}

abbrev bare_in : {T : Type 0} → List ℕ → PatternKindData T
bare_in s = if bytes_eq s (codes "Underscore") then pattern.underscore else pattern.dot_dot

-- the variants that hold no pattern
abbrev plain_in : {T : Type 0} → (Data → T) → List ℕ → Data → PatternKindData T
plain_in g k d =
    if bytes_eq k (codes "Path") then pattern.path (path_in d)
    else if bytes_eq k (codes "Usize") then pattern.number (number_in d)
    else if bytes_eq k (codes "Choose") then pattern.chosen (g d)
    else if bytes_eq k (codes "CharLiteral") then pattern.character (text_in d)
    else pattern.text (text_in d)

abbrev mutual
  pub pattern_kind_in : {T : Type 0} → (Data → T) → Data → PatternKindData T
  pattern_kind_in g (string s) = bare_in s
  pattern_kind_in g (object (member k d no_members)) =
      if bytes_eq k (codes "Enum") then enum_in g d
      else if bytes_eq k (codes "Struct") then struct_in g d
      else if bytes_eq k (codes "Tuple") then tuple_in g d
      else if bytes_eq k (codes "TupleStruct") then tuple_struct_in g d
      else plain_in g k d
  pattern_kind_in g _ = pattern.dot_dot

  enum_in : {T : Type 0} → (Data → T) → Data → PatternKindData T
  enum_in g (array (item p (item (array ps) no_items))) = pattern.enumerated (path_in p) (patterns_in g ps)
  enum_in g _ = pattern.dot_dot

  struct_in : {T : Type 0} → (Data → T) → Data → PatternKindData T
  struct_in g (array (item p (item (array fs) (item rest no_items)))) = pattern.structured (path_in p) (field_patterns_in g fs) (truth_in rest)
  struct_in g _ = pattern.dot_dot

  tuple_in : {T : Type 0} → (Data → T) → Data → PatternKindData T
  tuple_in g (array ps) = pattern.tuple (patterns_in g ps)
  tuple_in g _ = pattern.dot_dot

  tuple_struct_in : {T : Type 0} → (Data → T) → Data → PatternKindData T
  tuple_struct_in g (array (item p (item (array ps) no_items))) = pattern.tuple_struct (path_in p) (patterns_in g ps)
  tuple_struct_in g _ = pattern.dot_dot

  pub pattern_in : {T : Type 0} → (Data → T) → Data → PatternData T
  pattern_in g (object (member k d (member l s no_members))) = pattern_at (span_in s) (pattern_kind_in g d)
  pattern_in g _ = pattern_at (record { 0 = 0; 1 = 0 }) pattern.dot_dot

  pub patterns_in : {T : Type 0} → (Data → T) → Items → Patterns T
  patterns_in g no_items = no_patterns
  patterns_in g (item d ds) = pattern_and (pattern_in g d) (patterns_in g ds)

  pub field_patterns_in : {T : Type 0} → (Data → T) → Items → Fields T
  field_patterns_in g (item (object (member k n (member l s (member m p no_members)))) ds) =
      field_and (span_in s) (text_in n) (pattern_in g p) (field_patterns_in g ds)
  field_patterns_in g _ = no_fields

mutual
  pattern_kind_back : (k : PatternKindData TypeData) → pattern_kind_in type_in (pattern_kind_form k) ≡ k
  pattern_kind_back (pattern.enumerated p ps) =
      ap₂ (λ (q : PathData) (qs : Patterns TypeData). pattern.enumerated q qs) (path_back p) (patterns_back ps)
  pattern_kind_back (pattern.structured p fs rest) =
      ap₂ (λ (q : PathData) (gs : Fields TypeData). pattern.structured q gs rest) (path_back p) (field_patterns_back fs)
  pattern_kind_back (pattern.path p) = ap (λ (q : PathData). pattern.path q) (path_back p)
  pattern_kind_back (pattern.tuple ps) = ap (λ (qs : Patterns TypeData). pattern.tuple qs) (patterns_back ps)
  pattern_kind_back (pattern.tuple_struct p ps) =
      ap₂ (λ (q : PathData) (qs : Patterns TypeData). pattern.tuple_struct q qs) (path_back p) (patterns_back ps)
  pattern_kind_back (pattern.number n) = refl
  pattern_kind_back pattern.underscore = refl
  pattern_kind_back pattern.dot_dot = refl
  pattern_kind_back (pattern.chosen t) = ap (λ (u : TypeData). pattern.chosen u) (type_back t)
  pattern_kind_back (pattern.character a) = refl
  pattern_kind_back (pattern.text a) = refl

  pub pattern_back : (p : PatternData TypeData) → pattern_in type_in (pattern_form p) ≡ p
  pattern_back (pattern_at s k) = ap (λ (l : PatternKindData TypeData). pattern_at s l) (pattern_kind_back k)

  patterns_back : (ps : Patterns TypeData) → patterns_in type_in (patterns_form ps) ≡ ps
  patterns_back no_patterns = refl
  patterns_back (pattern_and p ps) =
      ap₂ (λ (q : PatternData TypeData) (qs : Patterns TypeData). pattern_and q qs) (pattern_back p) (patterns_back ps)

  field_patterns_back : (fs : Fields TypeData) → field_patterns_in type_in (field_patterns_form fs) ≡ fs
  field_patterns_back no_fields = refl
  field_patterns_back (field_and s a p fs) =
      ap₂ (λ (q : PatternData TypeData) (gs : Fields TypeData). field_and s a q gs) (pattern_back p) (field_patterns_back fs)
