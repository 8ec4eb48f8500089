-- The forms of patterns just built, over the forms of their parts.
use Rattle.std.proofs.Common.{◌≡◌, ℕ, Bool, List, [], ◌∷◌, map, codes, String, Vec, Global, sym, ap, ◌∙◌}
use Rattle.std.specs.Prelude.{string_bytes}
use Rattle.serde_json.specs.Data.{boolean, number, unsigned, string, array}
use Rattle.json_records.specs.Reading.{list_form, under}
use Rattle.lalrpop_norm_tree_names.specs.declared.names.Span.{Span}
use Rattle.lalrpop_norm_tree_parts.specs.declared.path.Path.{Path}
use Rattle.lalrpop_norm_tree_parts.specs.Paths.{path_view}
use Rattle.lalrpop_norm_tree_patterns.specs.declared.pattern.FieldPattern.{FieldPattern}
use Rattle.lalrpop_norm_tree_patterns.specs.declared.pattern.Pattern.{Pattern}
use Rattle.lalrpop_norm_tree_patterns.specs.declared.pattern.PatternKind.{PatternKind}
use Rattle.lalrpop_norm_tree_patterns.specs.declared.pattern.PatternKind.TheFolds.{fold-roll-PatternKind, fold-roll-FieldPattern}
use Rattle.lalrpop_norm_tree_patterns.specs.declared.pattern.PatternKind.TheOpen.{PatternKind-F, FieldPattern-F}
use Rattle.lalrpop_norm_tree_patterns.specs.declared.pattern.PatternKind.TheVariants as variant
use Rattle.lalrpop_norm_tree_patterns.specs.declared.pattern.PatternKind.TheViews.{rolls-struct-FieldPattern, rolls-Enum, rolls-Struct, rolls-Path, rolls-Tuple, rolls-TupleStruct, rolls-Usize, rolls-Underscore, rolls-DotDot, rolls-Choose, rolls-CharLiteral, rolls-String}
use Rattle.lalrpop_norm_tree_patterns.specs.Patterns.{PatternKindData, PatternData, FieldData, pattern_kind_step, field_step, pattern_step, pattern_kind_view, pattern_view, field_view}
use Rattle.lalrpop_norm_tree.specs.declared.types.TypeRef.{TypeRef}
use Rattle.lalrpop_norm_tree.specs.Types.{TypeData, type_view}
use Rattle.lalrpop_norm_json.specs.Forms.{path_form}
use Rattle.lalrpop_norm_json.specs.TypeForms.{type_form}
use Rattle.lalrpop_norm_json.specs.PatternForms.{pattern_kind_form, pattern_form, field_form}
use Rattle.lalrpop_norm_json.proofs.FormLemmas.{patterns_items, fields_items}

pub enum_form : (p : Path) (ps : Vec (Pattern TypeRef) Global) → under (codes "Enum") (list_form (path_form (path_view p) ∷ list_form (map (λ p. pattern_form (pattern_view type_view p)) ps.items) ∷ [])) ≡ pattern_kind_form (pattern_kind_view type_view (variant.Enum p ps))
enum_form p ps =
    ap (λ is. under (codes "Enum") (list_form (path_form (path_view p) ∷ array is ∷ []))) (patterns_items ps.items)
    ∙ ap pattern_kind_form (sym (ap (pattern_kind_view type_view) (sym (rolls-Enum p ps)) ∙ fold-roll-PatternKind TypeRef (PatternKindData TypeData) (FieldData TypeData) (PatternData TypeData) (pattern_kind_step type_view) (field_step type_view) (pattern_step type_view) (PatternKind-F.Enum p ps)))

pub struct_form : (p : Path) (fs : Vec (FieldPattern TypeRef) Global) (rest : Bool) → under (codes "Struct") (list_form (path_form (path_view p) ∷ list_form (map (λ f. field_form (field_view type_view f)) fs.items) ∷ boolean rest ∷ [])) ≡ pattern_kind_form (pattern_kind_view type_view (variant.Struct p fs rest))
struct_form p fs rest =
    ap (λ is. under (codes "Struct") (list_form (path_form (path_view p) ∷ array is ∷ boolean rest ∷ []))) (fields_items fs.items)
    ∙ ap pattern_kind_form (sym (ap (pattern_kind_view type_view) (sym (rolls-Struct p fs rest)) ∙ fold-roll-PatternKind TypeRef (PatternKindData TypeData) (FieldData TypeData) (PatternData TypeData) (pattern_kind_step type_view) (field_step type_view) (pattern_step type_view) (PatternKind-F.Struct p fs rest)))

pub path_kind_form : (p : Path) → under (codes "Path") (path_form (path_view p)) ≡ pattern_kind_form (pattern_kind_view type_view (variant.Path p))
path_kind_form p = ap pattern_kind_form (sym (ap (pattern_kind_view type_view) (sym (rolls-Path p)) ∙ fold-roll-PatternKind TypeRef (PatternKindData TypeData) (FieldData TypeData) (PatternData TypeData) (pattern_kind_step type_view) (field_step type_view) (pattern_step type_view) (PatternKind-F.Path p)))

pub tuple_form : (ps : Vec (Pattern TypeRef) Global) → under (codes "Tuple") (list_form (map (λ p. pattern_form (pattern_view type_view p)) ps.items)) ≡ pattern_kind_form (pattern_kind_view type_view (variant.Tuple ps))
tuple_form ps =
    ap (λ is. under (codes "Tuple") (array is)) (patterns_items ps.items)
    ∙ ap pattern_kind_form (sym (ap (pattern_kind_view type_view) (sym (rolls-Tuple ps)) ∙ fold-roll-PatternKind TypeRef (PatternKindData TypeData) (FieldData TypeData) (PatternData TypeData) (pattern_kind_step type_view) (field_step type_view) (pattern_step type_view) (PatternKind-F.Tuple ps)))

pub tuple_struct_form : (p : Path) (ps : Vec (Pattern TypeRef) Global) → under (codes "TupleStruct") (list_form (path_form (path_view p) ∷ list_form (map (λ p. pattern_form (pattern_view type_view p)) ps.items) ∷ [])) ≡ pattern_kind_form (pattern_kind_view type_view (variant.TupleStruct p ps))
tuple_struct_form p ps =
    ap (λ is. under (codes "TupleStruct") (list_form (path_form (path_view p) ∷ array is ∷ []))) (patterns_items ps.items)
    ∙ ap pattern_kind_form (sym (ap (pattern_kind_view type_view) (sym (rolls-TupleStruct p ps)) ∙ fold-roll-PatternKind TypeRef (PatternKindData TypeData) (FieldData TypeData) (PatternData TypeData) (pattern_kind_step type_view) (field_step type_view) (pattern_step type_view) (PatternKind-F.TupleStruct p ps)))

pub number_form : (n : ℕ) → under (codes "Usize") (number (unsigned n)) ≡ pattern_kind_form (pattern_kind_view type_view (variant.Usize n))
number_form n = ap pattern_kind_form (sym (ap (pattern_kind_view type_view) (sym (rolls-Usize n)) ∙ fold-roll-PatternKind TypeRef (PatternKindData TypeData) (FieldData TypeData) (PatternData TypeData) (pattern_kind_step type_view) (field_step type_view) (pattern_step type_view) (PatternKind-F.Usize n)))

pub underscore_form : string (codes "Underscore") ≡ pattern_kind_form (pattern_kind_view type_view variant.Underscore)
underscore_form = ap pattern_kind_form (sym (ap (pattern_kind_view type_view) (sym rolls-Underscore) ∙ fold-roll-PatternKind TypeRef (PatternKindData TypeData) (FieldData TypeData) (PatternData TypeData) (pattern_kind_step type_view) (field_step type_view) (pattern_step type_view) PatternKind-F.Underscore))

pub dot_dot_form : string (codes "DotDot") ≡ pattern_kind_form (pattern_kind_view type_view variant.DotDot)
dot_dot_form = ap pattern_kind_form (sym (ap (pattern_kind_view type_view) (sym rolls-DotDot) ∙ fold-roll-PatternKind TypeRef (PatternKindData TypeData) (FieldData TypeData) (PatternData TypeData) (pattern_kind_step type_view) (field_step type_view) (pattern_step type_view) PatternKind-F.DotDot))

pub chosen_form : (t : TypeRef) → under (codes "Choose") (type_form (type_view t)) ≡ pattern_kind_form (pattern_kind_view type_view (variant.Choose t))
chosen_form x = ap pattern_kind_form (sym (ap (pattern_kind_view type_view) (sym (rolls-Choose x)) ∙ fold-roll-PatternKind TypeRef (PatternKindData TypeData) (FieldData TypeData) (PatternData TypeData) (pattern_kind_step type_view) (field_step type_view) (pattern_step type_view) (PatternKind-F.Choose x)))

pub character_form : (a : List ℕ) → under (codes "CharLiteral") (string a) ≡ pattern_kind_form (pattern_kind_view type_view (variant.CharLiteral a))
character_form a = ap pattern_kind_form (sym (ap (pattern_kind_view type_view) (sym (rolls-CharLiteral a)) ∙ fold-roll-PatternKind TypeRef (PatternKindData TypeData) (FieldData TypeData) (PatternData TypeData) (pattern_kind_step type_view) (field_step type_view) (pattern_step type_view) (PatternKind-F.CharLiteral a)))

pub string_form : (s : String Global) → under (codes "String") (string (string_bytes s)) ≡ pattern_kind_form (pattern_kind_view type_view (variant.String s))
string_form s = ap pattern_kind_form (sym (ap (pattern_kind_view type_view) (sym (rolls-String s)) ∙ fold-roll-PatternKind TypeRef (PatternKindData TypeData) (FieldData TypeData) (PatternData TypeData) (pattern_kind_step type_view) (field_step type_view) (pattern_step type_view) (PatternKind-F.String s)))

pub field_seen : (s : Span) (a : List ℕ) (p : Pattern TypeRef) → field_view type_view (let f : FieldPattern TypeRef = record { field_span = s; field_name = a; pattern = p } in f) ≡ (let d : FieldData TypeData = record { span = s; name = a; pattern = pattern_view type_view p } in d)
field_seen s a p =
    let x : FieldPattern-F TypeRef (PatternKind TypeRef) (FieldPattern TypeRef) (Pattern TypeRef) = record { field_span = s; field_name = a; pattern = p } in
    ap (field_view type_view) (sym (rolls-struct-FieldPattern x))
    ∙ fold-roll-FieldPattern TypeRef (PatternKindData TypeData) (FieldData TypeData) (PatternData TypeData) (pattern_kind_step type_view) (field_step type_view) (pattern_step type_view) x
