-- No symbol occurs in a type outside of rules, seen by the list of these types.
use Rattle.std.proofs.Common.{◌≡◌, ◌∙◌, Bool, true, false, ◌&&◌, not, List, [], ◌∷◌, ◌++◌, Option, Some, None, map, refl, sym, ap, ap₂}
use Rattle.std.specs.Prelude.{option_to_list}
use Rattle.std.specs.List.{flat_map, list_all}
use Rattle.std.proofs.Math.Bool.{and-true}
use Rattle.std.proofs.lemmas.List.Folds.{list_all-append, list_all-map}
use Rattle.lalrpop_norm_tree_parts.specs.Bounds.{BoundParameterData, lifetime_parameter, type_parameter, associated_type}
use Rattle.lalrpop_norm_tree_parts.specs.Bounds.{BoundData, lifetime_bound, function_bound, trait_bound}
use Rattle.lalrpop_norm_tree_parts.specs.Bounds.{WhereClauseData, lifetime_clause, type_clause}
use Rattle.lalrpop_norm_tree_parts.specs.MappedBounds.{types_in_parameter, types_in_bound}
use Rattle.lalrpop_norm_tree_patterns.specs.MappedPatterns.{chosen_in_kind, chosen_in_pattern, chosen_in_all, chosen_in_fields}
use Rattle.lalrpop_norm_tree_patterns.specs.Patterns.{PatternKindData, enumerated, structured, path, tuple, tuple_struct, number}
use Rattle.lalrpop_norm_tree_patterns.specs.Patterns.{underscore, dot_dot, chosen, character, text, PatternData, pattern_at}
use Rattle.lalrpop_norm_tree_patterns.specs.Patterns.{Patterns, no_patterns, pattern_and, Fields, no_fields, field_and}
use Rattle.lalrpop_norm_tree.specs.Items.{AssociatedTypeData, ConversionData, EnumTokenData, ItemData, GrammarData, match_item, extern_item, intern_item, rule_item, use_item}
use Rattle.lalrpop_norm_tree.specs.LoweredTypes.{holds_symbol}
use Rattle.lalrpop_norm_tree.specs.Types.{TypeData, ParameterData}
use Rattle.lalrpop_norm_model.specs.Expanded.{types_in_clause, types_in_enum, types_in_extern, types_beside_rules}
use Rattle.lalrpop_norm_is_expanded.specs.Types.{lacks_symbol, return_lacks_symbol, bound_parameter_lacks_symbol, bound_lacks_symbol, clause_lacks_symbol, pattern_kind_lacks_symbol, pattern_lacks_symbol, patterns_lack_symbol, fields_lack_symbol, conversion_lacks_symbol, enum_lacks_symbol, item_lacks_symbol, is_free_of_symbols}
use Rattle.lalrpop_norm_theory.proofs.ListTests.{all_flat, all_same}
use Rattle.lalrpop_norm_theory.proofs.BoolLemmas.{false_of_not}

-- ---- `where` clauses

one : (t : TypeData) → lacks_symbol t ≡ list_all lacks_symbol (t ∷ [])
one t = sym (and-true (lacks_symbol t))

return_listed : (r : Option TypeData) → return_lacks_symbol r ≡ list_all lacks_symbol (option_to_list r)
return_listed None = refl
return_listed (Some t) = one t

bound_parameter_listed : (p : BoundParameterData TypeData) → bound_parameter_lacks_symbol p ≡ list_all lacks_symbol (types_in_parameter p)
bound_parameter_listed (lifetime_parameter l) = refl
bound_parameter_listed (type_parameter t) = one t
bound_parameter_listed (associated_type a t) = one t

bound_listed : (b : BoundData TypeData) → bound_lacks_symbol b ≡ list_all lacks_symbol (types_in_bound b)
bound_listed (lifetime_bound l) = refl
bound_listed (function_bound fs p ts r) =
    ap (λ b. list_all lacks_symbol ts && b) (return_listed r) ∙ sym (list_all-append lacks_symbol ts (option_to_list r))
bound_listed (trait_bound fs p ps) =
    all_same bound_parameter_lacks_symbol (λ q. list_all lacks_symbol (types_in_parameter q)) bound_parameter_listed ps
    ∙ sym (all_flat lacks_symbol types_in_parameter ps)

clause_listed : (c : WhereClauseData TypeData) → clause_lacks_symbol c ≡ list_all lacks_symbol (types_in_clause c)
clause_listed (lifetime_clause l ls) = refl
clause_listed (type_clause fs t bs) =
    ap (λ b. lacks_symbol t && b)
    (all_same bound_lacks_symbol (λ x. list_all lacks_symbol (types_in_bound x)) bound_listed bs ∙ sym (all_flat lacks_symbol types_in_bound bs))

-- ---- patterns

mutual
  kind_listed : (k : PatternKindData TypeData) → pattern_kind_lacks_symbol k ≡ list_all lacks_symbol (chosen_in_kind k)
  kind_listed (chosen t) = one t
  kind_listed (enumerated p ps) = patterns_listed ps
  kind_listed (structured p fs rest) = fields_listed fs
  kind_listed (tuple ps) = patterns_listed ps
  kind_listed (tuple_struct p ps) = patterns_listed ps
  kind_listed (path p) = refl
  kind_listed (number n) = refl
  kind_listed underscore = refl
  kind_listed dot_dot = refl
  kind_listed (character a) = refl
  kind_listed (text a) = refl

  pattern_listed : (p : PatternData TypeData) → pattern_lacks_symbol p ≡ list_all lacks_symbol (chosen_in_pattern p)
  pattern_listed (pattern_at s k) = kind_listed k

  patterns_listed : (ps : Patterns TypeData) → patterns_lack_symbol ps ≡ list_all lacks_symbol (chosen_in_all ps)
  patterns_listed no_patterns = refl
  patterns_listed (pattern_and p ps) =
      ap₂ (λ a b. a && b) (pattern_listed p) (patterns_listed ps) ∙ sym (list_all-append lacks_symbol (chosen_in_pattern p) (chosen_in_all ps))

  fields_listed : (fs : Fields TypeData) → fields_lack_symbol fs ≡ list_all lacks_symbol (chosen_in_fields fs)
  fields_listed no_fields = refl
  fields_listed (field_and s n p fs) =
      ap₂ (λ a b. a && b) (pattern_listed p) (fields_listed fs) ∙ sym (list_all-append lacks_symbol (chosen_in_pattern p) (chosen_in_fields fs))

-- ---- extern blocks

enum_listed : (o : Option EnumTokenData) → enum_lacks_symbol o ≡ list_all lacks_symbol (flat_map types_in_enum (option_to_list o))
enum_listed None = refl
enum_listed (Some e) =
    ap (λ b. lacks_symbol e.type_name && b)
    (all_same conversion_lacks_symbol (λ (c : ConversionData). list_all lacks_symbol (chosen_in_pattern c.to)) (λ (c : ConversionData). pattern_listed c.to) e.conversions
    ∙ sym (all_flat lacks_symbol (λ (c : ConversionData). chosen_in_pattern c.to) e.conversions))
    ∙ (sym (and-true (list_all lacks_symbol (types_in_enum e))) ∙ sym (list_all-append lacks_symbol (types_in_enum e) []))

item_listed : (i : ItemData) → item_lacks_symbol i ≡ list_all lacks_symbol (types_in_extern i)
item_listed (extern_item t) =
    ap₂ (λ a b. a && b) (sym (list_all-map lacks_symbol (λ (a : AssociatedTypeData). a.type_ref) t.associated_types)) (enum_listed t.enum_token)
    ∙ sym (list_all-append lacks_symbol (map (λ (a : AssociatedTypeData). a.type_ref) t.associated_types) (flat_map types_in_enum (option_to_list t.enum_token)))
item_listed (match_item m) = refl
item_listed (intern_item t) = refl
item_listed (rule_item r) = refl
item_listed (use_item s) = refl

-- ---- the whole

pub free_listed : (g : GrammarData) → is_free_of_symbols g ≡ list_all lacks_symbol (types_beside_rules g)
free_listed g =
    let parameters : List TypeData = map (λ (p : ParameterData). p.type) g.parameters in
    let clauses : List TypeData = flat_map types_in_clause g.where_clauses in
    let externs : List TypeData = flat_map types_in_extern g.items in
    ap₂ (λ a b. a && b)
    (ap₂ (λ a b. a && b) (sym (list_all-map lacks_symbol (λ (p : ParameterData). p.type) g.parameters))
    (all_same clause_lacks_symbol (λ c. list_all lacks_symbol (types_in_clause c)) clause_listed g.where_clauses ∙ sym (all_flat lacks_symbol types_in_clause g.where_clauses))
    ∙ sym (list_all-append lacks_symbol parameters clauses))
    (all_same item_lacks_symbol (λ i. list_all lacks_symbol (types_in_extern i)) item_listed g.items ∙ sym (all_flat lacks_symbol types_in_extern g.items))
    ∙ sym (list_all-append lacks_symbol (parameters ++ clauses) externs)

turned_back : (b : Bool) → b ≡ false → not b ≡ true
turned_back true e = absurd cc
turned_back false e = refl

pub lacks_is : (t : TypeData) → lacks_symbol t ≡ true → holds_symbol t ≡ false
lacks_is t = false_of_not (holds_symbol t)

pub is_lacks : (t : TypeData) → holds_symbol t ≡ false → lacks_symbol t ≡ true
is_lacks t = turned_back (holds_symbol t)
