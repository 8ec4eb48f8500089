-- Where no fault holds of a type, a pattern, a parameter or a `where` clause, no symbol occurs in its types.
use Rattle.std.proofs.Common.{◌≡◌, inl, inr, false, List, [], ◌∷◌, ◌++◌, map, Option, Some, None, refl, ap, ◌∙◌}
use Rattle.std.specs.Prelude.{flat_map, option_to_list}
use Rattle.std.specs.List.{list_any}
use Rattle.lalrpop_norm_tree_names.specs.declared.names.Span.{Span}
use Rattle.lalrpop_norm_tree_parts.specs.Bounds.{BoundParameterData, lifetime_parameter, type_parameter, associated_type, BoundData, lifetime_bound, function_bound, trait_bound, WhereClauseData, lifetime_clause, type_clause}
use Rattle.lalrpop_norm_tree.specs.LoweredTypes.{holds_symbol, any_holds_symbol, result_holds_symbol}
use Rattle.lalrpop_norm_tree_patterns.specs.Patterns as pattern
use Rattle.lalrpop_norm_tree.specs.Types.{TypeData, TypesData, MaybeType, ParameterData, tuple, slice, nominal, reference, trait_object, of_lifetime, id, of_symbol, function, no_types, type_and, no_type, returns}
use Rattle.lalrpop_norm_theory.specs.Rounds.{In}
use Rattle.lalrpop_norm_theory.proofs.RoundsLemmas.{in_cases, of_flat}
use Rattle.lalrpop_norm_theory.proofs.BoolLemmas.{left_false, right_false}
use Rattle.lalrpop_norm_faults.specs.declared.kind.FaultKind.TheVariants.{WrittenOfSymbol}
use Rattle.lalrpop_norm_faults.proofs.FaultLemmas.{not_fault}
use Rattle.lalrpop_norm_model.specs.TerminalTypes.{chosen_in_pattern, chosen_in_kind, chosen_in_all, chosen_in_fields}
use Rattle.lalrpop_norm_model.specs.Expanded.{symbols_in, symbols_in_all, symbols_in_return, types_in_parameter, types_in_bound, types_in_clause}
use Rattle.lalrpop_norm_model.proofs.LevelLemmas.{of_map}
use Rattle.lalrpop_norm_model.proofs.InferenceLemmas.{none_made}
use Rattle.lalrpop_norm_prevalidate.specs.TypeFaults.{some_holds, parameter_holds, bound_holds, clause_holds, kind_holds, pattern_holds, patterns_hold, fields_hold}
use Rattle.lalrpop_norm_prevalidate.specs.GrammarFaults.{parameter_faults, clause_faults}

-- ---- symbols in types

pub none_appended : {A : Type 0} (xs ys : List A) → xs ≡ [] → ys ≡ [] → xs ++ ys ≡ []
none_appended xs ys a b = rw (a, b) refl

mutual
  none_in : (t : TypeData) → holds_symbol t ≡ false → symbols_in t ≡ []
  none_in (of_symbol k) h = absurd (cc h)
  none_in (tuple ts) h = none_in_all ts h
  none_in (slice t) h = none_in t h
  none_in (nominal p ts) h = none_in_all ts h
  none_in (reference l m t) h = none_in t h
  none_in (trait_object p ts) h = none_in_all ts h
  none_in (of_lifetime l) h = refl
  none_in (id a) h = refl
  none_in (function fs p ts r) h =
      none_appended (symbols_in_all ts) (symbols_in_return r) (none_in_all ts (left_false (any_holds_symbol ts) (result_holds_symbol r) h))
      (none_in_return r (right_false (any_holds_symbol ts) (result_holds_symbol r) h))

  none_in_all : (ts : TypesData) → any_holds_symbol ts ≡ false → symbols_in_all ts ≡ []
  none_in_all no_types h = refl
  none_in_all (type_and t ts) h =
      none_appended (symbols_in t) (symbols_in_all ts) (none_in t (left_false (holds_symbol t) (any_holds_symbol ts) h))
      (none_in_all ts (right_false (holds_symbol t) (any_holds_symbol ts) h))

  none_in_return : (r : MaybeType) → result_holds_symbol r ≡ false → symbols_in_return r ≡ []
  none_in_return no_type h = refl
  none_in_return (returns t) h = none_in t h

pub none_declared : (o : Option TypeData) → some_holds o ≡ false → flat_map symbols_in (option_to_list o) ≡ []
none_declared None h = refl
none_declared (Some t) h = none_appended (symbols_in t) [] (none_in t h) refl

-- the types that a pattern selects hold no symbol
mutual
  chosen_bare_kind : (k : pattern.PatternKindData TypeData) → kind_holds k ≡ false → (t : TypeData) → In t (chosen_in_kind k) → holds_symbol t ≡ false
  chosen_bare_kind (pattern.chosen u) h t (inl e) = ap holds_symbol e ∙ h
  chosen_bare_kind (pattern.chosen u) h t (inr i) = absurd i
  chosen_bare_kind (pattern.enumerated p ps) h t i = chosen_bare_all ps h t i
  chosen_bare_kind (pattern.structured p fs b) h t i = chosen_bare_fields fs h t i
  chosen_bare_kind (pattern.tuple ps) h t i = chosen_bare_all ps h t i
  chosen_bare_kind (pattern.tuple_struct p ps) h t i = chosen_bare_all ps h t i
  chosen_bare_kind (pattern.path p) h t i = absurd i
  chosen_bare_kind (pattern.number n) h t i = absurd i
  chosen_bare_kind pattern.underscore h t i = absurd i
  chosen_bare_kind pattern.dot_dot h t i = absurd i
  chosen_bare_kind (pattern.character a) h t i = absurd i
  chosen_bare_kind (pattern.text a) h t i = absurd i

  pub chosen_bare : (p : pattern.PatternData TypeData) → pattern_holds p ≡ false → (t : TypeData) → In t (chosen_in_pattern p) → holds_symbol t ≡ false
  chosen_bare (pattern.pattern_at s k) h t i = chosen_bare_kind k h t i

  chosen_bare_all : (ps : pattern.Patterns TypeData) → patterns_hold ps ≡ false → (t : TypeData) → In t (chosen_in_all ps) → holds_symbol t ≡ false
  chosen_bare_all pattern.no_patterns h t i = absurd i
  chosen_bare_all (pattern.pattern_and p ps) h t i = elim (in_cases t (chosen_in_pattern p) (chosen_in_all ps) i) [
    | inl j ↦ chosen_bare p (left_false (pattern_holds p) (patterns_hold ps) h) t j
    | inr j ↦ chosen_bare_all ps (right_false (pattern_holds p) (patterns_hold ps) h) t j
  ]

  chosen_bare_fields : (fs : pattern.Fields TypeData) → fields_hold fs ≡ false → (t : TypeData) → In t (chosen_in_fields fs) → holds_symbol t ≡ false
  chosen_bare_fields pattern.no_fields h t i = absurd i
  chosen_bare_fields (pattern.field_and s n p fs) h t i = elim (in_cases t (chosen_in_pattern p) (chosen_in_fields fs) i) [
    | inl j ↦ chosen_bare p (left_false (pattern_holds p) (fields_hold fs) h) t j
    | inr j ↦ chosen_bare_fields fs (right_false (pattern_holds p) (fields_hold fs) h) t j
  ]

-- ---- parameters and where clauses

pub parameters_bare : (s : Span) (ps : List ParameterData) → flat_map (parameter_faults s) ps ≡ [] → (t : TypeData) →
    In t (map (λ (p : ParameterData). p.type) ps) → holds_symbol t ≡ false
parameters_bare s ps h t i =
    let (p, j, e) = of_map (λ (q : ParameterData). q.type) t ps i in
    ap holds_symbol e ∙ not_fault (holds_symbol p.type) (WrittenOfSymbol, s) (none_made (parameter_faults s) ps h p j)

none_holds : (ts : List TypeData) → list_any holds_symbol ts ≡ false → (t : TypeData) → In t ts → holds_symbol t ≡ false
none_holds [] h t i = absurd i
none_holds (u ∷ ts) h t (inl e) = ap holds_symbol e ∙ left_false (holds_symbol u) (list_any holds_symbol ts) h
none_holds (u ∷ ts) h t (inr i) = none_holds ts (right_false (holds_symbol u) (list_any holds_symbol ts) h) t i

parameter_bare : (p : BoundParameterData TypeData) → parameter_holds p ≡ false → (t : TypeData) → In t (types_in_parameter p) → holds_symbol t ≡ false
parameter_bare (lifetime_parameter l) h t i = absurd i
parameter_bare (type_parameter u) h t (inl e) = ap holds_symbol e ∙ h
parameter_bare (type_parameter u) h t (inr i) = absurd i
parameter_bare (associated_type a u) h t (inl e) = ap holds_symbol e ∙ h
parameter_bare (associated_type a u) h t (inr i) = absurd i

some_bare : (o : Option TypeData) → some_holds o ≡ false → (t : TypeData) → In t (option_to_list o) → holds_symbol t ≡ false
some_bare None h t i = absurd i
some_bare (Some u) h t (inl e) = ap holds_symbol e ∙ h
some_bare (Some u) h t (inr i) = absurd i

each_parameter_bare : (ps : List (BoundParameterData TypeData)) → list_any parameter_holds ps ≡ false → (t : TypeData) →
    In t (flat_map types_in_parameter ps) → holds_symbol t ≡ false
each_parameter_bare [] h t i = absurd i
each_parameter_bare (p ∷ ps) h t i = elim (in_cases t (types_in_parameter p) (flat_map types_in_parameter ps) i) [
  | inl j ↦ parameter_bare p (left_false (parameter_holds p) (list_any parameter_holds ps) h) t j
  | inr j ↦ each_parameter_bare ps (right_false (parameter_holds p) (list_any parameter_holds ps) h) t j
]

bound_bare : (b : BoundData TypeData) → bound_holds b ≡ false → (t : TypeData) → In t (types_in_bound b) → holds_symbol t ≡ false
bound_bare (lifetime_bound l) h t i = absurd i
bound_bare (function_bound fs p ts r) h t i = elim (in_cases t ts (option_to_list r) i) [
  | inl j ↦ none_holds ts (left_false (list_any holds_symbol ts) (some_holds r) h) t j
  | inr j ↦ some_bare r (right_false (list_any holds_symbol ts) (some_holds r) h) t j
]
bound_bare (trait_bound fs p ps) h t i = each_parameter_bare ps h t i

each_bound_bare : (bs : List (BoundData TypeData)) → list_any bound_holds bs ≡ false → (t : TypeData) → In t (flat_map types_in_bound bs) → holds_symbol t ≡ false
each_bound_bare [] h t i = absurd i
each_bound_bare (b ∷ bs) h t i = elim (in_cases t (types_in_bound b) (flat_map types_in_bound bs) i) [
  | inl j ↦ bound_bare b (left_false (bound_holds b) (list_any bound_holds bs) h) t j
  | inr j ↦ each_bound_bare bs (right_false (bound_holds b) (list_any bound_holds bs) h) t j
]

clause_bare : (w : WhereClauseData TypeData) → clause_holds w ≡ false → (t : TypeData) → In t (types_in_clause w) → holds_symbol t ≡ false
clause_bare (lifetime_clause l ls) h t i = absurd i
clause_bare (type_clause fs u bs) h t (inl e) = ap holds_symbol e ∙ left_false (holds_symbol u) (list_any bound_holds bs) h
clause_bare (type_clause fs u bs) h t (inr i) = each_bound_bare bs (right_false (holds_symbol u) (list_any bound_holds bs) h) t i

pub clauses_bare : (s : Span) (ws : List (WhereClauseData TypeData)) → flat_map (clause_faults s) ws ≡ [] → (t : TypeData) → In t (flat_map types_in_clause ws) →
    holds_symbol t ≡ false
clauses_bare s ws h t i =
    let (w, j, k) = of_flat types_in_clause t ws i in
    clause_bare w (not_fault (clause_holds w) (WrittenOfSymbol, s) (none_made (clause_faults s) ws h w j)) t k
