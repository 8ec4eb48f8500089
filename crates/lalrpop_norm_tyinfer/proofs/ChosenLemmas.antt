-- The types that patterns select.
use Rattle.std.proofs.Common.{◌≡◌, List, [], ◌∷◌, ◌++◌, append-nil, map, Option, Some, None, Bor, Result, Ok, Err, IfOk, Vec, Global, refl, sym, ap, ap₂, ◌∙◌}
use Rattle.std.specs.Prelude.{option_map}
use Rattle.shared_text.specs.declared.atom.NoMemory.{NoMemory}
use Rattle.lalrpop_norm_tree_parts.specs.declared.lowered.TypeRepr.{TypeRepr}
use Rattle.lalrpop_norm_tree_names.specs.declared.names.TerminalLiteral.TheVariants as literal
use Rattle.lalrpop_norm_tree_names.specs.declared.names.TerminalString.{TerminalString}
use Rattle.lalrpop_norm_tree_names.specs.declared.names.TerminalString.TheVariants as terminal
use Rattle.lalrpop_norm_tree_names.specs.contracts.names.TerminalStringClone.TheImpl as terminals
use Rattle.lalrpop_norm_tree_parts.specs.Reprs.{ReprData, repr_view}
use Rattle.std.proofs.lemmas.List.{map-append}
use Rattle.lalrpop_norm_tree_parts.proofs.KnownTextLemmas.{map_twice}
use Rattle.lalrpop_norm_tree_patterns.specs.declared.pattern.Pattern.{Pattern}
use Rattle.lalrpop_norm_tree_patterns.specs.MappedPatterns.{mapped_kind, mapped_pattern, mapped_patterns, mapped_fields, chosen_in_kind, chosen_in_pattern, chosen_in_all, chosen_in_fields}
use Rattle.lalrpop_norm_tree_patterns.specs.Patterns.{PatternKindData, enumerated, structured, path, tuple, tuple_struct, number, underscore, dot_dot, chosen, character, text, PatternData, pattern_at, Patterns, no_patterns, pattern_and, Fields, no_fields, field_and, pattern_view}
use Rattle.lalrpop_norm_tree_patterns.proofs.PatternViews.{view_mapped}
use Rattle.lalrpop_norm_tree.specs.declared.types.TypeRef.{TypeRef}
use Rattle.lalrpop_norm_tree.specs.LoweredTypes.{repr_of}
use Rattle.lalrpop_norm_tree.specs.Types.{type_view}
use Rattle.lalrpop_norm_model.specs.TerminalTypes.{row_for, type_of_chosen}
use Rattle.lalrpop_norm_tyinfer_steps.specs.TokenTypes.{rows_seen}

-- what a pattern selects once its selected parts are put through f
module _ {T V : Type 0} (f : T → V) where
  mutual
    kind_chosen : (k : PatternKindData T) → chosen_in_kind (mapped_kind f k) ≡ map f (chosen_in_kind k)
    kind_chosen (enumerated p ps) = all_chosen ps
    kind_chosen (structured p fs rest) = fields_chosen fs
    kind_chosen (path p) = refl
    kind_chosen (tuple ps) = all_chosen ps
    kind_chosen (tuple_struct p ps) = all_chosen ps
    kind_chosen (number n) = refl
    kind_chosen underscore = refl
    kind_chosen dot_dot = refl
    kind_chosen (chosen t) = refl
    kind_chosen (character a) = refl
    kind_chosen (text a) = refl

    pub pattern_chosen : (p : PatternData T) → chosen_in_pattern (mapped_pattern f p) ≡ map f (chosen_in_pattern p)
    pattern_chosen (pattern_at s k) = kind_chosen k

    all_chosen : (ps : Patterns T) → chosen_in_all (mapped_patterns f ps) ≡ map f (chosen_in_all ps)
    all_chosen no_patterns = refl
    all_chosen (pattern_and p ps) = ap₂ ◌++◌ (pattern_chosen p) (all_chosen ps) ∙ sym (map-append f (chosen_in_pattern p) (chosen_in_all ps))

    fields_chosen : (fs : Fields T) → chosen_in_fields (mapped_fields f fs) ≡ map f (chosen_in_fields fs)
    fields_chosen no_fields = refl
    fields_chosen (field_and s n p fs) = ap₂ ◌++◌ (pattern_chosen p) (fields_chosen fs) ∙ sym (map-append f (chosen_in_pattern p) (chosen_in_fields fs))

-- the types that a pattern selects, by the references to them
chosen_lowered : (p : Pattern TypeRef) (cs : List (Bor TypeRef)) → map (λ t. t.now) cs ≡ chosen_in_pattern (pattern_view (λ t. t) p)
    → map (λ t. repr_of (type_view t.now)) cs ≡ map repr_of (chosen_in_pattern (pattern_view type_view p))
chosen_lowered p cs are =
    map_twice (λ (t : TypeRef). repr_of (type_view t)) (λ (t : Bor TypeRef). t.now) cs
    ∙ ap (map (λ (t : TypeRef). repr_of (type_view t))) are
    ∙ map_twice repr_of type_view (chosen_in_pattern (pattern_view (λ (t : TypeRef). t) p))
    ∙ ap (map repr_of) (sym (pattern_chosen type_view (pattern_view (λ (t : TypeRef). t) p)) ∙ ap chosen_in_pattern (sym (view_mapped type_view p)))

pub lowered_as_chosen : (r : Result (Vec TypeRepr Global) NoMemory) (p : Pattern TypeRef) (cs ds : List (Bor TypeRef)) → ds ≡ cs → map (λ t. t.now) cs ≡ chosen_in_pattern (pattern_view (λ t. t) p)
    → IfOk r (λ ts. map repr_view ts.items ≡ map (λ t. repr_of (type_view t.now)) ds) → IfOk r (λ ts. map repr_view ts.items ≡ map repr_of (chosen_in_pattern (pattern_view type_view p)))
lowered_as_chosen (Ok ts) p cs ds same are lowered = lowered ∙ ap (map (λ (t : Bor TypeRef). repr_of (type_view t.now))) same ∙ chosen_lowered p cs are
lowered_as_chosen (Err e) p cs ds same are lowered = lowered

-- the row of a copy of a terminal
row_of_copy : (a b : TerminalString) (x : ReprData) → terminals.is_clone-value.it a b → row_for b (Some x) ≡ row_for a (Some x)
row_of_copy (terminal.Literal (literal.Quoted a)) (terminal.Literal (literal.Quoted b)) x h = ap (λ z. row_for (terminal.Literal (literal.Quoted z)) (Some x)) h
row_of_copy (terminal.Literal (literal.Regex a)) (terminal.Literal (literal.Regex b)) x h = ap (λ z. row_for (terminal.Literal (literal.Regex z)) (Some x)) h
row_of_copy (terminal.Bare a) (terminal.Bare b) x h = ap (λ z. row_for (terminal.Bare z) (Some x)) h
row_of_copy terminal.Error terminal.Error x h = refl
row_of_copy _ _ x h = absurd h

-- the row of a terminal, if types were selected
module _ (rows : List (TerminalString × TypeRepr)) (t : TerminalString) (o : Option TypeRepr) (xs ys : List ReprData) (chosen : option_map repr_view o ≡ type_of_chosen xs) (are : xs ≡ ys) where
  pub row_added : (u : TerminalString) (ty : TypeRepr) → terminals.is_clone-value.it t u → o ≡ Some ty → rows_seen (rows ++ (u, ty) ∷ []) ≡ rows_seen rows ++ row_for t (type_of_chosen ys)
  row_added u ty copied some =
      map-append (λ (r : TerminalString × TypeRepr). (r.0, repr_view r.1)) rows ((u, ty) ∷ [])
      ∙ ap (λ row. rows_seen rows ++ row) (row_of_copy t u (repr_view ty) copied)
      ∙ ap (λ v. rows_seen rows ++ row_for t v) (ap (option_map repr_view) (sym some) ∙ chosen ∙ ap type_of_chosen are)

  pub no_row_added : o ≡ None → rows_seen rows ≡ rows_seen rows ++ row_for t (type_of_chosen ys)
  no_row_added none =
      sym (append-nil (rows_seen rows))
      ∙ ap (λ v. rows_seen rows ++ row_for t v) (ap (option_map repr_view) (sym none) ∙ chosen ∙ ap type_of_chosen are)
