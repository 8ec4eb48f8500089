-- What a written grammar without faults says of its enabled grammar: of its tokens, of the error terminal, and of declared types.
use Rattle.std.proofs.Common.{◌≡◌, ◌<◌, ◌≤◌, inl, inr, true, false, not, List, [], ◌∷◌, ◌++◌, length, map, Option, Some, None, refl, ap, sym, subst, ◌∙◌, append-nil, arith}
use Rattle.std.specs.Prelude.{flat_map, option_to_list, is_some, if◌then◌else◌}
use Rattle.std.proofs.lemmas.List.{length-map}
use Rattle.lalrpop_norm_tree_names.specs.declared.names.Span.{Span}
use Rattle.lalrpop_norm_tree_names.specs.declared.names.TerminalString.{TerminalString}
use Rattle.lalrpop_norm_tree_names.specs.declared.names.TerminalString.TheVariants.{Literal, Bare, Error}
use Rattle.lalrpop_norm_tree_parts.specs.Accessors.{is_known_name}
use Rattle.lalrpop_norm_tree_parts.specs.Attributes.{Attributes, attribute, no_attributes, attribute_and}
use Rattle.lalrpop_norm_tree.specs.Accessors.{first_of, extern_token_of}
use Rattle.lalrpop_norm_tree.specs.Items.{ConversionData, EnumTokenData, ExternTokenData, MatchTokenData, InternTokenData, ItemData, GrammarData, match_item, extern_item, rule_item}
use Rattle.lalrpop_norm_tree.specs.LoweredTypes.{holds_symbol}
use Rattle.lalrpop_norm_tree.specs.Symbols.{Kind, Parts, group, terminal, call, lookahead, lookbehind, error_terminal, at, part_and}
use Rattle.lalrpop_norm_tree.specs.Traversal.{inner}
use Rattle.lalrpop_norm_tree.specs.Types.{TypeData, ParameterData}
use Rattle.lalrpop_norm_theory.specs.Rounds.{In}
use Rattle.lalrpop_norm_theory.proofs.RoundsLemmas.{in_cases, of_flat}
use Rattle.lalrpop_norm_theory.proofs.BoolLemmas.{not_false}
use Rattle.lalrpop_norm_faults.specs.Faults.{fault_if}
use Rattle.lalrpop_norm_faults.specs.declared.kind.FaultKind.TheVariants.{GrammarAttribute}
use Rattle.lalrpop_norm_faults.proofs.FaultLemmas.{not_fault}
use Rattle.lalrpop_norm_model.specs.Entries.{group_entries, user_names}
use Rattle.lalrpop_norm_model.specs.Features.{Features, is_active}
use Rattle.lalrpop_norm_model.specs.Enabled.{enabled_enum, enabled_item, enabled_grammar}
use Rattle.lalrpop_norm_model.specs.Expanded as expanded
use Rattle.lalrpop_norm_model.specs.Expanded.{is_plain_terminal, match_in, terminals_converted, types_in_clause, types_in_extern, types_beside_rules, all_known}
use Rattle.lalrpop_norm_model.proofs.LevelLemmas.{of_map}
use Rattle.lalrpop_norm_model.proofs.GrammarLemmas.{rule_item_of}
use Rattle.lalrpop_norm_model.proofs.InferenceLemmas.{both_empty, none_made, in_filtered}
use Rattle.lalrpop_norm_model.proofs.TraversalLemmas.{each_parts, fold_level, holds_around}
use Rattle.lalrpop_norm_prevalidate.specs.SymbolFaults.{terminal_faults, call_faults, own_faults, kind_faults, parts_faults, beside_faults}
use Rattle.lalrpop_norm_prevalidate.specs.AlternativeFaults.{alternative_faults}
use Rattle.lalrpop_norm_prevalidate.specs.GrammarFaults.{conversion_faults, enum_faults, unknown_grammar_faults, parameter_faults, clause_faults, items_faults, enum_span, surroundings_of, blocks_in, validate_faults}
use Rattle.lalrpop_norm_prevalidate.specs.Walks.{items_along}
use Rattle.lalrpop_norm_prevalidate.proofs.PlaceLemmas.{items_placed}
use Rattle.lalrpop_norm.proofs.ExpandedScopes.{IsOverLeaf, IsOverKind, AreOver}
use Rattle.lalrpop_norm.proofs.ExpandedTokens.{HasTokens}
use Rattle.lalrpop_norm.proofs.ExpandedSteps.{AreFitRules, enabled_rules_fit}
use Rattle.lalrpop_norm.proofs.TypesWithoutSymbols.{none_declared, parameters_bare, clauses_bare}
use Rattle.lalrpop_norm.proofs.ItemsWithoutFaults.{externs_of, IsFree, item_free, no_intern, one_extern, extern_free, rule_free, symbols_free, conversion_free, not_error, enums_of_externs, extern_listed, enabled_enums, enabled_matches, enabled_interns, externs_bare, block_named, match_listed, first_extern_is, one_match, match_free}

-- a terminal other than the error terminal
abbrev pub IsPlainTerminal : TerminalString → Type 0
IsPlainTerminal t = is_plain_terminal t ≡ true

attributes_known : (as_written : Attributes) → unknown_grammar_faults as_written ≡ [] → all_known as_written ≡ true
attributes_known no_attributes h = refl
attributes_known (attribute_and (attribute s name x) rest) h =
    let both = both_empty (fault_if (not (is_known_name name)) (GrammarAttribute, s)) (unknown_grammar_faults rest) h in
    let here : is_known_name name ≡ true = not_false (is_known_name name) (not_fault (not (is_known_name name)) (GrammarAttribute, s) both.0) in
    rw here (attributes_known rest both.1)

-- ---- symbols

module _ (g : GrammarData) where
  terminal_over : (s : Span) (t : TerminalString) → terminal_faults s t ≡ [] → IsPlainTerminal t
  unfolding terminal_faults
  terminal_over s (Literal l) f = refl
  terminal_over s (Bare a) f = refl
  terminal_over s Error f = absurd (cc f)

  leaf_over : (s : Span) (k : Kind) → kind_faults (surroundings_of g) s k ≡ [] → IsOverLeaf IsPlainTerminal k
  leaf_over s (terminal t) f = terminal_over s t f
  leaf_over s _ f = tt

  none_within : (s : Span) (k : Kind) → own_faults (surroundings_of g) s k (parts_faults (surroundings_of g) (inner k)) ≡ [] → parts_faults (surroundings_of g) (inner k) ≡ []
  none_within s (group ps) f = (both_empty (parts_faults (surroundings_of g) ps) (beside_faults ps) f).0
  none_within s (call n ps) f = (both_empty (call_faults s ps) (parts_faults (surroundings_of g) ps) f).1
  none_within s (terminal t) f = refl
  none_within s lookahead f = refl
  none_within s lookbehind f = refl
  none_within s error_terminal f = refl
  none_within s _ f = f

  abbrev BecomesOver : Kind → Type 0
  BecomesOver k = (s : Span) → kind_faults (surroundings_of g) s k ≡ [] → IsOverKind IsPlainTerminal k

  abbrev BecomeOver : Parts → Type 0
  BecomeOver ps = parts_faults (surroundings_of g) ps ≡ [] → AreOver IsPlainTerminal ps

  more_over : (s : Span) (k : Kind) (ps : Parts) → BecomesOver k → BecomeOver ps → BecomeOver (part_and (at s k) ps)
  more_over s k ps h t f =
      let two = both_empty (kind_faults (surroundings_of g) s k) (parts_faults (surroundings_of g) ps) f in
      (h s two.0, t two.1)

  over_around : (k : Kind) → BecomeOver (inner k) → BecomesOver k
  over_around k h s f =
      holds_around (IsOverLeaf IsPlainTerminal) k (leaf_over s k f) (h (none_within s k (sym (fold_level (own_faults (surroundings_of g)) [] (λ xs ys. xs ++ ys) append-nil s k) ∙ f)))

  parts_over : (ps : Parts) → parts_faults (surroundings_of g) ps ≡ [] → AreOver IsPlainTerminal ps
  parts_over = each_parts BecomesOver BecomeOver (λ f. tt) more_over over_around

-- ---- the grammar

module _ (fs : Features) (g : GrammarData) (f : validate_faults g ≡ []) where
  behind_attributes : flat_map (parameter_faults g.span) g.parameters
      ++ (flat_map (clause_faults g.span) g.where_clauses ++ items_faults (surroundings_of g) (blocks_in g) g.span g.items) ≡ []
  behind_attributes = (both_empty (unknown_grammar_faults g.attributes) _ f).1

  behind_parameters : flat_map (clause_faults g.span) g.where_clauses ++ items_faults (surroundings_of g) (blocks_in g) g.span g.items ≡ []
  behind_parameters = (both_empty (flat_map (parameter_faults g.span) g.parameters) _ behind_attributes).1

  items_free : items_along (surroundings_of g) (blocks_in g) g.span false false g.items ≡ []
  items_free = items_placed (surroundings_of g) (blocks_in g) g.span g.items ∙ (both_empty (flat_map (clause_faults g.span) g.where_clauses) _ behind_parameters).1

  each_free : (i : ItemData) → In i g.items → IsFree g i
  each_free = item_free g false false g.items items_free

  -- ---- enums

  one_block : (t : ExternTokenData) (rest : List ExternTokenData) → externs_of g.items ≡ t ∷ rest → rest ≡ []
  one_block = one_extern g false g.items items_free

  abbrev enums_in : List ExternTokenData → List EnumTokenData
  enums_in ts = flat_map (λ (t : ExternTokenData). option_to_list t.enum_token) ts

  few_enums : (ts : List ExternTokenData) → externs_of g.items ≡ ts → length (enums_in ts) ≤ 1
  few_enums [] e = omega arith
  few_enums (t ∷ rest) e = subst (λ (us : List ExternTokenData). length (enums_in (t ∷ us)) ≤ 1) (sym (one_block t rest e)) (by t.enum_token)
    where
      by : (o : Option EnumTokenData) → length (option_to_list o ++ []) ≤ 1
      by None = omega arith
      by (Some u) = omega arith

  enabled_are : expanded.enums (enabled_grammar fs g) ≡ map (enabled_enum fs) (enums_in (externs_of g.items))
  enabled_are = enabled_enums fs g.items ∙ ap (map (enabled_enum fs)) (enums_of_externs g.items)

  one_enum : length (expanded.enums (enabled_grammar fs g)) ≤ 1
  one_enum =
      let mapped : length (map (enabled_enum fs) (enums_in (externs_of g.items))) ≡ length (enums_in (externs_of g.items)) = length-map (enums_in (externs_of g.items)) (enabled_enum fs) in
      let few = few_enums (externs_of g.items) refl in
      subst (λ (es : List EnumTokenData). length es ≤ 1) (sym enabled_are) (omega (mapped, few, arith))

  enum_free : (t : ExternTokenData) → In t (externs_of g.items) → (u : EnumTokenData) → t.enum_token ≡ Some u → enum_faults (Some u) ≡ []
  enum_free t i u e = subst (λ o. enum_faults o ≡ []) e (extern_free g t (each_free (extern_item t) (extern_listed g.items t i))).1

  no_error_converted : In Error (expanded.converted (enabled_grammar fs g)) → ⊥
  no_error_converted i =
      let (e, j, k) = of_flat (λ (x : EnumTokenData). terminals_converted x.conversions) Error (expanded.enums (enabled_grammar fs g)) i in
      let (u, l, same) = of_map (enabled_enum fs) e (enums_in (externs_of g.items)) (subst (λ (es : List EnumTokenData). In e es) enabled_are j) in
      let (t, m, n) = of_flat (λ (x : ExternTokenData). option_to_list x.enum_token) u (externs_of g.items) l in
      let (cv, o, is) = of_map (λ (x : ConversionData). x.from) Error e.conversions k in
      let kept = (in_filtered (λ (x : ConversionData). is_active fs x.attributes) u.conversions cv (subst (λ (y : EnumTokenData). In cv y.conversions) same o)).0 in
      let free = none_made conversion_faults u.conversions (both_empty (fault_if (holds_symbol u.type_name) _) _ (enum_free t m u (listed t.enum_token u n))).1 cv kept in
      not_error cv.span cv.from (conversion_free cv free).0 (sym is)
    where
      listed : (o : Option EnumTokenData) (u : EnumTokenData) → In u (option_to_list o) → o ≡ Some u
      listed None u i = absurd i
      listed (Some x) u (inl e) = ap Some (sym e)
      listed (Some x) u (inr i) = absurd i

  -- ---- match blocks

  matches_are : expanded.match_blocks (enabled_grammar fs g) ≡ flat_map match_in g.items
  matches_are = enabled_matches fs g.items

  interns_are : expanded.interns (enabled_grammar fs g) ≡ []
  interns_are = enabled_interns fs g.items ∙ no_intern g false false g.items items_free

  no_error_mapped : In Error (expanded.mapped_terminals (enabled_grammar fs g)) → ⊥
  no_error_mapped i =
      elim (in_cases Error (flat_map (λ (m : MatchTokenData). user_names (group_entries m.contents)) (expanded.match_blocks (enabled_grammar fs g)))
      (flat_map (λ (t : InternTokenData). user_names t.match_entries) (expanded.interns (enabled_grammar fs g))) i) [
        | inl j ↦ (let (m, k, l) = of_flat (λ (x : MatchTokenData). user_names (group_entries x.contents)) Error (expanded.match_blocks (enabled_grammar fs g)) j in
            let listed = match_listed g.items m (subst (λ (ms : List MatchTokenData). In m ms) matches_are k) in
            block_named m (match_free g m (each_free (match_item m) listed)).1 l)
        | inr j ↦ subst (λ (ts : List InternTokenData). In Error (flat_map (λ (t : InternTokenData). user_names t.match_entries) ts)) interns_are j
      ]

  -- beside an enum there is no match block
  enum_span_some : (t : ExternTokenData) (u : EnumTokenData) → t.enum_token ≡ Some u → enum_span (Some t) ≡ Some t.span
  enum_span_some t u e = ap (λ (o : Option EnumTokenData). if is_some o then Some t.span else None) e

  no_block : (ts : List ExternTokenData) → externs_of g.items ≡ ts → 0 < length (enums_in ts) → (ms : List MatchTokenData) → flat_map match_in g.items ≡ ms → ms ≡ []
  no_block ts e some [] is = refl
  no_block [] e some (m ∷ ms) is = absurd (omega (some, arith))
  no_block (t ∷ rest) e some (m ∷ ms) is =
      let listed = match_listed g.items m (subst (λ (xs : List MatchTokenData). In m xs) (sym is) (inl refl)) in
      let none : enum_span (first_of extern_token_of g.items) ≡ None = (match_free g m (each_free (match_item m) listed)).0 in
      let here : enum_span (Some t) ≡ None = subst (λ (o : Option ExternTokenData). enum_span o ≡ None) (first_extern_is g.items t rest e) none in
      absurd (by t.enum_token refl here (subst (λ (us : List ExternTokenData). 0 < length (enums_in (t ∷ us))) (one_block t rest e) some))
    where
      by : (o : Option EnumTokenData) → t.enum_token ≡ o → enum_span (Some t) ≡ None → 0 < length (option_to_list t.enum_token ++ []) → ⊥
      by None is here some = (let few : 0 < 0 = subst (λ (x : Option EnumTokenData). 0 < length (option_to_list x ++ [])) is some in omega (few, arith))
      by (Some u) is here some = cc (here, enum_span_some t u is)

  enum_alone : 0 < length (expanded.enums (enabled_grammar fs g)) → expanded.match_blocks (enabled_grammar fs g) ≡ []
  enum_alone some =
      let mapped : length (map (enabled_enum fs) (enums_in (externs_of g.items))) ≡ length (enums_in (externs_of g.items)) = length-map (enums_in (externs_of g.items)) (enabled_enum fs) in
      let more : 0 < length (map (enabled_enum fs) (enums_in (externs_of g.items))) = subst (λ (es : List EnumTokenData). 0 < length es) enabled_are some in
      matches_are ∙ no_block (externs_of g.items) refl (omega (mapped, more, arith)) (flat_map match_in g.items) refl

  -- ---- types

  bare_types : (t : TypeData) → In t (types_beside_rules (enabled_grammar fs g)) → holds_symbol t ≡ false
  bare_types t i =
      elim (in_cases t (map (λ (p : ParameterData). p.type) g.parameters ++ flat_map types_in_clause g.where_clauses) (flat_map types_in_extern (flat_map (enabled_item fs) g.items)) i) [
        | inl j ↦ elim (in_cases t (map (λ (p : ParameterData). p.type) g.parameters) (flat_map types_in_clause g.where_clauses) j) [
          | inl k ↦ parameters_bare g.span g.parameters (both_empty (flat_map (parameter_faults g.span) g.parameters) _ behind_attributes).0 t k
          | inr k ↦ clauses_bare g.span g.where_clauses (both_empty (flat_map (clause_faults g.span) g.where_clauses) _ behind_parameters).0 t k
        ]
        | inr j ↦ externs_bare fs g.items (λ x k. extern_free g x (each_free (extern_item x) k)) t j
      ]

  -- the tokens of the enabled grammar are as before the pass on tokens
  pub enabled_tokens : HasTokens (enabled_grammar fs g)
  enabled_tokens = record {
    one_enum = one_enum;
    one_match = subst (λ (ms : List MatchTokenData). length ms ≤ 1) (sym matches_are) (one_match g false g.items items_free);
    no_intern = interns_are;
    enum_alone = enum_alone;
    no_error_converted = no_error_converted;
    no_error_mapped = no_error_mapped;
    bare_types = bare_types;
    known = attributes_known g.attributes (both_empty (unknown_grammar_faults g.attributes) _ f).0;
  }

  -- ---- rules

  written_fit : AreFitRules IsPlainTerminal g
  written_fit r i =
      let free = rule_free g r (each_free (rule_item r) (rule_item_of g r i)) in
      record {
        bare_type = none_declared r.type_decl free.0;
        over = λ a j. parts_over g a.parts (symbols_free g a (none_made (alternative_faults (surroundings_of g)) r.alternatives free.1 a j));
      }

  -- the rules of the enabled grammar fit
  pub enabled_fit : AreFitRules IsPlainTerminal (enabled_grammar fs g)
  enabled_fit = enabled_rules_fit fs IsPlainTerminal g written_fit
