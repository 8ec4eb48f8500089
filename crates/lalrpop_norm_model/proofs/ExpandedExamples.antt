-- Small grammars that are expanded or typed, and some that are not.
use Rattle.std.proofs.Common.{◌≡◌, List, [], ◌∷◌, Some, None, IsSome, codes, true, false, inl, inr, refl, arith}
use Rattle.std.specs.List.{AllByRecursion}
use Rattle.lalrpop_norm_tree_names.specs.declared.names.TerminalString.TheVariants.{Error}
use Rattle.lalrpop_norm_tree.specs.declared.symbol.RepeatOp.TheVariants.{Plus}
use Rattle.lalrpop_norm_tree_parts.specs.Attributes.{Attributes, attribute, empty, equal, paren, no_attributes, attribute_and}
use Rattle.lalrpop_norm_tree.specs.Items.{AlternativeData, RuleData, GrammarData}
use Rattle.lalrpop_norm_tree.specs.Symbols.{terminal, nonterminal, chosen, named, repeated, error_terminal}
use Rattle.lalrpop_norm_tree.specs.Types.{of_symbol, slice}
use Rattle.lalrpop_norm_tree.specs.LoweredTypes.{holds_symbol}
use Rattle.lalrpop_norm_theory.specs.Rounds.{In}
use Rattle.lalrpop_norm_model.specs.Features.{Features}
use Rattle.lalrpop_norm_model.specs.PlainRules.{all_rules}
use Rattle.lalrpop_norm_model.specs.Terminals.{terminals_used}
use Rattle.lalrpop_norm_model.specs.Expanded.{IsExpanded, IsTyped, names_used, rule_names, is_plain_kind, are_plain, declared_symbols, types_beside_rules, terminals_of}
use Rattle.lalrpop_norm_model.specs.TypeRounds.{table_of}
use Rattle.lalrpop_norm_model.proofs.ListLemmas.{each_in, texts_differ}
use Rattle.lalrpop_norm_model.proofs.ExampleGrammars.{nowhere, quoted, a_part, plain, coded, a_rule, extern_tokens, converts, declares, tok_tokens, match_tokens, tok, of_rules}

-- what holds of each alternative of some rules, by one look at each
each_alternative : (P : AlternativeData → Type 0) (rs : List RuleData) → AllByRecursion (λ (r : RuleData). AllByRecursion P r.alternatives) rs →
    (a : AlternativeData) → ((r : RuleData) × In r rs × In a r.alternatives) → P a
each_alternative P rs h a (r, i, j) = each_in P r.alternatives (each_in (λ (q : RuleData). AllByRecursion P q.alternatives) rs h r i) a j

-- ---- `X = <Y> "a" !; Y: [Y] = y:"a" => ..;` is expanded

abbrev small : GrammarData
small = of_rules (tok_tokens (codes "a" ∷ []) ∷ [])
    (a_rule (codes "X") None (plain (chosen (a_part (nonterminal (codes "Y"))) ∷ terminal (quoted (codes "a")) ∷ error_terminal ∷ []) ∷ [])
    ∷ a_rule (codes "Y") (Some (slice (of_symbol (terminal (quoted (codes "a")))))) (coded (codes "y") (named (record { mutable = false; name = codes "y" }) (a_part (terminal (quoted (codes "a")))) ∷ []) ∷ []) ∷ [])

small_apart : In (codes "X") (codes "Y" ∷ []) → ⊥
small_apart (inl e) = texts_differ (codes "X") (codes "Y") refl e
small_apart (inr i) = i

small_is_expanded : IsExpanded small
small_is_expanded = record {
  no_macros = each_in (λ (r : RuleData). r.args ≡ []) (all_rules small) (refl, (refl, tt));
  no_conditions = each_alternative (λ a. a.condition ≡ None) (all_rules small) ((refl, tt), ((refl, tt), tt));
  plain_symbols = each_alternative (λ a. are_plain a.parts ≡ true) (all_rules small) ((refl, tt), ((refl, tt), tt));
  distinct_names = (small_apart, (λ i. i, tt));
  names_have_rules = each_in (λ n. In n (rule_names small)) (names_used small) (inr (inl refl), tt);
  no_error_converted = apart;
  no_error_mapped = λ i. i;
  one_enum = omega arith;
  one_match = omega arith;
  one_intern = omega arith;
  enum_without_match = λ h. refl;
  enum_without_intern = λ h. refl;
  symbols_declared_only = each_in (λ t. holds_symbol t ≡ false) (types_beside_rules small) (refl, tt);
  plain_in_types = λ r k i. each_in (λ (q : RuleData). In k (declared_symbols q) → is_plain_kind k ≡ true) (all_rules small)
      (λ j. absurd j, (each_in (λ j. is_plain_kind j ≡ true) (terminal (quoted (codes "a")) ∷ []) (refl, tt) k, tt)) r i;
  known_attributes = refl;
}
  where
    apart : In Error (quoted (codes "a") ∷ []) → ⊥
    apart (inl e) = cc
    apart (inr i) = i

-- ---- what is not expanded

-- a macro
macro_is_not : IsExpanded (of_rules [] (record (a_rule (codes "M") None []) { args = record { 0 = codes "T" } ∷ [] } ∷ [])) → ⊥
macro_is_not h = let none = h.no_macros _ (inl refl) in cc

-- `X = "a"+;`: a repeat
repeat_is_not : IsExpanded (of_rules [] (a_rule (codes "X") None (plain (repeated Plus (a_part (terminal (quoted (codes "a")))) ∷ []) ∷ []) ∷ [])) → ⊥
repeat_is_not h = let same = h.plain_symbols _ (_, inl refl, inl refl) in cc

-- the error terminal as a symbol, which is not `!`
error_is_not : IsExpanded (of_rules [] (a_rule (codes "X") None (plain (terminal Error ∷ []) ∷ []) ∷ [])) → ⊥
error_is_not h = let same = h.plain_symbols _ (_, inl refl, inl refl) in cc

-- two rules of one name
twice_is_not : IsExpanded (of_rules [] (a_rule (codes "X") None [] ∷ a_rule (codes "X") None [] ∷ [])) → ⊥
twice_is_not h = h.distinct_names.0 (inl refl)

-- a name without a rule, here in a declared type
nameless_is_not : IsExpanded (of_rules [] (a_rule (codes "X") (Some (of_symbol (nonterminal (codes "Y")))) [] ∷ [])) → ⊥
nameless_is_not h = apart (h.names_have_rules (codes "Y") (inl refl))
  where
    apart : In (codes "Y") (codes "X" ∷ []) → ⊥
    apart (inl e) = texts_differ (codes "Y") (codes "X") refl e
    apart (inr i) = i

-- an extern enum beside a match block
both_is_not : IsExpanded (of_rules (tok_tokens [] ∷ match_tokens [] ∷ []) []) → ⊥
both_is_not h = let none = h.enum_without_match (omega arith) in cc

-- a type of an extern block that holds a symbol
symbol_is_not : IsExpanded (of_rules (extern_tokens (declares (codes "Error") (of_symbol (nonterminal (codes "X"))) ∷ []) [] ∷ []) (a_rule (codes "X") None [] ∷ [])) → ⊥
symbol_is_not h = let same = h.symbols_declared_only _ (inl refl) in cc

-- a grammar attribute that is not known
attribute_is_not : IsExpanded (record (of_rules [] []) { attributes = attribute_and (attribute nowhere (codes "lalr") empty) no_attributes }) → ⊥
attribute_is_not h = let same = h.known_attributes in cc

-- ---- typed

abbrev if_f : Attributes
if_f = attribute_and (attribute nowhere (codes "cfg") (paren (attribute_and (attribute nowhere (codes "feature") (equal (codes "f"))) no_attributes))) no_attributes

-- `extern { enum Tok { #[cfg(feature = "f")] "a" => .. } } X = "a";`
abbrev switched : GrammarData
switched = of_rules (extern_tokens [] (record (converts (quoted (codes "a")) []) { attributes = if_f } ∷ []) ∷ []) (a_rule (codes "X") None (plain (terminal (quoted (codes "a")) ∷ []) ∷ []) ∷ [])

abbrev with_f : Features
with_f = Some (codes "f" ∷ [])

typed_with : IsTyped with_f switched (table_of ((codes "X", tok) ∷ []))
typed_with = record {
  rules_typed = each_in (λ (r : RuleData). IsSome (table_of ((codes "X", tok) ∷ []) r.name.0)) (all_rules switched) (refl, tt);
  distinct_terminals = (λ i. i, tt);
  terminals_listed = each_in (λ t. In t (terminals_of with_f switched)) (terminals_used switched) (inl refl, tt);
}

-- without the feature the terminal is not listed
not_typed_without : IsTyped None switched (table_of ((codes "X", tok) ∷ [])) → ⊥
not_typed_without h = h.terminals_listed _ (inl refl)

-- a rule that the table leaves out
not_typed_partly : IsTyped with_f switched (table_of []) → ⊥
not_typed_partly h = let same = h.rules_typed _ (inl refl) in cc
