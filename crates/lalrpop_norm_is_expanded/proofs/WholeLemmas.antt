-- The tests together say that a grammar is expanded.
use Rattle.std.proofs.Common.{◌≡◌, ◌∙◌, ℕ, Bool, true, ◌&&◌, List, [], ◌∷◌, Option, Some, None, inl, inr, refl, sym, ap}
use Rattle.std.specs.Prelude.{is_none}
use Rattle.std.specs.List.{flat_map, list_all}
use Rattle.lalrpop_norm_tree.specs.Items.{AlternativeData, RuleData, GrammarData}
use Rattle.lalrpop_norm_tree.specs.declared.items.Condition.{Condition}
use Rattle.lalrpop_norm_tree.specs.Symbols.{Kind}
use Rattle.lalrpop_norm_theory.specs.Rounds.{In}
use Rattle.lalrpop_norm_theory.proofs.BoolLemmas.{both_true, both_hold}
use Rattle.lalrpop_norm_theory.proofs.RoundsLemmas.{in_left, in_right, in_cases, in_flat, of_flat}
use Rattle.lalrpop_norm_model.specs.Grammars.{is_nil}
use Rattle.lalrpop_norm_model.specs.PlainRules.{all_rules}
use Rattle.lalrpop_norm_model.specs.TypeRelation.{IsRule}
use Rattle.lalrpop_norm_model.specs.Expanded.{is_plain_kind, are_plain, names_in_kind, names_in_parts, declared_symbols, rule_names, names_used_by, names_used, converted, mapped_terminals, types_beside_rules, is_plain_terminal, all_known, IsExpanded}
use Rattle.lalrpop_norm_is_expanded.specs.Plain.{is_rule_there, is_no_name_twice, is_usable_kind, are_usable, is_usable_declared, is_usable_alternative, is_usable_rule, is_usable_item}
use Rattle.lalrpop_norm_is_expanded.specs.Tokens.{AreSourcesApart, item_spares_error}
use Rattle.lalrpop_norm_is_expanded.specs.Types.{lacks_symbol, is_free_of_symbols}
use Rattle.lalrpop_norm_is_expanded.specs.Whole.{are_parts_plain}
use Rattle.lalrpop_norm_theory.proofs.ListTests.{all_at, all_if}
use Rattle.lalrpop_norm_is_expanded.proofs.PlainLemmas.{has_named, named_has, once_distinct, distinct_once, kind_usable, parts_usable, declared_usable, rules_usable}
use Rattle.lalrpop_norm_is_expanded.proofs.TokenLemmas.{spared_listed, plain_lacks, lacks_plain}
use Rattle.lalrpop_norm_is_expanded.proofs.TypeLemmas.{free_listed, lacks_is, is_lacks}

nil_is : {A : Type 0} (xs : List A) → is_nil xs ≡ true → xs ≡ []
nil_is [] e = refl
nil_is (x ∷ xs) e = absurd cc

none_is : (o : Option Condition) → is_none o ≡ true → o ≡ None
none_is None e = refl
none_is (Some c) e = absurd cc

-- ---- a rule that passes

-- what is so of a rule that passes
record PlainRule (g : GrammarData) (r : RuleData) : Type 0 where
  no_args : is_nil r.args ≡ true
  declared : (k : Kind) → In k (declared_symbols r) → is_usable_kind g.items k ≡ true
  unconditional : (a : AlternativeData) → In a r.alternatives → is_none a.condition ≡ true
  usable : (a : AlternativeData) → In a r.alternatives → are_usable g.items a.parts ≡ true

rule_is : (g : GrammarData) (r : RuleData) → is_usable_rule g.items r ≡ true → PlainRule g r
rule_is g r e =
    let (args, rest) = both_true (is_nil r.args) (is_usable_declared g.items r.type_decl && list_all (is_usable_alternative g.items) r.alternatives) e in
    let (types, alternatives) = both_true (is_usable_declared g.items r.type_decl) (list_all (is_usable_alternative g.items) r.alternatives) rest in
    record {
      no_args = args;
      declared = all_at (is_usable_kind g.items) (declared_symbols r) (sym (declared_usable g.items r.type_decl) ∙ types);
      unconditional = λ a i. (both_true (is_none a.condition) (are_usable g.items a.parts) (all_at (is_usable_alternative g.items) r.alternatives alternatives a i)).0;
      usable = λ a i. (both_true (is_none a.condition) (are_usable g.items a.parts) (all_at (is_usable_alternative g.items) r.alternatives alternatives a i)).1;
    }

is_rule : (g : GrammarData) (r : RuleData) → PlainRule g r → is_usable_rule g.items r ≡ true
is_rule g r p =
    both_hold (is_nil r.args) (is_usable_declared g.items r.type_decl && list_all (is_usable_alternative g.items) r.alternatives) p.no_args
    (both_hold (is_usable_declared g.items r.type_decl) (list_all (is_usable_alternative g.items) r.alternatives)
    (declared_usable g.items r.type_decl ∙ all_if (is_usable_kind g.items) (declared_symbols r) p.declared)
    (all_if (is_usable_alternative g.items) r.alternatives (λ a i. both_hold (is_none a.condition) (are_usable g.items a.parts) (p.unconditional a i) (p.usable a i))))

-- ---- symbols that pass

kind_is : (g : GrammarData) (k : Kind) → is_usable_kind g.items k ≡ true → (is_plain_kind k ≡ true) × (list_all (is_rule_there g.items) (names_in_kind k) ≡ true)
kind_is g k e = both_true (is_plain_kind k) (list_all (is_rule_there g.items) (names_in_kind k)) (sym (kind_usable g.items k) ∙ e)

parts_are : (g : GrammarData) (a : AlternativeData) → are_usable g.items a.parts ≡ true → (are_plain a.parts ≡ true) × (list_all (is_rule_there g.items) (names_in_parts a.parts) ≡ true)
parts_are g a e = both_true (are_plain a.parts) (list_all (is_rule_there g.items) (names_in_parts a.parts)) (sym (parts_usable g.items a.parts) ∙ e)

abbrev in_parts : AlternativeData → List (List ℕ)
in_parts a = names_in_parts a.parts

name_has_rule : (g : GrammarData) → ((r : RuleData) → IsRule g r → PlainRule g r) → (n : List ℕ) → In n (names_used g) → In n (rule_names g)
name_has_rule g rules n i =
    let (r, j, k) = of_flat names_used_by n (all_rules g) i in
    has_named g.items n (elim (in_cases n (flat_map in_parts r.alternatives) (flat_map names_in_kind (declared_symbols r)) k) [
      | inl m ↦ (let (a, l, x) = of_flat in_parts n r.alternatives m in
          all_at (is_rule_there g.items) (names_in_parts a.parts) (parts_are g a ((rules r j).usable a l)).1 n x)
      | inr m ↦ (let (s, l, x) = of_flat names_in_kind n (declared_symbols r) m in
          all_at (is_rule_there g.items) (names_in_kind s) (kind_is g s ((rules r j).declared s l)).1 n x)
    ])

-- ---- both_hold ways

abbrev plain_rules : GrammarData → Bool
plain_rules g = list_all (is_usable_item g.items) g.items

abbrev spared : GrammarData → Bool
spared g = list_all item_spares_error g.items

abbrev after_names : GrammarData → Bool
after_names g = spared g && (is_free_of_symbols g && all_known g.attributes)

abbrev plain_converted : GrammarData → Bool
plain_converted g = list_all is_plain_terminal (converted g)

abbrev plain_mapped : GrammarData → Bool
plain_mapped g = list_all is_plain_terminal (mapped_terminals g)

pub expanded_if : (g : GrammarData) → AreSourcesApart g.items → are_parts_plain g ≡ true → IsExpanded g
expanded_if g apart e =
    let (plain, named) = both_true (plain_rules g) (is_no_name_twice g.items && after_names g) e in
    let (once, after) = both_true (is_no_name_twice g.items) (after_names g) named in
    let (spares, rest) = both_true (spared g) (is_free_of_symbols g && all_known g.attributes) after in
    let (free, known) = both_true (is_free_of_symbols g) (all_known g.attributes) rest in
    let usable = sym (rules_usable g.items g.items) ∙ plain in
    let rules : (r : RuleData) → IsRule g r → PlainRule g r = λ r i. rule_is g r (all_at (is_usable_rule g.items) (all_rules g) usable r i) in
    let (converts, maps) = both_true (plain_converted g) (plain_mapped g) (sym (spared_listed g) ∙ spares) in
    let lacking = sym (free_listed g) ∙ free in
    record {
      no_macros = λ r i. nil_is r.args (rules r i).no_args;
      no_conditions = λ a w. none_is a.condition ((rules w.0 w.1).unconditional a w.2);
      plain_symbols = λ a w. (parts_are g a ((rules w.0 w.1).usable a w.2)).0;
      distinct_names = once_distinct g.items once;
      names_have_rules = name_has_rule g rules;
      no_error_converted = plain_lacks (converted g) converts;
      no_error_mapped = plain_lacks (mapped_terminals g) maps;
      one_enum = apart.one_enum;
      one_match = apart.one_match;
      one_intern = apart.one_intern;
      enum_without_match = apart.enum_without_match;
      enum_without_intern = apart.enum_without_intern;
      symbols_declared_only = λ t i. lacks_is t (all_at lacks_symbol (types_beside_rules g) lacking t i);
      plain_in_types = λ r k i j. (kind_is g k ((rules r i).declared k j)).0;
      known_attributes = known;
    }

pub sources_of : (g : GrammarData) → IsExpanded g → AreSourcesApart g.items
sources_of g x = record {
  one_enum = x.one_enum;
  one_match = x.one_match;
  one_intern = x.one_intern;
  enum_without_match = x.enum_without_match;
  enum_without_intern = x.enum_without_intern;
}

used_has : (g : GrammarData) → IsExpanded g → (n : List ℕ) → In n (names_used g) → is_rule_there g.items n ≡ true
used_has g x n i = named_has g.items n (x.names_have_rules n i)

rule_of : (g : GrammarData) → IsExpanded g → (r : RuleData) → IsRule g r → PlainRule g r
rule_of g x r i = record {
  no_args = ap (λ xs. is_nil xs) (x.no_macros r i);
  declared = λ k j. kind_usable g.items k ∙ both_hold (is_plain_kind k) (list_all (is_rule_there g.items) (names_in_kind k)) (x.plain_in_types r k i j)
      (all_if (is_rule_there g.items) (names_in_kind k) (λ n l. used_has g x n (in_flat names_used_by n r (all_rules g) i
      (in_right n (flat_map in_parts r.alternatives) (flat_map names_in_kind (declared_symbols r)) (in_flat names_in_kind n k (declared_symbols r) j l)))));
  unconditional = λ a j. ap (λ o. is_none o) (x.no_conditions a (r, i, j));
  usable = λ a j. parts_usable g.items a.parts ∙ both_hold (are_plain a.parts) (list_all (is_rule_there g.items) (names_in_parts a.parts)) (x.plain_symbols a (r, i, j))
      (all_if (is_rule_there g.items) (names_in_parts a.parts) (λ n l. used_has g x n (in_flat names_used_by n r (all_rules g) i
      (in_left n (flat_map in_parts r.alternatives) (flat_map names_in_kind (declared_symbols r)) (in_flat in_parts n a r.alternatives j l)))));
}

pub plain_of : (g : GrammarData) → IsExpanded g → are_parts_plain g ≡ true
plain_of g x =
    let rules : plain_rules g ≡ true = rules_usable g.items g.items ∙ all_if (is_usable_rule g.items) (all_rules g) (λ r i. is_rule g r (rule_of g x r i)) in
    let names : is_no_name_twice g.items ≡ true = distinct_once g.items x.distinct_names in
    let spares : spared g ≡ true =
    spared_listed g ∙ both_hold (plain_converted g) (plain_mapped g) (lacks_plain (converted g) x.no_error_converted) (lacks_plain (mapped_terminals g) x.no_error_mapped) in
    let free : is_free_of_symbols g ≡ true =
    free_listed g ∙ all_if lacks_symbol (types_beside_rules g) (λ t i. is_lacks t (x.symbols_declared_only t i)) in
    both_hold (plain_rules g) (is_no_name_twice g.items && after_names g) rules
    (both_hold (is_no_name_twice g.items) (after_names g) names
    (both_hold (spared g) (is_free_of_symbols g && all_known g.attributes) spares
    (both_hold (is_free_of_symbols g) (all_known g.attributes) free x.known_attributes)))
