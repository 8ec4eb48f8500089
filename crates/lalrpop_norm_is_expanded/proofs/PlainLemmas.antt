-- Rules of the expanded grammar and their names, seen by the lists of symbols, types and names.
use Rattle.std.proofs.Common.{◌≡◌, ◌∙◌, ℕ, Bool, true, false, ◌&&◌, not, List, [], ◌∷◌, Option, Some, None, map, bytes_eq, inl, inr, refl, sym, ap, ap₂}
use Rattle.std.specs.Prelude.{option_to_list}
use Rattle.std.specs.List.{flat_map, list_all}
use Rattle.std.proofs.Math.Bool.{and-true}
use Rattle.std.proofs.lemmas.List.Folds.{list_all-append}
use Rattle.std.proofs.lemmas.Slice.Eq.{bytes_eq-Decides}
use Rattle.lalrpop_norm_tree.specs.Items.{RuleData, ItemData, match_item, extern_item, intern_item, rule_item, use_item}
use Rattle.lalrpop_norm_tree_names.specs.declared.names.Span.{Span}
use Rattle.lalrpop_norm_tree.specs.Accessors.{selected_of, binding_of, is_grammar_symbol}
use Rattle.lalrpop_norm_tree.specs.declared.symbol.Symbol.{Symbol}
use Rattle.lalrpop_norm_tree.specs.Symbols.{Kind, Part, Parts, ArgumentPattern, one_name, several, terminal, nonterminal, chosen, named, tupled, error_terminal, at, no_parts, part_and, kind_view, symbol_view}
use Rattle.lalrpop_norm_tree.proofs.SymbolViews.{seen_at}
use Rattle.lalrpop_norm_tree.specs.Types.{TypeData, TypesData, MaybeType, tuple, slice, nominal, reference, trait_object}
use Rattle.lalrpop_norm_tree.specs.Types.{of_lifetime, id, of_symbol, function, no_types, type_and, no_type, returns}
use Rattle.lalrpop_norm_theory.specs.Rounds.{In, IsDistinct}
use Rattle.lalrpop_norm_theory.proofs.BoolLemmas.{both_true, not_true, true_not, both_hold, or_cases, or_left, or_right}
use Rattle.lalrpop_norm_model.specs.PlainRules.{rule_of_item}
use Rattle.lalrpop_norm_tree.specs.Traversal.{unwrapped, unwrapped_kind, wrapped_kind, wrapped_part}
use Rattle.lalrpop_norm_model.specs.Expanded.{is_plain_terminal, is_plain_leaf, any_name, is_plain_kind, is_plain, are_plain, leaf_names, names_in_kind, names_in, names_in_parts, symbols_in, symbols_in_all, symbols_in_return}
use Rattle.lalrpop_norm_is_expanded.specs.Plain.{is_rule_there, is_no_name_twice, is_usable_kind, is_usable, are_usable, is_usable_in, are_usable_in, is_usable_return, is_usable_declared, is_usable_rule, is_usable_item}
use Rattle.lalrpop_norm_theory.proofs.ListTests.{all_flat, all_same, crossed}

-- ---- names of rules

abbrev pub names_of : List ItemData → List (List ℕ)
names_of items = map (λ (r : RuleData). r.name.0) (flat_map rule_of_item items)

pub has_named : (items : List ItemData) (n : List ℕ) → is_rule_there items n ≡ true → In n (names_of items)
has_named [] n e = absurd cc
has_named (rule_item r ∷ items) n e = elim (or_cases (bytes_eq r.name.0 n) (is_rule_there items n) e) [
  | inl s ↦ inl (sym ((bytes_eq-Decides r.name.0 n).0 s))
  | inr s ↦ inr (has_named items n s)
]
has_named (match_item m ∷ items) n e = has_named items n e
has_named (extern_item t ∷ items) n e = has_named items n e
has_named (intern_item t ∷ items) n e = has_named items n e
has_named (use_item s ∷ items) n e = has_named items n e

pub named_has : (items : List ItemData) (n : List ℕ) → In n (names_of items) → is_rule_there items n ≡ true
named_has [] n i = absurd i
named_has (rule_item r ∷ items) n (inl e) = or_left (bytes_eq r.name.0 n) (is_rule_there items n) ((bytes_eq-Decides r.name.0 n).1 (sym e))
named_has (rule_item r ∷ items) n (inr i) = or_right (bytes_eq r.name.0 n) (is_rule_there items n) (named_has items n i)
named_has (match_item m ∷ items) n i = named_has items n i
named_has (extern_item t ∷ items) n i = named_has items n i
named_has (intern_item t ∷ items) n i = named_has items n i
named_has (use_item s ∷ items) n i = named_has items n i

pub once_distinct : (items : List ItemData) → is_no_name_twice items ≡ true → IsDistinct (names_of items)
once_distinct [] e = tt
once_distinct (rule_item r ∷ items) e =
    let (first, rest) = both_true (not (is_rule_there items r.name.0)) (is_no_name_twice items) e in
    (λ i. not_true (is_rule_there items r.name.0) first (named_has items r.name.0 i), once_distinct items rest)
once_distinct (match_item m ∷ items) e = once_distinct items e
once_distinct (extern_item t ∷ items) e = once_distinct items e
once_distinct (intern_item t ∷ items) e = once_distinct items e
once_distinct (use_item s ∷ items) e = once_distinct items e

pub distinct_once : (items : List ItemData) → IsDistinct (names_of items) → is_no_name_twice items ≡ true
distinct_once [] d = refl
distinct_once (rule_item r ∷ items) d =
    both_hold (not (is_rule_there items r.name.0)) (is_no_name_twice items) (true_not (is_rule_there items r.name.0) (λ e. d.0 (has_named items r.name.0 e))) (distinct_once items d.1)
distinct_once (match_item m ∷ items) d = distinct_once items d
distinct_once (extern_item t ∷ items) d = distinct_once items d
distinct_once (intern_item t ∷ items) d = distinct_once items d
distinct_once (use_item s ∷ items) d = distinct_once items d

-- ---- symbols

-- what `Symbol::unwrapped` answers is the symbol under wrappers
mutual
  part_unwrapped : (p : Part) (s : Span) (k : Kind) → at s k ≡ unwrapped p → wrapped_part p ≡ k
  part_unwrapped (at t j) s k e = kind_unwrapped t j s k e

  kind_unwrapped : (t : Span) (j : Kind) (s : Span) (k : Kind) → at s k ≡ unwrapped_kind t j → wrapped_kind j ≡ k
  kind_unwrapped t (chosen p) s k e = part_unwrapped p s k e
  kind_unwrapped t (named n p) s k e = part_unwrapped p s k e
  kind_unwrapped t (tupled ns p) s k e = part_unwrapped p s k e
  kind_unwrapped t j s k e = cc e

pub usable_unwrapped : (all : List ItemData) (x y : Symbol) → symbol_view y ≡ unwrapped (symbol_view x) →
    is_plain_leaf (is_rule_there all) (kind_view y.kind) ≡ is_usable all (symbol_view x)
usable_unwrapped all x y e =
    sym (ap (is_plain_leaf (is_rule_there all)) (part_unwrapped (symbol_view x) y.span (kind_view y.kind) (sym (seen_at y) ∙ e)))

pub usable_chosen : (all : List ItemData) (k : Kind) (p : Part) → Some p ≡ selected_of k → is_usable all p ≡ is_usable_kind all k
usable_chosen all (chosen q) p e = let same : p ≡ q = cc e in ap (is_usable all) same
usable_chosen all _ p e = absurd (cc e)

pub usable_bound : (all : List ItemData) (k : Kind) (b : ArgumentPattern) (p : Part) → Some (b, p) ≡ binding_of k → is_usable all p ≡ is_usable_kind all k
usable_bound all (named n q) b p e = let same : (b, p) ≡ (one_name n, q) = cc e in ap (λ (x : ArgumentPattern × Part). is_usable all x.1) same
usable_bound all (tupled ns q) b p e = let same : (b, p) ≡ (several ns, q) = cc e in ap (λ (x : ArgumentPattern × Part). is_usable all x.1) same
usable_bound all _ b p e = absurd (cc e)

pub usable_bare : (all : List ItemData) (k : Kind) → None ≡ selected_of k → None ≡ binding_of k → is_plain_leaf (is_rule_there all) k ≡ is_usable_kind all k
usable_bare all (chosen p) e f = absurd (cc e)
usable_bare all (named n p) e f = absurd (cc f)
usable_bare all (tupled ns p) e f = absurd (cc f)
usable_bare all _ e f = refl

pub no_leaf : (test : List ℕ → Bool) (k : Kind) → is_grammar_symbol k ≡ false → is_plain_leaf test k ≡ false
no_leaf test (terminal t) e = absurd (cc e)
no_leaf test (nonterminal n) e = absurd (cc e)
no_leaf test error_terminal e = absurd (cc e)
no_leaf test _ e = refl

-- the test of names is of the names in it
leaf_usable : (test : List ℕ → Bool) (k : Kind) → is_plain_leaf test k ≡ (is_plain_leaf any_name k && list_all test (leaf_names k))
leaf_usable test (terminal t) = sym (and-true (is_plain_terminal t))
leaf_usable test (nonterminal n) = sym (and-true (test n))
leaf_usable test error_terminal = refl
leaf_usable test _ = refl

pub kind_usable : (all : List ItemData) (k : Kind) → is_usable_kind all k ≡ (is_plain_kind k && list_all (is_rule_there all) (names_in_kind k))
kind_usable all k = leaf_usable (is_rule_there all) (wrapped_kind k)

pub parts_usable : (all : List ItemData) (ps : Parts) → are_usable all ps ≡ (are_plain ps && list_all (is_rule_there all) (names_in_parts ps))
parts_usable all no_parts = refl
parts_usable all (part_and p ps) =
    ap₂ (λ a b. a && b) (leaf_usable (is_rule_there all) (wrapped_part p)) (parts_usable all ps)
    ∙ (crossed (is_plain p) (list_all (is_rule_there all) (names_in p)) (are_plain ps) (list_all (is_rule_there all) (names_in_parts ps))
    ∙ ap (λ b. (is_plain p && are_plain ps) && b) (sym (list_all-append (is_rule_there all) (names_in p) (names_in_parts ps))))

-- ---- types

mutual
  type_usable : (all : List ItemData) (t : TypeData) → is_usable_in all t ≡ list_all (is_usable_kind all) (symbols_in t)
  type_usable all (of_symbol k) = sym (and-true (is_usable_kind all k))
  type_usable all (tuple ts) = types_usable all ts
  type_usable all (slice t) = type_usable all t
  type_usable all (nominal p ts) = types_usable all ts
  type_usable all (reference l m t) = type_usable all t
  type_usable all (trait_object p ts) = types_usable all ts
  type_usable all (of_lifetime l) = refl
  type_usable all (id a) = refl
  type_usable all (function fs p ts r) =
      ap₂ (λ a b. a && b) (types_usable all ts) (return_usable all r) ∙ sym (list_all-append (is_usable_kind all) (symbols_in_all ts) (symbols_in_return r))

  types_usable : (all : List ItemData) (ts : TypesData) → are_usable_in all ts ≡ list_all (is_usable_kind all) (symbols_in_all ts)
  types_usable all no_types = refl
  types_usable all (type_and t ts) =
      ap₂ (λ a b. a && b) (type_usable all t) (types_usable all ts) ∙ sym (list_all-append (is_usable_kind all) (symbols_in t) (symbols_in_all ts))

  return_usable : (all : List ItemData) (r : MaybeType) → is_usable_return all r ≡ list_all (is_usable_kind all) (symbols_in_return r)
  return_usable all no_type = refl
  return_usable all (returns t) = type_usable all t

pub declared_usable : (all : List ItemData) (o : Option TypeData) → is_usable_declared all o ≡ list_all (is_usable_kind all) (flat_map symbols_in (option_to_list o))
declared_usable all None = refl
declared_usable all (Some t) =
    type_usable all t ∙ (sym (and-true (list_all (is_usable_kind all) (symbols_in t))) ∙ sym (list_all-append (is_usable_kind all) (symbols_in t) []))

-- ---- rules

item_usable : (all : List ItemData) (i : ItemData) → is_usable_item all i ≡ list_all (is_usable_rule all) (rule_of_item i)
item_usable all (rule_item r) = sym (and-true (is_usable_rule all r))
item_usable all (match_item m) = refl
item_usable all (extern_item t) = refl
item_usable all (intern_item t) = refl
item_usable all (use_item s) = refl

pub rules_usable : (all items : List ItemData) → list_all (is_usable_item all) items ≡ list_all (is_usable_rule all) (flat_map rule_of_item items)
rules_usable all items =
    all_same (is_usable_item all) (λ i. list_all (is_usable_rule all) (rule_of_item i)) (item_usable all) items ∙ sym (all_flat (is_usable_rule all) rule_of_item items)
