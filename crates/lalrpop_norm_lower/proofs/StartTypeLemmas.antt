-- The types of rules and of start symbols.
use Rattle.std.proofs.Common.{◌≡◌, ◌∙◌, ℕ, Bool, true, false, cond, List, [], ◌∷◌, ◌++◌, map, Option, Some, None, refl, sym, ap, bytes_eq}
use Rattle.std.specs.Prelude.{IsSome, unwrap_or, option_and_then}
use Rattle.std.specs.List.{AllByRecursion}
use Rattle.std.specs.List.Sorted.{IsStrictlySortedBy}
use Rattle.std.specs.Map.{keys_of}
use Rattle.lalrpop_norm_tree_names.specs.declared.names.NonterminalString.{NonterminalString}
use Rattle.lalrpop_norm_tree.specs.Accessors.{or_else}
use Rattle.lalrpop_norm_tree.specs.Items.{RuleData}
use Rattle.lalrpop_norm_tree_parts.specs.Reprs.{ReprData, unit_type}
use Rattle.lalrpop_norm_repr.specs.Tables.{TypeTable, type_of, found}
use Rattle.lalrpop_norm_lower.specs.Lowering.{start_name, rule_type, public_rules_in}
use Rattle.lalrpop_norm_lower.specs.Shape.{name_cmp, rules_of_starts, HasStartTypes}
use Rattle.lalrpop_norm_lower.specs.StartTypes.{start_types, AddsTypes}

pub some_back : (o : Option ReprData) → IsSome o → o ≡ Some (unwrap_or o unit_type)
some_back None h = cc
some_back (Some t) h = refl

cond_seen : {A B : Type 0} (f : A → Option B) (b : Bool) (x : A) (o : Option A) (y : Option B) → y ≡ f x → cond b y (option_and_then f o) ≡ option_and_then f (cond b (Some x) o)
cond_seen f true x o y h = h
cond_seen f false x o y h = refl

abbrev pub AreTyped : TypeTable → List RuleData → Type 0
AreTyped types rs = AllByRecursion (λ r. type_of r.name types ≡ Some (rule_type types r)) rs

starts_found : (prefix : List ℕ) (types : TypeTable) (n : NonterminalString) (rs : List RuleData) → AreTyped types rs
    → found n (start_types prefix types rs) ≡ option_and_then (λ m. type_of m types) (found n (map (λ r. (start_name prefix r.name, r.name)) rs))
starts_found prefix types n [] h = refl
starts_found prefix types n (r ∷ rs) h =
    ap (λ o. cond (bytes_eq n.0 (prefix ++ r.name.0)) (Some (rule_type types r)) o) (starts_found prefix types n rs h.1)
    ∙ cond_seen (λ (m : NonterminalString). type_of m types) (bytes_eq n.0 (prefix ++ r.name.0)) r.name (found n (map {B = NonterminalString × NonterminalString} (λ s. (start_name prefix s.name, s.name)) rs)) (Some (rule_type types r)) (sym h.0)

pub start_types_added : (prefix : List ℕ) (rules : List RuleData) (types new : TypeTable) → AreTyped types (public_rules_in rules) → AddsTypes types new (start_types prefix types (public_rules_in rules)) → IsStrictlySortedBy name_cmp (keys_of new.nonterminals) → HasStartTypes prefix rules types new
start_types_added prefix rules types new typed added in_order = record {
  names = λ n. added.names n ∙ ap (or_else (type_of n types)) (starts_found prefix types n (public_rules_in rules) typed);
  in_order = in_order;
  rest = added.rest;
}

-- a name keeps its type
pub kept_type : (prefix : List ℕ) (rules : List RuleData) (types new : TypeTable) → HasStartTypes prefix rules types new → (n : NonterminalString) (t : ReprData) → type_of n types ≡ Some t → type_of n new ≡ Some t
kept_type prefix rules types new h n t e = h.names n ∙ ap (λ o. or_else o (option_and_then (λ m. type_of m types) (found n (rules_of_starts prefix rules)))) e
