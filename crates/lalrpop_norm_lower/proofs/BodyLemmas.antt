-- The actions that are made, against what is asked of them.
use Rattle.std.proofs.Common.{◌≡◌, ℕ, List, [], ◌∷◌, ◌++◌, map, Option, Some, None, refl, sym, ap, subst}
use Rattle.std.specs.Prelude.{flat_map}
use Rattle.std.specs.List.{AllByRecursion, AllZip}
use Rattle.lalrpop_norm_tree_names.specs.declared.names.NonterminalString.{NonterminalString}
use Rattle.lalrpop_norm_tree.specs.Items.{Action, user_code, fallible_code, lookahead_code, lookbehind_code, AlternativeData, RuleData}
use Rattle.lalrpop_norm_tree_parts.specs.Reprs.{ReprData}
use Rattle.lalrpop_norm_model.specs.LoweringFaults.{code_faults}
use Rattle.lalrpop_norm_model.specs.MadeRules.{some_name_value}
use Rattle.lalrpop_norm_repr.specs.Actions.{user}
use Rattle.lalrpop_norm_repr.specs.Tables.{TypeTable, type_of}
use Rattle.lalrpop_norm_lower.specs.Arguments.{part_list, names, IsFilled}
use Rattle.lalrpop_norm_lower_steps.specs.Code.{written_code}
use Rattle.lalrpop_norm_lower.specs.Lowering.{start_name, start_alternative, lowered_symbols, type_or_unit, rule_type}
use Rattle.lalrpop_norm_lower.specs.Made.{user_body, body, made_action, made_starts, made_actions}
use Rattle.lalrpop_norm_lower.specs.Naming.{source_names}
use Rattle.lalrpop_norm_lower.specs.Shape.{start_clause, rule_clauses, IsCodeOf, IsKindOf, IsActionOf}
use Rattle.lalrpop_norm_lower_steps.specs.Slots.{filled_code}
use Rattle.lalrpop_norm_lower.proofs.ActionLemmas.{HasTypes, IsStartReady, zip_types, zip_append}
use Rattle.lalrpop_norm_lower.proofs.ArgumentLemmas.{named_listed, patterns_counted, names_counted}
use Rattle.lalrpop_norm_lower_steps.proofs.SlotLemmas.{is_filled}
use Rattle.lalrpop_norm_lower.proofs.SourceLemmas.{enough}

-- what is asked of an alternative
pub record IsSound (types new : TypeTable) (a : AlternativeData) : Type 0 where
  pub counted : code_faults a ≡ []
  pub typed : HasTypes types new (lowered_symbols a.parts)

code_made : (prefix : List ℕ) (types new : TypeTable) (type : ReprData) (a : AlternativeData) → IsSound types new a → IsCodeOf prefix new type a (user_body prefix types type a)
code_made prefix types new type a sound =
    let ns : List (List ℕ) = source_names prefix a.parts in
    let code : List ℕ = filled_code (some_name_value a.parts) (source_names prefix a.parts) (written_code type (source_names prefix a.parts) a.action) in
    let is : IsFilled (some_name_value a.parts) (source_names prefix a.parts) (written_code type (source_names prefix a.parts) a.action) (filled_code (some_name_value a.parts) (source_names prefix a.parts) (written_code type (source_names prefix a.parts) a.action)) =
    is_filled (some_name_value a.parts) (source_names prefix a.parts) (written_code type (source_names prefix a.parts) a.action) (enough prefix type ns a sound.counted) in
    record {
      argument_types = map (type_or_unit types) (lowered_symbols a.parts);
      code = filled_code (some_name_value a.parts) (source_names prefix a.parts) (written_code type (source_names prefix a.parts) a.action);
      is = ap (λ ps. user ps (map (type_or_unit types) (lowered_symbols a.parts)) code) (patterns_counted prefix a.parts);
      typed = zip_types types new (lowered_symbols a.parts) sound.typed;
      filled = subst (λ b. IsFilled b (names prefix (part_list a.parts)) (written_code type (names prefix (part_list a.parts)) a.action) code) (sym (named_listed a.parts))
          (subst (λ (ms : List (List ℕ)). IsFilled (some_name_value a.parts) ms (written_code type ms a.action) code) (names_counted prefix a.parts) is);
    }

kind_made : (prefix : List ℕ) (types new : TypeTable) (type : ReprData) (a : AlternativeData) (o : Option Action) → IsCodeOf prefix new type a (user_body prefix types type a)
    → IsKindOf prefix new type a (body prefix types type a o) o
kind_made prefix types new type a None code = code
kind_made prefix types new type a (Some (user_code c)) code = code
kind_made prefix types new type a (Some (fallible_code c)) code = code
kind_made prefix types new type a (Some lookahead_code) code = refl
kind_made prefix types new type a (Some lookbehind_code) code = refl

action_made : (prefix : List ℕ) (types new : TypeTable) (type : ReprData) (n : NonterminalString) (a : AlternativeData) → type_of n new ≡ Some type → IsSound types new a → IsActionOf prefix new (n, a) (made_action prefix types type a)
action_made prefix types new type n a known sound = record {
  answers = known;
  fallible = refl;
  kind = kind_made prefix types new type a a.action (code_made prefix types new type a sound);
}

-- what is asked of a rule
pub record IsSoundRule (types new : TypeTable) (r : RuleData) : Type 0 where
  pub known : type_of r.name new ≡ Some (rule_type types r)
  pub alternatives : AllByRecursion (IsSound types new) r.alternatives

start_made : (prefix : List ℕ) (types new : TypeTable) (r : RuleData) → IsStartReady prefix types new r → IsActionOf prefix new (start_clause prefix r) (made_action prefix types (rule_type types r) (start_alternative r))
start_made prefix types new r h = action_made prefix types new (rule_type types r) (start_name prefix r.name) (start_alternative r) h.0 (record { counted = refl; typed = (h.1, tt) })

starts_made : (prefix : List ℕ) (types new : TypeTable) (rs : List RuleData) → AllByRecursion (IsStartReady prefix types new) rs → AllZip (IsActionOf prefix new) (map (start_clause prefix) rs) (made_starts prefix types rs)
starts_made prefix types new [] h = tt
starts_made prefix types new (r ∷ rs) h = (start_made prefix types new r h.0, starts_made prefix types new rs h.1)

module _ (prefix : List ℕ) (types new : TypeTable) (r : RuleData) (known : type_of r.name new ≡ Some (rule_type types r)) where
  alternatives_made : (alts : List AlternativeData) → AllByRecursion (IsSound types new) alts → AllZip (IsActionOf prefix new) (map (λ a. (r.name, a)) alts) (map (made_action prefix types (rule_type types r)) alts)
  alternatives_made [] h = tt
  alternatives_made (a ∷ alts) h = (action_made prefix types new (rule_type types r) r.name a known h.0, alternatives_made alts h.1)

rules_made : (prefix : List ℕ) (types new : TypeTable) (rs : List RuleData) → AllByRecursion (IsSoundRule types new) rs → AllZip (IsActionOf prefix new) (flat_map rule_clauses rs) (made_actions prefix types rs)
rules_made prefix types new [] h = tt
rules_made prefix types new (r ∷ rs) h =
    zip_append (IsActionOf prefix new) (rule_clauses r) (flat_map rule_clauses rs) (map (made_action prefix types (rule_type types r)) r.alternatives) (made_actions prefix types rs)
    (alternatives_made prefix types new r h.0.known r.alternatives h.0.alternatives) (rules_made prefix types new rs h.1)

-- each action in the list is that of its alternative
pub all_made : (prefix : List ℕ) (types new : TypeTable) (public rules : List RuleData) → AllByRecursion (IsStartReady prefix types new) public → AllByRecursion (IsSoundRule types new) rules
    → AllZip (IsActionOf prefix new) (map (start_clause prefix) public ++ flat_map rule_clauses rules) (made_starts prefix types public ++ made_actions prefix types rules)
all_made prefix types new public rules starts each =
    zip_append (IsActionOf prefix new) (map (start_clause prefix) public) (flat_map rule_clauses rules) (made_starts prefix types public) (made_actions prefix types rules)
    (starts_made prefix types new public starts) (rules_made prefix types new rules each)
