-- Start symbols: what is counted along them, by their rules.
use Rattle.std.proofs.Common.{◌≡◌, ◌∙◌, ℕ, ◌+◌, Bool, List, [], ◌∷◌, ◌++◌, refl, sym, ap, map, drop, get_or}
use Rattle.lalrpop_norm_tree_names.specs.declared.names.NonterminalString.{NonterminalString}
use Rattle.lalrpop_norm_tree_parts.specs.Reprs.{ReprData}
use Rattle.lalrpop_norm_tree.specs.Items.{RuleData}
use Rattle.lalrpop_norm_faults.specs.Faults.{Fault, fault_if}
use Rattle.lalrpop_norm_faults.specs.declared.kind.FaultKind.TheVariants.{StartTaken}
use Rattle.lalrpop_norm_model.specs.LoweringFaults.{start_faults, action_number_faults}
use Rattle.lalrpop_norm_repr.specs.Tables.{TypeTable}
use Rattle.lalrpop_norm_lower.specs.declared.starts.Start.{Start}
use Rattle.lalrpop_norm_lower.specs.Lowering.{EntryRow, production_of, rule_type, start_name, start_names, start_alternative, start_entry, start_entry_with, start_rows}
use Rattle.lalrpop_norm_lower.specs.Made.{types_by_name, made_starts_faults}
use Rattle.lalrpop_norm_lower.specs.Starts.{start_rule, start_named, start_taken, start_typed, has_start, faults_of_starts, rows_of_starts}
use Rattle.lalrpop_norm_lower.specs.StartTypes.{start_types}

first_same : {A : Type 0} (x y : A) (xs ys : List A) → x ∷ xs ≡ y ∷ ys → x ≡ y
first_same x y xs ys h = ap (λ zs. get_or zs 0 x) h

rest_same : {A : Type 0} (x y : A) (xs ys : List A) → x ∷ xs ≡ y ∷ ys → xs ≡ ys
rest_same x y xs ys h = ap (drop 1) h

-- ---- of start symbols whose rules are as they are listed

faults_along : (prefix : List ℕ) (types : TypeTable) (k : ℕ) (ss : List Start) → map start_taken ss ≡ map (has_start prefix types) (map start_rule ss) → faults_of_starts k ss ≡ made_starts_faults prefix types k (map start_rule ss)
faults_along prefix types k [] h = refl
faults_along prefix types k (s ∷ ss) h =
    ap (λ (b : Bool). fault_if b (StartTaken, s.rule.now.span) ++ action_number_faults k s.rule.now.span ++ faults_of_starts (k + 1) ss) (first_same (start_taken s) (has_start prefix types (start_rule s)) (map start_taken ss) (map (has_start prefix types) (map start_rule ss)) h)
    ∙ ap (λ (fs : List Fault). start_faults prefix (types_by_name types) (start_rule s) ++ action_number_faults k s.rule.now.span ++ fs)
    (faults_along prefix types (k + 1) ss (rest_same (start_taken s) (has_start prefix types (start_rule s)) (map start_taken ss) (map (has_start prefix types) (map start_rule ss)) h))

name_same : (prefix : List ℕ) (s : Start) (ss : List Start) → map start_named (s ∷ ss) ≡ start_names prefix (map start_rule (s ∷ ss)) → s.name ≡ start_name prefix s.rule.now.name
name_same prefix s ss h = ap (λ (p : NonterminalString × NonterminalString). p.1) (first_same (start_named s) (s.rule.now.name, start_name prefix s.rule.now.name) (map start_named ss) (start_names prefix (map start_rule ss)) h)

names_behind : (prefix : List ℕ) (s : Start) (ss : List Start) → map start_named (s ∷ ss) ≡ start_names prefix (map start_rule (s ∷ ss)) → map start_named ss ≡ start_names prefix (map start_rule ss)
names_behind prefix s ss h = rest_same (start_named s) (s.rule.now.name, start_name prefix s.rule.now.name) (map start_named ss) (start_names prefix (map start_rule ss)) h

rows_along : (prefix : List ℕ) (k : ℕ) (ss : List Start) → map start_named ss ≡ start_names prefix (map start_rule ss) → rows_of_starts k ss ≡ start_rows prefix k (map start_rule ss)
rows_along prefix k [] h = refl
rows_along prefix k (s ∷ ss) h =
    ap (λ (n : NonterminalString). (n, start_entry_with (start_rule s) (production_of n k (start_alternative (start_rule s)))) ∷ rows_of_starts (k + 1) ss) (name_same prefix s ss h)
    ∙ ap (λ (rows : List EntryRow). (start_name prefix s.rule.now.name, start_entry prefix k (start_rule s)) ∷ rows) (rows_along prefix (k + 1) ss (names_behind prefix s ss h))

types_along : (prefix : List ℕ) (types : TypeTable) (ss : List Start) → map start_named ss ≡ start_names prefix (map start_rule ss) → map (start_typed types) ss ≡ start_types prefix types (map start_rule ss)
types_along prefix types [] h = refl
types_along prefix types (s ∷ ss) h =
    ap (λ (n : NonterminalString). (n, rule_type types (start_rule s)) ∷ map (start_typed types) ss) (name_same prefix s ss h)
    ∙ ap (λ (rows : List (NonterminalString × ReprData)). (start_name prefix s.rule.now.name, rule_type types (start_rule s)) ∷ rows) (types_along prefix types ss (names_behind prefix s ss h))

-- ---- of start symbols of these rules

module _ (rs : List RuleData) (ss : List Start) (rules : map start_rule ss ≡ rs) where
  pub faults_counted : (prefix : List ℕ) (types : TypeTable) (k : ℕ) → map start_taken ss ≡ map (has_start prefix types) rs → faults_of_starts k ss ≡ made_starts_faults prefix types k rs
  faults_counted prefix types k h = faults_along prefix types k ss (h ∙ ap (map (has_start prefix types)) (sym rules)) ∙ ap (made_starts_faults prefix types k) rules

  pub rows_counted : (prefix : List ℕ) (k : ℕ) → map start_named ss ≡ start_names prefix rs → rows_of_starts k ss ≡ start_rows prefix k rs
  rows_counted prefix k h = rows_along prefix k ss (h ∙ ap (start_names prefix) (sym rules)) ∙ ap (start_rows prefix k) rules

  pub types_counted : (prefix : List ℕ) (types : TypeTable) → map start_named ss ≡ start_names prefix rs → map (start_typed types) ss ≡ start_types prefix types rs
  types_counted prefix types h = types_along prefix types ss (h ∙ ap (start_names prefix) (sym rules)) ∙ ap (start_types prefix types) rules
