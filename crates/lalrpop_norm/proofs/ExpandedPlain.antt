-- The expanded grammar satisfies `IsExpanded`.
use Rattle.std.proofs.Common.{◌≡◌, ◌⊎◌, inl, inr, ℕ, ◌≤◌, true, not, List, [], length, map, None, sym, subst, arith}
use Rattle.std.specs.Prelude.{flat_map}
use Rattle.lalrpop_norm_tree_names.specs.declared.names.TerminalString.{TerminalString}
use Rattle.lalrpop_norm_tree.specs.Symbols.{Kind, Part}
use Rattle.lalrpop_norm_tree.specs.Items.{AlternativeData, RuleData, GrammarData}
use Rattle.lalrpop_norm_theory.specs.Rounds.{In, IsDistinct}
use Rattle.lalrpop_norm_theory.proofs.RoundsLemmas.{in_cases, in_flat, of_flat}
use Rattle.lalrpop_norm_model.specs.Grammars.{is_nil, ConditionValue}
use Rattle.lalrpop_norm_model.specs.MadeRules.{made_rules}
use Rattle.lalrpop_norm_model.specs.PlainRules.{all_met, met_in_rule, met_by_made, all_rules, rules_without_arguments, macros_of, same_apart_from_spans, made_symbols, made_in, replaced_alternative, replaced_rule, plain_grammar, IsEnded}
use Rattle.lalrpop_norm_model.specs.PlainTables.{IsSettled}
use Rattle.lalrpop_norm_model.specs.TypeRelation.{IsRule}
use Rattle.lalrpop_norm_model.specs.Expanded.{is_plain_terminal, is_plain_kind, are_plain, names_in_kind, names_in_parts, declared_symbols, rule_names, names_used_by, names_used, interns, IsExpanded}
use Rattle.lalrpop_norm_model.proofs.LevelLemmas.{of_map}
use Rattle.lalrpop_norm_model.proofs.InferenceLemmas.{in_filtered}
use Rattle.lalrpop_norm_model.proofs.FaithfulLemmas.{plain_grammars_hold_plain_rules}
use Rattle.lalrpop_norm.proofs.ExpandedParts.{IsReady, AreReady, parts_plain}
use Rattle.lalrpop_norm.proofs.ExpandedSymbols.{Covered, parts_named, made_settled}
use Rattle.lalrpop_norm.proofs.ExpandedRounds.{made_within, written_named, start_covered, made_covered, inside_covered}
use Rattle.lalrpop_norm.proofs.ExpandedScopes.{IsOver, AreOver, all_met_over, from_all, part_ready, parts_ready, alternative_ready}
use Rattle.lalrpop_norm.proofs.ExpandedInstances.{IsFitMade, made_fit}
use Rattle.lalrpop_norm_model.proofs.RoundReadLemmas.{made_symbols_are_scoped, made_rules_scoped}
use Rattle.lalrpop_norm.proofs.ExpandedTokens.{HasTokens, plain_tokens}

-- ---- the grammar

-- What the expansion needs of a grammar: its names are resolved, only macros have conditions, no symbol occurs in a declared
-- type, its terminals are among those of P, and its tokens are as before the pass on tokens.
pub record IsPrepared (P : TerminalString → Type 0) (g : GrammarData) : Type 0 where
  pub settled : IsSettled g
  pub no_conditions : (d : RuleData) → In d (rules_without_arguments g) → (a : AlternativeData) → In a d.alternatives → a.condition ≡ None
  pub over : (d : RuleData) → In d (all_rules g) → (a : AlternativeData) → In a d.alternatives → AreOver P a.parts
  pub bare_types : (d : RuleData) → In d (all_rules g) → declared_symbols d ≡ []
  pub tokens : HasTokens g

-- where a list is empty
none_of : {A : Type 0} (xs : List A) (x : A) → xs ≡ [] → In x xs → ⊥
none_of xs x e i = subst (λ ys. In x ys) e i

module _ (P : TerminalString → Type 0) (plain : (t : TerminalString) → P t → is_plain_terminal t ≡ true)
    (value : ConditionValue) (g : GrammarData) (h : IsPrepared P g) (n : ℕ) (whole : IsEnded value g n) where
  abbrev p : GrammarData
  p = plain_grammar value g n

  abbrev Named : List ℕ → Type 0
  Named m = In m (rule_names (plain_grammar value g n))

  from_written : (d : RuleData) → In d (rules_without_arguments g) → In d (all_rules g)
  from_written d i = (from_all g d i).0

  from_macros : (d : RuleData) → In d (macros_of g) → In d (all_rules g)
  from_macros d i = (in_filtered (λ (r : RuleData). not (is_nil r.args)) (all_rules g) d i).0

  named : (r : RuleData) → In r (rules_without_arguments g) → Named r.name.0
  named r i = written_named value g h.settled n whole r i

  written_ready : (d : RuleData) → In d (rules_without_arguments g) → (a : AlternativeData) → In a d.alternatives → AreReady P Named a.parts
  written_ready d i a j = alternative_ready g h.settled P Named named d i a j (h.over d (from_written d i) a j)

  -- what rules reach has its terminals among those of P
  met_by_rules : (ds : List RuleData) → ((d : RuleData) → In d ds → (a : AlternativeData) → In a d.alternatives → AreOver P a.parts) →
      (q : Part) → In q (flat_map met_in_rule ds) → IsOver P q
  met_by_rules ds f q i =
      let (d, j, k) = of_flat met_in_rule q ds i in
      let (a, l, m) = of_flat (λ (x : AlternativeData). all_met x.parts) q d.alternatives k in
      all_met_over P a.parts (f d j a l) q m

  made_rule_fit : (q : Part) → IsOver P q → (d : RuleData) → In d (made_rules value (macros_of g) q) → IsFitMade P d
  made_rule_fit = made_fit P value (macros_of g) (λ d i. h.over d (from_macros d i))

  made_symbol_over : (q : Part) → In q (made_symbols value g n) → IsOver P q
  made_symbol_over =
      made_within same_apart_from_spans (met_by_made value (macros_of g)) (flat_map met_in_rule (rules_without_arguments g)) (IsOver P)
      (met_by_rules (rules_without_arguments g) (λ d i. h.over d (from_written d i)))
      (λ x o q i. met_by_rules (made_rules value (macros_of g) x) (λ d j a k. ((made_rule_fit x o d j).1 a k).1) q i) n

  made_symbol_ready : (q : Part) → In q (made_symbols value g n) → IsReady P Named q
  made_symbol_ready q i = part_ready g h.settled P Named named q (made_symbols_are_scoped value g h.settled n q i).0 (made_symbol_over q i)

  -- where a generated rule comes from
  made_from : (d : RuleData) → In d (made_in value g n) → (q : Part) × In q (made_symbols value g n) × In d (made_rules value (macros_of g) q)
  made_from d i = of_flat (made_rules value (macros_of g)) d (made_symbols value g n) i

  -- ---- rules one by one

  -- a rule of the expanded grammar is made of a written one, or of the one that a symbol gets
  abbrev From : RuleData → Type 0
  From r =
      ((d : RuleData) × In d (rules_without_arguments g) × (r ≡ replaced_rule d))
      ⊎ ((q : Part) × In q (made_symbols value g n) × ((d : RuleData) × In d (made_rules value (macros_of g) q) × (r ≡ replaced_rule d)))

  from : (r : RuleData) → IsRule p r → From r
  from r i =
      elim (in_cases r (map replaced_rule (rules_without_arguments g)) (map replaced_rule (made_in value g n))
      (subst (λ (rs : List RuleData). In r rs) (plain_grammars_hold_plain_rules value g n) i)) [
        | inl j ↦ inl (of_map replaced_rule r (rules_without_arguments g) j)
        | inr j ↦
            let (d, k, e) = of_map replaced_rule r (made_in value g n) j in
            let (q, l, m) = made_from d k in
            inr (q, l, (d, m, e))
      ]

  -- what holds of a written rule and of a made one, once replaced, holds of each
  by_cases : (Q : RuleData → Type 0) → ((d : RuleData) → In d (rules_without_arguments g) → Q (replaced_rule d)) →
      ((q : Part) → In q (made_symbols value g n) → (d : RuleData) → In d (made_rules value (macros_of g) q) → Q (replaced_rule d)) →
      (r : RuleData) → IsRule p r → Q r
  by_cases Q f e r i = elim (from r i) [
    | inl w ↦ subst Q (sym w.2) (f w.0 w.1)
    | inr m ↦ subst Q (sym m.2.2) (e m.0 m.1 m.2.0 m.2.1)
  ]

  -- what holds of the alternatives of a rule before they are replaced
  alternatives_by : (d : RuleData) (Q : AlternativeData → Type 0) → ((a : AlternativeData) → In a d.alternatives → Q (replaced_alternative a)) →
      (a : AlternativeData) → In a (replaced_rule d).alternatives → Q a
  alternatives_by d Q f a i = let (b, j, e) = of_map replaced_alternative a d.alternatives i in subst Q (sym e) (f b j)

  each_alternative : (Q : AlternativeData → Type 0) →
      ((d : RuleData) → In d (rules_without_arguments g) → (a : AlternativeData) → In a d.alternatives → Q (replaced_alternative a)) →
      ((q : Part) → In q (made_symbols value g n) → (d : RuleData) → In d (made_rules value (macros_of g) q) → (a : AlternativeData) → In a d.alternatives → Q (replaced_alternative a)) →
      (r : RuleData) → IsRule p r → (a : AlternativeData) → In a r.alternatives → Q a
  each_alternative Q f e =
      by_cases (λ r. (a : AlternativeData) → In a r.alternatives → Q a)
      (λ d i. alternatives_by d Q (f d i)) (λ q i d j. alternatives_by d Q (e q i d j))

  made_alternative_ready : (q : Part) → In q (made_symbols value g n) → (d : RuleData) → In d (made_rules value (macros_of g) q) →
      (a : AlternativeData) → In a d.alternatives → AreReady P Named a.parts
  made_alternative_ready q i d j a k =
      parts_ready g h.settled P Named named a.parts (made_rules_scoped value g h.settled n q i d j a k) ((made_rule_fit q (made_symbol_over q i) d j).1 a k).1

  no_arguments : (r : RuleData) → IsRule p r → r.args ≡ []
  no_arguments = by_cases (λ r. r.args ≡ []) (λ d i. (from_all g d i).1) (λ q i d j. (made_rule_fit q (made_symbol_over q i) d j).0)

  no_conditions : (r : RuleData) → IsRule p r → (a : AlternativeData) → In a r.alternatives → a.condition ≡ None
  no_conditions =
      each_alternative (λ a. a.condition ≡ None) h.no_conditions (λ q i d j a k. ((made_rule_fit q (made_symbol_over q i) d j).1 a k).0)

  plain_symbols : (r : RuleData) → IsRule p r → (a : AlternativeData) → In a r.alternatives → are_plain a.parts ≡ true
  plain_symbols =
      each_alternative (λ a. are_plain a.parts ≡ true)
      (λ d i a j. parts_plain P Named plain a.parts (written_ready d i a j))
      (λ q i d j a k. parts_plain P Named plain a.parts (made_alternative_ready q i d j a k))

  -- ---- names

  written_covered : (d : RuleData) → In d (rules_without_arguments g) → (a : AlternativeData) → In a d.alternatives → Covered P plain (rule_names p) (all_met a.parts)
  written_covered d i a j q k =
      start_covered value g h.settled n whole q
      (in_flat met_in_rule q d (rules_without_arguments g) i (in_flat (λ (x : AlternativeData). all_met x.parts) q a d.alternatives j k))

  rule_covered : (q : Part) → In q (made_symbols value g n) → (d : RuleData) → In d (made_rules value (macros_of g) q) →
      (a : AlternativeData) → In a d.alternatives → Covered P plain (rule_names p) (all_met a.parts)
  rule_covered q i d j a k x l =
      made_covered value g h.settled n whole q i x
      (in_flat met_in_rule x d (made_rules value (macros_of g) q) j (in_flat (λ (y : AlternativeData). all_met y.parts) x a d.alternatives k l))

  names_named : (r : RuleData) → IsRule p r → (a : AlternativeData) → In a r.alternatives → (m : List ℕ) → In m (names_in_parts a.parts) → Named m
  names_named =
      each_alternative (λ a. (m : List ℕ) → In m (names_in_parts a.parts) → Named m)
      (λ d i a j. parts_named P plain (rule_names p) a.parts (written_ready d i a j) (written_covered d i a j))
      (λ q i d j a k. parts_named P plain (rule_names p) a.parts (made_alternative_ready q i d j a k) (rule_covered q i d j a k))

  -- the symbols in declared types are plain, and their names have rules
  types_settled : (r : RuleData) → IsRule p r → (k : Kind) → In k (declared_symbols r) →
      (is_plain_kind k ≡ true) × ((m : List ℕ) → In m (names_in_kind k) → Named m)
  types_settled =
      by_cases (λ r. (k : Kind) → In k (declared_symbols r) → (is_plain_kind k ≡ true) × ((m : List ℕ) → In m (names_in_kind k) → Named m))
      (λ d i k j. absurd (none_of (declared_symbols d) k (h.bare_types d (from_written d i)) j))
      (λ q i d j. made_settled P plain (rule_names p) value (macros_of g) (λ e k. h.bare_types e (from_macros e k)) q (made_symbol_ready q i)
      (inside_covered value g h.settled n whole q i) d j)

  name_used : (m : List ℕ) → In m (names_used p) → Named m
  name_used m i =
      let (r, j, k) = of_flat names_used_by m (all_rules p) i in
      elim (in_cases m (flat_map (λ (a : AlternativeData). names_in_parts a.parts) r.alternatives) (flat_map names_in_kind (declared_symbols r)) k) [
        | inl l ↦ (let (a, x, y) = of_flat (λ (a : AlternativeData). names_in_parts a.parts) m r.alternatives l in names_named r j a x m y)
        | inr l ↦ (let (s, x, y) = of_flat names_in_kind m (declared_symbols r) l in (types_settled r j s x).1 m y)
      ]

  -- ---- tokens

  pub tokens : HasTokens (plain_grammar value g n)
  tokens = plain_tokens value g n h.tokens

  at_most_one : {A : Type 0} (xs : List A) → xs ≡ [] → length xs ≤ 1
  at_most_one xs e = subst (λ ys. length ys ≤ 1) (sym e) (omega arith)

  -- The expanded grammar satisfies `IsExpanded`, where its names are distinct.
  pub plain_expanded : IsDistinct (rule_names (plain_grammar value g n)) → IsExpanded (plain_grammar value g n)
  plain_expanded distinct = record {
    no_macros = no_arguments;
    no_conditions = λ a i. no_conditions i.0 i.1 a i.2;
    plain_symbols = λ a i. plain_symbols i.0 i.1 a i.2;
    distinct_names = distinct;
    names_have_rules = name_used;
    no_error_converted = tokens.no_error_converted;
    no_error_mapped = tokens.no_error_mapped;
    one_enum = tokens.one_enum;
    one_match = tokens.one_match;
    one_intern = at_most_one (interns p) tokens.no_intern;
    enum_without_match = tokens.enum_alone;
    enum_without_intern = λ some. tokens.no_intern;
    symbols_declared_only = tokens.bare_types;
    plain_in_types = λ r k i j. (types_settled r i k j).0;
    known_attributes = tokens.known;
  }
