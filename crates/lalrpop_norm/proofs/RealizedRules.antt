-- Rules that are the rules of the symbols of a whole expansion: a lowered grammar that has them realizes these symbols.
use Rattle.std.proofs.Common.{◌≡◌, inl, inr, List, ◌++◌, map, sym, ap, ◌∙◌, subst}
use Rattle.lalrpop_norm_tree.specs.Items.{RuleData}
use Rattle.lalrpop_norm_theory.specs.Symbols.{Name, ClosedSymbol, terminal, error, reference, wrapped}
use Rattle.lalrpop_norm_theory.specs.Meaning.{Meaning}
use Rattle.lalrpop_norm_theory.specs.LoweredTrees.{Origin, ProductionTable}
use Rattle.lalrpop_norm_theory.specs.Clauses.{IsNonterminal}
use Rattle.lalrpop_norm_theory.specs.Rounds.{In}
use Rattle.lalrpop_norm_theory.specs.Met.{IsKnown}
use Rattle.lalrpop_norm_theory.specs.Tables.{Realizes, Stands, table, rule_of_symbol}
use Rattle.lalrpop_norm_theory.proofs.RoundsLemmas.{in_left, in_right, in_cases}
use Rattle.lalrpop_norm_theory.proofs.TableLemmas.{rules_realize}
use Rattle.lalrpop_norm_model.specs.PlainTables.{rules_from}
use Rattle.lalrpop_norm_model.proofs.LevelLemmas.{in_map, of_map}

module _ (M : Meaning) (name : ClosedSymbol → Name) (roots references met : List ClosedSymbol) (stands : Stands M name roots references met)
    (rules : List RuleData) (origins : List Origin) (named : map (λ (r : RuleData). r.name.0) rules ≡ map name (references ++ met))
    (same : rules_from origins rules ≡ map (rule_of_symbol M name) (references ++ met)) where
  -- ---- each known symbol has a rule

  abbrev HasRule : ClosedSymbol → Type 0
  HasRule s = (r : RuleData) × In r rules × (r.name.0 ≡ name s)

  symbol_rule : (s : ClosedSymbol) → In s (references ++ met) → HasRule s
  symbol_rule s i =
      let (r, j, e) = of_map (λ (r : RuleData). r.name.0) (name s) rules
      (subst (λ (ns : List Name). In (name s) ns) (sym named) (in_map name s (references ++ met) i)) in
      (r, j, sym e)

  reference_rule : (s : ClosedSymbol) → In s (roots ++ references) → HasRule s
  reference_rule s i = elim (in_cases s roots references i) [
    | inl j ↦ (let (h, k, same_name, alike) = stands.shared s j in
        let (r, p, e) = symbol_rule h (in_left h references met k) in (r, p, e ∙ sym same_name))
    | inr j ↦ symbol_rule s (in_left s references met j)
  ]

  known_rule : (s : ClosedSymbol) → IsNonterminal s → IsKnown (roots ++ references) met s → HasRule s
  known_rule (terminal a) h k = absurd h
  known_rule error h k = absurd h
  known_rule (wrapped w s) h k = absurd h
  known_rule (reference m b) h k = reference_rule (reference m b) k
  known_rule s h k = symbol_rule s (in_right s references met k)

  -- ---- a lowered grammar that has the rules

  module _ (P : ProductionTable) (held : (r : RuleData) → In r rules → P r.name.0 ≡ table (rules_from origins rules) r.name.0) where
    realized : Realizes M name (table (map (rule_of_symbol M name) (references ++ met))) (IsKnown (roots ++ references) met)
    realized = rules_realize M name roots references met stands

    pub realizes : Realizes M name P (IsKnown (roots ++ references) met)
    realizes = record {
      productions = λ s h k.
          (let (r, i, e) = known_rule s h k in subst (λ (m : Name). P m ≡ table (rules_from origins rules) m) e (held r i))
          ∙ ap (λ rs. table rs (name s)) same
          ∙ realized.productions s h k;
      inner = realized.inner;
      parts_known = realized.parts_known;
    }
