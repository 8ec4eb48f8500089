-- Each nonterminal of the lowered grammar that has productions is that of a known symbol, or a start symbol over one.
use Rattle.std.proofs.Common.{◌≡◌, inl, inr, ℕ, Bool, true, false, List, [], ◌∷◌, ◌++◌, map, refl, sym, ap, ◌∙◌}
use Rattle.std.specs.Prelude.{◌⊎◌, Option, Some, None, option_map, unwrap_or, bytes_eq, if◌then◌else◌}
use Rattle.lalrpop_norm_tree_names.specs.declared.names.NonterminalString.{NonterminalString}
use Rattle.lalrpop_norm_tree.specs.Items.{RuleData}
use Rattle.lalrpop_norm_theory.specs.Symbols.{Name, ClosedSymbol, terminal, error, reference, wrapped}
use Rattle.lalrpop_norm_theory.specs.LoweredTrees.{Origin}
use Rattle.lalrpop_norm_theory.specs.Rounds.{In}
use Rattle.lalrpop_norm_theory.specs.Met.{BecomesRule, IsKnown}
use Rattle.lalrpop_norm_theory.proofs.RoundsLemmas.{in_cases}
use Rattle.lalrpop_norm_theory.proofs.SameLemmas.{text_sound}
use Rattle.lalrpop_norm_model.proofs.LevelLemmas.{of_map}
use Rattle.lalrpop_norm_repr.specs.Lowered.{LoweredGrammar}
use Rattle.lalrpop_norm_repr.specs.Productions.{EntryData}
use Rattle.lalrpop_norm_repr.specs.Tables.{found}
use Rattle.lalrpop_norm_lower.specs.Lowering.{public_rules_in, start_name}
use Rattle.lalrpop_norm_lower.specs.Shape.{OwnedAlternative, alternatives_in_order, start_entry_of, rule_entry_of}
use Rattle.lalrpop_norm_explain.specs.Derivations.{derivations, traced}
use Rattle.lalrpop_norm_explain.specs.TreeFaults.{has_productions, is_any}
use Rattle.lalrpop_norm_explain.specs.Anywhere.{IsNonterminalOf}

-- a rule that is made has its symbol's name, and the symbol is known
pub made_known : (name : ClosedSymbol → Name) (declared met : List ClosedSymbol) (s : ClosedSymbol) → BecomesRule s → In s met →
    IsKnown declared met s × IsNonterminalOf name s (name s)
made_known name declared met (terminal a) b i = absurd b
made_known name declared met error b i = absurd b
made_known name declared met (reference n c) b i = absurd b
made_known name declared met (wrapped w g) b i = absurd b
made_known name declared met _ b i = (i, refl)

-- what is found is a row of that name
row_found : {V : Type 0} (n : Name) (rows : List (NonterminalString × V)) (v : V) → found (record { 0 = n }) rows ≡ Some v →
    (row : NonterminalString × V) × In row rows × (n ≡ row.0.0)
row_found n [] v e = absurd (cc e)
row_found {V} n (r ∷ rows) v e = by (bytes_eq n r.0.0) refl e (row_found n rows v)
  where
    by : (b : Bool) → bytes_eq n r.0.0 ≡ b → (if b then Some r.1 else found (record { 0 = n }) rows) ≡ Some v →
        (found (record { 0 = n }) rows ≡ Some v → (row : NonterminalString × V) × In row rows × (n ≡ row.0.0)) →
        (row : NonterminalString × V) × In row (r ∷ rows) × (n ≡ row.0.0)
    by true e f rest = (r, inl refl, text_sound n r.0.0 e)
    by false e f rest = let w = rest f in (w.0, inr w.1, w.2)

-- what is not found has no productions
none_any : (origins : List Origin) (o : Option EntryData) →
    is_any (map (traced origins) (unwrap_or (option_map (λ (n : EntryData). n.productions) o) [])) ≡ true → (v : EntryData) × (o ≡ Some v)
none_any origins None h = absurd (cc h)
none_any origins (Some v) h = (v, refl)

module _ (prefix : List ℕ) (cs : List OwnedAlternative) (rules : List RuleData) (n : Name) where
  abbrev IsStartOrRule : Type 0
  IsStartOrRule = ((r : RuleData) × In r (public_rules_in rules) × (n ≡ (start_name prefix r.name).0)) ⊎ ((r : RuleData) × In r rules × (n ≡ r.name.0))

  row_of : (row : NonterminalString × EntryData) → In row (map (start_entry_of prefix cs) (public_rules_in rules) ++ map (rule_entry_of cs) rules) →
      n ≡ row.0.0 → IsStartOrRule
  row_of row i e = elim (in_cases row (map (start_entry_of prefix cs) (public_rules_in rules)) (map (rule_entry_of cs) rules) i) [
    | inl j ↦ (let w = of_map (start_entry_of prefix cs) row (public_rules_in rules) j in inl (w.0, w.1, e ∙ ap (λ (x : NonterminalString × EntryData). x.0.0) w.2))
    | inr j ↦ (let w = of_map (rule_entry_of cs) row rules j in inr (w.0, w.1, e ∙ ap (λ (x : NonterminalString × EntryData). x.0.0) w.2))
  ]

module _ (prefix : List ℕ) (rules : List RuleData) (l : LoweredGrammar) (origins : List Origin) (n : Name)
    (holds : found (record { 0 = n }) l.nonterminals
    ≡ found (record { 0 = n }) (map (start_entry_of prefix (alternatives_in_order prefix rules)) (public_rules_in rules) ++ map (rule_entry_of (alternatives_in_order prefix rules)) rules)) where
  -- a name that has productions is a start symbol or a rule
  pub start_or_rule : has_productions (derivations origins l) n ≡ true → IsStartOrRule prefix (alternatives_in_order prefix rules) rules n
  start_or_rule h =
      let cs = alternatives_in_order prefix rules in
      let rows = map (start_entry_of prefix cs) (public_rules_in rules) ++ map (rule_entry_of cs) rules in
      let v = none_any origins (found (record { 0 = n }) l.nonterminals) h in
      let w = row_found n rows v.0 (sym holds ∙ v.1) in
      row_of prefix cs rules n w.0 w.1 w.2
