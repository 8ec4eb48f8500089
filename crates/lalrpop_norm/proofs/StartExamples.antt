-- A public rule of two levels: both have start symbols, and that of the rule by itself does not lead to the lower level.
--   pub E = { #[precedence(level="1")] "n", #[precedence(level="2")] #[assoc(side="left")] E "+" E };
use Rattle.std.proofs.Common.{◌≡◌, ◌↔◌, inl, inr, ℕ, List, [], ◌∷◌, map, Some, None, refl, sym, ap, ◌∙◌}
use Rattle.std.specs.Prelude.{codes}
use Rattle.std.specs.Fmt.{digits}
use Rattle.lalrpop_norm_tree.specs.Items.{RuleData, GrammarData, everywhere}
use Rattle.lalrpop_norm_theory.specs.Symbols.{Name, Terminal, ClosedSymbol, reference}
use Rattle.lalrpop_norm_theory.specs.LoweredTrees.{LoweredSymbol, nonterminal_symbol, Production, from_start}
use Rattle.lalrpop_norm_theory.specs.Rounds.{In}
use Rattle.lalrpop_norm_repr.specs.Lowered.{LoweredGrammar}
use Rattle.lalrpop_norm_repr.specs.Tables.{found}
use Rattle.lalrpop_norm_lower.specs.Lowering.{public_rules_in, start_name}
use Rattle.lalrpop_norm_model.specs.Features.{Features}
use Rattle.lalrpop_norm_model.specs.WrittenRules.{written_rules}
use Rattle.lalrpop_norm_model.specs.PlainRules.{all_rules}
use Rattle.lalrpop_norm_model.proofs.ExampleWords.{nowhere, rule_name, precedence, assoc, literal, name, symbols, alternative, rule, rules_alone}
use Rattle.lalrpop_norm.specs.Words.{IsWrittenWord, IsWordOf}
use Rattle.lalrpop_norm.specs.Faithful.{written_meaning, written_symbols, written_name, traced_derivations, HasFaithfulTrees, grammar_with_levels, grammar_of_plain_rules}
use Rattle.lalrpop_norm.proofs.StartProductions.{start_written}
use Rattle.lalrpop_norm.proofs.TreesFaithful.{rule_symbol}

abbrev expression : RuleData
expression = record (rule nowhere (codes "E")
    (alternative nowhere (precedence (codes "1") ∷ []) (symbols (literal (codes "n") ∷ []))
    ∷ (alternative nowhere (precedence (codes "2") ∷ (assoc (codes "left") ∷ [])) (symbols (name (codes "E") ∷ (literal (codes "+") ∷ (name (codes "E") ∷ [])))) ∷ [])))
    { visibility = everywhere None }

abbrev grammar : GrammarData
grammar = rules_alone (expression ∷ [])

-- both rules of its grammar with levels are public
levels_are_public : (fs : Features) → map (λ (r : RuleData). r.name.0) (public_rules_in (all_rules (grammar_with_levels fs grammar))) ≡ codes "E1" ∷ (codes "E" ∷ [])
unfolding digits
levels_are_public fs = refl

abbrev first_name : List Production → Name
first_name (p ∷ ps) = by p.symbols
  where
    by : List LoweredSymbol → Name
    by (nonterminal_symbol n ∷ ss) = n
    by _ = []
first_name [] = []

module _ (fs : Features) (rounds : ℕ) (l : LoweredGrammar) (trees : HasFaithfulTrees fs grammar rounds l) where
  -- the lower level has a start symbol of its own
  lower_level_starts : found (rule_name (codes "E1")) l.start_nonterminals ≡ Some (rule_name (codes "__E1"))
  unfolding digits
  lower_level_starts = (trees.starts expression (inl refl) refl refl (reference (codes "E") (Some 1)) (inr (inl refl)) (Some 1, refl)).listed

  -- the start symbol of the rule does not lead to its lower level
  no_start_at_lower_level : traced_derivations fs grammar rounds l (codes "__E") ≡ record { origin = from_start; symbols = nonterminal_symbol (codes "E1") ∷ [] } ∷ [] → ⊥
  no_start_at_lower_level wrong =
      let right = (trees.starts expression (inl refl) refl refl (reference (codes "E") None) (inl refl) (None, refl)).production in
      let same : codes "E1" ≡ codes "E" = ap first_name (sym wrong ∙ right) in cc same

-- ---- words by rules of the expanded grammar

-- The start symbol of a public rule of the expanded grammar has the words of each written symbol of its name.
plain_words : (fs : Features) (g : GrammarData) (rounds : ℕ) (l : LoweredGrammar) → HasFaithfulTrees fs g rounds l →
    (s : ClosedSymbol) → In s (written_symbols fs g) →
    (r : RuleData) → In r (public_rules_in (all_rules (grammar_of_plain_rules fs g rounds))) → r.name.0 ≡ written_name fs g s → (w : List Terminal) →
    IsWrittenWord (written_meaning fs g) s w ↔ IsWordOf (traced_derivations fs g rounds l) (start_name (grammar_of_plain_rules fs g rounds).prefix r.name).0 w
plain_words fs g rounds l trees s i r j named w =
    start_written (written_meaning fs g) (written_name fs g) (traced_derivations fs g rounds l) s (trees.one_to_one s i)
    (rule_symbol (written_rules fs g) s i) (start_name (grammar_of_plain_rules fs g rounds).prefix r.name).0 r (trees.plain_starts r j) named w
