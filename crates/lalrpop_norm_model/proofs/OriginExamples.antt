-- Where the alternatives of the rules of the expanded grammar of small grammars come from, in the order of their actions.
use Rattle.std.proofs.Common.{◌≡◌, ℕ, List, [], ◌∷◌, refl}
use Rattle.std.specs.Prelude.{codes}
use Rattle.lalrpop_norm_tree.specs.Symbols.{Kind, group, call, chosen, lookahead, lookbehind}
use Rattle.lalrpop_norm_tree.specs.Items.{RuleData}
use Rattle.lalrpop_norm_theory.specs.LoweredTrees.{Origin, from_start, written, level_step, from_group, star_empty, star_some, plus_one, plus_more, question_some, question_empty, from_lookahead, from_lookbehind}
use Rattle.lalrpop_norm_model.specs.WrittenRules.{WrittenRule, leveled_rules, written_rules}
use Rattle.lalrpop_norm_model.specs.Grammars.{meaning, references}
use Rattle.lalrpop_norm_model.specs.Origins.{plain_origins, action_origins}
use Rattle.lalrpop_norm_model.proofs.ExampleWords.{nowhere, precedence, assoc, if_f, without_f, literal, name, starred, optional, here, symbols, alternative, rule, rules_alone, example_value, conditional_macro}

abbrev origins : List WrittenRule → ℕ → List Origin
origins rs count = plain_origins (meaning example_value rs) (references rs) count

-- a rule of one alternative
abbrev one : List ℕ → List Kind → RuleData
one n ks = rule nowhere n (alternative nowhere [] (symbols ks) ∷ [])

-- pub S = "a"* "b": one start symbol, then the rules of S, "a"* and "a"+
abbrev repeat : List WrittenRule
repeat = leveled_rules (rules_alone (one (codes "S") (starred (here (literal (codes "a"))) ∷ (literal (codes "b") ∷ [])) ∷ []))

repeat_actions : action_origins 1 (meaning example_value repeat) (references repeat) 2 ≡
    from_start ∷ (written (codes "S") 0 ∷ (star_empty ∷ (star_some ∷ (plus_one ∷ (plus_more ∷ [])))))
repeat_actions = refl

-- pub E = { #[precedence(level="1")] "n", #[precedence(level="2")] #[assoc(side="left")] E "+" E }: two start symbols, E1, E
abbrev sums : List WrittenRule
sums = leveled_rules (rules_alone (rule nowhere (codes "E")
    (alternative nowhere (precedence (codes "1") ∷ []) (symbols (literal (codes "n") ∷ []))
    ∷ (alternative nowhere (precedence (codes "2") ∷ (assoc (codes "left") ∷ [])) (symbols (name (codes "E") ∷ (literal (codes "+") ∷ (name (codes "E") ∷ [])))) ∷ [])) ∷ []))

sum_actions : action_origins 2 (meaning example_value sums) (references sums) 0 ≡
    from_start ∷ (from_start ∷ (written (codes "E") 0 ∷ (written (codes "E") 1 ∷ (level_step ∷ []))))
sum_actions = refl

-- A = Expr<"A*C">; B = Expr<"ABC">: alternatives of an instance have their numbers in the macro
conditional_origins : origins (leveled_rules (rules_alone
    (conditional_macro
    ∷ (one (codes "A") (call (codes "Expr") (symbols (literal (codes "A*C") ∷ [])) ∷ [])
    ∷ (one (codes "B") (call (codes "Expr") (symbols (literal (codes "ABC") ∷ [])) ∷ []) ∷ []))))) 1
    ≡ written (codes "A") 0 ∷ (written (codes "B") 0
    ∷ (written (codes "Expr") 2 ∷ (written (codes "Expr") 3 ∷ (written (codes "Expr") 0 ∷ (written (codes "Expr") 3 ∷ [])))))
conditional_origins = refl

-- A = { #[cfg(feature = "f")] "a", "b" } without f: the second alternative stays the second
disabled_origins : origins (written_rules without_f (rules_alone (rule nowhere (codes "A")
    (alternative nowhere (if_f ∷ []) (symbols (literal (codes "a") ∷ [])) ∷ (alternative nowhere [] (symbols (literal (codes "b") ∷ [])) ∷ [])) ∷ []))) 0
    ≡ written (codes "A") 1 ∷ []
disabled_origins = refl

-- A = @L ("a" <"b">)? @R: what is reached last is first
group_origins : origins (leveled_rules (rules_alone
    (one (codes "A") (lookahead ∷ (optional (here (group (symbols (literal (codes "a") ∷ (chosen (here (literal (codes "b"))) ∷ []))))) ∷ (lookbehind ∷ []))) ∷ []))) 1
    ≡ written (codes "A") 0 ∷ (from_lookbehind ∷ (question_some ∷ (question_empty ∷ (from_group ∷ (from_lookahead ∷ [])))))
group_origins = refl
