-- In a grammar whose names are resolved, symbols without arguments are ready: their names are those of rules.
use Rattle.std.proofs.Common.{◌≡◌, ℕ, Bool, true, false, not, List, [], Option, Some, None, refl, ap, sym, subst, ◌∙◌}
use Rattle.std.proofs.lemmas.Bool.{and_parts}
use Rattle.lalrpop_norm_tree_names.specs.declared.names.NonterminalString.{NonterminalString}
use Rattle.lalrpop_norm_tree_names.specs.declared.names.Span.{Span}
use Rattle.lalrpop_norm_tree_names.specs.declared.names.TerminalString.{TerminalString}
use Rattle.lalrpop_norm_tree.specs.Symbols.{Kind, Part, Parts, ambiguous_id, terminal, nonterminal, at, part_and}
use Rattle.lalrpop_norm_tree.specs.Traversal.{inner}
use Rattle.lalrpop_norm_tree.specs.Items.{AlternativeData, RuleData, GrammarData}
use Rattle.lalrpop_norm_theory.specs.Rounds.{In}
use Rattle.lalrpop_norm_model.specs.Levels.{every}
use Rattle.lalrpop_norm_model.specs.WrittenRules.{WrittenRule, flat_rules, rule_named}
use Rattle.lalrpop_norm_model.specs.Grammars.{is_nil}
use Rattle.lalrpop_norm_model.specs.Scoped.{is_rule, is_scoped_kind, is_scoped, are_scoped}
use Rattle.lalrpop_norm_model.specs.PlainRules.{all_met, all_rules, rules_without_arguments}
use Rattle.lalrpop_norm_model.specs.PlainTables.{IsSettled}
use Rattle.lalrpop_norm_model.proofs.GrammarLemmas.{flat_from}
use Rattle.lalrpop_norm_model.proofs.LevelLemmas.{in_map}
use Rattle.lalrpop_norm_model.proofs.InferenceLemmas.{in_filtered, in_filter}
use Rattle.lalrpop_norm_model.proofs.ScopeLemmas.{rule_found, scoped_inside}
use Rattle.lalrpop_norm_model.proofs.TraversalLemmas.{each_kind, each_parts, HoldsOfKind, HoldsOfPart, HoldsOfParts, holds_inside, holds_around}
use Rattle.lalrpop_norm_model.proofs.MetLemmas.{all_met_hold}
use Rattle.lalrpop_norm_model.proofs.MadeReadLemmas.{flat_of, flat_rules_resolved}
use Rattle.lalrpop_norm_model.proofs.MadeScopeLemmas.{placed, no_arguments}
use Rattle.lalrpop_norm.proofs.ExpandedParts.{IsReadyLeaf, IsReadyKind, IsReady, AreReady}

-- ---- terminals

-- at every depth a terminal is one of P
module _ (P : TerminalString → Type 0) where
  abbrev pub IsOverLeaf : Kind → Type 0
  IsOverLeaf (terminal t) = P t
  IsOverLeaf _ = Unit {0}

  abbrev pub IsOverKind : Kind → Type 0
  IsOverKind = HoldsOfKind IsOverLeaf

  abbrev pub IsOver : Part → Type 0
  IsOver = HoldsOfPart IsOverLeaf

  abbrev pub AreOver : Parts → Type 0
  AreOver = HoldsOfParts IsOverLeaf

  -- so is each in what is reached
  pub all_met_over : (ps : Parts) → AreOver ps → (q : Part) → In q (all_met ps) → IsOver q
  all_met_over = all_met_hold IsOver IsOver AreOver (λ p ps h. h.0) (λ p ps h. h.1) (λ s k h. holds_inside IsOverLeaf k h) (λ s k e h. h)

-- ---- lists

not_some : (b : Bool) → not (not b) ≡ true → b ≡ true
not_some true h = refl
not_some false h = absurd (cc h)

-- ---- symbols

-- a rule without arguments is one of all
pub from_all : (g : GrammarData) (d : RuleData) → In d (rules_without_arguments g) → In d (all_rules g) × (d.args ≡ [])
from_all g d i = let l = in_filtered (λ (r : RuleData). is_nil r.args) (all_rules g) d i in (l.0, no_arguments d.args l.1)

module _ (g : GrammarData) (S : IsSettled g) (P : TerminalString → Type 0) (N : List ℕ → Type 0)
    (names : (r : RuleData) → In r (rules_without_arguments g) → N r.name.0) where
  rule_is : (n : List ℕ) (o : Option WrittenRule) → rule_named (flat_rules g) n ≡ o → is_rule o ≡ true → N n
  rule_is n None e h = absurd (cc h)
  rule_is n (Some s) e h =
      let f = rule_found (flat_rules g) n s e in
      let (d, i, is) = flat_from g s f.0 in
      let name : d.name.0 ≡ n = ap (λ (w : WrittenRule). w.name) (sym is) ∙ f.1 in
      let bare : is_nil d.args ≡ true = ap (λ (w : WrittenRule). is_nil w.args) (sym is) ∙ not_some (is_nil s.args) h in
      subst N name (names d (in_filter (λ (r : RuleData). is_nil r.args) (all_rules g) d i bare))

  leaf_ready : (k : Kind) → is_scoped_kind (flat_rules g) [] k ≡ true → IsOverKind P k → IsReadyLeaf P N k
  leaf_ready (terminal t) h o = o
  leaf_ready (nonterminal n) h o = rule_is n (rule_named (flat_rules g) n) refl h
  leaf_ready (ambiguous_id a) h o = absurd (cc h)
  leaf_ready _ h o = tt

  abbrev BecomesReady : Kind → Type 0
  BecomesReady k = is_scoped_kind (flat_rules g) [] k ≡ true → IsOverKind P k → IsReadyKind P N k

  abbrev BecomeReady : Parts → Type 0
  BecomeReady ps = are_scoped (flat_rules g) [] ps ≡ true → AreOver P ps → AreReady P N ps

  more_ready : (s : Span) (k : Kind) (ps : Parts) → BecomesReady k → BecomeReady ps → BecomeReady (part_and (at s k) ps)
  more_ready s k ps f t h o =
      let b = and_parts (is_scoped_kind (flat_rules g) [] k) (are_scoped (flat_rules g) [] ps) h in
      (f b.0 o.0, t b.1 o.1)

  ready_around : (k : Kind) → BecomeReady (inner k) → BecomesReady k
  ready_around k f h o = holds_around (IsReadyLeaf P N) k (leaf_ready k h o) (f (scoped_inside (flat_rules g) [] k h) (holds_inside (IsOverLeaf P) k o))

  pub parts_ready : (ps : Parts) → are_scoped (flat_rules g) [] ps ≡ true → AreOver P ps → AreReady P N ps
  parts_ready = each_parts BecomesReady BecomeReady (λ h o. tt) more_ready ready_around

  pub part_ready : (p : Part) → is_scoped (flat_rules g) [] p ≡ true → IsOver P p → IsReady P N p
  part_ready (at s k) = each_kind BecomesReady BecomeReady (λ h o. tt) more_ready ready_around k

  scoped : (d : RuleData) → In d (all_rules g) → d.args ≡ [] → (a : AlternativeData) → In a d.alternatives → are_scoped (flat_rules g) [] a.parts ≡ true
  scoped d i none a j =
      let there : In (flat_of d) (flat_rules g) =
      subst (λ (ws : List WrittenRule). In (flat_of d) ws) (sym (flat_rules_resolved g S.resolved)) (in_map flat_of d (all_rules g) i) in
      subst (λ (args : List NonterminalString). are_scoped (flat_rules g) args a.parts ≡ true) none
      (S.scoped.names (flat_of d) (record { level = 0; side = every; alternative = a }) there (placed a d.alternatives j))

  -- the symbols of each alternative are ready
  pub alternative_ready : (d : RuleData) → In d (rules_without_arguments g) → (a : AlternativeData) → In a d.alternatives → AreOver P a.parts → AreReady P N a.parts
  alternative_ready d i a j o = let l = from_all g d i in parts_ready a.parts (scoped d l.0 l.1 a j) o
