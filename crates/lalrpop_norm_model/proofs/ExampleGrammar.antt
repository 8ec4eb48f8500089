-- A grammar with two levels, whose names meet what the laws on levels ask for.
--   E = { #[precedence(level="1")] "n", #[precedence(level="2")] #[assoc(side="left")] E "+" E };
--   M<X> = { X X };
use Rattle.std.proofs.Common.{◌≡◌, inl, inr, ℕ, List, [], ◌∷◌, ◌++◌, Option, Some, None, true, false, refl, sym, ap, subst, ◌∙◌, arith}
use Rattle.std.specs.Prelude.{codes}
use Rattle.std.proofs.lemmas.Fmt.{decimal_digit}
use Rattle.lalrpop_norm_tree_names.specs.declared.names.Span.{Span}
use Rattle.lalrpop_norm_tree_names.specs.declared.names.TerminalString.TheVariants.{Literal}
use Rattle.lalrpop_norm_tree_names.specs.declared.names.TerminalLiteral.TheVariants.{Quoted}
use Rattle.lalrpop_norm_tree_parts.specs.Attributes.{AttributeData, Attributes, attribute, paren, equal, no_attributes, attribute_and}
use Rattle.lalrpop_norm_tree.specs.Symbols.{Part, Parts, terminal, nonterminal, at, no_parts, part_and}
use Rattle.lalrpop_norm_tree.specs.Items.{AlternativeData, RuleData, GrammarData, rule_item, private}
use Rattle.lalrpop_norm_theory.specs.Symbols as closed
use Rattle.lalrpop_norm_theory.specs.Symbols.{reference, symbol_and, only}
use Rattle.lalrpop_norm_theory.specs.Rounds.{In, IsDistinct}
use Rattle.lalrpop_norm_model.specs.Enabled.{all_places}
use Rattle.lalrpop_norm_model.specs.Levels.{Leveled, with_levels, levels_of, previous_level}
use Rattle.lalrpop_norm_model.specs.Stated.{HasLevel}
use Rattle.lalrpop_norm_model.specs.WrittenRules.{WrittenRule, leveled_rules}
use Rattle.lalrpop_norm_model.specs.Grammars.{is_nil, ConditionValue, meaning, references}
use Rattle.lalrpop_norm_model.specs.LevelRules.{leveled_grammar}
use Rattle.lalrpop_norm_model.specs.PlainRules.{all_rules}
use Rattle.lalrpop_norm_model.specs.LevelNames.{HasLevelNames}
use Rattle.lalrpop_norm_model.specs.Expanded.{rule_names}
use Rattle.lalrpop_norm_model.specs.Scoped.{are_scoped, NamesAreScoped}

module _ (s : Span) where
  abbrev stating : List ℕ → List ℕ → List ℕ → AttributeData
  stating name key value = attribute s name (paren (attribute_and (attribute s key (equal value)) no_attributes))

  abbrev plain : Parts → Attributes → AlternativeData
  plain ps attributes = record { span = s; parts = ps; condition = None; action = None; attributes = attributes }

  abbrev number : Part
  number = at s (terminal (Literal (Quoted (codes "n"))))

  abbrev sign : Part
  sign = at s (terminal (Literal (Quoted (codes "+"))))

  abbrev named : List ℕ → Part
  named n = at s (nonterminal n)

  abbrev sum : Parts
  sum = part_and (named (codes "E")) (part_and sign (part_and (named (codes "E")) no_parts))

  abbrev expression : RuleData
  expression = record {
    visibility = private;
    name = record { 0 = codes "E" };
    attributes = no_attributes;
    span = s;
    args = [];
    type_decl = None;
    alternatives = plain (part_and number no_parts) (attribute_and (stating (codes "precedence") (codes "level") (codes "1")) no_attributes)
        ∷ plain sum (attribute_and (stating (codes "precedence") (codes "level") (codes "2"))
        (attribute_and (stating (codes "assoc") (codes "side") (codes "left")) no_attributes)) ∷ [];
  }

  abbrev twice : RuleData
  twice = record {
    visibility = private;
    name = record { 0 = codes "M" };
    attributes = no_attributes;
    span = s;
    args = record { 0 = codes "X" } ∷ [];
    type_decl = None;
    alternatives = plain (part_and (named (codes "X")) (part_and (named (codes "X")) no_parts)) no_attributes ∷ [];
  }

  abbrev grammar : GrammarData
  grammar = record {
    prefix = [];
    span = s;
    type_parameters = [];
    parameters = [];
    where_clauses = [];
    items = rule_item expression ∷ rule_item twice ∷ [];
    attributes = no_attributes;
    module_attributes = [];
  }

  levels : levels_of (with_levels (all_places expression)) ≡ 1 ∷ 2 ∷ []
  levels = refl

  below : previous_level (with_levels (all_places expression)) 2 ≡ Some 1
  below = refl

  -- the sum, as it is read: on the left its own level, on the right the one below
  summed : (value : ConditionValue) → (meaning value (leveled_rules grammar)).reference_parts (codes "E") None 1
      ≡ Some (symbol_and (reference (codes "E") (Some 2)) (symbol_and (closed.terminal (closed.quoted (codes "+"))) (only (reference (codes "E") (Some 1)))))
  summed value = refl

  declared : references (leveled_rules grammar) ≡ reference (codes "E") (Some 1) ∷ reference (codes "E") (Some 2) ∷ []
  declared = refl

  with_level_rules : rule_names (leveled_grammar grammar) ≡ codes "E1" ∷ codes "E" ∷ codes "M" ∷ []
  with_level_rules = ap (λ ds. (codes "E" ++ ds) ∷ codes "E" ∷ codes "M" ∷ []) (decimal_digit 1 (omega arith))

  abbrev parts_in : Option Leveled → Parts
  parts_in None = no_parts
  parts_in (Some a) = a.alternative.parts

  names : NamesAreScoped (leveled_rules grammar)
  names r a (inl e) j = subst (λ (w : WrittenRule). In (Some a) w.places → are_scoped (leveled_rules grammar) w.args a.alternative.parts ≡ true) (sym e) by j
    where
      by : In (Some a) (with_levels (all_places expression)) → are_scoped (leveled_rules grammar) [] a.alternative.parts ≡ true
      by (inl i) = ap (are_scoped (leveled_rules grammar) []) (ap parts_in i)
      by (inr (inl i)) = ap (are_scoped (leveled_rules grammar) []) (ap parts_in i)
      by (inr (inr i)) = absurd i
  names r a (inr (inl e)) j = subst (λ (w : WrittenRule). In (Some a) w.places → are_scoped (leveled_rules grammar) w.args a.alternative.parts ≡ true) (sym e) by j
    where
      by : In (Some a) (with_levels (all_places twice)) → are_scoped (leveled_rules grammar) twice.args a.alternative.parts ≡ true
      by (inl i) = ap (are_scoped (leveled_rules grammar) twice.args) (ap parts_in i)
      by (inr i) = absurd i
  names r a (inr (inr h)) j = absurd h

  abbrev first : List ℕ → ℕ
  first [] = 0
  first (c ∷ cs) = c

  other_first : (m n : List ℕ) → first m ≡ 69 → first n ≡ 77 → m ≡ n → ⊥
  other_first m n h k e = let same : first m ≡ first n = ap first e in omega arith

  apart : IsDistinct (codes "E1" ∷ codes "E" ∷ codes "M" ∷ [])
  apart = (
    elim [ inl e ↦ cc e | inr h ↦ (elim h [ inl e ↦ other_first (codes "E1") (codes "M") refl refl e | inr i ↦ absurd i ]) ],
    (elim [ inl e ↦ other_first (codes "E") (codes "M") refl refl e | inr i ↦ absurd i ], ((λ i. i), tt)),
  )

  flat : (d : RuleData) → In d (all_rules grammar) → is_nil d.args ≡ false → (l m : ℕ) →
      HasLevel (with_levels (all_places d)) l → HasLevel (with_levels (all_places d)) m → l ≡ m
  flat d (inl e) f l m h k = absurd (let t : true ≡ false = subst (λ (r : RuleData). is_nil r.args ≡ false) e f in cc t)
  flat d (inr (inl e)) f l m h k = subst (λ (r : RuleData). HasLevel (with_levels (all_places r)) l → HasLevel (with_levels (all_places r)) m → l ≡ m) (sym e) by h k
    where
      level_in : Option Leveled → ℕ
      level_in None = 0
      level_in (Some a) = a.level

      only_zero : (n : ℕ) → HasLevel (with_levels (all_places twice)) n → n ≡ 0
      only_zero n (a, inl i, is) = let z : a.level ≡ 0 = ap level_in i in sym is ∙ z
      only_zero n (a, inr i, is) = absurd i

      by : HasLevel (with_levels (all_places twice)) l → HasLevel (with_levels (all_places twice)) m → l ≡ m
      by p q = only_zero l p ∙ sym (only_zero m q)
  flat d (inr (inr h)) f l m p k = absurd h

  pub has_level_names : HasLevelNames grammar
  has_level_names = record { resolved = refl; names = names; no_clash = subst (λ (ns : List (List ℕ)). IsDistinct ns) (sym with_level_rules) apart; macros = flat }
