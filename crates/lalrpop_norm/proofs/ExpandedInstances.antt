-- The terminals of generated rules are among those of the rules and macros that they are made of, and generated rules have
-- neither arguments nor conditions.
use Rattle.std.proofs.Common.{◌≡◌, inl, inr, ℕ, zero, suc, Bool, true, false, Option, Some, None, List, [], ◌∷◌, refl, sym, subst}
use Rattle.std.specs.Prelude.{bytes_eq, if◌then◌else◌}
use Rattle.lalrpop_norm_tree_names.specs.declared.names.NonterminalString.{NonterminalString}
use Rattle.lalrpop_norm_tree_names.specs.declared.names.Span.{Span}
use Rattle.lalrpop_norm_tree_names.specs.declared.names.TerminalString.{TerminalString}
use Rattle.lalrpop_norm_tree.specs.declared.symbol.RepeatOp.TheVariants.{Star, Plus, Question, Times}
use Rattle.lalrpop_norm_tree.specs.Symbols.{Kind, Part, Parts, group, ambiguous_id, nonterminal, call, repeated, lookahead, lookbehind, at, no_parts, part_and}
use Rattle.lalrpop_norm_tree.specs.Items.{AlternativeData, RuleData}
use Rattle.lalrpop_norm_theory.specs.Rounds.{In}
use Rattle.lalrpop_norm_model.specs.Grammars.{ConditionValue, is_true}
use Rattle.lalrpop_norm_model.specs.Reading.{read_all}
use Rattle.lalrpop_norm_model.specs.MadeRules.{group_rule, star_rule, plus_rule, question_rule, so_many, times_rule, argument_kind, or_name, substituted_leaf, all_substituted, flat_reader, instance_alternative, instance_alternatives, instance_rule, instance_of, macro_named, made_rules}
use Rattle.lalrpop_norm_model.proofs.TraversalLemmas.{mapped_holds}
use Rattle.lalrpop_norm.proofs.ExpandedScopes.{IsOverLeaf, IsOverKind, IsOver, AreOver}
use Rattle.lalrpop_norm.proofs.ExpandedSymbols.{named_listed}

module _ (P : TerminalString → Type 0) where
  -- ---- arguments substituted

  argument_over : (params : List NonterminalString) (ps : Parts) → AreOver P ps → (n : List ℕ) → IsOverKind P (or_name n (argument_kind params ps n))
  argument_over [] no_parts h n = tt
  argument_over [] (part_and p ps) h n = tt
  argument_over (a ∷ params) no_parts h n = tt
  argument_over (a ∷ params) (part_and (at s k) ps) h n = by (bytes_eq a.0 n) (argument_over params ps h.1 n)
    where
      by : (b : Bool) → IsOverKind P (or_name n (argument_kind params ps n)) → IsOverKind P (or_name n (if b then Some k else argument_kind params ps n))
      by true o = h.0
      by false o = o

  module _ (argument : List ℕ → Option Kind) (over : (n : List ℕ) → IsOverKind P (or_name n (argument n))) where
    leaf_over : (k : Kind) → IsOverKind P k → IsOverKind P (substituted_leaf argument k)
    leaf_over (nonterminal n) h = over n
    leaf_over (ambiguous_id n) h = over n
    leaf_over _ h = h

    all_put_over : (ps : Parts) → AreOver P ps → AreOver P (all_substituted argument ps)
    all_put_over = mapped_holds (IsOverLeaf P) (IsOverLeaf P) (substituted_leaf argument) leaf_over

  -- ---- generated rules

  -- no condition, and terminals among those of P
  abbrev IsFit : AlternativeData → Type 0
  IsFit a = (a.condition ≡ None) × AreOver P a.parts

  abbrev AreFit : List AlternativeData → Type 0
  AreFit [] = Unit {0}
  AreFit (a ∷ xs) = IsFit a × AreFit xs

  fit_in : (xs : List AlternativeData) → AreFit xs → (a : AlternativeData) → In a xs → IsFit a
  fit_in [] h a i = absurd i
  fit_in (x ∷ xs) h a (inl e) = subst IsFit (sym e) h.0
  fit_in (x ∷ xs) h a (inr i) = fit_in xs h.1 a i

  -- a rule without arguments and conditions, whose terminals are among those of P
  abbrev pub IsFitMade : RuleData → Type 0
  IsFitMade r = (r.args ≡ []) × ((a : AlternativeData) → In a r.alternatives → (a.condition ≡ None) × AreOver P a.parts)

  only_fit : (d r : RuleData) → d.args ≡ [] → AreFit d.alternatives → In r (d ∷ []) → IsFitMade r
  only_fit d r none h (inl e) = subst IsFitMade (sym e) (none, fit_in d.alternatives h)
  only_fit d r none h (inr i) = absurd i

  sole_fit : (d r : RuleData) → In r (d ∷ []) → d.args ≡ [] → AreFit d.alternatives → IsFitMade r
  sole_fit d r i none h = only_fit d r none h i

  instance_fit : (value : ConditionValue) (s : Span) (d : RuleData) (ps : Parts) → AreOver P ps → (xs : List AlternativeData) →
      ((a : AlternativeData) → In a xs → AreOver P a.parts) → AreFit (instance_alternatives value s d ps xs)
  instance_fit value s d ps h [] f = tt
  instance_fit value s d ps h (a ∷ xs) f =
      by (is_true value d.args (read_all flat_reader ps) a.condition) (all_put_over (argument_kind d.args ps) (argument_over d.args ps h) a.parts (f a (inl refl)))
      (instance_fit value s d ps h xs (λ b i. f b (inr i)))
    where
      by : (b : Bool) → AreOver P (all_substituted (argument_kind d.args ps) a.parts) → AreFit (instance_alternatives value s d ps xs) →
          AreFit (if b then instance_alternative s (argument_kind d.args ps) a ∷ instance_alternatives value s d ps xs else instance_alternatives value s d ps xs)
      by true o rest = ((refl, o), rest)
      by false o rest = rest

  many_over : (n : ℕ) (p : Part) → IsOver P p → AreOver P (so_many n p)
  many_over zero p h = tt
  many_over (suc n) p h = (h, many_over n p h)

  module _ (value : ConditionValue) (macros : List RuleData) (over : (d : RuleData) → In d macros → (a : AlternativeData) → In a d.alternatives → AreOver P a.parts) where
    pub made_fit : (p : Part) → IsOver P p → (r : RuleData) → In r (made_rules value macros p) → IsFitMade r
    made_fit (at s (group ps)) h r i = only_fit (group_rule s ps) r refl ((refl, h), tt) i
    made_fit (at s (call n ps)) h r i = by (macro_named macros n) (named_listed macros n) i
      where
        by : (o : Option RuleData) → ((d : RuleData) → o ≡ Some d → In d macros) → In r (instance_of value s o ps) → IsFitMade r
        by None f i = absurd i
        by (Some d) f i = only_fit (instance_rule value s d ps) r refl (instance_fit value s d ps h d.alternatives (over d (f d refl))) i
    made_fit (at s (repeated Star p)) h r i = only_fit (star_rule s p) r refl ((refl, tt), ((refl, (h, tt)), tt)) i
    made_fit (at s (repeated Plus p)) h r i = only_fit (plus_rule s p) r refl ((refl, (h, tt)), ((refl, (h, (h, tt))), tt)) i
    made_fit (at s (repeated Question p)) h r i = only_fit (question_rule s p) r refl ((refl, (h, tt)), ((refl, tt), tt)) i
    made_fit (at s (repeated (Times n) p)) h r i = only_fit (times_rule s n p) r refl ((refl, many_over n p h), tt) i
    made_fit (at s lookahead) h r i = sole_fit _ r i refl ((refl, tt), tt)
    made_fit (at s lookbehind) h r i = sole_fit _ r i refl ((refl, tt), tt)
    made_fit (at s _) h r i = absurd i
