-- Conditions of a macro's alternatives have the value on replaced arguments that they have on the arguments.
use Rattle.std.proofs.Common.{◌≡◌, ℕ, List, [], ◌∷◌, Bool, true, false, Option, Some, None, cond, bytes_eq, refl, ap₂}
use Rattle.std.specs.Prelude.{filter}
use Rattle.lalrpop_norm_tree_names.specs.declared.names.NonterminalString.{NonterminalString}
use Rattle.lalrpop_norm_tree.specs.declared.items.Condition.{Condition}
use Rattle.lalrpop_norm_tree.specs.declared.symbol.RepeatOp.TheVariants.{Star}
use Rattle.lalrpop_norm_tree.specs.Items.{AlternativeData}
use Rattle.lalrpop_norm_tree.specs.Symbols.{Kind, repeated, at, Parts, no_parts, part_and}
use Rattle.lalrpop_norm_model.specs.Grammars.{ConditionValue, bound_argument, is_true, value_of}
use Rattle.lalrpop_norm_model.specs.Reading.{read_kind, read_parts, read_all}
use Rattle.lalrpop_norm_model.specs.MadeRules.{flat_reader}
use Rattle.lalrpop_norm_model.specs.Replaced.{replaced_kind, all_replaced}

module _ (value : ConditionValue) where
  said_replaced : (c : Condition) (b a d e : ℕ) (k : Kind) → value_of value c (Some (read_kind flat_reader b a (replaced_kind k))) ≡ value_of value c (Some (read_kind flat_reader d e k))
  said_replaced c b a d e (repeated Star p) = refl
  said_replaced c b a d e _ = refl

  bound_replaced : (c : Condition) (params : List NonterminalString) (b a d e : ℕ) (ps : Parts) (n : List ℕ) →
      value_of value c (bound_argument params (read_parts flat_reader b a (all_replaced ps)) n) ≡ value_of value c (bound_argument params (read_parts flat_reader d e ps) n)
  bound_replaced c [] b a d e ps n = refl
  bound_replaced c (x ∷ params) b a d e no_parts n = refl
  bound_replaced c (x ∷ params) b a d e (part_and (at s k) ps) n =
      by (bytes_eq x.0 n) _ _ _ _ _ _ (said_replaced c _ _ _ _ k) (bound_replaced c params _ _ _ _ ps n)
    where
      by : (t : Bool) (i j u v l m : ℕ)
          → value_of value c (Some (read_kind flat_reader i j (replaced_kind k))) ≡ value_of value c (Some (read_kind flat_reader u v k))
          → value_of value c (bound_argument params (read_parts flat_reader l a (all_replaced ps)) n) ≡ value_of value c (bound_argument params (read_parts flat_reader m e ps) n)
          → value_of value c (cond t (Some (read_kind flat_reader i j (replaced_kind k))) (bound_argument params (read_parts flat_reader l a (all_replaced ps)) n))
          ≡ value_of value c (cond t (Some (read_kind flat_reader u v k)) (bound_argument params (read_parts flat_reader m e ps) n))
      by true i j u v l m here deeper = here
      by false i j u v l m here deeper = deeper

  pub condition_replaced : (params : List NonterminalString) (ps : Parts) (c : Option Condition) →
      is_true value params (read_all flat_reader (all_replaced ps)) c ≡ is_true value params (read_all flat_reader ps) c
  condition_replaced params ps None = refl
  condition_replaced params ps (Some c) = bound_replaced c params 0 0 0 0 ps c.lhs.0

  -- ---- the alternatives that are kept

  abbrev pub kept_in : List NonterminalString → Parts → List AlternativeData → List AlternativeData
  kept_in params args xs = filter (λ a. is_true value params (read_all flat_reader args) a.condition) xs

  pub kept_replaced : (params : List NonterminalString) (ps : Parts) (xs : List AlternativeData) → kept_in params (all_replaced ps) xs ≡ kept_in params ps xs
  kept_replaced params ps [] = refl
  kept_replaced params ps (a ∷ xs) =
      ap₂ (λ (b : Bool) (ys : List AlternativeData). cond b (a ∷ ys) ys) (condition_replaced params ps a.condition) (kept_replaced params ps xs)
