-- An expansion without faults is whole: after its last round nothing is new.
use Rattle.std.proofs.Common.{◌≡◌, ℕ, zero, suc, ◌+◌, List, [], ◌∷◌, refl, subst, arith}
use Rattle.lalrpop_norm_tree.specs.Symbols.{Part}
use Rattle.lalrpop_norm_tree.specs.Items.{GrammarData}
use Rattle.lalrpop_norm_model.specs.Grammars.{ConditionValue}
use Rattle.lalrpop_norm_model.specs.PlainRules.{expansion_round, IsEnded}
use Rattle.lalrpop_norm_model.proofs.InferenceLemmas.{both_empty}
use Rattle.lalrpop_norm_macro_expand.specs.Expansion.{shared_in, unmade_in, past_cap, faults_from, expansion_faults}

none_past : (xs : List Part) → past_cap xs ≡ [] → xs ≡ []
none_past [] h = refl
none_past (x ∷ []) h = absurd (cc h)
none_past (x ∷ y ∷ xs) h = absurd (let none : y ∷ xs ≡ [] = none_past (y ∷ xs) h in cc none)

module _ (value : ConditionValue) (g : GrammarData) where
  whole_from : (k left : ℕ) → faults_from value g k left ≡ [] → IsEnded value g (k + left)
  whole_from k zero h =
      let same : k ≡ k + zero = omega arith in
      subst (λ n. IsEnded value g n) same
      (none_past (expansion_round value g k).fresh (both_empty (shared_in value g k) (past_cap (expansion_round value g k).fresh) h).1)
  whole_from k (suc left) h =
      let same : suc k + left ≡ k + suc left = omega arith in
      let later = (both_empty (shared_in value g k) _ h).1 in
      subst (λ n. IsEnded value g n) same
      (whole_from (suc k) left (both_empty (unmade_in value g k) (faults_from value g (suc k) left) later).1)

  pub expansion_whole : (limit : ℕ) → expansion_faults value g limit ≡ [] → IsEnded value g limit
  expansion_whole limit h = (let same : 0 + limit ≡ limit = omega arith in subst (λ n. IsEnded value g n) same (whole_from 0 limit h))
