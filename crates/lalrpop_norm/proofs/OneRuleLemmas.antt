-- One rule for each symbol that is reached.
use Rattle.std.proofs.Common.{◌≡◌, ℕ, zero, suc, List, map, sym, subst}
use Rattle.std.specs.Prelude.{flat_map}
use Rattle.lalrpop_norm_tree.specs.Items.{GrammarData}
use Rattle.lalrpop_norm_theory.specs.Symbols.{ClosedSymbol}
use Rattle.lalrpop_norm_theory.specs.Meaning.{Meaning}
use Rattle.lalrpop_norm_theory.specs.Met.{rule_meets, expanded_symbols}
use Rattle.lalrpop_norm_theory.specs.Rounds.{In, IsDistinct, Chain}
use Rattle.lalrpop_norm_theory.specs.Laws.{IsWhole}
use Rattle.lalrpop_norm_theory.proofs.RoundsLemmas.{in_left, in_right, of_flat}
use Rattle.lalrpop_norm_theory.proofs.Expansion.{nothing_new_whole}
use Rattle.lalrpop_norm_theory.proofs.MadeLemmas.{rules_made_once}
use Rattle.lalrpop_norm_model.specs.Grammars.{ConditionValue}
use Rattle.lalrpop_norm_model.specs.PlainRules.{made_symbols, IsEnded}
use Rattle.lalrpop_norm_model.specs.PlainTables.{IsSettled, closed, flat_meaning, declared}
use Rattle.lalrpop_norm_model.specs.Scopes.{resolved_grammar}
use Rattle.lalrpop_norm_model.proofs.MadeReadLemmas.{made_rules_are_read}
use Rattle.lalrpop_norm_model.proofs.ResolvedLemmas.{resolved_once}
use Rattle.lalrpop_norm_model.proofs.RoundReadLemmas.{rounds_are_read, made_symbols_are_scoped}
use Rattle.lalrpop_norm_resolve.proofs.ResolvedFaults.{faults_gone}
use Rattle.lalrpop_norm.proofs.ScopedLemmas.{settled}
use Rattle.lalrpop_norm.specs.Laws.{ResolvedGrammarsAreSettled, HasOneRuleEach, EachClassHasOneRule}

-- a grammar whose names are resolved without a fault is settled
pub resolved_settled : ResolvedGrammarsAreSettled
resolved_settled g unfaulted = settled (resolved_grammar g) (faults_gone g unfaulted) (resolved_once g)

module _ (value : ConditionValue) (g : GrammarData) (S : IsSettled g) (limit : ℕ) (ended : IsEnded value g limit) where
  abbrev M : Meaning
  M = flat_meaning value g

  abbrev expanded : List ClosedSymbol
  expanded = expanded_symbols M (declared g) limit

  whole : IsWhole M (declared g) expanded
  whole = nothing_new_whole M (declared g) limit ((rounds_are_read value g S limit).3.0 ended)

  made : map closed (made_symbols value g limit) ≡ expanded
  made = (rounds_are_read value g S limit).0

  -- a chain of rules leads to no symbol without a rule
  reached : (k : ℕ) (x : ClosedSymbol) → Chain (rule_meets M) (flat_map (rule_meets M) (declared g)) k x → In x expanded
  reached zero x c =
      let r = of_flat (rule_meets M) x (declared g) c in whole.done r.0 x (in_left r.0 (declared g) expanded r.1) r.2
  reached (suc k) x (y, c, i) = whole.done y x (in_right y (declared g) expanded (reached k y c)) i

  one_each : HasOneRuleEach value g limit
  one_each = record {
    once = subst (λ (xs : List ClosedSymbol). IsDistinct xs) (sym made) (rules_made_once M (declared g) limit).0;
    met = λ x. (
      (λ i. let r = ((rules_made_once M (declared g) limit).1 x).0 (subst (λ (xs : List ClosedSymbol). In x xs) made i) in (r.0, r.2.0)),
      (λ c. subst (λ (xs : List ClosedSymbol). In x xs) (sym made) (reached c.0 x c.1)),
    );
    one = λ p i.
        let is = made_symbols_are_scoped value g S limit p i in made_rules_are_read value g S.resolved S.scoped p is.0 is.1;
  }

pub each_class_one : EachClassHasOneRule
each_class_one value g limit unfaulted ended = one_each value (resolved_grammar g) (resolved_settled g unfaulted) limit ended
