-- The name of the level below, where there is one, by reference.
use Rattle.std.proofs.Common.{◌≡◌, List, ℕ, Bor, Option, Some, None, refl, ap}
use Rattle.std.specs.Prelude.{option_copied, option_map, unwrap_or}
use Rattle.lalrpop_norm_tree_names.specs.declared.names.NonterminalString.{NonterminalString}

pub name_lent : (o : Option (Bor NonterminalString)) (p : Option NonterminalString) → option_copied o ≡ p →
    option_map (λ (n : Bor NonterminalString). n.now.0) o ≡ option_map (λ (n : NonterminalString). n.0) p
name_lent None p is = ap (option_map (λ (n : NonterminalString). n.0)) is
name_lent (Some m) p is = ap (option_map (λ (n : NonterminalString). n.0)) is

pub name_or_own : (o : Option (Bor NonterminalString)) (own : Bor NonterminalString) →
    (unwrap_or o own).now.0 ≡ unwrap_or (option_map (λ (n : Bor NonterminalString). n.now.0) o) own.now.0
name_or_own None own = refl
name_or_own (Some m) own = refl
