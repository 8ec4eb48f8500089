-- What the actions of alternatives and of start symbols are asked for.
use Rattle.std.proofs.Common.{◌≡◌, ℕ, List, [], ◌∷◌, ◌++◌, map, Some}
use Rattle.std.specs.List.{AllByRecursion, AllZip}
use Rattle.lalrpop_norm_tree.specs.Items.{RuleData}
use Rattle.lalrpop_norm_repr.specs.declared.symbol.Symbol.{Symbol}
use Rattle.lalrpop_norm_repr.specs.SymbolTypes.{symbol_type}
use Rattle.lalrpop_norm_repr.specs.Tables.{TypeTable, type_of}
use Rattle.lalrpop_norm_lower.specs.Lowering.{start_name, type_or_unit, rule_type}

-- each symbol has the type that is taken for it
abbrev pub HasTypes : TypeTable → TypeTable → List Symbol → Type 0
HasTypes types new ss = AllByRecursion (λ s. symbol_type s new ≡ Some (type_or_unit types s)) ss

pub zip_types : (types new : TypeTable) (ss : List Symbol) → HasTypes types new ss → AllZip (λ s t. symbol_type s new ≡ Some t) ss (map (type_or_unit types) ss)
zip_types types new [] h = tt
zip_types types new (s ∷ ss) h = (h.0, zip_types types new ss h.1)

pub zip_append : {A B : Type 0} (R : A → B → Type 0) (xs us : List A) (ys vs : List B) → AllZip R xs ys → AllZip R us vs → AllZip R (xs ++ us) (ys ++ vs)
zip_append R [] us [] vs h i = i
zip_append R [] us (y ∷ ys) vs h i = absurd h
zip_append R (x ∷ xs) us [] vs h i = absurd h
zip_append R (x ∷ xs) us (y ∷ ys) vs h i = (h.0, zip_append R xs us ys vs h.1 i)

-- what is asked of the start symbol of a rule
abbrev pub IsStartReady : List ℕ → TypeTable → TypeTable → RuleData → Type 0
IsStartReady prefix types new r = (type_of (start_name prefix r.name) new ≡ Some (rule_type types r)) × (type_of r.name new ≡ Some (rule_type types r))
