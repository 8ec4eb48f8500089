-- When an attribute list is active: what `#[cfg(..)]` asks of the features of a session.
use Rattle.std.specs.Prelude.{ℕ, Bool, true, false, not, ◌&&◌, ◌||◌, List, [], ◌∷◌, Option, Some, None, codes}
use Rattle.std.specs.Prelude.{bytes_eq}
use Rattle.lalrpop_norm_tree_parts.specs.Attributes.{AttributeData, Attributes, empty, paren, equal, attribute, no_attributes}
use Rattle.lalrpop_norm_tree_parts.specs.Attributes.{attribute_and}

-- the features that are on: a set of names, or no set at all
abbrev pub Features : Type 0
Features = Option (List (List ℕ))

abbrev pub is_one_of : List ℕ → List (List ℕ) → Bool
is_one_of name [] = false
is_one_of name (n ∷ ns) = bytes_eq n name || is_one_of name ns

-- the feature is in the set; without a set none is
abbrev pub is_feature : Features → List ℕ → Bool
is_feature None name = false
is_feature (Some names) name = is_one_of name names

-- Whether a condition of a `cfg` holds: `feature = "f"` where f is a feature; `not(x, ..)` where x is there and does not hold;
-- `all(..)` where each one holds; `any(..)` where one holds; anything else never.
abbrev mutual
  pub condition_holds : Features → AttributeData → Bool
  condition_holds fs (attribute s name empty) = false
  condition_holds fs (attribute s name (equal value)) = bytes_eq name (codes "feature") && is_feature fs value
  condition_holds fs (attribute s name (paren cs)) =
      (bytes_eq name (codes "not") && first_fails fs cs)
      || ((bytes_eq name (codes "all") && all_hold fs cs)
      || (bytes_eq name (codes "any") && any_holds fs cs))

  pub first_fails : Features → Attributes → Bool
  first_fails fs no_attributes = false
  first_fails fs (attribute_and c cs) = not (condition_holds fs c)

  pub all_hold : Features → Attributes → Bool
  all_hold fs no_attributes = true
  all_hold fs (attribute_and c cs) = condition_holds fs c && all_hold fs cs

  pub any_holds : Features → Attributes → Bool
  any_holds fs no_attributes = false
  any_holds fs (attribute_and c cs) = condition_holds fs c || any_holds fs cs

-- `cfg(x, ..)` where x holds
abbrev pub cfg_holds : Features → AttributeData → Bool
cfg_holds fs (attribute s name (paren (attribute_and c cs))) = condition_holds fs c
cfg_holds fs (attribute s name _) = false

abbrev pub is_cfg : AttributeData → Bool
is_cfg (attribute s name x) = bytes_eq name (codes "cfg")

-- an attribute list is active where each `cfg` in it holds
abbrev pub is_active : Features → Attributes → Bool
is_active fs no_attributes = true
is_active fs (attribute_and a rest) = (not (is_cfg a) || cfg_holds fs a) && is_active fs rest
