-- F11: the parts of a `cfg` that are of no known form.
use Rattle.std.specs.Prelude.{ℕ, List, [], ◌∷◌, ◌++◌, bytes_eq, codes, ◌||◌, if◌then◌else◌}
use Rattle.lalrpop_norm_tree_names.specs.declared.names.Span.{Span}
use Rattle.lalrpop_norm_tree_parts.specs.Attributes.{Argument, empty, paren, equal, AttributeData, attribute, Attributes}
use Rattle.lalrpop_norm_tree_parts.specs.Attributes.{no_attributes, attribute_and}
use Rattle.lalrpop_norm_faults.specs.declared.kind.FaultKind.TheVariants.{MalformedCfg}
use Rattle.lalrpop_norm_faults.specs.Faults.{Fault}
use Rattle.lalrpop_norm_prevalidate_attributes.specs.declared.cfg.Test.{Test}
use Rattle.lalrpop_norm_prevalidate_attributes.specs.declared.cfg.Test.TheVariants.{Feature, Not, Several, Unknown}

-- what a name asks of its argument: a text, a first condition, conditions
abbrev pub test_of : List ℕ → Test
test_of name =
    if bytes_eq name (codes "feature") then Feature
    else (if bytes_eq name (codes "not") then Not
    else (if bytes_eq name (codes "any") || bytes_eq name (codes "all") then Several else Unknown))

unfoldable pub empty_faults : Span → Attributes → List Fault
empty_faults s no_attributes = (MalformedCfg, s) ∷ []
empty_faults s (attribute_and a rest) = []

abbrev mutual
  pub test_faults : AttributeData → List Fault
  test_faults (attribute s name x) = test_argument_faults (test_of name) s x

  pub test_argument_faults : Test → Span → Argument → List Fault
  test_argument_faults Feature s (equal t) = []
  test_argument_faults Feature s empty = (MalformedCfg, s) ∷ []
  test_argument_faults Feature s (paren xs) = (MalformedCfg, s) ∷ []
  test_argument_faults Not s (paren xs) = first_test_faults s xs
  test_argument_faults Not s empty = (MalformedCfg, s) ∷ []
  test_argument_faults Not s (equal t) = (MalformedCfg, s) ∷ []
  test_argument_faults Several s (paren xs) = empty_faults s xs ++ tests_faults xs
  test_argument_faults Several s empty = (MalformedCfg, s) ∷ []
  test_argument_faults Several s (equal t) = (MalformedCfg, s) ∷ []
  test_argument_faults Unknown s x = (MalformedCfg, s) ∷ []

  -- the first one is judged, and has to be there
  pub first_test_faults : Span → Attributes → List Fault
  first_test_faults s no_attributes = (MalformedCfg, s) ∷ []
  first_test_faults s (attribute_and a rest) = test_faults a

  pub tests_faults : Attributes → List Fault
  tests_faults no_attributes = []
  tests_faults (attribute_and a rest) = test_faults a ++ tests_faults rest

-- a `cfg` is judged as `not` is: its first argument, which has to be there
abbrev pub cfg_faults : Span → Argument → List Fault
cfg_faults s x = test_argument_faults Not s x

-- of an attribute, if it is a `cfg`
abbrev pub attribute_cfg_faults : AttributeData → List Fault
attribute_cfg_faults (attribute s name x) = if bytes_eq name (codes "cfg") then cfg_faults s x else []

-- of each `cfg` among attributes
abbrev pub all_cfg_faults : Attributes → List Fault
all_cfg_faults no_attributes = []
all_cfg_faults (attribute_and a rest) = attribute_cfg_faults a ++ all_cfg_faults rest
