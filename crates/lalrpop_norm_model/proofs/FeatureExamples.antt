-- What `cfg` says of features, on small attribute lists.
use Rattle.std.proofs.Common.{◌≡◌, [], ◌∷◌, refl}
use Rattle.std.specs.Prelude.{Bool, true, false, Some, None, codes}
use Rattle.lalrpop_norm_tree_parts.specs.Attributes.{AttributeData, attributes_of, no_attributes}
use Rattle.lalrpop_norm_model.specs.Features.{Features, is_active}
use Rattle.lalrpop_norm_model.proofs.ExampleWords.{bare_attribute, attribute_of, valued, cfg, feature}

-- the sets: none at all, the empty one, that of f, and that of e and g
abbrev no_set : Features
no_set = None

abbrev nothing_on : Features
nothing_on = Some []

abbrev f_on : Features
f_on = Some (codes "f" ∷ [])

abbrev e_and_g_on : Features
e_and_g_on = Some (codes "e" ∷ (codes "g" ∷ []))

-- a list of one attribute, and of one `cfg`
abbrev active : Features → AttributeData → Bool
active fs a = is_active fs (attributes_of (a ∷ []))

abbrev holds : AttributeData → Bool
holds c = active no_set (cfg c)

-- a condition that never holds, and one that always does
abbrev bogus : AttributeData
bogus = bare_attribute (codes "bogus")

abbrev all_of_none : AttributeData
all_of_none = attribute_of (codes "all") []

-- ---- lists

no_attributes_active : is_active no_set no_attributes ≡ true
no_attributes_active = refl

inline_is_no_condition : active no_set (bare_attribute (codes "inline")) ≡ true
inline_is_no_condition = refl

-- no other attribute is read as a condition
other_name : active no_set (attribute_of (codes "inline") (bogus ∷ [])) ≡ true
other_name = refl

-- each `cfg` has to hold
first_fails : is_active no_set (attributes_of (cfg bogus ∷ (cfg all_of_none ∷ []))) ≡ false
first_fails = refl

second_fails : is_active no_set (attributes_of (cfg all_of_none ∷ (bare_attribute (codes "inline") ∷ (cfg bogus ∷ [])))) ≡ false
second_fails = refl

both_hold : is_active f_on (attributes_of (cfg all_of_none ∷ (cfg (feature (codes "f")) ∷ []))) ≡ true
both_hold = refl

-- ---- `cfg` itself

-- `cfg`, `cfg()`, `cfg = "f"`
cfg_bare : active f_on (bare_attribute (codes "cfg")) ≡ false
cfg_bare = refl

cfg_of_nothing : active f_on (attribute_of (codes "cfg") []) ≡ false
cfg_of_nothing = refl

cfg_valued : active f_on (valued (codes "cfg") (codes "f")) ≡ false
cfg_valued = refl

-- `cfg(all(), bogus)` and `cfg(bogus, all())`: the first argument counts
cfg_reads_first : active no_set (attribute_of (codes "cfg") (all_of_none ∷ (bogus ∷ []))) ≡ true
cfg_reads_first = refl

cfg_reads_no_second : active no_set (attribute_of (codes "cfg") (bogus ∷ (all_of_none ∷ []))) ≡ false
cfg_reads_no_second = refl

-- ---- features

feature_without_set : active no_set (cfg (feature (codes "f"))) ≡ false
feature_without_set = refl

feature_off : active nothing_on (cfg (feature (codes "f"))) ≡ false
feature_off = refl

other_features_on : active e_and_g_on (cfg (feature (codes "f"))) ≡ false
other_features_on = refl

feature_on : active f_on (cfg (feature (codes "f"))) ≡ true
feature_on = refl

last_feature_on : active e_and_g_on (cfg (feature (codes "g"))) ≡ true
last_feature_on = refl

-- `cfg(target = "f")`, `cfg(feature)`, `cfg(feature("f"))`
other_key : active f_on (cfg (valued (codes "target") (codes "f"))) ≡ false
other_key = refl

feature_without_value : active f_on (cfg (bare_attribute (codes "feature"))) ≡ false
feature_without_value = refl

feature_with_list : active f_on (cfg (attribute_of (codes "feature") (bare_attribute (codes "f") ∷ []))) ≡ false
feature_with_list = refl

-- ---- not, all, any

not_bogus : holds (attribute_of (codes "not") (bogus ∷ [])) ≡ true
not_bogus = refl

-- a feature without a set is off, so its negation holds
not_feature : holds (attribute_of (codes "not") (feature (codes "f") ∷ [])) ≡ true
not_feature = refl

not_not : holds (attribute_of (codes "not") (attribute_of (codes "not") (bogus ∷ []) ∷ [])) ≡ false
not_not = refl

-- of several arguments `not` looks at the first
not_reads_first : holds (attribute_of (codes "not") (bogus ∷ (all_of_none ∷ []))) ≡ true
not_reads_first = refl

not_reads_no_second : holds (attribute_of (codes "not") (all_of_none ∷ (bogus ∷ []))) ≡ false
not_reads_no_second = refl

-- `not()`, `not`, `not = "f"`
not_of_nothing : holds (attribute_of (codes "not") []) ≡ false
not_of_nothing = refl

not_bare : holds (bare_attribute (codes "not")) ≡ false
not_bare = refl

not_valued : holds (valued (codes "not") (codes "f")) ≡ false
not_valued = refl

all_of_nothing : holds all_of_none ≡ true
all_of_nothing = refl

all_bare : holds (bare_attribute (codes "all")) ≡ false
all_bare = refl

all_with_one_failing : holds (attribute_of (codes "all") (all_of_none ∷ (bogus ∷ []))) ≡ false
all_with_one_failing = refl

any_of_nothing : holds (attribute_of (codes "any") []) ≡ false
any_of_nothing = refl

any_bare : holds (bare_attribute (codes "any")) ≡ false
any_bare = refl

any_with_one_holding : holds (attribute_of (codes "any") (bogus ∷ (all_of_none ∷ []))) ≡ true
any_with_one_holding = refl

any_with_none_holding : holds (attribute_of (codes "any") (bogus ∷ (bogus ∷ []))) ≡ false
any_with_none_holding = refl

-- `xor(all())`
other_word : holds (attribute_of (codes "xor") (all_of_none ∷ [])) ≡ false
other_word = refl
