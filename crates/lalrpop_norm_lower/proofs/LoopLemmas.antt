-- Loops that collect.
use Rattle.std.proofs.Common.{◌≡◌, ◌+◌, Bool, true, false, cond, refl, sym, List, [], ◌∷◌, ◌++◌, Option, Some, None, ap, ◌∙◌, length, map, reverse}
use Rattle.std.proofs.lemmas.List.{append_assoc, reverse-append}
use Rattle.std.specs.List.{cons_option}
use Rattle.lalrpop_norm_tree.specs.Accessors.{is_public, rule_of}
use Rattle.lalrpop_norm_tree.specs.Items.{ItemData, rule_item, RuleData}
use Rattle.lalrpop_norm_lower.specs.Lowering.{rules_among, public_rules_in}

kept_first : (b : Bool) (r : RuleData) (rs : List RuleData) → cond b (r ∷ rs) rs ≡ cond b (r ∷ []) [] ++ rs
kept_first true r rs = refl
kept_first false r rs = refl

first_public : (r : RuleData) (rs : List RuleData) → public_rules_in (r ∷ rs) ≡ public_rules_in (r ∷ []) ++ public_rules_in rs
first_public r rs = kept_first (is_public r.visibility) r (public_rules_in rs)

-- what an item adds to the public rules, and to the names of rules

added_public : (o : Option RuleData) (rs : List RuleData) → public_rules_in (cons_option o rs) ≡ public_rules_in (cons_option o []) ++ public_rules_in rs
added_public None rs = refl
added_public (Some r) rs = first_public r rs

pub item_public : (i : ItemData) (items : List ItemData) → public_rules_in (rules_among (i ∷ items)) ≡ public_rules_in (rules_among (i ∷ [])) ++ public_rules_in (rules_among items)
item_public i items = added_public (rule_of i) (rules_among items)

added_name : (o : Option RuleData) (rs : List RuleData) → map (λ (r : RuleData). r.name) (cons_option o rs) ≡ map (λ (r : RuleData). r.name) (cons_option o []) ++ map (λ (r : RuleData). r.name) rs
added_name None rs = refl
added_name (Some r) rs = refl

pub item_name : (i : ItemData) (items : List ItemData) → map (λ (r : RuleData). r.name) (rules_among (i ∷ items)) ≡ map (λ (r : RuleData). r.name) (rules_among (i ∷ [])) ++ map (λ (r : RuleData). r.name) (rules_among items)
item_name i items = added_name (rule_of i) (rules_among items)

-- the rules among items of which the first is one, or is none
pub rule_first : (i : ItemData) (r : RuleData) (items : List ItemData) → i ≡ rule_item r → rules_among (i ∷ items) ≡ r ∷ rules_among items
rule_first i r items is = ap (λ (j : ItemData). rules_among (j ∷ items)) is

pub rule_skipped : (i : ItemData) (items : List ItemData) → rule_of i ≡ None → rules_among (i ∷ items) ≡ rules_among items
rule_skipped i items none = ap (λ o. cons_option o (rules_among items)) none

-- ---- items in falling order

pub last_first : {A : Type 0} (old new : List A) (x : A) → old ≡ new ++ x ∷ [] → reverse old ≡ x ∷ reverse new
last_first old new x is = ap reverse is ∙ reverse-append new (x ∷ [])

pub none_left : {A : Type 0} (old : List A) → length old ≡ 0 → reverse old ≡ []
none_left [] is = refl
none_left (x ∷ xs) is = cc

-- ---- what is left of a loop

-- what is behind faults of which there are none
pub behind_none : {A : Type 0} (here rest all : List A) → here ≡ [] → here ++ rest ≡ all → rest ≡ all
behind_none here rest all none whole = ap (λ fs. fs ++ rest) (sym none) ∙ whole

-- one more, and those that are left
pub one_more : {A : Type 0} (old new : List A) (x : A) (rest all : List A) → new ≡ old ++ x ∷ [] → old ++ x ∷ rest ≡ all → new ++ rest ≡ all
one_more old new x rest all made whole = ap (λ xs. xs ++ rest) made ∙ append_assoc old (x ∷ []) rest ∙ whole
