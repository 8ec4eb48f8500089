-- Kinds by associativities, and attributes taken away.
use Rattle.std.proofs.Common.{◌≡◌, ℕ, zero, suc, List, [], ◌∷◌, cond, bytes_eq, ◌&&◌, Bool, true, false, Option, refl, sym, ap, ap₂, ◌∙◌, arith}
use Rattle.std.specs.Prelude.{unwrap_or}
use Rattle.lalrpop_norm_tree_parts.specs.declared.attribute.Attribute.{Attribute}
use Rattle.lalrpop_norm_tree_parts.specs.Attributes.{attribute_view, attributes_view, attribute_and}
use Rattle.lalrpop_norm_tree.specs.Symbols.{Kind, Parts, nonterminal}
use Rattle.lalrpop_norm_tree.specs.Items.{RuleData}
use Rattle.lalrpop_norm_model.specs.Levels.{Side, left, right, neither, every, is_named}
use Rattle.lalrpop_norm_model.specs.Occurrences.{bound_at, own_bound}
use Rattle.lalrpop_norm_model.specs.Grammars.{is_nil}
use Rattle.lalrpop_norm_model.specs.LevelRules.{without_first, leveled_parts, level_nonterminal, is_own}
use Rattle.lalrpop_norm_precedence_steps.specs.declared.occurrences.Direction.TheVariants.{Forward}
use Rattle.lalrpop_norm_precedence_steps.specs.Substitutions.{occurrence, met_kind, plan_by_side, direction_by_side}
use Rattle.lalrpop_norm_precedence.specs.Occurrences.{is_target}
use Rattle.lalrpop_norm_precedence.specs.Made.{kind_by_side, less_first}
use Rattle.lalrpop_norm_model.proofs.ReadingLemmas.{parts_unchanged}
use Rattle.lalrpop_norm_precedence.proofs.WalkLemmas.{parts_shift}

-- where each becomes the same
one_kind : (k : Kind) (i : ℕ) → occurrence (k, k) false i ≡ k
one_kind k zero = refl
one_kind k (suc i) = refl

every_one : (own : List ℕ → Bool) (k : Kind) (ps : Parts) →
    leveled_parts own (met_kind (k, k) Forward false) 0 0 ps ≡ leveled_parts own (λ before after. k) 0 0 ps
every_one own k ps = parts_shift own (met_kind (k, k) Forward false) (λ b a. k) 0 0 (λ b a. one_kind k b) 0 0 0 0 (omega arith) (omega arith) ps

-- what an occurrence becomes by the associativity, reached one after another
pub by_side : (own : List ℕ → Bool) (s : Side) (c b : Kind) (ps : Parts) →
    leveled_parts own (met_kind (plan_by_side s c b) (direction_by_side s) false) 0 0 ps ≡ leveled_parts own (kind_by_side s c b) 0 0 ps
by_side own left c b ps = refl
by_side own right c b ps = refl
by_side own neither c b ps = every_one own b ps
by_side own every c b ps = every_one own c ps

pub own_of_plain : (r : RuleData) (f : ℕ → ℕ → Kind) (ps : Parts) → is_nil r.args ≡ true →
    leveled_parts (is_target r.name.0) f 0 0 ps ≡ leveled_parts (is_own r) f 0 0 ps
own_of_plain r f ps e = ap (λ (b : Bool). leveled_parts (λ n. b && bytes_eq n r.name.0) f 0 0 ps) (sym e)

pub own_of_macro : (r : RuleData) (f : ℕ → ℕ → Kind) (ps : Parts) → is_nil r.args ≡ false → ps ≡ leveled_parts (is_own r) f 0 0 ps
own_of_macro r f ps e =
    sym (parts_unchanged (λ n. false) f (λ n before after t. absurd (cc t)) 0 0 ps) ∙ ap (λ (b : Bool). leveled_parts (λ n. b && bytes_eq n r.name.0) f 0 0 ps) (sym e)

-- the kind by an associativity is the name of the bound
first_named_kind : (f : ℕ → List ℕ) (c p i : ℕ) → occurrence (nonterminal (f c), nonterminal (f p)) false i ≡ nonterminal (f (bound_at left c p i 0))
first_named_kind f c p zero = refl
first_named_kind f c p (suc i) = refl

last_named_kind : (f : ℕ → List ℕ) (c p i b : ℕ) → occurrence (nonterminal (f c), nonterminal (f p)) false i ≡ nonterminal (f (bound_at right c p b i))
last_named_kind f c p zero b = refl
last_named_kind f c p (suc i) b = refl

bound_kind : (f : ℕ → List ℕ) (s : Side) (c p b a : ℕ) → kind_by_side s (nonterminal (f c)) (nonterminal (f p)) b a ≡ nonterminal (f (bound_at s c p b a))
bound_kind f left c p b a = first_named_kind f c p b
bound_kind f right c p b a = last_named_kind f c p a b
bound_kind f neither c p b a = refl
bound_kind f every c p b a = refl

pub by_bounds : (own : List ℕ → Bool) (f : ℕ → List ℕ) (s : Side) (c : ℕ) (previous : Option ℕ) (ps : Parts) →
    leveled_parts own (kind_by_side s (nonterminal (f c)) (nonterminal (f (unwrap_or previous c)))) 0 0 ps
    ≡ leveled_parts own (level_nonterminal (λ before after. f (own_bound s c previous before after))) 0 0 ps
by_bounds own f s c previous ps =
    parts_shift own (kind_by_side s (nonterminal (f c)) (nonterminal (f (unwrap_or previous c)))) (λ b a. nonterminal (f (own_bound s c previous b a))) 0 0
    (λ b a. bound_kind f s c (unwrap_or previous c) b a
    ∙ ap₂ (λ x y. nonterminal (f (own_bound s c previous x y))) (omega arith) (omega arith))
    0 0 0 0 (omega arith) (omega arith) ps

-- attributes
less_one : (x : Bool) (a : Attribute) (rest less : List Attribute) →
    attributes_view (cond x rest (a ∷ less)) ≡ cond x (attributes_view rest) (attribute_and (attribute_view a) (attributes_view less))
less_one true a rest less = refl
less_one false a rest less = refl

pub less_first_view : (name : List ℕ) (xs : List Attribute) → attributes_view (less_first name xs) ≡ without_first name (attributes_view xs)
less_first_view name [] = refl
less_first_view name (a ∷ rest) =
    less_one (is_named name (attribute_view a)) a rest (less_first name rest)
    ∙ ap (λ v. cond (is_named name (attribute_view a)) (attributes_view rest) (attribute_and (attribute_view a) v)) (less_first_view name rest)
