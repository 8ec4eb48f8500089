use Rattle.std.proofs.Common.{◌≡◌, ℕ, true, false, List, Some, drop, ◌+◌, ◌||◌, ◌<◌, length, get_or, map, ap, sym, refl, ◌∙◌, arith}
use Rattle.std.proofs.lemmas.List.{drop_all, at_drop_more}
use Rattle.lalrpop_norm_tree.specs.declared.items.Alternative.{Alternative}
use Rattle.lalrpop_norm_tree.specs.Items.{alternative_view}
use Rattle.lalrpop_norm_model.specs.Levels.{has_levels, has_level_attribute}
use Rattle.lalrpop_norm_precedence_steps.proofs.levels.has_levels.Goals as goal

-- whether those from the i-th on have levels: the i-th has, or those behind it
one_on : (xs : List Alternative) (i : ℕ) (a : Alternative) → a ≡ get_or xs i a → i < length xs →
    has_levels (map Some (map alternative_view (drop i xs))) ≡ (has_level_attribute (alternative_view a) || has_levels (map Some (map alternative_view (drop (i + 1) xs))))
one_on xs i a is h = rw is (at_drop_more (λ ys. has_levels (map Some (map alternative_view ys))) xs i a h)

pub loop-alternative-preserved : goal.loop-alternative-preserved
loop-alternative-preserved c =
    let a = c.alternative-item.result in
    let none : has_level_attribute (alternative_view a) ≡ false = rw (← c.deref.ensures.value) (sym c.has_level_attribute.ensures ∙ c.if-has_level_attribute.false) in
    sym (one_on c.args.alternatives.now c.loop-alternative.alternative-index a c.alternative-item.is (omega arith) ∙ rw none refl) ∙ c.loop-alternative.invariant

pub returns-then-has_level_attribute : goal.returns-then-has_level_attribute
returns-then-has_level_attribute c =
    let a = c.alternative-item.result in
    let some : has_level_attribute (alternative_view a) ≡ true = rw (← c.deref.ensures.value) (sym c.has_level_attribute.ensures ∙ c.if-has_level_attribute.true) in
    sym (one_on c.args.alternatives.now c.loop-alternative.alternative-index a c.alternative-item.is (omega arith) ∙ rw some refl) ∙ c.loop-alternative.invariant

pub returns : goal.returns
returns c =
    sym (ap (λ xs. has_levels (map Some (map alternative_view xs))) (drop_all c.loop-alternative.alternative-index c.args.alternatives.now c.loop-alternative-test.false))
    ∙ c.loop-alternative.invariant
