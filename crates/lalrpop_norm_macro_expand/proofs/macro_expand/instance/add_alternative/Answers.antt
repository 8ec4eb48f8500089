use Rattle.std.proofs.Common.{◌≡◌, ◌++◌, List, [], ◌∷◌, Bool, true, false, map, append-nil, sym, ap, ◌∙◌}
use Rattle.std.specs.Prelude.{if◌then◌else◌}
use Rattle.std.proofs.lemmas.List.{map-append}
use Rattle.lalrpop_norm_tree.specs.declared.items.Alternative.{Alternative}
use Rattle.lalrpop_norm_tree.specs.Items.{AlternativeData, alternative_view}
use Rattle.lalrpop_norm_macro_expand.specs.declared.macro_expand.instance.Kept.{Kept}
use Rattle.lalrpop_norm_macro_expand.specs.Making.{copied_alternative}
use Rattle.lalrpop_norm_macro_expand.proofs.macro_expand.instance.add_alternative.Goals as goal
use Rattle.lalrpop_norm_macro_expand.proofs.macro_expand.instance.add_alternative.Goals.{then-keeps+in_ok-copy+in_ok-push+in_ok-push-2, else-keeps}

one_more : {A : Type 0} (old new : List A) (x : A) (b : Bool) → b ≡ true → new ≡ old ++ x ∷ [] → new ≡ old ++ (if b then x ∷ [] else [])
one_more old new x b e h = h ∙ ap (λ t. old ++ (if t then x ∷ [] else [])) (sym e)

no_more : {A : Type 0} (old new : List A) (x : A) (b : Bool) → b ≡ false → new ≡ old → new ≡ old ++ (if b then x ∷ [] else [])
no_more old new x b e h = h ∙ sym (append-nil old) ∙ ap (λ t. old ++ (if t then x ∷ [] else [])) (sym e)

pub returns-clause-refuses : goal.returns-clause-refuses
returns-clause-refuses c = c.in_ok-keeps.ensures.0

pub returns-clause-adds : goal.returns-clause-adds
returns-clause-adds c =
    let old : List Alternative = c.args.kept.now.alternatives.items in
    let copied : AlternativeData = copied_alternative c.args.head.now.span (alternative_view c.args.alternative.now) in
    let seen : Kept → List AlternativeData = λ k. map alternative_view k.alternatives.items in
    elim c.if-keeps.branch [
      | then-keeps+in_ok-copy+in_ok-push+in_ok-push-2 w ↦
          one_more (map alternative_view old) _ copied _ (sym c.in_ok-keeps.ensures.1 ∙ w.if-keeps.true)
          (ap seen w.kept-is ∙ ap (map alternative_view) w.in_ok-push.ensures.items ∙ map-append alternative_view old (w.in_ok-copy.copy ∷ [])
          ∙ ap (λ d. map alternative_view old ++ d ∷ []) w.in_ok-copy.ensures)
      | else-keeps w ↦ no_more (map alternative_view old) _ copied _ (sym c.in_ok-keeps.ensures.1 ∙ w.if-keeps.false) (ap seen w.kept-is)
    ]

pub returns-clause-places : goal.returns-clause-places
returns-clause-places c =
    elim c.if-keeps.branch [
      | then-keeps+in_ok-copy+in_ok-push+in_ok-push-2 w ↦
          one_more c.args.kept.now.places.items _ c.args.place _ (sym c.in_ok-keeps.ensures.1 ∙ w.if-keeps.true)
          (ap (λ (k : Kept). k.places.items) w.kept-is ∙ w.in_ok-push-2.ensures.items)
      | else-keeps w ↦ no_more c.args.kept.now.places.items _ c.args.place _ (sym c.in_ok-keeps.ensures.1 ∙ w.if-keeps.false) (ap (λ (k : Kept). k.places.items) w.kept-is)
    ]
