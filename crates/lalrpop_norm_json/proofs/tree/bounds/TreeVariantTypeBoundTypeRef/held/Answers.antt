use Rattle.std.proofs.Common.{[], ◌∷◌, codes}
use Rattle.lalrpop_norm_json.specs.Shapes as shape
use Rattle.lalrpop_norm_json.specs.Shapes.{field, named, one, many, maybe}
use Rattle.lalrpop_norm_json.proofs.Shaped.{no_case}
use Rattle.lalrpop_norm_json.proofs.tree.bounds.TreeVariantTypeBoundTypeRef.held.Goals as goal

pub returns-in_ok-pass-in_default-clause-ok : goal.returns-in_ok-pass-in_default-clause-ok
returns-in_ok-pass-in_default-clause-ok c =
    let done = c.in_ok-pass-in_default.ensures.ok in
    record {
      means = done.0;
      read = done.1;
      made = no_case []
          ((codes "Lifetime", field (one shape.text))
          ∷ (
            codes "Fn",
            named ((codes "forall", many shape.type_parameter) ∷ (codes "parameters", many shape.type) ∷ (codes "path", one shape.path) ∷ (codes "ret", maybe shape.type) ∷ []),
          )
          ∷ (codes "Trait", named ((codes "forall", many shape.type_parameter) ∷ (codes "parameters", many shape.bound_parameter) ∷ (codes "path", one shape.path) ∷ []))
          ∷ []) c.args.name.now done.0 (c.in_default.not-Lifetime, (c.in_default.not-Fn, (c.in_default.not-Trait, tt)));
    }
