use Rattle.std.proofs.Common.{map, ap, ◌∙◌, sym, arith}
use Rattle.std.proofs.lemmas.List.{take_all}
use Rattle.lalrpop_norm_tree.specs.declared.types.TypeRef.{TypeRef}
use Rattle.lalrpop_norm_tree.specs.Types.{type_view, types_of}
use Rattle.lalrpop_norm_model.specs.MadeRules.{type_substituted}
use Rattle.lalrpop_norm_macro_expand_rules.specs.Bound.{bound_kind}
use Rattle.lalrpop_norm_macro_expand_rules.proofs.InstanceLemmas.{types_substituted_are}
use Rattle.lalrpop_norm_macro_expand_rules.proofs.substituted.+type_substituted.Goals as goal

pub types_substituted-returns : goal.types_substituted-returns
types_substituted-returns t c =
    let argument = bound_kind c.args.bindings.now in
    ap types_of
    (c.loop-inner.invariant
    ∙ ap (λ ts. map (λ (u : TypeRef). type_substituted argument (type_view u)) ts) (take_all c.loop-inner.inner-index c.args.types.now (omega arith)))
    ∙ sym (types_substituted_are argument c.args.types.now)
