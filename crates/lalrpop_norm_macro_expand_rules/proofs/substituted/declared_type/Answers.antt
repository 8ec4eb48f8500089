use Rattle.std.proofs.Common.{◌≡◌, ℕ, List, Option, IfOk, sym, subst}
use Rattle.lalrpop_norm_tree.specs.Symbols.{Kind}
use Rattle.lalrpop_norm_tree.specs.Types.{type_view}
use Rattle.lalrpop_norm_model.specs.MadeRules.{type_substituted}
use Rattle.lalrpop_norm_macro_expand_rules.proofs.ArgumentLemmas.{arguments_bound}
use Rattle.lalrpop_norm_macro_expand_rules.proofs.substituted.declared_type.Goals as goal

pub returns : goal.returns
returns c =
    subst (λ (f : List ℕ → Option Kind). IfOk c.type_substituted.result (λ t. type_view t ≡ type_substituted f (type_view c.args.written.now)))
    (sym (arguments_bound c.args.bindings.now c.requires.numbers)) c.type_substituted.ensures
