use Rattle.std.proofs.Common.{◌∙◌, map, ap, sym, subst}
use Rattle.std.specs.Prelude.{IfOk}
use Rattle.lalrpop_norm_tree.specs.Items.{RuleData, item_view}
use Rattle.lalrpop_norm_tree_names.specs.declared.names.NonterminalString.{NonterminalString}
use Rattle.lalrpop_norm_tree_parts.proofs.KnownTextLemmas.{map_twice}
use Rattle.lalrpop_norm_names.specs.Numbers.{IsNumbering}
use Rattle.lalrpop_norm_lower.specs.Lowering.{rules_among}
use Rattle.lalrpop_norm_lower.proofs.numbered.numbers_of_rules.Goals as goal

pub returns : goal.returns
returns c =
    let text = λ (n : NonterminalString). n.0 in
    let same = ap (map text) (c.deref.ensures.value ∙ c.in_ok-names.ensures) ∙ sym (map_twice text (λ (r : RuleData). r.name) (rules_among (map item_view c.args.items.now))) in
    subst (λ ns. IfOk c.of.result (IsNumbering ns)) same c.of.ensures
