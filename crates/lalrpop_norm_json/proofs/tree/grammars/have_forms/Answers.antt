use Rattle.std.proofs.Common.{◌≡◌, sym, ◌∙◌, rules}
use Rattle.lalrpop_norm_json.proofs.ItemLemmas.{intern_at}
use Rattle.lalrpop_norm_json.proofs.tree.grammars.have_forms.Goals as goal

pub returns-in-InternToken : goal.returns-in-InternToken
returns-in-InternToken c = sym (c.loop-item.invariant ∙ intern_at c.args.items.now c.loop-item.item-index _ c.in-InternToken.field-0 c.loop-item-test.true (sym c.item-item.is ∙ c.in-InternToken.is))
