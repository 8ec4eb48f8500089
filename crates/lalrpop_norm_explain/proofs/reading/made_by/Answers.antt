use Rattle.std.proofs.Common.{refl, sym, ap, ◌∙◌}
use Rattle.lalrpop_norm_theory.specs.WrittenTrees.{list, node}
use Rattle.lalrpop_norm_theory.specs.Translations.{made_by}
use Rattle.lalrpop_norm_origins.specs.Origins.{origin_view}
use Rattle.lalrpop_norm_explain.specs.Trees.{written_views}
use Rattle.lalrpop_norm_explain.proofs.Origins.{step_made, list_made, empty_made, nothing_made}
use Rattle.lalrpop_norm_explain.proofs.Views.{nothing_seen, list_seen, written_seen}
use Rattle.lalrpop_norm_explain.proofs.reading.made_by.Goals as goal

pub returns-in-Start : goal.returns-in-Start
returns-in-Start c = c.first.ensures ∙ sym (step_made c.args.origin.now (written_views c.args.children.items) c.in-Start.is)

pub returns-in-Written : goal.returns-in-Written
returns-in-Written c =
    written_seen _ c.name_again.result c.in-Written.alternative c.args.children refl
    ∙ ap (λ n. node n.0 c.in-Written.alternative (written_views c.args.children.items)) c.name_again.ensures
    ∙ sym (ap (λ o. made_by (origin_view o) (written_views c.args.children.items)) c.in-Written.is)

pub returns-in-Group : goal.returns-in-Group
returns-in-Group c = list_seen c.args.children ∙ sym (list_made c.args.origin.now _ c.in-Group.is)

pub returns-in-StarEmpty : goal.returns-in-StarEmpty
returns-in-StarEmpty c = list_seen c.new.result ∙ ap (λ ts. list (written_views ts)) c.new.ensures.items ∙ sym (empty_made c.args.origin.now _ c.in-StarEmpty.is)

pub returns-in_ok-extended-in-PlusMore : goal.returns-in_ok-extended-in-PlusMore
returns-in_ok-extended-in-PlusMore c = c.in_ok-extended-in-PlusMore.ensures ∙ sym (ap (λ o. made_by (origin_view o) (written_views c.args.children.items)) c.in-PlusMore.is)

pub returns-in-Lookahead : goal.returns-in-Lookahead
returns-in-Lookahead c = nothing_seen ∙ sym (nothing_made c.args.origin.now _ c.in-Lookahead.is)
