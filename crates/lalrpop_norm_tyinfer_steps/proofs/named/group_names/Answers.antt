use Rattle.std.proofs.Common.{List, map}
use Rattle.std.specs.List.{flat_map}
use Rattle.std.proofs.lemmas.Grind.{flat_map-append}
use Rattle.lalrpop_norm_tree.specs.declared.items.MatchContents.{MatchContents}
use Rattle.lalrpop_norm_tree.specs.Items.{match_contents_view}
use Rattle.lalrpop_norm_model.specs.TokenFaults.{names_mapped_by}
use Rattle.lalrpop_norm_common.proofs.ListLemmas.{next_collected}
use Rattle.lalrpop_norm_tyinfer_steps.proofs.named.group_names.Goals as goal

pub loop-group-preserved : goal.loop-group-preserved
loop-group-preserved c =
    let made = rw c.deref.ensures.value at c.in_ok-add_items.ensures in
    next_collected (λ (xs : List MatchContents). flat_map names_mapped_by (flat_map (λ items. items) (map match_contents_view xs))) (λ (x : MatchContents). flat_map names_mapped_by (match_contents_view x))
    (λ x xs. flat_map-append names_mapped_by (match_contents_view x) (flat_map (λ items. items) (map match_contents_view xs)))
    c.args.groups.now c.loop-group.group-index c.group-item.result c.loop-group.names.items c.add_items.new.names.items _
    c.loop-group-test.true c.group-item.is made c.loop-group.invariant
