use Rattle.std.proofs.Common.{◌≡◌, Bor, List, Option, IfOk, map, option_map, ap, subst, sym, ◌∙◌}
use Rattle.std.specs.List.{flat_map}
use Rattle.lalrpop_norm_tree.specs.declared.items.MatchContents.{MatchContents}
use Rattle.lalrpop_norm_tree.specs.declared.items.MatchToken.{MatchToken}
use Rattle.lalrpop_norm_tree.specs.Items.{match_contents_view, match_token_view}
use Rattle.lalrpop_norm_model.specs.Entries.{entries_in, user_names}
use Rattle.lalrpop_norm_model.specs.TokenFaults.{names_mapped_by}
use Rattle.lalrpop_norm_model.proofs.EnteredTokens.{groups_names}
use Rattle.lalrpop_norm_tyinfer_steps.proofs.named.block_names.Goals as goal

pub returns-in-Some : goal.returns-in-Some
returns-in-Some c =
    subst (λ names. IfOk c.group_names.result (λ ts. ts.items ≡ names))
    (ap (λ (gs : List MatchContents). flat_map names_mapped_by (flat_map (λ items. items) (map match_contents_view gs))) c.deref.ensures.value
    ∙ (sym (groups_names (map match_contents_view c.in-Some.block.now.contents.items))
    ∙ ap (λ (o : Option (Bor MatchToken)). user_names (entries_in (option_map (λ (m : Bor MatchToken). match_token_view m.now) o))) (sym c.in-Some.is)))
    c.group_names.ensures
