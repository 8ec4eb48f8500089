use Rattle.std.proofs.Common.{true, cond, ap, ◌∙◌, bytes_eq}
use Rattle.lalrpop_norm_nodes.specs.Meeting.{has_key}
use Rattle.lalrpop_norm_macro_expand_rules.proofs.NameLemmas.{name_inserted}
use Rattle.lalrpop_norm_macro_expand_rules.proofs.names.insert_name.Goals as goal

pub returns : goal.returns
returns c =
    let before = c.args.names.now in
    name_inserted before c.insert.new.self c.args.name.now
    (λ t. c.in_ok-insert.ensures.updates.0 t ∙ ap (λ n. cond (bytes_eq n t) true (has_key before t)) c.in_ok-clone.ensures.cases)
