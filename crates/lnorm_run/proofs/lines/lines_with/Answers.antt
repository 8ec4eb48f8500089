use Rattle.std.proofs.Common.{option_map, string_bytes}
use Rattle.lalrpop_norm_origins.specs.Origins.{origins_view}
use Rattle.lalrpop_norm_repr.specs.Productions.{nonterminal_data_view}
use Rattle.lalrpop_norm_repr.specs.Tables.{rows}
use Rattle.lnorm_run.proofs.WholeLines.{all_lines}
use Rattle.lnorm_run.proofs.lines.lines_with.Goals as goal

pub returns : goal.returns
returns g c =
    all_lines (option_map (λ os. origins_view os.now) c.args.origins) (rows nonterminal_data_view c.args.nonterminals.now) (rows g.T.LoweredType.as_repr c.args.types.now)
    c.args.starts.now.entries
    (string_bytes c.in_ok-text.text) (string_bytes c.push_nonterminals.new.text) (string_bytes c.push_types.new.text) (string_bytes c.push_starts.new.text)
    c.in_ok-text.ensures.bytes c.in_ok-push_nonterminals.ensures c.in_ok-push_types.ensures c.in_ok-push_starts.ensures
