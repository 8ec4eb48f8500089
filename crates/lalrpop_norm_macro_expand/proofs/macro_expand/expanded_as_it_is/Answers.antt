use Rattle.std.proofs.Common.{List, length, refl, ap, ◌∙◌}
use Rattle.lalrpop_norm_tree.specs.Items.{GrammarData, ItemData, grammar_view}
use Rattle.lalrpop_norm_nodes.specs.Tables.{wholes_in}
use Rattle.lalrpop_norm_macro_expand.proofs.MadeLemmas.{none_made, all_made}
use Rattle.lalrpop_norm_macro_expand.proofs.RoundLemmas.{none_earlier}
use Rattle.lalrpop_norm_macro_expand.proofs.StaysLemmas.{all_stay}
use Rattle.lalrpop_norm_macro_expand.proofs.macro_expand.expanded_as_it_is.Goals as goal

pub returns : goal.returns
returns c =
    let g : GrammarData = grammar_view c.args.grammar in
    let last = all_stay g c.args.limit c.requires in
    record {
      refuses = last.faultless;
      whole = last.whole;
      plain = ap (λ (is : List ItemData). record g { items = is }) last.items;
      made = all_made g (wholes_in c.in_ok-table.table) 0 c.args.limit c.new.result.items (rw c.new.ensures.items (none_made g (wholes_in c.in_ok-table.table))) last.stays;
      rounds = record { round = 0; number = refl; ended = last.ended; first = none_earlier g };
      table = c.in_ok-table.ensures.table;
      counted = c.in_ok-table.ensures.counted;
      seen = ap length c.in_ok-table.ensures.seen ∙ last.long;
    }
