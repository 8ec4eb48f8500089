use Rattle.std.proofs.Common.{length, map, sym, ap, ◌∙◌}
use Rattle.std.proofs.lemmas.List.{length-map}
use Rattle.lalrpop_norm_nodes.specs.Apart.{unplaced}
use Rattle.lalrpop_norm_nodes.specs.Tables.{wholes_in}
use Rattle.lalrpop_norm_nodes.specs.Wholes.{part_at}
use Rattle.lalrpop_norm_nodes.proofs.MeetingLemmas.{err_refuses}
use Rattle.lalrpop_norm_tree.specs.Items.{grammar_view}
use Rattle.lalrpop_norm_conditions.specs.Conditions.{comparison}
use Rattle.lalrpop_norm_model.specs.PlainRules.{made_symbols}
use Rattle.lalrpop_norm_macro_expand.proofs.macro_expand.expand_counted.Goals as goal

pub returns-in_err-expanded-clause-refuses : goal.returns-in_err-expanded-clause-refuses
returns-in_err-expanded-clause-refuses c = err_refuses _ _ _ c.from_residual.ensures.1 c.in_err-expanded.ensures.refuses

pub returns-clause-counts : goal.returns-clause-counts
returns-clause-counts c =
    let x = c.in_ok-expanded.expanded in
    let symbols = made_symbols comparison (grammar_view c.args.grammar) c.args.limit in
    let instances =
    c.counted-counts.ensures.instances ∙ sym (length-map x.made.items (λ m. part_at (wholes_in x.table) m.number))
    ∙ ap length c.in_ok-expanded.ensures.made.symbols ∙ length-map symbols unplaced in
    record {
      instances = instances;
      rounds = rw c.counted-counts.ensures.rounds c.in_ok-expanded.ensures.rounds;
      texts = c.counted-counts.ensures.texts ∙ c.in_ok-expanded.ensures.seen ∙ sym instances;
    }
