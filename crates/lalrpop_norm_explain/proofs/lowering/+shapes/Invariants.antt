use Rattle.std.proofs.Common.{◌≡◌, map, drop}
use Rattle.lalrpop_norm_explain.specs.Derivations.{tree_symbol, symbols_view}
use Rattle.lalrpop_norm_explain.specs.TracedGrammars.{grammar_of}
use Rattle.lalrpop_norm_explain.specs.Plans.{each, most_steps}
use Rattle.lalrpop_norm_explain.specs.TreeLowering.{shapes_faults, each_lowered}
use Rattle.lalrpop_norm_explain.specs.Trees.{lowered_view, written_views}
use Rattle.lalrpop_norm_explain.proofs.Lowered.{put_before}
use Rattle.lalrpop_norm_explain.proofs.lowering.+shapes.Given as goal

abbrev pub invariant-lower_all-loop-place : goal.invariant-lower_all-loop-place
invariant-lower_all-loop-place l = record {
  faults : shapes_faults (grammar_of l.traced) most_steps (written_views (drop l.place l.trees)) (symbols_view (drop l.place l.symbols)) l.place
      ≡ shapes_faults (grammar_of l.traced) most_steps (written_views l.trees) (symbols_view l.symbols) 0;
  made : put_before (map lowered_view l.lowered.items) (each_lowered (grammar_of l.traced) most_steps (written_views (drop l.place l.trees)) (symbols_view (drop l.place l.symbols)))
      ≡ each_lowered (grammar_of l.traced) most_steps (written_views l.trees) (symbols_view l.symbols);
}

abbrev pub invariant-lower_each-loop-place : goal.invariant-lower_each-loop-place
invariant-lower_each-loop-place l = record {
  faults : shapes_faults (grammar_of l.traced) most_steps (written_views (drop l.place l.trees)) (each (tree_symbol l.symbol) (written_views (drop l.place l.trees))) l.place
      ≡ shapes_faults (grammar_of l.traced) most_steps (written_views l.trees) (each (tree_symbol l.symbol) (written_views l.trees)) 0;
  made : put_before (map lowered_view l.lowered.items) (each_lowered (grammar_of l.traced) most_steps (written_views (drop l.place l.trees)) (each (tree_symbol l.symbol) (written_views (drop l.place l.trees))))
      ≡ each_lowered (grammar_of l.traced) most_steps (written_views l.trees) (each (tree_symbol l.symbol) (written_views l.trees));
}
