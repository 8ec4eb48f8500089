use Rattle.std.proofs.Common.{◌≡◌, map, take, drop}
use Rattle.lalrpop_norm_theory.specs.Translations.{written_tree}
use Rattle.lalrpop_norm_explain.specs.TreeFaults.{children_faults}
use Rattle.lalrpop_norm_explain.specs.Derivations.{symbols_view}
use Rattle.lalrpop_norm_explain.specs.TracedGrammars.{grammar_of}
use Rattle.lalrpop_norm_explain.specs.Trees.{lowered_view, lowered_views, written_view}
use Rattle.lalrpop_norm_explain.proofs.reading.+nodes.Given as goal

abbrev pub invariant-explain_children-loop-place : goal.invariant-explain_children-loop-place
invariant-explain_children-loop-place l = record {
  faults : children_faults (grammar_of l.traced) (lowered_views (drop l.place l.children)) (symbols_view (drop l.place l.symbols)) l.place ≡ children_faults (grammar_of l.traced) (lowered_views l.children) (symbols_view l.symbols) 0;
  made : map written_view l.written.items ≡ map (λ u. written_tree (grammar_of l.traced) (lowered_view u)) (take l.place l.children);
}
