-- One level of the view of names for the parts of a tuple.
use Rattle.std.proofs.Common.{◌≡◌, Vec, Global}
use Rattle.lalrpop_norm_tree.specs.declared.symbol.ArgPattern.{ArgPattern}
use Rattle.lalrpop_norm_tree.specs.declared.symbol.ArgPattern.TheFolds.{fold-roll-Tuple}
use Rattle.lalrpop_norm_tree.specs.declared.symbol.ArgPattern.TheViews.{roll-Tuple}
use Rattle.lalrpop_norm_tree.specs.Symbols.{ArgumentPattern, ArgumentPatterns, argument_pattern_step, tuple_step, tuple_view, argument_patterns_view}

pub tuple_seen : (ps : Vec ArgPattern Global) → tuple_view (roll-Tuple (record { tuples = ps })) ≡ argument_patterns_view ps.items
tuple_seen ps = fold-roll-Tuple ArgumentPattern ArgumentPatterns argument_pattern_step tuple_step (record { tuples = ps })
