use Rattle.std.proofs.Common.{◌≡◌, ◌<◌, ◌^◌, IfSome, drop, map}
use Rattle.lalrpop_norm_tree.specs.Accessors.{or_else}
use Rattle.lalrpop_norm_tree.specs.Items.{match_contents_view}
use Rattle.lalrpop_norm_model.specs.Entries.{last_catch_all}
use Rattle.lalrpop_norm_common.proofs.match_block.last_catch_all.Given as goal

abbrev pub invariant-loop-index : goal.invariant-loop-index
invariant-loop-index l = record {
  last : or_else (last_catch_all (map match_contents_view (drop l.index l.groups))) l.last ≡ last_catch_all (map match_contents_view l.groups);
  small : IfSome l.last (λ p. p < 2 ^ 63);
}
