use Rattle.std.proofs.Common.{arith, ◌≡◌, length, vec_len}
use Rattle.lalrpop_norm_tree_parts.proofs.ReprKinds.{no_unit}
use Rattle.lalrpop_norm_tree_parts.proofs.ReprViews.{unit_or_not}
use Rattle.lalrpop_norm_tree_parts.proofs.lowered.TypeRepr.is_unit.Goals as goal

pub returns-in-Tuple : goal.returns-in-Tuple
returns-in-Tuple c =
    let same : vec_len c.in-Tuple.types ≡ length c.in-Tuple.types.items = omega (arith, c.in-Tuple.types.ok.0) in
    rw (c.is_empty.ensures, same) (unit_or_not c.args.self.now c.in-Tuple.types c.in-Tuple.is)

pub returns-in-Slice : goal.returns-in-Slice
returns-in-Slice c = no_unit c.args.self.now c.in-Slice.is

pub returns-in-Slice-2 : goal.returns-in-Slice-2
returns-in-Slice-2 c = no_unit c.args.self.now c.in-Slice.is

pub returns-in-Slice-3 : goal.returns-in-Slice-3
returns-in-Slice-3 c = no_unit c.args.self.now c.in-Slice.is

pub returns-in-Slice-4 : goal.returns-in-Slice-4
returns-in-Slice-4 c = no_unit c.args.self.now c.in-Slice.is

pub returns-in-Slice-5 : goal.returns-in-Slice-5
returns-in-Slice-5 c = no_unit c.args.self.now c.in-Slice.is

pub returns-in-Slice-6 : goal.returns-in-Slice-6
returns-in-Slice-6 c = no_unit c.args.self.now c.in-Slice.is

pub returns-in-Slice-7 : goal.returns-in-Slice-7
returns-in-Slice-7 c = no_unit c.args.self.now c.in-Slice.is
