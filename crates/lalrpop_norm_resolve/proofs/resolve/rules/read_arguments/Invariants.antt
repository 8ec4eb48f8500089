use Rattle.std.proofs.Common.{◌≡◌, ℕ, List, nat_cmp, drop}
use Rattle.std.specs.Prelude.{is_some}
use Rattle.std.specs.BTreeSet.{contains}
use Rattle.std.specs.Cmp.Lexicographic.{slice_cmp}
use Rattle.lalrpop_norm_model.specs.Scopes.{is_argument}
use Rattle.lalrpop_norm_resolve.specs.NameFaults.{has_repeated_argument}
use Rattle.lalrpop_norm_resolve.proofs.resolve.rules.read_arguments.Given as goal

abbrev pub invariant-loop-i : goal.invariant-loop-i
invariant-loop-i l = record {
  names : (name : List ℕ) → contains (slice_cmp nat_cmp) l.names name ≡ is_argument (drop l.i l.args) name;
  again : is_some l.again ≡ has_repeated_argument (drop l.i l.args);
}
