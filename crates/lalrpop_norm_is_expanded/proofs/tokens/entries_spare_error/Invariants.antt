use Rattle.std.proofs.Common.{◌≡◌, drop}
use Rattle.std.specs.List.{list_all}
use Rattle.lalrpop_norm_is_expanded.specs.Tokens.{entry_spares_error}
use Rattle.lalrpop_norm_is_expanded.proofs.tokens.entries_spare_error.Given as goal

abbrev pub invariant-loop-entry : goal.invariant-loop-entry
invariant-loop-entry l = list_all entry_spares_error (drop l.entry-index l.entries) ≡ list_all entry_spares_error l.entries
