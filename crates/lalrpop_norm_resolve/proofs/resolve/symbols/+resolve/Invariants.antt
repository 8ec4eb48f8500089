use Rattle.std.proofs.Common.{◌≡◌, ◌≤◌, ℕ, drop, take, map, slice_index_or}
use Rattle.lalrpop_norm_tree.specs.declared.symbol.Symbol.{Symbol}
use Rattle.lalrpop_norm_tree.specs.Symbols.{parts_view, symbol_view}
use Rattle.lalrpop_norm_model.specs.Scopes.{resolved_part}
use Rattle.lalrpop_norm_resolve.specs.NameFaults.{parts_name_faults}
use Rattle.lalrpop_norm_resolve.specs.NameTables.{sense_in}
use Rattle.lalrpop_norm_resolve.proofs.resolve.symbols.+resolve.Given as goal

abbrev pub invariant-resolve_each-loop-symbol : goal.invariant-resolve_each-loop-symbol
invariant-resolve_each-loop-symbol l = record {
  rest : (k : ℕ) (d : Symbol) → l.symbol-index ≤ k → slice_index_or l.symbols k d ≡ slice_index_or l.initial.symbols k d;
  done : map symbol_view (take l.symbol-index l.symbols) ≡ map (λ s. resolved_part (sense_in l.globals l.args) (symbol_view s)) (take l.symbol-index l.initial.symbols);
  sound : parts_name_faults (sense_in l.globals l.args) (parts_view (drop l.symbol-index l.initial.symbols)) ≡ parts_name_faults (sense_in l.globals l.args) (parts_view l.initial.symbols);
}
