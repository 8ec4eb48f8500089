use Rattle.std.proofs.Common.{◌≡◌, ◌++◌, drop}
use Rattle.lalrpop_norm_tree.specs.Symbols.{argument_patterns_view}
use Rattle.lalrpop_norm_json.specs.SymbolForms.{argument_patterns_form}
use Rattle.lalrpop_norm_lowered_json_tables.specs.Written.{items_left}
use Rattle.lalrpop_norm_lowered_json.proofs.arguments.+arguments.Given as goal

-- what is written, and what the patterns that are left will add
abbrev pub invariant-put_patterns-loop-pattern : goal.invariant-put_patterns-loop-pattern
invariant-put_patterns-loop-pattern l =
    record {
      written : l.out.tokens ++ items_left (argument_patterns_form (argument_patterns_view (drop l.pattern-index l.patterns.items)))
          ≡ l.initial.out.tokens ++ items_left (argument_patterns_form (argument_patterns_view l.patterns.items));
      before : l.out.before ≡ l.initial.out.before;
    }
