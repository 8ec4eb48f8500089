use Rattle.std.proofs.Common.{◌≡◌, ◌++◌, drop}
use Rattle.lalrpop_norm_tree_parts.specs.Reprs.{reprs_view}
use Rattle.lalrpop_norm_lowered_json_tables.specs.Written.{items_left}
use Rattle.lalrpop_norm_lowered_json.specs.LoweredForms.{reprs_form}
use Rattle.lalrpop_norm_lowered_json.proofs.types.+types.Given as goal

-- what is written, and what the types that are left will add
abbrev pub invariant-put_types-loop-ty : goal.invariant-put_types-loop-ty
invariant-put_types-loop-ty l =
    record {
      written : l.out.tokens ++ items_left (reprs_form (reprs_view (drop l.ty-index l.types.items)))
          ≡ l.initial.out.tokens ++ items_left (reprs_form (reprs_view l.types.items));
      before : l.out.before ≡ l.initial.out.before;
    }
