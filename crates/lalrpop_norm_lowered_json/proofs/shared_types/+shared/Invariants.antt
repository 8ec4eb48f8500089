use Rattle.std.proofs.Common.{◌≡◌, ◌++◌, drop}
use Rattle.lalrpop_norm_shared_types.specs.Shared.{shared_all}
use Rattle.lalrpop_norm_lowered_json_tables.specs.Written.{items_left}
use Rattle.lalrpop_norm_lowered_json.specs.LoweredForms.{reprs_form}
use Rattle.lalrpop_norm_lowered_json.proofs.shared_types.+shared.Given as goal

-- what is written, and what the types that are left will add
abbrev pub invariant-put_all-loop-ty : goal.invariant-put_all-loop-ty
invariant-put_all-loop-ty l =
    record {
      written : l.out.tokens ++ items_left (reprs_form (shared_all (drop l.ty-index l.types.items)))
          ≡ l.initial.out.tokens ++ items_left (reprs_form (shared_all l.types.items));
      before : l.out.before ≡ l.initial.out.before;
    }
