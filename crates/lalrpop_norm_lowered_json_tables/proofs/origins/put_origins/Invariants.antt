use Rattle.std.proofs.Common.{◌≡◌, ◌++◌, drop, map}
use Rattle.serde_json.specs.View.{items_of}
use Rattle.lalrpop_norm_origins.specs.Origins.{origin_view}
use Rattle.lalrpop_norm_lowered_json_tables.specs.Written.{items_left}
use Rattle.lalrpop_norm_lowered_json_tables.specs.TableForms.{origin_form}
use Rattle.lalrpop_norm_lowered_json_tables.proofs.origins.put_origins.Given as goal

-- what is written, and what the origins that are left will add
abbrev pub invariant-loop-origin : goal.invariant-loop-origin
invariant-loop-origin l =
    record {
      written : l.out.tokens ++ items_left (items_of (map (λ o. origin_form (origin_view o)) (drop l.origin-index l.origins)))
          ≡ l.initial.out.tokens ++ items_left (items_of (map (λ o. origin_form (origin_view o)) l.origins));
      before : l.out.before ≡ l.initial.out.before;
    }
