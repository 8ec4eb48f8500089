use Rattle.std.proofs.Common.{◌≡◌, ◌++◌, map, [], ◌∷◌}
use Rattle.serde_json.specs.View.{items_of}
use Rattle.lalrpop_norm_json.specs.Json.{row}
use Rattle.lalrpop_norm_lowered_json_tables.specs.Written.{items_left}
use Rattle.lalrpop_norm_lowered_json_tables.proofs.put.put_rows.Given as goal

-- what is written, and what the rows that are left will add
abbrev pub invariant-loop-name : goal.invariant-loop-name
invariant-loop-name g l =
    record {
      written : l.out.tokens ++ items_left (items_of (map (λ r. row (g.K.Puts.form r.0 ∷ g.L.Puts.form r.1 ∷ [])) l.name-iterator))
          ≡ l.initial.out.tokens ++ items_left (items_of (map (λ r. row (g.K.Puts.form r.0 ∷ g.L.Puts.form r.1 ∷ [])) l.rows.entries));
      before : l.out.before ≡ l.initial.out.before;
    }
