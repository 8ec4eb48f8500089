use Rattle.std.proofs.Common.{◌≡◌, ◌++◌, drop, map}
use Rattle.lalrpop_norm_tree_parts.specs.Reprs.{repr_view}
use Rattle.lalrpop_norm_tree_patterns.specs.Patterns.{pattern_view, field_view, patterns_of, fields_of}
use Rattle.lalrpop_norm_lowered_json_tables.specs.Written.{items_left}
use Rattle.lalrpop_norm_lowered_json.specs.LoweredForms.{lowered_patterns_form, lowered_fields_form}
use Rattle.lalrpop_norm_lowered_json.proofs.patterns.+patterns.Given as goal

-- what is written, and what the patterns that are left will add
abbrev pub invariant-put_patterns-loop-pattern : goal.invariant-put_patterns-loop-pattern
invariant-put_patterns-loop-pattern l =
    record {
      written : l.out.tokens ++ items_left (lowered_patterns_form (patterns_of (map (pattern_view repr_view) (drop l.pattern-index l.patterns.items))))
          ≡ l.initial.out.tokens ++ items_left (lowered_patterns_form (patterns_of (map (pattern_view repr_view) l.patterns.items)));
      before : l.out.before ≡ l.initial.out.before;
    }

abbrev pub invariant-put_fields-loop-field : goal.invariant-put_fields-loop-field
invariant-put_fields-loop-field l =
    record {
      written : l.out.tokens ++ items_left (lowered_fields_form (fields_of (map (field_view repr_view) (drop l.field-index l.fields.items))))
          ≡ l.initial.out.tokens ++ items_left (lowered_fields_form (fields_of (map (field_view repr_view) l.fields.items)));
      before : l.out.before ≡ l.initial.out.before;
    }
