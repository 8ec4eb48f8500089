use Rattle.std.proofs.Common.{◌≡◌, ◌++◌, drop}
use Rattle.lalrpop_norm_tree_parts.specs.Attributes.{attributes_view}
use Rattle.lalrpop_norm_json.specs.Forms.{attributes_form}
use Rattle.lalrpop_norm_lowered_json_tables.specs.Written.{items_left}
use Rattle.lalrpop_norm_lowered_json.proofs.attributes.+attribute.Given as goal

-- what is written, and what the attributes that are left will add
abbrev pub invariant-put_attributes-loop-attribute : goal.invariant-put_attributes-loop-attribute
invariant-put_attributes-loop-attribute l =
    record {
      written : l.out.tokens ++ items_left (attributes_form (attributes_view (drop l.attribute-index l.attributes.items)))
          ≡ l.initial.out.tokens ++ items_left (attributes_form (attributes_view l.attributes.items));
      before : l.out.before ≡ l.initial.out.before;
    }
