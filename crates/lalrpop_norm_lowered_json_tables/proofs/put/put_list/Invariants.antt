use Rattle.std.proofs.Common.{◌≡◌, ◌++◌, drop, map}
use Rattle.serde_json.specs.View.{items_of}
use Rattle.lalrpop_norm_lowered_json_tables.specs.Written.{items_left}
use Rattle.lalrpop_norm_lowered_json_tables.proofs.put.put_list.Given as goal

-- what is written, and what the items that are left will add
abbrev pub invariant-loop-item : goal.invariant-loop-item
invariant-loop-item g l =
    record {
      written : l.out.tokens ++ items_left (items_of (map g.K.Puts.form (drop l.item-index l.items.items)))
          ≡ l.initial.out.tokens ++ items_left (items_of (map g.K.Puts.form l.items.items));
      before : l.out.before ≡ l.initial.out.before;
    }
