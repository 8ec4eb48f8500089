-- The rules of repeats, part by part.
use Rattle.std.proofs.Common.{◌≡◌, ℕ, List, Option, ap, ◌∙◌}
use Rattle.lalrpop_norm_tree_names.specs.declared.names.Span.{Span}
use Rattle.lalrpop_norm_tree_parts.specs.Attributes.{Attributes}
use Rattle.lalrpop_norm_tree.specs.declared.symbol.RepeatOp.{RepeatOp}
use Rattle.lalrpop_norm_tree.specs.Symbols.{Part}
use Rattle.lalrpop_norm_tree.specs.Types.{TypeData}
use Rattle.lalrpop_norm_tree.specs.Items.{AlternativeData}
use Rattle.lalrpop_norm_model.specs.MadeRules.{repeat_rule}
use Rattle.lalrpop_norm_macro_expand_rules.specs.Rules.{named_rule}
use Rattle.lalrpop_norm_macro_expand_repeats.specs.Repeats.{repeat_shape}

pub repeat_shaped : (name : List ℕ) (s : Span) (op : RepeatOp) (p over : Part) (marks : Attributes) (type : Option TypeData) (alternatives : List AlternativeData) →
    marks ≡ (repeat_rule s op p).attributes → type ≡ (repeat_rule s op p).type_decl → alternatives ≡ (repeat_rule s op over).alternatives →
    named_rule name s marks type alternatives ≡ repeat_shape name s op p over
repeat_shaped name s op p over marks type alternatives a t xs =
    ap (λ (x : Attributes). named_rule name s x type alternatives) a
    ∙ ap (λ (x : Option TypeData). named_rule name s (repeat_rule s op p).attributes x alternatives) t
    ∙ ap (λ (x : List AlternativeData). named_rule name s (repeat_rule s op p).attributes (repeat_rule s op p).type_decl x) xs
