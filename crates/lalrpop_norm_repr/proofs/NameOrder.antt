-- The order of names is total, and a name below those of rows is not found among them.
use Rattle.std.proofs.Common.{◌≡◌, ◌∙◌, List, [], ◌∷◌, Option, None, Bool, false, bytes_eq, refl, sym, ap}
use Rattle.std.specs.declared.cmp.Ordering.TheVariants.{Less}
use Rattle.std.specs.Cmp.{IsTotalOrder}
use Rattle.std.specs.Cmp.Lexicographic.{nat_list_cmp_total}
use Rattle.std.specs.List.{AllByRecursion}
use Rattle.std.specs.Map.{keys_of}
use Rattle.std.specs.Ordering.{is_eq}
use Rattle.std.proofs.lemmas.Cmp.{on_total}
use Rattle.std.proofs.lemmas.Map.Text.{is_eq-slice_cmp}
use Rattle.lalrpop_norm_tree_names.specs.declared.names.NonterminalString.{NonterminalString}
use Rattle.lalrpop_norm_repr.specs.Orders.{name_cmp}
use Rattle.lalrpop_norm_repr.specs.Tables.{found}

pub names_total : IsTotalOrder name_cmp
names_total = on_total (λ (n : NonterminalString). n.0) nat_list_cmp_total

pub below_is_other : (a b : NonterminalString) → name_cmp a b ≡ Less → bytes_eq a.0 b.0 ≡ false
below_is_other a b less = sym (is_eq-slice_cmp a.0 b.0) ∙ ap is_eq less

pub none_above : {V : Type 0} (name : NonterminalString) (rs : List (NonterminalString × V)) → AllByRecursion (λ other. name_cmp name other ≡ Less) (keys_of rs) → found name rs ≡ None
none_above name [] above = refl
none_above name (r ∷ rs) above = rw (below_is_other name r.0 above.0) (none_above name rs above.1)
