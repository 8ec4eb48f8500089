use Rattle.std.proofs.Common.{◌≡◌, ℕ, List, length, nat_lt, Option, Some, None, is_some, option_map, option_and_then, slice_get, get_or, refl, ap, sym, ◌∙◌}
use Rattle.std.specs.Prelude.{IfSome}
use Rattle.std.proofs.lemmas.Option.{slice_get_read, slice_get_past}
use borrow.Author.Tests.{ltb-true, ltb-false}
use Rattle.lalrpop_norm_nodes.proofs.given.given_in.Goals as goal

item_lent : {R X : Type 0} (now : R → X) (xs : List X) (i : ℕ) (r : Option R) → is_some r ≡ nat_lt i (length xs) → IfSome r (λ x. now x ≡ get_or xs i (now x)) → option_map now r ≡ slice_get xs i
item_lent now xs i None within item = sym (slice_get_past xs i (ltb-false i (length xs) (sym within)))
item_lent now xs i (Some x) within item = sym (slice_get_read xs (length xs) i (now x) refl (ltb-true i (length xs) (sym within)) item)

pub returns : goal.returns
returns c =
    let xs = c.args.environment.now.given.now in
    let l = c.get.ensures.lookup in
    item_lent (λ g. g.now) xs c.in_ok-place.place c.get.result l.0 l.1
    ∙ ap (λ (o : Option ℕ). option_and_then (λ i. slice_get xs i) o) (sym c.in_ok-place.was ∙ c.number.ensures)
