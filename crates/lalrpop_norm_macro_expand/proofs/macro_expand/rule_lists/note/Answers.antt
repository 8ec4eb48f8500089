use Rattle.std.proofs.Common.{◌≡◌, ℕ, List, Vec, Global, Option, None, sym, ◌∙◌, nat_cmp}
use Rattle.std.specs.Cmp.Lexicographic.{slice_cmp}
use Rattle.std.specs.BTreeMap.{get}
use Rattle.std.proofs.lemmas.Bool.{false_from_ne_true}
use Rattle.std.proofs.lemmas.Slice.Eq.{bytes_eq-Decides}
use Rattle.std.proofs.lemmas.Map.Text.{is_eq-slice_cmp}
use Rattle.lalrpop_norm_origins.specs.declared.origin.Origin.{Origin}
use Rattle.lalrpop_norm_macro_expand_rules.proofs.MacroLemmas.{not_found, noted}
use Rattle.lalrpop_norm_macro_expand.proofs.macro_expand.rule_lists.note.Goals as goal

pub returns : goal.returns
returns c =
    let key : List ℕ = c.args.list.name in
    let new : List ℕ → Option (Vec Origin Global) = λ n. get (slice_cmp nat_cmp) c.insert.new.self n in
    let old : List ℕ → Option (Vec Origin Global) = λ n. get (slice_cmp nat_cmp) c.args.named.now n in
    let none : old key ≡ None = not_found (old key) (sym c.contains_key.ensures ∙ c.if-contains_key.false) in
    noted old new key c.args.list.origins none c.in_ok-insert.ensures.updates.1
    (λ m other. c.in_ok-insert.ensures.updates.2 m (is_eq-slice_cmp key m ∙ false_from_ne_true _ (λ e. other ((bytes_eq-Decides key m).0 e))))
