use Rattle.std.proofs.Common.{◌≡◌, ℕ, List, Option, None, sym, ap, ◌∙◌, nat_cmp}
use Rattle.std.specs.Cmp.Lexicographic.{slice_cmp}
use Rattle.std.specs.BTreeMap.{get}
use Rattle.std.proofs.lemmas.Bool.{false_from_ne_true}
use Rattle.std.proofs.lemmas.Slice.Eq.{bytes_eq-Decides}
use Rattle.std.proofs.lemmas.Map.Text.{is_eq-slice_cmp}
use Rattle.lalrpop_norm_macro_expand_rules.proofs.MacroLemmas.{not_found, noted}
use Rattle.lalrpop_norm_macro_expand_rules.proofs.macros.note.Goals as goal

pub returns : goal.returns
returns c =
    let key : List ℕ = c.in_ok-clone.field-0 in
    let keyed : key ≡ c.args.name.now = c.in_ok-clone.ensures.cases in
    let new : List ℕ → Option ℕ = λ n. get (slice_cmp nat_cmp) c.insert.new.self n in
    let old : List ℕ → Option ℕ = λ n. get (slice_cmp nat_cmp) c.args.places.now n in
    let none : old c.args.name.now ≡ None = not_found (old c.args.name.now) (sym c.contains_key.ensures ∙ c.if-contains_key.false) in
    noted old new c.args.name.now c.args.place none (ap new (sym keyed) ∙ c.in_ok-insert.ensures.updates.1)
    (λ m other. c.in_ok-insert.ensures.updates.2 m (is_eq-slice_cmp key m ∙ false_from_ne_true _ (λ e. other (sym keyed ∙ (bytes_eq-Decides key m).0 e))))
