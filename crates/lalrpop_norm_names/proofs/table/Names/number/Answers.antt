use Rattle.std.proofs.Common.{◌≡◌, ◌∙◌, length, sym, ap, arith}
use Rattle.lalrpop_norm_names.specs.Numbers.{first_place}
use Rattle.lalrpop_norm_names.proofs.Places.{number_without, number_among}
use Rattle.lalrpop_norm_names.proofs.table.Names.number.Goals as goal

pub returns-then-is_empty : goal.returns-then-is_empty
returns-then-is_empty c =
    let test = c.if-is_empty.ensures in
    let counted = c.args.self.now.few.ok.0 in
    let none : length c.args.self.now.few.items ≡ 0 = grind arith in
    c.copied.ensures ∙ c.get.ensures.value ∙ sym (number_without c.args.self.now.few.items _ c.args.name.now.0 none)

pub returns : goal.returns
returns c =
    let test = c.if-is_empty.ensures in
    let counted = c.args.self.now.few.ok.0 in
    let some : length c.args.self.now.few.items ≡ 0 → ⊥ = λ none. grind arith in
    c.place_among.ensures ∙ ap (λ names. first_place names c.args.name.now.0) c.deref.ensures.value ∙ sym (number_among c.args.self.now.few.items _ c.args.name.now.0 some)
