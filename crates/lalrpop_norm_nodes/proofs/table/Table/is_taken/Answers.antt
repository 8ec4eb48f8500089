use Rattle.std.proofs.Common.{◌≡◌, ◌||◌, Bool, true, false, ap, sym, ◌∙◌}
use Rattle.lalrpop_norm_nodes.proofs.table.Table.is_taken.Goals as goal

declared_taken : (a x y : Bool) → a ≡ x → a ≡ true → a ≡ (x || y)
declared_taken a x y e t = t ∙ ap (λ b. b || y) (sym t ∙ e)

met_taken : (a b x y : Bool) → a ≡ x → a ≡ false → b ≡ y → b ≡ (x || y)
met_taken a b x y e f met = met ∙ ap (λ d. d || y) (sym f ∙ e)

pub returns-then-contains : goal.returns-then-contains
returns-then-contains c = declared_taken c.contains.result _ _ c.contains.ensures c.if-contains.true

pub returns-else-contains : goal.returns-else-contains
returns-else-contains c =
    met_taken c.contains.result c.contains_key.result _ _ c.contains.ensures c.if-contains.false (c.contains_key.ensures ∙ c.requires.places c.args.name.now)
