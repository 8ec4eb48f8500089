-- One symbol and several.
use Rattle.std.proofs.Common.{◌≡◌, Bool, true, false, cond, [], ◌∷◌, ◌++◌, Some, None, is_some, refl, sym, ap, ◌∙◌, append-nil}
use Rattle.lalrpop_norm_tree_names.specs.declared.names.Span.{Span}
use Rattle.lalrpop_norm_tree.specs.Symbols.{Kind, group, at}
use Rattle.lalrpop_norm_tree.specs.SymbolTexts.{kind_text}
use Rattle.lalrpop_norm_model.specs.PlainRules.{then_itself, met}
use Rattle.lalrpop_norm_model.specs.Replaced.{is_desugared}
use Rattle.lalrpop_norm_nodes.specs.Meeting.{met_inside, own, own_text}

-- a symbol reaches what is inside it, then itself
reached_last : (s : Span) (k : Kind) → met (at s k) ≡ then_itself s k (met_inside k)
reached_last s (group ps) = refl
reached_last s _ = refl

pub split_at : (s : Span) (k : Kind) → met (at s k) ≡ met_inside k ++ own s k
split_at s k = reached_last s k ∙ by (is_desugared k)
  where
    by : (b : Bool) → cond b (met_inside k ++ at s k ∷ []) (met_inside k) ≡ met_inside k ++ cond b (at s k ∷ []) []
    by true = refl
    by false = sym (append-nil (met_inside k))

-- whether it is desugared, by its text, and what it is then
pub desugared : (s : Span) (k : Kind) (b : Bool) → is_some (own_text (at s k)) ≡ b → is_desugared k ≡ b
desugared s k b e = by (is_desugared k) e
  where
    by : (c : Bool) → is_some (cond c (Some (kind_text k)) None) ≡ b → c ≡ b
    by true f = f
    by false f = f

pub own_if : (s : Span) (k : Kind) (b : Bool) → is_desugared k ≡ b → own s k ≡ cond b (at s k ∷ []) []
own_if s k b e = ap (λ c. cond c (at s k ∷ []) []) e
