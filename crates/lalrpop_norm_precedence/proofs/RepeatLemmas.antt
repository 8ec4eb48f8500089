-- Recursive occurrences replaced in what is repeated.
use Rattle.std.proofs.Common.{◌≡◌, ℕ, List, Bool, Box, Global, Result, Ok, Err, sym, ap, ◌∙◌}
use Rattle.std.specs.Result.{OnOk}
use Rattle.lalrpop_norm_tree.specs.declared.symbol.RepeatSymbol.{RepeatSymbol}
use Rattle.lalrpop_norm_tree.specs.declared.symbol.SymbolKind.{SymbolKind}
use Rattle.lalrpop_norm_tree.specs.declared.symbol.SymbolKind.TheVariants as kind
use Rattle.lalrpop_norm_tree.specs.Symbols.{Kind, Again, repeated, kind_view, repeat_view}
use Rattle.lalrpop_norm_tree.proofs.KindLevels.{repeat_is}
use Rattle.lalrpop_norm_tree.proofs.SymbolViews.{repeated_seen}
use Rattle.lalrpop_norm_model.specs.LevelRules.{leveled_kind, leveled_part}

module _ (own : List ℕ → Bool) (level : ℕ → ℕ → Kind) where
  pub repeat_replaced : {T E : Type 0} (r : Result T E) (k : SymbolKind) (old new : Box RepeatSymbol Global) → k ≡ kind.Repeat old →
      OnOk r (repeat_view new.value ≡ ((repeat_view old.value).0, leveled_part own level 0 0 (repeat_view old.value).1)) →
      OnOk r (kind_view (kind.Repeat new) ≡ leveled_kind own level 0 0 (kind_view k))
  repeat_replaced (Ok x) k old new is h =
      repeated_seen new ∙ ap (λ (a : Again). repeated a.0 a.1) h ∙ ap (leveled_kind own level 0 0) (sym (repeat_is k old is))
  repeat_replaced (Err e) k old new is h = tt
