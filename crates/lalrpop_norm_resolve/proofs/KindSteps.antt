-- One level of symbols and alternatives: the faults of names in them, and what they resolve to, are those of what they hold.
use Rattle.std.proofs.Common.{◌≡◌, ◌++◌, ◌⊎◌, inl, inr, ℕ, List, [], Option, Box, Vec, Global, Result, Ok, Err, length, refl, ap, sym, subst, ◌∙◌, append-nil}
use Rattle.std.specs.Result.{OnOk, IsErr, IsErrAnd}
use Rattle.std.specs.Vec.{with_items}
use Rattle.std.proofs.lemmas.List.{with_items_is}
use Rattle.lalrpop_norm_tree_names.specs.declared.names.NonterminalString.{NonterminalString}
use Rattle.lalrpop_norm_tree_names.specs.declared.names.Span.{Span}
use Rattle.lalrpop_norm_tree_names.specs.declared.names.TerminalString.{TerminalString}
use Rattle.lalrpop_norm_tree.specs.declared.items.Alternative.{Alternative}
use Rattle.lalrpop_norm_tree.specs.declared.symbol.ExprSymbol.{ExprSymbol}
use Rattle.lalrpop_norm_tree.specs.declared.symbol.MacroSymbol.{MacroSymbol}
use Rattle.lalrpop_norm_tree.specs.declared.symbol.RepeatSymbol.{RepeatSymbol}
use Rattle.lalrpop_norm_tree.specs.declared.symbol.Symbol.{Symbol}
use Rattle.lalrpop_norm_tree.specs.declared.symbol.SymbolKind.{SymbolKind}
use Rattle.lalrpop_norm_tree.specs.declared.symbol.SymbolKind.TheFolds.{fold-roll-MacroSymbol}
use Rattle.lalrpop_norm_tree.specs.declared.symbol.SymbolKind.TheVariants as kind
use Rattle.lalrpop_norm_tree.specs.declared.symbol.SymbolKind.TheViews.{roll-ExprSymbol, roll-MacroSymbol, out-ExprSymbol, out-MacroSymbol}
use Rattle.lalrpop_norm_tree.specs.Items.{alternative_view}
use Rattle.lalrpop_norm_tree.specs.Symbols.{Kind, Part, Parts, Call, Again, group, terminal, call, repeated, lookahead, lookbehind, error_terminal, at, kind_step, expr_step, macro_step, repeat_step, symbol_step, kind_view, symbol_view, expr_view, macro_view, repeat_view, parts_view}
use Rattle.lalrpop_norm_tree.proofs.KindLevels.{group_is, call_is, repeat_is, lookahead_is, lookbehind_is, error_is, symbols_of, called_with, repeated_symbol}
use Rattle.lalrpop_norm_tree.proofs.SymbolViews.{symbol_seen, seen_at, group_seen, repeat_seen, ambiguous_seen, terminal_seen}
use Rattle.lalrpop_norm_faults.specs.declared.failure.NormFailure.{NormFailure}
use Rattle.lalrpop_norm_faults.specs.Faults.{Fault, IsFirst, Refuses}
use Rattle.lalrpop_norm_faults.proofs.FaultLemmas.{first_of_more}
use Rattle.lalrpop_norm_model.specs.Scopes.{Sense, by_sense, resolved_kind, resolved_part, resolved_parts, resolved_alternative}
use Rattle.lalrpop_norm_resolve.specs.NameFaults.{parts_count, id_faults, macro_name_faults, kind_name_faults, part_name_faults, parts_name_faults, condition_faults, alternative_name_faults}

-- ---- answers that resolve

-- what a result says where these are the faults, and P holds where there is none
abbrev pub Told : {T : Type 0} → Result T NormFailure → List Fault → Type 0 → Type 0
Told r faults P = record {
  refuses : Refuses r faults;
  resolves : OnOk r P;
}

pub told_more : {T : Type 0} (r : Result T NormFailure) (xs ys : List Fault) (P Q : Type 0) → xs ≡ ys → (P → Q) → Told r xs P → Told r ys Q
told_more (Ok x) xs ys P Q same more h = record {
  refuses = sym same ∙ h.refuses;
  resolves = more h.resolves;
}
told_more (Err e) xs ys P Q same more h = record {
  refuses = subst (λ fs. IsFirst fs e) same h.refuses;
  resolves = tt;
}

-- the exit by `?` where the callee's faults come first
pub told_exit : {T : Type 0} (r : Result T NormFailure) (e : NormFailure) (here rest all : List Fault) (P : Type 0) → IsErr r × IsErrAnd r (λ x. x ≡ e) → IsFirst here e → all ≡ here ++ rest → Told r all P
told_exit (Ok x) e here rest all P from h same = absurd from.1
told_exit (Err x) e here rest all P from h same = record {
  refuses = rw (from.1, same) (first_of_more here rest e h);
  resolves = tt;
}

pub told_from : {T : Type 0} (r : Result T NormFailure) (e : NormFailure) (here all : List Fault) (P : Type 0) → IsErr r × IsErrAnd r (λ x. x ≡ e) → IsFirst here e → all ≡ here → Told r all P
told_from r e here all P from h same = told_exit r e here [] all P from h (same ∙ sym (append-nil here))

-- ---- views

call_seen : (n : NonterminalString) (v : Vec Symbol Global) → macro_view (roll-MacroSymbol (record { name = n; args = v })) ≡ (n.0, parts_view v.items)
call_seen n v = fold-roll-MacroSymbol Kind Parts Call Again Part kind_step expr_step macro_step repeat_step symbol_step (record { name = n; args = v })

grouped_now : (g : ExprSymbol) (ss : List Symbol) → length ss ≡ (out-ExprSymbol g).symbols.len →
    expr_view (roll-ExprSymbol (record { symbols = with_items (out-ExprSymbol g).symbols ss })) ≡ parts_view ss
grouped_now g ss long = group_seen (with_items (out-ExprSymbol g).symbols ss) ∙ ap parts_view (with_items_is (out-ExprSymbol g).symbols ss long)

called_now : (m : MacroSymbol) (ss : List Symbol) → length ss ≡ (out-MacroSymbol m).args.len →
    macro_view (roll-MacroSymbol (record { name = (out-MacroSymbol m).name; args = with_items (out-MacroSymbol m).args ss })) ≡ ((out-MacroSymbol m).name.0, parts_view ss)
called_now m ss long =
    call_seen (out-MacroSymbol m).name (with_items (out-MacroSymbol m).args ss)
    ∙ ap (λ (xs : List Symbol). let o : Call = ((out-MacroSymbol m).name.0, parts_view xs) in o) (with_items_is (out-MacroSymbol m).args ss long)

-- ---- symbols

module _ (sense : List ℕ → Option Sense) {T : Type 0} (r : Result T NormFailure) where
  pub symbol_told : (x : Symbol) (new : SymbolKind) → Told r (kind_name_faults sense x.span (kind_view x.kind)) (kind_view new ≡ resolved_kind sense (kind_view x.kind)) →
      Told r (part_name_faults sense (symbol_view x)) (symbol_view (let y : Symbol = record { span = x.span; kind = new } in y) ≡ resolved_part sense (symbol_view x))
  symbol_told x new h =
      told_more r _ _ _ _ (ap (λ p. part_name_faults sense p) (sym (seen_at x)))
      (λ e. symbol_seen x.span new ∙ ap (λ k. at x.span k) e ∙ ap (λ p. resolved_part sense p) (sym (seen_at x))) h

  pub boxed_told : (x y new : Symbol) → x ≡ y → Told r (part_name_faults sense (symbol_view x)) (symbol_view new ≡ resolved_part sense (symbol_view x)) →
      Told r (part_name_faults sense (symbol_view y)) (symbol_view new ≡ resolved_part sense (symbol_view y))
  boxed_told x y new is h =
      told_more r _ _ _ _ (ap (λ z. part_name_faults sense (symbol_view z)) is) (λ e. e ∙ ap (λ z. resolved_part sense (symbol_view z)) is) h

  pub again_told : (x y : RepeatSymbol) (new : Symbol) → x ≡ y → Told r (part_name_faults sense (symbol_view x.symbol)) (symbol_view new ≡ resolved_part sense (symbol_view x.symbol)) →
      Told r (part_name_faults sense (repeat_view y).1) (repeat_view (let z : RepeatSymbol = record { op = x.op; symbol = new } in z) ≡ ((repeat_view y).0, resolved_part sense (repeat_view y).1))
  again_told x y new is h =
      let v = sym (repeated_symbol x) ∙ ap repeat_view is in
      told_more r _ _ _ _ (ap (λ (a : Again). part_name_faults sense a.1) v)
      (λ e. repeat_seen x.op new ∙ ap (λ p. let a : Again = (x.op, p) in a) e ∙ ap (λ (a : Again). let b : Again = (a.0, resolved_part sense a.1) in b) v) h

-- ---- kinds

module _ (sense : List ℕ → Option Sense) (s : Span) (k : SymbolKind) where
  abbrev pub KindTold : {T : Type 0} → Result T NormFailure → SymbolKind → Type 0
  KindTold r new = Told r (kind_name_faults sense s (kind_view k)) (kind_view new ≡ resolved_kind sense (kind_view k))

  -- where the view is known
  seen_so : {T : Type 0} (r : Result T NormFailure) (new : SymbolKind) (v w : Kind) (P : Type 0) → kind_view k ≡ v → kind_view new ≡ w → (P → w ≡ resolved_kind sense v) →
      Told r (kind_name_faults sense s v) P → KindTold r new
  seen_so r new v w P was now more h =
      told_more r _ _ P _ (ap (λ x. kind_name_faults sense s x) (sym was)) (λ p. now ∙ more p ∙ ap (λ x. resolved_kind sense x) (sym was)) h

  module _ {T : Type 0} (r : Result T NormFailure) where
    -- a wrapper: the symbol in it
    pub wrapped_told : (f : Part → Kind) (p now : Part) (new : SymbolKind) → kind_view k ≡ f p → kind_view new ≡ f now → kind_name_faults sense s (f p) ≡ part_name_faults sense p →
        resolved_kind sense (f p) ≡ f (resolved_part sense p) → Told r (part_name_faults sense p) (now ≡ resolved_part sense p) → KindTold r new
    wrapped_told f p now new was is faults resolved h = seen_so r new _ _ _ was is (λ e. ap f e ∙ sym resolved) (told_more r _ _ _ _ (sym faults) (λ e. e) h)

    pub repeated_told : (b new : Box RepeatSymbol Global) → k ≡ kind.Repeat b →
        Told r (part_name_faults sense (repeat_view b.value).1) (repeat_view new.value ≡ ((repeat_view b.value).0, resolved_part sense (repeat_view b.value).1)) → KindTold r (kind.Repeat new)
    repeated_told b new of h = seen_so r _ _ _ _ (repeat_is k b of) (repeat_is (kind.Repeat new) new refl) (λ e. ap (λ (a : Again). repeated a.0 a.1) e) h

    pub ambiguous_told : (a : List ℕ) (new : SymbolKind) → k ≡ kind.AmbiguousId a → Told r (id_faults s (sense a)) (kind_view new ≡ by_sense (sense a) a) → KindTold r new
    ambiguous_told a new of h = seen_so r new _ _ _ (ap kind_view of ∙ ambiguous_seen a) refl (λ e. e) h

    pub group_told : (g : ExprSymbol) (now new : List Symbol) → k ≡ kind.Expr g → now ≡ (out-ExprSymbol g).symbols.items → length new ≡ (out-ExprSymbol g).symbols.len →
        Told r (parts_name_faults sense (parts_view now)) (parts_view new ≡ resolved_parts sense (parts_view now)) →
        KindTold r (kind.Expr (roll-ExprSymbol (record { symbols = with_items (out-ExprSymbol g).symbols new })))
    group_told g now new of is long h =
        seen_so r _ (group (parts_view now)) (group (parts_view new)) _ (group_is k g of ∙ ap group (symbols_of g ∙ ap parts_view (sym is))) (group_is _ _ refl ∙ ap group (grouped_now g new long)) (λ e. ap group e) h

  -- what holds no name
  plain : {T : Type 0} (x : T) (v : Kind) → kind_view k ≡ v → kind_name_faults sense s v ≡ [] → v ≡ resolved_kind sense v → KindTold (Ok x) k
  plain x v is none same = record {
    refuses = ap (λ w. kind_name_faults sense s w) is ∙ none;
    resolves = is ∙ same ∙ ap (λ w. resolved_kind sense w) (sym is);
  }

  pub plain_told : ((y : TerminalString) × (k ≡ kind.Terminal y)) ⊎ ((k ≡ kind.Lookahead) ⊎ ((k ≡ kind.Lookbehind) ⊎ (k ≡ kind.Error))) → KindTold {T = Unit {0}} (Ok (tt {0})) k
  plain_told (inl (y, of)) = plain (tt {0}) (terminal y) (ap kind_view of ∙ terminal_seen y) refl refl
  plain_told (inr (inl of)) = plain (tt {0}) lookahead (lookahead_is k of) refl refl
  plain_told (inr (inr (inl of))) = plain (tt {0}) lookbehind (lookbehind_is k of) refl refl
  plain_told (inr (inr (inr of))) = plain (tt {0}) error_terminal (error_is k of) refl refl

  pub ambiguous_faults : (a : List ℕ) → k ≡ kind.AmbiguousId a → kind_name_faults sense s (kind_view k) ≡ id_faults s (sense a)
  ambiguous_faults a of = ap (λ x. kind_name_faults sense s x) (ap kind_view of ∙ ambiguous_seen a)

  -- a call: its macro, then its arguments
  module _ (m : MacroSymbol) (now : List Symbol) (of : k ≡ kind.Macro m) (is : now ≡ (out-MacroSymbol m).args.items) where
    call_was : kind_view k ≡ call (out-MacroSymbol m).name.0 (parts_view now)
    call_was =
        call_is k m of ∙ ap (λ (o : Call). call o.0 o.1) (called_with m)
        ∙ ap (λ xs. call (out-MacroSymbol m).name.0 (parts_view xs)) (sym is)

    pub call_faults : kind_name_faults sense s (kind_view k)
        ≡ macro_name_faults s (parts_count (parts_view now)) (sense (out-MacroSymbol m).name.0) ++ parts_name_faults sense (parts_view now)
    call_faults = ap (λ x. kind_name_faults sense s x) call_was

    argument_faults : macro_name_faults s (parts_count (parts_view now)) (sense (out-MacroSymbol m).name.0) ≡ [] →
        kind_name_faults sense s (kind_view k) ≡ parts_name_faults sense (parts_view now)
    argument_faults none = call_faults ∙ ap (λ fs. fs ++ parts_name_faults sense (parts_view now)) none

    pub call_told : {T : Type 0} (r : Result T NormFailure) (h : MacroSymbol) (new : List Symbol) → h ≡ m → length new ≡ (out-MacroSymbol h).args.len →
        macro_name_faults s (parts_count (parts_view now)) (sense (out-MacroSymbol m).name.0) ≡ [] →
        Told r (parts_name_faults sense (parts_view now)) (parts_view new ≡ resolved_parts sense (parts_view now)) →
        KindTold r (kind.Macro (roll-MacroSymbol (record { name = (out-MacroSymbol h).name; args = with_items (out-MacroSymbol h).args new })))
    call_told r h new same long none told =
        told_more r _ _ _ _ (sym (argument_faults none))
        (λ e. call_is _ _ refl ∙ ap (λ (o : Call). call o.0 o.1) (called_now h new long) ∙ ap (λ x. call (out-MacroSymbol x).name.0 (parts_view new)) same
        ∙ ap (λ ps. call (out-MacroSymbol m).name.0 ps) e ∙ ap (λ x. resolved_kind sense x) (sym call_was)) told

-- ---- alternatives

module _ (sense : List ℕ → Option Sense) (a : Alternative) (now : List Symbol) (is : now ≡ (out-ExprSymbol a.expr).symbols.items) where
  pub alternative_faults : alternative_name_faults sense (alternative_view a) ≡ condition_faults sense a.condition ++ parts_name_faults sense (parts_view now)
  unfolding alternative_name_faults
  alternative_faults = ap (λ ps. condition_faults sense a.condition ++ parts_name_faults sense ps) (symbols_of a.expr ∙ ap parts_view (sym is))

  pub symbol_faults : condition_faults sense a.condition ≡ [] → alternative_name_faults sense (alternative_view a) ≡ parts_name_faults sense (parts_view now)
  symbol_faults none = alternative_faults ∙ ap (λ fs. fs ++ parts_name_faults sense (parts_view now)) none

  pub alternative_told : {T : Type 0} (r : Result T NormFailure) (new : List Symbol) → length new ≡ (out-ExprSymbol a.expr).symbols.len → condition_faults sense a.condition ≡ [] →
      Told r (parts_name_faults sense (parts_view now)) (parts_view new ≡ resolved_parts sense (parts_view now)) →
      Told r (alternative_name_faults sense (alternative_view a))
      (alternative_view (record a { expr = roll-ExprSymbol (record { symbols = with_items (out-ExprSymbol a.expr).symbols new }) }) ≡ resolved_alternative sense (alternative_view a))
  alternative_told r new long none h =
      told_more r _ _ _ _ (sym (symbol_faults none))
      (λ e. ap (λ ps. record (alternative_view a) { parts = ps }) (grouped_now a.expr new long ∙ e ∙ ap (λ ps. resolved_parts sense ps) (ap parts_view is ∙ sym (symbols_of a.expr)))) h
