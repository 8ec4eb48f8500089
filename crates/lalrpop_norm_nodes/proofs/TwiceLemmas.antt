-- Symbols that are rewritten reach nothing, are not rewritten again, and keep their text; spans do not matter to them.
use Rattle.std.proofs.Common.{◌≡◌, Bool, true, false, cond, List, [], ◌++◌, refl, sym, ap, ap₂, ◌∙◌, append-nil}
use Rattle.lalrpop_norm_tree_names.specs.declared.names.Span.{Span}
use Rattle.lalrpop_norm_tree.specs.Symbols.{Kind, Part, Parts, group, nonterminal, at, part_and}
use Rattle.lalrpop_norm_tree.specs.SymbolTexts.{kind_text, part_text, part_texts}
use Rattle.lalrpop_norm_tree.specs.Traversal.{inner}
use Rattle.lalrpop_norm_model.specs.MadeRules.{kind_of}
use Rattle.lalrpop_norm_model.specs.PlainRules.{met, all_met}
use Rattle.lalrpop_norm_model.specs.Replaced.{is_desugared, replaced, replaced_kind, all_replaced}
use Rattle.lalrpop_norm_nodes.specs.Apart.{nowhere, unplaced_kind, unplaced, all_unplaced}
use Rattle.lalrpop_norm_nodes.specs.Filled.{inside_replaced}
use Rattle.lalrpop_norm_nodes.proofs.InnerLemmas.{All, every, each, row_alike, remade, remade_itself, remade_text, texts_alike}
use Rattle.lalrpop_norm_nodes.proofs.MeetLemmas.{kind_text_unplaced}

-- ---- what a symbol is rewritten to: the nonterminal of its text, or itself with others inside

replaced_by : (k : Kind) → replaced_kind k ≡ cond (is_desugared k) (nonterminal (kind_text k)) (remade k k (all_replaced (inner k)))
replaced_by (group ps) = refl
replaced_by _ = refl

inside_by : (k : Kind) → inside_replaced k ≡ remade k k (all_replaced (inner k))
inside_by (group ps) = refl
inside_by _ = refl

-- ---- it reaches nothing

abbrev MeetsNothing : Part → Type 0
MeetsNothing p = met (replaced p) ≡ []

met_replaced : (s : Span) (k : Kind) → met (at s (replaced_kind k)) ≡ cond (is_desugared k) [] (all_met (all_replaced (inner k)))
met_replaced s (group ps) = refl
met_replaced s k = sym (append-nil (met (at s (replaced_kind k))))

row_nothing : (ps : Parts) → All MeetsNothing ps → all_met (all_replaced ps) ≡ []
row_nothing = row_alike (λ p. met (replaced p)) (λ p. []) (λ ps. all_met (all_replaced ps)) (λ ps. []) (λ (xs ys : List Part). xs ++ ys) refl (λ p ps. refl) (λ p ps. refl)

either_way : (b : Bool) (xs : List Part) → cond b xs xs ≡ xs
either_way true xs = refl
either_way false xs = refl

nothing_step : (s : Span) (k : Kind) → All MeetsNothing (inner k) → MeetsNothing (at s k)
nothing_step s k h = met_replaced s k ∙ ap (λ xs. cond (is_desugared k) [] xs) (row_nothing (inner k) h) ∙ either_way (is_desugared k) []

pub nothing_met : (p : Part) → met (replaced p) ≡ []
nothing_met = every MeetsNothing nothing_step

-- ---- it is not rewritten again

abbrev IsReplacedOnce : Part → Type 0
IsReplacedOnce p = replaced (replaced p) ≡ replaced p

replaced_again : (k : Kind) → replaced_kind (replaced_kind k) ≡ cond (is_desugared k) (nonterminal (kind_text k)) (remade k k (all_replaced (all_replaced (inner k))))
replaced_again (group ps) = refl
replaced_again _ = refl

row_once : (ps : Parts) → All IsReplacedOnce ps → all_replaced (all_replaced ps) ≡ all_replaced ps
row_once = row_alike (λ p. replaced (replaced p)) replaced (λ ps. all_replaced (all_replaced ps)) all_replaced part_and refl (λ p ps. refl) (λ p ps. refl)

once_step : (s : Span) (k : Kind) → All IsReplacedOnce (inner k) → IsReplacedOnce (at s k)
once_step s k h = ap (at s) (replaced_again k ∙ ap (λ qs. cond (is_desugared k) (nonterminal (kind_text k)) (remade k k qs)) (row_once (inner k) h) ∙ sym (replaced_by k))

pub all_twice : (ps : Parts) → all_replaced (all_replaced ps) ≡ all_replaced ps
all_twice ps = row_once ps (each IsReplacedOnce once_step ps)

pub kind_twice : (k : Kind) → replaced_kind (replaced_kind k) ≡ replaced_kind k
kind_twice k = ap kind_of (every IsReplacedOnce once_step (at nowhere k))

inside_again : (k : Kind) → inside_replaced (inside_replaced k) ≡ remade k k (all_replaced (all_replaced (inner k)))
inside_again (group ps) = refl
inside_again _ = refl

pub inside_twice : (k : Kind) → inside_replaced (inside_replaced k) ≡ inside_replaced k
inside_twice k = inside_again k ∙ ap (remade k k) (all_twice (inner k)) ∙ sym (inside_by k)

-- ---- it keeps its text

abbrev KeepsText : Part → Type 0
KeepsText p = part_text (replaced p) ≡ part_text p

row_texts : (ps : Parts) → All KeepsText ps → part_texts (all_replaced ps) ≡ part_texts ps
row_texts = texts_alike replaced (λ p. p) all_replaced (λ ps. ps) refl (λ p ps. refl) (λ p ps. refl)

inner_text : (k : Kind) → All KeepsText (inner k) → kind_text (remade k k (all_replaced (inner k))) ≡ kind_text k
inner_text k h = remade_text k k _ _ refl (row_texts (inner k) h) k ∙ ap kind_text (remade_itself k)

text_step : (s : Span) (k : Kind) → All KeepsText (inner k) → KeepsText (at s k)
text_step s k h = ap kind_text (replaced_by k) ∙ by (is_desugared k)
  where
    by : (b : Bool) → kind_text (cond b (nonterminal (kind_text k)) (remade k k (all_replaced (inner k)))) ≡ kind_text k
    by true = refl
    by false = inner_text k h

pub text_replaced : (p : Part) → part_text (replaced p) ≡ part_text p
text_replaced = every KeepsText text_step

pub kind_text_replaced : (k : Kind) → kind_text (replaced_kind k) ≡ kind_text k
kind_text_replaced k = text_replaced (at nowhere k)

pub inside_text : (k : Kind) → kind_text (inside_replaced k) ≡ kind_text k
inside_text k = ap kind_text (inside_by k) ∙ inner_text k (each KeepsText text_step (inner k))

-- ---- parts that are rewritten, with their spans and without

abbrev IsBareAlike : Part → Type 0
IsBareAlike p = unplaced (replaced (unplaced p)) ≡ unplaced (replaced p)

replaced_bare_by : (k : Kind) → unplaced_kind (replaced_kind k) ≡ cond (is_desugared k) (nonterminal (kind_text k)) (remade (unplaced_kind k) k (all_unplaced (all_replaced (inner k))))
replaced_bare_by (group ps) = refl
replaced_bare_by _ = refl

bare_replaced_by : (k : Kind) → unplaced_kind (replaced_kind (unplaced_kind k))
    ≡ cond (is_desugared k) (nonterminal (kind_text (unplaced_kind k))) (remade (unplaced_kind k) k (all_unplaced (all_replaced (all_unplaced (inner k)))))
bare_replaced_by (group ps) = refl
bare_replaced_by _ = refl

row_bare : (ps : Parts) → All IsBareAlike ps → all_unplaced (all_replaced (all_unplaced ps)) ≡ all_unplaced (all_replaced ps)
row_bare = row_alike (λ p. unplaced (replaced (unplaced p))) (λ p. unplaced (replaced p)) (λ ps. all_unplaced (all_replaced (all_unplaced ps))) (λ ps. all_unplaced (all_replaced ps))
    part_and refl (λ p ps. refl) (λ p ps. refl)

bare_step : (s : Span) (k : Kind) → All IsBareAlike (inner k) → IsBareAlike (at s k)
bare_step s k h =
    ap (at nowhere) (bare_replaced_by k
    ∙ ap₂ (λ t qs. cond (is_desugared k) (nonterminal t) (remade (unplaced_kind k) k qs)) (kind_text_unplaced k) (row_bare (inner k) h)
    ∙ sym (replaced_bare_by k))

inside_bare_by : (k : Kind) → unplaced_kind (inside_replaced k) ≡ remade (unplaced_kind k) k (all_unplaced (all_replaced (inner k)))
inside_bare_by (group ps) = refl
inside_bare_by _ = refl

bare_inside_by : (k : Kind) → unplaced_kind (inside_replaced (unplaced_kind k)) ≡ remade (unplaced_kind k) k (all_unplaced (all_replaced (all_unplaced (inner k))))
bare_inside_by (group ps) = refl
bare_inside_by _ = refl

pub inside_bare : (k : Kind) → unplaced_kind (inside_replaced (unplaced_kind k)) ≡ unplaced_kind (inside_replaced k)
inside_bare k = bare_inside_by k ∙ ap (remade (unplaced_kind k) k) (row_bare (inner k) (each IsBareAlike bare_step (inner k))) ∙ sym (inside_bare_by k)
