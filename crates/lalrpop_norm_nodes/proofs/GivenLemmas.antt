-- What arguments are bound to stays, and has the same text as its rewritten symbol.
use Rattle.std.proofs.Common.{◌≡◌, ℕ, List, ◌∷◌, ◌++◌, Option, Some, None, option_map, codes, refl, sym, ap, ap₂, ◌∙◌, subst}
use Rattle.std.proofs.Math.Path.{fun_ext}
use Rattle.lalrpop_norm_tree.specs.Symbols.{Kind, nonterminal, kind_view}
use Rattle.lalrpop_norm_tree.specs.SymbolTexts.{kind_text}
use Rattle.lalrpop_norm_model.specs.MadeRules.{or_name}
use Rattle.lalrpop_norm_model.specs.Replaced.{replaced}
use Rattle.lalrpop_norm_nodes.specs.declared.given.Given.{Given}
use Rattle.lalrpop_norm_nodes.specs.declared.given.Environment.{Environment}
use Rattle.lalrpop_norm_nodes.specs.Wholes.{Whole, kind_at, Grows}
use Rattle.lalrpop_norm_nodes.specs.Filled.{filled_kind, inside_replaced, filled_leaf}
use Rattle.lalrpop_norm_nodes.specs.Given.{given_in, whole_for, shown_for, IsGiven, AreGiven}
use Rattle.lalrpop_norm_nodes.proofs.RowLemmas.{symbol_stays, is_kind_stays}
use Rattle.lalrpop_norm_nodes.proofs.MapLemmas.{kind_text_kept}
use Rattle.lalrpop_norm_nodes.proofs.TwiceLemmas.{inside_text}

-- ---- ids keep what they stand for

pub given_stays : (ws vs : List Whole) (g : Given) → Grows ws vs → IsGiven ws g → IsGiven vs g
given_stays ws vs g (more, e) h = subst (λ (us : List Whole). IsGiven us g) (sym e) (record {
  stands = is_kind_stays ws more g.number h.stands;
  replaced = h.replaced;
  text = h.text ∙ ap kind_text (sym (symbol_stays ws more g.number h.stands));
})

pub all_given_stay : (ws vs : List Whole) (e : Environment) → Grows ws vs → AreGiven ws e → AreGiven vs e
all_given_stay ws vs e grows h n g f = given_stays ws vs g grows (h n g f)

pub whole_stays : (ws vs : List Whole) (o : Option Given) → Grows ws vs → ((g : Given) → o ≡ Some g → IsGiven ws g) →
    option_map (λ g. kind_at vs g.number) o ≡ option_map (λ g. kind_at ws g.number) o
whole_stays ws vs None grows h = refl
whole_stays ws vs (Some g) (more, e) h =
    ap Some (ap (λ (us : List Whole). kind_at us g.number) e ∙ symbol_stays ws more g.number (h g refl).stands)

pub wholes_stay : (ws vs : List Whole) (e : Environment) → Grows ws vs → AreGiven ws e → whole_for vs e ≡ whole_for ws e
wholes_stay ws vs e grows h = fun_ext (λ n. whole_stays ws vs (given_in e n) grows (λ g f. h n g f))

-- ---- texts

-- two ways of filling with one text for each argument give one text
module _ (f g : List ℕ → Option Kind) (same : (n : List ℕ) → option_map kind_text (f n) ≡ option_map kind_text (g n)) where
  or_text : (n : List ℕ) (o p : Option Kind) → option_map kind_text o ≡ option_map kind_text p → kind_text (or_name n o) ≡ kind_text (or_name n p)
  or_text n None None e = refl
  or_text n (Some k) (Some l) e = cc e
  or_text n None (Some l) e = absurd (cc e)
  or_text n (Some k) None e = absurd (cc e)

  leaf_text : (k : Kind) → kind_text (filled_leaf f k) ≡ kind_text (filled_leaf g k)
  leaf_text (nonterminal n) = or_text n (f n) (g n) (same n)
  leaf_text _ = refl

  kind_text_filled : (k : Kind) → kind_text (filled_kind f k) ≡ kind_text (filled_kind g k)
  kind_text_filled k = kind_text_kept (filled_leaf f) (filled_leaf g) leaf_text k

given_texts : (ws : List Whole) (o : Option Given) → ((g : Given) → o ≡ Some g → IsGiven ws g) →
    option_map kind_text (option_map (λ g. kind_view g.symbol.kind) o) ≡ option_map kind_text (option_map (λ g. kind_at ws g.number) o)
given_texts ws None h = refl
given_texts ws (Some g) h = ap Some (h g refl).text

-- what a symbol that is read is rewritten to has the symbol's text
pub shown_text : (ws : List Whole) (e : Environment) → AreGiven ws e → (k : Kind) →
    kind_text (inside_replaced (filled_kind (shown_for e) k)) ≡ kind_text (filled_kind (whole_for ws e) k)
shown_text ws e h k =
    inside_text (filled_kind (shown_for e) k)
    ∙ kind_text_filled (shown_for e) (whole_for ws e) (λ n. given_texts ws (given_in e n) (λ g f. h n g f)) k
