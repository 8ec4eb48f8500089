-- What the arguments of a call, or what a repeat repeats, are bound to by numbers.
use Rattle.std.proofs.Common.{◌≡◌, ℕ, suc, List, [], ◌∷◌, Bool, true, false, cond, length, map, Option, Some, None, option_map, slice_get, bytes_eq, refl, sym, ap, ap₂, ◌∙◌, subst}
use Rattle.std.proofs.Math.Path.{fun_ext}
use Rattle.lalrpop_norm_tree_names.specs.declared.names.NonterminalString.{NonterminalString}
use Rattle.lalrpop_norm_tree_names.specs.declared.names.Span.{Span}
use Rattle.lalrpop_norm_tree.specs.declared.symbol.Symbol.{Symbol}
use Rattle.lalrpop_norm_tree.specs.declared.symbol.RepeatOp.{RepeatOp}
use Rattle.lalrpop_norm_tree.specs.Symbols.{Kind, Part, Parts, nonterminal, call, repeated, at, no_parts, part_and, kind_view, symbol_view, parts_view}
use Rattle.lalrpop_norm_tree.specs.Items.{RuleData}
use Rattle.lalrpop_norm_tree.specs.SymbolTexts.{kind_text}
use Rattle.lalrpop_norm_tree.proofs.SymbolViews.{seen_at}
use Rattle.lalrpop_norm_model.specs.MadeRules.{kind_of, all_kinds, only_part, argument_kind}
use Rattle.lalrpop_norm_model.specs.Replaced.{replaced, replaced_kind, all_replaced}
use Rattle.lalrpop_norm_nodes.specs.Apart.{nowhere, unplaced, unplaced_kind, all_unplaced}
use Rattle.lalrpop_norm_nodes.specs.declared.given.Given.{Given}
use Rattle.lalrpop_norm_nodes.specs.Filled.{inside_replaced}
use Rattle.lalrpop_norm_nodes.specs.Given.{IsGiven}
use Rattle.lalrpop_norm_nodes.specs.NodeParts.{is_call, call_parts, is_repeat, repeated_kind}
use Rattle.lalrpop_norm_nodes.specs.Wholes.{Whole, one_symbol, kind_at, as_kind}
use Rattle.lalrpop_norm_nodes.proofs.TwiceLemmas.{text_replaced}
use Rattle.lalrpop_norm_nodes.proofs.MeetLemmas.{text_unplaced}
use Rattle.lalrpop_norm_nodes.proofs.RowItems.{is_kind}
use Rattle.lalrpop_norm_macro_expand_rules.specs.Generated.{unread_rule}
use Rattle.lalrpop_norm_macro_expand_rules.proofs.ArgumentLemmas.{given_for, whole_of, shown_of}
use Rattle.lalrpop_norm_macro_expand_rules.proofs.StayLemmas.{part_stays, kind_stays}
use Rattle.lalrpop_norm_macro_expand_repeats.specs.Repeats.{placeholder_name, repeat_shape}
use Rattle.lalrpop_norm_macro_expand.specs.Making.{placeholder_names, repeat_generated}

-- ---- a symbol with its parts rewritten determines what it is

pub record IsCall (k : Kind) (ps : Parts) : Type 0 where
  pub is_so : is_call k ≡ true
  pub same : all_unplaced ps ≡ all_unplaced (all_replaced (call_parts k))

pub shallow_call : (k : Kind) (n : List ℕ) (ps : Parts) → unplaced_kind (call n ps) ≡ unplaced_kind (inside_replaced k) → IsCall k ps
shallow_call (call m qs) n ps e = record { is_so = refl; same = cc e }
shallow_call _ n ps e = absurd (cc e)

pub record IsRepeat (k : Kind) (p : Part) : Type 0 where
  pub is_so : is_repeat k ≡ true
  pub same : unplaced_kind (kind_of p) ≡ unplaced_kind (replaced_kind (repeated_kind k))

part_kind : (p q : Part) → unplaced p ≡ unplaced (replaced q) → unplaced_kind (kind_of p) ≡ unplaced_kind (replaced_kind (kind_of q))
part_kind (at s j) (at t k) e = cc e

pub shallow_repeat : (k : Kind) (op : RepeatOp) (p : Part) → unplaced_kind (repeated op p) ≡ unplaced_kind (inside_replaced k) → IsRepeat k p
shallow_repeat (repeated o q) op p e = let inner : unplaced p ≡ unplaced (replaced q) = cc e in record { is_so = refl; same = part_kind p q inner }
shallow_repeat _ op p e = absurd (cc e)

pub parts_stay : (n : List ℕ) (ps : Parts) → inside_replaced (call n ps) ≡ call n ps → all_replaced ps ≡ ps
parts_stay n ps e = cc e

-- ---- as many symbols

pub same_long : (ps qs : Parts) → all_unplaced ps ≡ all_unplaced (all_replaced qs) → length (all_kinds qs) ≡ length (all_kinds ps)
same_long no_parts no_parts e = refl
same_long no_parts (part_and q qs) e = absurd (cc e)
same_long (part_and p ps) no_parts e = absurd (cc e)
same_long (part_and p ps) (part_and q qs) e =
    let rest : all_unplaced ps ≡ all_unplaced (all_replaced qs) = cc e in
    ap suc (same_long ps qs rest)

pub kinds_long : (ss : List Symbol) → length (all_kinds (parts_view ss)) ≡ length ss
kinds_long [] = refl
kinds_long (s ∷ ss) = ap suc (kinds_long ss)

-- ---- what names are bound to

module _ (ws : List Whole) where
  abbrev pub AreAt : List Given → List Kind → Type 0
  AreAt given ks = map (λ g. slice_get ws g.number) given ≡ map (λ k. Some (one_symbol k)) ks

  whole_at : (names : List NonterminalString) (given : List Given) (ps : Parts) → AreAt given (all_kinds ps) → (n : List ℕ) →
      option_map (λ g. kind_at ws g.number) (given_for names given n) ≡ argument_kind names ps n
  whole_at [] given ps e n = refl
  whole_at (a ∷ names) [] no_parts e n = refl
  whole_at (a ∷ names) [] (part_and p ps) e n = absurd (cc e)
  whole_at (a ∷ names) (g ∷ given) no_parts e n = absurd (cc e)
  whole_at (a ∷ names) (g ∷ given) (part_and p ps) e n =
      let here : slice_get ws g.number ≡ Some (one_symbol (kind_of p)) = cc e in
      let rest : AreAt given (all_kinds ps) = cc e in
      by (bytes_eq a.0 n) (ap as_kind here) (whole_at names given ps rest n)
    where
      by : (b : Bool) → kind_at ws g.number ≡ kind_of p → option_map (λ g. kind_at ws g.number) (given_for names given n) ≡ argument_kind names ps n →
          option_map (λ g. kind_at ws g.number) (cond b (Some g) (given_for names given n)) ≡ cond b (Some (kind_of p)) (argument_kind names ps n)
      by true h k = ap Some h
      by false h k = k

  pub whole_is : (names : List NonterminalString) (given : List Given) (ps : Parts) → AreAt given (all_kinds ps) → whole_of ws names given ≡ argument_kind names ps
  whole_is names given ps e = fun_ext (λ n. whole_at names given ps e n)

shown_at : (names : List NonterminalString) (given : List Given) (n : List ℕ) →
    option_map (λ g. kind_view g.symbol.kind) (given_for names given n) ≡ argument_kind names (parts_view (map (λ g. g.symbol) given)) n
shown_at [] given n = refl
shown_at (a ∷ names) [] n = refl
shown_at (a ∷ names) (g ∷ given) n = by (bytes_eq a.0 n) (ap kind_of (sym (seen_at g.symbol))) (shown_at names given n)
  where
    by : (b : Bool) → kind_view g.symbol.kind ≡ kind_of (symbol_view g.symbol) →
        option_map (λ g. kind_view g.symbol.kind) (given_for names given n) ≡ argument_kind names (parts_view (map (λ g. g.symbol) given)) n →
        option_map (λ g. kind_view g.symbol.kind) (cond b (Some g) (given_for names given n))
        ≡ cond b (Some (kind_of (symbol_view g.symbol))) (argument_kind names (parts_view (map (λ g. g.symbol) given)) n)
    by true h k = ap Some h
    by false h k = k

pub shown_is : (names : List NonterminalString) (given : List Given) (ss : List Symbol) → map (λ g. g.symbol) given ≡ ss → shown_of names given ≡ argument_kind names (parts_view ss)
shown_is names given ss e = fun_ext (λ n. shown_at names given n ∙ ap (λ ts. argument_kind names (parts_view ts) n) e)

-- ---- the environment stands for symbols

texts_same : (k l : Kind) → unplaced_kind k ≡ unplaced_kind (replaced_kind l) → kind_text k ≡ kind_text l
texts_same k l e =
    sym (text_unplaced (at nowhere k)) ∙ ap (λ j. kind_text j) e ∙ text_unplaced (at nowhere (replaced_kind l)) ∙ text_replaced (at nowhere l)

pub is_given : (ws : List Whole) (g : Given) (k : Kind) → slice_get ws g.number ≡ Some (one_symbol k) → replaced_kind (kind_view g.symbol.kind) ≡ kind_view g.symbol.kind →
    unplaced_kind (kind_view g.symbol.kind) ≡ unplaced_kind (replaced_kind k) → IsGiven ws g
is_given ws g k here replaced same = record {
  stands = is_kind ws g.number k here;
  replaced = replaced;
  text = texts_same (kind_view g.symbol.kind) k same ∙ ap (λ o. kind_text (as_kind o)) (sym here);
}

pub are_given : (ws : List Whole) (names : List NonterminalString) (given : List Given) (ps : Parts) → AreAt ws given (all_kinds ps) →
    all_replaced (parts_view (map (λ g. g.symbol) given)) ≡ parts_view (map (λ g. g.symbol) given) →
    all_unplaced (parts_view (map (λ g. g.symbol) given)) ≡ all_unplaced (all_replaced ps) → (n : List ℕ) (g : Given) → given_for names given n ≡ Some g → IsGiven ws g
are_given ws [] given ps e r u n g f = absurd (cc f)
are_given ws (a ∷ names) [] ps e r u n g f = absurd (cc f)
are_given ws (a ∷ names) (h ∷ given) no_parts e r u n g f = absurd (cc e)
are_given ws (a ∷ names) (h ∷ given) (part_and p ps) e r u n g f =
    let here : slice_get ws h.number ≡ Some (one_symbol (kind_of p)) = cc e in
    let rest : AreAt ws given (all_kinds ps) = cc e in
    let stays : replaced (symbol_view h.symbol) ≡ symbol_view h.symbol = cc r in
    let stay : all_replaced (parts_view (map (λ g. g.symbol) given)) ≡ parts_view (map (λ g. g.symbol) given) = cc r in
    let same : unplaced (symbol_view h.symbol) ≡ unplaced (replaced p) = cc u in
    let others : all_unplaced (parts_view (map (λ g. g.symbol) given)) ≡ all_unplaced (all_replaced ps) = cc u in
    let view : kind_of (symbol_view h.symbol) ≡ kind_view h.symbol.kind = ap kind_of (seen_at h.symbol) in
    let one : IsGiven ws h = is_given ws h (kind_of p) here (kind_stays h.symbol stays)
    (ap unplaced_kind (sym view) ∙ part_kind (symbol_view h.symbol) p same) in
    by (bytes_eq a.0 n) f one (are_given ws names given ps rest stay others n g)
  where
    by : (b : Bool) → cond b (Some h) (given_for names given n) ≡ Some g → IsGiven ws h → (given_for names given n ≡ Some g → IsGiven ws g) → IsGiven ws g
    by true f one deeper = let same : h ≡ g = cc f in subst (IsGiven ws) same one
    by false f one deeper = deeper f

-- ---- rules that are still to be read

pub call_is : (ws : List Whole) (r s : RuleData) (names : List NonterminalString) (given : List Given) (ps : Parts) (ss : List Symbol) → r ≡ s → AreAt ws given (all_kinds ps) →
    map (λ g. g.symbol) given ≡ ss → unread_rule r (whole_of ws names given) (shown_of names given) ≡ unread_rule s (argument_kind names ps) (argument_kind names (parts_view ss))
call_is ws r s names given ps ss e at_numbers symbols =
    ap (λ (t : RuleData). unread_rule t (whole_of ws names given) (shown_of names given)) e
    ∙ ap₂ (unread_rule s) (whole_is ws names given ps at_numbers) (shown_is names given ss symbols)

pub repeat_is : (ws : List Whole) (name : List ℕ) (s : Span) (op : RepeatOp) (whole : Kind) (x : Symbol) (r : RuleData) (g : Given) → g.symbol ≡ x →
    slice_get ws g.number ≡ Some (one_symbol whole) → r ≡ repeat_shape name s op (symbol_view x) (at x.span (nonterminal placeholder_name)) →
    unread_rule r (whole_of ws placeholder_names (g ∷ [])) (shown_of placeholder_names (g ∷ [])) ≡ repeat_generated name s op whole (symbol_view x)
repeat_is ws name s op whole x r g e h is =
    call_is ws r (repeat_shape name s op (symbol_view x) (at x.span (nonterminal placeholder_name))) placeholder_names (g ∷ []) (only_part (at nowhere whole)) (x ∷ []) is
    (ap (λ (o : Option Whole). o ∷ []) h) (ap (λ (y : Symbol). y ∷ []) e)
    ∙ ap (λ (p : Part). unread_rule (repeat_shape name s op p (at x.span (nonterminal placeholder_name))) (argument_kind placeholder_names (only_part (at nowhere whole))) (argument_kind placeholder_names (only_part p))) (seen_at x)
    ∙ ap (repeat_generated name s op whole) (sym (seen_at x))

pub inner_stays : (op : RepeatOp) (p : Part) → inside_replaced (repeated op p) ≡ repeated op p → replaced p ≡ p
inner_stays op p e = cc e

pub repeat_readable : (ws : List Whole) (op : RepeatOp) (k : Kind) (x : Symbol) (g : Given) → g.symbol ≡ x → slice_get ws g.number ≡ Some (one_symbol (repeated_kind k)) →
    inside_replaced (repeated op (symbol_view x)) ≡ repeated op (symbol_view x) → IsRepeat k (symbol_view x) → (n : List ℕ) (h : Given) → given_for placeholder_names (g ∷ []) n ≡ Some h → IsGiven ws h
repeat_readable ws op k x g e here stays is n h f =
    let view : kind_of (symbol_view x) ≡ kind_view g.symbol.kind = ap kind_of (seen_at x) ∙ ap (λ (y : Symbol). kind_view y.kind) (sym e) in
    let one : IsGiven ws g = is_given ws g (repeated_kind k) here (subst (λ (j : Kind). replaced_kind j ≡ j) view (part_stays (symbol_view x) (inner_stays op (symbol_view x) stays)))
    (ap unplaced_kind (sym view) ∙ is.same) in
    by (bytes_eq placeholder_name n) f one
  where
    by : (b : Bool) → cond b (Some g) None ≡ Some h → IsGiven ws g → IsGiven ws h
    by true f one = let same : g ≡ h = cc f in subst (IsGiven ws) same one
    by false f one = absurd (cc f)
