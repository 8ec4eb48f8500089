-- What the whole of a node reaches, its spans, and its text.
use Rattle.std.proofs.Common.{◌≡◌, ℕ, suc, Bool, true, false, cond, List, [], ◌∷◌, ◌++◌, map, Some, None, is_some, bytes_eq, refl, sym, ap, ap₂, ◌∙◌, subst, append-nil, append_assoc}
use Rattle.std.specs.List.{flat_map}
use Rattle.std.proofs.lemmas.Grind.{flat_map-append}
use Rattle.std.proofs.lemmas.List.{map-append}
use Rattle.lalrpop_norm_tree_names.specs.declared.names.Span.{Span}
use Rattle.lalrpop_norm_tree.specs.declared.symbol.RepeatOp.TheVariants.{Star, Plus, Question, Times}
use Rattle.lalrpop_norm_tree.specs.Symbols.{Kind, Part, Parts, argument_patterns_of, part_and, parts_of, group, call, repeated, chosen, named, tupled, at}
use Rattle.lalrpop_norm_tree.specs.SymbolTexts.{kind_text}
use Rattle.lalrpop_norm_model.specs.PlainRules.{met, all_met}
use Rattle.lalrpop_norm_model.specs.Replaced.{is_desugared}
use Rattle.lalrpop_norm_nodes.specs.Apart.{nowhere, unplaced, all_unplaced}
use Rattle.lalrpop_norm_nodes.specs.Meeting.{first_with_text, were_met}
use Rattle.lalrpop_norm_nodes.proofs.InwardLemmas.{were_both}
use Rattle.lalrpop_norm_nodes.proofs.SymbolLemmas.{split_at, desugared, own_if}
use Rattle.lalrpop_norm_nodes.specs.declared.node.Node.{Node}
use Rattle.lalrpop_norm_nodes.specs.declared.node.Node.TheVariants as node
use Rattle.lalrpop_norm_nodes.specs.declared.node.Leaf.TheVariants as leaf
use Rattle.lalrpop_norm_nodes.specs.declared.node.NamedLeaf.TheVariants as named_leaf
use Rattle.lalrpop_norm_nodes.specs.declared.node.Unary.TheVariants as unary
use Rattle.lalrpop_norm_nodes.specs.declared.node.NamedUnary.TheVariants as named_unary
use Rattle.lalrpop_norm_nodes.specs.declared.node.Binary.TheVariants as binary
use Rattle.lalrpop_norm_nodes.specs.Wholes.{Whole, one_symbol, symbols, one_pattern, patterns, kind_at, part_at, symbols_at, patterns_at, built, Fits, StandsFor}
use Rattle.lalrpop_norm_nodes.specs.Tables.{own_at, own_in, own_text_in, met_of, inner_of, IsBare}

-- ---- what a symbol reaches

pub all_met_more : (ps : List Part) (p : Part) → all_met (parts_of (ps ++ p ∷ [])) ≡ all_met (parts_of ps) ++ met p
all_met_more [] p = append-nil (met p)
all_met_more (q ∷ ps) p = ap (λ (xs : List Part). met q ++ xs) (all_met_more ps p) ∙ sym (append_assoc (met q) (all_met (parts_of ps)) (met p))

pub met_split : (w : Whole) → met_of w ≡ inner_of w ++ own_in w
met_split (one_symbol k) = split_at nowhere k
met_split (symbols ps) = sym (append-nil (all_met (parts_of ps)))
met_split (one_pattern p) = refl
met_split (patterns ps) = refl

module _ (names : List ℕ → Bool) (ws : List Whole) (seen : List Part)
    (all : (i : ℕ) (w : Whole) → StandsFor ws i w → were_met names seen (met_of w) ≡ true) where
  -- the parts of a node that fits were reached
  pub inner_met : (n : Node) → Fits ws n → were_met names seen (inner_of (built ws n)) ≡ true
  inner_met (node.Leaf leaf.NoSymbols) h = refl
  inner_met (node.NamedLeaf named_leaf.Rule a) h = refl
  inner_met (node.Unary unary.Group l) h = all l _ h
  inner_met (node.Unary unary.Star n) h = all n _ h
  inner_met (node.Unary unary.Plus n) h = all n _ h
  inner_met (node.Unary unary.Question n) h = all n _ h
  inner_met (node.Unary (unary.Times c) n) h = all n _ h
  inner_met (node.Unary unary.Chosen n) h = all n _ h
  inner_met (node.NamedUnary named_unary.Call a l) h = all l _ h
  inner_met (node.NamedUnary named_unary.Named a n) h = all n _ h
  inner_met (node.NamedUnary named_unary.NamedMut a n) h = all n _ h
  inner_met (node.Binary binary.Symbols l n) h =
      subst (λ (xs : List Part). were_met names seen xs ≡ true) (sym (all_met_more (symbols_at ws l) (part_at ws n)))
      (were_both names seen (all_met (parts_of (symbols_at ws l))) (met (part_at ws n)) (all l _ h.0) (all n _ h.1))
  inner_met (node.Binary binary.Tuple l n) h = all n _ h.1
  inner_met _ h = refl

-- ---- spans are off

bare_list : (ps : List Part) → map unplaced ps ≡ ps → all_unplaced (parts_of ps) ≡ parts_of ps
bare_list ps h = listed ps ∙ ap parts_of h
  where
    listed : (qs : List Part) → all_unplaced (parts_of qs) ≡ parts_of (map unplaced qs)
    listed [] = refl
    listed (q ∷ qs) = ap (λ (rs : Parts). part_and (unplaced q) rs) (listed qs)

module _ (ws : List Whole) (all : (i : ℕ) (w : Whole) → StandsFor ws i w → IsBare w) where
  bare_at : (n : ℕ) → StandsFor ws n (one_symbol (kind_at ws n)) → unplaced (part_at ws n) ≡ part_at ws n
  bare_at n h = ap (at nowhere) (all n _ h)

  pub bare_built : (n : Node) → Fits ws n → IsBare (built ws n)
  bare_built (node.Leaf leaf.NoSymbols) h = refl
  bare_built (node.Leaf leaf.NoPatterns) h = tt
  bare_built (node.Leaf leaf.Lookahead) h = refl
  bare_built (node.Leaf leaf.Lookbehind) h = refl
  bare_built (node.Leaf leaf.Error) h = refl
  bare_built (node.NamedLeaf named_leaf.Rule a) h = refl
  bare_built (node.NamedLeaf named_leaf.Pattern a) h = tt
  bare_built (node.NamedLeaf named_leaf.MutPattern a) h = tt
  bare_built (node.Terminal t) h = refl
  bare_built (node.Unary unary.Group l) h = ap group (bare_list (symbols_at ws l) (all l _ h))
  bare_built (node.Unary unary.Star n) h = ap (repeated Star) (bare_at n h)
  bare_built (node.Unary unary.Plus n) h = ap (repeated Plus) (bare_at n h)
  bare_built (node.Unary unary.Question n) h = ap (repeated Question) (bare_at n h)
  bare_built (node.Unary (unary.Times c) n) h = ap (repeated (Times c)) (bare_at n h)
  bare_built (node.Unary unary.Chosen n) h = ap chosen (bare_at n h)
  bare_built (node.Unary unary.Several l) h = tt
  bare_built (node.NamedUnary named_unary.Call a l) h = ap (call a) (bare_list (symbols_at ws l) (all l _ h))
  bare_built (node.NamedUnary named_unary.Named a n) h = ap (named (record { mutable = false; name = a })) (bare_at n h)
  bare_built (node.NamedUnary named_unary.NamedMut a n) h = ap (named (record { mutable = true; name = a })) (bare_at n h)
  bare_built (node.Binary binary.Symbols l n) h =
      map-append unplaced (symbols_at ws l) (part_at ws n ∷ [])
      ∙ ap₂ (λ (ps : List Part) (p : Part). ps ++ p ∷ []) (all l _ h.0) (bare_at n h.1)
  bare_built (node.Binary binary.Patterns l n) h = tt
  bare_built (node.Binary binary.Tuple l n) h = ap (tupled (argument_patterns_of (patterns_at ws l))) (bare_at n h.1)

-- ---- one more

pub seen_more : (ws : List Whole) (w : Whole) → flat_map own_in (ws ++ w ∷ []) ≡ flat_map own_in ws ++ own_in w
seen_more ws w = flat_map-append own_in ws (w ∷ []) ∙ ap (λ (xs : List Part). flat_map own_in ws ++ xs) (append-nil (own_in w))

pub none_made : (w : Whole) → own_text_in w ≡ None → own_in w ≡ []
none_made (symbols ps) e = refl
none_made (one_pattern p) e = refl
none_made (patterns ps) e = refl
none_made (one_symbol k) e = own_if nowhere k false (desugared nowhere k false (ap is_some e))

-- a whole that is desugared: its symbol, and its text
pub record Made (w : Whole) (t : List ℕ) : Type 0 where
  pub kind : Kind
  pub is : w ≡ one_symbol kind
  pub text : t ≡ kind_text kind
  pub at_place : (s : Span) → own_at s w ≡ at s kind ∷ []

pub one_made : (w : Whole) (t : List ℕ) → own_text_in w ≡ Some t → Made w t
one_made (symbols ps) t e = absurd (cc e)
one_made (one_pattern p) t e = absurd (cc e)
one_made (patterns ps) t e = absurd (cc e)
one_made (one_symbol k) t e =
    let d : is_desugared k ≡ true = desugared nowhere k true (ap is_some e) in
    let text : Some (kind_text k) ≡ Some t = ap (λ b. cond b (Some (kind_text k)) None) (sym d) ∙ e in
    record { kind = k; is = refl; text = cc text; at_place = λ s. own_if s k true d }

-- the node of the first symbol of a text
pub record Standing (ws : List Whole) (y : Part) : Type 0 where
  pub number : ℕ
  pub kind : Kind
  pub stands : StandsFor ws number (one_symbol kind)
  pub is : y ≡ at nowhere kind

further : (w : Whole) (ws : List Whole) (y : Part) → Standing ws y → Standing (w ∷ ws) y
further w ws y h = record { number = suc h.number; kind = h.kind; stands = h.stands; is = h.is }

pub seen_stands : (t : List ℕ) (ws : List Whole) (y : Part) → first_with_text t (flat_map own_in ws) ≡ Some y → Standing ws y
seen_stands t [] y e = absurd (cc e)
seen_stands t (symbols ps ∷ ws) y e = further _ ws y (seen_stands t ws y e)
seen_stands t (one_pattern p ∷ ws) y e = further _ ws y (seen_stands t ws y e)
seen_stands t (patterns ps ∷ ws) y e = further _ ws y (seen_stands t ws y e)
seen_stands t (one_symbol k ∷ ws) y e = by (λ f. further (one_symbol k) ws y (seen_stands t ws y f)) (is_desugared k) e
  where
    here : (first_with_text t (flat_map own_in ws) ≡ Some y → Standing (one_symbol k ∷ ws) y) → (b : Bool)
        → cond b (Some (at nowhere k)) (first_with_text t (flat_map own_in ws)) ≡ Some y → Standing (one_symbol k ∷ ws) y
    here deeper true f = record { number = 0; kind = k; stands = refl; is = cc f }
    here deeper false f = deeper f

    by : (first_with_text t (flat_map own_in ws) ≡ Some y → Standing (one_symbol k ∷ ws) y) → (b : Bool)
        → first_with_text t (cond b (at nowhere k ∷ []) [] ++ flat_map own_in ws) ≡ Some y → Standing (one_symbol k ∷ ws) y
    by deeper true f = here deeper (bytes_eq (kind_text k) t) f
    by deeper false f = deeper f
