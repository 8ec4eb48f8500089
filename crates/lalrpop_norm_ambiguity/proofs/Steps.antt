-- Steps of the walks over trees.
use Rattle.std.proofs.Common.{◌≡◌, ℕ, suc, ◌+◌, ◌<◌, ◌≤◌, ◌≢◌, List, [], ◌∷◌, ◌++◌, map, drop, length, get_or, ap, sym, ◌∙◌, refl, arith, add-one, drop-cons, length-drop, Vec, Global, true, false}
use Rattle.std.proofs.lemmas.List.{map-append, append-nil, append_assoc}
use Rattle.std.proofs.Math.ListN.{drop_of_length-le}
use Rattle.std.specs.Prelude.{Option, Some, None}
use Rattle.lalrpop_norm_theory.specs.Symbols.{Terminal}
use Rattle.lalrpop_norm_theory.specs.Same.{same_closed_terminal}
use Rattle.lalrpop_norm_theory.specs.WrittenTrees as written
use Rattle.lalrpop_norm_theory.specs.WrittenTrees.{leaf, nothing, list, node, yield, yields}
use Rattle.lalrpop_norm_tree_names.specs.declared.names.NonterminalString.{NonterminalString}
use Rattle.lalrpop_norm_tree_names.specs.declared.names.TerminalString.{TerminalString}
use Rattle.lalrpop_norm_model.specs.Reading.{terminal_of}
use Rattle.lalrpop_norm_explain.specs.declared.trees.WrittenTree.{WrittenTree}
use Rattle.lalrpop_norm_explain.specs.declared.trees.WrittenTree.TheVariants as variant
use Rattle.lalrpop_norm_explain.specs.declared.trees.WrittenTree.TheViews as rolls
use Rattle.lalrpop_norm_explain.specs.Trees.{written_view, written_views}
use Rattle.lalrpop_norm_explain.proofs.Views.{leaf_seen, nothing_seen, list_seen, written_seen}
use Rattle.lalrpop_norm_ambiguity.specs.Differences.{yield_difference, at_child, merged, tree_difference, children_difference}

-- ---- words

module _ (w : List TerminalString) (t : WrittenTree) where
  pub leaf_added : (v : List TerminalString) (a b : TerminalString) → t ≡ variant.Leaf a → b ≡ a → v ≡ w ++ b ∷ [] →
      map terminal_of v ≡ map terminal_of w ++ yield (written_view t)
  leaf_added v a b is same put =
      ap (map terminal_of) put ∙ map-append terminal_of w (b ∷ [])
      ∙ ap (λ x. map terminal_of w ++ terminal_of x ∷ []) same
      ∙ ap (λ v. map terminal_of w ++ yield v) (sym (leaf_seen t a is))

  pub nothing_added : t ≡ variant.Nothing → map terminal_of w ≡ map terminal_of w ++ yield (written_view t)
  nothing_added is = sym (append-nil (map terminal_of w)) ∙ ap (λ v. map terminal_of w ++ yield v) (sym (ap written_view is ∙ nothing_seen))

  pub list_added : (v : List TerminalString) (ts : Vec WrittenTree Global) (xs : List WrittenTree) → t ≡ rolls.List ts → xs ≡ ts.items →
      map terminal_of v ≡ map terminal_of w ++ yields (written_views xs) → map terminal_of v ≡ map terminal_of w ++ yield (written_view t)
  list_added v ts xs is same h =
      h ∙ ap (λ ys. map terminal_of w ++ yields (written_views ys)) same
      ∙ ap (λ v. map terminal_of w ++ yield v) (sym (ap written_view is ∙ list_seen ts))

  pub node_added : (v : List TerminalString) (n : NonterminalString) (k : ℕ) (ts : Vec WrittenTree Global) (xs : List WrittenTree) → t ≡ rolls.Node n k ts → xs ≡ ts.items →
      map terminal_of v ≡ map terminal_of w ++ yields (written_views xs) → map terminal_of v ≡ map terminal_of w ++ yield (written_view t)
  node_added v n k ts xs is same h =
      h ∙ ap (λ ys. map terminal_of w ++ yields (written_views ys)) same
      ∙ ap (λ v. map terminal_of w ++ yield v) (sym (written_seen t n k ts is))

-- one more tree
module _ (ts : List WrittenTree) (i : ℕ) (t : WrittenTree) (lt : i < length ts) (is : t ≡ get_or ts i t) where
  pub dropped : drop i ts ≡ t ∷ drop (i + 1) ts
  dropped = rw add-one (drop-cons ts i t lt ∙ ap (λ x. x ∷ drop (suc i) ts) (sym is))

  pub next_word : (before : List TerminalString) (w v : List TerminalString) →
      map terminal_of w ++ yields (written_views (drop i ts)) ≡ map terminal_of before ++ yields (written_views ts) →
      map terminal_of v ≡ map terminal_of w ++ yield (written_view t) →
      map terminal_of v ++ yields (written_views (drop (i + 1) ts)) ≡ map terminal_of before ++ yields (written_views ts)
  next_word before w v h more =
      ap (λ x. x ++ yields (written_views (drop (i + 1) ts))) more
      ∙ append_assoc (map terminal_of w) (yield (written_view t)) (yields (written_views (drop (i + 1) ts)))
      ∙ ap (λ x. map terminal_of w ++ yields (written_views x)) (sym dropped)
      ∙ h

  pub next_difference : (ss : List WrittenTree) (s : WrittenTree) → i < length ss → s ≡ get_or ss i s →
      children_difference (written_views (drop i ts)) (written_views (drop i ss)) i
      ≡ merged (at_child i (tree_difference (written_view t) (written_view s))) (children_difference (written_views (drop (i + 1) ts)) (written_views (drop (i + 1) ss)) (i + 1))
  next_difference ss s ls es =
      let of : drop i ss ≡ s ∷ drop (i + 1) ss = rw add-one (drop-cons ss i s ls ∙ ap (λ x. x ∷ drop (suc i) ss) (sym es)) in
      rw (dropped, of) refl

pub words_done : (ts : List WrittenTree) (i : ℕ) (w : List TerminalString) (all : List Terminal) → length ts ≤ i →
    map terminal_of w ++ yields (written_views (drop i ts)) ≡ all → map terminal_of w ≡ all
words_done ts i w all h e = sym (append-nil (map terminal_of w)) ∙ ap (λ x. map terminal_of w ++ yields (written_views x)) (sym (drop_of_length-le ts h)) ∙ e

-- ---- differences

-- what was found goes first
pub merged_in_row : (a b c : Option (List ℕ)) → merged (merged a b) c ≡ merged a (merged b c)
merged_in_row None b c = refl
merged_in_row (Some p) None c = refl
merged_in_row (Some p) (Some q) None = refl
merged_in_row (Some p) (Some q) (Some r) = refl

pub merged_none : (a : Option (List ℕ)) → merged a None ≡ a
merged_none None = refl
merged_none (Some p) = refl

pub differences_done : (ts ss : List WrittenTree) (i : ℕ) → length ts ≡ length ss → length ts ≤ i →
    children_difference (written_views (drop i ts)) (written_views (drop i ss)) i ≡ None
differences_done ts ss i e h =
    let k : length ss ≤ i = omega arith in
    rw (drop_of_length-le ts h, drop_of_length-le ss k) refl

-- lists of two lengths differ themselves
merged_above : (a : Option (List ℕ)) → merged a (Some []) ≡ Some []
merged_above None = refl
merged_above (Some p) = refl

pub uneven : (ts ss : List WrittenTree) (i : ℕ) → length ts ≢ length ss → children_difference (written_views ts) (written_views ss) i ≡ Some []
uneven [] [] i e = absurd (e refl)
uneven [] (s ∷ ss) i e = refl
uneven (t ∷ ts) [] i e = refl
uneven (t ∷ ts) (s ∷ ss) i e =
    ap (merged (at_child i (tree_difference (written_view t) (written_view s)))) (uneven ts ss (i + 1) (λ h. e (omega arith)))
    ∙ merged_above (at_child i (tree_difference (written_view t) (written_view s)))

-- ---- words that differ

module _ (xs ys : List TerminalString) (i : ℕ) (x : TerminalString) (lt : i < length xs) (is : x ≡ get_or xs i x) where
  word_dropped : drop i xs ≡ x ∷ drop (i + 1) xs
  word_dropped = rw add-one (drop-cons xs i x lt ∙ ap (λ z. z ∷ drop (suc i) xs) (sym is))

  -- the other word has ended
  pub ended : length ys ≤ i → yield_difference i (map terminal_of (drop i xs)) (map terminal_of (drop i ys)) ≡ Some i
  ended h = rw (word_dropped, drop_of_length-le ys h) refl

  module _ (y : TerminalString) (ls : i < length ys) (es : y ≡ get_or ys i y) where
    other_dropped : drop i ys ≡ y ∷ drop (i + 1) ys
    other_dropped = rw add-one (drop-cons ys i y ls ∙ ap (λ z. z ∷ drop (suc i) ys) (sym es))

    pub differ_here : same_closed_terminal (terminal_of x) (terminal_of y) ≡ false →
        yield_difference i (map terminal_of (drop i xs)) (map terminal_of (drop i ys)) ≡ Some i
    differ_here h = rw (word_dropped, other_dropped, h) refl

    pub same_here : same_closed_terminal (terminal_of x) (terminal_of y) ≡ true →
        yield_difference i (map terminal_of (drop i xs)) (map terminal_of (drop i ys))
        ≡ yield_difference (i + 1) (map terminal_of (drop (i + 1) xs)) (map terminal_of (drop (i + 1) ys))
    same_here h = rw (word_dropped, other_dropped, h) refl

-- at the end of the first word
pub both_ended : (xs ys : List TerminalString) (i : ℕ) → length xs ≤ i → length ys ≤ i →
    yield_difference i (map terminal_of (drop i xs)) (map terminal_of (drop i ys)) ≡ None
both_ended xs ys i h k = rw (drop_of_length-le xs h, drop_of_length-le ys k) refl

more_behind : (ys : List TerminalString) (i j : ℕ) → j < length ys → yield_difference i [] (map terminal_of (drop j ys)) ≡ Some i
more_behind ys i j h = go (drop j ys) refl
  where
    go : (zs : List TerminalString) → drop j ys ≡ zs → yield_difference i [] (map terminal_of zs) ≡ Some i
    go [] e = let none : length (drop j ys) ≡ 0 = ap length e in absurd (omega (arith, length-drop j ys, none))
    go (z ∷ zs) e = refl

pub first_ended : (xs ys : List TerminalString) (i : ℕ) → length xs ≤ i → i < length ys →
    yield_difference i (map terminal_of (drop i xs)) (map terminal_of (drop i ys)) ≡ Some i
first_ended xs ys i h k = rw (drop_of_length-le xs h) (more_behind ys i i k)
