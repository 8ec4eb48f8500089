-- A grammar has one list of entries.
use Rattle.std.proofs.Common.{◌≡◌, List, [], ◌∷◌, inl, inr, refl, sym, subst, ◌∙◌}
use Rattle.std.specs.List.Sorted.{IsStrictlySortedBy}
use Rattle.std.specs.declared.cmp.Ordering.{Ordering}
use Rattle.std.specs.declared.cmp.Ordering.TheVariants.{Less, Equal, Greater}
use Rattle.std.specs.Ordering.{ordering_then, ordering_reverse}
use Rattle.std.specs.Cmp.{nat_cmp_total, then_flip}
use Rattle.std.specs.Cmp.Lexicographic.{nat_list_cmp_total}
use Rattle.lalrpop_norm_tree_names.specs.declared.names.TerminalLiteral.{TerminalLiteral}
use Rattle.lalrpop_norm_tree_names.specs.declared.names.TerminalLiteral.TheVariants.{Quoted, Regex}
use Rattle.lalrpop_norm_tree_names.specs.declared.names.TerminalString.{TerminalString}
use Rattle.lalrpop_norm_tree_names.specs.declared.names.TerminalString.TheVariants.{Literal, Bare, Error}
use Rattle.lalrpop_norm_tree.specs.declared.items.MatchEntry.{MatchEntry}
use Rattle.lalrpop_norm_tree.specs.declared.items.MatchMapping.{MatchMapping}
use Rattle.lalrpop_norm_tree.specs.declared.items.MatchMapping.TheVariants.{Terminal, Skip}
use Rattle.lalrpop_norm_tree.specs.Items.{GrammarData}
use Rattle.lalrpop_norm_theory.specs.Rounds.{In}
use Rattle.lalrpop_norm_model.specs.Terminals.{literal_cmp, terminal_cmp}
use Rattle.lalrpop_norm_model.specs.Entries.{mapping_cmp, entry_cmp, AreEntries}
use Rattle.lalrpop_norm_model.proofs.ListLemmas.{each_in}

-- ---- of two entries at most one is below the other

literal_flip : (l m : TerminalLiteral) → literal_cmp l m ≡ ordering_reverse (literal_cmp m l)
literal_flip (Quoted a) (Quoted b) = nat_list_cmp_total.antisymm a b
literal_flip (Quoted a) (Regex b) = refl
literal_flip (Regex a) (Quoted b) = refl
literal_flip (Regex a) (Regex b) = nat_list_cmp_total.antisymm a b

terminal_flip : (t u : TerminalString) → terminal_cmp t u ≡ ordering_reverse (terminal_cmp u t)
terminal_flip (Literal l) (Literal m) = literal_flip l m
terminal_flip (Literal l) (Bare b) = refl
terminal_flip (Literal l) Error = refl
terminal_flip (Bare a) (Literal m) = refl
terminal_flip (Bare a) (Bare b) = nat_list_cmp_total.antisymm a b
terminal_flip (Bare a) Error = refl
terminal_flip Error (Literal m) = refl
terminal_flip Error (Bare b) = refl
terminal_flip Error Error = refl

mapping_flip : (m n : MatchMapping) → mapping_cmp m n ≡ ordering_reverse (mapping_cmp n m)
mapping_flip (Terminal t) (Terminal u) = terminal_flip t u
mapping_flip (Terminal t) Skip = refl
mapping_flip Skip (Terminal u) = refl
mapping_flip Skip Skip = refl

flipped : (a b c d : Ordering) → a ≡ ordering_reverse c → b ≡ ordering_reverse d → ordering_then a b ≡ ordering_reverse (ordering_then c d)
flipped a b c d e f = rw (e, f) (then_flip c d)

entry_flip : (d e : MatchEntry) → entry_cmp d e ≡ ordering_reverse (entry_cmp e d)
entry_flip d e =
    flipped _ _ _ _ (nat_cmp_total.antisymm d.precedence e.precedence)
    (flipped _ _ _ _ (literal_flip d.match_literal e.match_literal) (mapping_flip d.user_name e.user_name))

pub one_below : (d e : MatchEntry) → entry_cmp d e ≡ Less → entry_cmp e d ≡ Less → ⊥
one_below d e below above = let turned : ordering_reverse (entry_cmp e d) ≡ Less = sym (entry_flip d e) ∙ below in apart (entry_cmp e d) above turned
  where
    apart : (o : Ordering) → o ≡ Less → ordering_reverse o ≡ Less → ⊥
    apart Less a b = cc
    apart Equal a b = cc
    apart Greater a b = cc

-- ---- two rising lists with the same entries are one

pub rises_above : (x : MatchEntry) (xs : List MatchEntry) → IsStrictlySortedBy entry_cmp (x ∷ xs) → (y : MatchEntry) → In y xs → entry_cmp x y ≡ Less
unfolding IsStrictlySortedBy
rises_above x xs s y i = each_in (λ z. entry_cmp x z ≡ Less) xs s.0 y i

pub rest_rises : (x : MatchEntry) (xs : List MatchEntry) → IsStrictlySortedBy entry_cmp (x ∷ xs) → IsStrictlySortedBy entry_cmp xs
unfolding IsStrictlySortedBy
rest_rises x xs s = s.1

-- all of the one are in the other
abbrev Within : List MatchEntry → List MatchEntry → Type 0
Within xs ys = (e : MatchEntry) → In e xs → In e ys

heads : (x y : MatchEntry) (xs ys : List MatchEntry) → IsStrictlySortedBy entry_cmp (x ∷ xs) → IsStrictlySortedBy entry_cmp (y ∷ ys) →
    In x (y ∷ ys) → In y (x ∷ xs) → x ≡ y
heads x y xs ys s t (inl e) j = e
heads x y xs ys s t (inr i) (inl e) = sym e
heads x y xs ys s t (inr i) (inr j) = absurd (one_below x y (rises_above x xs s y j) (rises_above y ys t x i))

rest_case : (x y e : MatchEntry) (xs ys : List MatchEntry) → IsStrictlySortedBy entry_cmp (x ∷ xs) → x ≡ y → In e xs → In e (y ∷ ys) → In e ys
rest_case x y e xs ys s same i (inl is) =
    let below : entry_cmp x e ≡ Less = rises_above x xs s e i in
    let own : entry_cmp x x ≡ Less = subst (λ z. entry_cmp x z ≡ Less) (is ∙ sym same) below in
    absurd (one_below x x own own)
rest_case x y e xs ys s same i (inr j) = j

same_lists : (xs ys : List MatchEntry) → IsStrictlySortedBy entry_cmp xs → IsStrictlySortedBy entry_cmp ys → Within xs ys → Within ys xs → xs ≡ ys
same_lists [] [] s t there back = refl
same_lists [] (y ∷ ys) s t there back = absurd (back y (inl refl))
same_lists (x ∷ xs) [] s t there back = absurd (there x (inl refl))
same_lists (x ∷ xs) (y ∷ ys) s t there back =
    let head : x ≡ y = heads x y xs ys s t (there x (inl refl)) (back y (inl refl)) in
    let rest : xs ≡ ys = same_lists xs ys (rest_rises x xs s) (rest_rises y ys t)
    (λ e i. rest_case x y e xs ys s head i (there e (inr i))) (λ e i. rest_case y x e ys xs t (sym head) i (back e (inr i))) in
    rw (head, rest) refl

-- the entries of a grammar are one list
pub one_list : (g : GrammarData) (xs ys : List MatchEntry) → AreEntries g xs → AreEntries g ys → xs ≡ ys
one_list g xs ys h k = same_lists xs ys h.rising k.rising (λ e i. (k.all e).1 ((h.all e).0 i)) (λ e i. (h.all e).1 ((k.all e).0 i))
