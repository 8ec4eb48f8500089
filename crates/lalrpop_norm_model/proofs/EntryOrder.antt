-- The order of entries is total, and entries that it does not distinguish are one.
use Rattle.std.proofs.Common.{◌≡◌, ◌∙◌, ℕ, List, [], ◌∷◌, refl, sym, ap, nat_cmp}
use Rattle.std.specs.declared.cmp.Ordering.{Ordering}
use Rattle.std.specs.declared.cmp.Ordering.TheVariants.{Less, Equal, Greater}
use Rattle.std.specs.Ordering.{ordering_then, ordering_reverse}
use Rattle.std.specs.Cmp.{IsTotalOrder}
use Rattle.std.specs.Cmp.Lexicographic.{slice_cmp, nat_list_cmp_total}
use Rattle.std.proofs.lemmas.Cmp.{nat_cmp_total, on_total, then_total}
use Rattle.std.proofs.lemmas.Map.Lookups.{exact_bytes, exact_unsigned}
use Rattle.lalrpop_norm_tree_names.specs.declared.names.TerminalLiteral.{TerminalLiteral}
use Rattle.lalrpop_norm_tree_names.specs.declared.names.TerminalLiteral.TheVariants.{Quoted, Regex}
use Rattle.lalrpop_norm_tree_names.specs.declared.names.TerminalString.{TerminalString}
use Rattle.lalrpop_norm_tree_names.specs.declared.names.TerminalString.TheVariants.{Literal, Bare, Error}
use Rattle.lalrpop_norm_tree.specs.declared.items.MatchEntry.{MatchEntry}
use Rattle.lalrpop_norm_tree.specs.declared.items.MatchMapping.{MatchMapping}
use Rattle.lalrpop_norm_tree.specs.declared.items.MatchMapping.TheVariants.{Terminal, Skip}
use Rattle.lalrpop_norm_model.specs.Terminals.{literal_cmp, terminal_cmp}
use Rattle.lalrpop_norm_model.specs.Entries.{mapping_cmp, entry_cmp}

-- ---- total

-- literals, terminals and mappings are in the order of these texts
literal_rank : TerminalLiteral → List ℕ
literal_rank (Quoted a) = 0 ∷ a
literal_rank (Regex a) = 1 ∷ a

terminal_rank : TerminalString → List ℕ
terminal_rank (Literal l) = 0 ∷ literal_rank l
terminal_rank (Bare a) = 1 ∷ a
terminal_rank Error = 2 ∷ []

mapping_rank : MatchMapping → List ℕ
mapping_rank (Terminal t) = 0 ∷ terminal_rank t
mapping_rank Skip = 1 ∷ []

literals_ranked : (a b : TerminalLiteral) → literal_cmp a b ≡ slice_cmp nat_cmp (literal_rank a) (literal_rank b)
unfolding literal_rank
literals_ranked (Quoted a) (Quoted b) = refl
literals_ranked (Quoted a) (Regex b) = refl
literals_ranked (Regex a) (Quoted b) = refl
literals_ranked (Regex a) (Regex b) = refl

terminals_ranked : (a b : TerminalString) → terminal_cmp a b ≡ slice_cmp nat_cmp (terminal_rank a) (terminal_rank b)
unfolding terminal_rank
terminals_ranked (Literal a) (Literal b) = literals_ranked a b
terminals_ranked (Literal a) (Bare b) = refl
terminals_ranked (Literal a) Error = refl
terminals_ranked (Bare a) (Literal b) = refl
terminals_ranked (Bare a) (Bare b) = refl
terminals_ranked (Bare a) Error = refl
terminals_ranked Error (Literal b) = refl
terminals_ranked Error (Bare b) = refl
terminals_ranked Error Error = refl

mappings_ranked : (m n : MatchMapping) → mapping_cmp m n ≡ slice_cmp nat_cmp (mapping_rank m) (mapping_rank n)
unfolding mapping_rank
mappings_ranked (Terminal t) (Terminal u) = terminals_ranked t u
mappings_ranked (Terminal t) Skip = refl
mappings_ranked Skip (Terminal u) = refl
mappings_ranked Skip Skip = refl

-- an order that is that of some texts is total
ranked_total : {K : Type 0} (cmp : K → K → Ordering) (rank : K → List ℕ) → ((a b : K) → cmp a b ≡ slice_cmp nat_cmp (rank a) (rank b)) → IsTotalOrder cmp
ranked_total cmp rank ranked =
    let o = on_total rank nat_list_cmp_total in
    record {
      antisymm = λ x y. ranked x y ∙ o.antisymm x y ∙ ap ordering_reverse (sym (ranked y x));
      trans = λ x y z p q. ranked x z ∙ o.trans x y z (sym (ranked x y) ∙ p) (sym (ranked y z) ∙ q);
      congr = λ x y z p. ranked x z ∙ o.congr x y z (sym (ranked x y) ∙ p) ∙ sym (ranked y z);
    }

pub entries_total : IsTotalOrder entry_cmp
entries_total =
    then_total (on_total (λ (e : MatchEntry). e.precedence) nat_cmp_total)
    (then_total (on_total (λ (e : MatchEntry). e.match_literal) (ranked_total literal_cmp literal_rank literals_ranked))
    (on_total (λ (e : MatchEntry). e.user_name) (ranked_total mapping_cmp mapping_rank mappings_ranked)))

-- ---- exact

pub literals_exact : (a b : TerminalLiteral) → literal_cmp a b ≡ Equal → a ≡ b
literals_exact (Quoted a) (Quoted b) e = ap Quoted (exact_bytes a b e)
literals_exact (Quoted a) (Regex b) e = cc
literals_exact (Regex a) (Quoted b) e = cc
literals_exact (Regex a) (Regex b) e = ap Regex (exact_bytes a b e)

pub terminals_exact : (a b : TerminalString) → terminal_cmp a b ≡ Equal → a ≡ b
terminals_exact (Literal a) (Literal b) e = ap Literal (literals_exact a b e)
terminals_exact (Literal a) (Bare b) e = cc
terminals_exact (Literal a) Error e = cc
terminals_exact (Bare a) (Literal b) e = cc
terminals_exact (Bare a) (Bare b) e = ap Bare (exact_bytes a b e)
terminals_exact (Bare a) Error e = cc
terminals_exact Error (Literal b) e = cc
terminals_exact Error (Bare b) e = cc
terminals_exact Error Error e = refl

mappings_exact : (m n : MatchMapping) → mapping_cmp m n ≡ Equal → m ≡ n
mappings_exact (Terminal t) (Terminal u) e = ap Terminal (terminals_exact t u e)
mappings_exact (Terminal t) Skip e = cc
mappings_exact Skip (Terminal u) e = cc
mappings_exact Skip Skip e = refl

pub both_equal : (o p : Ordering) → ordering_then o p ≡ Equal → (o ≡ Equal) × (p ≡ Equal)
both_equal Less p e = absurd (cc e)
both_equal Equal p e = (refl, e)
both_equal Greater p e = absurd (cc e)

same_fields : (d e : MatchEntry) → d.precedence ≡ e.precedence → d.match_literal ≡ e.match_literal → d.user_name ≡ e.user_name → d ≡ e
same_fields d e p l n =
    ap (λ x. let y : MatchEntry = record d { precedence = x } in y) p
    ∙ ap (λ x. let y : MatchEntry = record d { precedence = e.precedence; match_literal = x } in y) l
    ∙ ap (λ x. let y : MatchEntry = record e { user_name = x } in y) n

pub entries_exact : (d e : MatchEntry) → entry_cmp d e ≡ Equal → d ≡ e
entries_exact d e h =
    let (p, rest) = both_equal (nat_cmp d.precedence e.precedence) _ h in
    let (l, n) = both_equal (literal_cmp d.match_literal e.match_literal) (mapping_cmp d.user_name e.user_name) rest in
    same_fields d e (exact_unsigned d.precedence e.precedence p) (literals_exact d.match_literal e.match_literal l) (mappings_exact d.user_name e.user_name n)
