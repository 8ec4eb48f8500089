-- A table's rows and its lookups.
use Rattle.std.proofs.Common.{◌≡◌, ℕ, Bool, true, false, List, [], ◌∷◌, ◌++◌, map, Option, Some, None, cond, nat_cmp, bytes_eq, IsSome, refl, ap, sym, ◌∙◌}
use Rattle.std.specs.Prelude.{option_map}
use Rattle.std.specs.Cmp.Lexicographic.{slice_cmp}
use Rattle.std.specs.Map.{lookup, values_of}
use Rattle.std.specs.BTreeMap.{is_at}
use Rattle.std.specs.List.{AllZip}
use Rattle.std.proofs.lemmas.Map.Text.{is_eq-slice_cmp}
use Rattle.std.proofs.lemmas.Slice.Eq.{bytes_eq-Decides}
use Rattle.std.proofs.lemmas.Bool.{false_from_ne_true}
use Rattle.lalrpop_norm_tree_names.specs.declared.names.NonterminalString.{NonterminalString}
use Rattle.lalrpop_norm_tree_names.specs.declared.names.TerminalString.{TerminalString}
use Rattle.lalrpop_norm_tree.proofs.TerminalLemmas.{terminals_same}
use Rattle.lalrpop_norm_repr.specs.Tables.{found, found_terminal, same_terminal}

-- what a found value looks like
pub seen_map : {X V : Type 0} (f : X → V) (b : Bool) (x : X) (o : Option X) → option_map f (cond b (Some x) o) ≡ cond b (Some (f x)) (option_map f o)
seen_map f true x o = refl
seen_map f false x o = refl

pub found_rows : {X V : Type 0} (f : X → V) (k : NonterminalString) (es : List (NonterminalString × X))
    → option_map f (lookup (is_at (λ (q : NonterminalString). slice_cmp nat_cmp k.0 q.0)) es) ≡ found k (map {B = NonterminalString × V} (λ e. (e.0, f e.1)) es)
found_rows f k [] = refl
found_rows f k (e ∷ es) = rw (is_eq-slice_cmp k.0 e.0.0) (seen_map f (bytes_eq k.0 e.0.0) e.1 _ ∙ ap (λ o. cond (bytes_eq k.0 e.0.0) (Some (f e.1)) o) (found_rows f k es))

pub found_terminal_rows : {X V : Type 0} (f : X → V) (k : TerminalString) (test : TerminalString → Bool) → ((q : TerminalString) → test q ≡ same_terminal k q) → (es : List (TerminalString × X))
    → option_map f (lookup test es) ≡ found_terminal k (map {B = TerminalString × V} (λ e. (e.0, f e.1)) es)
found_terminal_rows f k test same [] = refl
found_terminal_rows f k test same (e ∷ es) = rw (same e.0) (seen_map f (same_terminal k e.0) e.1 _ ∙ ap (λ o. cond (same_terminal k e.0) (Some (f e.1)) o) (found_terminal_rows f k test same es))

pub other_name : (name other : NonterminalString) → (other ≡ name → ⊥) → bytes_eq name.0 other.0 ≡ false
other_name name other apart = false_from_ne_true _ (λ e. apart (ap (λ (b : List ℕ). let n : NonterminalString = record { 0 = b } in n) (sym ((bytes_eq-Decides name.0 other.0).0 e))))

pub other_terminal : (t other : TerminalString) → (other ≡ t → ⊥) → same_terminal t other ≡ false
other_terminal t other apart = false_from_ne_true _ (λ e. apart (sym (terminals_same t other e)))

pub some_of_map : {X V : Type 0} (f : X → V) (o : Option X) → IsSome (option_map f o) → IsSome o
some_of_map f None h = h
some_of_map f (Some x) h = refl

pub some_map : {X V : Type 0} (f : X → V) (o : Option X) → IsSome o → IsSome (option_map f o)
some_map f None h = h
some_map f (Some x) h = refl

pub values_seen : {K X V : Type 0} (f : X → V) (es : List (K × X)) → map f (values_of es) ≡ map (λ (r : K × V). r.1) (map {B = K × V} (λ e. (e.0, f e.1)) es)
values_seen f [] = refl
values_seen f (e ∷ es) = ap (λ rs. f e.1 ∷ rs) (values_seen f es)

pub rows_of_clones : {K X V : Type 0} (f : X → V) (R : K → K → Type 0) (S : X → X → Type 0) (es fs : List (K × X))
    → ((a b : K) → R a b → b ≡ a) → ((x y : X) → S x y → f y ≡ f x) → AllZip (λ p q. R p.0 q.0 × S p.1 q.1) es fs → map {B = K × V} (λ e. (e.0, f e.1)) fs ≡ map {B = K × V} (λ e. (e.0, f e.1)) es
rows_of_clones f R S [] [] keys values h = refl
rows_of_clones f R S [] (e ∷ fs) keys values h = absurd h
rows_of_clones f R S (e ∷ es) [] keys values h = absurd h
rows_of_clones f R S (d ∷ es) (e ∷ fs) keys values h =
    rw (keys d.0 e.0 h.0.0, values d.1 e.1 h.0.1, rows_of_clones f R S es fs keys values h.1)

append_none : {A : Type 0} (xs : List A) → xs ++ [] ≡ xs
append_none [] = refl
append_none (x ∷ xs) = ap (λ ys. x ∷ ys) (append_none xs)

-- a loop over a map's values that has none left
pub all_listed : {K X V : Type 0} (f : X → V) (xs rest : List X) (es : List (K × X)) → rest ≡ [] → map f xs ++ map f rest ≡ map f (values_of es)
    → map f xs ≡ map (λ (r : K × V). r.1) (map {B = K × V} (λ e. (e.0, f e.1)) es)
all_listed {X = X} f xs rest es none whole =
    sym (append_none (map f xs)) ∙ ap (λ (r : List X). map f xs ++ map f r) (sym none) ∙ whole ∙ values_seen f es
