-- The number of a name among the names of arguments leads to what is given for it.
use Rattle.std.proofs.Common.{◌≡◌, ◌+◌, ℕ, suc, Bool, true, false, cond, List, [], ◌∷◌, Option, Some, None, map, option_map, option_and_then, slice_get, bytes_eq, if◌then◌else◌, refl, sym, ap, ◌∙◌, arith}
use Rattle.std.proofs.Math.Path.{fun_ext}
use Rattle.std.specs.List.{position, position_from}
use Rattle.std.proofs.lemmas.Iterator.Adapters.{position_from-zero}
use Rattle.lalrpop_norm_tree_names.specs.declared.names.NonterminalString.{NonterminalString}
use Rattle.lalrpop_norm_tree.specs.declared.symbol.Symbol.{Symbol}
use Rattle.lalrpop_norm_tree.specs.Symbols.{Kind, kind_view, symbol_view, parts_view}
use Rattle.lalrpop_norm_tree.proofs.SymbolViews.{seen_at}
use Rattle.lalrpop_norm_names.specs.Numbers.{first_place, number_in_table, IsNumbering}
use Rattle.lalrpop_norm_names.specs.declared.table.Names.{Names}
use Rattle.lalrpop_norm_model.specs.MadeRules.{kind_of, argument_kind}
use Rattle.lalrpop_norm_nodes.specs.declared.given.Given.{Given}
use Rattle.lalrpop_norm_nodes.specs.Given.{IsGiven}
use Rattle.lalrpop_norm_nodes.specs.Wholes.{Whole, kind_at}
use Rattle.lalrpop_norm_macro_expand_rules.specs.declared.substituted.Bindings.{Bindings}
use Rattle.lalrpop_norm_macro_expand_rules.specs.Bound.{bound_kind, AreByNumber}
use Rattle.lalrpop_norm_macro_expand_rules.specs.Generated.{given_numbered, whole_numbered, shown_numbered}

-- ---- indices in a list with one more item in front

one_later : {A : Type 0} (p : A → Bool) (k : ℕ) (xs : List A) → position_from p (k + 1) xs ≡ option_map suc (position_from p k xs)
one_later p k [] = refl
one_later {A} p k (x ∷ xs) = here (p x) (one_later p (k + 1) xs)
  where
    here : (b : Bool) → position_from p (k + 1 + 1) xs ≡ option_map suc (position_from p (k + 1) xs) →
        cond b (Some (k + 1)) (position_from p (k + 1 + 1) xs) ≡ option_map suc (cond b (Some k) (position_from p (k + 1) xs))
    here true more = ap Some (omega arith)
    here false more = more

first_of_more : {A : Type 0} (p : A → Bool) (x : A) (xs : List A) → position p (x ∷ xs) ≡ cond (p x) (Some 0) (option_map suc (position p xs))
first_of_more p x xs =
    position_from-zero p (x ∷ xs)
    ∙ ap (cond (p x) (Some 0)) (one_later p 0 xs ∙ ap (option_map suc) (sym (position_from-zero p xs)))

-- what is at an index
abbrev at_place : {A : Type 0} → List A → Option ℕ → Option A
at_place xs o = option_and_then (λ i. slice_get xs i) o

none_there : {A : Type 0} (o : Option ℕ) → at_place {A = A} [] o ≡ None
none_there None = refl
none_there (Some i) = refl

one_further : {A : Type 0} (x : A) (xs : List A) (o : Option ℕ) → at_place (x ∷ xs) (option_map suc o) ≡ at_place xs o
one_further x xs None = refl
one_further x xs (Some i) = refl

-- ---- what is given for a name

-- for the first of the names that is this one
abbrev pub given_for : {A : Type 0} → List NonterminalString → List A → List ℕ → Option A
given_for (a ∷ names) (g ∷ given) n = if bytes_eq a.0 n then Some g else given_for names given n
given_for _ _ n = None

given_by_place : {A : Type 0} (names : List NonterminalString) (xs : List A) (n : List ℕ) →
    given_for names xs n ≡ at_place xs (first_place (map (λ a. a.0) names) n)
given_by_place [] xs n = refl
given_by_place (a ∷ names) [] n = sym (none_there (first_place (map (λ b. b.0) (a ∷ names)) n))
given_by_place (a ∷ names) (x ∷ xs) n =
    here (bytes_eq a.0 n) (given_by_place names xs n)
    ∙ sym (ap (at_place (x ∷ xs)) (first_of_more (λ s. bytes_eq s n) a.0 (map (λ b. b.0) names)))
  where
    here : (b : Bool) → given_for names xs n ≡ at_place xs (first_place (map (λ b. b.0) names) n) →
        (if b then Some x else given_for names xs n) ≡ at_place (x ∷ xs) (cond b (Some 0) (option_map suc (first_place (map (λ b. b.0) names) n)))
    here true rest = refl
    here false rest = rest ∙ sym (one_further x xs (first_place (map (λ b. b.0) names) n))

-- it is at the name's index
given_at_number : {A : Type 0} (names : List NonterminalString) (table : Names) (xs : List A) (n : List ℕ) → IsNumbering (map (λ a. a.0) names) table →
    given_for names xs n ≡ option_and_then (λ i. slice_get xs i) (number_in_table table n)
given_at_number names table xs n numbers = given_by_place names xs n ∙ ap (at_place xs) (sym (numbers n))

-- ---- symbols

argument_given : (names : List NonterminalString) (ss : List Symbol) (n : List ℕ) →
    argument_kind names (parts_view ss) n ≡ option_map (λ s. kind_view s.kind) (given_for names ss n)
argument_given [] ss n = refl
argument_given (a ∷ names) [] n = refl
argument_given (a ∷ names) (s ∷ ss) n = here (bytes_eq a.0 n) (ap kind_of (seen_at s)) (argument_given names ss n)
  where
    here : (b : Bool) → kind_of (symbol_view s) ≡ kind_view s.kind →
        argument_kind names (parts_view ss) n ≡ option_map (λ t. kind_view t.kind) (given_for names ss n) →
        cond b (Some (kind_of (symbol_view s))) (argument_kind names (parts_view ss) n)
        ≡ option_map (λ t. kind_view t.kind) (cond b (Some s) (given_for names ss n))
    here true h k = ap Some h
    here false h k = k

-- the symbol that a name is bound to is at its index
pub argument_bound : (b : Bindings) (n : List ℕ) → AreByNumber b → argument_kind b.names.now (parts_view b.symbols.now) n ≡ bound_kind b n
argument_bound b n numbers =
    argument_given b.names.now b.symbols.now n
    ∙ ap (option_map (λ (s : Symbol). kind_view s.kind)) (given_at_number b.names.now b.numbers.now b.symbols.now n numbers)

pub arguments_bound : (b : Bindings) → AreByNumber b → argument_kind b.names.now (parts_view b.symbols.now) ≡ bound_kind b
arguments_bound b numbers = fun_ext (λ n. argument_bound b n numbers)

-- ---- environments

-- what a name stands for by the names: up to spans, and with what is desugared rewritten
abbrev pub whole_of : List Whole → List NonterminalString → List Given → List ℕ → Option Kind
whole_of ws names given n = option_map (λ g. kind_at ws g.number) (given_for names given n)

abbrev pub shown_of : List NonterminalString → List Given → List ℕ → Option Kind
shown_of names given n = option_map (λ g. kind_view g.symbol.kind) (given_for names given n)

module _ (names : List NonterminalString) (given : List Given) (table : Names) (numbers : IsNumbering (map (λ a. a.0) names) table) where
  found : (n : List ℕ) → given_for names given n ≡ given_numbered table given n
  found n = given_at_number names table given n numbers

  pub given_found : (ws : List Whole) → ((n : List ℕ) (g : Given) → given_for names given n ≡ Some g → IsGiven ws g) →
      (n : List ℕ) (g : Given) → given_numbered table given n ≡ Some g → IsGiven ws g
  given_found ws h n g f = h n g (found n ∙ f)

  pub whole_found : (ws : List Whole) → whole_numbered ws table given ≡ whole_of ws names given
  whole_found ws = fun_ext (λ n. ap (option_map (λ (g : Given). kind_at ws g.number)) (sym (found n)))

  pub shown_found : shown_numbered table given ≡ shown_of names given
  shown_found = fun_ext (λ n. ap (option_map (λ (g : Given). kind_view g.symbol.kind)) (sym (found n)))
