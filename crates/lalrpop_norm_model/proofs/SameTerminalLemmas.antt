-- Terminals that a test counts as the same are equal, and what is in a list is found there.
use Rattle.std.proofs.Common.{◌≡◌, Bool, true, false, ◌||◌, List, [], ◌∷◌, inl, inr, refl, sym, subst}
use Rattle.std.specs.List.{list_any}
use Rattle.std.proofs.lemmas.Slice.Eq.{bytes_eq-Decides}
use Rattle.lalrpop_norm_tree_names.specs.declared.names.TerminalLiteral.{TerminalLiteral}
use Rattle.lalrpop_norm_tree_names.specs.declared.names.TerminalLiteral.TheVariants.{Quoted, Regex}
use Rattle.lalrpop_norm_tree_names.specs.declared.names.TerminalString.{TerminalString}
use Rattle.lalrpop_norm_tree_names.specs.declared.names.TerminalString.TheVariants.{Literal, Bare, Error}
pub use Rattle.lalrpop_norm_tree.proofs.TerminalLemmas.{literals_same, terminals_same}
use Rattle.lalrpop_norm_theory.specs.Rounds.{In}
use Rattle.lalrpop_norm_model.specs.Terminals.{same_literal, same_terminal}

pub literal_itself : (l : TerminalLiteral) → same_literal l l ≡ true
literal_itself (Quoted a) = (bytes_eq-Decides a a).1 refl
literal_itself (Regex a) = (bytes_eq-Decides a a).1 refl

pub terminal_itself : (t : TerminalString) → same_terminal t t ≡ true
terminal_itself (Literal l) = literal_itself l
terminal_itself (Bare a) = (bytes_eq-Decides a a).1 refl
terminal_itself Error = refl

-- what passes a test and is in a list
pub passes_any : {A : Type 0} (p : A → Bool) (xs : List A) (x : A) → In x xs → p x ≡ true → list_any p xs ≡ true
passes_any p [] x i h = absurd i
passes_any p (y ∷ xs) x (inl e) h = let here : p y ≡ true = subst (λ z. p z ≡ true) e h in rw here refl
passes_any p (y ∷ xs) x (inr i) h = by (p y) (passes_any p xs x i h)
  where
    by : (b : Bool) → list_any p xs ≡ true → (b || list_any p xs) ≡ true
    by true e = refl
    by false e = e

pub any_passes : {A : Type 0} (p : A → Bool) (xs : List A) → list_any p xs ≡ true → (x : A) × In x xs × (p x ≡ true)
any_passes p [] h = absurd (cc h)
any_passes {A} p (y ∷ xs) h = by (p y) refl (any_passes p xs) h
  where
    by : (b : Bool) → p y ≡ b → (list_any p xs ≡ true → (x : A) × In x xs × (p x ≡ true)) → (b || list_any p xs) ≡ true → (x : A) × In x (y ∷ xs) × (p x ≡ true)
    by true e f i = (y, inl refl, e)
    by false e f i = let (x, j, k) = f i in (x, inr j, k)

pub listed_same : (t : TerminalString) (ts : List TerminalString) → In t ts → list_any (same_terminal t) ts ≡ true
listed_same t ts i = passes_any (same_terminal t) ts t i (terminal_itself t)

pub same_listed : (t : TerminalString) (ts : List TerminalString) → list_any (same_terminal t) ts ≡ true → In t ts
same_listed t ts h = let (u, i, e) = any_passes (same_terminal t) ts h in subst (λ x. In x ts) (sym (terminals_same t u e)) i
