-- Lists and options back from their forms, over functions back for what they hold.
use Rattle.std.proofs.Common.{◌≡◌, ℕ, List, [], ◌∷◌, Bool, true, false, Option, Some, None, if◌then◌else◌, refl, ap, ap₂}
use Rattle.serde_json.specs.Data.{Data, null, string, array, Items, no_items, item}
use Rattle.lalrpop_norm_json.specs.Json.{list_form, maybe_form}

-- equal functions of equal values
infixl 30 ◌⊛◌
pub ◌⊛◌ : {A B : Type 0} {f g : A → B} {a b : A} → f ≡ g → a ≡ b → f a ≡ g b
◌⊛◌ {A} {B} e h = ap₂ (λ (f : A → B) (a : A). f a) e h

pub same : {X : Type 0} (x : X) → x ≡ x
same x = refl

abbrev pub items_in : {X : Type 0} → (Data → X) → Items → List X
items_in g no_items = []
items_in g (item d ds) = g d ∷ items_in g ds

abbrev pub list_in : {X : Type 0} → (Data → X) → Data → List X
list_in g (array ds) = items_in g ds
list_in g _ = []

pub list_back : {X : Type 0} (f : X → Data) (g : Data → X) → ((x : X) → g (f x) ≡ x) → (xs : List X) → list_in g (list_form f xs) ≡ xs
list_back f g back [] = refl
list_back {X} f g back (x ∷ xs) = ap₂ (λ (y : X) (ys : List X). y ∷ ys) (back x) (list_back f g back xs)

abbrev pub is_null : Data → Bool
is_null null = true
is_null _ = false

abbrev pub maybe_in : {X : Type 0} → (Data → X) → Data → Option X
maybe_in g d = if is_null d then None else Some (g d)

pub maybe_back : {X : Type 0} (f : X → Data) (g : Data → X) → ((x : X) → g (f x) ≡ x) → ((x : X) → is_null (f x) ≡ false)
    → (o : Option X) → maybe_in g (maybe_form f o) ≡ o
maybe_back f g back there None = refl
maybe_back f g back there (Some x) = rw (there x) (ap Some (back x))
