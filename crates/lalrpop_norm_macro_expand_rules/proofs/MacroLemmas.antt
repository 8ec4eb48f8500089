-- Macros by their names, once one more is put.
use Rattle.std.proofs.Common.{◌≡◌, ℕ, suc, zero, ◌+◌, ◌<◌, List, [], ◌∷◌, ◌++◌, length, refl, sym, ap, ◌∙◌, Bool, true, false, Option, Some, None, cond, bytes_eq, arith, slice_get, option_and_then, Decides, subst}
use Rattle.std.specs.Prelude.{is_some}
use Rattle.std.proofs.lemmas.Slice.Eq.{bytes_eq-Decides}
use Rattle.lalrpop_norm_tree.specs.Accessors.{or_else}
use Rattle.lalrpop_norm_tree.specs.Items.{RuleData}
use Rattle.lalrpop_norm_model.specs.MadeRules.{macro_named}
use Rattle.lalrpop_norm_theory.proofs.ListLemmas.{get_some}
use Rattle.lalrpop_norm_nodes.proofs.RowLemmas.{slice_last}

or_named : (ds : List RuleData) (d : RuleData) (n : List ℕ) →
    macro_named (ds ++ d ∷ []) n ≡ or_else (macro_named ds n) (cond (bytes_eq d.name.0 n) (Some d) None)
or_named [] d n = refl
or_named (e ∷ ds) d n = by (bytes_eq e.name.0 n) (or_named ds d n)
  where
    by : (b : Bool) → macro_named (ds ++ d ∷ []) n ≡ or_else (macro_named ds n) (cond (bytes_eq d.name.0 n) (Some d) None) →
        cond b (Some e) (macro_named (ds ++ d ∷ []) n) ≡ or_else (cond b (Some e) (macro_named ds n)) (cond (bytes_eq d.name.0 n) (Some d) None)
    by true deeper = refl
    by false deeper = deeper

get_left : {A : Type 0} (xs : List A) (x : A) (i : ℕ) → i < length xs → slice_get (xs ++ x ∷ []) i ≡ slice_get xs i
get_left [] x i h = absurd (omega arith)
get_left (y ∷ xs) x zero h = refl
get_left (y ∷ xs) x (suc i) h = get_left xs x i (omega arith)

-- where an index leads in the longer list
led_to : (place : Option ℕ) (ds : List RuleData) (d : RuleData) (b : Bool) (found : Option RuleData) →
    option_and_then (λ i. slice_get ds i) place ≡ found → ((i : ℕ) → place ≡ Some i → i < length ds) →
    option_and_then (λ i. slice_get (ds ++ d ∷ []) i) (or_else place (cond b (Some (length ds)) None)) ≡ or_else found (cond b (Some d) None)
led_to None ds d true found e h = slice_last ds d ∙ ap (λ o. or_else o (Some d)) e
led_to None ds d false found e h = ap (λ o. or_else o None) e
led_to (Some i) ds d b found e h =
    let (y, there) = get_some ds i (h i refl) in
    get_left ds d i (h i refl) ∙ there ∙ ap (λ o. or_else o (cond b (Some d) None)) (sym there ∙ e)

pub finds_more : (place more : List ℕ → Option ℕ) (ds : List RuleData) (d : RuleData) →
    ((n : List ℕ) → option_and_then (λ i. slice_get ds i) (place n) ≡ macro_named ds n) →
    ((n : List ℕ) (i : ℕ) → place n ≡ Some i → i < length ds) →
    ((n : List ℕ) → more n ≡ or_else (place n) (cond (bytes_eq d.name.0 n) (Some (length ds)) None)) →
    (n : List ℕ) → option_and_then (λ i. slice_get (ds ++ d ∷ []) i) (more n) ≡ macro_named (ds ++ d ∷ []) n
finds_more place more ds d finds range noted n =
    ap (λ o. option_and_then (λ i. slice_get (ds ++ d ∷ []) i) o) (noted n)
    ∙ led_to (place n) ds d (bytes_eq d.name.0 n) (macro_named ds n) (finds n) (range n)
    ∙ sym (or_named ds d n)

in_either : (place : Option ℕ) (k : ℕ) (b : Bool) (i : ℕ) → ((j : ℕ) → place ≡ Some j → j < k) → or_else place (cond b (Some k) None) ≡ Some i → i < k + 1
in_either None k true i h e = let same : i ≡ k = cc in omega arith
in_either None k false i h e = absurd (cc e)
in_either (Some j) k b i h e = let same : i ≡ j = cc in let low = h j refl in omega arith

pub range_more : (place more : List ℕ → Option ℕ) (k : ℕ) (name : List ℕ) →
    ((n : List ℕ) (i : ℕ) → place n ≡ Some i → i < k) →
    ((n : List ℕ) → more n ≡ or_else (place n) (cond (bytes_eq name n) (Some k) None)) →
    (n : List ℕ) (i : ℕ) → more n ≡ Some i → i < k + 1
range_more place more k name range noted n i e = in_either (place n) k (bytes_eq name n) i (range n) (sym (noted n) ∙ e)

-- a macro that is found has the name
pub named_so : (ds : List RuleData) (n : List ℕ) (d : RuleData) → macro_named ds n ≡ Some d → d.name.0 ≡ n
named_so [] n d e = absurd (cc e)
named_so (x ∷ ds) n d e = by (bytes_eq x.name.0 n) refl e (named_so ds n d)
  where
    by : (b : Bool) → bytes_eq x.name.0 n ≡ b → cond b (Some x) (macro_named ds n) ≡ Some d → (macro_named ds n ≡ Some d → d.name.0 ≡ n) → d.name.0 ≡ n
    by true is same deeper = let it : x ≡ d = cc in ap (λ (r : RuleData). r.name.0) (sym it) ∙ (bytes_eq-Decides x.name.0 n).0 is
    by false is same deeper = deeper same

-- ---- an index noted under a name that has none

or_nothing : {A : Type 0} (o : Option A) → o ≡ or_else o None
or_nothing None = refl
or_nothing (Some x) = refl

pub not_found : {A : Type 0} (o : Option A) → is_some o ≡ false → o ≡ None
not_found None h = refl
not_found (Some x) h = absurd (cc h)

pub noted : {A : Type 0} (old new : List ℕ → Option A) (name : List ℕ) (x : A) → old name ≡ None → new name ≡ Some x → ((m : List ℕ) → (name ≡ m → ⊥) → new m ≡ old m) →
    (n : List ℕ) → new n ≡ or_else (old n) (cond (bytes_eq name n) (Some x) None)
noted old new name x none here others n = by (bytes_eq name n) (bytes_eq-Decides name n)
  where
    by : (b : Bool) → Decides b (name ≡ n) → new n ≡ or_else (old n) (cond b (Some x) None)
    by true d = subst (λ (m : List ℕ). new m ≡ or_else (old m) (Some x)) (d.0 refl) (here ∙ ap (λ o. or_else o (Some x)) (sym none))
    by false d = others n (λ e. absurd (cc (d.1 e))) ∙ or_nothing (old n)
