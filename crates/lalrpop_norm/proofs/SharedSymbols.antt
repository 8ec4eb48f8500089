-- F37 of symbols that are reached one after another: where one shares its name.
use Rattle.std.proofs.Common.{◌≡◌, inl, inr, Bool, true, false, not, List, [], ◌∷◌, ◌++◌, bytes_eq, refl, sym, ap, subst, ◌∙◌, append-nil, append_assoc}
use Rattle.std.specs.Prelude.{◌||◌, ◌&&◌, ◌⊎◌}
use Rattle.std.proofs.lemmas.Slice.Eq.{bytes_eq-Decides}
use Rattle.lalrpop_norm_tree_names.specs.declared.names.Span.{Span}
use Rattle.lalrpop_norm_tree.specs.Symbols.{Part}
use Rattle.lalrpop_norm_tree.specs.SymbolTexts.{part_text}
use Rattle.lalrpop_norm_faults.specs.declared.kind.FaultKind.TheVariants.{SharedName}
use Rattle.lalrpop_norm_faults.specs.Faults.{Fault, fault_if}
use Rattle.lalrpop_norm_theory.specs.Symbols.{ClosedSymbol, Name}
use Rattle.lalrpop_norm_theory.specs.Same.{same_symbol}
use Rattle.lalrpop_norm_theory.specs.Rounds.{In}
use Rattle.lalrpop_norm_theory.proofs.RoundsLemmas.{in_left, in_right, in_cases}
use Rattle.lalrpop_norm_theory.proofs.SameLemmas.{symbol_test}
use Rattle.lalrpop_norm_theory.proofs.BoolLemmas.{or_cases, or_left, or_right, both_true, both_hold, not_true, true_not}
use Rattle.lalrpop_norm_model.specs.MadeRules.{span_of}
use Rattle.lalrpop_norm_model.specs.PlainRules.{same_apart_from_spans}
use Rattle.lalrpop_norm_model.specs.PlainTables.{closed}
use Rattle.lalrpop_norm_macro_expand_rules.specs.Names.{is_declared_name}
use Rattle.lalrpop_norm_macro_expand.specs.Expansion.{has_other, shared_names}
use Rattle.lalrpop_norm.specs.Laws.{SharesName}

-- ---- one symbol

abbrev pub shared_at : Span → Fault
shared_at t = (SharedName, t)

abbrev Differ : Part → Part → Type 0
Differ y x = (part_text y ≡ part_text x) × (closed y ≡ closed x → ⊥)

turned : (y x : Part) → Differ y x → Differ x y
turned y x d = (sym d.0, λ e. d.1 (sym e))

declared_sound : (t : Name) (names : List Name) → is_declared_name names t ≡ true → In t names
declared_sound t [] e = absurd (cc e)
declared_sound t (n ∷ names) e = elim (or_cases (bytes_eq t n) (is_declared_name names t) e) [
  | inl h ↦ inl ((bytes_eq-Decides t n).0 h)
  | inr h ↦ inr (declared_sound t names h)
]

declared_complete : (t : Name) (names : List Name) → In t names → is_declared_name names t ≡ true
declared_complete t [] i = absurd i
declared_complete t (n ∷ names) (inl e) = or_left (bytes_eq t n) (is_declared_name names t) ((bytes_eq-Decides t n).1 e)
declared_complete t (n ∷ names) (inr i) = or_right (bytes_eq t n) (is_declared_name names t) (declared_complete t names i)

abbrev other : Part → Part → Bool
other x y = bytes_eq (part_text y) (part_text x) && not (same_apart_from_spans y x)

other_sound : (y x : Part) → other x y ≡ true → Differ y x
other_sound y x e =
    let b = both_true (bytes_eq (part_text y) (part_text x)) (not (same_apart_from_spans y x)) e in (
      (bytes_eq-Decides (part_text y) (part_text x)).0 b.0,
      λ same. not_true (same_apart_from_spans y x) b.1
          (subst (λ (z : ClosedSymbol). same_symbol (closed y) z ≡ true) same (symbol_test.complete (closed y))),
    )

other_complete : (y x : Part) → Differ y x → other x y ≡ true
other_complete y x d =
    both_hold (bytes_eq (part_text y) (part_text x)) (not (same_apart_from_spans y x))
    ((bytes_eq-Decides (part_text y) (part_text x)).1 d.0)
    (true_not (same_apart_from_spans y x) (λ e. d.1 (symbol_test.sound (closed y) (closed x) e)))

has_other_sound : (met : List Part) (x : Part) → has_other met x ≡ true → (y : Part) × In y met × (part_text y ≡ part_text x) × (closed y ≡ closed x → ⊥)
has_other_sound [] x e = absurd (cc e)
has_other_sound (y ∷ met) x e = elim (or_cases (other x y) (has_other met x) e) [
  | inl h ↦ let d = other_sound y x h in (y, inl refl, d.0, d.1)
  | inr h ↦ let r = has_other_sound met x h in (r.0, inr r.1, r.2, r.3)
]

has_other_complete : (met : List Part) (x y : Part) → In y met → Differ y x → has_other met x ≡ true
has_other_complete [] x y i d = absurd i
has_other_complete (z ∷ met) x y (inl e) d =
    or_left (other x z) (has_other met x) (subst (λ (w : Part). other x w ≡ true) e (other_complete y x d))
has_other_complete (z ∷ met) x y (inr i) d = or_right (other x z) (has_other met x) (has_other_complete met x y i d)

abbrev shares : List Name → List Part → Part → Bool
shares names met x = is_declared_name names (part_text x) || has_other met x

shares_sound : (names : List Name) (met : List Part) (x : Part) → shares names met x ≡ true → SharesName names met x
shares_sound names met x e = elim (or_cases (is_declared_name names (part_text x)) (has_other met x) e) [
  | inl h ↦ inl (declared_sound (part_text x) names h)
  | inr h ↦ inr (has_other_sound met x h)
]

shares_complete : (names : List Name) (met : List Part) (x : Part) → SharesName names met x → shares names met x ≡ true
shares_complete names met x (inl i) = or_left (is_declared_name names (part_text x)) (has_other met x) (declared_complete (part_text x) names i)
shares_complete names met x (inr h) =
    or_right (is_declared_name names (part_text x)) (has_other met x) (has_other_complete met x h.0 h.1 (h.2, h.3))

-- ---- symbols reached one after another

-- a fault that may hold does, and is that one
stands_if : (b : Bool) (f g : Fault) → In g (fault_if b f) → (b ≡ true) × (g ≡ f)
stands_if true f g (inl e) = (refl, e)
stands_if true f g (inr i) = absurd i
stands_if false f g i = absurd i

if_stands : (b : Bool) (f : Fault) → b ≡ true → In f (fault_if b f)
if_stands true f e = inl refl
if_stands false f e = absurd (cc e)

-- of the symbols xs, reached after others, one at t shares its name
pub record Found (names : List Name) (met xs : List Part) (t : Span) : Type 0 where
  pub before : List Part
  pub symbol : Part
  pub later : List Part
  pub listed : xs ≡ before ++ symbol ∷ later
  pub there : span_of symbol ≡ t
  pub shared : SharesName names (met ++ before) symbol

pub find : (names : List Name) (met xs : List Part) (t : Span) → In (shared_at t) (shared_names names met xs) → Found names met xs t
find names met [] t i = absurd i
find names met (x ∷ xs) t i = elim (in_cases (shared_at t) (fault_if (shares names met x) (SharedName, span_of x)) (shared_names names (met ++ x ∷ []) xs) i) [
  | inl here ↦
      let h = stands_if (shares names met x) (SharedName, span_of x) (shared_at t) here in
      record {
        before = [];
        symbol = x;
        later = xs;
        listed = refl;
        there = sym (ap (λ (f : Fault). f.1) h.1);
        shared = subst (λ (ys : List Part). SharesName names ys x) (sym (append-nil met)) (shares_sound names met x h.0);
      }
  | inr later ↦
      let r = find names (met ++ x ∷ []) xs t later in
      record {
        before = x ∷ r.before;
        symbol = r.symbol;
        later = r.later;
        listed = ap (λ ys. x ∷ ys) r.listed;
        there = r.there;
        shared = subst (λ (ys : List Part). SharesName names ys r.symbol) (append_assoc met (x ∷ []) r.before) r.shared;
      }
]

pub stand : (names : List Name) (met before : List Part) (x : Part) (later : List Part) → SharesName names (met ++ before) x →
    In (shared_at (span_of x)) (shared_names names met (before ++ x ∷ later))
stand names met [] x later h =
    in_left (shared_at (span_of x)) (fault_if (shares names met x) (SharedName, span_of x)) (shared_names names (met ++ x ∷ []) later)
    (if_stands (shares names met x) (SharedName, span_of x)
    (shares_complete names met x (subst (λ (ys : List Part). SharesName names ys x) (append-nil met) h)))
stand names met (z ∷ before) x later h =
    in_right (shared_at (span_of x)) (fault_if (shares names met z) (SharedName, span_of z)) (shared_names names (met ++ z ∷ []) (before ++ x ∷ later))
    (stand names (met ++ z ∷ []) before x later
    (subst (λ (ys : List Part). SharesName names ys x) (sym (append_assoc met (z ∷ []) before)) h))

abbrev Stands : List Name → List Part → List Part → Type 0
Stands names met xs = (t : Span) × In (shared_at t) (shared_names names met xs)

-- where a symbol has a declared name a fault holds
pub declared_stands : (names : List Name) (met xs : List Part) (x : Part) → In x xs → In (part_text x) names → Stands names met xs
declared_stands names met [] x i h = absurd i
declared_stands names met (z ∷ xs) x (inl e) h = (span_of z, stand names met [] z xs (inl (subst (λ (w : Part). In (part_text w) names) e h)))
declared_stands names met (z ∷ xs) x (inr i) h =
    let r = declared_stands names (met ++ z ∷ []) xs x i h in
    (r.0, in_right (shared_at r.0) (fault_if (shares names met z) (SharedName, span_of z)) (shared_names names (met ++ z ∷ []) xs) r.1)

-- where two symbols differ and have one text, a fault holds at the one that is reached later
pub differing_stand : (names : List Name) (met xs : List Part) (x y : Part) → In x xs → In y (met ++ xs) → Differ y x → Stands names met xs
differing_stand names met [] x y i j d = absurd i
differing_stand names met (z ∷ xs) x y i j d = by (λ v w k l e. differing_stand names (met ++ z ∷ []) xs v w k l e) i (in_cases y met (z ∷ xs) j)
  where
    after : Stands names (met ++ z ∷ []) xs → Stands names met (z ∷ xs)
    after r = (r.0, in_right (shared_at r.0) (fault_if (shares names met z) (SharedName, span_of z)) (shared_names names (met ++ z ∷ []) xs) r.1)

    here : (w : Part) → In w met → Differ w z → Stands names met (z ∷ xs)
    here w k e = (span_of z, stand names met [] z xs (inr (w, in_left w met [] k, e.0, e.1)))

    -- what was reached by now
    was : (w : Part) → In w met → In w ((met ++ z ∷ []) ++ xs)
    was w k = in_left w (met ++ z ∷ []) xs (in_left w met (z ∷ []) k)

    is : In z ((met ++ z ∷ []) ++ xs)
    is = in_left z (met ++ z ∷ []) xs (in_right z met (z ∷ []) (inl refl))

    by : ((v w : Part) → In v xs → In w ((met ++ z ∷ []) ++ xs) → Differ w v → Stands names (met ++ z ∷ []) xs) →
        In x (z ∷ xs) → In y met ⊎ In y (z ∷ xs) → Stands names met (z ∷ xs)
    by again (inl e) (inl k) = here y k (subst (λ (w : Part). Differ y w) e d)
    by again (inl e) (inr (inl f)) = absurd (d.1 (ap closed (f ∙ sym e)))
    by again (inl e) (inr (inr k)) = after (again y z k is (turned y z (subst (λ (w : Part). Differ y w) e d)))
    by again (inr k) (inl m) = after (again x y k (was y m) d)
    by again (inr k) (inr (inl f)) = after (again x z k is (subst (λ (w : Part). Differ w x) f d))
    by again (inr k) (inr (inr m)) = after (again x y k (in_right y (met ++ z ∷ []) xs m) d)

-- in two lists, one after the other
pub shared_append : (names : List Name) (met xs ys : List Part) →
    shared_names names met (xs ++ ys) ≡ shared_names names met xs ++ shared_names names (met ++ xs) ys
shared_append names met [] ys = ap (λ (zs : List Part). shared_names names zs ys) (sym (append-nil met))
shared_append names met (x ∷ xs) ys =
    let here = fault_if (shares names met x) (SharedName, span_of x) in
    let rest : shared_names names (met ++ x ∷ []) (xs ++ ys) ≡ shared_names names (met ++ x ∷ []) xs ++ shared_names names (met ++ x ∷ xs) ys =
    shared_append names (met ++ x ∷ []) xs ys
    ∙ ap (λ (zs : List Part). shared_names names (met ++ x ∷ []) xs ++ shared_names names zs ys) (append_assoc met (x ∷ []) xs) in
    ap (λ (fs : List Fault). here ++ fs) rest
    ∙ sym (append_assoc here (shared_names names (met ++ x ∷ []) xs) (shared_names names (met ++ x ∷ xs) ys))
