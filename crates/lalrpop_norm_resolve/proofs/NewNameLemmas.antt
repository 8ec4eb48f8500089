-- Where names that are made are new, none is defined twice in a list that defines them too.
use Rattle.std.proofs.Common.{◌≡◌, ◌≤◌, ◌<◌, ◌+◌, ◌&&◌, ℕ, Bool, true, false, cond, length, drop, get_or, List, [], ◌∷◌, ◌++◌, Option, Some, None, bytes_eq, append_assoc, append-nil, refl, sym, ap, ◌∙◌, subst, arith}
use Rattle.std.specs.Prelude.{is_some, is_none, option_map}
use Rattle.std.specs.HashSet.{HashSet, contains}
use Rattle.std.specs.List.{list_any}
use Rattle.std.proofs.Math.Path.{fun_ext}
use Rattle.std.proofs.lemmas.Bool.{and_parts}
use Rattle.std.proofs.lemmas.Slice.Eq.{bytes_eq-Decides}
use Rattle.shared_text.specs.declared.atom.Atom.{Atom}
use Rattle.lalrpop_norm_names.specs.declared.seeded.Seeded.{Seeded}
use Rattle.lalrpop_norm_faults.specs.declared.kind.FaultKind.TheVariants.{NameDeclaredTwice}
use Rattle.lalrpop_norm_faults.specs.Faults.{Fault, fault_if}
use Rattle.lalrpop_norm_faults.proofs.FaultLemmas.{at_drop_item, none_ahead}
use Rattle.lalrpop_norm_model.specs.Scopes.{Definition, Global, definition_of}
use Rattle.lalrpop_norm_resolve.specs.declared.resolve.Def.{Def}
use Rattle.lalrpop_norm_resolve.specs.declared.resolve.Def.TheVariants.{Rule}
use Rattle.lalrpop_norm_resolve.specs.NameFaults.{repeated_faults}
use Rattle.lalrpop_norm_resolve.specs.NameTables.{def_of, NameRows, with_def, all_rows}
use Rattle.lalrpop_norm_resolve.specs.NewNames.{with_made, are_new}
use Rattle.lalrpop_norm_resolve.proofs.GlobalLemmas.{later}

-- ---- how often a name is in a list

abbrev pub times : {A : Type 0} → (A → List ℕ) → List ℕ → List A → ℕ
times f q [] = 0
times f q (x ∷ xs) = cond (bytes_eq (f x) q) 1 0 + times f q xs

pub times_more : {A : Type 0} (f : A → List ℕ) (q : List ℕ) (xs ys : List A) → times f q (xs ++ ys) ≡ times f q xs + times f q ys
times_more f q [] ys = omega arith
times_more f q (x ∷ xs) ys = let rest = times_more f q xs ys in omega arith

abbrev pub name_of : Global → List ℕ
name_of d = d.name

abbrev pub same_name : List ℕ → List ℕ
same_name n = n

not_defined : (ds : List Global) (q : List ℕ) → is_some (definition_of ds q) ≡ false → times name_of q ds ≡ 0
not_defined [] q h = refl
not_defined (d ∷ ds) q h = by (bytes_eq d.name q) (not_defined ds q) h
  where
    by : (b : Bool) → (is_some (definition_of ds q) ≡ false → times name_of q ds ≡ 0) →
        is_some (cond b (Some d.definition) (definition_of ds q)) ≡ false → cond b 1 0 + times name_of q ds ≡ 0
    by true f e = absurd (cc e)
    by false f e = let rest = f e in omega arith

is_defined : (ds : List Global) (q : List ℕ) → is_some (definition_of ds q) ≡ true → 1 ≤ times name_of q ds
is_defined [] q h = absurd (cc h)
is_defined (d ∷ ds) q h = by (bytes_eq d.name q) (is_defined ds q) h
  where
    by : (b : Bool) → (is_some (definition_of ds q) ≡ true → 1 ≤ times name_of q ds) →
        is_some (cond b (Some d.definition) (definition_of ds q)) ≡ true → 1 ≤ cond b 1 0 + times name_of q ds
    by true f e = omega arith
    by false f e = let rest = f e in omega arith

-- each name is defined once at most
abbrev pub AreOnce : List Global → Type 0
AreOnce ds = (q : List ℕ) → times name_of q ds ≤ 1

added_once : (before : List Global) (d : Global) → is_some (definition_of before d.name) ≡ false → AreOnce before → AreOnce (before ++ d ∷ [])
added_once before d new h q = by (bytes_eq d.name q) refl
  where
    by : (b : Bool) → bytes_eq d.name q ≡ b → times name_of q (before ++ d ∷ []) ≤ 1
    by true e =
        let none : times name_of q before ≡ 0 = subst (λ n. times name_of n before ≡ 0) ((bytes_eq-Decides d.name q).0 e) (not_defined before d.name new) in
        let more : times name_of q (before ++ d ∷ []) ≡ times name_of q before + (1 + 0) = times_more name_of q before (d ∷ []) ∙ ap (λ b. times name_of q before + (cond b 1 0 + 0)) e in
        omega arith
    by false e =
        let most = h q in
        let more : times name_of q (before ++ d ∷ []) ≡ times name_of q before + (0 + 0) = times_more name_of q before (d ∷ []) ∙ ap (λ b. times name_of q before + (cond b 1 0 + 0)) e in
        omega arith

once_defined : (before ds : List Global) → AreOnce before → repeated_faults before ds ≡ [] → AreOnce (before ++ ds)
once_defined before [] h none = rw (append-nil before) h
once_defined before (d ∷ ds) h none =
    let f : Fault = (NameDeclaredTwice, d.span) in
    let fs = repeated_faults (before ++ d ∷ []) ds in
    let new = none_ahead (is_some (definition_of before d.name)) f fs none in
    let rest = later (is_some (definition_of before d.name)) f fs none in
    rw (← append_assoc before (d ∷ []) ds) (once_defined (before ++ d ∷ []) ds (added_once before d new h) rest)

first_time : (before ds : List Global) (d : Global) → AreOnce (before ++ d ∷ ds) → is_some (definition_of before d.name) ≡ false
first_time before ds d h = by (is_some (definition_of before d.name)) refl
  where
    by : (b : Bool) → is_some (definition_of before d.name) ≡ b → b ≡ false
    by false e = refl
    by true e =
        let one = is_defined before d.name e in
        let most = h d.name in
        let more : times name_of d.name (before ++ d ∷ ds) ≡ times name_of d.name before + (1 + times name_of d.name ds) =
        times_more name_of d.name before (d ∷ ds)
        ∙ ap (λ b. times name_of d.name before + (cond b 1 0 + times name_of d.name ds)) ((bytes_eq-Decides d.name d.name).1 refl) in
        absurd (omega arith)

pub none_repeated : (before ds : List Global) → AreOnce (before ++ ds) → repeated_faults before ds ≡ []
none_repeated before [] h = refl
none_repeated before (d ∷ ds) h =
    ap (λ b. fault_if b (NameDeclaredTwice, d.span) ++ repeated_faults (before ++ d ∷ []) ds) (first_time before ds d h)
    ∙ none_repeated (before ++ d ∷ []) ds (subst AreOnce (sym (append_assoc before (d ∷ []) ds)) h)

-- ---- names that are made

module _ (rows : NameRows) (count : List ℕ → ℕ) (n : List ℕ) (known : (q : List ℕ) → is_none (rows q) ≡ true → count q ≡ 0) where
  known_more : (q : List ℕ) → is_none (with_def rows n Rule q) ≡ true → count q + cond (bytes_eq n q) 1 0 ≡ 0
  unfolding with_def
  known_more q h = by (bytes_eq n q) h
    where
      by : (b : Bool) → is_none (cond b (Some Rule) (rows q)) ≡ true → count q + cond b 1 0 ≡ 0
      by true e = absurd (cc e)
      by false e = let none = known q e in omega arith

  once_more : is_none (rows n) ≡ true → ((q : List ℕ) → count q ≤ 1) → (q : List ℕ) → count q + cond (bytes_eq n q) 1 0 ≤ 1
  once_more new once q = by (bytes_eq n q) refl
    where
      by : (b : Bool) → bytes_eq n q ≡ b → count q + cond b 1 0 ≤ 1
      by true e =
          let none : count q ≡ 0 = subst (λ m. count m ≡ 0) ((bytes_eq-Decides n q).0 e) (known n new) in
          omega arith
      by false e = let most = once q in omega arith

made_once : (rows : NameRows) (count : List ℕ → ℕ) → ((q : List ℕ) → is_none (rows q) ≡ true → count q ≡ 0) → ((q : List ℕ) → count q ≤ 1) →
    (ns : List (List ℕ)) → are_new rows ns ≡ true → (q : List ℕ) → count q + times same_name q ns ≤ 1
made_once rows count known once [] h q = let most = once q in omega arith
made_once rows count known once (n ∷ ns) h q =
    let parts = and_parts _ _ h in
    let rest = made_once (with_def rows n Rule) (λ p. count p + cond (bytes_eq n p) 1 0) (known_more rows count n known) (once_more rows count n known parts.0 once) ns parts.1 q in
    omega arith

-- of the names defined once and the generated names that are new each is there once
pub all_once : (ds : List Global) (ns : List (List ℕ)) → repeated_faults [] ds ≡ [] → are_new (all_rows [] ds) ns ≡ true → (q : List ℕ) →
    times name_of q ds + times same_name q ns ≤ 1
all_once ds ns none new =
    made_once (all_rows [] ds) (λ q. times name_of q ds) known (once_defined [] ds (λ q. omega arith) none) ns new
  where
    by : (q : List ℕ) (o : Option Definition) → definition_of ds q ≡ o → is_none (option_map def_of o) ≡ true → is_some (definition_of ds q) ≡ false
    by q None e h = ap (λ o. is_some o) e
    by q (Some d) e h = absurd (cc h)

    known : (q : List ℕ) → is_none (all_rows [] ds q) ≡ true → times name_of q ds ≡ 0
    known q h = not_defined ds q (by q (definition_of ds q) refl h)

-- ---- names that are read

-- before that the table is as it was
pub none_made : (rows : NameRows) (made : HashSet Atom Seeded) → made.keys ≡ [] → with_made rows made ≡ rows
none_made rows made e = fun_ext (λ q. ap (λ (ks : List Atom). cond (list_any (bytes_eq q) ks) (Some Rule) (rows q)) e)

-- a name that is read is in the table from then on
made_added : (rows : NameRows) (old new : HashSet Atom Seeded) (n : List ℕ) →
    ((q : List ℕ) → contains bytes_eq new q ≡ cond (bytes_eq n q) true (contains bytes_eq old q)) → with_made rows new ≡ with_def (with_made rows old) n Rule
unfolding with_def
made_added rows old new n added = fun_ext (λ q. ap (λ b. cond b (Some Rule) (rows q)) (added q) ∙ either (bytes_eq n q) (contains bytes_eq old q) (rows q))
  where
    either : (a b : Bool) (o : Option Def) → cond (cond a true b) (Some Rule) o ≡ cond a (Some Rule) (cond b (Some Rule) o)
    either true b o = refl
    either false b o = refl

-- it was not there before
made_absent : (rows : NameRows) (old : HashSet Atom Seeded) (n : List ℕ) → is_some (rows n) ≡ false → contains bytes_eq old n ≡ false →
    is_none (with_made rows old n) ≡ true
made_absent rows old n absent unread = ap (λ b. is_none (cond b (Some Rule) (rows n))) unread ∙ by (rows n) absent
  where
    by : (o : Option Def) → is_some o ≡ false → is_none o ≡ true
    by None e = refl
    by (Some d) e = absurd (cc e)

-- and the names behind it are looked for
pub new_step : (rows : NameRows) (old new : HashSet Atom Seeded) (ns : List (List ℕ)) (i : ℕ) (n : List ℕ) (end : Bool) → i < length ns → n ≡ get_or ns i n →
    is_some (rows n) ≡ false → contains bytes_eq old n ≡ false → ((q : List ℕ) → contains bytes_eq new q ≡ cond (bytes_eq n q) true (contains bytes_eq old q)) →
    are_new (with_made rows old) (drop i ns) ≡ end → are_new (with_made rows new) (drop (i + 1) ns) ≡ end
new_step rows old new ns i n end lt is absent unread added h =
    let behind = drop (i + 1) ns in
    ap (λ rs. are_new rs behind) (made_added rows old new n added)
    ∙ sym (ap (λ b. b && are_new (with_def (with_made rows old) n Rule) behind) (made_absent rows old n absent unread))
    ∙ sym (at_drop_item (are_new (with_made rows old)) ns i n lt is) ∙ h
