-- The table of global names says what the list of definitions says.
use Rattle.std.proofs.Common.{◌≡◌, ℕ, Bool, true, false, cond, List, [], ◌∷◌, ◌++◌, Option, Some, None, bytes_eq, map, append_assoc, append-nil, refl, sym, ap, ◌∙◌}
use Rattle.std.proofs.Math.Path.{fun_ext}
use Rattle.std.specs.Prelude.{is_some, option_map, flat_map}
use Rattle.std.specs.Map.{lookup}
use Rattle.std.specs.HashMap.{get}
use Rattle.std.proofs.lemmas.Slice.Eq.{bytes_eq-Decides}
use Rattle.lalrpop_norm_tree_names.specs.declared.names.NonterminalString.{NonterminalString}
use Rattle.lalrpop_norm_tree.specs.Items.{ItemData, match_item, extern_item, intern_item, rule_item, use_item}
use Rattle.lalrpop_norm_faults.specs.declared.kind.FaultKind.TheVariants.{NameDeclaredTwice}
use Rattle.lalrpop_norm_faults.specs.Faults.{Fault, fault_if}
use Rattle.lalrpop_norm_model.specs.Scopes.{Definition, a_rule, a_macro, a_terminal, Global, definition_of, an_argument, global_sense, is_argument, sense_of, resolved_alternative, resolved_item}
use Rattle.lalrpop_norm_resolve.specs.declared.resolve.Def.{Def}
use Rattle.lalrpop_norm_resolve.specs.NameFaults.{repeated_faults, repeated_argument_faults, alternative_name_faults, item_name_faults}
use Rattle.lalrpop_norm_resolve.specs.NameTables.{sense_seen, def_of, NameRows, GlobalMap, rows_of, sense_beside, with_def, with_all, all_rows, row_faults, rows_faults, items_globals, names_faults, item_faults_in, resolved_item_in}
use Rattle.lalrpop_norm_faults.proofs.FaultLemmas.{none_ahead}

-- what a map has after a definition was put into it
pub rows_added : (old new : GlobalMap) (name : List ℕ) (d : Def) →
    ((q : List ℕ) → get bytes_eq new q ≡ cond (bytes_eq name q) (Some d) (get bytes_eq old q)) → rows_of new ≡ with_def (rows_of old) name d
unfolding rows_of with_def
rows_added old new name d h = fun_ext h

-- ---- what a list defines after a definition is added

-- the first, where there is one
abbrev or_else : Option Definition → Option Definition → Option Definition
or_else (Some d) o = Some d
or_else None o = o

kept_or : (b : Bool) (d : Definition) (o p : Option Definition) → cond b (Some d) (or_else o p) ≡ or_else (cond b (Some d) o) p
kept_or true d o p = refl
kept_or false d o p = refl

defined_more : (ds : List Global) (d : Global) (q : List ℕ) →
    definition_of (ds ++ d ∷ []) q ≡ or_else (definition_of ds q) (cond (bytes_eq d.name q) (Some d.definition) None)
defined_more [] d q = refl
defined_more (x ∷ ds) d q =
    ap (λ o. cond (bytes_eq x.name q) (Some x.definition) o) (defined_more ds d q)
    ∙ kept_or (bytes_eq x.name q) x.definition (definition_of ds q) (cond (bytes_eq d.name q) (Some d.definition) None)

-- ---- names that are defined

-- the table has the names that are defined
abbrev HasNames : NameRows → List Global → Type 0
HasNames rows ds = (q : List ℕ) → is_some (rows q) ≡ is_some (definition_of ds q)

some_added : (b : Bool) (x : Def) (y : Definition) (o : Option Def) (p : Option Definition) → is_some o ≡ is_some p →
    is_some (cond b (Some x) o) ≡ is_some (or_else p (cond b (Some y) None))
some_added true x y o (Some z) e = refl
some_added true x y o None e = refl
some_added false x y o (Some z) e = e
some_added false x y o None e = e

names_more : (rows : NameRows) (ds : List Global) (d : Global) → HasNames rows ds → HasNames (with_def rows d.name (def_of d.definition)) (ds ++ d ∷ [])
unfolding with_def
names_more rows ds d h q =
    some_added (bytes_eq d.name q) (def_of d.definition) d.definition (rows q) (definition_of ds q) (h q)
    ∙ ap (λ o. is_some o) (sym (defined_more ds d q))

-- the faults of a table that grows are those of the list
pub faults_repeated : (rows : NameRows) (before ds : List Global) → HasNames rows before → rows_faults rows ds ≡ repeated_faults before ds
unfolding row_faults
faults_repeated rows before [] h = refl
faults_repeated rows before (d ∷ ds) h =
    ap (λ b. fault_if b (NameDeclaredTwice, d.span) ++ rows_faults (with_def rows d.name (def_of d.definition)) ds) (h d.name)
    ∙ ap (λ fs. fault_if (is_some (definition_of before d.name)) (NameDeclaredTwice, d.span) ++ fs)
    (faults_repeated (with_def rows d.name (def_of d.definition)) (before ++ d ∷ []) ds (names_more rows before d h))

-- ---- what they are defined as

-- the table says what is defined
abbrev Says : NameRows → List Global → Type 0
Says rows ds = (q : List ℕ) → rows q ≡ option_map def_of (definition_of ds q)

said_new : (b : Bool) (y : Definition) (o : Option Def) (p : Option Definition) → (b ≡ true → is_some p ≡ false) → o ≡ option_map def_of p →
    cond b (Some (def_of y)) o ≡ option_map def_of (or_else p (cond b (Some y) None))
said_new true y o (Some z) n e = absurd (cc (n refl))
said_new true y o None n e = refl
said_new false y o (Some z) n e = e
said_new false y o None n e = e

said_more : (rows : NameRows) (ds : List Global) (d : Global) → is_some (definition_of ds d.name) ≡ false → Says rows ds →
    Says (with_def rows d.name (def_of d.definition)) (ds ++ d ∷ [])
unfolding with_def
said_more rows ds d new h q =
    said_new (bytes_eq d.name q) d.definition (rows q) (definition_of ds q)
    (λ e. ap (λ n. is_some (definition_of ds n)) (sym ((bytes_eq-Decides d.name q).0 e)) ∙ new) (h q)
    ∙ ap (λ o. option_map def_of o) (sym (defined_more ds d q))

pub later : (b : Bool) (f : Fault) (fs : List Fault) → fault_if b f ++ fs ≡ [] → fs ≡ []
later true f fs h = cc
later false f fs h = h

pub all_said : (rows : NameRows) (before ds : List Global) → repeated_faults before ds ≡ [] → Says rows before → Says (with_all rows ds) (before ++ ds)
all_said rows before [] none h = rw (append-nil before) h
all_said rows before (d ∷ ds) none h =
    let f : Fault = (NameDeclaredTwice, d.span) in
    let fs = repeated_faults (before ++ d ∷ []) ds in
    let new = none_ahead (is_some (definition_of before d.name)) f fs none in
    let rest = later (is_some (definition_of before d.name)) f fs none in
    rw (← append_assoc before (d ∷ []) ds) (all_said (with_def rows d.name (def_of d.definition)) (before ++ d ∷ []) ds rest (said_more rows before d new h))

-- ---- what names mean by the table

seen_as : (o : Option Definition) → sense_seen (option_map def_of o) ≡ global_sense o
seen_as None = refl
seen_as (Some a_rule) = refl
seen_as (Some (a_macro n)) = refl
seen_as (Some a_terminal) = refl

-- a table of definitions gives each name its meaning
pub sense_said : (m : GlobalMap) (ds : List Global) (args : List NonterminalString) → rows_of m ≡ all_rows [] ds → sense_beside m (is_argument args) ≡ sense_of ds args
sense_said m ds args e =
    fun_ext (λ q. ap (λ o. cond (is_argument args q) (Some an_argument) o)
    (ap (λ (rows : NameRows). sense_seen (rows q)) e ∙ seen_as (definition_of ds q)))

-- ---- the table of some definitions, one after the other

nothing : (m : GlobalMap) (q : List ℕ) → m.entries ≡ [] → rows_of m q ≡ None
unfolding rows_of
nothing m q e = ap (λ es. lookup (bytes_eq q) es) e

pub faults_listed : (m : GlobalMap) (ds : List Global) → m.entries ≡ [] → rows_faults (rows_of m) ds ≡ repeated_faults [] ds
faults_listed m ds e = faults_repeated (rows_of m) [] ds (λ q. ap (λ o. is_some o) (nothing m q e))

pub rows_listed : (m : GlobalMap) (ds : List Global) → m.entries ≡ [] → rows_faults (rows_of m) ds ≡ [] → with_all (rows_of m) ds ≡ all_rows [] ds
rows_listed m ds e none = fun_ext (all_said (rows_of m) [] ds (sym (faults_listed m ds e) ∙ none) (λ q. nothing m q e))

-- ---- items by the table

module _ (m : GlobalMap) (ds : List Global) (e : rows_of m ≡ all_rows [] ds) where
  item_faults_same : (i : ItemData) → item_faults_in m i ≡ item_name_faults ds i
  unfolding item_faults_in
  item_faults_same (rule_item r) = ap (λ sense. repeated_argument_faults r.span r.args ++ flat_map (alternative_name_faults sense) r.alternatives) (sense_said m ds r.args e)
  item_faults_same (match_item t) = refl
  item_faults_same (extern_item t) = refl
  item_faults_same (intern_item t) = refl
  item_faults_same (use_item u) = refl

  resolved_item_same : (i : ItemData) → resolved_item_in m i ≡ resolved_item ds i
  unfolding resolved_item_in
  resolved_item_same (rule_item r) = ap (λ sense. rule_item (record r { alternatives = map (resolved_alternative sense) r.alternatives })) (sense_said m ds r.args e)
  resolved_item_same (match_item t) = refl
  resolved_item_same (extern_item t) = refl
  resolved_item_same (intern_item t) = refl
  resolved_item_same (use_item u) = refl

  pub items_faults_same : (is : List ItemData) → flat_map (item_faults_in m) is ≡ flat_map (item_name_faults ds) is
  items_faults_same is = ap (λ f. flat_map f is) (fun_ext item_faults_same)

  pub resolved_items_same : (is : List ItemData) → map (resolved_item_in m) is ≡ map (resolved_item ds) is
  resolved_items_same is = ap (λ f. map f is) (fun_ext resolved_item_same)

-- once no definition is repeated, the faults of names are those in the items
pub faults_in_items : (m : GlobalMap) (is : List ItemData) → rows_of m ≡ all_rows [] (items_globals is) → repeated_faults [] (items_globals is) ≡ [] →
    names_faults is ≡ flat_map (item_faults_in m) is
faults_in_items m is e none =
    ap (λ fs. fs ++ flat_map (item_name_faults (items_globals is)) is) none ∙ sym (items_faults_same m (items_globals is) e is)
