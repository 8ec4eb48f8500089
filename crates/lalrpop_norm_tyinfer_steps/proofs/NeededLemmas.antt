-- What clauses make of a table rests, of its names, on those that they need; without the type of one of these they make none.
use Rattle.std.proofs.Common.{◌≡◌, inl, inr, ℕ, List, [], ◌∷◌, ◌++◌, Option, Some, None, map, append-nil, refl, sym, ap, ap₂, ◌∙◌}
use Rattle.std.specs.Prelude.{option_map, flat_map}
use Rattle.lalrpop_norm_tree_names.specs.declared.names.TerminalString.{TerminalString}
use Rattle.lalrpop_norm_tree_names.specs.declared.names.TypeParameter.{TypeParameter}
use Rattle.lalrpop_norm_tree.specs.Accessors.{or_else}
use Rattle.lalrpop_norm_tree_parts.specs.Paths.{PathData}
use Rattle.lalrpop_norm_tree_parts.specs.Reprs as lowered
use Rattle.lalrpop_norm_tree_parts.specs.Reprs.{ReprData, Reprs}
use Rattle.lalrpop_norm_tree.specs.Symbols.{Kind, terminal, nonterminal, error_terminal}
use Rattle.lalrpop_norm_tree.specs.Types.{TypeData, TypesData, MaybeType, types_of, tuple, slice, nominal, reference, trait_object, of_lifetime, id, of_symbol, function, no_types, type_and, no_type, returns}
use Rattle.lalrpop_norm_theory.specs.Rounds.{In}
use Rattle.lalrpop_norm_theory.proofs.RoundsLemmas.{in_left, in_right, in_cases}
use Rattle.lalrpop_norm_repr.specs.Tables.{TypeTable, type_of_terminal}
use Rattle.lalrpop_norm_tree.specs.Traversal.{wrapped_kind}
use Rattle.lalrpop_norm_model.specs.Expanded.{leaf_names, names_in_kind}
use Rattle.lalrpop_norm_model.specs.TypeRelation.{associated_in, TypeClause, makes, locates}
use Rattle.lalrpop_norm_model.specs.TypeTables.{leaf_type, path_value, both}
use Rattle.lalrpop_norm_tyinfer_steps.specs.Clauses.{type_of_sources, clause_in, first_in}
use Rattle.lalrpop_norm_tyinfer_steps.specs.Needs.{needed_path, needed_type, needed_types, needed_return, needed_in}
use Rattle.lalrpop_norm_tyinfer_steps.specs.TableValues.{type_by_name, table_types, type_in, types_in, return_in}

-- ---- tables with the same types for some names

abbrev SameFor : TypeTable → TypeTable → List (List ℕ) → Type 0
SameFor before after ns = (m : List ℕ) → In m ns → type_by_name after m ≡ type_by_name before m

same_left : (before after : TypeTable) (ns ms : List (List ℕ)) → SameFor before after (ns ++ ms) → SameFor before after ns
same_left before after ns ms same m here = same m (in_left m ns ms here)

same_right : (before after : TypeTable) (ns ms : List (List ℕ)) → SameFor before after (ns ++ ms) → SameFor before after ms
same_right before after ns ms same m here = same m (in_right m ns ms here)

path_same : {A B C : Type 0} (a : Option A) (f : Option A → Option B → Option C) (before after : TypeTable) (ns : List (List ℕ)) (v w : Option B) →
    ((x : A) → f (Some x) v ≡ f (Some x) w) → (SameFor before after ns → v ≡ w) → SameFor before after (needed_path a ns) → f a v ≡ f a w
path_same (Some x) f before after ns v w apart e same = apart x
path_same None f before after ns v w apart e same = ap (f None) (e same)

module _ (ps : List TypeParameter) (before after : TypeTable) (rest : after ≡ record before { nonterminals = after.nonterminals }) where
  terminal_same : (t : TerminalString) → type_of_terminal t after ≡ type_of_terminal t before
  terminal_same t = ap (λ (u : TypeTable). type_of_terminal t u) rest

  leaf_same : (k : Kind) → SameFor before after (leaf_names k) → leaf_type (table_types after) k ≡ leaf_type (table_types before) k
  leaf_same (terminal t) same = ap Some (terminal_same t)
  leaf_same error_terminal same = ap (λ (u : TypeTable). Some u.recovery) rest
  leaf_same (nonterminal n) same = same n (inl refl)
  leaf_same _ same = refl

  mutual
    type_same : (t : TypeData) → SameFor before after (needed_type ps t) → type_in ps after t ≡ type_in ps before t
    type_same (of_symbol k) same = leaf_same (wrapped_kind k) same
    type_same (nominal p ts) same =
        path_same (associated_in ps p.ids) (λ a v. path_value a p v) before after (needed_types ps ts) (types_in ps after ts) (types_in ps before ts) (λ a. refl) (λ here. types_same ts here) same
    type_same (id a) same = refl
    type_same (tuple ts) same = ap (option_map lowered.tuple) (types_same ts same)
    type_same (slice t) same = ap (option_map lowered.slice) (type_same t same)
    type_same (reference l m t) same = ap (option_map (lowered.reference l m)) (type_same t same)
    type_same (trait_object p ts) same = ap (option_map (lowered.trait_object p)) (types_same ts same)
    type_same (of_lifetime l) same = refl
    type_same (function fs p ts r) same =
        ap₂ (both (lowered.function fs p)) (types_same ts (same_left before after (needed_types ps ts) (needed_return ps r) same))
        (return_same r (same_right before after (needed_types ps ts) (needed_return ps r) same))

    types_same : (ts : TypesData) → SameFor before after (needed_types ps ts) → types_in ps after ts ≡ types_in ps before ts
    types_same no_types same = refl
    types_same (type_and t ts) same =
        ap₂ (both lowered.repr_and) (type_same t (same_left before after (needed_type ps t) (needed_types ps ts) same))
        (types_same ts (same_right before after (needed_type ps t) (needed_types ps ts) same))

    return_same : (r : MaybeType) → SameFor before after (needed_return ps r) → return_in ps after r ≡ return_in ps before r
    return_same no_type same = refl
    return_same (returns t) same = ap (option_map lowered.returns) (type_same t same)

  pub clause_same : (c : TypeClause) → SameFor before after (needed_in ps c) → clause_in ps after c ≡ clause_in ps before c
  clause_same (makes t) same = type_same t same
  clause_same locates same = ap (λ (u : TypeTable). u.location) rest

-- ---- a name without a type

both_right : {A B C : Type 0} (f : A → B → C) (v : Option A) → both f v None ≡ None
both_right f (Some x) = refl
both_right f None = refl

both_lacks_left : {A B C : Type 0} (f : A → B → C) (v : Option A) (w : Option B) → v ≡ None → both f v w ≡ None
both_lacks_left f v w e = ap (λ x. both f x w) e

both_lacks_right : {A B C : Type 0} (f : A → B → C) (v : Option A) (w : Option B) → w ≡ None → both f v w ≡ None
both_lacks_right f v w e = ap (both f v) e ∙ both_right f v

path_lacks : {A : Type 0} (a : Option A) (p : PathData) (v : Option Reprs) (f : Option A → Option Reprs → Option ReprData) → f None None ≡ None → (ns : List (List ℕ)) (m : List ℕ) → In m (needed_path a ns) →
    (In m ns → v ≡ None) → f a v ≡ None
path_lacks (Some x) p v f none ns m h lacks = absurd h
path_lacks None p v f none ns m h lacks = ap (f None) (lacks h) ∙ none

module _ (ps : List TypeParameter) (tt : TypeTable) (m : List ℕ) (none : type_by_name tt m ≡ None) where
  leaf_lacks : (k : Kind) → In m (leaf_names k) → leaf_type (table_types tt) k ≡ None
  leaf_lacks (nonterminal n) (inl e) = ap (type_by_name tt) (sym e) ∙ none
  leaf_lacks (nonterminal n) (inr h) = absurd h
  leaf_lacks _ h = absurd h

  mutual
    type_lacks : (t : TypeData) → In m (needed_type ps t) → type_in ps tt t ≡ None
    type_lacks (of_symbol k) h = leaf_lacks (wrapped_kind k) h
    type_lacks (nominal p ts) h = path_lacks (associated_in ps p.ids) p (types_in ps tt ts) (λ a v. path_value a p v) refl (needed_types ps ts) m h (λ i. types_lack ts i)
    type_lacks (id a) h = absurd h
    type_lacks (tuple ts) h = ap (option_map lowered.tuple) (types_lack ts h)
    type_lacks (slice t) h = ap (option_map lowered.slice) (type_lacks t h)
    type_lacks (reference l b t) h = ap (option_map (lowered.reference l b)) (type_lacks t h)
    type_lacks (trait_object p ts) h = ap (option_map (lowered.trait_object p)) (types_lack ts h)
    type_lacks (of_lifetime l) h = absurd h
    type_lacks (function fs p ts r) h = elim (in_cases m (needed_types ps ts) (needed_return ps r) h) [
      | inl i ↦ both_lacks_left (lowered.function fs p) (types_in ps tt ts) (return_in ps tt r) (types_lack ts i)
      | inr i ↦ both_lacks_right (lowered.function fs p) (types_in ps tt ts) (return_in ps tt r) (return_lacks r i)
    ]

    types_lack : (ts : TypesData) → In m (needed_types ps ts) → types_in ps tt ts ≡ None
    types_lack no_types h = absurd h
    types_lack (type_and t ts) h = elim (in_cases m (needed_type ps t) (needed_types ps ts) h) [
      | inl i ↦ both_lacks_left lowered.repr_and (type_in ps tt t) (types_in ps tt ts) (type_lacks t i)
      | inr i ↦ both_lacks_right lowered.repr_and (type_in ps tt t) (types_in ps tt ts) (types_lack ts i)
    ]

    return_lacks : (r : MaybeType) → In m (needed_return ps r) → return_in ps tt r ≡ None
    return_lacks no_type h = absurd h
    return_lacks (returns t) h = ap (option_map lowered.returns) (type_lacks t h)

  -- a clause that needs it makes nothing
  pub clause_lacks : (c : TypeClause) → In m (needed_in ps c) → clause_in ps tt c ≡ None
  clause_lacks (makes t) h = type_lacks t h
  clause_lacks locates h = absurd h

-- ---- several clauses

none_first : (v w : Option ReprData) → or_else v w ≡ None → v ≡ None
none_first None w e = refl
none_first (Some x) w e = absurd (cc e)

none_later : (v w : Option ReprData) → or_else v w ≡ None → w ≡ None
none_later None w e = e
none_later (Some x) w e = absurd (cc e)

pub none_of : (ps : List TypeParameter) (tt : TypeTable) (cs : List TypeClause) (c : TypeClause) → first_in ps tt cs ≡ None → In c cs → clause_in ps tt c ≡ None
none_of ps tt [] c e h = absurd h
none_of ps tt (d ∷ cs) c e (inl is) = ap (clause_in ps tt) is ∙ none_first (clause_in ps tt d) (first_in ps tt cs) e
none_of ps tt (d ∷ cs) c e (inr h) = none_of ps tt cs c (none_later (clause_in ps tt d) (first_in ps tt cs) e) h

pub none_from : (ps : List TypeParameter) (tt : TypeTable) (cs : List TypeClause) → ((c : TypeClause) → In c cs → clause_in ps tt c ≡ None) → first_in ps tt cs ≡ None
none_from ps tt [] none = refl
none_from ps tt (d ∷ cs) none = ap₂ or_else (none d (inl refl)) (none_from ps tt cs (λ c h. none c (inr h)))

-- ---- the names of the sources of an alternative

needed_of_kinds : (ps : List TypeParameter) (ks : List Kind) → needed_types ps (types_of (map of_symbol ks)) ≡ flat_map names_in_kind ks
needed_of_kinds ps [] = refl
needed_of_kinds ps (k ∷ ks) = ap (λ ns. names_in_kind k ++ ns) (needed_of_kinds ps ks)

pub needed_of_sources : (ps : List TypeParameter) (ks : List Kind) → needed_type ps (type_of_sources ks) ≡ flat_map names_in_kind ks
needed_of_sources ps [] = refl
needed_of_sources ps (k ∷ []) = sym (append-nil (names_in_kind k))
needed_of_sources ps (k ∷ l ∷ ks) = needed_of_kinds ps (k ∷ l ∷ ks)
