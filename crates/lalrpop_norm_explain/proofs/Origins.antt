-- What origins make, and where they are.
use Rattle.std.proofs.Common.{◌≡◌, ◌⊎◌, inl, inr, true, false, ℕ, ◌<◌, ltb, List, [], ◌∷◌, Option, Some, None, Bor, map, drop, length, get_or, slice_get, refl, sym, ap, ap₂, ◌∙◌}
use Rattle.std.specs.Prelude.{option_map, unwrap_or, bytes_eq, nat_eq, ◌&&◌}
use Rattle.std.proofs.lemmas.Option.{slice_get-map, slice_get_read, slice_get_past}
use Rattle.std.proofs.lemmas.Bool.{ltb-false}
use Rattle.lalrpop_norm_theory.specs.Symbols.{Name}
use Rattle.lalrpop_norm_theory.specs.LoweredTrees as theory
use Rattle.lalrpop_norm_theory.specs.LoweredTrees.{from_start}
use Rattle.lalrpop_norm_theory.specs.WrittenTrees.{WrittenTrees, nothing, list, no_trees}
use Rattle.lalrpop_norm_theory.specs.Translations.{first_tree, made_by}
use Rattle.lalrpop_norm_tree_names.specs.declared.names.NonterminalString.{NonterminalString}
use Rattle.lalrpop_norm_origins.specs.declared.origin.Origin.{Origin}
use Rattle.lalrpop_norm_origins.specs.declared.origin.Origin.TheVariants.{Start, Written, LevelStep, StarSome, Group, PlusOne, QuestionSome, Times, StarEmpty, QuestionEmpty, Lookahead, Lookbehind}
use Rattle.lalrpop_norm_origins.specs.Origins.{origin_view}
use Rattle.lalrpop_norm_repr.specs.declared.production.Production.{Production}
use Rattle.lalrpop_norm_repr.specs.declared.symbol.Symbol.{Symbol}
use Rattle.lalrpop_norm_repr.specs.Actions.{action_index}
use Rattle.lalrpop_norm_explain.specs.declared.traced.Traced.{Traced}
use Rattle.lalrpop_norm_explain.specs.Derivations.{tree_symbol, symbols_view}
use Rattle.lalrpop_norm_explain.specs.Forms.{production, plus_form, question_form, plus_by, question_by, form_by, star_over, star_second, form_of}
use Rattle.lalrpop_norm_explain.specs.Plans.{is_written}
use Rattle.lalrpop_norm_explain.specs.TracedGrammars.{production_in, pair_view}

-- ---- what they make

module _ (o : Origin) (ts : WrittenTrees) where
  pub step_made : (o ≡ Start) ⊎ ((o ≡ LevelStep) ⊎ (o ≡ StarSome)) → made_by (origin_view o) ts ≡ first_tree ts
  step_made (inl e) = rw e refl
  step_made (inr (inl e)) = rw e refl
  step_made (inr (inr e)) = rw e refl

  pub list_made : (o ≡ Group) ⊎ ((o ≡ PlusOne) ⊎ ((o ≡ QuestionSome) ⊎ (o ≡ Times))) → made_by (origin_view o) ts ≡ list ts
  list_made (inl e) = rw e refl
  list_made (inr (inl e)) = rw e refl
  list_made (inr (inr (inl e))) = rw e refl
  list_made (inr (inr (inr e))) = rw e refl

  pub empty_made : (o ≡ StarEmpty) ⊎ (o ≡ QuestionEmpty) → made_by (origin_view o) ts ≡ list no_trees
  empty_made (inl e) = rw e refl
  empty_made (inr e) = rw e refl

  pub nothing_made : (o ≡ Lookahead) ⊎ (o ≡ Lookbehind) → made_by (origin_view o) ts ≡ nothing
  nothing_made (inl e) = rw e refl
  nothing_made (inr e) = rw e refl

-- ---- which alternatives they are of

pub number_asked : (m : Name) (k : ℕ) (o : Origin) (n : NonterminalString) (j : ℕ) → o ≡ Written n j → true ≡ bytes_eq n.0 m → nat_eq j k ≡ is_written m k (origin_view o)
number_asked m k o n j is same = sym (ap (λ x. is_written m k (origin_view x)) is ∙ ap (λ b. b && nat_eq j k) (sym same))

-- ---- where they are

module _ (t : Traced) where
  pub origin_there : (os : List Origin) (i : ℕ) (o : Origin) (p : Production) → os ≡ t.origins.items → i ≡ action_index p.action → i < length os → o ≡ get_or os i o →
      origin_view o ≡ (production_in t p).origin
  origin_there os i o p same at lt is =
      let found : slice_get t.origins.items (action_index p.action) ≡ Some o = ap₂ slice_get (sym same) (sym at) ∙ slice_get_read os (length os) i o refl lt is in
      sym (ap (λ (x : Option theory.Origin). unwrap_or x from_start) (slice_get-map origin_view t.origins.items (action_index p.action) ∙ ap (option_map origin_view) found))

  pub production_there : (ps : List Production) (i : ℕ) (p : Production) (s : Bor (List Symbol)) (o : Bor Origin) (qs : List theory.Production) → i < length ps → p ≡ get_or ps i p →
      s.now ≡ p.symbols.items → origin_view o.now ≡ (production_in t p).origin → map (production_in t) ps ≡ qs → Some (pair_view (s, o)) ≡ slice_get qs i
  production_there ps i p s o qs lt is symbols origin all =
      ap (λ ss. Some (production (origin_view o.now) (symbols_view ss))) symbols
      ∙ ap (λ x. Some (production x (symbols_view p.symbols.items))) origin
      ∙ sym (ap (option_map (production_in t)) (slice_get_read ps (length ps) i p refl lt is))
      ∙ sym (slice_get-map (production_in t) ps i)
      ∙ ap (λ xs. slice_get xs i) all

  pub no_production_there : (ps : List Production) (i : ℕ) (qs : List theory.Production) → false ≡ ltb i (length ps) → map (production_in t) ps ≡ qs → None ≡ slice_get qs i
  no_production_there ps i qs past all =
      sym (ap (option_map (production_in t)) (slice_get_past ps i (ltb-false i (length ps) (sym past))))
      ∙ sym (slice_get-map (production_in t) ps i)
      ∙ ap (λ xs. slice_get xs i) all

  pub no_origin_there : (os : List Origin) (i : ℕ) (p : Production) → os ≡ t.origins.items → i ≡ action_index p.action → false ≡ ltb i (length os) → origin_view t.start ≡ (production_in t p).origin
  no_origin_there os i p same at past =
      let none : slice_get t.origins.items (action_index p.action) ≡ None = ap₂ slice_get (sym same) (sym at) ∙ slice_get_past os i (ltb-false i (length os) (sym past)) in
      t.begins ∙ sym (ap (λ (x : Option theory.Origin). unwrap_or x from_start) (slice_get-map origin_view t.origins.items (action_index p.action) ∙ ap (option_map origin_view) none))

-- ---- what a rule was made for

pub no_form : (qs : List theory.Production) → None ≡ slice_get qs 0 → None ≡ form_of qs
no_form [] e = refl
no_form (q ∷ qs) e = absurd (cc e)

pub no_first : (ss : List Symbol) → None ≡ slice_get ss 0 → (None ≡ plus_by (symbols_view ss)) × (None ≡ question_by (symbols_view ss))
no_first [] e = (refl, refl)
no_first (s ∷ ss) e = absurd (cc e)

pub first_there : (ss : List Symbol) (s : Symbol) → Some s ≡ slice_get ss 0 →
    (Some (plus_form (tree_symbol s)) ≡ plus_by (symbols_view ss)) × (Some (question_form (tree_symbol s)) ≡ question_by (symbols_view ss))
first_there [] s e = absurd (cc e)
first_there (r ∷ ss) s e =
    let same : s ≡ r = cc in
    (ap (λ x. Some (plus_form (tree_symbol x))) same, ap (λ x. Some (question_form (tree_symbol x))) same)

pub form_seen : (qs : List theory.Production) (q : theory.Production) (o : theory.Origin) → Some q ≡ slice_get qs 0 → q.origin ≡ o → form_by o q.symbols (drop 1 qs) ≡ form_of qs
form_seen [] q o e at = absurd (cc e)
form_seen (r ∷ qs) q o e at = let same : q ≡ r = cc in sym (ap (λ (x : theory.Production). form_by x.origin x.symbols qs) (sym same) ∙ ap (λ x. form_by x q.symbols qs) at)

pub star_seen : (qs : List theory.Production) → star_second qs ≡ star_over (drop 1 qs)
star_seen [] = refl
star_seen (q ∷ qs) = refl
