-- The type parameters that are no lifetimes, one after the other.
use Rattle.std.proofs.Common.{◌≡◌, ◌+◌, ◌<◌, ◌≤◌, ℕ, List, [], ◌∷◌, ◌++◌, Bor, length, get_or, drop, map, append_assoc, append-nil, ap, sym, ◌∙◌}
use Rattle.std.specs.Prelude.{filter}
use Rattle.std.proofs.lemmas.List.{at_drop_more, at_drop_all, map_push}
use Rattle.shared_text.specs.declared.atom.Atom.{Atom}
use Rattle.lalrpop_norm_tree_names.specs.declared.names.Lifetime as lifetime
use Rattle.lalrpop_norm_tree_names.specs.declared.names.TypeParameter.{TypeParameter}
use Rattle.lalrpop_norm_tree_names.specs.declared.names.TypeParameter.TheVariants.{Lifetime, Id}
use Rattle.lalrpop_norm_repr.specs.Lookups.{is_type_name}

abbrev seen : List (Bor TypeParameter) → List TypeParameter
seen ps = map (λ (p : Bor TypeParameter). p.now) ps

module _ (ps : List TypeParameter) (i : ℕ) (x : TypeParameter) (names : List (Bor TypeParameter)) (whole : List TypeParameter) (within : i < length ps) (is : x ≡ get_or ps i x)
    (h : seen names ++ filter is_type_name (drop i ps) ≡ whole) where
  pub passed : (l : lifetime.Lifetime) (new : List (Bor TypeParameter)) → x ≡ Lifetime l → new ≡ names → seen new ++ filter is_type_name (drop (i + 1) ps) ≡ whole
  passed l new of same =
      ap (λ qs. seen qs ++ filter is_type_name (drop (i + 1) ps)) same
      ∙ ap (λ qs. seen names ++ qs) (sym (at_drop_more (filter is_type_name) ps i x within ∙ ap (λ y. filter is_type_name (y ∷ drop (i + 1) ps)) (sym is ∙ of))) ∙ h

  pub taken : (a : Atom) (p : Bor TypeParameter) (new : List (Bor TypeParameter)) → x ≡ Id a → new ≡ names ++ p ∷ [] → p.now ≡ x → seen new ++ filter is_type_name (drop (i + 1) ps) ≡ whole
  taken a p new of more same =
      let rest = drop (i + 1) ps in
      ap (λ qs. seen qs ++ filter is_type_name rest) more
      ∙ ap (λ qs. qs ++ filter is_type_name rest) (map_push (λ (q : Bor TypeParameter). q.now) names p)
      ∙ append_assoc (seen names) (p.now ∷ []) (filter is_type_name rest)
      ∙ ap (λ y. seen names ++ y ∷ filter is_type_name rest) (same ∙ of)
      ∙ ap (λ qs. seen names ++ qs) (sym (at_drop_more (filter is_type_name) ps i x within ∙ ap (λ y. filter is_type_name (y ∷ rest)) (sym is ∙ of))) ∙ h

pub all_taken : (ps : List TypeParameter) (i : ℕ) (names : List (Bor TypeParameter)) → length ps ≤ i →
    seen names ++ filter is_type_name (drop i ps) ≡ filter is_type_name ps → seen names ≡ filter is_type_name ps
all_taken ps i names end h = sym (append-nil (seen names)) ∙ ap (λ qs. seen names ++ qs) (sym (at_drop_all (filter is_type_name) ps i end)) ∙ h
