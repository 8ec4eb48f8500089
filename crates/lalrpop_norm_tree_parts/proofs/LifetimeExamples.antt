-- The worked examples of lifetime naming, by computing.
use Rattle.std.proofs.Common.{◌≡◌, ℕ, List, [], ◌∷◌, Some, None, false, codes, refl, arith}
use Rattle.std.proofs.lemmas.Fmt.{decimal_digit}
use Rattle.lalrpop_norm_tree_names.specs.declared.names.Lifetime.{Lifetime}
use Rattle.lalrpop_norm_tree_names.specs.declared.names.TypeParameter.{TypeParameter}
use Rattle.lalrpop_norm_tree_names.specs.declared.names.TypeParameter.TheVariants as parameter
use Rattle.lalrpop_norm_tree_parts.specs.Bounds.{lifetime_bound}
use Rattle.lalrpop_norm_tree_parts.specs.LifetimeNames.{Scope, named}
use Rattle.lalrpop_norm_tree_parts.specs.Reprs.{reference, named_repr, of_lifetime, has_bound, LoweredClause}

abbrev lifetime : List ℕ → Lifetime
lifetime a = record { 0 = a }

abbrev scope : List TypeParameter → List LoweredClause → Scope
scope ps cs = record { parameters = ps; clauses = cs }

-- &Foo, no parameters
foo : named (codes "__") (reference None false (named_repr (codes "Foo"))) (scope [] []) ≡ (reference (Some (lifetime (codes "'__0"))) false (named_repr (codes "Foo")), scope (parameter.Lifetime (lifetime (codes "'__0")) ∷ []) [])
foo = rw (decimal_digit 0 (omega arith)) refl

-- &T, parameters T
of_t : named (codes "__") (reference None false (named_repr (codes "T"))) (scope (parameter.Id (codes "T") ∷ []) []) ≡ (reference (Some (lifetime (codes "'__1"))) false (named_repr (codes "T")), scope (parameter.Id (codes "T") ∷ parameter.Lifetime (lifetime (codes "'__1")) ∷ []) (has_bound (named_repr (codes "T")) (lifetime_bound (lifetime (codes "'__1"))) ∷ []))
of_t = rw (decimal_digit 1 (omega arith)) refl

-- &&'a T, parameters 'a, T
nested : named (codes "__") (reference None false (reference (Some (lifetime (codes "'a"))) false (named_repr (codes "T")))) (scope (parameter.Lifetime (lifetime (codes "'a")) ∷ parameter.Id (codes "T") ∷ []) [])
    ≡ (
      reference (Some (lifetime (codes "'__2"))) false (reference (Some (lifetime (codes "'a"))) false (named_repr (codes "T"))),
      scope (parameter.Lifetime (lifetime (codes "'a")) ∷ parameter.Id (codes "T") ∷ parameter.Lifetime (lifetime (codes "'__2")) ∷ [])
          (has_bound (named_repr (codes "T")) (lifetime_bound (lifetime (codes "'a"))) ∷ has_bound (of_lifetime (lifetime (codes "'a"))) (lifetime_bound (lifetime (codes "'__2"))) ∷ has_bound (named_repr (codes "T")) (lifetime_bound (lifetime (codes "'__2"))) ∷ []),
    )
nested = rw (decimal_digit 2 (omega arith)) refl
