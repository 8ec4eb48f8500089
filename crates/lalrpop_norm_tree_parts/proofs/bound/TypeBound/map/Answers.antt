use Rattle.std.proofs.Common.{ap, refl}
use Rattle.std.proofs.lemmas.Result.{IfOk-from_err}
use Rattle.std.specs.Fn.{CalledAt}
use Rattle.lalrpop_norm_tree_parts.specs.Bounds.{lifetime_bound}
use Rattle.lalrpop_norm_tree_parts.proofs.WalkLemmas.{if_err_has, wanting}
use Rattle.lalrpop_norm_tree_parts.proofs.bound.TypeBound.map.Goals as goal

pub returns-in_err-same_lifetime-in-Lifetime : goal.returns-in_err-same_lifetime-in-Lifetime
returns-in_err-same_lifetime-in-Lifetime g c = record {
  again = c.requires;
  kept = IfOk-from_err _ _ c.from_residual.ensures.0;
  answered = IfOk-from_err _ _ c.from_residual.ensures.0;
  ended = if_err_has (g.E.From.from_gives record {}) _ _ c.from_residual.ensures.1 (λ e m. wanting (CalledAt g.F.FnMut) (g.E.From.from_gives record {}) c.args.f.now _ e m);
}

pub returns-in_err-same_head-in-Fn : goal.returns-in_err-same_head-in-Fn
returns-in_err-same_head-in-Fn g c = record {
  again = c.requires;
  kept = IfOk-from_err _ _ c.from_residual-in_err-same_head-in-Fn.ensures.0;
  answered = IfOk-from_err _ _ c.from_residual-in_err-same_head-in-Fn.ensures.0;
  ended = if_err_has (g.E.From.from_gives record {}) _ _ c.from_residual-in_err-same_head-in-Fn.ensures.1 (λ e m. wanting (CalledAt g.F.FnMut) (g.E.From.from_gives record {}) c.args.f.now _ e m);
}

pub returns-in_err-same_head-in-Trait : goal.returns-in_err-same_head-in-Trait
returns-in_err-same_head-in-Trait g c = record {
  again = c.requires;
  kept = IfOk-from_err _ _ c.from_residual-in_err-same_head-in-Trait.ensures.0;
  answered = IfOk-from_err _ _ c.from_residual-in_err-same_head-in-Trait.ensures.0;
  ended = if_err_has (g.E.From.from_gives record {}) _ _ c.from_residual-in_err-same_head-in-Trait.ensures.1 (λ e m. wanting (CalledAt g.F.FnMut) (g.E.From.from_gives record {}) c.args.f.now _ e m);
}

pub returns-in_ok-same_lifetime-in-Lifetime : goal.returns-in_ok-same_lifetime-in-Lifetime
returns-in_ok-same_lifetime-in-Lifetime g c = record {
  again = c.requires;
  kept = rw (c.in-Lifetime.is) (ap lifetime_bound c.in_ok-same_lifetime-in-Lifetime.ensures);
  answered = rw (c.in-Lifetime.is) refl;
  ended = tt;
}

pub returns-in_ok-same_head-in-Fn : goal.returns-in_ok-same_head-in-Fn
returns-in_ok-same_head-in-Fn g c = record {
  again = c.map_function.ensures.again;
  kept = rw (c.in-Fn.is, ← c.in_ok-same_head-in-Fn.ensures.0, ← c.in_ok-same_head-in-Fn.ensures.1) c.map_function.ensures.kept;
  answered = rw (c.in-Fn.is) c.map_function.ensures.answered;
  ended = rw (c.in-Fn.is) c.map_function.ensures.ended;
}

pub returns-in_ok-same_head-in-Trait : goal.returns-in_ok-same_head-in-Trait
returns-in_ok-same_head-in-Trait g c = record {
  again = c.map_trait.ensures.again;
  kept = rw (c.in-Trait.is, ← c.in_ok-same_head-in-Trait.ensures.0, ← c.in_ok-same_head-in-Trait.ensures.1) c.map_trait.ensures.kept;
  answered = rw (c.in-Trait.is) c.map_trait.ensures.answered;
  ended = rw (c.in-Trait.is) c.map_trait.ensures.ended;
}
