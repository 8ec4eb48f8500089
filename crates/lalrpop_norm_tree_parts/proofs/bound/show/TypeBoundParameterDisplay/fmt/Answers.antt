use Rattle.lalrpop_norm_tree_parts.proofs.KnownTextLemmas.{written_then}
use Rattle.lalrpop_norm_tree_parts.proofs.WrittenLemmas.{failed}
use Rattle.lalrpop_norm_tree_parts.proofs.bound.show.TypeBoundParameterDisplay.fmt.Goals as goal

pub returns-in-Lifetime : goal.returns-in-Lifetime
returns-in-Lifetime g c = record {
  writes = rw (c.in-Lifetime.is) c.fmt.ensures.writes;
  styled = tt;
}

pub returns-in-TypeParameter : goal.returns-in-TypeParameter
returns-in-TypeParameter g c = record {
  writes = rw (c.in-TypeParameter.is) c.fmt-in-TypeParameter.ensures.writes;
  styled = tt;
}

pub returns-in_err-fmt-in-Associated : goal.returns-in_err-fmt-in-Associated
returns-in_err-fmt-in-Associated g c = record {
  writes = failed g.W.Write.write_str_gives _ _ _ _ c.from_residual.ensures.0;
  styled = tt;
}

pub returns-in_err-write_str-in-Associated : goal.returns-in_err-write_str-in-Associated
returns-in_err-write_str-in-Associated g c = record {
  writes = failed g.W.Write.write_str_gives _ _ _ _ c.from_residual-in_err-write_str-in-Associated.ensures.0;
  styled = tt;
}

pub returns-in_ok-write_str-in-Associated : goal.returns-in_ok-write_str-in-Associated
returns-in_ok-write_str-in-Associated g c =
    let took = g.W.Write.write_str_gives in
    let r = c.fmt-in-Associated-2.result in
    record {
      writes = rw (c.in-Associated.is)
          (written_then took c.args.f.now _ _ r _ _ c.in_ok-fmt-in-Associated.ensures.writes
          (written_then took c.fmt-in-Associated.new.f _ _ r _ _ c.in_ok-write_str-in-Associated.ensures.writes c.fmt-in-Associated-2.ensures.writes));
      styled = tt;
    }
