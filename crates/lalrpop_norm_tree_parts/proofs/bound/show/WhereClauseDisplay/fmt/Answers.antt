use Rattle.std.proofs.Output.{displays_on_ok_of_eq}
use Rattle.lalrpop_norm_tree_parts.proofs.KnownTextLemmas.{known_then, written_then, type_clause_text}
use Rattle.lalrpop_norm_tree_parts.proofs.WrittenLemmas.{failed}
use Rattle.lalrpop_norm_tree_parts.proofs.bound.show.WhereClauseDisplay.fmt.Goals as goal

pub returns-in_err-fmt-in-Lifetime : goal.returns-in_err-fmt-in-Lifetime
returns-in_err-fmt-in-Lifetime g c = record {
  writes = failed g.W.Write.write_str_gives _ _ _ _ c.from_residual.ensures.0;
  styled = tt;
}

pub returns-in_err-write_str-in-Lifetime : goal.returns-in_err-write_str-in-Lifetime
returns-in_err-write_str-in-Lifetime g c = record {
  writes = failed g.W.Write.write_str_gives _ _ _ _ c.from_residual-in_err-write_str-in-Lifetime.ensures.0;
  styled = tt;
}

pub returns-in_err-show_forall-in-OfType : goal.returns-in_err-show_forall-in-OfType
returns-in_err-show_forall-in-OfType g c = record {
  writes = failed g.W.Write.write_str_gives _ _ _ _ c.from_residual-in_err-show_forall-in-OfType.ensures.0;
  styled = tt;
}

pub returns-in_err-fmt-in-OfType : goal.returns-in_err-fmt-in-OfType
returns-in_err-fmt-in-OfType g c = record {
  writes = failed g.W.Write.write_str_gives _ _ _ _ c.from_residual-in_err-fmt-in-OfType.ensures.0;
  styled = tt;
}

pub returns-in_err-write_str-in-OfType : goal.returns-in_err-write_str-in-OfType
returns-in_err-write_str-in-OfType g c = record {
  writes = failed g.W.Write.write_str_gives _ _ _ _ c.from_residual-in_err-write_str-in-OfType.ensures.0;
  styled = tt;
}

pub returns-in_ok-write_str-in-OfType : goal.returns-in_ok-write_str-in-OfType
returns-in_ok-write_str-in-OfType g c =
    let took = g.W.Write.write_str_gives in
    let text = g.T.Display.output in
    let r = c.show_bounds-in-OfType.result in
    record {
      writes = displays_on_ok_of_eq took c.args.f.now _ r _ _
          (type_clause_text text c.args.self.now c.in-OfType.forall c.in-OfType.ty c.in-OfType.bounds c.in-OfType.is)
          (written_then took c.args.f.now _ _ r _ _ c.in_ok-show_forall-in-OfType.ensures
          (known_then took c.show_forall.new.f _ _ r (text c.in-OfType.ty) _ c.in_ok-fmt-in-OfType.ensures.writes
          (written_then took c.fmt-in-OfType.new.f _ _ r _ _ c.in_ok-write_str-in-OfType.ensures.writes c.show_bounds-in-OfType.ensures)));
      styled = tt;
    }
