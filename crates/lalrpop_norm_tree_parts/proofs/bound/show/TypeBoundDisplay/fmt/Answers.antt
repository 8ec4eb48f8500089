use Rattle.std.proofs.Output.{displays_on_ok_of_eq}
use Rattle.lalrpop_norm_tree_parts.proofs.KnownTextLemmas.{known_then, written_then, trait_bound_text}
use Rattle.lalrpop_norm_tree_parts.proofs.WrittenLemmas.{failed}
use Rattle.lalrpop_norm_tree_parts.proofs.bound.show.TypeBoundDisplay.fmt.Goals as goal

pub returns-in-Lifetime : goal.returns-in-Lifetime
returns-in-Lifetime g c = record {
  writes = rw (c.in-Lifetime.is) c.fmt.ensures.writes;
  styled = tt;
}

pub returns-in_err-show_forall_path-in-Fn : goal.returns-in_err-show_forall_path-in-Fn
returns-in_err-show_forall_path-in-Fn g c = record {
  writes = failed g.W.Write.write_str_gives _ _ _ _ c.from_residual.ensures.0;
  styled = tt;
}

pub returns-in_err-show_between-in-Fn : goal.returns-in_err-show_between-in-Fn
returns-in_err-show_between-in-Fn g c = record {
  writes = failed g.W.Write.write_str_gives _ _ _ _ c.from_residual-in_err-show_between-in-Fn.ensures.0;
  styled = tt;
}

pub returns-in_ok-show_between-in-Fn : goal.returns-in_ok-show_between-in-Fn
returns-in_ok-show_between-in-Fn g c =
    let took = g.W.Write.write_str_gives in
    let r = c.show_return.result in
    record {
      writes = rw (c.in-Fn.is)
          (written_then took c.args.f.now _ _ r _ _ c.in_ok-show_forall_path-in-Fn.ensures
          (known_then took c.show_forall_path.new.f _ _ r _ _ c.in_ok-show_between-in-Fn.ensures c.show_return.ensures));
      styled = tt;
    }

pub returns-in_err-show_forall_path-in-Trait : goal.returns-in_err-show_forall_path-in-Trait
returns-in_err-show_forall_path-in-Trait g c = record {
  writes = failed g.W.Write.write_str_gives _ _ _ _ c.from_residual-in_err-show_forall_path-in-Trait.ensures.0;
  styled = tt;
}

pub returns-in_ok-show_forall_path-in-Trait : goal.returns-in_ok-show_forall_path-in-Trait
returns-in_ok-show_forall_path-in-Trait g c =
    let took = g.W.Write.write_str_gives in
    let r = c.show_angled.result in
    record {
      writes = displays_on_ok_of_eq took c.args.f.now _ r _ _
          (trait_bound_text g.T.Display.output c.args.self.now c.in-Trait.forall c.in-Trait.path c.in-Trait.parameters c.in-Trait.is)
          (written_then took c.args.f.now _ _ r _ _ c.in_ok-show_forall_path-in-Trait.ensures c.show_angled.ensures);
      styled = tt;
    }
