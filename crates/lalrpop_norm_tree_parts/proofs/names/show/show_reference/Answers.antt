use Rattle.lalrpop_norm_tree_parts.proofs.ReferenceTexts.{with_lifetime, without_lifetime, not_mutable, mutable}
use Rattle.lalrpop_norm_tree_parts.proofs.WrittenLemmas.{not_written}
use Rattle.lalrpop_norm_tree_parts.proofs.names.show.show_reference.Goals as goal
use Rattle.lalrpop_norm_tree_parts.proofs.names.show.show_reference.Goals.{in-Some+in_ok-fmt+in_ok-write_str-2, in_default}

pub returns-in_err-write_str : goal.returns-in_err-write_str
returns-in_err-write_str g c = not_written g.W.Write.write_str_gives _ _ _ _ c.from_residual.ensures.0

pub returns-in_err-fmt : goal.returns-in_err-fmt
returns-in_err-fmt g c = not_written g.W.Write.write_str_gives _ _ _ _ c.from_residual-in_err-fmt.ensures.0

pub returns-in_err-write_str-2 : goal.returns-in_err-write_str-2
returns-in_err-write_str-2 g c = not_written g.W.Write.write_str_gives _ _ _ _ c.from_residual-in_err-write_str-2.ensures.0

pub returns-in_err-write_str-3 : goal.returns-in_err-write_str-3
returns-in_err-write_str-3 g c = not_written g.W.Write.write_str_gives _ _ _ _ c.from_residual-in_err-write_str-3.ensures.0

pub returns-else-mutable : goal.returns-else-mutable
returns-else-mutable g c =
    let took = g.W.Write.write_str_gives in
    not_mutable took c.args.f.now c.match-lifetime.f c.args.lifetime.now c.args.mutable c.if-mutable.false
    (elim c.match-lifetime.branch [
      | in-Some+in_ok-fmt+in_ok-write_str-2 w ↦
          with_lifetime took c.args.f.now c.write_str.new.self w.fmt.new.f w.write_str-in-Some.new.self c.match-lifetime.f c.args.lifetime.now w.in-Some.lifetime w.in-Some.is
          c.in_ok-write_str.ensures.writes w.in_ok-fmt.ensures.writes w.in_ok-write_str-2.ensures.writes w.f-is
      | in_default w ↦ without_lifetime took c.args.f.now c.write_str.new.self c.match-lifetime.f c.args.lifetime.now w.in_default.not-Some c.in_ok-write_str.ensures.writes w.f-is
    ])

pub returns-in_ok-write_str-3 : goal.returns-in_ok-write_str-3
returns-in_ok-write_str-3 g c =
    let took = g.W.Write.write_str_gives in
    mutable took c.args.f.now c.match-lifetime.f c.write_str-then-mutable.new.self c.args.lifetime.now c.args.mutable c.if-mutable.true
    (elim c.match-lifetime.branch [
      | in-Some+in_ok-fmt+in_ok-write_str-2 w ↦
          with_lifetime took c.args.f.now c.write_str.new.self w.fmt.new.f w.write_str-in-Some.new.self c.match-lifetime.f c.args.lifetime.now w.in-Some.lifetime w.in-Some.is
          c.in_ok-write_str.ensures.writes w.in_ok-fmt.ensures.writes w.in_ok-write_str-2.ensures.writes w.f-is
      | in_default w ↦ without_lifetime took c.args.f.now c.write_str.new.self c.match-lifetime.f c.args.lifetime.now w.in_default.not-Some c.in_ok-write_str.ensures.writes w.f-is
    ]) c.in_ok-write_str-3.ensures.writes
