use Rattle.lalrpop_norm_tree.specs.Symbols.{symbol_view}
use Rattle.lalrpop_norm_tree.specs.SymbolTexts.{part_text}
use Rattle.std.proofs.Common.{refl}
use Rattle.lalrpop_norm_nodes.specs.Tables.{wholes_in}
use Rattle.lalrpop_norm_nodes.specs.Wholes.{built}
use Rattle.lalrpop_norm_nodes.proofs.EnterLemmas.{stands_met, stands_waits, numbered_by}
use Rattle.std.proofs.lemmas.Result.{IfOk-from_err}
use Rattle.lalrpop_norm_faults.specs.declared.failure.NormFailure.TheVariants.{Memory}
use Rattle.lalrpop_norm_nodes.proofs.MeetingLemmas.{err_refuses}
use Rattle.lalrpop_norm_nodes.proofs.table.Table.enter_made.Goals as goal

pub put_name-requires-clause-text : goal.put_name-requires-clause-text
put_name-requires-clause-text c =
    let a = c.args.self.now in
    numbered_by a a (wholes_in a) c.in-Some.number c.args.node (part_text (symbol_view c.args.symbol.now)) refl c.in-Some.ensures.found c.requires.made

pub returns-in_ok-put_name-in-Some-clause-refuses : goal.returns-in_ok-put_name-in-Some-clause-refuses
returns-in_ok-put_name-in-Some-clause-refuses c =
    (stands_met c.args.self.now (built (wholes_in c.args.self.now) c.args.node) c.in-Some.number (part_text (symbol_view c.args.symbol.now)) c.args.symbol.now.span
    c.requires.table c.in-Some.ensures.found c.requires.made).0

pub returns-in_ok-put_name-in-Some-clause-meets : goal.returns-in_ok-put_name-in-Some-clause-meets
returns-in_ok-put_name-in-Some-clause-meets c =
    (stands_met c.args.self.now (built (wholes_in c.args.self.now) c.args.node) c.in-Some.number (part_text (symbol_view c.args.symbol.now)) c.args.symbol.now.span
    c.requires.table c.in-Some.ensures.found c.requires.made).1

pub returns-in_ok-put_name-in-Some-clause-waits : goal.returns-in_ok-put_name-in-Some-clause-waits
returns-in_ok-put_name-in-Some-clause-waits c =
    stands_waits c.args.self.now (built (wholes_in c.args.self.now) c.args.node) c.in-Some.number (symbol_view c.args.symbol.now)
    c.requires.table c.in-Some.ensures.found c.requires.made

pub returns-in_err-put_name-in-Some : goal.returns-in_err-put_name-in-Some
returns-in_err-put_name-in-Some c =
    let f = c.from_residual.ensures in
    record {
      refuses = err_refuses _ Memory _ f.1 tt;
      meets = IfOk-from_err _ _ f.0;
      counted = IfOk-from_err _ _ f.0;
      waits = IfOk-from_err _ _ f.0;
      value = IfOk-from_err _ _ f.0;
      number = IfOk-from_err _ _ f.0;
    }

pub returns-in_ok-put_name-in-Some-clause-number : goal.returns-in_ok-put_name-in-Some-clause-number
returns-in_ok-put_name-in-Some-clause-number c = c.in-Some.ensures.found

pub returns-in-None : goal.returns-in-None
returns-in-None c = c.enter_new.ensures
