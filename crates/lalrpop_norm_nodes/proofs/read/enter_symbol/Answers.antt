use Rattle.std.proofs.Common.{List, is_some, refl, sym, ap, ◌∙◌, subst}
use Rattle.lalrpop_norm_tree.specs.Symbols.{Part, symbol_view}
use Rattle.lalrpop_norm_nodes.specs.Tables.{wholes_in, TableMeets, refused_in}
use Rattle.lalrpop_norm_nodes.specs.Wholes.{built}
use Rattle.lalrpop_norm_nodes.proofs.RowReads.{counted_row}
use Rattle.lalrpop_norm_nodes.proofs.WaitReads.{kept_waits, made_waits_itself, made_topped, own_is_text, no_text, own_none, same_topped}
use Rattle.std.proofs.lemmas.Result.{IfOk-from_err}
use Rattle.lalrpop_norm_faults.specs.declared.failure.NormFailure.TheVariants.{Memory}
use Rattle.lalrpop_norm_nodes.proofs.MeetingLemmas.{err_refuses, on_ok_more}
use Rattle.lalrpop_norm_nodes.proofs.read.enter_symbol.Goals as goal

pub enter_made-requires-clause-made : goal.enter_made-requires-clause-made
enter_made-requires-clause-made c =
    own_is_text (symbol_view c.args.symbol.now) _
    (ap is_some (sym c.requires.text) ∙ c.is_made.ensures (wholes_in c.args.table.now) ∙ c.if-is_made.true) c.requires.text

pub enter-requires-clause-plain : goal.enter-requires-clause-plain
enter-requires-clause-plain c = no_text _ _ refl (c.is_made.ensures (wholes_in c.args.table.now) ∙ c.if-is_made.false)

pub returns : goal.returns
returns c =
    let a = c.args.table.now in
    let s = c.args.symbol.now in
    let r = c.in_ok-number.ensures in
    let none = ap is_some (sym c.requires.text) ∙ c.is_made.ensures (wholes_in a) ∙ c.if-is_made.false in
    let nowhere = own_none s.span (built (wholes_in a) c.args.node) (no_text _ _ c.requires.text none) in
    record {
      refuses = ap (refused_in a) nowhere;
      meets = subst (λ (xs : List Part). TableMeets a c.enter.new.self xs) (sym nowhere) r.meets;
      counted = counted_row a c.enter.new.self c.requires.counted r.counted r.meets;
      waits = kept_waits a c.enter.new.self s none c.requires.table r.meets r.waiting;
      value = same_topped s none;
      number = r.number;
    }

pub returns-in_err-number : goal.returns-in_err-number
returns-in_err-number c =
    let f = c.from_residual.ensures in
    record {
      refuses = err_refuses _ Memory _ f.1 tt;
      meets = IfOk-from_err _ _ f.0;
      counted = IfOk-from_err _ _ f.0;
      waits = IfOk-from_err _ _ f.0;
      value = IfOk-from_err _ _ f.0;
      number = IfOk-from_err _ _ f.0;
    }

pub returns-then-is_made : goal.returns-then-is_made
returns-then-is_made c =
    let s = c.args.symbol.now in
    let made = ap is_some (sym c.requires.text) ∙ c.is_made.ensures (wholes_in c.args.table.now) ∙ c.if-is_made.true in
    let r = c.enter_made.ensures in
    record {
      refuses = r.refuses;
      meets = r.meets;
      counted = r.counted;
      waits = on_ok_more c.enter_made.result _ _ (made_waits_itself c.args.table.now c.enter_made.new.self (symbol_view s) made) r.waits;
      value = on_ok_more c.enter_made.result _ _ (λ g. g ∙ made_topped s made) r.value;
      number = r.number;
    }
