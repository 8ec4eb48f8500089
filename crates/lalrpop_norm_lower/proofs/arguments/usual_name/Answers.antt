use Rattle.std.proofs.Common.{refl, arith}
use Rattle.std.proofs.lemmas.Fmt.{decimal_digit}
use Rattle.lalrpop_norm_lower.proofs.ArgumentLemmas.{usual_source}
use Rattle.lalrpop_norm_lower.proofs.arguments.usual_name.Goals as goal

pub returns-in-0-clause-name : goal.returns-in-0-clause-name
returns-in-0-clause-name c = usual_source c.args.prefix.now c.args.number 0 _ c.if-ne.ensures c.in-0.is (rw (decimal_digit 0 (omega arith)) refl)

pub returns-in-1-clause-name : goal.returns-in-1-clause-name
returns-in-1-clause-name c = usual_source c.args.prefix.now c.args.number 1 _ c.if-ne.ensures c.in-1.is (rw (decimal_digit 1 (omega arith)) refl)

pub returns-in-2-clause-name : goal.returns-in-2-clause-name
returns-in-2-clause-name c = usual_source c.args.prefix.now c.args.number 2 _ c.if-ne.ensures c.in-2.is (rw (decimal_digit 2 (omega arith)) refl)

pub returns-in-3-clause-name : goal.returns-in-3-clause-name
returns-in-3-clause-name c = usual_source c.args.prefix.now c.args.number 3 _ c.if-ne.ensures c.in-3.is (rw (decimal_digit 3 (omega arith)) refl)

pub returns-in-4-clause-name : goal.returns-in-4-clause-name
returns-in-4-clause-name c = usual_source c.args.prefix.now c.args.number 4 _ c.if-ne.ensures c.in-4.is (rw (decimal_digit 4 (omega arith)) refl)

pub returns-in-5-clause-name : goal.returns-in-5-clause-name
returns-in-5-clause-name c = usual_source c.args.prefix.now c.args.number 5 _ c.if-ne.ensures c.in-5.is (rw (decimal_digit 5 (omega arith)) refl)

pub returns-in-6-clause-name : goal.returns-in-6-clause-name
returns-in-6-clause-name c = usual_source c.args.prefix.now c.args.number 6 _ c.if-ne.ensures c.in-6.is (rw (decimal_digit 6 (omega arith)) refl)

pub returns-in-7-clause-name : goal.returns-in-7-clause-name
returns-in-7-clause-name c = usual_source c.args.prefix.now c.args.number 7 _ c.if-ne.ensures c.in-7.is (rw (decimal_digit 7 (omega arith)) refl)
