use Rattle.std.proofs.Common.{◌≡◌, ◌+◌, ◌-◌, ◌<◌, true, false, ◌||◌, length, drop, sym, ap, ◌∙◌, nat_cmp, arith}
use Rattle.std.specs.BTreeSet.{contains}
use Rattle.std.specs.Cmp.Lexicographic.{slice_cmp}
use Rattle.lalrpop_norm_resolve.specs.NameFaults.{has_repeated_argument}
use Rattle.lalrpop_norm_resolve.proofs.ArgumentLemmas.{was_there, was_new, arguments_before, again_before}
use Rattle.lalrpop_norm_resolve.proofs.resolve.rules.read_arguments.Goals as goal

pub loop-i-preserved-then-not-branch : goal.loop-i-preserved-then-not-branch
loop-i-preserved-then-not-branch c =
    let args = c.args.args.now in
    let i = c.loop-i.i - 1 in
    let within : i < length args = omega arith in
    let behind : i + 1 ≡ c.loop-i.i = omega arith in
    let named : c.again.result ≡ c.index-args-i.result.0 = c.again.ensures ∙ ap (λ y. y.0) (sym c.index-args-i.is) in
    let told = c.in_ok-insert.ensures in
    let names = c.loop-i.names in
    let there : contains (slice_cmp nat_cmp) names c.again.result ≡ true = was_there _ _ told.added c.if-not-branch.true in
    record {
      names = arguments_before args i c.loop-i.i c.index-args-i.result c.again.result within c.index-args-i.is behind named names c.loop-i.invariant.names c.insert.new.self told.updates.0;
      again = sym (again_before args i c.loop-i.i c.index-args-i.result c.again.result within c.index-args-i.is behind named names c.loop-i.invariant.names
          ∙ ap (λ b. b || has_repeated_argument (drop c.loop-i.i args)) there);
    }

pub loop-i-preserved : goal.loop-i-preserved
loop-i-preserved c =
    let args = c.args.args.now in
    let i = c.loop-i.i - 1 in
    let within : i < length args = omega arith in
    let behind : i + 1 ≡ c.loop-i.i = omega arith in
    let named : c.again.result ≡ c.index-args-i.result.0 = c.again.ensures ∙ ap (λ y. y.0) (sym c.index-args-i.is) in
    let told = c.in_ok-insert.ensures in
    let names = c.loop-i.names in
    let new : contains (slice_cmp nat_cmp) names c.again.result ≡ false = was_new _ _ told.added c.if-not-branch.false in
    record {
      names = arguments_before args i c.loop-i.i c.index-args-i.result c.again.result within c.index-args-i.is behind named names c.loop-i.invariant.names c.insert.new.self told.updates.0;
      again = c.loop-i.invariant.again
          ∙ sym (again_before args i c.loop-i.i c.index-args-i.result c.again.result within c.index-args-i.is behind named names c.loop-i.invariant.names
          ∙ ap (λ b. b || has_repeated_argument (drop c.loop-i.i args)) new);
    }
