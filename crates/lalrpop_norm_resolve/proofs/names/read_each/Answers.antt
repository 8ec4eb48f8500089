use Rattle.std.proofs.Common.{◌≡◌, true, false, cond, refl, sym, ap, ◌∙◌, bytes_eq, arith}
use Rattle.std.specs.HashSet.{contains}
use Rattle.std.proofs.lemmas.List.{at_drop_all}
use Rattle.lalrpop_norm_resolve.specs.NameTables.{rows_of}
use Rattle.lalrpop_norm_resolve.specs.NewNames.{with_made, are_new}
use Rattle.lalrpop_norm_resolve.proofs.ArgumentLemmas.{was_new}
use Rattle.lalrpop_norm_resolve.proofs.NewNameLemmas.{new_step}
use Rattle.lalrpop_norm_resolve.proofs.names.read_each.Goals as goal

pub loop-name-preserved : goal.loop-name-preserved
loop-name-preserved c =
    let told = c.in_ok-insert.ensures in
    let old = c.loop-name.read in
    let named = c.again.ensures in
    let unread : contains bytes_eq old c.again.result ≡ false = was_new _ _ told.added c.if-not-branch.false in
    new_step (rows_of c.args.table.now) old c.insert.new.self c.args.made.now c.loop-name.name-index c.name-item.result _ (omega arith) c.name-item.is
    (cc (c.if-is_some.ensures, c.global.ensures)) (ap (λ n. contains bytes_eq old n) (sym named) ∙ unread)
    (λ q. told.updates.0 q ∙ ap (λ n. cond (bytes_eq n q) true (contains bytes_eq old q)) named) c.loop-name.invariant

pub loop-name-init : goal.loop-name-init
loop-name-init c = refl

pub returns : goal.returns
returns c = sym (at_drop_all (are_new (with_made (rows_of c.args.table.now) c.loop-name.read)) c.args.made.now c.loop-name.name-index c.loop-name-test.false) ∙ c.loop-name.invariant
