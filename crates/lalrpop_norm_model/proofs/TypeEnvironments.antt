-- Environments that give the same types are one.
use Rattle.std.proofs.Common.{◌≡◌, ℕ, List, ap, ◌∙◌}
use Rattle.std.proofs.Math.Path.{fun_ext}
use Rattle.lalrpop_norm_tree_names.specs.declared.names.TerminalString.{TerminalString}
use Rattle.lalrpop_norm_model.specs.TypeTables.{TypeEnvironment}

pub same_environment : (d e : TypeEnvironment) → ((t : TerminalString) → d.terminals t ≡ e.terminals t) → d.recovery ≡ e.recovery →
    ((n : List ℕ) → d.names n ≡ e.names n) → d ≡ e
same_environment d e terminals recovery names =
    ap (λ f. record d { terminals = f }) (fun_ext terminals)
    ∙ (ap (λ x. record d { terminals = e.terminals; recovery = x }) recovery
    ∙ ap (λ f. record e { names = f }) (fun_ext names))
