use Rattle.std.proofs.Common.{rules, refl, ap}
use Rattle.std.proofs.lemmas.Result.{MatchResult-from_err}
use Rattle.lalrpop_norm_tree_names.specs.declared.names.NonterminalString.{NonterminalString}
use Rattle.lalrpop_norm_tree.proofs.items.copy.NonterminalDataClone.clone.Goals as goal

pub returns-in_err-alternatives : goal.returns-in_err-alternatives
returns-in_err-alternatives c = record { cases = MatchResult-from_err _ _ _ c.from_residual-in_err-alternatives.ensures.0 (λ e. search rules) }

pub returns-in_err-args : goal.returns-in_err-args
returns-in_err-args c = record { cases = MatchResult-from_err _ _ _ c.from_residual-in_err-args.ensures.0 (λ e. search rules) }

pub returns-in_err-attributes : goal.returns-in_err-attributes
returns-in_err-attributes c = record { cases = MatchResult-from_err _ _ _ c.from_residual-in_err-attributes.ensures.0 (λ e. search rules) }

pub returns-in_err-name : goal.returns-in_err-name
returns-in_err-name c = record { cases = MatchResult-from_err _ _ _ c.from_residual-in_err-name.ensures.0 (λ e. search rules) }

pub returns-in_err-type_decl : goal.returns-in_err-type_decl
returns-in_err-type_decl c = record { cases = MatchResult-from_err _ _ _ c.from_residual-in_err-type_decl.ensures.0 (λ e. search rules) }

pub returns-in_err-visibility : goal.returns-in_err-visibility
returns-in_err-visibility c = record { cases = MatchResult-from_err _ _ _ c.from_residual.ensures.0 (λ e. search rules) }

pub returns : goal.returns
returns c =
    let named = ap (λ a. let n : NonterminalString = record { 0 = a } in n) c.in_ok-name.ensures.cases in
    record {
      cases = rw (c.in_ok-visibility.ensures.cases, named, c.in_ok-attributes.ensures, c.in_ok-args.ensures, c.in_ok-type_decl.ensures, c.in_ok-alternatives.ensures) refl;
    }
