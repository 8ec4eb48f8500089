-- Conditions of a macro's alternatives: by the written arguments of a call, and by the ground symbols that these are.
use Rattle.std.proofs.Common.{◌≡◌, ℕ, List, [], ◌∷◌, Bool, true, false, Option, Some, None, cond, bytes_eq, option_map, refl, ap, ◌∙◌}
use Rattle.lalrpop_norm_tree_names.specs.declared.names.NonterminalString.{NonterminalString}
use Rattle.lalrpop_norm_tree_names.specs.declared.names.TerminalString.TheVariants.{Literal, Bare, Error}
use Rattle.lalrpop_norm_tree_names.specs.declared.names.TerminalLiteral.TheVariants.{Quoted, Regex}
use Rattle.lalrpop_norm_tree.specs.declared.items.Condition.{Condition}
use Rattle.lalrpop_norm_tree.specs.Accessors.{is_grammar_symbol}
use Rattle.lalrpop_norm_tree.specs.Symbols.{Kind, terminal, at, Parts, no_parts, part_and}
use Rattle.lalrpop_norm_conditions.specs.Conditions.{comparison}
use Rattle.lalrpop_norm_model.specs.Grammars.{bound_argument, is_true, value_of}
use Rattle.lalrpop_norm_model.specs.Reading.{read_kind, read_part, read_parts, read_all}
use Rattle.lalrpop_norm_model.specs.MadeRules.{flat_reader, argument_kind}
use Rattle.lalrpop_norm_model.proofs.SubstitutedLemmas.{flat_part}
use Rattle.lalrpop_norm_macro_expand_rules.specs.Conditions.{quoted_text}

-- what is no terminal has no text
pub no_text : (k : Kind) → is_grammar_symbol k ≡ false → quoted_text (Some k) ≡ None
no_text (terminal t) e = absurd (cc e)
no_text _ e = refl

-- what a name is bound to, read
bound_read : (params : List NonterminalString) (b a : ℕ) (ps : Parts) (n : List ℕ) →
    bound_argument params (read_parts flat_reader b a ps) n ≡ option_map (read_kind flat_reader 0 0) (argument_kind params ps n)
bound_read [] b a ps n = refl
bound_read (p ∷ params) b a no_parts n = refl
bound_read (p ∷ params) b a (part_and (at s k) ps) n = by (bytes_eq p.0 n) _ _ _ _ (flat_part _ _ 0 0 (at s k)) (bound_read params _ _ ps n)
  where
    by : (t : Bool) (x y u v : ℕ) → read_part flat_reader x y (at s k) ≡ read_part flat_reader 0 0 (at s k) →
        bound_argument params (read_parts flat_reader u v ps) n ≡ option_map (read_kind flat_reader 0 0) (argument_kind params ps n) →
        cond t (Some (read_part flat_reader x y (at s k))) (bound_argument params (read_parts flat_reader u v ps) n)
        ≡ option_map (read_kind flat_reader 0 0) (cond t (Some k) (argument_kind params ps n))
    by true x y u v here deeper = ap Some here
    by false x y u v here deeper = deeper

-- a condition says what its operator says of the literal
said_of : (c : Condition) (o : Option Kind) (text : List ℕ) → quoted_text o ≡ Some text →
    value_of comparison c (option_map (read_kind flat_reader 0 0) o) ≡ comparison c.op text c.rhs
said_of c None text e = absurd (cc e)
said_of c (Some (terminal (Literal (Quoted t)))) text e = let same : t ≡ text = cc in ap (λ u. comparison c.op u c.rhs) same
said_of c (Some (terminal (Literal (Regex t)))) text e = absurd (cc e)
said_of c (Some _) text e = absurd (cc e)

pub condition_said : (params : List NonterminalString) (args : Parts) (c : Condition) (text : List ℕ) →
    quoted_text (argument_kind params args c.lhs.0) ≡ Some text →
    is_true comparison params (read_all flat_reader args) (Some c) ≡ comparison c.op text c.rhs
condition_said params args c text e =
    ap (value_of comparison c) (bound_read params 0 0 args c.lhs.0) ∙ said_of c (argument_kind params args c.lhs.0) text e
