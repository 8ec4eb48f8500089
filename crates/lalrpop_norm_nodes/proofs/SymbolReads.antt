-- What is known of a symbol that was read: what it reached, what it was rewritten to, and its id.
use Rattle.std.proofs.Common.{◌≡◌, ℕ, List, Result, Ok, Err, Option, Some, slice_get, ap, ◌∙◌, subst}
use Rattle.std.specs.Result.{IfOk, OnOk, IsErrAnd}
use Rattle.lalrpop_norm_faults.specs.declared.failure.NormFailure.{NormFailure}
use Rattle.lalrpop_norm_faults.specs.Faults.{IsFirst, Refuses}
use Rattle.lalrpop_norm_faults.proofs.FaultLemmas.{exit_at}
use Rattle.lalrpop_norm_tree.specs.declared.symbol.RepeatOp.{RepeatOp}
use Rattle.lalrpop_norm_tree.specs.declared.symbol.RepeatSymbol.{RepeatSymbol}
use Rattle.lalrpop_norm_tree.specs.declared.symbol.Symbol.{Symbol}
use Rattle.lalrpop_norm_tree.specs.Symbols.{Part, at, kind_view, symbol_view}
use Rattle.lalrpop_norm_model.specs.PlainRules.{met}
use Rattle.lalrpop_norm_nodes.specs.declared.given.Environment.{Environment}
use Rattle.lalrpop_norm_nodes.specs.declared.given.Given.{Given}
use Rattle.lalrpop_norm_nodes.specs.declared.table.Table.{Table}
use Rattle.lalrpop_norm_nodes.specs.Given.{given_to, AreGiven, read_whole, kind_whole}
use Rattle.lalrpop_norm_nodes.specs.Meeting.{met_inside, own, after, clash_faults}
use Rattle.lalrpop_norm_nodes.specs.Reads.{NumberRead, SymbolRead, RepeatRead}
use Rattle.lalrpop_norm_nodes.specs.Tables.{wholes_in, is_declared_in, seen_in, IsNodeTable, IsCounted, refused_in}
use Rattle.lalrpop_norm_nodes.proofs.SymbolLemmas.{split_at}
use Rattle.lalrpop_norm_nodes.proofs.MeetingLemmas.{clash_both, err_refuses}
use Rattle.lalrpop_norm_nodes.proofs.ReadLemmas.{bound_met, bound_value, bound_number, read_at}
use Rattle.lalrpop_norm_nodes.proofs.WaitReads.{bound_waits}

-- an error is passed on
pub refused_number : (r : Result ℕ NormFailure) (a b : Table) (xs ys : List Part) (Now : Type 0) (Is : ℕ → Type 0) (f : NormFailure) → IsErrAnd r (λ g. g ≡ f) → Refuses r (refused_in a xs) →
    NumberRead r a b xs ys Now Is
refused_number (Ok n) a b xs ys Now Is f from h = absurd from
refused_number (Err g) a b xs ys Now Is f from h = record { refuses = h; meets = tt; counted = tt; waits = tt; value = tt; number = tt }

-- the same of the symbol that is held
pub symbol_as : (r : Result ℕ NormFailure) (a b : Table) (e : Environment) (s t : Symbol) (now : Part) → s ≡ t → SymbolRead r a b e s now → SymbolRead r a b e t now
symbol_as r a b e s t now is h = subst (λ (x : Symbol). SymbolRead r a b e x now) is h

pub refused_symbol : (r : Result ℕ NormFailure) (a b : Table) (e : Environment) (s t : Symbol) (now : Part) (f : NormFailure) → IsErrAnd r (λ g. g ≡ f) → s ≡ t →
    IsFirst (refused_in a (met (read_whole (wholes_in a) e (symbol_view s)))) f → SymbolRead r a b e t now
refused_symbol r a b e s t now f from is h = symbol_as r a b e s t now is (refused_number r a b _ _ _ _ f from (err_refuses r f _ from h))

-- what is inside it is an error
pub refused_inside : (r : Result ℕ NormFailure) (a b : Table) (e : Environment) (s : Symbol) (now : Part) (f : NormFailure) → IsErrAnd r (λ g. g ≡ f) →
    IsFirst (refused_in a (met_inside (kind_whole (wholes_in a) e (kind_view s.kind)))) f → SymbolRead r a b e s now
refused_inside r a b e s now f from h =
    let k = kind_whole (wholes_in a) e (kind_view s.kind) in
    refused_number r a b _ _ _ _ f from
    (exit_at r f (refused_in a (met_inside k)) (clash_faults (is_declared_in a) (after (seen_in a) (met_inside k)) (own s.span k)) _ from h
    (ap (refused_in a) (ap met (read_at (wholes_in a) e s) ∙ split_at s.span k) ∙ clash_both (is_declared_in a) (seen_in a) (met_inside k) (own s.span k)))

-- an argument's name
pub bound_read : (i : ℕ) (a : Table) (e : Environment) (s : Symbol) (now : Part) (g : Given) → IsNodeTable a → IsCounted a → AreGiven (wholes_in a) e → given_to e (kind_view s.kind) ≡ Some g →
    now ≡ at s.span (kind_view g.symbol.kind) → i ≡ g.number → SymbolRead (Ok i) a a e s now
bound_read i a e s now g table made given is put same =
    let m = bound_met a e s g table given is in
    record {
      refuses = m.0;
      meets = m.1;
      counted = made;
      waits = bound_waits a e s g given is;
      value = put ∙ bound_value (wholes_in a) e s g given is;
      number = ap (slice_get (wholes_in a)) same ∙ bound_number a e (kind_view s.kind) g table given is;
    }

pub repeat_read : (r : Result ℕ NormFailure) (a b : Table) (e : Environment) (x : RepeatSymbol) (o : RepeatOp) (now : Part) → o ≡ x.op → SymbolRead r a b e x.symbol now →
    RepeatRead r a b e x o now
repeat_read r a b e x o now same h = record {
  refuses = h.refuses;
  meets = h.meets;
  counted = h.counted;
  op = kept r;
  waits = h.waits;
  value = h.value;
  number = h.number;
}
  where
    kept : (q : Result ℕ NormFailure) → OnOk q (o ≡ x.op)
    kept (Ok n) = same
    kept (Err g) = tt
