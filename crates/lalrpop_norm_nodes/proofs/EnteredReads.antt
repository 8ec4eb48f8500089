-- A symbol that is entered when what is inside it was read.
use Rattle.std.proofs.Common.{◌≡◌, ℕ, List, None, Result, Ok, sym, ap, ◌∙◌, subst}
use Rattle.std.specs.Result.{IfOk}
use Rattle.lalrpop_norm_faults.specs.declared.failure.NormFailure.{NormFailure}
use Rattle.lalrpop_norm_tree.specs.declared.symbol.Symbol.{Symbol}
use Rattle.lalrpop_norm_tree.specs.declared.symbol.SymbolKind.{SymbolKind}
use Rattle.lalrpop_norm_tree.specs.Symbols.{Part, at, kind_view, symbol_view}
use Rattle.lalrpop_norm_tree.proofs.SymbolViews.{symbol_seen}
use Rattle.lalrpop_norm_model.specs.PlainRules.{met}
use Rattle.lalrpop_norm_nodes.specs.declared.given.Environment.{Environment}
use Rattle.lalrpop_norm_nodes.specs.declared.node.Node.{Node}
use Rattle.lalrpop_norm_nodes.specs.declared.table.Table.{Table}
use Rattle.lalrpop_norm_nodes.specs.Given.{given_to, AreGiven, kind_whole, kind_shown}
use Rattle.lalrpop_norm_nodes.specs.Meeting.{met_itself, own_text}
use Rattle.lalrpop_norm_nodes.specs.Readings.{topped}
use Rattle.lalrpop_norm_nodes.specs.Reads.{NumberRead, SymbolRead, KindRead}
use Rattle.lalrpop_norm_nodes.specs.Tables.{wholes_in, own_at, own_text_in, TableMeets, refused_in}
use Rattle.lalrpop_norm_nodes.specs.Waits.{LeavesWaiting}
use Rattle.lalrpop_norm_nodes.specs.Wholes.{Whole, built, StandsFor}
use Rattle.lalrpop_norm_nodes.proofs.MeetingLemmas.{on_ok_more, refuses_same}
use Rattle.lalrpop_norm_nodes.proofs.ReadLemmas.{read_at, read_meets, read_refused, text_kept, value_kept}
use Rattle.lalrpop_norm_nodes.proofs.WaitReads.{read_waits}

-- l is what its kind became
module _ (a b : Table) (e : Environment) (s : Symbol) (l : SymbolKind) (n : Node) (h : KindRead (Ok n) a b e (kind_view s.kind) (kind_view l)) where
  seen : symbol_view (record { span = s.span; kind = l }) ≡ at s.span (kind_shown e (kind_view s.kind))
  seen = symbol_seen s.span l ∙ ap (at s.span) h.value

  pub entered_text : AreGiven (wholes_in a) e → given_to e (kind_view s.kind) ≡ None → own_text_in (built (wholes_in b) n) ≡ own_text (symbol_view (record { span = s.span; kind = l }))
  entered_text are free = ap own_text_in h.node.1 ∙ text_kept (wholes_in a) e s.span (kind_view s.kind) are free ∙ ap own_text (sym seen)

  pub entered_read : (r : Result ℕ NormFailure) (d : Table) (now : Part) →
      NumberRead r b d (own_at s.span (built (wholes_in b) n)) (met_itself (symbol_view (record { span = s.span; kind = l }))) (now ≡ topped (symbol_view (record { span = s.span; kind = l })))
      (λ i. StandsFor (wholes_in d) i (built (wholes_in b) n)) →
      SymbolRead r a d e s now
  entered_read r d now g =
      let k = kind_whole (wholes_in a) e (kind_view s.kind) in
      record {
        refuses = refuses_same r _ _ (ap (λ (v : Whole). refused_in b (own_at s.span v)) h.node.1
            ∙ sym (ap (refused_in a) (ap met (read_at (wholes_in a) e s)) ∙ read_refused a b s.span k h.meets h.refuses)) g.refuses;
        meets = on_ok_more r _ _ (λ x. subst (λ (xs : List Part). TableMeets a d xs) (sym (ap met (read_at (wholes_in a) e s)))
            (read_meets a b d s.span k h.meets (subst (λ (v : Whole). TableMeets b d (own_at s.span v)) h.node.1 x))) g.meets;
        counted = g.counted;
        waits = on_ok_more r _ _ (λ x. read_waits a b d e s h.waits (subst (λ (p : Part). LeavesWaiting b d (met_itself p)) seen x)) g.waits;
        value = on_ok_more r _ _ (λ x. x ∙ ap topped seen ∙ value_kept e s) g.value;
        number = subst (λ (v : Whole). IfOk r (λ i. StandsFor (wholes_in d) i v)) h.node.1 g.number;
      }
