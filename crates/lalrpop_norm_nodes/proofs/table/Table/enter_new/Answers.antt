use Rattle.std.proofs.Common.{List, ℕ, Some, slice_get, sym, ap, ap₂, ◌∙◌, subst}
use Rattle.std.specs.List.{flat_map}
use Rattle.lalrpop_norm_tree.specs.Symbols.{at, nonterminal, symbol_view}
use Rattle.lalrpop_norm_tree.specs.SymbolTexts.{part_text}
use Rattle.lalrpop_norm_nodes.specs.Tables.{wholes_in, own_in, own_text_in}
use Rattle.lalrpop_norm_nodes.specs.Wholes.{wholes, built, Fits, IsNew}
use Rattle.lalrpop_norm_nodes.specs.Meeting.{first_with_text, has_key}
use Rattle.lalrpop_norm_nodes.specs.declared.node.Nodes.{Nodes}
use Rattle.lalrpop_norm_nodes.proofs.EnterLemmas.{clash_is, err_same, made_meets, free_none, free_name, counted_alone, counted_made, meets_waiting, numbered_by, made_waits}
use Rattle.lalrpop_norm_nodes.proofs.WholeLemmas.{bare_built}
use Rattle.std.proofs.lemmas.Result.{IfOk-from_err}
use Rattle.lalrpop_norm_faults.specs.declared.failure.NormFailure.TheVariants.{Memory}
use Rattle.lalrpop_norm_nodes.proofs.MeetingLemmas.{err_refuses}
use Rattle.lalrpop_norm_nodes.proofs.table.Table.enter_new.Goals as goal

pub put_made-requires-clause-new : goal.put_made-requires-clause-new
put_made-requires-clause-new c = subst (λ (ns : Nodes). IsNew (wholes ns) (built (wholes ns) c.args.node)) (sym c.in_ok-name.ensures.nodes) c.requires.new

pub put_waiting-requires-clause-text : goal.put_waiting-requires-clause-text
put_waiting-requires-clause-text c =
    numbered_by c.args.self.now c.free_text.new.self (wholes_in c.put_made.new.self) c.in_ok-number.number c.args.node (part_text (symbol_view c.args.symbol.now))
    c.in_ok-name.ensures.nodes c.in_ok-number.ensures.number c.requires.made

pub returns-clause-meets : goal.returns-clause-meets
returns-clause-meets c =
    let f = c.in_ok-name.ensures in
    let p = c.in_ok-number.ensures in
    let w = c.in_ok-put_waiting.ensures in
    meets_waiting c.args.self.now c.put_made.new.self c.put_waiting.new.self _
    (made_meets c.args.self.now c.free_text.new.self c.put_made.new.self c.args.node (part_text (symbol_view c.args.symbol.now)) c.args.symbol.now.span
    c.requires.table c.requires.fits c.requires.new c.requires.made (free_none _ _ _ f.refuses) f.nodes f.names p.names p.table p.seen p.grows)
    w.table w.nodes w.names

pub returns-clause-waits : goal.returns-clause-waits
returns-clause-waits c =
    let f = c.in_ok-name.ensures in
    let p = c.in_ok-number.ensures in
    let w = c.in_ok-put_waiting.ensures in
    made_waits c.args.self.now c.free_text.new.self c.put_made.new.self c.put_waiting.new.self c.args.node (symbol_view c.args.symbol.now) c.in_ok-number.number
    c.requires.table c.requires.made (free_none _ _ _ f.refuses) f.nodes f.waiting p.seen p.waiting p.grows p.number w.nodes w.waiting w.numbers

pub returns-in_err-name : goal.returns-in_err-name
returns-in_err-name c =
    let a = c.args.self.now in
    let f = c.from_residual.ensures in
    record {
      refuses = err_same _ _ _ _
          (clash_is a (built (wholes_in a) c.args.node) (part_text (symbol_view c.args.symbol.now)) c.requires.table c.requires.made
          (bare_built (wholes_in a) c.requires.table.bare c.args.node c.requires.fits) c.requires.new c.args.symbol.now.span)
          f.1 c.in_err-name.ensures.refuses;
      meets = IfOk-from_err _ _ f.0;
      counted = IfOk-from_err _ _ f.0;
      waits = IfOk-from_err _ _ f.0;
      value = IfOk-from_err _ _ f.0;
      number = IfOk-from_err _ _ f.0;
    }

pub returns-in_err-key : goal.returns-in_err-key
returns-in_err-key c =
    let f = c.from_residual-in_err-key.ensures in
    record {
      refuses = err_refuses _ Memory _ f.1 tt;
      meets = IfOk-from_err _ _ f.0;
      counted = IfOk-from_err _ _ f.0;
      waits = IfOk-from_err _ _ f.0;
      value = IfOk-from_err _ _ f.0;
      number = IfOk-from_err _ _ f.0;
    }

pub returns-in_err-number : goal.returns-in_err-number
returns-in_err-number c =
    let f = c.from_residual-in_err-number.ensures in
    record {
      refuses = err_refuses _ Memory _ f.1 tt;
      meets = IfOk-from_err _ _ f.0;
      counted = IfOk-from_err _ _ f.0;
      waits = IfOk-from_err _ _ f.0;
      value = IfOk-from_err _ _ f.0;
      number = IfOk-from_err _ _ f.0;
    }

pub returns-in_err-put_waiting : goal.returns-in_err-put_waiting
returns-in_err-put_waiting c =
    let f = c.from_residual-in_err-put_waiting.ensures in
    record {
      refuses = err_refuses _ Memory _ f.1 tt;
      meets = IfOk-from_err _ _ f.0;
      counted = IfOk-from_err _ _ f.0;
      waits = IfOk-from_err _ _ f.0;
      value = IfOk-from_err _ _ f.0;
      number = IfOk-from_err _ _ f.0;
    }

pub put_made-requires-clause-table : goal.put_made-requires-clause-table
put_made-requires-clause-table c =
    let f = c.in_ok-name.ensures in
    counted_alone c.args.self.now c.free_text.new.self c.requires.table f.names f.nodes f.places f.waiting

pub put_made-requires-clause-fits : goal.put_made-requires-clause-fits
put_made-requires-clause-fits c = subst (λ (ns : Nodes). Fits (wholes ns) c.args.node) (sym c.in_ok-name.ensures.nodes) c.requires.fits

pub put_made-requires-clause-made : goal.put_made-requires-clause-made
put_made-requires-clause-made c =
    let f = c.in_ok-name.ensures in
    ap (λ (ns : Nodes). own_text_in (built (wholes ns) c.args.node)) f.nodes ∙ c.requires.made ∙ ap Some (sym (c.in_ok-key.ensures.cases ∙ f.text))

pub put_made-requires-clause-first : goal.put_made-requires-clause-first
put_made-requires-clause-first c =
    let f = c.in_ok-name.ensures in
    ap₂ (λ (x : List ℕ) (ns : Nodes). first_with_text x (flat_map own_in (wholes ns))) (c.in_ok-key.ensures.cases ∙ f.text) f.nodes ∙ free_none _ _ _ f.refuses

pub put_made-requires-clause-free : goal.put_made-requires-clause-free
put_made-requires-clause-free c =
    let f = c.in_ok-name.ensures in
    ap₂ (λ (x : List ℕ) names. has_key names x) (c.in_ok-key.ensures.cases ∙ f.text) f.names ∙ free_name _ _ _ f.refuses

pub put_waiting-requires-clause-table : goal.put_waiting-requires-clause-table
put_waiting-requires-clause-table c = c.in_ok-number.ensures.table

pub returns-clause-refuses : goal.returns-clause-refuses
returns-clause-refuses c =
    let a = c.args.self.now in
    clash_is a (built (wholes_in a) c.args.node) (part_text (symbol_view c.args.symbol.now)) c.requires.table c.requires.made
    (bare_built (wholes_in a) c.requires.table.bare c.args.node c.requires.fits) c.requires.new c.args.symbol.now.span
    ∙ c.in_ok-name.ensures.refuses

pub returns-clause-counted : goal.returns-clause-counted
returns-clause-counted c =
    let f = c.in_ok-name.ensures in
    let p = c.in_ok-number.ensures in
    let w = c.in_ok-put_waiting.ensures in
    counted_made c.args.self.now c.free_text.new.self c.put_made.new.self c.put_waiting.new.self c.args.node (part_text (symbol_view c.args.symbol.now))
    c.requires.counted c.requires.made f.nodes f.counted p.counted p.seen w.nodes w.counted

pub returns-clause-value : goal.returns-clause-value
returns-clause-value c = c.in_ok-put_waiting.ensures.value ∙ ap (λ (x : List ℕ). at c.args.symbol.now.span (nonterminal x)) c.in_ok-name.ensures.text

pub returns-clause-number : goal.returns-clause-number
returns-clause-number c =
    ap (λ (ns : Nodes). slice_get (wholes ns) c.in_ok-number.number) c.in_ok-put_waiting.ensures.nodes ∙ c.in_ok-number.ensures.number
    ∙ ap (λ (ns : Nodes). Some (built (wholes ns) c.args.node)) c.in_ok-name.ensures.nodes
