use Rattle.std.proofs.Common.{ap, sym, ◌∙◌, Option, unwrap_or, [], map, List}
use Rattle.std.specs.Prelude.{option_map}
use Rattle.std.specs.Option.{option_copied}
use denote.Ref.{Bor}
use Rattle.lalrpop_norm_repr.specs.declared.production.NonterminalData.{NonterminalData}
use Rattle.lalrpop_norm_repr.specs.declared.production.Production.{Production}
use Rattle.lalrpop_norm_repr.specs.Productions.{EntryData, ProductionData, nonterminal_data_view, production_view}
use Rattle.lalrpop_norm_repr.proofs.TableLemmas.{found_rows}
use Rattle.lalrpop_norm_repr.proofs.whole.Grammar.productions_for.Goals as goal

pub returns-in-Some : goal.returns-in-Some
returns-in-Some c =
    ap (λ (ps : List Production). map production_view ps) c.deref.ensures.value
    ∙ ap (λ (o : Option EntryData). let none : List ProductionData = [] in unwrap_or (option_map (λ (n : EntryData). n.productions) o) none)
    (ap (λ (o : Option (Bor NonterminalData)). option_map nonterminal_data_view (option_copied o)) (sym c.in-Some.is)
    ∙ ap (option_map nonterminal_data_view) c.get.ensures.value
    ∙ found_rows nonterminal_data_view c.args.name.now c.args.self.now.nonterminals.entries)

pub returns-in-None : goal.returns-in-None
returns-in-None c =
    ap (λ (o : Option EntryData). let none : List ProductionData = [] in unwrap_or (option_map (λ (n : EntryData). n.productions) o) none)
    (ap (λ (o : Option (Bor NonterminalData)). option_map nonterminal_data_view (option_copied o)) (sym c.in-None.is)
    ∙ ap (option_map nonterminal_data_view) c.get.ensures.value
    ∙ found_rows nonterminal_data_view c.args.name.now c.args.self.now.nonterminals.entries)
