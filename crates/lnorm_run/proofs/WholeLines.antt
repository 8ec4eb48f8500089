-- The lines of a lowered grammar, written part by part.
use Rattle.std.proofs.Common.{◌≡◌, ◌∙◌, ℕ, List, [], ◌++◌, Option, ap, append_assoc}
use Rattle.std.specs.List.{flat_map}
use Rattle.lalrpop_norm_tree_names.specs.declared.names.NonterminalString.{NonterminalString}
use Rattle.lalrpop_norm_tree_parts.specs.Reprs.{ReprData}
use Rattle.lalrpop_norm_theory.specs.LoweredTrees.{Origin}
use Rattle.lalrpop_norm_repr.specs.Lowered.{LoweredGrammar}
use Rattle.lalrpop_norm_repr.specs.Productions.{EntryData}
use Rattle.lnorm_run.specs.Lines.{production_lines, line_among, start_line, lines}

module _ (os : Option (List Origin)) (ns : List (NonterminalString × EntryData)) (types : List (NonterminalString × ReprData)) (starts : List (NonterminalString × NonterminalString)) where
  -- one part after another
  pub all_lines : (begun produced typed text : List ℕ) → begun ≡ [] → produced ≡ begun ++ flat_map (production_lines os) ns → typed ≡ produced ++ flat_map (line_among types) ns →
      text ≡ typed ++ flat_map start_line starts → text ≡ flat_map (production_lines os) ns ++ (flat_map (line_among types) ns ++ flat_map start_line starts)
  all_lines begun produced typed text empty first second third =
      let ps = flat_map (production_lines os) ns in
      let ts = flat_map (line_among types) ns in
      let ss = flat_map start_line starts in
      third ∙ ap (λ t. t ++ ss) second ∙ ap (λ t. (t ++ ts) ++ ss) first ∙ ap (λ t. ((t ++ ps) ++ ts) ++ ss) empty ∙ append_assoc ps ts ss

  -- where these are the parts of a lowered grammar
  pub lines_of_parts : (l : LoweredGrammar) → ns ≡ l.nonterminals → types ≡ l.types.nonterminals → starts ≡ l.start_nonterminals →
      flat_map (production_lines os) ns ++ (flat_map (line_among types) ns ++ flat_map start_line starts) ≡ lines os l
  lines_of_parts l ns_are types_are starts_are =
      ap (λ xs. flat_map (production_lines os) xs ++ (flat_map (line_among types) xs ++ flat_map start_line starts)) ns_are
      ∙ ap (λ xs. flat_map (production_lines os) l.nonterminals ++ (flat_map (line_among xs) l.nonterminals ++ flat_map start_line starts)) types_are
      ∙ ap (λ xs. flat_map (production_lines os) l.nonterminals ++ (flat_map (line_among l.types.nonterminals) l.nonterminals ++ flat_map start_line xs)) starts_are
