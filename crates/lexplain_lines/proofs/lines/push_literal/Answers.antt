use Rattle.std.proofs.Common.{◌≡◌, ◌++◌, List, ℕ, OnOk, codes, string_bytes, sym, subst}
use Rattle.lalrpop_norm_tree_names.specs.declared.names.TerminalLiteral.{TerminalLiteral}
use Rattle.lalrpop_norm_model.specs.Reading.{literal_terminal}
use Rattle.lexplain_lines.specs.TreeLines.{text_json, terminal_json}
use Rattle.lexplain_lines.proofs.lines.push_literal.Goals as goal

pub returns-in-Quoted : goal.returns-in-Quoted
returns-in-Quoted c =
    let text = string_bytes c.args.text.now in
    let new = string_bytes c.push_held.new.text in
    subst (λ (l : TerminalLiteral). OnOk c.push_held.result (new ≡ text ++ terminal_json (literal_terminal l))) (sym c.in-Quoted.is)
    (subst (λ (s : List ℕ). OnOk c.push_held.result (new ≡ text ++ (codes "{\"Literal\":{\"Quoted\":" ++ (text_json s ++ codes "}}"))))
    c.as_str.ensures.text c.push_held.ensures)

pub returns-in-Regex : goal.returns-in-Regex
returns-in-Regex c =
    let text = string_bytes c.args.text.now in
    let new = string_bytes c.push_held-in-Regex.new.text in
    subst (λ (l : TerminalLiteral). OnOk c.push_held-in-Regex.result (new ≡ text ++ terminal_json (literal_terminal l))) (sym c.in-Regex.is)
    (subst (λ (s : List ℕ). OnOk c.push_held-in-Regex.result (new ≡ text ++ (codes "{\"Literal\":{\"Regex\":" ++ (text_json s ++ codes "}}"))))
    c.as_str-in-Regex.ensures.text c.push_held-in-Regex.ensures)
