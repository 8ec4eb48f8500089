-- The texts of literals, terminals and type parameters, as bytes.
use Rattle.std.specs.Prelude.{ℕ, Bool, false, ◌==◌, ◌||◌, nat_lt, List, [], ◌∷◌, ◌++◌, if◌then◌else◌}
use Rattle.std.specs.Prelude.{codes, chars, encode_utf8}
use Rattle.std.specs.List.{flat_map}
use Rattle.std.specs.Fmt.{radix_digits}
use Rattle.lalrpop_norm_tree_names.specs.declared.names.TerminalLiteral.{TerminalLiteral}
use Rattle.lalrpop_norm_tree_names.specs.declared.names.TerminalLiteral.TheVariants.{Quoted, Regex}
use Rattle.lalrpop_norm_tree_names.specs.declared.names.TerminalString.{TerminalString}
use Rattle.lalrpop_norm_tree_names.specs.declared.names.TerminalString.TheVariants.{Literal, Bare, Error}
use Rattle.lalrpop_norm_tree_names.specs.declared.names.TypeParameter.{TypeParameter}
use Rattle.lalrpop_norm_tree_names.specs.declared.names.TypeParameter.TheVariants as parameter

-- a control character, by its number
abbrev pub is_control : ℕ → Bool
is_control c = nat_lt c 32 || (c == 127)

abbrev pub escape_char : ℕ → List ℕ
escape_char c =
    if c == 0 then codes "\\0" else
    (if c == 9 then codes "\\t" else
    (if c == 13 then codes "\\r" else
    (if c == 10 then codes "\\n" else
    (if c == 92 then codes "\\\\" else
    (if c == 34 then codes "\\\"" else
    (if is_control c then codes "\\u{" ++ radix_digits 16 false c ++ codes "}" else encode_utf8 c))))))

-- the text, each character of it escaped
abbrev pub escape : List ℕ → List ℕ
escape bytes = flat_map escape_char (chars bytes)

abbrev pub literal_text : TerminalLiteral → List ℕ
literal_text (Quoted a) = codes "\"" ++ escape a ++ codes "\""
literal_text (Regex a) = codes "r#\"" ++ escape a ++ codes "\"#"

abbrev pub terminal_text : TerminalString → List ℕ
terminal_text (Literal l) = literal_text l
terminal_text (Bare a) = a
terminal_text Error = codes "error"

abbrev pub type_parameter_text : TypeParameter → List ℕ
type_parameter_text (parameter.Lifetime l) = l.0
type_parameter_text (parameter.Id a) = a

-- the texts in a row, with the separator between each two
abbrev pub joined : List ℕ → List (List ℕ) → List ℕ
joined separator [] = []
joined separator (t ∷ ts) = t ++ flat_map (λ u. separator ++ u) ts
