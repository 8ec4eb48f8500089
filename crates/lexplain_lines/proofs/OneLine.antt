-- One line of what is written, and what it is read as.
use Rattle.std.proofs.Common.{◌≡◌, ◌≤◌, ◌<◌, ◌^◌, ℕ, List, [], ◌∷◌, ◌++◌, true, false, ◌==◌, Some, codes, decimal, option_map, option_and_then, refl, sym, ap, ◌∙◌, arith, append_assoc, append-nil}
use Rattle.json.specs.Json as json
use Rattle.json.specs.Lex.{tokens}
use Rattle.json.specs.Print.{escape_byte, quoted}
use Rattle.json.specs.Tree.{HasNumbers, json_tokens}
use Rattle.json.specs.Tree as tree
use Rattle.json.proofs.Printed.Decimals.{IsNumber-decimal}
use Rattle.json.proofs.Printed.Tokens.{tokens-print}
use Rattle.json.proofs.Printed.Trees.{ArePrintable-json_tokens, value-json_tokens}
use Rattle.serde_json.specs.Data.{Data, string, object, no_members, member}
use Rattle.serde_json.specs.Read.{max_depth, of_json, read}
use Rattle.serde_json.specs.Written.{compact_text, outline}
use Rattle.serde_json.proofs.Numbers.{number_of-decimal}
use Rattle.serde_json.proofs.Texts.{print-outline}
use Rattle.lalrpop_norm_theory.specs.Symbols.{Name, Terminal, quoted as quoted_literal, regex, bare, error_terminal}
use Rattle.lalrpop_norm_json.specs.Json.{variant, natural}
use Rattle.lexplain_lines.specs.TreeLines.{text_json, leaf_line, node_line}
use Rattle.lexplain_lines.specs.LineForms.{leaf_form, list_line_form, lowered_node_form, nothing_form, written_node_form}
use Rattle.lexplain_lines.proofs.NoFeed.{decimal_none, feeds_none, feeds_none_both, last_byte, last_of_both, quoted_none}

-- data that is written with its members in this order is read as that data
read_as : (written d : Data) → HasNumbers (outline written) → tree.depth (outline written) ≤ max_depth → of_json (outline written) ≡ Some d →
    read (compact_text written) ≡ Some d
read_as written d numbers shallow means =
    let j = outline written in
    let lexed = ap tokens (sym (print-outline written)) ∙ tokens-print (json_tokens j) (ArePrintable-json_tokens j numbers) ∙ sym (append-nil (json_tokens j)) in
    ap (λ ts. option_and_then of_json (option_and_then (λ p. json.if_last p.0 p.1) (json.value max_depth ts))) lexed
    ∙ ap (λ o. option_and_then of_json (option_and_then (λ p. json.if_last p.0 p.1) o)) (value-json_tokens j max_depth [] shallow) ∙ means

-- the text is one line, which is read as the data
pub record IsLine (text : List ℕ) (d : Data) : Type 0 where
  pub line : List ℕ
  pub text_is : text ≡ line ++ codes "\n"
  pub one : feeds_none line ≡ true
  pub whole : (last_byte 0 line == 13) ≡ false
  pub reads : read line ≡ Some d

-- ---- a variant and what it holds

variant_none : (k : List ℕ) (d : Data) → feeds_none (compact_text d) ≡ true → feeds_none (compact_text (variant k d)) ≡ true
variant_none k d h =
    feeds_none_both (quoted k) (58 ∷ (compact_text d ++ (125 ∷ []))) (quoted_none k) (feeds_none_both (compact_text d) (125 ∷ []) h refl)

variant_ends : (k : List ℕ) (d : Data) → (last_byte 0 (compact_text (variant k d)) == 13) ≡ false
variant_ends k d =
    let before = quoted k ++ (58 ∷ compact_text d) in
    let same : quoted k ++ (58 ∷ (compact_text d ++ (125 ∷ []))) ≡ before ++ (125 ∷ []) = sym (append_assoc (quoted k) (58 ∷ compact_text d) (125 ∷ [])) in
    ap (λ l. last_byte 123 l == 13) same ∙ ap (λ b. b == 13) (last_of_both 123 before 125)

variant_line : (k : List ℕ) (written d : Data) (text : List ℕ) → text ≡ compact_text (variant k written) ++ codes "\n" → feeds_none (compact_text written) ≡ true →
    HasNumbers (outline written) → tree.depth (outline (variant k written)) ≤ max_depth → of_json (outline written) ≡ Some d → IsLine text (variant k d)
variant_line k written d text is none numbers shallow means = record {
  line = compact_text (variant k written);
  text_is = is;
  one = variant_none k written none;
  whole = variant_ends k written;
  reads = read_as (variant k written) (variant k d) (numbers, tt) shallow
      (ap (λ o. option_map object (option_and_then (λ e. Some (member k e no_members)) o)) means);
}

-- ---- leaves

-- two more brackets, and the line feed
closed_twice : (text : List ℕ) → (text ++ codes "}") ++ codes "}\n" ≡ ((text ++ codes "}") ++ codes "}") ++ codes "\n"
closed_twice text = sym (append_assoc (text ++ codes "}") (codes "}") (codes "\n"))

closed_three : (text : List ℕ) → (text ++ codes "}}") ++ codes "}\n" ≡ (((text ++ codes "}") ++ codes "}") ++ codes "}") ++ codes "\n"
closed_three text =
    ap (λ l. l ++ codes "}\n") (sym (append_assoc text (codes "}") (codes "}"))) ∙ closed_twice (text ++ codes "}")

literal_none : (k s : List ℕ) → feeds_none (compact_text (variant (codes "Literal") (variant k (string s)))) ≡ true
literal_none k s = variant_none (codes "Literal") (variant k (string s)) (variant_none k (string s) (quoted_none s))

pub leaf_is_line : (a : Terminal) → IsLine (leaf_line a) (leaf_form a)
unfolding escape_byte
leaf_is_line (quoted_literal s) =
    variant_line (codes "Leaf") (variant (codes "Literal") (variant (codes "Quoted") (string s))) _ (leaf_line (quoted_literal s))
    (ap (λ l. codes "{\"Leaf\":{\"Literal\":{\"Quoted\":" ++ l) (closed_three (text_json s))) (literal_none (codes "Quoted") s) ((tt, tt), tt) (omega arith) refl
leaf_is_line (regex s) =
    variant_line (codes "Leaf") (variant (codes "Literal") (variant (codes "Regex") (string s))) _ (leaf_line (regex s))
    (ap (λ l. codes "{\"Leaf\":{\"Literal\":{\"Regex\":" ++ l) (closed_three (text_json s))) (literal_none (codes "Regex") s) ((tt, tt), tt) (omega arith) refl
leaf_is_line (bare s) =
    variant_line (codes "Leaf") (variant (codes "Bare") (string s)) _ (leaf_line (bare s))
    (ap (λ l. codes "{\"Leaf\":{\"Bare\":" ++ l) (closed_twice (text_json s))) (variant_none (codes "Bare") (string s) (quoted_none s)) (tt, tt) (omega arith) refl
leaf_is_line error_terminal =
    variant_line (codes "Leaf") (string (codes "Error")) _ (leaf_line error_terminal) refl (quoted_none (codes "Error")) tt (omega arith) refl

pub nothing_is_line : IsLine (codes "\"Nothing\"\n") nothing_form
unfolding escape_byte
nothing_is_line = record {
  line = codes "\"Nothing\"";
  text_is = refl;
  one = refl;
  whole = refl;
  reads = read_as nothing_form nothing_form tt (omega arith) refl;
}

-- ---- lists and nodes

pub list_is_line : (count : ℕ) → count < 2 ^ 64 → IsLine (codes "{\"List\":" ++ (decimal count ++ codes "}\n")) (list_line_form count)
unfolding escape_byte
list_is_line count h =
    variant_line (codes "List") (natural count) (natural count) _
    (ap (λ l. codes "{\"List\":" ++ l) (sym (append_assoc (decimal count) (codes "}") (codes "\n")))) (decimal_none count h) (IsNumber-decimal count h) (omega arith)
    (rw (number_of-decimal count h) refl)

-- a node's data, its members in the order of writing
abbrev node_data : List ℕ → List ℕ → Name → ℕ → ℕ → Data
node_data field number n k count =
    object (member field (string n) (member number (natural k) (member (codes "children") (natural count) no_members)))

node_none : (field number : List ℕ) (n : Name) (k count : ℕ) → k < 2 ^ 64 → count < 2 ^ 64 → feeds_none (compact_text (node_data field number n k count)) ≡ true
node_none field number n k count h i =
    feeds_none_both (quoted field) _ (quoted_none field)
    (feeds_none_both (text_json n) _ (quoted_none n)
    (feeds_none_both (quoted number) _ (quoted_none number)
    (feeds_none_both (decimal k) _ (decimal_none k h)
    (feeds_none_both (quoted (codes "children")) _ (quoted_none (codes "children"))
    (feeds_none_both (decimal count) (codes "}") (decimal_none count i) refl)))))

behind : (a b c d : List ℕ) → ((a ++ b) ++ c) ++ d ≡ a ++ ((b ++ c) ++ d)
behind a b c d = ap (λ l. l ++ d) (append_assoc a b c) ∙ append_assoc a (b ++ c) d

-- two more brackets, and the line feed, behind five texts
closed_node : (a b c d e : List ℕ) →
    a ++ (b ++ (c ++ (d ++ (e ++ codes "}}\n")))) ≡ ((a ++ (b ++ (c ++ (d ++ (e ++ codes "}"))))) ++ codes "}") ++ codes "\n"
closed_node a b c d e =
    sym (behind a (b ++ (c ++ (d ++ (e ++ codes "}")))) (codes "}") (codes "\n")
    ∙ ap (λ l. a ++ l) (behind b (c ++ (d ++ (e ++ codes "}"))) (codes "}") (codes "\n")
    ∙ ap (λ l. b ++ l) (behind c (d ++ (e ++ codes "}")) (codes "}") (codes "\n")
    ∙ ap (λ l. c ++ l) (behind d (e ++ codes "}") (codes "}") (codes "\n")
    ∙ ap (λ l. d ++ l) (behind e (codes "}") (codes "}") (codes "\n"))))))

pub written_node_is_line : (n : Name) (k count : ℕ) → k < 2 ^ 64 → count < 2 ^ 64 →
    IsLine (node_line (codes "rule") (codes "alternative") n k count) (written_node_form n k count)
unfolding escape_byte
written_node_is_line n k count h i =
    variant_line (codes "Node") (node_data (codes "rule") (codes "alternative") n k count) _ _
    (ap (λ l. codes "{\"Node\":{\"rule\":" ++ l) (closed_node (text_json n) (codes ",\"alternative\":") (decimal k) (codes ",\"children\":") (decimal count)))
    (node_none (codes "rule") (codes "alternative") n k count h i) (tt, (IsNumber-decimal k h, (IsNumber-decimal count i, tt))) (omega arith)
    (rw (number_of-decimal k h, number_of-decimal count i) refl)

pub lowered_node_is_line : (n : Name) (p count : ℕ) → p < 2 ^ 64 → count < 2 ^ 64 →
    IsLine (node_line (codes "nonterminal") (codes "production") n p count) (lowered_node_form n p count)
unfolding escape_byte
lowered_node_is_line n p count h i =
    variant_line (codes "Node") (node_data (codes "nonterminal") (codes "production") n p count) _ _
    (ap (λ l. codes "{\"Node\":{\"nonterminal\":" ++ l) (closed_node (text_json n) (codes ",\"production\":") (decimal p) (codes ",\"children\":") (decimal count)))
    (node_none (codes "nonterminal") (codes "production") n p count h i) (tt, (IsNumber-decimal p h, (IsNumber-decimal count i, tt))) (omega arith)
    (rw (number_of-decimal p h, number_of-decimal count i) refl)
