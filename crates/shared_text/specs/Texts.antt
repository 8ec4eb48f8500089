-- The bytes of a text, wherever they are.
use Rattle.std.specs.Prelude.{ℕ, List}
use Rattle.std.specs.String.{string_bytes}
use Rattle.shared_text.specs.declared.atom.Text.{Text}
use Rattle.shared_text.specs.declared.atom.Text.TheVariants.{Short, Long}

abbrev pub text_bytes : Text → List ℕ
text_bytes (Short s) = s
text_bytes (Long s) = string_bytes s.value
