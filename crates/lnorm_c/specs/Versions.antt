-- What a library says of itself.
use Rattle.std.specs.Prelude.{ℕ, List, codes}

-- The version of the forms. It grows with each change by which a text that was a tree is none any more, or is another tree, or by
-- which the same grammar has other lines, and with a form that is added: 2 has whole lowered grammars in JSON, and two readings.
abbrev pub form_version : ℕ
form_version = 2

-- the toolchain that the sources are proved with: their constant, also where a library was built by another one
unfoldable pub toolchain_line : List ℕ
toolchain_line = codes "rattle-kit-13f logic dac8208d650f15bf"
