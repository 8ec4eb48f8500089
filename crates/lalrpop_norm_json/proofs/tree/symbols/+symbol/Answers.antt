-- The answers of the goals of the functions that read symbols, each from a file of the folder Answers.
mod Variants
mod Records
mod Rows
mod Lists
use Rattle.lalrpop_norm_json.proofs.tree.symbols.+symbol.Goals as goal
use Rattle.lalrpop_norm_json.proofs.tree.symbols.+symbol.Answers.Variants as variants
use Rattle.lalrpop_norm_json.proofs.tree.symbols.+symbol.Answers.Records as records
use Rattle.lalrpop_norm_json.proofs.tree.symbols.+symbol.Answers.Rows as rows
use Rattle.lalrpop_norm_json.proofs.tree.symbols.+symbol.Answers.Lists as lists

pub kind-returns-in_err-depth : goal.kind-returns-in_err-depth
kind-returns-in_err-depth = variants.kind-returns-in_err-depth

pub kind-loop-read-init : goal.kind-loop-read-init
kind-loop-read-init = variants.kind-loop-read-init

pub kind-returns-in-String-clause-ok : goal.kind-returns-in-String-clause-ok
kind-returns-in-String-clause-ok = variants.kind-returns-in-String-clause-ok

pub kind-returns-in_default-2 : goal.kind-returns-in_default-2
kind-returns-in_default-2 = variants.kind-returns-in_default-2

pub kind-returns-in_err-name : goal.kind-returns-in_err-name
kind-returns-in_err-name = variants.kind-returns-in_err-name

pub kind-returns-in_err-pass : goal.kind-returns-in_err-pass
kind-returns-in_err-pass = variants.kind-returns-in_err-pass

pub kind-returns-in_err-read : goal.kind-returns-in_err-read
kind-returns-in_err-read = variants.kind-returns-in_err-read

pub kind-loop-read-preserved-then-is_other : goal.kind-loop-read-preserved-then-is_other
kind-loop-read-preserved-then-is_other = variants.kind-loop-read-preserved-then-is_other

pub kind-loop-read-preserved : goal.kind-loop-read-preserved
kind-loop-read-preserved = variants.kind-loop-read-preserved

pub kind-returns-then-strays : goal.kind-returns-then-strays
kind-returns-then-strays = variants.kind-returns-then-strays

pub kind-returns : goal.kind-returns
kind-returns = variants.kind-returns

pub kind_of-returns-in_err-read-in-Expr : goal.kind_of-returns-in_err-read-in-Expr
kind_of-returns-in_err-read-in-Expr = variants.kind_of-returns-in_err-read-in-Expr

pub kind_of-returns-in_err-read-in-AmbiguousId : goal.kind_of-returns-in_err-read-in-AmbiguousId
kind_of-returns-in_err-read-in-AmbiguousId = variants.kind_of-returns-in_err-read-in-AmbiguousId

pub kind_of-returns-in_err-read-in-Terminal : goal.kind_of-returns-in_err-read-in-Terminal
kind_of-returns-in_err-read-in-Terminal = variants.kind_of-returns-in_err-read-in-Terminal

pub kind_of-returns-in_err-read-in-Nonterminal : goal.kind_of-returns-in_err-read-in-Nonterminal
kind_of-returns-in_err-read-in-Nonterminal = variants.kind_of-returns-in_err-read-in-Nonterminal

pub kind_of-returns-in_err-pass-in_default : goal.kind_of-returns-in_err-pass-in_default
kind_of-returns-in_err-pass-in_default = variants.kind_of-returns-in_err-pass-in_default

pub kind_of-returns-in-None : goal.kind_of-returns-in-None
kind_of-returns-in-None = variants.kind_of-returns-in-None

pub kind_of-returns-in-None-2 : goal.kind_of-returns-in-None-2
kind_of-returns-in-None-2 = variants.kind_of-returns-in-None-2

pub kind_of-returns-in-None-3 : goal.kind_of-returns-in-None-3
kind_of-returns-in-None-3 = variants.kind_of-returns-in-None-3

pub kind_of-returns-in-Macro : goal.kind_of-returns-in-Macro
kind_of-returns-in-Macro = variants.kind_of-returns-in-Macro

pub kind_of-returns-in-Repeat : goal.kind_of-returns-in-Repeat
kind_of-returns-in-Repeat = variants.kind_of-returns-in-Repeat

pub kind_of-returns-in-Choose : goal.kind_of-returns-in-Choose
kind_of-returns-in-Choose = variants.kind_of-returns-in-Choose

pub kind_of-returns-in-Name : goal.kind_of-returns-in-Name
kind_of-returns-in-Name = variants.kind_of-returns-in-Name

pub kind_of-returns-in-Tuple : goal.kind_of-returns-in-Tuple
kind_of-returns-in-Tuple = variants.kind_of-returns-in-Tuple

pub kind_of-returns-in_ok-pass-in_default : goal.kind_of-returns-in_ok-pass-in_default
kind_of-returns-in_ok-pass-in_default = variants.kind_of-returns-in_ok-pass-in_default

pub chosen-returns-in_err-symbol : goal.chosen-returns-in_err-symbol
chosen-returns-in_err-symbol = variants.chosen-returns-in_err-symbol

pub chosen-returns-in-None : goal.chosen-returns-in-None
chosen-returns-in-None = variants.chosen-returns-in-None

pub chosen-returns-in_err-new-in-Some-clause-ok : goal.chosen-returns-in_err-new-in-Some-clause-ok
chosen-returns-in_err-new-in-Some-clause-ok = variants.chosen-returns-in_err-new-in-Some-clause-ok

pub symbol-returns-in_err-depth : goal.symbol-returns-in_err-depth
symbol-returns-in_err-depth = records.symbol-returns-in_err-depth

pub symbol-returns-in_default : goal.symbol-returns-in_default
symbol-returns-in_default = records.symbol-returns-in_default

pub symbol-loop-of-init : goal.symbol-loop-of-init
symbol-loop-of-init = records.symbol-loop-of-init

pub symbol-returns-in_err-key : goal.symbol-returns-in_err-key
symbol-returns-in_err-key = records.symbol-returns-in_err-key

pub symbol-returns-in_err-of-in-kind : goal.symbol-returns-in_err-of-in-kind
symbol-returns-in_err-of-in-kind = records.symbol-returns-in_err-of-in-kind

pub symbol-loop-of-preserved-then-str_eq : goal.symbol-loop-of-preserved-then-str_eq
symbol-loop-of-preserved-then-str_eq = records.symbol-loop-of-preserved-then-str_eq

pub symbol-returns-in_err-span-in-span : goal.symbol-returns-in_err-span-in-span
symbol-returns-in_err-span-in-span = records.symbol-returns-in_err-span-in-span

pub symbol-loop-of-preserved-then-str_eq-2 : goal.symbol-loop-of-preserved-then-str_eq-2
symbol-loop-of-preserved-then-str_eq-2 = records.symbol-loop-of-preserved-then-str_eq-2

pub symbol-returns-in_err-pass-in_default-key : goal.symbol-returns-in_err-pass-in_default-key
symbol-returns-in_err-pass-in_default-key = records.symbol-returns-in_err-pass-in_default-key

pub symbol-loop-of-preserved : goal.symbol-loop-of-preserved
symbol-loop-of-preserved = records.symbol-loop-of-preserved

pub symbol-returns-then-strays : goal.symbol-returns-then-strays
symbol-returns-then-strays = records.symbol-returns-then-strays

pub symbol-returns-in_default-of : goal.symbol-returns-in_default-of
symbol-returns-in_default-of = records.symbol-returns-in_default-of

pub symbol-returns-in_default-span : goal.symbol-returns-in_default-span
symbol-returns-in_default-span = records.symbol-returns-in_default-span

pub symbol-returns : goal.symbol-returns
symbol-returns = records.symbol-returns

pub called-returns-in_err-depth : goal.called-returns-in_err-depth
called-returns-in_err-depth = records.called-returns-in_err-depth

pub called-returns-in_default : goal.called-returns-in_default
called-returns-in_default = records.called-returns-in_default

pub called-loop-name-init : goal.called-loop-name-init
called-loop-name-init = records.called-loop-name-init

pub called-returns-in_err-key : goal.called-returns-in_err-key
called-returns-in_err-key = records.called-returns-in_err-key

pub called-returns-in_err-args-in-args : goal.called-returns-in_err-args-in-args
called-returns-in_err-args-in-args = records.called-returns-in_err-args-in-args

pub called-loop-name-preserved-then-str_eq : goal.called-loop-name-preserved-then-str_eq
called-loop-name-preserved-then-str_eq = records.called-loop-name-preserved-then-str_eq

pub called-returns-in_err-name-in-name : goal.called-returns-in_err-name-in-name
called-returns-in_err-name-in-name = records.called-returns-in_err-name-in-name

pub called-loop-name-preserved-then-str_eq-2 : goal.called-loop-name-preserved-then-str_eq-2
called-loop-name-preserved-then-str_eq-2 = records.called-loop-name-preserved-then-str_eq-2

pub called-returns-in_err-pass-in_default-key : goal.called-returns-in_err-pass-in_default-key
called-returns-in_err-pass-in_default-key = records.called-returns-in_err-pass-in_default-key

pub called-loop-name-preserved : goal.called-loop-name-preserved
called-loop-name-preserved = records.called-loop-name-preserved

pub called-returns-then-strays : goal.called-returns-then-strays
called-returns-then-strays = records.called-returns-then-strays

pub called-returns-in_default-args : goal.called-returns-in_default-args
called-returns-in_default-args = records.called-returns-in_default-args

pub called-returns-in_default-name : goal.called-returns-in_default-name
called-returns-in_default-name = records.called-returns-in_default-name

pub called-returns : goal.called-returns
called-returns = records.called-returns

pub repeated-returns-in_err-depth : goal.repeated-returns-in_err-depth
repeated-returns-in_err-depth = records.repeated-returns-in_err-depth

pub repeated-returns-in_default : goal.repeated-returns-in_default
repeated-returns-in_default = records.repeated-returns-in_default

pub repeated-loop-repeated-init : goal.repeated-loop-repeated-init
repeated-loop-repeated-init = records.repeated-loop-repeated-init

pub repeated-returns-in_err-key : goal.repeated-returns-in_err-key
repeated-returns-in_err-key = records.repeated-returns-in_err-key

pub repeated-returns-in_err-op-in-op : goal.repeated-returns-in_err-op-in-op
repeated-returns-in_err-op-in-op = records.repeated-returns-in_err-op-in-op

pub repeated-loop-repeated-preserved-then-str_eq : goal.repeated-loop-repeated-preserved-then-str_eq
repeated-loop-repeated-preserved-then-str_eq = records.repeated-loop-repeated-preserved-then-str_eq

pub repeated-returns-in_err-repeated-in-symbol : goal.repeated-returns-in_err-repeated-in-symbol
repeated-returns-in_err-repeated-in-symbol = records.repeated-returns-in_err-repeated-in-symbol

pub repeated-loop-repeated-preserved-then-str_eq-2 : goal.repeated-loop-repeated-preserved-then-str_eq-2
repeated-loop-repeated-preserved-then-str_eq-2 = records.repeated-loop-repeated-preserved-then-str_eq-2

pub repeated-returns-in_err-pass-in_default-key : goal.repeated-returns-in_err-pass-in_default-key
repeated-returns-in_err-pass-in_default-key = records.repeated-returns-in_err-pass-in_default-key

pub repeated-loop-repeated-preserved : goal.repeated-loop-repeated-preserved
repeated-loop-repeated-preserved = records.repeated-loop-repeated-preserved

pub repeated-returns-then-strays : goal.repeated-returns-then-strays
repeated-returns-then-strays = records.repeated-returns-then-strays

pub repeated-returns-in_default-op : goal.repeated-returns-in_default-op
repeated-returns-in_default-op = records.repeated-returns-in_default-op

pub repeated-returns-in_default-repeated : goal.repeated-returns-in_default-repeated
repeated-returns-in_default-repeated = records.repeated-returns-in_default-repeated

pub repeated-returns : goal.repeated-returns
repeated-returns = records.repeated-returns

pub repeated-returns-in_err-new-clause-ok : goal.repeated-returns-in_err-new-clause-ok
repeated-returns-in_err-new-clause-ok = records.repeated-returns-in_err-new-clause-ok

pub named-returns-in_err-depth : goal.named-returns-in_err-depth
named-returns-in_err-depth = rows.named-returns-in_err-depth

pub named-returns-in_default : goal.named-returns-in_default
named-returns-in_default = rows.named-returns-in_default

pub named-loop-of-init : goal.named-loop-of-init
named-loop-of-init = rows.named-loop-of-init

pub named-returns-in_err-first : goal.named-returns-in_err-first
named-returns-in_err-first = rows.named-returns-in_err-first

pub named-returns-in_err-names-in-0 : goal.named-returns-in_err-names-in-0
named-returns-in_err-names-in-0 = rows.named-returns-in_err-names-in-0

pub named-returns-in_err-of-in-1 : goal.named-returns-in_err-of-in-1
named-returns-in_err-of-in-1 = rows.named-returns-in_err-of-in-1

pub named-returns-in_err-pass-in_default-place : goal.named-returns-in_err-pass-in_default-place
named-returns-in_err-pass-in_default-place = rows.named-returns-in_err-pass-in_default-place

pub named-loop-of-preserved-in-0 : goal.named-loop-of-preserved-in-0
named-loop-of-preserved-in-0 = rows.named-loop-of-preserved-in-0

pub named-loop-of-preserved-in-1 : goal.named-loop-of-preserved-in-1
named-loop-of-preserved-in-1 = rows.named-loop-of-preserved-in-1

pub named-loop-of-preserved : goal.named-loop-of-preserved
named-loop-of-preserved = rows.named-loop-of-preserved

pub named-returns-then-place-ne2 : goal.named-returns-then-place-ne2
named-returns-then-place-ne2 = rows.named-returns-then-place-ne2

pub named-returns-in-None : goal.named-returns-in-None
named-returns-in-None = rows.named-returns-in-None

pub named-returns-in_ok-new-in-Some-both : goal.named-returns-in_ok-new-in-Some-both
named-returns-in_ok-new-in-Some-both = rows.named-returns-in_ok-new-in-Some-both

pub named-returns-in_err-new-in-Some-both-clause-ok : goal.named-returns-in_err-new-in-Some-both-clause-ok
named-returns-in_err-new-in-Some-both-clause-ok = rows.named-returns-in_err-new-in-Some-both-clause-ok

pub tupled-returns-in_err-depth : goal.tupled-returns-in_err-depth
tupled-returns-in_err-depth = rows.tupled-returns-in_err-depth

pub tupled-returns-in_default : goal.tupled-returns-in_default
tupled-returns-in_default = rows.tupled-returns-in_default

pub tupled-loop-of-init : goal.tupled-loop-of-init
tupled-loop-of-init = rows.tupled-loop-of-init

pub tupled-returns-in_err-first : goal.tupled-returns-in_err-first
tupled-returns-in_err-first = rows.tupled-returns-in_err-first

pub tupled-returns-in_err-names-in-0 : goal.tupled-returns-in_err-names-in-0
tupled-returns-in_err-names-in-0 = rows.tupled-returns-in_err-names-in-0

pub tupled-returns-in_err-of-in-1 : goal.tupled-returns-in_err-of-in-1
tupled-returns-in_err-of-in-1 = rows.tupled-returns-in_err-of-in-1

pub tupled-returns-in_err-pass-in_default-place : goal.tupled-returns-in_err-pass-in_default-place
tupled-returns-in_err-pass-in_default-place = rows.tupled-returns-in_err-pass-in_default-place

pub tupled-loop-of-preserved-in-0 : goal.tupled-loop-of-preserved-in-0
tupled-loop-of-preserved-in-0 = rows.tupled-loop-of-preserved-in-0

pub tupled-loop-of-preserved-in-1 : goal.tupled-loop-of-preserved-in-1
tupled-loop-of-preserved-in-1 = rows.tupled-loop-of-preserved-in-1

pub tupled-loop-of-preserved : goal.tupled-loop-of-preserved
tupled-loop-of-preserved = rows.tupled-loop-of-preserved

pub tupled-returns-then-place-ne2 : goal.tupled-returns-then-place-ne2
tupled-returns-then-place-ne2 = rows.tupled-returns-then-place-ne2

pub tupled-returns-in-None : goal.tupled-returns-in-None
tupled-returns-in-None = rows.tupled-returns-in-None

pub tupled-returns-in_ok-new-in-Some-both : goal.tupled-returns-in_ok-new-in-Some-both
tupled-returns-in_ok-new-in-Some-both = rows.tupled-returns-in_ok-new-in-Some-both

pub tupled-returns-in_err-new-in-Some-both-clause-ok : goal.tupled-returns-in_err-new-in-Some-both-clause-ok
tupled-returns-in_err-new-in-Some-both-clause-ok = rows.tupled-returns-in_err-new-in-Some-both-clause-ok

pub symbols-returns-in_err-depth : goal.symbols-returns-in_err-depth
symbols-returns-in_err-depth = lists.symbols-returns-in_err-depth

pub symbols-returns-in_default : goal.symbols-returns-in_default
symbols-returns-in_default = lists.symbols-returns-in_default

pub symbols-returns-in_err-first : goal.symbols-returns-in_err-first
symbols-returns-in_err-first = lists.symbols-returns-in_err-first

pub symbols-returns-in_err-item : goal.symbols-returns-in_err-item
symbols-returns-in_err-item = lists.symbols-returns-in_err-item

pub symbols-loop-list-preserved-in_ok-push-in-Some-3 : goal.symbols-loop-list-preserved-in_ok-push-in-Some-3
symbols-loop-list-preserved-in_ok-push-in-Some-3 = lists.symbols-loop-list-preserved-in_ok-push-in-Some-3

pub symbols-loop-list-preserved : goal.symbols-loop-list-preserved
symbols-loop-list-preserved = lists.symbols-loop-list-preserved

pub symbols-returns-in_ok-fitted : goal.symbols-returns-in_ok-fitted
symbols-returns-in_ok-fitted = lists.symbols-returns-in_ok-fitted

pub symbols-returns-else-good : goal.symbols-returns-else-good
symbols-returns-else-good = lists.symbols-returns-else-good

pub symbols-returns-in_err-push-in-Some-3 : goal.symbols-returns-in_err-push-in-Some-3
symbols-returns-in_err-push-in-Some-3 = lists.symbols-returns-in_err-push-in-Some-3

pub symbols-returns-in_err-fitted : goal.symbols-returns-in_err-fitted
symbols-returns-in_err-fitted = lists.symbols-returns-in_err-fitted

pub group-returns-in_err-depth : goal.group-returns-in_err-depth
group-returns-in_err-depth = lists.group-returns-in_err-depth

pub group-returns-in_default : goal.group-returns-in_default
group-returns-in_default = lists.group-returns-in_default

pub group-loop-list-init : goal.group-loop-list-init
group-loop-list-init = lists.group-loop-list-init

pub group-returns-in_err-key : goal.group-returns-in_err-key
group-returns-in_err-key = lists.group-returns-in_err-key

pub group-returns-in_err-list-in-symbols : goal.group-returns-in_err-list-in-symbols
group-returns-in_err-list-in-symbols = lists.group-returns-in_err-list-in-symbols

pub group-loop-list-preserved-then-str_eq : goal.group-loop-list-preserved-then-str_eq
group-loop-list-preserved-then-str_eq = lists.group-loop-list-preserved-then-str_eq

pub group-returns-in_err-pass-in_default-key : goal.group-returns-in_err-pass-in_default-key
group-returns-in_err-pass-in_default-key = lists.group-returns-in_err-pass-in_default-key

pub group-loop-list-preserved : goal.group-loop-list-preserved
group-loop-list-preserved = lists.group-loop-list-preserved

pub group-returns-then-strays : goal.group-returns-then-strays
group-returns-then-strays = lists.group-returns-then-strays

pub group-returns-in_default-list : goal.group-returns-in_default-list
group-returns-in_default-list = lists.group-returns-in_default-list

pub group-returns : goal.group-returns
group-returns = lists.group-returns
