-- Rows, one after the other.
use Rattle.std.proofs.Common.{◌≡◌, ◌∙◌, List, [], ◌∷◌, ◌++◌, refl, sym, ap, append_assoc}
use Rattle.std.specs.BTreeMap.{insert_entry}
use Rattle.std.specs.Map.{keys_of}
use Rattle.std.proofs.lemmas.List.{map-append}
use Rattle.lalrpop_norm_tree_names.specs.declared.names.TerminalString.{TerminalString}
use Rattle.lalrpop_norm_lower.specs.Conversions.{sorted_terminals, terminal_cmp}

pub keys_more : {V : Type 0} (xs ys : List (TerminalString × V)) → keys_of (xs ++ ys) ≡ keys_of xs ++ keys_of ys
keys_more xs ys = map-append (λ r. r.0) xs ys

pub sorted_more : {V : Type 0} (es xs ys : List (TerminalString × V)) → sorted_terminals es (xs ++ ys) ≡ sorted_terminals (sorted_terminals es xs) ys
sorted_more es [] ys = refl
sorted_more es (x ∷ xs) ys = sorted_more (insert_entry terminal_cmp es x.0 x.1) xs ys

pub keys_step : {V : Type 0} (new old : List TerminalString) (xs ys : List (TerminalString × V)) → new ≡ old ++ keys_of xs → new ++ keys_of ys ≡ old ++ keys_of (xs ++ ys)
keys_step new old xs ys h = ap (λ ts. ts ++ keys_of ys) h ∙ append_assoc old (keys_of xs) (keys_of ys) ∙ ap (λ ts. old ++ ts) (sym (keys_more xs ys))

pub sorted_step : {V : Type 0} (new old xs ys : List (TerminalString × V)) → new ≡ sorted_terminals old xs → sorted_terminals new ys ≡ sorted_terminals old (xs ++ ys)
sorted_step new old xs ys h = ap (λ es. sorted_terminals es ys) h ∙ sym (sorted_more old xs ys)
