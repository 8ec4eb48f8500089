-- The texts of several types that share their parts, and of one whose parts print what they are seen as.
use Rattle.std.proofs.Common.{Result, ◌≡◌, ℕ, List, [], ◌∷◌, true, Option, Some, None, IfSome, option_map, map, codes, Vec, Global, refl, ap}
use Rattle.std.proofs.Output.{displays_on_ok_of_eq}
use Rattle.std.specs.Fmt.{◌++?◌, IsPlainFormatter, HasWritten, DisplaysOnOk, WritesOnOk}
use Rattle.std.specs.declared.fmt.Formatter.{Formatter}
use Rattle.std.specs.declared.fmt.Error.{Error}
use Rattle.lalrpop_norm_tree_names.specs.declared.names.TypeParameter.{TypeParameter}
use Rattle.lalrpop_norm_tree_parts.specs.declared.path.Path.{Path}
use Rattle.lalrpop_norm_tree_parts.specs.KnownTexts.{joined_known, angled_known, returned_known, signature_known}
use Rattle.lalrpop_norm_tree_parts.specs.Paths.{path_view}
use Rattle.lalrpop_norm_tree_parts.specs.Reprs.{maybe_repr_of}
use Rattle.lalrpop_norm_tree_parts.specs.TypeTexts.{path_text, repr_text, repr_texts, return_text, applied_text}
use Rattle.lalrpop_norm_tree_parts.proofs.KnownTextLemmas.{joined_known-all, angled_known-all, signature_known-all, known_then}
use Rattle.lalrpop_norm_shared_types.specs.Shared.{shared_view, applied_path_view, shared_all}
use Rattle.lalrpop_norm_shared_types.specs.declared.shared.SharedType.{SharedType}
use Rattle.lalrpop_norm_shared_types.specs.declared.shared.AppliedPath.{AppliedPath}
use Rattle.lalrpop_norm_shared_types.specs.declared.shared.TypeNode.TheVariants as variant
use Rattle.lalrpop_norm_shared_types.specs.declared.shared.TypeNode.TheViews.{out-AppliedPath}
use Rattle.lalrpop_norm_shared_types.proofs.SharedSeen.{shared_is, applied_is, tuple_seen, function_seen}

texts_of_shared : (ts : List SharedType) → map (λ t. repr_text (shared_view t)) ts ≡ repr_texts (shared_all ts)
texts_of_shared [] = refl
texts_of_shared (t ∷ ts) = ap (λ us. repr_text (shared_view t) ∷ us) (texts_of_shared ts)

-- what a type that shares its parts prints
abbrev printed : SharedType → Option (List ℕ)
printed t = Some (repr_text (shared_view t))

text_of_return : (r : Option SharedType) → returned_known (option_map printed r) ≡ Some (return_text (maybe_repr_of (option_map shared_view r)))
text_of_return None = refl
text_of_return (Some t) = refl

pub tuple_printed : (t : SharedType) (ts : Vec SharedType Global) → t.node.value ≡ variant.Tuple ts
    → Some (codes "(") ++? joined_known (codes ", ") (map printed ts.items) ++? Some (codes ")") ≡ Some (repr_text (shared_view t))
tuple_printed t ts e = rw (shared_is t, e, tuple_seen ts, joined_known-all (λ u. repr_text (shared_view u)) (codes ", ") ts.items, texts_of_shared ts.items)

pub applied_printed : (n : AppliedPath) → Some (path_text (path_view (out-AppliedPath n).path)) ++? angled_known (map printed (out-AppliedPath n).types.items) ≡ Some (applied_text (applied_path_view n))
applied_printed n = rw (applied_is n, angled_known-all (λ u. repr_text (shared_view u)) (out-AppliedPath n).types.items, texts_of_shared (out-AppliedPath n).types.items)

function_printed : (t : SharedType) (fs : Vec TypeParameter Global) (p : Path) (ts : Vec SharedType Global) (r : Option SharedType) → t.node.value ≡ variant.Fn fs p ts r
    → signature_known fs.items (path_view p) (map printed ts.items) ++? returned_known (option_map printed r) ≡ Some (repr_text (shared_view t))
function_printed t fs p ts r e =
    rw (shared_is t, e, function_seen fs p ts r, signature_known-all (λ u. repr_text (shared_view u)) fs.items (path_view p) ts.items, texts_of_shared ts.items, text_of_return r)

module _ {W : Type 0} (took : W → List ℕ → W → Type 0) where
  -- a signature that was written, and then the result
  pub function_written : (f g h : Formatter W) (x : Result (Unit {0}) Error) (t : SharedType) (fs : Vec TypeParameter Global) (p : Path) (ts : Vec SharedType Global) (r : Option SharedType) → t.node.value ≡ variant.Fn fs p ts r
      → IfSome (signature_known fs.items (path_view p) (map printed ts.items)) (λ a. IsPlainFormatter f → true ≡ true → HasWritten took f a g)
      → DisplaysOnOk took g x (returned_known (option_map printed r)) h → WritesOnOk took f x (repr_text (shared_view t)) h
  function_written f g h x t fs p ts r e y z =
      let signature = signature_known fs.items (path_view p) (map printed ts.items) in
      let returned = returned_known (option_map printed r) in
      displays_on_ok_of_eq took f h x (signature ++? returned) (Some (repr_text (shared_view t))) (function_printed t fs p ts r e) (known_then took f g h x signature returned y z)
