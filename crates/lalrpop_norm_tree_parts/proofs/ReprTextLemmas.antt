-- The texts of several types, and of one whose parts print what they are seen as.
use Rattle.std.proofs.Common.{Result, ◌≡◌, ℕ, List, [], ◌∷◌, true, Option, Some, None, IfSome, option_map, map, codes, Box, Vec, Global, refl, ap}
use Rattle.std.proofs.Output.{displays_on_ok_of_eq}
use Rattle.std.specs.Fmt.{◌++?◌, IsPlainFormatter, HasWritten, DisplaysOnOk, WritesOnOk}
use Rattle.std.specs.declared.fmt.Formatter.{Formatter}
use Rattle.std.specs.declared.fmt.Error.{Error}
use Rattle.lalrpop_norm_tree_names.specs.declared.names.TypeParameter.{TypeParameter}
use Rattle.lalrpop_norm_tree_parts.specs.declared.path.Path.{Path}
use Rattle.lalrpop_norm_tree_parts.specs.declared.lowered.TypeRepr.{TypeRepr}
use Rattle.lalrpop_norm_tree_parts.specs.declared.lowered.NominalTypeRepr.{NominalTypeRepr}
use Rattle.lalrpop_norm_tree_parts.specs.declared.lowered.TypeRepr.TheVariants as variant
use Rattle.lalrpop_norm_tree_parts.specs.KnownTexts.{joined_known, angled_known, returned_known, signature_known}
use Rattle.lalrpop_norm_tree_parts.specs.Paths.{path_view}
use Rattle.lalrpop_norm_tree_parts.specs.Reprs.{repr_view, reprs_view, applied_view, maybe_repr_of}
use Rattle.lalrpop_norm_tree_parts.specs.TypeTexts.{path_text, repr_text, repr_texts, return_text, applied_text}
use Rattle.lalrpop_norm_tree_parts.proofs.KnownTextLemmas.{joined_known-all, angled_known-all, signature_known-all, known_then}
use Rattle.lalrpop_norm_tree_parts.proofs.ReprSeen.{function_seen, applied_is}
use Rattle.lalrpop_norm_tree_parts.proofs.ReprViews.{view_tuple}

texts_of_reprs : (ts : List TypeRepr) → map (λ t. repr_text (repr_view t)) ts ≡ repr_texts (reprs_view ts)
texts_of_reprs [] = refl
texts_of_reprs (t ∷ ts) = ap (λ us. repr_text (repr_view t) ∷ us) (texts_of_reprs ts)

-- what a lowered type prints
abbrev printed : TypeRepr → Option (List ℕ)
printed t = Some (repr_text (repr_view t))

text_of_return : (r : Option (Box TypeRepr Global)) → returned_known (option_map (λ b. printed b.value) r) ≡ Some (return_text (maybe_repr_of (option_map (λ b. repr_view b.value) r)))
text_of_return None = refl
text_of_return (Some b) = refl

pub tuple_printed : (t : TypeRepr) (ts : Vec TypeRepr Global) → t ≡ variant.Tuple ts
    → Some (codes "(") ++? joined_known (codes ", ") (map printed ts.items) ++? Some (codes ")") ≡ Some (repr_text (repr_view t))
tuple_printed t ts e = rw (e, view_tuple ts, joined_known-all (λ u. repr_text (repr_view u)) (codes ", ") ts.items, texts_of_reprs ts.items)

pub applied_printed : (n : NominalTypeRepr) → Some (path_text (path_view n.path)) ++? angled_known (map printed n.types.items) ≡ Some (applied_text (applied_view n))
applied_printed n = rw (applied_is n, angled_known-all (λ u. repr_text (repr_view u)) n.types.items, texts_of_reprs n.types.items)

function_printed : (t : TypeRepr) (fs : Vec TypeParameter Global) (p : Path) (ts : Vec TypeRepr Global) (r : Option (Box TypeRepr Global)) → t ≡ variant.Fn fs p ts r
    → signature_known fs.items (path_view p) (map printed ts.items) ++? returned_known (option_map (λ b. printed b.value) r) ≡ Some (repr_text (repr_view t))
function_printed t fs p ts r e =
    rw (e, function_seen fs p ts r, signature_known-all (λ u. repr_text (repr_view u)) fs.items (path_view p) ts.items, texts_of_reprs ts.items, text_of_return r)

module _ {W : Type 0} (took : W → List ℕ → W → Type 0) where
  -- a signature that was written, and then the result
  pub function_written : (f g h : Formatter W) (x : Result (Unit {0}) Error) (t : TypeRepr) (fs : Vec TypeParameter Global) (p : Path) (ts : Vec TypeRepr Global) (r : Option (Box TypeRepr Global)) → t ≡ variant.Fn fs p ts r
      → IfSome (signature_known fs.items (path_view p) (map printed ts.items)) (λ a. IsPlainFormatter f → true ≡ true → HasWritten took f a g)
      → DisplaysOnOk took g x (returned_known (option_map (λ b. printed b.value) r)) h → WritesOnOk took f x (repr_text (repr_view t)) h
  function_written f g h x t fs p ts r e y z =
      let signature = signature_known fs.items (path_view p) (map printed ts.items) in
      let returned = returned_known (option_map (λ b. printed b.value) r) in
      displays_on_ok_of_eq took f h x (signature ++? returned) (Some (repr_text (repr_view t))) (function_printed t fs p ts r e) (known_then took f g h x signature returned y z)
