-- The texts of written types, and one level of a type.
use Rattle.std.proofs.Common.{Result, ◌≡◌, ℕ, List, [], ◌∷◌, ◌++◌, Bool, true, Option, Some, None, IfSome, map, refl, sym, ap, codes, Box, Vec, Global, option_map}
use Rattle.std.proofs.Output.{displays_on_ok_of_eq}
use Rattle.std.specs.Fmt.{◌++?◌, IsPlainFormatter, HasWritten, DisplaysOnOk, WritesOnOk}
use Rattle.std.specs.declared.fmt.Formatter.{Formatter}
use Rattle.std.specs.declared.fmt.Error.{Error}
use Rattle.lalrpop_norm_tree.specs.declared.types.TypeRef.{TypeRef}
use Rattle.lalrpop_norm_tree.specs.declared.types.TypeRef.TheVariants.{Tuple, Slice, Ref, TraitObject, Fn}
use Rattle.lalrpop_norm_tree.specs.Types.{slice, reference, trait_object, maybe_of, type_view, types_view}
use Rattle.lalrpop_norm_tree_names.specs.declared.names.Lifetime.{Lifetime}
use Rattle.lalrpop_norm_tree_names.specs.declared.names.TypeParameter.{TypeParameter}
use Rattle.lalrpop_norm_tree_parts.specs.declared.path.Path.{Path}
use Rattle.lalrpop_norm_tree_parts.specs.KnownTexts.{joined_known, angled_known, returned_known, signature_known}
use Rattle.lalrpop_norm_tree_parts.specs.Paths.{path_view}
use Rattle.lalrpop_norm_tree_parts.specs.TypeTexts.{angled, path_text}
use Rattle.lalrpop_norm_tree_parts.proofs.KnownTextLemmas.{joined_known-all, angled_known-all, signature_known-all, known_then}
use Rattle.lalrpop_norm_tree.specs.WrittenTypeTexts.{type_text, type_texts, returned_text}
use Rattle.lalrpop_norm_tree.proofs.TypeViews.{tuple_is, slice_is, reference_is, object_is, function_is}

texts_of_types : (ts : List TypeRef) → map (λ t. type_text (type_view t)) ts ≡ type_texts (types_view ts)
texts_of_types [] = refl
texts_of_types (t ∷ ts) = ap (λ us. type_text (type_view t) ∷ us) (texts_of_types ts)

-- one level of a type
pub view_slice : (t x : TypeRef) (b : Box TypeRef Global) → t ≡ Slice b → x ≡ b.value → slice (type_view x) ≡ type_view t
view_slice t x b e d = rw (d) (sym (slice_is t b e))

pub view_reference : (t x : TypeRef) (l : Option Lifetime) (m : Bool) (b : Box TypeRef Global) → t ≡ Ref l m b → x ≡ b.value → reference l m (type_view x) ≡ type_view t
view_reference t x l m b e d = rw (d) (sym (reference_is t l m b e))

pub view_object : (t : TypeRef) (p : Path) (xs : List TypeRef) (ts : Vec TypeRef Global) → t ≡ TraitObject p ts → xs ≡ ts.items → trait_object (path_view p) (types_view xs) ≡ type_view t
view_object t p xs ts e d = rw (d) (sym (object_is t p ts e))

-- what a written type prints
abbrev printed : TypeRef → Option (List ℕ)
printed t = Some (type_text (type_view t))

text_of_result : (r : Option (Box TypeRef Global)) → returned_known (option_map (λ b. printed b.value) r) ≡ Some (returned_text (maybe_of (option_map (λ b. type_view b.value) r)))
text_of_result None = refl
text_of_result (Some b) = refl

pub tuple_printed : (t : TypeRef) (ts : Vec TypeRef Global) → t ≡ Tuple ts
    → Some (codes "(") ++? joined_known (codes ", ") (map printed ts.items) ++? Some (codes ")") ≡ Some (type_text (type_view t))
tuple_printed t ts e =
    rw (joined_known-all (λ u. type_text (type_view u)) (codes ", ") ts.items, texts_of_types ts.items) (ap (λ d. Some (type_text d)) (sym (tuple_is t ts e)))

applied_printed : (p : Path) (ts : Vec TypeRef Global) → Some (path_text (path_view p)) ++? angled_known (map printed ts.items) ≡ Some (path_text (path_view p) ++ angled (type_texts (types_view ts.items)))
applied_printed p ts = rw (angled_known-all (λ u. type_text (type_view u)) ts.items, texts_of_types ts.items)

function_printed : (t : TypeRef) (fs : Vec TypeParameter Global) (p : Path) (ts : Vec TypeRef Global) (r : Option (Box TypeRef Global)) → t ≡ Fn fs p ts r
    → signature_known fs.items (path_view p) (map printed ts.items) ++? returned_known (option_map (λ b. printed b.value) r) ≡ Some (type_text (type_view t))
function_printed t fs p ts r e =
    rw (signature_known-all (λ u. type_text (type_view u)) fs.items (path_view p) ts.items, texts_of_types ts.items, text_of_result r)
    (ap (λ d. Some (type_text d)) (sym (function_is t fs p ts r e)))

module _ {W : Type 0} (took : W → List ℕ → W → Type 0) where
  -- a signature that was written, and then the result
  pub function_written : (f g h : Formatter W) (x : Result (Unit {0}) Error) (t : TypeRef) (fs : Vec TypeParameter Global) (p : Path) (ts : Vec TypeRef Global) (r : Option (Box TypeRef Global)) → t ≡ Fn fs p ts r
      → IfSome (signature_known fs.items (path_view p) (map printed ts.items)) (λ a. IsPlainFormatter f → true ≡ true → HasWritten took f a g)
      → DisplaysOnOk took g x (returned_known (option_map (λ b. printed b.value) r)) h → WritesOnOk took f x (type_text (type_view t)) h
  function_written f g h x t fs p ts r e y z =
      let signature = signature_known fs.items (path_view p) (map printed ts.items) in
      let returned = returned_known (option_map (λ b. printed b.value) r) in
      displays_on_ok_of_eq took f h x (signature ++? returned) (Some (type_text (type_view t))) (function_printed t fs p ts r e) (known_then took f g h x signature returned y z)

  -- a path that was written, and then the types behind it
  pub applied_written : (f g h : Formatter W) (x : Result (Unit {0}) Error) (p : Path) (ts : Vec TypeRef Global) → (IsPlainFormatter f → true ≡ true → HasWritten took f (path_text (path_view p)) g)
      → DisplaysOnOk took g x (angled_known (map printed ts.items)) h → WritesOnOk took f x (path_text (path_view p) ++ angled (type_texts (types_view ts.items))) h
  applied_written f g h x p ts y z =
      let path = path_text (path_view p) in
      let types = angled_known (map printed ts.items) in
      displays_on_ok_of_eq took f h x (Some path ++? types) (Some (path ++ angled (type_texts (types_view ts.items)))) (applied_printed p ts) (known_then took f g h x (Some path) types y z)
