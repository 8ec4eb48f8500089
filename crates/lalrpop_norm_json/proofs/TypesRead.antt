-- What is read of written types and bounds has the form of the value that was built.
use Rattle.std.proofs.Common.{◌≡◌, ℕ, ◌≤◌, ◌<◌, length, arith, List, [], ◌∷◌, codes, map, Bool, false, ◌&&◌, Option, Some, None, option_map, Box, Vec, Global, refl, sym, ap, ◌∙◌}
use Rattle.serde_json.specs.Data.{Data, null, boolean, number, string, array, object, Items, no_items, item}
use Rattle.json_records.specs.Reading.{under, list_form, maybe_form}
use Rattle.json_records.specs.Rows.{pass_row, is_row}
use Rattle.lalrpop_norm_tree_names.specs.declared.names.Lifetime.{Lifetime}
use Rattle.lalrpop_norm_tree_names.specs.declared.names.TypeParameter.{TypeParameter}
use Rattle.lalrpop_norm_tree_parts.specs.declared.path.Path.{Path}
use Rattle.lalrpop_norm_tree_parts.specs.Paths.{path_view}
use Rattle.lalrpop_norm_tree.specs.declared.symbol.SymbolKind.{SymbolKind}
use Rattle.lalrpop_norm_tree.specs.declared.types.TypeRef.{TypeRef}
use Rattle.lalrpop_norm_tree.specs.declared.types.TypeRef.TheVariants as written
use Rattle.lalrpop_norm_tree.specs.declared.types.TypeRef.TheOpen.{TypeRef-F}
use Rattle.lalrpop_norm_tree.specs.declared.types.TypeRef.TheFolds.{fold-roll-TypeRef}
use Rattle.lalrpop_norm_tree.specs.declared.types.TypeRef.TheViews.{rolls-Tuple, rolls-Nominal, rolls-Ref, rolls-TraitObject, rolls-Lifetime, rolls-Id, rolls-OfSymbol, rolls-Fn}
use Rattle.lalrpop_norm_tree.specs.Symbols.{kind_view}
use Rattle.lalrpop_norm_tree.specs.Types.{TypeData, tuple, nominal, reference, trait_object, of_lifetime, id, of_symbol, function, maybe_of, type_step, type_view, types_view}
use Rattle.lalrpop_norm_json.proofs.RowLoops.{row_is}
use Rattle.lalrpop_norm_json.specs.Json.{fields, maybe_form as maybe_json, list_form as list_json}
use Rattle.lalrpop_norm_json.specs.Forms.{lifetime_form, type_parameter_form, path_form}
use Rattle.lalrpop_norm_json.specs.SymbolForms.{kind_form}
use Rattle.lalrpop_norm_json.specs.TypeForms.{type_form, types_form, maybe_type_form}
use Rattle.lalrpop_norm_json.specs.Shapes.{Slot, fits, fits_items, arrayed, row, slot}
use Rattle.lalrpop_norm_json.proofs.Shaped.{test, slot_is}
use Rattle.lalrpop_norm_json.proofs.FormLemmas.{types_items}
use Rattle.lalrpop_norm_json.proofs.MemberLemma.{member_is}

-- what is left gets less with each token
pub less_left : {A : Type 0} (rest behind now : List A) → length rest ≤ length behind → length behind < length now → length rest < length now
less_left rest behind now e f = omega (arith, e, f)

-- ---- rows

-- a row that the reader rejects has not the shape
pub no_row : (ps : List Slot) (d : Data) → is_row (map test ps) d ≡ false → fits (arrayed (row ps)) d ≡ false
no_row ps d e = row_is ps d ∙ e

-- an option that is read, seen first
pub maybe_read : {X Y : Type 0} (f : Y → Data) (g : X → Y) (o : Option X) → maybe_form (λ x. f (g x)) o ≡ maybe_json f (option_map g o)
maybe_read f g None = refl
maybe_read f g (Some x) = refl

-- ---- types, variant by variant

types_read : (ts : List TypeRef) → list_form (map (λ t. type_form (type_view t)) ts) ≡ array (types_form (types_view ts))
types_read ts = ap array (types_items ts)

pub tuple_read : (ts : Vec TypeRef Global) → under (codes "Tuple") (list_form (map (λ t. type_form (type_view t)) ts.items)) ≡ type_form (type_view (written.Tuple ts))
tuple_read ts =
    let seen : type_view (written.Tuple ts) ≡ tuple (types_view ts.items) = ap type_view (sym (rolls-Tuple ts)) ∙ fold-roll-TypeRef TypeData type_step (TypeRef-F.Tuple ts) in
    ap (under (codes "Tuple")) (types_read ts.items) ∙ ap type_form (sym seen)

-- a path with types
abbrev pub applied_form : Path → List TypeRef → Data
applied_form p ts = fields ((codes "path", path_form (path_view p)) ∷ (codes "types", list_form (map (λ t. type_form (type_view t)) ts)) ∷ [])

pub nominal_read : (p : Path) (ts : Vec TypeRef Global) → under (codes "Nominal") (applied_form p ts.items) ≡ type_form (type_view (written.Nominal p ts))
nominal_read p ts =
    let seen : type_view (written.Nominal p ts) ≡ nominal (path_view p) (types_view ts.items) = ap type_view (sym (rolls-Nominal p ts)) ∙ fold-roll-TypeRef TypeData type_step (TypeRef-F.Nominal p ts) in
    ap (λ d. under (codes "Nominal") (object d)) (member_is _ refl (member_is _ (types_read ts.items) refl)) ∙ ap type_form (sym seen)

pub trait_object_read : (p : Path) (ts : Vec TypeRef Global) → under (codes "TraitObject") (applied_form p ts.items) ≡ type_form (type_view (written.TraitObject p ts))
trait_object_read p ts =
    let seen : type_view (written.TraitObject p ts) ≡ trait_object (path_view p) (types_view ts.items) = ap type_view (sym (rolls-TraitObject p ts)) ∙ fold-roll-TypeRef TypeData type_step (TypeRef-F.TraitObject p ts) in
    ap (λ d. under (codes "TraitObject") (object d)) (member_is _ refl (member_is _ (types_read ts.items) refl)) ∙ ap type_form (sym seen)

lifetime_maybe : (l : Option Lifetime) → maybe_form lifetime_form l ≡ maybe_json lifetime_form l
lifetime_maybe None = refl
lifetime_maybe (Some x) = refl

-- the box holds what was read
pub reference_read : (l : Option Lifetime) (m : Bool) (b : Box TypeRef Global) (t : TypeRef) → b.value ≡ t
    → under (codes "Ref") (fields ((codes "lifetime", maybe_form lifetime_form l) ∷ (codes "mutable", boolean m) ∷ (codes "referent", type_form (type_view t)) ∷ [])) ≡ type_form (type_view (written.Ref l m b))
reference_read l m b t e =
    let seen : type_view (written.Ref l m b) ≡ reference l m (type_view b.value) = ap type_view (sym (rolls-Ref l m b)) ∙ fold-roll-TypeRef TypeData type_step (TypeRef-F.Ref l m b) in
    ap (λ d. under (codes "Ref") (object d)) (member_is _ (lifetime_maybe l) (member_is _ refl (member_is _ (ap (λ u. type_form (type_view u)) (sym e)) refl))) ∙ ap type_form (sym seen)

pub lifetime_read : (l : Lifetime) → under (codes "Lifetime") (lifetime_form l) ≡ type_form (type_view (written.Lifetime l))
lifetime_read l =
    let seen : type_view (written.Lifetime l) ≡ of_lifetime l = ap type_view (sym (rolls-Lifetime l)) ∙ fold-roll-TypeRef TypeData type_step (TypeRef-F.Lifetime l) in
    ap type_form (sym seen)

pub id_read : (a : _) → under (codes "Id") (string a) ≡ type_form (type_view (written.Id a))
id_read a =
    let seen : type_view (written.Id a) ≡ id a = ap type_view (sym (rolls-Id a)) ∙ fold-roll-TypeRef TypeData type_step (TypeRef-F.Id a) in
    ap type_form (sym seen)

pub of_symbol_read : (k : SymbolKind) → under (codes "OfSymbol") (kind_form (kind_view k)) ≡ type_form (type_view (written.OfSymbol k))
of_symbol_read k =
    let seen : type_view (written.OfSymbol k) ≡ of_symbol (kind_view k) = ap type_view (sym (rolls-OfSymbol k)) ∙ fold-roll-TypeRef TypeData type_step (TypeRef-F.OfSymbol k) in
    ap type_form (sym seen)

result_read : (r : Option (Box TypeRef Global)) → maybe_form (λ b. type_form (type_view b.value)) r ≡ maybe_type_form (maybe_of (option_map (λ b. type_view b.value) r))
result_read None = refl
result_read (Some b) = refl

function_seen : (fs : Vec TypeParameter Global) (p : Path) (ts : Vec TypeRef Global) (r : Option (Box TypeRef Global))
    → type_view (written.Fn fs p ts r) ≡ function fs.items (path_view p) (types_view ts.items) (maybe_of (option_map (λ b. type_view b.value) r))
function_seen fs p ts None = ap type_view (sym (rolls-Fn fs p ts None)) ∙ fold-roll-TypeRef TypeData type_step (TypeRef-F.Fn fs p ts None)
function_seen fs p ts (Some b) = ap type_view (sym (rolls-Fn fs p ts (Some b))) ∙ fold-roll-TypeRef TypeData type_step (TypeRef-F.Fn fs p ts (Some b))

pub function_read : (fs : Vec TypeParameter Global) (p : Path) (ts : Vec TypeRef Global) (r : Option (Box TypeRef Global))
    → under (codes "Fn") (fields ((codes "forall", list_form (map type_parameter_form fs.items)) ∷ (codes "parameters", list_form (map (λ t. type_form (type_view t)) ts.items))
    ∷ (codes "path", path_form (path_view p)) ∷ (codes "ret", maybe_form (λ b. type_form (type_view b.value)) r) ∷ [])) ≡ type_form (type_view (written.Fn fs p ts r))
function_read fs p ts r =
    ap (λ d. under (codes "Fn") (object d)) (member_is _ refl (member_is _ (types_read ts.items) (member_is _ refl (member_is _ (result_read r) refl)))) ∙ ap type_form (sym (function_seen fs p ts r))
