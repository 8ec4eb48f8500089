-- Items that are read, of which each has a form.
use Rattle.std.proofs.Common.{◌≡◌, ℕ, suc, ◌<◌, List, [], ◌∷◌, map, length, drop, drop-cons, get_or, Bool, true, false, ◌&&◌, Option, Some, None, is_some, option_map, option_and_then, refl, sym, ap, ◌∙◌}
use Rattle.std.specs.Prelude.{codes}
use Rattle.serde_json.specs.Data.{Data, null, object, Members, member}
use Rattle.serde_json.specs.View.{items_of}
use Rattle.lalrpop_norm_tree.specs.declared.items.GrammarItem.{GrammarItem}
use Rattle.lalrpop_norm_tree.specs.declared.items.GrammarItem.TheVariants.{InternToken}
use Rattle.lalrpop_norm_tree.specs.declared.items.InternToken.{InternToken as Intern}
use Rattle.lalrpop_norm_tree.specs.Items.{ItemData, item_view}
use Rattle.json_records.specs.Reading.{pass_all, list_form}
use Rattle.lalrpop_norm_json.specs.ItemForms.{item_form, item_forms, form_or_null}
use Rattle.lalrpop_norm_json.specs.Shapes as shape
use Rattle.lalrpop_norm_json.specs.Shapes.{is, fits, fits_members, struct_of, slot, one, many}
use Rattle.lalrpop_norm_json.proofs.Shaped.{slot_is}

-- an item without a form among them
pub intern_at : (xs : List GrammarItem) (i : ℕ) (w : GrammarItem) (t : Intern) → i < length xs → get_or xs i w ≡ InternToken t → is_some (item_forms (map item_view (drop i xs))) ≡ false
intern_at xs i w t less is = ap (λ ys. is_some (item_forms (map item_view ys))) (drop-cons xs i w less) ∙ ap (λ x. is_some (item_forms (map item_view (x ∷ drop (suc i) xs)))) is

forms_at : (o : Option (List Data)) (p : Option Data) → is_some (option_and_then (λ d. option_map (λ ds. d ∷ ds) o) p) ≡ (is_some p && is_some o)
forms_at None None = refl
forms_at None (Some d) = refl
forms_at (Some ds) None = refl
forms_at (Some ds) (Some d) = refl

-- where all have forms, these are what was read
are_at : (p : Option Data) (i : ItemData) (o : Option (List Data)) (ds : List Data) (es : List Data) → item_form i ≡ p → option_and_then (λ d. option_map (λ ds. d ∷ ds) o) p ≡ Some ds → ((fs : List Data) → o ≡ Some fs → es ≡ fs) → form_or_null i ∷ es ≡ ds
are_at None i o ds es form e more = absurd (cc)
are_at (Some d) i None ds es form e more = absurd (cc)
are_at (Some d) i (Some fs) ds es form e more =
    let rest : es ≡ fs = more fs refl in
    let whole : d ∷ fs ≡ ds = cc in
    let first : form_or_null i ≡ d = rw form refl in
    rw (first, rest) whole

pub forms_are : (xs : List GrammarItem) (ds : List Data) → item_forms (map item_view xs) ≡ Some ds → map (λ x. form_or_null (item_view x)) xs ≡ ds
forms_are [] [] e = refl
forms_are [] (d ∷ ds) e = absurd (cc)
forms_are (x ∷ xs) ds e = are_at (item_form (item_view x)) (item_view x) (item_forms (map item_view xs)) ds (map (λ y. form_or_null (item_view y)) xs) refl e (forms_are xs)

-- else what was read has not the shape of items
and_no : (a b : Bool) → b ≡ false → (a && b) ≡ false
and_no true b e = e
and_no false b e = refl

no_at : (p : Option Data) (i : ItemData) (b c : Bool) → item_form i ≡ p → (is_some p && b) ≡ false → (b ≡ false → c ≡ false) → (is shape.grammar_item (form_or_null i) && c) ≡ false
no_at None i b c form e more = let first : form_or_null i ≡ null = rw form refl in rw first refl
no_at (Some d) i b c form e more = and_no (is shape.grammar_item (form_or_null i)) c (more e)

pub no_forms : (xs : List GrammarItem) → is_some (item_forms (map item_view xs)) ≡ false → pass_all (is shape.grammar_item) (items_of (map (λ x. form_or_null (item_view x)) xs)) ≡ false
no_forms [] e = absurd (cc)
no_forms (x ∷ xs) e =
    no_at (item_form (item_view x)) (item_view x) (is_some (item_forms (map item_view xs))) _ refl (sym (forms_at (item_forms (map item_view xs)) (item_form (item_view x))) ∙ e) (no_forms xs)

pub forms_some : (o : Option (List Data)) → is_some o ≡ true → (ds : List Data) × (o ≡ Some ds)
forms_some None e = absurd (cc)
forms_some (Some ds) e = (ds, refl)

-- a conjunction whose second part fails
pub second_fails : (a b c : Bool) → b ≡ false → (a && (b && c)) ≡ false
second_fails true b c e = rw e refl
second_fails false b c e = refl

-- a grammar of which an item has no form
pub no_grammar : (d a : Data) (xs : List GrammarItem) (ms : Members) → d ≡ object (member (codes "attributes") a (member (codes "items") (list_form (map (λ x. form_or_null (item_view x)) xs)) ms))
    → is_some (item_forms (map item_view xs)) ≡ false → is shape.grammar d ≡ false
no_grammar d a xs ms e lacks =
    let l = list_form (map (λ x. form_or_null (item_view x)) xs) in
    let fails : fits (slot (many shape.grammar_item)) l ≡ false = slot_is (many shape.grammar_item) l ∙ no_forms xs lacks in
    rw e (second_fails (fits (slot (many shape.attribute)) a) (fits (slot (many shape.grammar_item)) l)
    (fits_members (struct_of ((codes "module_attributes", many shape.text) ∷ (codes "parameters", many shape.parameter) ∷ (codes "prefix", one shape.text) ∷ (codes "span", one shape.span)
    ∷ (codes "type_parameters", many shape.type_parameter) ∷ (codes "where_clauses", many shape.where_clause) ∷ [])) ms) fails)
