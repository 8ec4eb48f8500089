-- Answers on rows that begin with a path: one with patterns, and one with the patterns of fields.
use Rattle.std.proofs.Common.{rules, arith, ◌≡◌, ◌≤◌, ◌<◌, Bool, [], ◌∷◌, length, map, None, refl, ◌∙◌, Vec, Global}
use Rattle.std.specs.Prelude.{codes}
use Rattle.serde_json.specs.Data.{Data, boolean}
use Rattle.json_records.specs.Reading.{list_form, is_list, is_truth}
use Rattle.lalrpop_norm_tree.specs.declared.types.TypeRef.{TypeRef}
use Rattle.lalrpop_norm_tree.specs.Types.{type_view}
use Rattle.lalrpop_norm_tree_parts.specs.declared.path.Path.{Path}
use Rattle.lalrpop_norm_tree_parts.specs.Paths.{path_view}
use Rattle.lalrpop_norm_tree_patterns.specs.declared.pattern.FieldPattern.{FieldPattern}
use Rattle.lalrpop_norm_tree_patterns.specs.declared.pattern.Pattern.{Pattern}
use Rattle.lalrpop_norm_tree_patterns.specs.Patterns.{pattern_view, field_view}
use Rattle.lalrpop_norm_json.specs.Forms.{path_form}
use Rattle.lalrpop_norm_json.specs.PatternForms.{pattern_form, field_form}
use Rattle.lalrpop_norm_json.specs.Shapes as shape
use Rattle.lalrpop_norm_json.specs.Shapes.{is, one, many}
use Rattle.lalrpop_norm_json.proofs.Shaped.{told_none, told_some}
use Rattle.lalrpop_norm_json.proofs.Loops as loop
use Rattle.lalrpop_norm_json.proofs.RowLoops as rows
use Rattle.lalrpop_norm_json.proofs.PatternLemmas as built
use Rattle.lalrpop_norm_json.proofs.tree.patterns.+pattern.Goals as goal

pub path_and_patterns-loop-list-init : goal.path_and_patterns-loop-list-init
path_and_patterns-loop-list-init t c =
    rows.row_begins (is shape.path ∷ is_list (is shape.pattern) ∷ []) c.in-Some.depth c.args.reader.now c.open_array.new.reader
    (told_some _ _ _ _ c.in-Some.is c.in_ok-depth.ensures.ok).2

pub path_and_patterns-returns-in_err-first-clause-err : goal.path_and_patterns-returns-in_err-first-clause-err
path_and_patterns-returns-in_err-first-clause-err t c refused =
    let l = c.loop-list in
    rows.row_stops (is shape.path ∷ is_list (is shape.pattern) ∷ []) _ _ _ _ _ _ _ l.place
    (told_some _ _ _ _ c.in-Some.is c.in_ok-depth.ensures.ok) l.invariant (c.in_err-first.ensures.err refl c.in-Some.depth)

pub path_and_patterns-returns-in_err-path-in-0-clause-err : goal.path_and_patterns-returns-in_err-path-in-0-clause-err
path_and_patterns-returns-in_err-path-in-0-clause-err t c refused =
    let l = c.loop-list in
    rows.row_item_fails (is shape.path ∷ is_list (is shape.pattern) ∷ []) _ _ _ _ _ _ _ l.place
    (told_some _ _ _ _ c.in-Some.is c.in_ok-depth.ensures.ok) l.invariant _ (told_some _ _ _ _ c.in-Some-2.is c.in_ok-first.ensures.ok)
    (c.in_err-path-in-0.ensures.err (search rules))

pub path_and_patterns-returns-in_err-list-in-1-clause-err : goal.path_and_patterns-returns-in_err-list-in-1-clause-err
path_and_patterns-returns-in_err-list-in-1-clause-err t c refused =
    let l = c.loop-list in
    rows.row_item_fails (is shape.path ∷ is_list (is shape.pattern) ∷ []) _ _ _ _ _ _ _ l.place
    (told_some _ _ _ _ c.in-Some.is c.in_ok-depth.ensures.ok) l.invariant _ (told_some _ _ _ _ c.in-Some-2.is c.in_ok-first.ensures.ok)
    (c.in_err-list-in-1.ensures.err (search rules))

pub path_and_patterns-returns-in_err-pass-in_default-place-clause-err : goal.path_and_patterns-returns-in_err-pass-in_default-place-clause-err
path_and_patterns-returns-in_err-pass-in_default-place-clause-err t c refused =
    let l = c.loop-list in
    rows.row_item_fails (is shape.path ∷ is_list (is shape.pattern) ∷ []) _ _ _ _ _ _ _ l.place
    (told_some _ _ _ _ c.in-Some.is c.in_ok-depth.ensures.ok) l.invariant _ (told_some _ _ _ _ c.in-Some-2.is c.in_ok-first.ensures.ok)
    (c.in_err-pass-in_default-place.ensures.err (search rules))

pub path_and_patterns-loop-list-preserved-in-0 : goal.path_and_patterns-loop-list-preserved-in-0
path_and_patterns-loop-list-preserved-in-0 t c =
    let l = c.loop-list in
    let done = c.in_ok-path-in-0.ensures in
    let less : length c.read.new.reader < length l.reader = omega (arith, done.shorter, c.in_ok-first.ensures.shorter) in
    rows.row_item (is shape.path ∷ is_list (is shape.pattern) ∷ []) c.in-Some.depth c.args.reader.now l.reader _ l.place l.invariant _ _ 0 _
    c.read.new.reader c.in_ok-path-in-0.path _ c.in-0.is (told_some _ _ _ _ c.in-Some-2.is c.in_ok-first.ensures.ok) done.ok less
    (λ made. (made, refl))

pub path_and_patterns-loop-list-preserved-in-1 : goal.path_and_patterns-loop-list-preserved-in-1
path_and_patterns-loop-list-preserved-in-1 t c =
    let l = c.loop-list in
    let done = c.in_ok-list-in-1.ensures in
    let less : length c.patterns.new.reader < length l.reader = omega (arith, done.shorter, c.in_ok-first.ensures.shorter) in
    rows.row_item (is shape.path ∷ is_list (is shape.pattern) ∷ []) c.in-Some.depth c.args.reader.now l.reader _ l.place l.invariant _ _ 1 _
    c.patterns.new.reader c.in_ok-list-in-1.list _ c.in-1.is (told_some _ _ _ _ c.in-Some-2.is c.in_ok-first.ensures.ok) done.ok less
    (λ made. (refl, (made, refl)))

pub path_and_patterns-loop-list-preserved : goal.path_and_patterns-loop-list-preserved
path_and_patterns-loop-list-preserved t c =
    let l = c.loop-list in
    let done = c.in_ok-pass-in_default-place.ensures in
    let less : length c.pass.new.reader < length l.reader = omega (arith, done.shorter, c.in_ok-first.ensures.shorter) in
    let past : 2 ≤ l.place = grind arith in
    rows.row_beyond (is shape.path ∷ is_list (is shape.pattern) ∷ []) c.in-Some.depth c.args.reader.now l.reader _ l.place l.invariant _
    c.pass.new.reader past (told_some _ _ _ _ c.in-Some-2.is c.in_ok-first.ensures.ok) done.ok less

pub path_and_patterns-returns-then-place-ne2-clause-ok : goal.path_and_patterns-returns-then-place-ne2-clause-ok
path_and_patterns-returns-then-place-ne2-clause-ok t c =
    let l = c.loop-list in
    let other : l.place ≡ 2 → ⊥ = λ e. absurd (grind arith) in
    rows.row_elsewhere (is shape.path ∷ is_list (is shape.pattern) ∷ []) _ _ _ _ _ _ _ l.place
    (told_some _ _ _ _ c.in-Some.is c.in_ok-depth.ensures.ok) l.invariant _ _ other
    (told_none _ _ _ c.in_default-2.is c.in_ok-first.ensures.ok)

pub path_and_patterns-returns-clause-ok : goal.path_and_patterns-returns-clause-ok
path_and_patterns-returns-clause-ok t c =
    let l = c.loop-list in
    let last : l.place ≡ 2 = grind arith in
    rows.row_of_two (is shape.path ∷ is_list (is shape.pattern) ∷ []) _ _ _ _ _ _ _ l.place
    (told_some _ _ _ _ c.in-Some.is c.in_ok-depth.ensures.ok) (told_none _ _ _ c.in_default-2.is c.in_ok-first.ensures.ok) last
    (λ p. path_form (path_view p)) (λ (ps : Vec (Pattern TypeRef) Global). list_form
    (map (λ p. pattern_form (pattern_view type_view p)) ps.items)) l.path l.list c.both.result c.both.ensures l.invariant

-- the form of what the pattern of a struct holds
abbrev row_form : (Path × Vec (FieldPattern TypeRef) Global × Bool) → Data
row_form p = list_form (path_form (path_view p.0) ∷ list_form (map (λ f. field_form (field_view type_view f)) p.1.items) ∷ boolean p.2 ∷ [])

pub structured-loop-fields-init : goal.structured-loop-fields-init
structured-loop-fields-init t c =
    rows.row_begins (is shape.path ∷ is_list (is shape.field_pattern) ∷ is_truth ∷ []) c.in-Some.depth c.args.reader.now
    c.open_array.new.reader (told_some _ _ _ _ c.in-Some.is c.in_ok-depth.ensures.ok).2

pub structured-returns-in_err-first-clause-err : goal.structured-returns-in_err-first-clause-err
structured-returns-in_err-first-clause-err t c refused =
    let l = c.loop-fields in
    rows.row_stops (is shape.path ∷ is_list (is shape.field_pattern) ∷ is_truth ∷ []) _ _ _ _ _ _ _ l.place
    (told_some _ _ _ _ c.in-Some.is c.in_ok-depth.ensures.ok) l.invariant (c.in_err-first.ensures.err refl c.in-Some.depth)

pub structured-returns-in_err-path-in-0-clause-err : goal.structured-returns-in_err-path-in-0-clause-err
structured-returns-in_err-path-in-0-clause-err t c refused =
    let l = c.loop-fields in
    rows.row_item_fails (is shape.path ∷ is_list (is shape.field_pattern) ∷ is_truth ∷ []) _ _ _ _ _ _ _ l.place
    (told_some _ _ _ _ c.in-Some.is c.in_ok-depth.ensures.ok) l.invariant _ (told_some _ _ _ _ c.in-Some-2.is c.in_ok-first.ensures.ok)
    (c.in_err-path-in-0.ensures.err (search rules))

pub structured-returns-in_err-fields-in-1-clause-err : goal.structured-returns-in_err-fields-in-1-clause-err
structured-returns-in_err-fields-in-1-clause-err t c refused =
    let l = c.loop-fields in
    rows.row_item_fails (is shape.path ∷ is_list (is shape.field_pattern) ∷ is_truth ∷ []) _ _ _ _ _ _ _ l.place
    (told_some _ _ _ _ c.in-Some.is c.in_ok-depth.ensures.ok) l.invariant _ (told_some _ _ _ _ c.in-Some-2.is c.in_ok-first.ensures.ok)
    (c.in_err-fields-in-1.ensures.err (search rules))

pub structured-returns-in_err-rest-in-2-clause-err : goal.structured-returns-in_err-rest-in-2-clause-err
structured-returns-in_err-rest-in-2-clause-err t c refused =
    let l = c.loop-fields in
    rows.row_item_fails (is shape.path ∷ is_list (is shape.field_pattern) ∷ is_truth ∷ []) _ _ _ _ _ _ _ l.place
    (told_some _ _ _ _ c.in-Some.is c.in_ok-depth.ensures.ok) l.invariant _ (told_some _ _ _ _ c.in-Some-2.is c.in_ok-first.ensures.ok)
    (c.in_err-rest-in-2.ensures.err (search rules))

pub structured-returns-in_err-pass-in_default-place-clause-err : goal.structured-returns-in_err-pass-in_default-place-clause-err
structured-returns-in_err-pass-in_default-place-clause-err t c refused =
    let l = c.loop-fields in
    rows.row_item_fails (is shape.path ∷ is_list (is shape.field_pattern) ∷ is_truth ∷ []) _ _ _ _ _ _ _ l.place
    (told_some _ _ _ _ c.in-Some.is c.in_ok-depth.ensures.ok) l.invariant _ (told_some _ _ _ _ c.in-Some-2.is c.in_ok-first.ensures.ok)
    (c.in_err-pass-in_default-place.ensures.err (search rules))

pub structured-loop-fields-preserved-in-0 : goal.structured-loop-fields-preserved-in-0
structured-loop-fields-preserved-in-0 t c =
    let l = c.loop-fields in
    let done = c.in_ok-path-in-0.ensures in
    let less : length c.read.new.reader < length l.reader = omega (arith, done.shorter, c.in_ok-first.ensures.shorter) in
    rows.row_item (is shape.path ∷ is_list (is shape.field_pattern) ∷ is_truth ∷ []) c.in-Some.depth c.args.reader.now l.reader _ l.place
    l.invariant _ _ 0 _ c.read.new.reader c.in_ok-path-in-0.path _ c.in-0.is (told_some _ _ _ _ c.in-Some-2.is c.in_ok-first.ensures.ok)
    done.ok less (λ made. (made, refl))

pub structured-loop-fields-preserved-in-1 : goal.structured-loop-fields-preserved-in-1
structured-loop-fields-preserved-in-1 t c =
    let l = c.loop-fields in
    let done = c.in_ok-fields-in-1.ensures in
    let less : length c.field_patterns.new.reader < length l.reader = omega (arith, done.shorter, c.in_ok-first.ensures.shorter) in
    rows.row_item (is shape.path ∷ is_list (is shape.field_pattern) ∷ is_truth ∷ []) c.in-Some.depth c.args.reader.now l.reader _ l.place
    l.invariant _ _ 1 _ c.field_patterns.new.reader c.in_ok-fields-in-1.fields _ c.in-1.is
    (told_some _ _ _ _ c.in-Some-2.is c.in_ok-first.ensures.ok) done.ok less (λ made. (refl, (made, refl)))

pub structured-loop-fields-preserved-in-2 : goal.structured-loop-fields-preserved-in-2
structured-loop-fields-preserved-in-2 t c =
    let l = c.loop-fields in
    let done = c.in_ok-rest-in-2.ensures in
    let less : length c.read-in-2.new.reader < length l.reader = omega (arith, done.shorter, c.in_ok-first.ensures.shorter) in
    rows.row_item (is shape.path ∷ is_list (is shape.field_pattern) ∷ is_truth ∷ []) c.in-Some.depth c.args.reader.now l.reader _ l.place
    l.invariant _ _ 2 _ c.read-in-2.new.reader c.in_ok-rest-in-2.rest _ c.in-2.is
    (told_some _ _ _ _ c.in-Some-2.is c.in_ok-first.ensures.ok) done.ok less (λ made. (refl, (refl, (made, refl))))

pub structured-loop-fields-preserved : goal.structured-loop-fields-preserved
structured-loop-fields-preserved t c =
    let l = c.loop-fields in
    let done = c.in_ok-pass-in_default-place.ensures in
    let less : length c.pass.new.reader < length l.reader = omega (arith, done.shorter, c.in_ok-first.ensures.shorter) in
    let past : 3 ≤ l.place = grind arith in
    rows.row_beyond (is shape.path ∷ is_list (is shape.field_pattern) ∷ is_truth ∷ []) c.in-Some.depth c.args.reader.now l.reader _ l.place
    l.invariant _ c.pass.new.reader past (told_some _ _ _ _ c.in-Some-2.is c.in_ok-first.ensures.ok) done.ok less

pub structured-returns-then-place-ne3-clause-ok : goal.structured-returns-then-place-ne3-clause-ok
structured-returns-then-place-ne3-clause-ok t c =
    let l = c.loop-fields in
    let other : l.place ≡ 3 → ⊥ = λ e. absurd (grind arith) in
    loop.no_variant_of _ _ row_form _ _ _ _ _ (codes "Struct") None refl refl
    (rows.row_elsewhere (is shape.path ∷ is_list (is shape.field_pattern) ∷ is_truth ∷ []) _ _ _ _ _ _ _ l.place
    (told_some _ _ _ _ c.in-Some.is c.in_ok-depth.ensures.ok) l.invariant row_form _ other
    (told_none _ _ _ c.in_default-2.is c.in_ok-first.ensures.ok))
    (λ d e. rows.row_is (one shape.path ∷ many shape.field_pattern ∷ one shape.truth ∷ []) d ∙ e)

pub structured-returns-in-Some-all_three-clause-ok : goal.structured-returns-in-Some-all_three-clause-ok
structured-returns-in-Some-all_three-clause-ok t c =
    let l = c.loop-fields in
    let all = c.in-Some-all_three in
    let last : l.place ≡ 3 = grind arith in
    loop.variant_of _ _ row_form _ _ _ _ _ (codes "Struct") _ (all.path, all.fields, all.rest) _ refl all.is
    (rows.row_of_three (is shape.path ∷ is_list (is shape.field_pattern) ∷ is_truth ∷ []) _ _ _ _ _ _ _ l.place
    (told_some _ _ _ _ c.in-Some.is c.in_ok-depth.ensures.ok) (told_none _ _ _ c.in_default-2.is c.in_ok-first.ensures.ok) last
    (λ p. path_form (path_view p)) (λ (fs : Vec (FieldPattern TypeRef) Global). list_form
    (map (λ f. field_form (field_view type_view f)) fs.items)) boolean l.path l.fields l.rest c.all_three.result c.all_three.ensures
    l.invariant)
    (built.struct_form all.path all.fields all.rest)

pub structured-returns-in-None-clause-ok : goal.structured-returns-in-None-clause-ok
structured-returns-in-None-clause-ok t c =
    let l = c.loop-fields in
    let last : l.place ≡ 3 = grind arith in
    loop.no_variant_of _ _ row_form _ _ _ _ _ (codes "Struct") _ refl c.in-None.is
    (rows.row_of_three (is shape.path ∷ is_list (is shape.field_pattern) ∷ is_truth ∷ []) _ _ _ _ _ _ _ l.place
    (told_some _ _ _ _ c.in-Some.is c.in_ok-depth.ensures.ok) (told_none _ _ _ c.in_default-2.is c.in_ok-first.ensures.ok) last
    (λ p. path_form (path_view p)) (λ (fs : Vec (FieldPattern TypeRef) Global). list_form
    (map (λ f. field_form (field_view type_view f)) fs.items)) boolean l.path l.fields l.rest c.all_three.result c.all_three.ensures
    l.invariant)
    (λ d e. rows.row_is (one shape.path ∷ many shape.field_pattern ∷ one shape.truth ∷ []) d ∙ e)
