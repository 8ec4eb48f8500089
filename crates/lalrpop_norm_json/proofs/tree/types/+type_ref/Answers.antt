-- The answers of the goals of the functions that read types, each from a file of the folder Answers.
mod Variants
mod Lists
mod References
mod Functions
use Rattle.lalrpop_norm_json.proofs.tree.types.+type_ref.Goals as goal
use Rattle.lalrpop_norm_json.proofs.tree.types.+type_ref.Answers.Variants as variants
use Rattle.lalrpop_norm_json.proofs.tree.types.+type_ref.Answers.Lists as lists
use Rattle.lalrpop_norm_json.proofs.tree.types.+type_ref.Answers.References as references
use Rattle.lalrpop_norm_json.proofs.tree.types.+type_ref.Answers.Functions as functions

pub type_ref-returns-in_err-depth : goal.type_ref-returns-in_err-depth
type_ref-returns-in_err-depth = variants.type_ref-returns-in_err-depth

pub type_ref-loop-read-init : goal.type_ref-loop-read-init
type_ref-loop-read-init = variants.type_ref-loop-read-init

pub type_ref-returns-in_default : goal.type_ref-returns-in_default
type_ref-returns-in_default = variants.type_ref-returns-in_default

pub type_ref-returns-in_err-name : goal.type_ref-returns-in_err-name
type_ref-returns-in_err-name = variants.type_ref-returns-in_err-name

pub type_ref-returns-in_err-pass : goal.type_ref-returns-in_err-pass
type_ref-returns-in_err-pass = variants.type_ref-returns-in_err-pass

pub type_ref-returns-in_err-read : goal.type_ref-returns-in_err-read
type_ref-returns-in_err-read = variants.type_ref-returns-in_err-read

pub type_ref-loop-read-preserved-then-is_other : goal.type_ref-loop-read-preserved-then-is_other
type_ref-loop-read-preserved-then-is_other = variants.type_ref-loop-read-preserved-then-is_other

pub type_ref-loop-read-preserved : goal.type_ref-loop-read-preserved
type_ref-loop-read-preserved = variants.type_ref-loop-read-preserved

pub type_ref-returns-then-strays : goal.type_ref-returns-then-strays
type_ref-returns-then-strays = variants.type_ref-returns-then-strays

pub type_ref-returns : goal.type_ref-returns
type_ref-returns = variants.type_ref-returns

pub type_ref-loop-read-smaller-then-is_other : goal.type_ref-loop-read-smaller-then-is_other
type_ref-loop-read-smaller-then-is_other = variants.type_ref-loop-read-smaller-then-is_other

pub type_ref-loop-read-smaller : goal.type_ref-loop-read-smaller
type_ref-loop-read-smaller = variants.type_ref-loop-read-smaller

pub type_ref-type_of-requires : goal.type_ref-type_of-requires
type_ref-type_of-requires = variants.type_ref-type_of-requires

pub type_of-returns-in-Some : goal.type_of-returns-in-Some
type_of-returns-in-Some = variants.type_of-returns-in-Some

pub type_of-returns-in-None : goal.type_of-returns-in-None
type_of-returns-in-None = variants.type_of-returns-in-None

pub type_of-returns-in-Some-2 : goal.type_of-returns-in-Some-2
type_of-returns-in-Some-2 = variants.type_of-returns-in-Some-2

pub type_of-returns-in-Some-3 : goal.type_of-returns-in-Some-3
type_of-returns-in-Some-3 = variants.type_of-returns-in-Some-3

pub type_of-returns-in_err-read-in-Tuple : goal.type_of-returns-in_err-read-in-Tuple
type_of-returns-in_err-read-in-Tuple = variants.type_of-returns-in_err-read-in-Tuple

pub type_of-returns-in_err-path-in-Nominal : goal.type_of-returns-in_err-path-in-Nominal
type_of-returns-in_err-path-in-Nominal = variants.type_of-returns-in_err-path-in-Nominal

pub type_of-returns-in_err-path-in-TraitObject : goal.type_of-returns-in_err-path-in-TraitObject
type_of-returns-in_err-path-in-TraitObject = variants.type_of-returns-in_err-path-in-TraitObject

pub type_of-returns-in_err-read-in-Lifetime : goal.type_of-returns-in_err-read-in-Lifetime
type_of-returns-in_err-read-in-Lifetime = variants.type_of-returns-in_err-read-in-Lifetime

pub type_of-returns-in_err-read-in-Id : goal.type_of-returns-in_err-read-in-Id
type_of-returns-in_err-read-in-Id = variants.type_of-returns-in_err-read-in-Id

pub type_of-returns-in_err-read-in-OfSymbol : goal.type_of-returns-in_err-read-in-OfSymbol
type_of-returns-in_err-read-in-OfSymbol = variants.type_of-returns-in_err-read-in-OfSymbol

pub type_of-returns-in_err-pass-in_default : goal.type_of-returns-in_err-pass-in_default
type_of-returns-in_err-pass-in_default = variants.type_of-returns-in_err-pass-in_default

pub type_of-returns-in-None-2 : goal.type_of-returns-in-None-2
type_of-returns-in-None-2 = variants.type_of-returns-in-None-2

pub type_of-returns-in-None-3 : goal.type_of-returns-in-None-3
type_of-returns-in-None-3 = variants.type_of-returns-in-None-3

pub type_of-returns-in-Some-4 : goal.type_of-returns-in-Some-4
type_of-returns-in-Some-4 = variants.type_of-returns-in-Some-4

pub type_of-returns-in-None-4 : goal.type_of-returns-in-None-4
type_of-returns-in-None-4 = variants.type_of-returns-in-None-4

pub type_of-returns-in-Some-5 : goal.type_of-returns-in-Some-5
type_of-returns-in-Some-5 = variants.type_of-returns-in-Some-5

pub type_of-returns-in-None-5 : goal.type_of-returns-in-None-5
type_of-returns-in-None-5 = variants.type_of-returns-in-None-5

pub type_of-returns-in-Some-6 : goal.type_of-returns-in-Some-6
type_of-returns-in-Some-6 = variants.type_of-returns-in-Some-6

pub type_of-returns-in-None-6 : goal.type_of-returns-in-None-6
type_of-returns-in-None-6 = variants.type_of-returns-in-None-6

pub type_of-returns-in-Slice : goal.type_of-returns-in-Slice
type_of-returns-in-Slice = variants.type_of-returns-in-Slice

pub type_of-returns-in-Ref : goal.type_of-returns-in-Ref
type_of-returns-in-Ref = variants.type_of-returns-in-Ref

pub type_of-returns-in-Fn : goal.type_of-returns-in-Fn
type_of-returns-in-Fn = variants.type_of-returns-in-Fn

pub type_of-returns-in_ok-pass-in_default : goal.type_of-returns-in_ok-pass-in_default
type_of-returns-in_ok-pass-in_default = variants.type_of-returns-in_ok-pass-in_default

pub slice_type-returns-in_err-of : goal.slice_type-returns-in_err-of
slice_type-returns-in_err-of = variants.slice_type-returns-in_err-of

pub slice_type-returns-in-None : goal.slice_type-returns-in-None
slice_type-returns-in-None = variants.slice_type-returns-in-None

pub slice_type-returns-in_err-new-in-Some-clause-ok : goal.slice_type-returns-in_err-new-in-Some-clause-ok
slice_type-returns-in_err-new-in-Some-clause-ok = variants.slice_type-returns-in_err-new-in-Some-clause-ok

pub slice_type-returns-in_err-new-in-Some-clause-shorter : goal.slice_type-returns-in_err-new-in-Some-clause-shorter
slice_type-returns-in_err-new-in-Some-clause-shorter = variants.slice_type-returns-in_err-new-in-Some-clause-shorter

pub slice_type-returns-in_ok-new-in-Some-clause-err : goal.slice_type-returns-in_ok-new-in-Some-clause-err
slice_type-returns-in_ok-new-in-Some-clause-err = variants.slice_type-returns-in_ok-new-in-Some-clause-err

pub slice_type-returns-in_ok-new-in-Some-clause-shorter : goal.slice_type-returns-in_ok-new-in-Some-clause-shorter
slice_type-returns-in_ok-new-in-Some-clause-shorter = variants.slice_type-returns-in_ok-new-in-Some-clause-shorter

pub slice_type-type_ref-requires : goal.slice_type-type_ref-requires
slice_type-type_ref-requires = variants.slice_type-type_ref-requires

pub maybe_type_ref-returns-in-Null-clause-ok : goal.maybe_type_ref-returns-in-Null-clause-ok
maybe_type_ref-returns-in-Null-clause-ok = variants.maybe_type_ref-returns-in-Null-clause-ok

pub maybe_type_ref-returns-in-None : goal.maybe_type_ref-returns-in-None
maybe_type_ref-returns-in-None = variants.maybe_type_ref-returns-in-None

pub maybe_type_ref-returns-in_err-of : goal.maybe_type_ref-returns-in_err-of
maybe_type_ref-returns-in_err-of = variants.maybe_type_ref-returns-in_err-of

pub maybe_type_ref-type_ref-requires : goal.maybe_type_ref-type_ref-requires
maybe_type_ref-type_ref-requires = variants.maybe_type_ref-type_ref-requires

pub type_refs-returns-in_err-depth : goal.type_refs-returns-in_err-depth
type_refs-returns-in_err-depth = lists.type_refs-returns-in_err-depth

pub type_refs-returns-in_default : goal.type_refs-returns-in_default
type_refs-returns-in_default = lists.type_refs-returns-in_default

pub type_refs-returns-in_err-first : goal.type_refs-returns-in_err-first
type_refs-returns-in_err-first = lists.type_refs-returns-in_err-first

pub type_refs-returns-in_err-item : goal.type_refs-returns-in_err-item
type_refs-returns-in_err-item = lists.type_refs-returns-in_err-item

pub type_refs-loop-list-preserved-in_ok-push-in-Some-3 : goal.type_refs-loop-list-preserved-in_ok-push-in-Some-3
type_refs-loop-list-preserved-in_ok-push-in-Some-3 = lists.type_refs-loop-list-preserved-in_ok-push-in-Some-3

pub type_refs-loop-list-preserved : goal.type_refs-loop-list-preserved
type_refs-loop-list-preserved = lists.type_refs-loop-list-preserved

pub type_refs-returns-in_ok-fitted : goal.type_refs-returns-in_ok-fitted
type_refs-returns-in_ok-fitted = lists.type_refs-returns-in_ok-fitted

pub type_refs-returns-else-good : goal.type_refs-returns-else-good
type_refs-returns-else-good = lists.type_refs-returns-else-good

pub type_refs-returns-in_err-push-in-Some-3 : goal.type_refs-returns-in_err-push-in-Some-3
type_refs-returns-in_err-push-in-Some-3 = lists.type_refs-returns-in_err-push-in-Some-3

pub type_refs-returns-in_err-fitted : goal.type_refs-returns-in_err-fitted
type_refs-returns-in_err-fitted = lists.type_refs-returns-in_err-fitted

pub type_refs-loop-list-smaller-in_ok-push-in-Some-3 : goal.type_refs-loop-list-smaller-in_ok-push-in-Some-3
type_refs-loop-list-smaller-in_ok-push-in-Some-3 = lists.type_refs-loop-list-smaller-in_ok-push-in-Some-3

pub type_refs-loop-list-smaller : goal.type_refs-loop-list-smaller
type_refs-loop-list-smaller = lists.type_refs-loop-list-smaller

pub type_refs-type_ref-requires : goal.type_refs-type_ref-requires
type_refs-type_ref-requires = lists.type_refs-type_ref-requires

pub path_and_types-returns-in_err-depth : goal.path_and_types-returns-in_err-depth
path_and_types-returns-in_err-depth = lists.path_and_types-returns-in_err-depth

pub path_and_types-returns-in_default : goal.path_and_types-returns-in_default
path_and_types-returns-in_default = lists.path_and_types-returns-in_default

pub path_and_types-loop-types-init : goal.path_and_types-loop-types-init
path_and_types-loop-types-init = lists.path_and_types-loop-types-init

pub path_and_types-returns-in_err-key : goal.path_and_types-returns-in_err-key
path_and_types-returns-in_err-key = lists.path_and_types-returns-in_err-key

pub path_and_types-returns-then-strays : goal.path_and_types-returns-then-strays
path_and_types-returns-then-strays = lists.path_and_types-returns-then-strays

pub path_and_types-returns-in_err-path-in-path : goal.path_and_types-returns-in_err-path-in-path
path_and_types-returns-in_err-path-in-path = lists.path_and_types-returns-in_err-path-in-path

pub path_and_types-returns-in_err-types-in-types : goal.path_and_types-returns-in_err-types-in-types
path_and_types-returns-in_err-types-in-types = lists.path_and_types-returns-in_err-types-in-types

pub path_and_types-returns-in_err-pass-in_default-key : goal.path_and_types-returns-in_err-pass-in_default-key
path_and_types-returns-in_err-pass-in_default-key = lists.path_and_types-returns-in_err-pass-in_default-key

pub path_and_types-loop-types-preserved-then-str_eq : goal.path_and_types-loop-types-preserved-then-str_eq
path_and_types-loop-types-preserved-then-str_eq = lists.path_and_types-loop-types-preserved-then-str_eq

pub path_and_types-loop-types-preserved-then-str_eq-2 : goal.path_and_types-loop-types-preserved-then-str_eq-2
path_and_types-loop-types-preserved-then-str_eq-2 = lists.path_and_types-loop-types-preserved-then-str_eq-2

pub path_and_types-loop-types-preserved : goal.path_and_types-loop-types-preserved
path_and_types-loop-types-preserved = lists.path_and_types-loop-types-preserved

pub path_and_types-returns-in_default-path : goal.path_and_types-returns-in_default-path
path_and_types-returns-in_default-path = lists.path_and_types-returns-in_default-path

pub path_and_types-returns-in_default-types : goal.path_and_types-returns-in_default-types
path_and_types-returns-in_default-types = lists.path_and_types-returns-in_default-types

pub path_and_types-returns : goal.path_and_types-returns
path_and_types-returns = lists.path_and_types-returns

pub path_and_types-loop-types-smaller-then-str_eq : goal.path_and_types-loop-types-smaller-then-str_eq
path_and_types-loop-types-smaller-then-str_eq = lists.path_and_types-loop-types-smaller-then-str_eq

pub path_and_types-loop-types-smaller-then-str_eq-2 : goal.path_and_types-loop-types-smaller-then-str_eq-2
path_and_types-loop-types-smaller-then-str_eq-2 = lists.path_and_types-loop-types-smaller-then-str_eq-2

pub path_and_types-loop-types-smaller : goal.path_and_types-loop-types-smaller
path_and_types-loop-types-smaller = lists.path_and_types-loop-types-smaller

pub path_and_types-type_refs-requires : goal.path_and_types-type_refs-requires
path_and_types-type_refs-requires = lists.path_and_types-type_refs-requires

pub reference_type-returns-in_err-depth : goal.reference_type-returns-in_err-depth
reference_type-returns-in_err-depth = references.reference_type-returns-in_err-depth

pub reference_type-returns-in_default : goal.reference_type-returns-in_default
reference_type-returns-in_default = references.reference_type-returns-in_default

pub reference_type-loop-fields-init : goal.reference_type-loop-fields-init
reference_type-loop-fields-init = references.reference_type-loop-fields-init

pub reference_type-returns-in_err-member : goal.reference_type-returns-in_err-member
reference_type-returns-in_err-member = references.reference_type-returns-in_err-member

pub reference_type-returns-in_err-reference_field : goal.reference_type-returns-in_err-reference_field
reference_type-returns-in_err-reference_field = references.reference_type-returns-in_err-reference_field

pub reference_type-loop-fields-preserved-then-not-branch : goal.reference_type-loop-fields-preserved-then-not-branch
reference_type-loop-fields-preserved-then-not-branch = references.reference_type-loop-fields-preserved-then-not-branch

pub reference_type-loop-fields-preserved : goal.reference_type-loop-fields-preserved
reference_type-loop-fields-preserved = references.reference_type-loop-fields-preserved

pub reference_type-loop-fields-smaller-then-not-branch : goal.reference_type-loop-fields-smaller-then-not-branch
reference_type-loop-fields-smaller-then-not-branch = references.reference_type-loop-fields-smaller-then-not-branch

pub reference_type-loop-fields-smaller : goal.reference_type-loop-fields-smaller
reference_type-loop-fields-smaller = references.reference_type-loop-fields-smaller

pub reference_type-returns-in_ok-new-in-Some-three_values : goal.reference_type-returns-in_ok-new-in-Some-three_values
reference_type-returns-in_ok-new-in-Some-three_values = references.reference_type-returns-in_ok-new-in-Some-three_values

pub reference_type-returns-in_err-new-in-Some-three_values-clause-ok : goal.reference_type-returns-in_err-new-in-Some-three_values-clause-ok
reference_type-returns-in_err-new-in-Some-three_values-clause-ok = references.reference_type-returns-in_err-new-in-Some-three_values-clause-ok

pub reference_type-returns-in_err-new-in-Some-three_values-clause-shorter : goal.reference_type-returns-in_err-new-in-Some-three_values-clause-shorter
reference_type-returns-in_err-new-in-Some-three_values-clause-shorter = references.reference_type-returns-in_err-new-in-Some-three_values-clause-shorter

pub reference_type-returns-in-None : goal.reference_type-returns-in-None
reference_type-returns-in-None = references.reference_type-returns-in-None

pub reference_field-returns-in_err-fields-in-lifetime : goal.reference_field-returns-in_err-fields-in-lifetime
reference_field-returns-in_err-fields-in-lifetime = references.reference_field-returns-in_err-fields-in-lifetime

pub reference_field-returns-in_ok-fields-in-lifetime : goal.reference_field-returns-in_ok-fields-in-lifetime
reference_field-returns-in_ok-fields-in-lifetime = references.reference_field-returns-in_ok-fields-in-lifetime

pub reference_field-returns-in_err-fields-in-mutable : goal.reference_field-returns-in_err-fields-in-mutable
reference_field-returns-in_err-fields-in-mutable = references.reference_field-returns-in_err-fields-in-mutable

pub reference_field-returns-in_ok-fields-in-mutable : goal.reference_field-returns-in_ok-fields-in-mutable
reference_field-returns-in_ok-fields-in-mutable = references.reference_field-returns-in_ok-fields-in-mutable

pub reference_field-returns-in_err-fields-in-referent : goal.reference_field-returns-in_err-fields-in-referent
reference_field-returns-in_err-fields-in-referent = references.reference_field-returns-in_err-fields-in-referent

pub reference_field-returns-in_ok-fields-in-referent : goal.reference_field-returns-in_ok-fields-in-referent
reference_field-returns-in_ok-fields-in-referent = references.reference_field-returns-in_ok-fields-in-referent

pub reference_field-returns-in_ok-pass-in_default : goal.reference_field-returns-in_ok-pass-in_default
reference_field-returns-in_ok-pass-in_default = references.reference_field-returns-in_ok-pass-in_default

pub reference_field-returns-in_err-pass-in_default : goal.reference_field-returns-in_err-pass-in_default
reference_field-returns-in_err-pass-in_default = references.reference_field-returns-in_err-pass-in_default

pub function_type-returns-in_err-depth : goal.function_type-returns-in_err-depth
function_type-returns-in_err-depth = functions.function_type-returns-in_err-depth

pub function_type-returns-in_default : goal.function_type-returns-in_default
function_type-returns-in_default = functions.function_type-returns-in_default

pub function_type-loop-ret-init : goal.function_type-loop-ret-init
function_type-loop-ret-init = functions.function_type-loop-ret-init

pub function_type-returns-in_err-key : goal.function_type-returns-in_err-key
function_type-returns-in_err-key = functions.function_type-returns-in_err-key

pub function_type-returns-then-strays : goal.function_type-returns-then-strays
function_type-returns-then-strays = functions.function_type-returns-then-strays

pub function_type-returns-in_err-forall-in-forall : goal.function_type-returns-in_err-forall-in-forall
function_type-returns-in_err-forall-in-forall = functions.function_type-returns-in_err-forall-in-forall

pub function_type-returns-in_err-parameters-in-parameters : goal.function_type-returns-in_err-parameters-in-parameters
function_type-returns-in_err-parameters-in-parameters = functions.function_type-returns-in_err-parameters-in-parameters

pub function_type-returns-in_err-path-in-path : goal.function_type-returns-in_err-path-in-path
function_type-returns-in_err-path-in-path = functions.function_type-returns-in_err-path-in-path

pub function_type-returns-in_err-ret-in-ret : goal.function_type-returns-in_err-ret-in-ret
function_type-returns-in_err-ret-in-ret = functions.function_type-returns-in_err-ret-in-ret

pub function_type-returns-in_err-pass-in_default-key : goal.function_type-returns-in_err-pass-in_default-key
function_type-returns-in_err-pass-in_default-key = functions.function_type-returns-in_err-pass-in_default-key

pub function_type-loop-ret-preserved-then-str_eq : goal.function_type-loop-ret-preserved-then-str_eq
function_type-loop-ret-preserved-then-str_eq = functions.function_type-loop-ret-preserved-then-str_eq

pub function_type-loop-ret-preserved-then-str_eq-2 : goal.function_type-loop-ret-preserved-then-str_eq-2
function_type-loop-ret-preserved-then-str_eq-2 = functions.function_type-loop-ret-preserved-then-str_eq-2

pub function_type-loop-ret-preserved-then-str_eq-3 : goal.function_type-loop-ret-preserved-then-str_eq-3
function_type-loop-ret-preserved-then-str_eq-3 = functions.function_type-loop-ret-preserved-then-str_eq-3

pub function_type-loop-ret-preserved-then-str_eq-4 : goal.function_type-loop-ret-preserved-then-str_eq-4
function_type-loop-ret-preserved-then-str_eq-4 = functions.function_type-loop-ret-preserved-then-str_eq-4

pub function_type-loop-ret-preserved : goal.function_type-loop-ret-preserved
function_type-loop-ret-preserved = functions.function_type-loop-ret-preserved

pub function_type-returns-in_default-forall : goal.function_type-returns-in_default-forall
function_type-returns-in_default-forall = functions.function_type-returns-in_default-forall

pub function_type-returns-in_default-parameters : goal.function_type-returns-in_default-parameters
function_type-returns-in_default-parameters = functions.function_type-returns-in_default-parameters

pub function_type-returns-in_default-path : goal.function_type-returns-in_default-path
function_type-returns-in_default-path = functions.function_type-returns-in_default-path

pub function_type-returns-in_default-ret : goal.function_type-returns-in_default-ret
function_type-returns-in_default-ret = functions.function_type-returns-in_default-ret

pub function_type-returns : goal.function_type-returns
function_type-returns = functions.function_type-returns

pub function_type-loop-ret-smaller-then-str_eq : goal.function_type-loop-ret-smaller-then-str_eq
function_type-loop-ret-smaller-then-str_eq = functions.function_type-loop-ret-smaller-then-str_eq

pub function_type-loop-ret-smaller-then-str_eq-2 : goal.function_type-loop-ret-smaller-then-str_eq-2
function_type-loop-ret-smaller-then-str_eq-2 = functions.function_type-loop-ret-smaller-then-str_eq-2

pub function_type-loop-ret-smaller-then-str_eq-3 : goal.function_type-loop-ret-smaller-then-str_eq-3
function_type-loop-ret-smaller-then-str_eq-3 = functions.function_type-loop-ret-smaller-then-str_eq-3

pub function_type-loop-ret-smaller-then-str_eq-4 : goal.function_type-loop-ret-smaller-then-str_eq-4
function_type-loop-ret-smaller-then-str_eq-4 = functions.function_type-loop-ret-smaller-then-str_eq-4

pub function_type-loop-ret-smaller : goal.function_type-loop-ret-smaller
function_type-loop-ret-smaller = functions.function_type-loop-ret-smaller

pub function_type-type_refs-requires : goal.function_type-type_refs-requires
function_type-type_refs-requires = functions.function_type-type_refs-requires

pub function_type-maybe_type_ref-requires : goal.function_type-maybe_type_ref-requires
function_type-maybe_type_ref-requires = functions.function_type-maybe_type_ref-requires
