-- The answers of the goals of the functions that read patterns, each from a file of the folder Answers.
mod Variants
mod Records
mod Rows
mod Lists
use Rattle.lalrpop_norm_json.proofs.tree.patterns.+pattern.Goals as goal
use Rattle.lalrpop_norm_json.proofs.tree.patterns.+pattern.Answers.Variants as variants
use Rattle.lalrpop_norm_json.proofs.tree.patterns.+pattern.Answers.Records as records
use Rattle.lalrpop_norm_json.proofs.tree.patterns.+pattern.Answers.Rows as rows
use Rattle.lalrpop_norm_json.proofs.tree.patterns.+pattern.Answers.Lists as lists

pub pattern_kind-returns-in-String-clause-ok : goal.pattern_kind-returns-in-String-clause-ok
pattern_kind-returns-in-String-clause-ok = variants.pattern_kind-returns-in-String-clause-ok

pub pattern_kind-returns-in_default-2 : goal.pattern_kind-returns-in_default-2
pattern_kind-returns-in_default-2 = variants.pattern_kind-returns-in_default-2

pub pattern_kind-returns-in_err-name : goal.pattern_kind-returns-in_err-name
pattern_kind-returns-in_err-name = variants.pattern_kind-returns-in_err-name

pub pattern_kind-returns-in_err-pass : goal.pattern_kind-returns-in_err-pass
pattern_kind-returns-in_err-pass = variants.pattern_kind-returns-in_err-pass

pub pattern_kind-returns-in_err-read : goal.pattern_kind-returns-in_err-read
pattern_kind-returns-in_err-read = variants.pattern_kind-returns-in_err-read

pub pattern_kind-loop-read-preserved-then-is_other : goal.pattern_kind-loop-read-preserved-then-is_other
pattern_kind-loop-read-preserved-then-is_other = variants.pattern_kind-loop-read-preserved-then-is_other

pub pattern_kind-loop-read-preserved : goal.pattern_kind-loop-read-preserved
pattern_kind-loop-read-preserved = variants.pattern_kind-loop-read-preserved

pub pattern_kind-returns-then-strays : goal.pattern_kind-returns-then-strays
pattern_kind-returns-then-strays = variants.pattern_kind-returns-then-strays

pub pattern_kind-returns : goal.pattern_kind-returns
pattern_kind-returns = variants.pattern_kind-returns

pub pattern_kind_of-returns-in-Some-clause-ok : goal.pattern_kind_of-returns-in-Some-clause-ok
pattern_kind_of-returns-in-Some-clause-ok = variants.pattern_kind_of-returns-in-Some-clause-ok

pub pattern_kind_of-returns-in-None-clause-ok : goal.pattern_kind_of-returns-in-None-clause-ok
pattern_kind_of-returns-in-None-clause-ok = variants.pattern_kind_of-returns-in-None-clause-ok

pub pattern_kind_of-returns-in-Some-2-clause-ok : goal.pattern_kind_of-returns-in-Some-2-clause-ok
pattern_kind_of-returns-in-Some-2-clause-ok = variants.pattern_kind_of-returns-in-Some-2-clause-ok

pub pattern_kind_of-returns-in-None-2-clause-ok : goal.pattern_kind_of-returns-in-None-2-clause-ok
pattern_kind_of-returns-in-None-2-clause-ok = variants.pattern_kind_of-returns-in-None-2-clause-ok

pub pattern_kind_of-returns-in-Some-3-clause-ok : goal.pattern_kind_of-returns-in-Some-3-clause-ok
pattern_kind_of-returns-in-Some-3-clause-ok = variants.pattern_kind_of-returns-in-Some-3-clause-ok

pub pattern_kind_of-returns-in-None-3-clause-ok : goal.pattern_kind_of-returns-in-None-3-clause-ok
pattern_kind_of-returns-in-None-3-clause-ok = variants.pattern_kind_of-returns-in-None-3-clause-ok

pub pattern_kind_of-returns-in-Some-4-clause-ok : goal.pattern_kind_of-returns-in-Some-4-clause-ok
pattern_kind_of-returns-in-Some-4-clause-ok = variants.pattern_kind_of-returns-in-Some-4-clause-ok

pub pattern_kind_of-returns-in-None-4-clause-ok : goal.pattern_kind_of-returns-in-None-4-clause-ok
pattern_kind_of-returns-in-None-4-clause-ok = variants.pattern_kind_of-returns-in-None-4-clause-ok

pub pattern_kind_of-returns-in-Some-5-clause-ok : goal.pattern_kind_of-returns-in-Some-5-clause-ok
pattern_kind_of-returns-in-Some-5-clause-ok = variants.pattern_kind_of-returns-in-Some-5-clause-ok

pub pattern_kind_of-returns-in-None-5-clause-ok : goal.pattern_kind_of-returns-in-None-5-clause-ok
pattern_kind_of-returns-in-None-5-clause-ok = variants.pattern_kind_of-returns-in-None-5-clause-ok

pub pattern_kind_of-returns-in-Some-6-clause-ok : goal.pattern_kind_of-returns-in-Some-6-clause-ok
pattern_kind_of-returns-in-Some-6-clause-ok = variants.pattern_kind_of-returns-in-Some-6-clause-ok

pub pattern_kind_of-returns-in-None-6-clause-ok : goal.pattern_kind_of-returns-in-None-6-clause-ok
pattern_kind_of-returns-in-None-6-clause-ok = variants.pattern_kind_of-returns-in-None-6-clause-ok

pub pattern_kind_of-returns-in-Some-7-clause-ok : goal.pattern_kind_of-returns-in-Some-7-clause-ok
pattern_kind_of-returns-in-Some-7-clause-ok = variants.pattern_kind_of-returns-in-Some-7-clause-ok

pub pattern_kind_of-returns-in-None-7-clause-ok : goal.pattern_kind_of-returns-in-None-7-clause-ok
pattern_kind_of-returns-in-None-7-clause-ok = variants.pattern_kind_of-returns-in-None-7-clause-ok

pub pattern_kind_of-returns-in-Some-8-clause-ok : goal.pattern_kind_of-returns-in-Some-8-clause-ok
pattern_kind_of-returns-in-Some-8-clause-ok = variants.pattern_kind_of-returns-in-Some-8-clause-ok

pub pattern_kind_of-returns-in-None-8-clause-ok : goal.pattern_kind_of-returns-in-None-8-clause-ok
pattern_kind_of-returns-in-None-8-clause-ok = variants.pattern_kind_of-returns-in-None-8-clause-ok

pub pattern-loop-kind-init : goal.pattern-loop-kind-init
pattern-loop-kind-init = records.pattern-loop-kind-init

pub pattern-returns-in_err-key-clause-err : goal.pattern-returns-in_err-key-clause-err
pattern-returns-in_err-key-clause-err = records.pattern-returns-in_err-key-clause-err

pub pattern-returns-in_err-kind-in-kind-clause-err : goal.pattern-returns-in_err-kind-in-kind-clause-err
pattern-returns-in_err-kind-in-kind-clause-err = records.pattern-returns-in_err-kind-in-kind-clause-err

pub pattern-returns-in_err-span-in-span-clause-err : goal.pattern-returns-in_err-span-in-span-clause-err
pattern-returns-in_err-span-in-span-clause-err = records.pattern-returns-in_err-span-in-span-clause-err

pub pattern-returns-in_err-pass-in_default-key-clause-err : goal.pattern-returns-in_err-pass-in_default-key-clause-err
pattern-returns-in_err-pass-in_default-key-clause-err = records.pattern-returns-in_err-pass-in_default-key-clause-err

pub pattern-loop-kind-preserved-then-str_eq : goal.pattern-loop-kind-preserved-then-str_eq
pattern-loop-kind-preserved-then-str_eq = records.pattern-loop-kind-preserved-then-str_eq

pub pattern-loop-kind-preserved-then-str_eq-2 : goal.pattern-loop-kind-preserved-then-str_eq-2
pattern-loop-kind-preserved-then-str_eq-2 = records.pattern-loop-kind-preserved-then-str_eq-2

pub pattern-loop-kind-preserved : goal.pattern-loop-kind-preserved
pattern-loop-kind-preserved = records.pattern-loop-kind-preserved

pub pattern-returns-then-strays-clause-ok : goal.pattern-returns-then-strays-clause-ok
pattern-returns-then-strays-clause-ok = records.pattern-returns-then-strays-clause-ok

pub pattern-returns-in_default-kind-clause-ok : goal.pattern-returns-in_default-kind-clause-ok
pattern-returns-in_default-kind-clause-ok = records.pattern-returns-in_default-kind-clause-ok

pub pattern-returns-in_default-span-clause-ok : goal.pattern-returns-in_default-span-clause-ok
pattern-returns-in_default-span-clause-ok = records.pattern-returns-in_default-span-clause-ok

pub pattern-returns-clause-ok : goal.pattern-returns-clause-ok
pattern-returns-clause-ok = records.pattern-returns-clause-ok

pub field_pattern-loop-of-init : goal.field_pattern-loop-of-init
field_pattern-loop-of-init = records.field_pattern-loop-of-init

pub field_pattern-returns-in_err-key-clause-err : goal.field_pattern-returns-in_err-key-clause-err
field_pattern-returns-in_err-key-clause-err = records.field_pattern-returns-in_err-key-clause-err

pub field_pattern-returns-in_err-field_name-in-field_name-clause-err : goal.field_pattern-returns-in_err-field_name-in-field_name-clause-err
field_pattern-returns-in_err-field_name-in-field_name-clause-err = records.field_pattern-returns-in_err-field_name-in-field_name-clause-err

pub field_pattern-returns-in_err-field_span-in-field_span-clause-err : goal.field_pattern-returns-in_err-field_span-in-field_span-clause-err
field_pattern-returns-in_err-field_span-in-field_span-clause-err = records.field_pattern-returns-in_err-field_span-in-field_span-clause-err

pub field_pattern-returns-in_err-of-in-pattern-clause-err : goal.field_pattern-returns-in_err-of-in-pattern-clause-err
field_pattern-returns-in_err-of-in-pattern-clause-err = records.field_pattern-returns-in_err-of-in-pattern-clause-err

pub field_pattern-returns-in_err-pass-in_default-key-clause-err : goal.field_pattern-returns-in_err-pass-in_default-key-clause-err
field_pattern-returns-in_err-pass-in_default-key-clause-err = records.field_pattern-returns-in_err-pass-in_default-key-clause-err

pub field_pattern-loop-of-preserved-then-str_eq : goal.field_pattern-loop-of-preserved-then-str_eq
field_pattern-loop-of-preserved-then-str_eq = records.field_pattern-loop-of-preserved-then-str_eq

pub field_pattern-loop-of-preserved-then-str_eq-2 : goal.field_pattern-loop-of-preserved-then-str_eq-2
field_pattern-loop-of-preserved-then-str_eq-2 = records.field_pattern-loop-of-preserved-then-str_eq-2

pub field_pattern-loop-of-preserved-then-str_eq-3 : goal.field_pattern-loop-of-preserved-then-str_eq-3
field_pattern-loop-of-preserved-then-str_eq-3 = records.field_pattern-loop-of-preserved-then-str_eq-3

pub field_pattern-loop-of-preserved : goal.field_pattern-loop-of-preserved
field_pattern-loop-of-preserved = records.field_pattern-loop-of-preserved

pub field_pattern-returns-then-strays-clause-ok : goal.field_pattern-returns-then-strays-clause-ok
field_pattern-returns-then-strays-clause-ok = records.field_pattern-returns-then-strays-clause-ok

pub field_pattern-returns-in_default-field_name-clause-ok : goal.field_pattern-returns-in_default-field_name-clause-ok
field_pattern-returns-in_default-field_name-clause-ok = records.field_pattern-returns-in_default-field_name-clause-ok

pub field_pattern-returns-in_default-field_span-clause-ok : goal.field_pattern-returns-in_default-field_span-clause-ok
field_pattern-returns-in_default-field_span-clause-ok = records.field_pattern-returns-in_default-field_span-clause-ok

pub field_pattern-returns-in_default-of-clause-ok : goal.field_pattern-returns-in_default-of-clause-ok
field_pattern-returns-in_default-of-clause-ok = records.field_pattern-returns-in_default-of-clause-ok

pub field_pattern-returns-clause-ok : goal.field_pattern-returns-clause-ok
field_pattern-returns-clause-ok = records.field_pattern-returns-clause-ok

pub path_and_patterns-loop-list-init : goal.path_and_patterns-loop-list-init
path_and_patterns-loop-list-init = rows.path_and_patterns-loop-list-init

pub path_and_patterns-returns-in_err-first-clause-err : goal.path_and_patterns-returns-in_err-first-clause-err
path_and_patterns-returns-in_err-first-clause-err = rows.path_and_patterns-returns-in_err-first-clause-err

pub path_and_patterns-returns-in_err-path-in-0-clause-err : goal.path_and_patterns-returns-in_err-path-in-0-clause-err
path_and_patterns-returns-in_err-path-in-0-clause-err = rows.path_and_patterns-returns-in_err-path-in-0-clause-err

pub path_and_patterns-returns-in_err-list-in-1-clause-err : goal.path_and_patterns-returns-in_err-list-in-1-clause-err
path_and_patterns-returns-in_err-list-in-1-clause-err = rows.path_and_patterns-returns-in_err-list-in-1-clause-err

pub path_and_patterns-returns-in_err-pass-in_default-place-clause-err : goal.path_and_patterns-returns-in_err-pass-in_default-place-clause-err
path_and_patterns-returns-in_err-pass-in_default-place-clause-err = rows.path_and_patterns-returns-in_err-pass-in_default-place-clause-err

pub path_and_patterns-loop-list-preserved-in-0 : goal.path_and_patterns-loop-list-preserved-in-0
path_and_patterns-loop-list-preserved-in-0 = rows.path_and_patterns-loop-list-preserved-in-0

pub path_and_patterns-loop-list-preserved-in-1 : goal.path_and_patterns-loop-list-preserved-in-1
path_and_patterns-loop-list-preserved-in-1 = rows.path_and_patterns-loop-list-preserved-in-1

pub path_and_patterns-loop-list-preserved : goal.path_and_patterns-loop-list-preserved
path_and_patterns-loop-list-preserved = rows.path_and_patterns-loop-list-preserved

pub path_and_patterns-returns-then-place-ne2-clause-ok : goal.path_and_patterns-returns-then-place-ne2-clause-ok
path_and_patterns-returns-then-place-ne2-clause-ok = rows.path_and_patterns-returns-then-place-ne2-clause-ok

pub path_and_patterns-returns-clause-ok : goal.path_and_patterns-returns-clause-ok
path_and_patterns-returns-clause-ok = rows.path_and_patterns-returns-clause-ok

pub structured-loop-fields-init : goal.structured-loop-fields-init
structured-loop-fields-init = rows.structured-loop-fields-init

pub structured-returns-in_err-first-clause-err : goal.structured-returns-in_err-first-clause-err
structured-returns-in_err-first-clause-err = rows.structured-returns-in_err-first-clause-err

pub structured-returns-in_err-path-in-0-clause-err : goal.structured-returns-in_err-path-in-0-clause-err
structured-returns-in_err-path-in-0-clause-err = rows.structured-returns-in_err-path-in-0-clause-err

pub structured-returns-in_err-fields-in-1-clause-err : goal.structured-returns-in_err-fields-in-1-clause-err
structured-returns-in_err-fields-in-1-clause-err = rows.structured-returns-in_err-fields-in-1-clause-err

pub structured-returns-in_err-rest-in-2-clause-err : goal.structured-returns-in_err-rest-in-2-clause-err
structured-returns-in_err-rest-in-2-clause-err = rows.structured-returns-in_err-rest-in-2-clause-err

pub structured-returns-in_err-pass-in_default-place-clause-err : goal.structured-returns-in_err-pass-in_default-place-clause-err
structured-returns-in_err-pass-in_default-place-clause-err = rows.structured-returns-in_err-pass-in_default-place-clause-err

pub structured-loop-fields-preserved-in-0 : goal.structured-loop-fields-preserved-in-0
structured-loop-fields-preserved-in-0 = rows.structured-loop-fields-preserved-in-0

pub structured-loop-fields-preserved-in-1 : goal.structured-loop-fields-preserved-in-1
structured-loop-fields-preserved-in-1 = rows.structured-loop-fields-preserved-in-1

pub structured-loop-fields-preserved-in-2 : goal.structured-loop-fields-preserved-in-2
structured-loop-fields-preserved-in-2 = rows.structured-loop-fields-preserved-in-2

pub structured-loop-fields-preserved : goal.structured-loop-fields-preserved
structured-loop-fields-preserved = rows.structured-loop-fields-preserved

pub structured-returns-then-place-ne3-clause-ok : goal.structured-returns-then-place-ne3-clause-ok
structured-returns-then-place-ne3-clause-ok = rows.structured-returns-then-place-ne3-clause-ok

pub structured-returns-in-Some-all_three-clause-ok : goal.structured-returns-in-Some-all_three-clause-ok
structured-returns-in-Some-all_three-clause-ok = rows.structured-returns-in-Some-all_three-clause-ok

pub structured-returns-in-None-clause-ok : goal.structured-returns-in-None-clause-ok
structured-returns-in-None-clause-ok = rows.structured-returns-in-None-clause-ok

pub patterns-returns-in_err-first-clause-err : goal.patterns-returns-in_err-first-clause-err
patterns-returns-in_err-first-clause-err = lists.patterns-returns-in_err-first-clause-err

pub patterns-returns-in_err-item-clause-err : goal.patterns-returns-in_err-item-clause-err
patterns-returns-in_err-item-clause-err = lists.patterns-returns-in_err-item-clause-err

pub patterns-loop-list-preserved-in_ok-push-in-Some-3 : goal.patterns-loop-list-preserved-in_ok-push-in-Some-3
patterns-loop-list-preserved-in_ok-push-in-Some-3 = lists.patterns-loop-list-preserved-in_ok-push-in-Some-3

pub patterns-loop-list-preserved : goal.patterns-loop-list-preserved
patterns-loop-list-preserved = lists.patterns-loop-list-preserved

pub patterns-returns-in_ok-fitted-clause-ok : goal.patterns-returns-in_ok-fitted-clause-ok
patterns-returns-in_ok-fitted-clause-ok = lists.patterns-returns-in_ok-fitted-clause-ok

pub patterns-returns-else-good-clause-ok : goal.patterns-returns-else-good-clause-ok
patterns-returns-else-good-clause-ok = lists.patterns-returns-else-good-clause-ok

pub field_patterns-returns-in_err-first-clause-err : goal.field_patterns-returns-in_err-first-clause-err
field_patterns-returns-in_err-first-clause-err = lists.field_patterns-returns-in_err-first-clause-err

pub field_patterns-returns-in_err-item-clause-err : goal.field_patterns-returns-in_err-item-clause-err
field_patterns-returns-in_err-item-clause-err = lists.field_patterns-returns-in_err-item-clause-err

pub field_patterns-loop-list-preserved-in_ok-push-in-Some-3 : goal.field_patterns-loop-list-preserved-in_ok-push-in-Some-3
field_patterns-loop-list-preserved-in_ok-push-in-Some-3 = lists.field_patterns-loop-list-preserved-in_ok-push-in-Some-3

pub field_patterns-loop-list-preserved : goal.field_patterns-loop-list-preserved
field_patterns-loop-list-preserved = lists.field_patterns-loop-list-preserved

pub field_patterns-returns-in_ok-fitted-clause-ok : goal.field_patterns-returns-in_ok-fitted-clause-ok
field_patterns-returns-in_ok-fitted-clause-ok = lists.field_patterns-returns-in_ok-fitted-clause-ok

pub field_patterns-returns-else-good-clause-ok : goal.field_patterns-returns-else-good-clause-ok
field_patterns-returns-else-good-clause-ok = lists.field_patterns-returns-else-good-clause-ok
