use Rattle.std.proofs.Common.{sym}
use Rattle.std.proofs.lemmas.List.{get_or_default}
use Rattle.lalrpop_norm_conditions.proofs.ReadingLemmas.{has_reading_of_read, is_found_of_read, refused_without_reading}
use Rattle.lalrpop_norm_conditions.proofs.finds.Goals as goal

pub returns-in-Err-Syntax-clause-no_reading : goal.returns-in-Err-Syntax-clause-no_reading
returns-in-Err-Syntax-clause-no_reading c =
    let told = c.in-Err-Syntax.ensures in
    let is_syntax = c.in-Err-Syntax.field-0-is in
    λ _. refused_without_reading _ c.in-Err-Syntax.field-0-0.kind (told.by_grammar _ is_syntax) (rw is_syntax at told.kind)

pub returns-clause-value : goal.returns-clause-value
returns-clause-value c =
    let made = c.in-Ok.ensures in
    let text = c.args.text.now in
    rw (c.is_match.ensures.found, c.in_ok-matcher.ensures.pattern)
    (sym (is_found_of_read _ _ _ (rw (made.source, made.config) at made.read) text
    (λ k d h. rw (get_or_default text k d 0 h) (c.type_inv.text k).fits)))

pub returns-clause-read : goal.returns-clause-read
returns-clause-read c = let made = c.in-Ok.ensures in has_reading_of_read _ _ _ (rw (made.source, made.config) at made.read)
