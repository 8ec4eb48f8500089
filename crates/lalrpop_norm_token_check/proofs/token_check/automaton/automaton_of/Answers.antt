use Rattle.lalrpop_norm_token_check.proofs.RefusalLemmas.{told, bad_within, feature_within, ambiguity_within, bad_refused, feature_refused, ambiguity_refused}
use Rattle.lalrpop_norm_token_check.proofs.token_check.automaton.automaton_of.Goals as goal

pub place_at-requires-clause-within : goal.place_at-requires-clause-within
place_at-requires-clause-within g c =
    let bad = rw c.in-Err-Bad.field-0-is at c.in-Err-Bad.ensures.reason in
    bad_within (g.L.Lexer.relations c.args.lexer.now) c.args.entries.now _ bad

pub place_at-requires-in-Err-Unsupported-clause-within : goal.place_at-requires-in-Err-Unsupported-clause-within
place_at-requires-in-Err-Unsupported-clause-within g c =
    let h = rw c.in-Err-Unsupported.field-0-is at c.in-Err-Unsupported.ensures.reason in
    feature_within (g.L.Lexer.relations c.args.lexer.now) c.args.entries.now h.0 _ _ h.1 h.2

pub place_at-requires-in-Err-Ambiguous-clause-within : goal.place_at-requires-in-Err-Ambiguous-clause-within
place_at-requires-in-Err-Ambiguous-clause-within g c =
    let h = rw c.in-Err-Ambiguous.field-0-is at c.in-Err-Ambiguous.ensures.reason in
    ambiguity_within (g.L.Lexer.relations c.args.lexer.now) c.args.entries.now h.0 _ _ h.1 h.2

pub returns-in-Err-Bad-clause-refused : goal.returns-in-Err-Bad-clause-refused
returns-in-Err-Bad-clause-refused g c = λ grammar are rows.
    let l = g.L.Lexer.relations c.args.lexer.now in
    let bad = rw c.in-Err-Bad.field-0-is at c.in-Err-Bad.ensures.reason in
    let this = bad_refused grammar c.args.entries.now c.args.places.now.entries are rows c.in-Err-Bad.index c.place_at.result c.place_at.ensures l bad in
    told l grammar _ c.refusal.result c.refusal.ensures.first this

pub returns-in-Err-Unsupported-clause-refused : goal.returns-in-Err-Unsupported-clause-refused
returns-in-Err-Unsupported-clause-refused g c = λ grammar are rows.
    let l = g.L.Lexer.relations c.args.lexer.now in
    let h = rw c.in-Err-Unsupported.field-0-is at c.in-Err-Unsupported.ensures.reason in
    let at = c.place_at-in-Err-Unsupported in
    let this = feature_refused grammar c.args.entries.now c.args.places.now.entries are rows c.in-Err-Unsupported.index at.result at.ensures l h.0 _ h.1 h.2 in
    told l grammar _ c.refusal-in-Err-Unsupported.result c.refusal-in-Err-Unsupported.ensures.first this

pub returns-in-Err-Ambiguous-clause-refused : goal.returns-in-Err-Ambiguous-clause-refused
returns-in-Err-Ambiguous-clause-refused g c = λ grammar are rows.
    let l = g.L.Lexer.relations c.args.lexer.now in
    let h = rw c.in-Err-Ambiguous.field-0-is at c.in-Err-Ambiguous.ensures.reason in
    let at = c.place_at-in-Err-Ambiguous in
    let this = ambiguity_refused grammar c.args.entries.now c.args.places.now.entries are rows c.in-Err-Ambiguous.match0 at.result at.ensures l h.0 _ h.1 h.2 in
    told l grammar _ c.refusal-in-Err-Ambiguous.result c.refusal-in-Err-Ambiguous.ensures.first this
