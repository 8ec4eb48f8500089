use Rattle.std.proofs.Common.{◌≡◌, Some, get_or, subst}
use Rattle.std.proofs.lemmas.Option.{slice_get-get_or}
use Rattle.lalrpop_norm_model.proofs.LevelLemmas.{at_in}
use Rattle.lalrpop_norm_tree.specs.declared.items.MatchEntry.{MatchEntry}
use Rattle.lalrpop_norm_token_check.specs.Keys.{place_by}
use Rattle.lalrpop_norm_token_check.proofs.token_check.automaton.place_at.Goals as goal

pub place_of-requires : goal.place_of-requires
place_of-requires c =
    let xs = c.args.entries.now in
    let d = c.index-entries-index.result in
    c.requires.placed (get_or xs c.args.index d) (at_in xs c.args.index (get_or xs c.args.index d) (slice_get-get_or xs c.args.index d c.requires.within))

pub returns : goal.returns
returns c = λ e at.
    let xs = c.args.entries.now in
    let r : MatchEntry = get_or xs c.args.index c.index-entries-index.result in
    let here = slice_get-get_or xs c.args.index c.index-entries-index.result c.requires.within in
    let same : r ≡ e = cc (here, at) in
    subst (λ (x : MatchEntry). place_by c.args.places.now.entries x.match_literal ≡ Some c.place_of.result) same c.place_of.ensures
