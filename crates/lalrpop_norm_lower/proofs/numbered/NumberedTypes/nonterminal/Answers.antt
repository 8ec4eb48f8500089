use Rattle.std.proofs.Common.{◌<◌, sym, ◌∙◌, subst, option_map}
use Rattle.lalrpop_norm_shared_types.specs.Shared.{shared_view}
use Rattle.lalrpop_norm_shared_types.specs.Table.{shared_table}
use Rattle.lalrpop_norm_lower.proofs.NumberLemmas.{number_within, type_at_number}
use Rattle.lalrpop_norm_lower.proofs.numbered.NumberedTypes.nonterminal.Goals as goal

pub index-requires : goal.index-requires
index-requires c =
    subst (λ n. c.in-Some.number < n) (sym c.args.self.now.by_number.ok.0)
    (number_within (option_map (λ t. shared_view t.now)) (shared_table c.args.self.now.table.now) c.args.self.now.names
    c.args.self.now.by_number.items c.args.name.now c.in-Some.number c.args.self.now.numbered (sym c.number.ensures ∙ c.in-Some.is))

pub returns-in-Some : goal.returns-in-Some
returns-in-Some c =
    type_at_number (option_map (λ t. shared_view t.now)) (shared_table c.args.self.now.table.now) c.args.self.now.names
    c.args.self.now.by_number.items c.args.name.now c.in-Some.number c.args.self.now.numbered (sym c.number.ensures ∙ c.in-Some.is)
    c.index.result.now c.index.ensures
