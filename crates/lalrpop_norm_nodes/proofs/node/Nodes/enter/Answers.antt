use Rattle.lalrpop_norm_nodes.proofs.NumberLemmas.{entered}
use Rattle.lalrpop_norm_nodes.proofs.node.Nodes.enter.Goals as goal

pub returns-clause-nodes : goal.returns-clause-nodes
returns-clause-nodes c =
    (entered c.args.self.now (record { rows = c.insert_full.new.self }) c.args.node c.in_ok-number.number c.requires.nodes c.requires.texts c.requires.fits c.requires.plain
    c.in_ok-number.ensures.entries c.in_ok-number.ensures.index).nodes

pub returns-clause-entered : goal.returns-clause-entered
returns-clause-entered c =
    (entered c.args.self.now (record { rows = c.insert_full.new.self }) c.args.node c.in_ok-number.number c.requires.nodes c.requires.texts c.requires.fits c.requires.plain
    c.in_ok-number.ensures.entries c.in_ok-number.ensures.index).entered

pub returns-clause-number : goal.returns-clause-number
returns-clause-number c =
    (entered c.args.self.now (record { rows = c.insert_full.new.self }) c.args.node c.in_ok-number.number c.requires.nodes c.requires.texts c.requires.fits c.requires.plain
    c.in_ok-number.ensures.entries c.in_ok-number.ensures.index).number
