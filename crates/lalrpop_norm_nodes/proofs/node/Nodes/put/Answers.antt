use Rattle.lalrpop_norm_nodes.proofs.NumberLemmas.{put}
use Rattle.lalrpop_norm_nodes.proofs.node.Nodes.put.Goals as goal

pub returns-clause-nodes : goal.returns-clause-nodes
returns-clause-nodes c =
    (put c.args.self.now.rows.entries c.insert.new.self.entries c.args.node c.args.text c.len-number.result c.in_ok-insert.ensures.entries
    c.len-number.ensures.len c.requires.nodes c.requires.fits c.requires.new).rows

pub returns-clause-wholes : goal.returns-clause-wholes
returns-clause-wholes c =
    (put c.args.self.now.rows.entries c.insert.new.self.entries c.args.node c.args.text c.len-number.result c.in_ok-insert.ensures.entries
    c.len-number.ensures.len c.requires.nodes c.requires.fits c.requires.new).wholes

pub returns-clause-number : goal.returns-clause-number
returns-clause-number c =
    (put c.args.self.now.rows.entries c.insert.new.self.entries c.args.node c.args.text c.len-number.result c.in_ok-insert.ensures.entries
    c.len-number.ensures.len c.requires.nodes c.requires.fits c.requires.new).number

pub returns-clause-texts : goal.returns-clause-texts
returns-clause-texts c =
    (put c.args.self.now.rows.entries c.insert.new.self.entries c.args.node c.args.text c.len-number.result c.in_ok-insert.ensures.entries
    c.len-number.ensures.len c.requires.nodes c.requires.fits c.requires.new).values
