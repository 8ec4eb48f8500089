use Rattle.lexplain_lines.proofs.MoreTrees.{lowered_leaf_more, lowered_node_more}
use Rattle.lexplain_lines.proofs.lowered.take_lowered.Goals as goal
use Rattle.lexplain_lines.proofs.lowered.take_lowered.Goals.{in-Leaf, in-Node+in_ok-last_of-in-Node}

pub returns-clause-ok : goal.returns-clause-ok
returns-clause-ok c = elim c.match-line.branch [
  | in-Leaf w ↦
      let e = lowered_leaf_more c.args.trees.now.items c.push.new.self.items w.in-Leaf.terminal (cc (c.in_ok-push.ensures.items)) in
      rw w.in-Leaf.is e
  | in-Node+in_ok-last_of-in-Node w ↦
      let last = w.in_ok-last_of-in-Node.ensures.ok in
      let e = lowered_node_more c.args.trees.now.items c.match-line.trees.items c.push.new.self.items w.in-Node.nonterminal w.in-Node.production w.in-Node.children w.in_ok-last_of-in-Node.field-0 (cc (last.0)) last.1 (cc (c.in_ok-push.ensures.items)) in
      rw w.in-Node.is e
]
