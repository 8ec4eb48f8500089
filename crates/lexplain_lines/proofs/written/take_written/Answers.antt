use Rattle.lexplain_lines.proofs.MoreTrees.{written_leaf_more, written_nothing_more, written_list_more, written_node_more}
use Rattle.lexplain_lines.proofs.written.take_written.Goals as goal
use Rattle.lexplain_lines.proofs.written.take_written.Goals.{in-Nothing, in-Leaf, in-List+in_ok-last_of-in-List, in-Node+in_ok-last_of-in-Node}

pub returns-clause-ok : goal.returns-clause-ok
returns-clause-ok c = elim c.match-line.branch [
  | in-Nothing w ↦
      let e = written_nothing_more c.args.trees.now.items c.push.new.self.items (cc (c.in_ok-push.ensures.items)) in
      rw w.in-Nothing.is e
  | in-Leaf w ↦
      let e = written_leaf_more c.args.trees.now.items c.push.new.self.items w.in-Leaf.terminal (cc (c.in_ok-push.ensures.items)) in
      rw w.in-Leaf.is e
  | in-List+in_ok-last_of-in-List w ↦
      let last = w.in_ok-last_of-in-List.ensures.ok in
      let e = written_list_more c.args.trees.now.items c.match-line.trees.items c.push.new.self.items w.in-List.count w.in_ok-last_of-in-List.field-0 (cc (last.0)) last.1 (cc (c.in_ok-push.ensures.items)) in
      rw w.in-List.is e
  | in-Node+in_ok-last_of-in-Node w ↦
      let last = w.in_ok-last_of-in-Node.ensures.ok in
      let e = written_node_more c.args.trees.now.items c.match-line.trees.items c.push.new.self.items w.in-Node.rule w.in-Node.alternative w.in-Node.children w.in_ok-last_of-in-Node.field-0 (cc (last.0)) last.1 (cc (c.in_ok-push.ensures.items)) in
      rw w.in-Node.is e
]
