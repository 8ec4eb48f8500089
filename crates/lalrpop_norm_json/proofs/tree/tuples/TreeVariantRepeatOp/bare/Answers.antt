use Rattle.std.proofs.Common.{[], ◌∷◌, codes, ap}
use Rattle.serde_json.specs.Data.{string}
use Rattle.lalrpop_norm_json.specs.Shapes.{one, short, field}
use Rattle.lalrpop_norm_json.proofs.Shaped.{no_name}
use Rattle.lalrpop_norm_json.proofs.tree.tuples.TreeVariantRepeatOp.bare.Goals as goal

pub returns-in-Star : goal.returns-in-Star
returns-in-Star c = ap string c.in-Star.is

pub returns-in-Plus : goal.returns-in-Plus
returns-in-Plus c = ap string c.in-Plus.is

pub returns-in-Question : goal.returns-in-Question
returns-in-Question c = ap string c.in-Question.is

pub returns-in_default : goal.returns-in_default
returns-in_default c =
    no_name (codes "Star" ∷ codes "Plus" ∷ codes "Question" ∷ []) ((codes "Times", field (one short)) ∷ []) c.args.name.now
    (c.in_default.not-Star, (c.in_default.not-Plus, (c.in_default.not-Question, tt)))
