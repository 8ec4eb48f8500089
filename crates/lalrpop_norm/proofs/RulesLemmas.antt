-- The nonterminals, types and start symbols of a lowered grammar that is as the passes promise.
use Rattle.std.proofs.Common.{◌≡◌, List, [], Result, Ok, Err}
use Rattle.std.specs.Prelude.{IfOk}
use Rattle.lalrpop_norm_faults.specs.declared.failure.NormFailure.{NormFailure}
use Rattle.lalrpop_norm_faults.specs.Faults.{Fault, Refuses}
use Rattle.lalrpop_norm_repr.specs.Lowered.{LoweredGrammar}
use Rattle.lalrpop_norm_lower.specs.RulesOf.{AreRulesWhere}
use Rattle.lalrpop_norm_lower.specs.declared.lowered_rules.LoweredRules.{LoweredRules}

-- what is known of the grammar implies more of it
pub rules_where : {P Q : LoweredGrammar → Type 0} → ((l : LoweredGrammar) → P l → Q l) → (r : LoweredRules) → AreRulesWhere P r → AreRulesWhere Q r
rules_where known r w = record { grammar = w.grammar; holds = known w.grammar w.holds; rules = w.rules }

-- what is answered where no fault of the list holds
pub answered : {T : Type 0} {P Q : T → Type 0} (r : Result T NormFailure) (fs : List Fault) → Refuses r fs → (fs ≡ [] → (x : T) → P x → Q x) → IfOk r P → IfOk r Q
answered (Ok x) fs none more holds = more none x holds
answered (Err e) fs none more holds = tt
