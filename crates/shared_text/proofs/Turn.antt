-- A walk that opens an invariant of its thread holds the thread's token from its entry to its exit. Assumes `Logic`.
--     with_turn      the contract, with the token in both clauses
--     turned         a walk of the body under that contract proves the function's own
use mathlib.Core.Path.{subst}
use seplogic.Ra.Ura.{Ura}
use mir.Syntax.{Fn, Callee}
use base.Mask.{every}
use prog.Wp.{Calls, Loops, WpFn, Tables}
use prog.Model.{Model}
use prog.Routine.{over, ◌≼⁺◌}
use types.Logic.{Logic}
use contract.Beside.{Carries}
use contract.Named.{bare_unfolds}
use contract.Running.{Running, tables_of, bare_tables}
use sound.WpLaws.{WpFn-mono}
use denote.Triple.Clauses.{Ended, Clauses, closing}
use denote.Triple.Handed.{holding, hands}
use denote.Triple.Spec.{Meets, triple_of}
use denote.Triple.Table.{entered}
use denote.Triple.Walked.{Stays, AllGo, Walks, walk_Meets}

module _ {M : Type 1} {𝓤 : Ura M} (𝓛 : Logic 𝓤) (T : Ended) (hs : Stays T.signature.params T.kept) (c : Clauses 𝓤 T) where
  open 𝓛 use {H, A}

  abbrev pub with_turn : Clauses 𝓤 T
  with_turn = holding 𝓤 T (A.tok every) c

  module _ (𝓜 : Model 𝓤 H) (𝓡 : Running 𝓤 H 𝓜) where
    carried : Carries 𝓤 H 𝓜 (A.tok every)
    carried = subst (Carries 𝓤 H 𝓜) 𝓛.turn_is 𝓡.carries

    abbrev inside : Tables 𝓤 H
    inside = tables_of 𝓤 H carried.inner (bare_tables 𝓤 H carried.inner 𝓡.allowed 𝓡.how 𝓡.env)

    pub turned : AllGo 𝓛 T.signature.lifetimes T.signature.params T.kept hs → (k : Callee) (body : Fn) → over 𝓡.env body ≼⁺ 𝓡.env k
        → ((C : Calls 𝓤 H) (Λ : Loops 𝓤 H) → Walks 𝓛 T hs (WpFn 𝓤 H C Λ body) with_turn) → Meets 𝓛 T.signature (𝓡.run (𝓡.env k)) (closing 𝓛 T c)
    unfolding tables_of
    turned go k body is walk =
        let whole_walk = walk_Meets 𝓛 T hs go with_turn (WpFn 𝓤 H inside.C inside.Λ body) (WpFn-mono 𝓤 H 𝓛.laws inside body) (walk inside.C inside.Λ) in
        let runs = bare_unfolds 𝓤 H carried.inner 𝓡.allowed 𝓡.how 𝓡.env k body is in
        hands 𝓛 T (A.tok every) c 𝓜 carried 𝓡 (𝓡.env k) (entered 𝓤 H (triple_of 𝓛 T.signature (closing 𝓛 T with_turn)) inside.C inside.Λ k body runs whole_walk)
