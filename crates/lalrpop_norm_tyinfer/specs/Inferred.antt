-- The table of types that an expanded grammar has.
pub use Rattle.lalrpop_norm_tyinfer_steps.specs.Inferred.{IsInferred}
