pub mod ScriptedLemmas
