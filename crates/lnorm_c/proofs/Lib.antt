mod WordLemmas
mod CallLemmas
mod ExplainLemmas
