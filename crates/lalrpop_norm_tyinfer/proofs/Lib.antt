mod ChosenLemmas
mod AgreementLemmas
mod RoundStarts
mod Loops
mod MeaningLemmas
mod Sources
