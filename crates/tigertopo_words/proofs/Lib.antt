-- Lemmas on words and commands.
pub mod ArgumentLemmas
pub mod BudgetLemmas
pub mod CommandsLemmas
pub mod DegreesLemmas
pub mod EscapeLemmas
pub mod FirstWord
pub mod PointLemmas
pub mod TableLemmas
pub mod WordsLemmas
