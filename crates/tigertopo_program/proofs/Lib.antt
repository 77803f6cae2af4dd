-- Lemmas on the program.
pub mod PrintingLemmas
pub mod PlaceLemmas
pub mod LandmarkLemmas
pub mod TellingLemmas
pub mod RecordLemmas
pub mod ConvertLemmas
pub mod CommandLemmas
pub mod DecideLemmas
pub mod ListLemmas
pub mod ExportLemmas
pub mod BorderLemmas
pub mod DrawLemmas
