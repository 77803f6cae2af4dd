-- Lemmas on exports.
pub mod ExportLemmas
