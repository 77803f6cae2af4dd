-- Lemmas on output.
pub mod CauseLemmas
pub mod PageLemmas
pub mod PrinterLemmas
pub mod StopLemmas
pub mod WritingLemmas
