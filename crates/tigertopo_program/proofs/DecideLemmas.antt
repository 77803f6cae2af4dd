-- Lemmas on what is decided and made of records.
pub mod AuditLemmas
pub mod BuildLemmas
pub mod LawLemmas
pub mod CheckLemmas
