pub mod SpeakingLemmas
pub mod PlacesLemmas
pub mod SpokenLemmas
