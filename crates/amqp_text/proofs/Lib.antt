pub mod HexadecimalLemmas
pub mod ListingLemmas
pub mod TallyLemmas
