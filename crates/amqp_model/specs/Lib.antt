pub mod Wire
pub mod History
pub mod End
pub mod Output
pub mod Stream
pub mod Lent
pub mod Pair
pub mod Laws
