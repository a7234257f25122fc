pub mod Users
pub mod Laws
pub mod Unreferenced
pub mod ManyPlaces
pub mod MovedPlaces
