-- Contents: pairs of places, and their lines one after the other.
pub mod PairPlaces
pub mod LineSteps
