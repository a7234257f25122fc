-- Lemmas.
mod BinarySearch
mod Pictures
