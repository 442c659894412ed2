-- what the reader of listings says of a fault
pub mod Listings
-- what a listing and its states are answered, and what is printed of them
pub mod OneCall
pub mod RunLines
pub mod Playing
-- the listing of a controller
pub mod Solved
