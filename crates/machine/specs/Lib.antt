-- The definitions of the plain machine, then computed cases, then the laws, each file resting on those before it.
pub mod Game
pub mod Tree
pub mod Machine
pub mod Needs
pub mod Compute
pub mod Value
pub mod Numbers
pub mod Place
pub mod Descent
pub mod Climb
pub mod Rounds
