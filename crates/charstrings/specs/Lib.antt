pub mod Numbers
pub mod Pieces
pub mod Machine
pub mod Outline
pub mod Boxes
pub mod Worked
