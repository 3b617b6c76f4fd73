-- Apple's positioning tables, read by hand.
pub mod Spacing
pub mod Points
pub mod Kerning
pub mod Machines
pub mod Lines
pub mod Tables
pub mod Driving
pub mod Older
