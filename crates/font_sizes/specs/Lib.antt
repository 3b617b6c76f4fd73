pub mod Factors
pub mod Laws
pub mod Scales
pub mod Worked
