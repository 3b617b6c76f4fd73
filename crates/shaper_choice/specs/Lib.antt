pub mod Choice
pub mod Promises
pub mod ScriptPlans
pub mod Scripts
pub mod Worked
