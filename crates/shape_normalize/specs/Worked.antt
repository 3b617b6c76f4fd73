pub mod Fixture
pub mod One
pub mod Two
pub mod OneWalk
pub mod Three
pub mod Hooks
pub mod Origins
pub mod Form
