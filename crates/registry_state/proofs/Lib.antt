pub mod Tests
pub mod LookingBack
pub mod Learning
