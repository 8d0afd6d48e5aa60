pub mod Asking
pub mod Phases
pub mod Claims
pub mod Flying
pub mod Lasting
pub mod Moments
pub mod Rising
pub mod Turning
pub mod Waiting
pub mod Trying
pub mod Refusing
pub mod Greatest
pub mod Dueling
pub mod Stalling
pub mod Concluding
pub mod Moving
pub mod Worked
mod Words
