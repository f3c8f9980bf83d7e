pub mod Parse
pub mod ParseAnswers
pub mod Room
pub mod SecondPass
