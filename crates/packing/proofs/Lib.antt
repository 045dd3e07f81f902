pub mod RoundTrip
pub mod OneAnswer
pub mod Written
