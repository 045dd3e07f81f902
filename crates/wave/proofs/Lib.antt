pub mod Laying
pub mod HotNumbers
pub mod View
pub mod Tidying
pub mod Guards
pub mod OneAnswer
