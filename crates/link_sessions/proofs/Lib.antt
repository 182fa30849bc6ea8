pub mod ServingLaws
pub mod CallingLaws
pub mod AskingLaws
pub mod MeterLaws
pub mod DoingLaws
pub mod GoingLaws
pub mod RouteLaws
