pub mod StandingLaws
pub mod AheadLaws
pub mod SpeltLaws
pub mod RecordedLaws
pub mod ReadingSteps
pub mod Responses
pub mod ConnectionLaws
