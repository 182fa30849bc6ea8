pub mod ReaderLaws
pub mod HeadLaws
pub mod FrontLaws
pub mod ItemLaws
pub mod LimitLaws
pub mod StandingLaws
pub mod EndLaws
mod ItemExamples
