pub mod ReplyLemmas
pub mod SizeFacts
pub mod TargetFacts
pub mod HeadFacts
pub mod FrontFacts
