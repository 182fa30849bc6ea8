pub mod BytesLaws
pub mod FrontsLaws
pub mod FeedingLaws
pub mod LimitLaws
pub mod EndLaws
pub mod ConnectionItems
pub mod CountLaws
