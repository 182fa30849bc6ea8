mod CalleeTypes
mod FirstRefusals
mod FreshFacts
mod Functions
pub mod KeyLaws
pub mod Outcomes
