pub mod MarkLemmas
pub mod StackLemmas
pub mod StripLemmas
pub mod TableLemmas
