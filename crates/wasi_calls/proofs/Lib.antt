pub mod BufferLaws
pub mod CallLaws
pub mod HostRuns
