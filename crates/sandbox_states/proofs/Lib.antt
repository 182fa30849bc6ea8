pub mod GroupLaws
pub mod PathLaws
pub mod SoundLaws
pub mod StepLaws
