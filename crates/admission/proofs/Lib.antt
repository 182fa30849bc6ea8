pub mod BucketLaws
mod MeterExamples
