mod IndexSteps
mod LabelLaws
mod StackLaws
mod StepLaws
