pub mod StepTexts
